-- What holds after every run of calls from a fit.
-- Assumes nothing.
use Rattle.std.specs.Prelude.{Bool, true, false, not, ◌&&◌, ◌||◌, List, [], ◌∷◌, ◌≡◌, refl, ℕ, ◌+◌, ◌%◌, ◌≤◌, ◌<◌, eqb, Result, Ok, Option}
use Rattle.std.proofs.Common.{true≢false, ⊎_elim, ap, ap₂, sym, ◌∙◌, arith, eqb-true}
use Rattle.std.proofs.lemmas.Bool.{false≢true, not-true}
use Rattle.cells.specs.Layout.{count_in}
use Rattle.cells.specs.Ranges.{in_range}
use Rattle.cells.specs.Laws.FrameLaws.{receiver_address_kept, transmitter_address_kept}
use Rattle.frames.specs.Laws.Kept.{Kept, indexed_kept}
use Rattle.laws.specs.Pick.{by, either, pick}
use Rattle.laws.specs.Laws.Both.{left_of, right_of}
use Rattle.pcl.specs.Link.{slice_call}
use Rattle.pcl.specs.Numbers.{address_of, slice_number, slice_value}
use Rattle.ends.specs.Ends.{raised}
use Rattle.promise.proofs.Laws.RegisterReads.{serial_is}
use Rattle.promise.specs.Kinds.{kind_of, other, own, quiet, slice_kind}
use Rattle.promise.specs.World.{World, Event, fit, write, write_byte, read, slice, move, period, reset, level, serial, host_write, Handed, AllHanded, step}
use Rattle.channels.specs.History.{Past, fits_again, last_opened, next, opens_now, past, receiver_open, receiver_serial, sender_open, sender_serial}
use Rattle.channels.specs.Statement.{CountTogether, Joined, OnOneChannel, OpenBetween, OpenedTogether, OpensInOwnSlice, OpensTogether, OpensWithOne, SentByOne, SentFrom, SerialCounts, SerialOutlasts, SerialTogether, ShowOne, SucceedsTogether, mask_of}
use Rattle.channels.proofs.Laws.Begins.{Apart, Begins}
use Rattle.channels.proofs.Laws.Events.{begins, goes_on, steps}
use Rattle.channels.proofs.Laws.SliceEvents.{slice_succeeds}
use Rattle.channels.proofs.Laws.Steps.{GoesOn, Steps, Took}
use Rattle.words.specs.declared.answers.Refusal.{Refusal}
use Rattle.bus.specs.declared.slice.Given.{Given}

-- ---- the last opening

module _ (before after : Bool) (event last : ℕ) where
  opens_now_lem : before ≡ false → after ≡ true → last_opened before after event last ≡ event
  opens_now_lem b a = rw (b, a)

  opened_before : before ≡ true → last_opened before after event last ≡ last
  opened_before b = rw b

  not_after : last < event → last_opened before after event last ≤ event
  not_after h = either (λ (n : ℕ). n ≤ event) (not before && after) (λ e. omega arith) (λ e. omega arith)

-- addresses and the index stay
apart_kept : {cells after : List ℕ} → Kept cells after → Apart cells → Apart after
apart_kept {cells} {after} kept a =
    let t = transmitter_address_kept cells after kept.own in
    let r = receiver_address_kept cells after kept.own in
    let n = kept.count in
    record {
      sends = λ x y h l same. a.sends x y (omega arith) (omega arith) (sym (t x) ∙ same ∙ t y);
      receives = λ x y h l same. a.receives x y (omega arith) (omega arith) (sym (r x) ∙ same ∙ r y);
      indexed = indexed_kept kept a.indexed;
    }

pub record Sound (p : Past) : Type 0 where
  pub ranged : in_range p.world.cells ≡ true
  pub apart : Apart p.world.cells
  pub earlier : (k : ℕ) → p.sender k ≤ p.events
  pub together : OpenedTogether p
  pub counts : CountTogether p
  -- T and R that are open with each other have one serial
  pub serials : (u v : ℕ) → OpenBetween p.world.cells u v → sender_serial p.world u ≡ receiver_serial p.world v
  -- no two transmitters that are open opened in the same event
  pub alone : (a b : ℕ) → a < count_in p.world.cells → b < count_in p.world.cells → sender_open p.world a ≡ true
      → sender_open p.world b ≡ true → p.sender a ≡ p.sender b → a ≡ b

-- ---- an event is at most one transmitter's own slice

own_test : (refused mine : Bool) → pick refused quiet (pick mine own other) ≡ own → mine ≡ true
own_test true mine e = absurd (let z : ◌≡◌ {A = ℕ} 0 1 = cc in omega arith)
own_test false true e = refl
own_test false false e = absurd (let z : ◌≡◌ {A = ℕ} 0 1 = cc in omega arith)

own_address : (a : ℕ) (call : Result (Option Given) Refusal) → slice_kind a call ≡ own → address_of (slice_value call) ≡ a
own_address a call e =
    let number = slice_number call in
    eqb-true _ a (right_of (eqb number 0) _ (own_test (eqb number 7 || eqb number 9) _ e))

never : quiet ≡ own → ⊥
never e = let z : ◌≡◌ {A = ℕ} 0 1 = cc in omega arith

one_own : (e : Event) (w : World) (a b : ℕ) → kind_of a e w ≡ own → kind_of b e w ≡ own → a ≡ b
one_own (fit setup) w a b x y = absurd (never x)
one_own (write unit offset word) w a b x y = absurd (never x)
one_own (write_byte unit offset byte) w a b x y = absurd (never x)
one_own (read unit offset) w a b x y = absurd (never x)
one_own (slice mask parity) w a b x y =
    let call = (slice_call w.cells mask parity).0 in
    sym (own_address a call x) ∙ own_address b call y
one_own (move unit side) w a b x y = absurd (never x)
one_own (period unit) w a b x y = absurd (never x)
one_own (reset unit) w a b x y = absurd (never x)
one_own (level unit side) w a b x y = absurd (never x)
one_own (serial unit side) w a b x y = absurd (never x)
one_own (host_write unit place word) w a b x y = absurd (never x)

-- ---- one event more

module _ (e : Event) (p : Past) (s : Sound p) where
  abbrev w : World
  w = p.world

  abbrev q : Past
  q = next e p

  earlier_next : (k : ℕ) → q.sender k ≤ q.events
  earlier_next k = not_after (sender_open w k) (sender_open (step e w) k) (p.events + 1) (p.sender k) (omega (arith, s.earlier k))

  begins_sound : Begins q.world.cells → Sound q
  begins_sound b =
      record {
        ranged = b.ranged;
        apart = b.apart;
        earlier = earlier_next;
        together = λ u v here there j. absurd (true≢false (sym j.opened ∙ b.closed u here));
        counts = λ u v j. absurd (true≢false (sym j.joined.opened ∙ b.closed u j.fitted));
        serials = λ u v j. absurd (true≢false (sym j.joined.opened ∙ b.closed u j.fitted));
        alone = λ u v here there o c same. absurd (true≢false (sym o ∙ b.closed u here));
      }

  module _ (g : GoesOn e w) where
    counted : (k : ℕ) → k < count_in q.world.cells → k < count_in w.cells
    counted k h = omega (arith, g.kept.count)

    together_next : OpenedTogether q
    together_next u v here there j =
        let was = sender_open w u in
        let is = sender_open (step e w) u in
        let event = p.events + 1 in
        ⊎_elim
        (λ (before : Joined w.cells u v).
        let number = opened_before was is event (p.sender u) before.opened in
        let y = s.together u v (counted u here) (counted v there) before in
        (omega (arith, number, y.0), number ∙ y.1 ∙ sym (opened_before (receiver_open w v) (receiver_open (step e w) v) event (p.receiver v) before.opened_there)))
        (λ shut.
        let number = opens_now_lem was is event (p.sender u) shut.0 j.opened in
        (omega (arith, number), number ∙ sym (opens_now_lem (receiver_open w v) (receiver_open (step e w) v) event (p.receiver v) shut.1 j.opened_there)))
        (g.joins u v (counted u here) (counted v there) j)

    counts_next : CountTogether q
    counts_next u v j =
        let here = counted u j.fitted in
        let there = counted v j.fitted_there in
        g.counts u v here there (λ was. s.counts u v (record { fitted = here; fitted_there = there; joined = was })) j.joined

    -- what was open with each other keeps its serials, and what opens has one
    serials_next : (u v : ℕ) → OpenBetween q.world.cells u v → sender_serial q.world u ≡ receiver_serial q.world v
    serials_next u v j =
        let here = counted u j.fitted in
        let there = counted v j.fitted_there in
        ⊎_elim
        (λ (was : Joined w.cells u v).
        (g.serials u here).0 (λ shut o. true≢false (sym was.opened ∙ shut))
        ∙ s.serials u v (record { fitted = here; fitted_there = there; joined = was })
        ∙ sym (g.serials_there v there (λ shut o. true≢false (sym was.opened_there ∙ shut))))
        (λ shut. g.copies u v here there shut.0 j.joined)
        (g.joins u v here there j.joined)

    -- of two transmitters that are open, with the same number
    module _ (a b : ℕ) (here : a < count_in q.world.cells) (there : b < count_in q.world.cells) (open_a : sender_open (step e w) a ≡ true)
        (open_b : sender_open (step e w) b ≡ true) (same : q.sender a ≡ q.sender b) where
      kept_number : (k : ℕ) → sender_open w k ≡ true → q.sender k ≡ p.sender k
      kept_number k = opened_before (sender_open w k) (sender_open (step e w) k) (p.events + 1) (p.sender k)

      new_number : (k : ℕ) → sender_open w k ≡ false → sender_open (step e w) k ≡ true → q.sender k ≡ p.events + 1
      new_number k = opens_now_lem (sender_open w k) (sender_open (step e w) k) (p.events + 1) (p.sender k)

      alone_next : a ≡ b
      alone_next =
          by (sender_open w a)
          (λ was_a. by (sender_open w b)
          (λ was_b. s.alone a b (counted a here) (counted b there) was_a was_b (sym (kept_number a was_a) ∙ same ∙ kept_number b was_b))
          (λ shut_b. absurd (omega (arith, kept_number a was_a, same, new_number b shut_b open_b, s.earlier a))))
          (λ shut_a. by (sender_open w b) (λ was_b. absurd (omega (arith, kept_number b was_b, same, new_number a shut_a open_a, s.earlier b)))
          (λ shut_b. s.apart.sends a b (counted a here) (counted b there)
          (one_own e w _ _ (g.opens a (counted a here) shut_a open_a) (g.opens b (counted b there) shut_b open_b))))

    goes_sound : Sound q
    goes_sound =
        record {
          ranged = g.ranged;
          apart = apart_kept g.kept s.apart;
          earlier = earlier_next;
          together = together_next;
          counts = counts_next;
          serials = serials_next;
          alone = alone_next;
        }

  pub next_sound : Steps e w → Sound q
  next_sound steps = ⊎_elim goes_sound begins_sound steps

-- ---- and any number of them

pub past_sound : (es : List Event) → AllHanded es → (p : Past) → Sound p → Sound (past es p)
past_sound [] h p s = s
past_sound (e ∷ es) h p s = past_sound es h.1 (next e p) (next_sound e p s (steps e p.world s.ranged s.apart h.0))

-- a transmitter that is open, and opened before the events, was open all the time
pub open_since : (es : List Event) → AllHanded es → (p : Past) → Sound p → (k : ℕ) → k < count_in (past es p).world.cells
    → sender_open (past es p).world k ≡ true → (past es p).sender k ≤ p.events
    → (k < count_in p.world.cells) × (sender_open p.world k ≡ true) × (p.sender k ≡ (past es p).sender k)
open_since [] h p s k there open_now before = (there, open_now, refl)
open_since (e ∷ es) h p s k there open_now before =
    let took = steps e p.world s.ranged s.apart h.0 in
    let later = open_since es h.1 (next e p) (next_sound e p s took) k there open_now (omega arith) in
    let was = sender_open p.world k in
    let is = sender_open (step e p.world) k in
    by was
    (λ o. (
      ⊎_elim (λ (g : GoesOn e p.world). omega (arith, g.kept.count, later.0))
          (λ (b : Begins (step e p.world).cells). absurd (true≢false (sym later.1 ∙ b.closed k later.0))) took,
      o,
      sym (opened_before was is (p.events + 1) (p.sender k) o) ∙ later.2,
    ))
    (λ c. absurd (omega (arith, opens_now_lem was is (p.events + 1) (p.sender k) c later.1, later.2)))

pub events_grow : (es : List Event) (p : Past) → p.events ≤ (past es p).events
events_grow [] p = omega arith
events_grow (e ∷ es) p = omega (arith, events_grow es (next e p))

-- so were the two ends of a channel
pub joined_since : (es : List Event) → AllHanded es → (p : Past) → Sound p → (u v : ℕ) → OpenBetween (past es p).world.cells u v
    → (past es p).sender u ≤ p.events → OpenBetween p.world.cells u v
joined_since [] h p s u v b before = b
joined_since (e ∷ es) h p s u v b before =
    let took = steps e p.world s.ranged s.apart h.0 in
    let sound = next_sound e p s took in
    let later = open_since es h.1 (next e p) sound u b.fitted b.joined.opened (omega arith) in
    let y = joined_since es h.1 (next e p) sound u v b (omega arith) in
    ⊎_elim
    (λ (g : GoesOn e p.world).
    let here : u < count_in p.world.cells = omega (arith, g.kept.count, y.fitted) in
    let there : v < count_in p.world.cells = omega (arith, g.kept.count, y.fitted_there) in
    record {
      fitted = here;
      fitted_there = there;
      joined =
          ⊎_elim (λ (was : Joined p.world.cells u v). was)
          (λ shut. absurd (omega (arith, opens_now_lem (sender_open p.world u) (sender_open (step e p.world) u) (p.events + 1) (p.sender u) shut.0 later.1, later.2)))
          (g.joins u v here there y.joined);
    })
    (λ (b : Begins (step e p.world).cells). absurd (true≢false (sym later.1 ∙ b.closed u later.0)))
    took

-- ---- the serials of a channel

-- two sides of fitted units that have one serial show it
show_one : (w : World) → in_range w.cells ≡ true → (u v : ℕ) → u < count_in w.cells → v < count_in w.cells → sender_serial w u ≡ receiver_serial w v
    → ShowOne w u v
show_one w ok u v fits fits_there same =
    (receiver_serial w v, serial_is w ok u fits 0 (receiver_serial w v) (ap Ok same), serial_is w ok v fits_there 1 (receiver_serial w v) refl)

pub shown_together : (p : Past) → Sound p → SerialTogether p
shown_together p s u v b = show_one p.world s.ranged u v b.fitted b.fitted_there (s.serials u v b)

-- ---- (2)

module _ (p : Past) (s : Sound p) (e : Event) (handed : Handed e) where
  took : Steps e p.world
  took = steps e p.world s.ranged s.apart handed

  sent_from : GoesOn e p.world → (v : ℕ) → v < count_in (step e p.world).cells → (u : ℕ)
      → Took (λ address. kind_of address e p.world) (mask_of e) p.world.cells (step e p.world).cells u v → SentFrom e p v u
  sent_from g v there u y =
      let here : u < count_in (step e p.world).cells = omega (arith, g.kept.count, y.fitted) in
      record {
        channel = record { fitted = here; own = y.own; joined = y.joined; together = ((next_sound e p s took).together u v here there y.joined).1 };
        passed = y.passed;
        word = y.word (λ was. s.counts u v (record { fitted = y.fitted; fitted_there = omega (arith, g.kept.count); joined = was }));
      }

pub stored_from : (p : Past) → Sound p → SentByOne p
stored_from p s e handed v there more =
    ⊎_elim
    (λ (g : GoesOn e p.world).
    let from = g.stores v (omega (arith, g.kept.count)) more in
    (from.0, sent_from p s e handed g v there from.0 from.1))
    (λ (b : Begins (step e p.world).cells). absurd (omega (arith, b.empty v there)))
    (took p s e handed)

pub opened_by : (p : Past) → Sound p → OpensTogether p
opened_by p s e handed v there shut open_now =
    ⊎_elim
    (λ (g : GoesOn e p.world).
    let from = g.opens_there v (omega (arith, g.kept.count)) shut open_now in
    let sent = sent_from p s e handed g v there from.0 from.2 in
    let b : OpenBetween (next e p).world.cells from.0 v = record { fitted = sent.channel.fitted; fitted_there = there; joined = sent.channel.joined } in
    (from.0, from.1, sent, shown_together (next e p) (next_sound e p s (took p s e handed)) from.0 v b))
    (λ (b : Begins (step e p.world).cells). absurd (true≢false (sym open_now ∙ b.closed_there v there)))
    (took p s e handed)

pub same_sender : (p : Past) → Sound p → OnOneChannel p
same_sender p s e handed es all later last v a b x y same =
    let q = next e p in
    let sound = next_sound e p s (took p s e handed) in
    let r = past es q in
    let number : (next later r).sender b ≡ q.sender a = y.together ∙ same ∙ sym x.together in
    let at_r = open_since (later ∷ []) (last, tt) r (past_sound es all q sound) b y.fitted y.joined.opened (omega (arith, number, sound.earlier a, events_grow es q)) in
    let at_q = open_since es all q sound b at_r.0 at_r.1 (omega (arith, number, at_r.2, sound.earlier a)) in
    (sound.alone a b x.fitted at_q.0 x.joined.opened at_q.1 (sym (at_q.2 ∙ at_r.2 ∙ number)), number)

-- ---- the serials

-- a number by its three cases
one_of_three : (again opens : Bool) (now up before : ℕ) → (again ≡ true → now ≡ 0) → (again ≡ false → opens ≡ true → now ≡ up)
    → (again ≡ false → opens ≡ false → now ≡ before) → now ≡ pick again 0 (pick opens up before)
one_of_three true opens now up before a b c = a refl
one_of_three false true now up before a b c = b refl refl
one_of_three false false now up before a b c = c refl refl

module _ (p : Past) (s : Sound p) (e : Event) (handed : Handed e) where
  abbrev goes : fits_again e p.world ≡ false → GoesOn e p.world
  goes going = goes_on e p.world s.ranged s.apart handed going

  fitted_before : (going : fits_again e p.world ≡ false) (k : ℕ) → k < count_in (next e p).world.cells → k < count_in p.world.cells
  fitted_before going k there = omega (arith, (goes going).kept.count)

  module _ (k : ℕ) (there : k < count_in (next e p).world.cells) where
    abbrev was : Bool
    was = sender_open p.world k

    abbrev is : Bool
    is = sender_open (next e p).world k

    raised_so : sender_serial (next e p).world k
        ≡ pick (fits_again e p.world) 0 (pick (opens_now was is) (raised (sender_serial p.world k)) (sender_serial p.world k))
    raised_so =
        one_of_three (fits_again e p.world) (not was && is) (sender_serial (next e p).world k) (raised (sender_serial p.world k)) (sender_serial p.world k)
        (λ again. (begins e p.world again).serials k there)
        (λ going opens. ((goes going).serials k (fitted_before going k there)).1 (not-true was (left_of (not was) is opens)) (right_of (not was) is opens))
        (λ going stays. ((goes going).serials k (fitted_before going k there)).0 (λ shut o. true≢false (sym (ap₂ opens_now shut o) ∙ stays)))

    pub kept_so : opens_now (receiver_open p.world k) (receiver_open (next e p).world k) ≡ false
        → receiver_serial (next e p).world k ≡ pick (fits_again e p.world) 0 (receiver_serial p.world k)
    kept_so none =
        one_of_three (fits_again e p.world) false (receiver_serial (next e p).world k) 0 (receiver_serial p.world k)
        (λ again. (begins e p.world again).serials_there k there) (λ going never. absurd (false≢true never))
        (λ going e. (goes going).serials_there k (fitted_before going k there) (λ shut o. true≢false (sym (ap₂ opens_now shut o) ∙ none)))

-- so T's serial stays the count of its openings
abbrev pub Counted : Past → Type 0
Counted p = (k : ℕ) → k < count_in p.world.cells → sender_serial p.world k ≡ p.openings k % 65536

same_count : (again opens : Bool) (n m : ℕ) → (again ≡ false → n ≡ m % 65536)
    → pick again 0 (pick opens (raised n) n) ≡ pick again 0 (pick opens (m + 1) m) % 65536
same_count true opens n m h = omega arith
same_count false true n m h = omega (arith, h refl)
same_count false false n m h = h refl

pub past_counted : (es : List Event) → AllHanded es → (p : Past) → Sound p → Counted p → Counted (past es p)
past_counted [] h p s c = c
past_counted (e ∷ es) h p s c =
    past_counted es h.1 (next e p) (next_sound e p s (took p s e h.0))
    (λ k there. raised_so p s e h.0 k there
    ∙ same_count (fits_again e p.world) (opens_now (sender_open p.world k) (sender_open (next e p).world k)) (sender_serial p.world k) (p.openings k)
    (λ going. c k (fitted_before p s e h.0 going k there)))

pub shown_count : (p : Past) → Sound p → Counted p → SerialCounts p
shown_count p s c k there = serial_is p.world s.ranged k there 0 (p.openings k % 65536) (ap Ok (c k there))

-- neither end opens where both are open
pub outlasts : (p : Past) → Sound p → SerialOutlasts p
outlasts p s e handed going u v b =
    let g = goes_on e p.world s.ranged s.apart handed going in
    let units = g.kept.count in
    show_one (next e p).world g.ranged u v (omega (arith, units, b.fitted)) (omega (arith, units, b.fitted_there))
    ((g.serials u b.fitted).0 (λ shut o. true≢false (sym b.joined.opened ∙ shut))
    ∙ s.serials u v b
    ∙ sym (g.serials_there v b.fitted_there (λ shut o. true≢false (sym b.joined.opened_there ∙ shut))))

pub opens_with : (p : Past) → Sound p → OpensWithOne p
opens_with p s e handed k there shut open_now =
    ⊎_elim
    (λ (g : GoesOn e p.world).
    let y = g.opens_with k (omega (arith, g.kept.count)) shut open_now in
    (y.0, y.2, record { fitted = there; fitted_there = omega (arith, g.kept.count, y.1); joined = y.3 }))
    (λ (b : Begins (step e p.world).cells). absurd (true≢false (sym open_now ∙ b.closed k there)))
    (took p s e handed)

-- ---- success

pub succeeded_between : (p : Past) → Sound p → SucceedsTogether p
succeeded_between p s mask parity y =
    let z = slice_succeeds p.world.cells s.ranged s.apart mask parity y in
    let b = z.3 in (
      z.0,
      z.1,
      record {
        address = z.2;
        between = b;
        together = (s.together z.0 z.1 b.fitted b.fitted_there b.joined).1;
        serial = outlasts p s (slice mask parity) tt refl z.0 z.1 b;
      },
    )

pub own_opening : (p : Past) → Sound p → OpensInOwnSlice p
own_opening p s e handed k there shut open_now =
    ⊎_elim (λ (g : GoesOn e p.world). g.opens k (omega (arith, g.kept.count)) shut open_now)
    (λ (b : Begins (step e p.world).cells). absurd (true≢false (sym open_now ∙ b.closed k there)))
    (took p s e handed)
