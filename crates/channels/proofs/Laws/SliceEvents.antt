-- A slice: only the transmitter that it serves and the receiver that it goes to can open, and they open with each other.
-- Assumes nothing.
use Rattle.std.specs.Prelude.{Bool, true, false, not, List, ◌⊎◌, ◌≡◌, refl, ℕ, ◌+◌, ◌-◌, ◌<◌, eqb, ltb, Some, None, Result, Ok, Err, Option}
use Rattle.std.proofs.Common.{true≢false, inl, inr, ⊎_elim, ap, subst, sym, ◌∙◌, arith, eq-eqb, eqb-true, ltb-true, ne_eqb}
use Rattle.std.proofs.Math.Path.{subst⁻¹}
use Rattle.std.proofs.lemmas.Bool.{eqb-false}
use Rattle.bus.specs.Masterless.{without_master}
use Rattle.bus.specs.Slice.{slice_passed}
use Rattle.bus.specs.declared.slice.Given.{Given}
use Rattle.cells.specs.Fitted.{transmitter_of, receiver_of}
use Rattle.cells.specs.Layout.{count_in, holder_in, receiver_address, transmitter_address}
use Rattle.cells.specs.Ranges.{in_range}
use Rattle.cells.specs.Search.{first_secondary}
use Rattle.cells.specs.Laws.FrameLaws.{receiver_address_kept, transmitter_address_kept}
use Rattle.cells.proofs.Laws.IndexLaws.{index_fitted}
use Rattle.frames.specs.Laws.Leaves.{Anywhere, Leaves, master_within, receiver_within, stays, transmitter_within}
use Rattle.frames.specs.Laws.Masterless.{no_master, without_leaves}
use Rattle.frames.specs.Laws.Serving.{heard_on, receiver_has, receiver_for, served_on, unit_has, unit_for}
use Rattle.frames.specs.Laws.Sides.{Sides, replaced_here, replaced_other, sides_of}
use Rattle.frames.specs.Laws.Slices.{master_fitted, next_address, next_on, slice_passes}
use Rattle.laws.specs.Pick.{by, either, here, past}
use Rattle.laws.specs.Laws.Both.{both}
use Rattle.master.specs.Laws.Laws.{next_lt}
use Rattle.pcl.specs.Link.{passed_by, slice_call}
use Rattle.pcl.specs.Numbers.{address_of, slice_number, slice_value}
use Rattle.pcl.specs.Laws.Values.{slice_shows}
use Rattle.promise.specs.Kinds.{Kind, own, slice_kind}
use Rattle.promise.proofs.Laws.SliceCalls.{slice_call_lem, slice_kind_lem}
use Rattle.receiver.specs.declared.side.Receiver.{Receiver}
use Rattle.sending.specs.Choice.{destination_of}
use Rattle.silos.specs.Silo.{count}
use Rattle.slices.specs.Serials.{alone_keeps, opens, receiver_copies, sender_raised}
use Rattle.slices.specs.Slice.{exchanged, sent_alone}
use Rattle.slices.specs.Laws.Keeps.{another}
use Rattle.slices.specs.Laws.Openings.{opens_receiver, opens_sender, sender_opens}
use Rattle.slices.specs.declared.Pair.{Pair}
use Rattle.transmitter.specs.declared.side.Transmitter.{Transmitter}
use Rattle.words.specs.declared.codes.Codes.{Codes}
use Rattle.channels.specs.Statement.{Between, Joined, OpenBetween, Passed, Succeeds}
use Rattle.channels.proofs.Laws.Begins.{Apart}
use Rattle.channels.proofs.Laws.Exchanges as E
use Rattle.channels.proofs.Laws.Exchanges.{Exchanges, alone_shuts, alone_unanswered, exchanges}
use Rattle.channels.proofs.Laws.Quiet.{none_receives, none_sends, nothing, quiet, quiet_masterless, senders}
use Rattle.channels.proofs.Laws.Steps.{Counts, Goes, Keeps, Took, quiet_goes}
use Rattle.channels.proofs.Laws.Still.{Still}
use Rattle.words.specs.declared.answers.Refusal.{Refusal}

-- the same ends, said otherwise
between_so : {t u : Transmitter} {r s : Receiver} {from to sender receiver : ℕ} → t ≡ u → r ≡ s → from ≡ sender → to ≡ receiver → Between t r from to → Between u s sender receiver
between_so p q f g b =
    record {
      opened = ap (λ (x : Transmitter). x.end.opened) (sym p) ∙ b.opened;
      destination = ap (λ (x : Transmitter). x.channel.destination) (sym p) ∙ b.destination ∙ g;
      opened_there = ap (λ (x : Receiver). x.end.opened) (sym q) ∙ b.opened_there;
      sender = ap (λ (x : Receiver). x.modes.sender) (sym q) ∙ b.sender ∙ f;
    }

-- one that acts alone gets 00, and is closed after it
still_alone : (t : Transmitter) → Still t (sent_alone t).transmitter
still_alone t = (
  alone_keeps t,
  λ o.
      let same = (alone_shuts t o).1 in
      ((alone_shuts t o).0, ap (λ (x : Transmitter). x.channel.destination) same, ap (λ (x : Transmitter). x.end.block) same),
)

-- ---- T and R are found

module _ (kind : ℕ → Kind) (cells after : List ℕ) (ok : in_range cells ≡ true) (apart : Apart cells) (m from mask : ℕ) (parity : Bool)
    (number : from < 32) (mine : kind from ≡ own) where
  module _ (near : unit_for cells from < 16) (near_there : receiver_for cells (transmitter_of cells (unit_for cells from)) < 16) where
    abbrev unit : ℕ
    unit = unit_for cells from

    abbrev t : Transmitter
    t = transmitter_of cells unit

    abbrev there : ℕ
    there = receiver_for cells t

    abbrev r : Receiver
    r = receiver_of cells there

    abbrev p : Pair
    p = exchanged t r from mask parity

    abbrev s : Sides
    s = (heard_on (next_on cells m) unit there from mask parity).1

    unit_fitted : unit < count_in cells
    unit_fitted = index_fitted cells 0 from near

    there_fitted : there < count_in cells
    there_fitted = index_fitted cells 1 (destination_of t) near_there

    sends_as : transmitter_address cells unit ≡ from
    sends_as = unit_has cells apart.indexed from number near

    receives_as : receiver_address cells there ≡ destination_of t
    receives_as = receiver_has cells apart.indexed t (transmitter_within (stays ok) unit unit_fitted) near_there

    x : Exchanges t r from mask p
    x = exchanges t r (receiver_within (stays ok) there there_fitted).end.silo from mask parity

    -- after the slice
    here_now : (u : ℕ) → u ≡ unit → s.transmitter u ≡ p.transmitter
    here_now u e = ap s.transmitter e ∙ replaced_here (transmitter_of cells) unit p.transmitter

    there_now : (v : ℕ) → v ≡ there → s.receiver v ≡ p.receiver
    there_now v e = ap s.receiver e ∙ replaced_here (receiver_of cells) there p.receiver

    elsewhere : (u : ℕ) → (u ≡ unit → ⊥) → s.transmitter u ≡ transmitter_of cells u
    elsewhere = replaced_other (transmitter_of cells) unit p.transmitter

    elsewhere_there : (v : ℕ) → (v ≡ there → ⊥) → s.receiver v ≡ receiver_of cells v
    elsewhere_there = replaced_other (receiver_of cells) there p.receiver

    -- ---- the two of them

    was_joined : (t.end.opened ≡ true) × (r.end.opened ≡ true) × (r.modes.sender ≡ from) → Joined cells unit there
    was_joined was =
        record {
          opened = was.0;
          destination = here _ was.0 refl ∙ sym receives_as;
          opened_there = was.1;
          sender = was.2 ∙ sym sends_as;
        }

    joined_here : Between p.transmitter p.receiver from (receiver_address cells there)
        → Joined cells unit there ⊎ ((t.end.opened ≡ false) × (r.end.opened ≡ false))
    joined_here b =
        ⊎_elim (λ (was : (t.end.opened ≡ true) × (r.end.opened ≡ true) × (r.modes.sender ≡ from)). inl (was_joined was))
        inr (x.joined b.opened b.opened_there b.sender)

    succeeded_here : p.codes.a ≡ 3 → p.codes.b ≡ 3 → OpenBetween cells unit there
    succeeded_here a b = record { fitted = unit_fitted; fitted_there = there_fitted; joined = was_joined (x.succeeds a b) }

    -- T is open to R and to no other
    only_there : (v : ℕ) → v < count_in cells → p.transmitter.end.opened ≡ true → p.transmitter.channel.destination ≡ receiver_address cells v → v ≡ there
    only_there v fits o e = apart.receives v there fits there_fitted (sym e ∙ x.latched o ∙ sym receives_as)

    -- ---- all of them

    abbrev Was : ℕ → ℕ → Type 0
    Was u v = Joined cells u v ⊎ (((transmitter_of cells u).end.opened ≡ false) × ((receiver_of cells v).end.opened ≡ false))

    abbrev Now : ℕ → ℕ → Type 0
    Now u v = Between (s.transmitter u) (s.receiver v) (transmitter_address cells u) (receiver_address cells v)

    -- T
    joined_of_t : (v : ℕ) → v < count_in cells → Now unit v → Was unit v
    joined_of_t v fits b =
        let same = here_now unit refl in
        let o = ap (λ (y : Transmitter). y.end.opened) (sym same) ∙ b.opened in
        let e : v ≡ there = only_there v fits o (ap (λ (y : Transmitter). y.channel.destination) (sym same) ∙ b.destination) in
        subst⁻¹ (Was unit) e (joined_here (between_so same (there_now v e) sends_as (ap (receiver_address cells) e) b))

    -- another transmitter, and R
    joined_of_r : (u : ℕ) → u < count_in cells → (u ≡ unit → ⊥) → Now u there → Was u there
    joined_of_r u fits apart_from b =
        let c = between_so (elsewhere u apart_from) (there_now there refl) refl refl b in
        ⊎_elim
        (λ (was : (r.end.opened ≡ true) × (p.receiver.modes.sender ≡ r.modes.sender)). inl
        (record { opened = c.opened; destination = c.destination; opened_there = was.0; sender = sym was.1 ∙ c.sender }))
        (λ (with : p.receiver.modes.sender ≡ from). absurd (apart_from (apart.sends u unit fits unit_fitted (sym c.sender ∙ with ∙ sym sends_as))))
        (x.partner c.opened_there)

    joins_at : (u v : ℕ) → u < count_in cells → v < count_in cells → Now u v → Was u v
    joins_at u v fits fits_there b =
        by (eqb u unit)
        (λ e.
        let same = eqb-true u unit e in
        subst⁻¹ (λ (n : ℕ). Was n v) same (joined_of_t v fits_there (subst (λ (n : ℕ). Now n v) same b)))
        (λ e.
        let apart_from = eqb-false u unit e in
        by (eqb v there)
        (λ f.
        let same = eqb-true v there f in
        subst⁻¹ (Was u) same (joined_of_r u fits apart_from (subst (Now u) same b)))
        (λ f. inl (between_so (elsewhere u apart_from) (elsewhere_there v (eqb-false v there f)) refl refl b)))

    -- the counts

    abbrev Even : Transmitter → Receiver → Type 0
    Even y z = y.end.block ≡ z.end.block

    abbrev EvenBefore : ℕ → ℕ → Type 0
    EvenBefore u v = Joined cells u v → Even (transmitter_of cells u) (receiver_of cells v)

    even_so : {y u : Transmitter} {z v : Receiver} → y ≡ u → z ≡ v → Even u v → Even y z
    even_so f g e = ap (λ (n : Transmitter). n.end.block) f ∙ e ∙ ap (λ (n : Receiver). n.end.block) (sym g)

    awaited : E.Awaited t
    awaited = (transmitter_within (stays ok) unit unit_fitted).awaited

    counts_here : EvenBefore unit there → Between p.transmitter p.receiver from (receiver_address cells there) → Even p.transmitter p.receiver
    counts_here even b =
        x.counts awaited (λ o there with. even (was_joined (o, there, with))) b.opened b.opened_there b.sender

    counts_of_t : (v : ℕ) → v < count_in cells → EvenBefore unit v → Now unit v → Even (s.transmitter unit) (s.receiver v)
    counts_of_t v fits even b =
        let same = here_now unit refl in
        let o = ap (λ (y : Transmitter). y.end.opened) (sym same) ∙ b.opened in
        let e : v ≡ there = only_there v fits o (ap (λ (y : Transmitter). y.channel.destination) (sym same) ∙ b.destination) in
        even_so same (there_now v e)
        (counts_here (subst (EvenBefore unit) e even) (between_so same (there_now v e) sends_as (ap (receiver_address cells) e) b))

    -- an R that is open with another transmitter is left as it was
    counts_of_r : (u : ℕ) → u < count_in cells → (u ≡ unit → ⊥) → EvenBefore u there → Now u there → Even (s.transmitter u) (s.receiver there)
    counts_of_r u fits apart_from even b =
        let c = between_so (elsewhere u apart_from) (there_now there refl) refl refl b in
        let strange : p.receiver.modes.sender ≡ from → ⊥ = λ e. apart_from (apart.sends u unit fits unit_fitted (sym c.sender ∙ e ∙ sym sends_as)) in
        ⊎_elim
        (λ (was : (r.end.opened ≡ true) × (p.receiver.modes.sender ≡ r.modes.sender)).
        let left : p.receiver ≡ r = another t r from mask parity (both was.0 (ap not (ne_eqb r.modes.sender from (λ e. strange (was.1 ∙ e))))) in
        even_so (elsewhere u apart_from) (there_now there refl ∙ left)
        (even (record { opened = c.opened; destination = c.destination; opened_there = was.0; sender = sym was.1 ∙ c.sender })))
        (λ (with : p.receiver.modes.sender ≡ from). absurd (strange with))
        (x.partner c.opened_there)

    counts_at : (u v : ℕ) → u < count_in cells → v < count_in cells → EvenBefore u v → Now u v → Even (s.transmitter u) (s.receiver v)
    counts_at u v fits fits_there even b =
        by (eqb u unit)
        (λ e.
        let same = eqb-true u unit e in
        subst⁻¹ (λ (n : ℕ). EvenBefore n v → Now n v → Even (s.transmitter n) (s.receiver v)) same (counts_of_t v fits_there) even b)
        (λ e.
        let apart_from = eqb-false u unit e in
        by (eqb v there)
        (λ f.
        let same = eqb-true v there f in
        subst⁻¹ (λ (n : ℕ). EvenBefore u n → Now u n → Even (s.transmitter u) (s.receiver n)) same (counts_of_r u fits apart_from) even b)
        (λ f.
        let left = elsewhere u apart_from in
        let left_there = elsewhere_there v (eqb-false v there f) in
        even_so left left_there (even (between_so left left_there refl refl b))))

    -- the serials

    counts_serial : Counts t p.transmitter
    counts_serial = (
      λ none.
          by (opens t p)
          (λ e.
          let both = opens_sender t r from mask parity e in
          absurd (none both.0 both.1))
          (λ e. sender_raised t r from mask parity ∙ sym (past _ e refl)),
      λ shut o. sender_raised t r from mask parity ∙ sym (here _ (sender_opens t r from mask parity shut o) refl),
    )

    keeps_serial : Keeps r p.receiver
    keeps_serial none =
        by (opens t p)
        (λ e.
        let both = opens_receiver t r from mask parity e in
        absurd (none both.0 both.1))
        (λ e. receiver_copies t r from mask parity ∙ sym (past _ e refl))

    same_serial : t.end.opened ≡ false → p.transmitter.end.opened ≡ true → p.transmitter.end.serial ≡ p.receiver.end.serial
    same_serial shut o =
        let e = sender_opens t r from mask parity shut o in
        sender_raised t r from mask parity ∙ sym (here _ e refl) ∙ here _ e refl ∙ sym (receiver_copies t r from mask parity)

    abbrev held : Receiver → ℕ
    held y = count y.end.silo

    -- what the cells hold
    module _ (l : Leaves Anywhere cells after s) where
      sends : (k : ℕ) → transmitter_address after k ≡ transmitter_address cells k
      sends = transmitter_address_kept cells after l.kept.own

      receives : (k : ℕ) → receiver_address after k ≡ receiver_address cells k
      receives = receiver_address_kept cells after l.kept.own

      sender_now : transmitter_of after unit ≡ p.transmitter
      sender_now = l.holds.transmitter unit unit_fitted ∙ here_now unit refl

      receiver_now : receiver_of after there ≡ p.receiver
      receiver_now = l.holds.receiver there there_fitted ∙ there_now there refl

      -- what becomes of a receiver, and of none that stays as it is, becomes of R
      at_there : (P : Receiver → Receiver → Type 0) → ((y : Receiver) → P y y → ⊥) → (Q : ℕ → Type 0) → (P r p.receiver → Q there) → (v : ℕ)
          → v < count_in cells → P (receiver_of cells v) (receiver_of after v) → Q v
      at_there P never Q so v fits h =
          by (eqb v there)
          (λ e.
          let same = eqb-true v there e in
          subst⁻¹ Q same (so (subst (P r) receiver_now (subst (λ (n : ℕ). P (receiver_of cells n) (receiver_of after n)) same h))))
          (λ e. absurd (never _ (subst (P (receiver_of cells v)) (l.holds.receiver v fits ∙ elsewhere_there v (eqb-false v there e)) h)))

      -- what becomes of T, and of one that stays as it is, becomes of each transmitter; and so of R
      at_sender : (P : Transmitter → Transmitter → Type 0) → ((y : Transmitter) → P y y) → P t p.transmitter → (k : ℕ) → k < count_in cells
          → P (transmitter_of cells k) (transmitter_of after k)
      at_sender P stays_so so k fits =
          by (eqb k unit)
          (λ e. subst⁻¹ (λ (n : ℕ). P (transmitter_of cells n) (transmitter_of after n)) (eqb-true k unit e) (subst⁻¹ (P t) sender_now so))
          (λ e. subst⁻¹ (P (transmitter_of cells k)) (l.holds.transmitter k fits ∙ elsewhere k (eqb-false k unit e)) (stays_so (transmitter_of cells k)))

      at_receiver : (P : Receiver → Receiver → Type 0) → ((y : Receiver) → P y y) → P r p.receiver → (v : ℕ) → v < count_in cells
          → P (receiver_of cells v) (receiver_of after v)
      at_receiver P stays_so so v fits =
          by (eqb v there)
          (λ e. subst⁻¹ (λ (n : ℕ). P (receiver_of cells n) (receiver_of after n)) (eqb-true v there e) (subst⁻¹ (P r) receiver_now so))
          (λ e. subst⁻¹ (P (receiver_of cells v)) (l.holds.receiver v fits ∙ elsewhere_there v (eqb-false v there e)) (stays_so (receiver_of cells v)))

      -- T is open to R alone
      only_open : (u v : ℕ) → u ≡ unit → v < count_in cells → Joined after u v → v ≡ there
      only_open u v same fits j =
          let now = ap (transmitter_of after) same ∙ sender_now in
          only_there v fits (ap (λ (y : Transmitter). y.end.opened) (sym now) ∙ j.opened)
          (ap (λ (y : Transmitter). y.channel.destination) (sym now) ∙ j.destination ∙ receives v)

      took : E.Took t r from mask p → Took kind mask cells after unit there
      took y =
          let b : Between p.transmitter p.receiver from (receiver_address cells there) =
          record { opened = y.opened; destination = x.latched y.opened ∙ sym receives_as; opened_there = y.opened_there; sender = y.sender } in
          record {
            fitted = unit_fitted;
            own = ap kind sends_as ∙ mine;
            joined = between_so (sym sender_now) (sym receiver_now) (sym (sends unit ∙ sends_as)) (sym (receives there)) b;
            passed = subst⁻¹ (Passed t mask r) receiver_now y.passed;
            word = λ even. y.word awaited (λ o open_there with. even (was_joined (o, open_there, with)));
          }

      heard_goes : Goes kind mask cells after
      heard_goes =
          let h = l.holds in
          record {
            ranged = l.ranged;
            kept = l.kept;
            opens = λ k fits shut o.
                by (eqb k unit) (λ e. ap kind (ap (transmitter_address cells) (eqb-true k unit e) ∙ sends_as) ∙ mine)
                (λ e. absurd (true≢false (sym o ∙ ap (λ (y : Transmitter). y.end.opened) (h.transmitter k fits ∙ elsewhere k (eqb-false k unit e)) ∙ shut)));
            joins = λ u v fits fits_there b. joins_at u v fits fits_there (between_so (h.transmitter u fits) (h.receiver v fits_there) (sends u) (receives v) b);
            counts = λ u v fits fits_there even b.
                even_so (h.transmitter u fits) (h.receiver v fits_there)
                (counts_at u v fits fits_there even (between_so (h.transmitter u fits) (h.receiver v fits_there) (sends u) (receives v) b));
            stores =
                at_there (λ y z. held y < held z) (λ y more. omega (arith, more)) (λ v. (u : ℕ) × Took kind mask cells after u v)
                (λ more. (unit, took (x.stored more)));
            opens_there = λ v fits shut o.
                at_there (λ y z. (y.end.opened ≡ false) × (z.end.opened ≡ true)) (λ y b. true≢false (sym b.1 ∙ b.0))
                (λ v. (u : ℕ) × ((transmitter_of cells u).end.opened ≡ false) × Took kind mask cells after u v)
                (λ b.
                let y = x.opens b.0 b.1 in
                (unit, y.0, took y.1))
                v fits (shut, o);
            opens_with = λ k fits shut o.
                by (eqb k unit)
                (λ e.
                let same = eqb-true k unit e in
                let now = ap (transmitter_of after) same ∙ sender_now in
                let opened = ap (λ (y : Transmitter). y.end.opened) (sym now) ∙ o in
                let shut_here = ap (λ (n : ℕ). (transmitter_of cells n).end.opened) (sym same) ∙ shut in
                let both = opens_receiver t r from mask parity (sender_opens t r from mask parity shut_here opened) in
                (there, there_fitted, both.0, subst⁻¹ (λ (n : ℕ). Joined after n there) same (took (x.opens both.0 both.1).1).joined))
                (λ e. absurd (true≢false (sym o ∙ ap (λ (y : Transmitter). y.end.opened) (h.transmitter k fits ∙ elsewhere k (eqb-false k unit e)) ∙ shut)));
            serials = at_sender Counts (λ y. (λ none. refl, λ shut o. absurd (true≢false (sym o ∙ shut)))) counts_serial;
            serials_there = at_receiver Keeps (λ y none. refl) keeps_serial;
            copies = λ u v fits fits_there shut j.
                by (eqb u unit)
                (λ e.
                let same = eqb-true u unit e in
                by (eqb v there)
                (λ f.
                let now = ap (transmitter_of after) same ∙ sender_now in
                let opened = ap (λ (y : Transmitter). y.end.opened) (sym now) ∙ j.opened in
                let shut_here = ap (λ (n : ℕ). (transmitter_of cells n).end.opened) (sym same) ∙ shut in
                ap (λ (y : Transmitter). y.end.serial) now
                ∙ same_serial shut_here opened
                ∙ ap (λ (y : Receiver). y.end.serial) (sym (ap (receiver_of after) (eqb-true v there f) ∙ receiver_now)))
                (λ f. absurd (eqb-false v there f (only_open u v same fits_there j))))
                (λ e. absurd (true≢false (sym j.opened ∙ ap (λ (y : Transmitter). y.end.opened) (h.transmitter u fits ∙ elsewhere u (eqb-false u unit e)) ∙ shut)));
          }

  -- ---- and where one is not

  served_goes : Leaves Anywhere cells after (served_on cells (next_on cells m) from mask parity).1 → Goes kind mask cells after
  served_goes =
      let P : Codes × Sides → Type 0 = λ q. Leaves Anywhere cells after q.1 → Goes kind mask cells after in
      let unit = unit_for cells from in
      let there = receiver_for cells (transmitter_of cells unit) in
      let sides = sides_of cells in
      either P (ltb unit 16)
      (λ e. either P (ltb there 16) (λ f. heard_goes (ltb-true unit 16 e) (ltb-true there 16 f))
      (λ f l. quiet_goes kind mask (quiet l (record { sends = senders sides unit _ (still_alone (transmitter_of cells unit)); receives = none_receives sides }))))
      (λ e l. quiet_goes kind mask (quiet l (record { sends = none_sends sides; receives = none_receives sides })))

  -- A 11 and B 11
  abbrev Succeeded : Codes → Type 0
  Succeeded c = c.a ≡ 3 → c.b ≡ 3 → (u : ℕ) × (v : ℕ) × (transmitter_address cells u ≡ from) × OpenBetween cells u v

  served_succeeds : Succeeded (served_on cells (next_on cells m) from mask parity).0
  served_succeeds =
      let P : Codes × Sides → Type 0 = λ q. Succeeded q.0 in
      let unit = unit_for cells from in
      let there = receiver_for cells (transmitter_of cells unit) in
      either P (ltb unit 16)
      (λ e. either P (ltb there 16)
      (λ f a b.
      let near = ltb-true unit 16 e in
      let near_there = ltb-true there 16 f in
      (unit, there, sends_as near near_there, succeeded_here near near_there a b))
      (λ f a b. absurd (omega (arith, b, alone_unanswered (transmitter_of cells unit)))))
      (λ e a b. absurd (omega (arith, b)))

-- ---- the call

module _ (cells : List ℕ) (ok : in_range cells ≡ true) (apart : Apart cells) (mask parity : ℕ) where
  abbrev By : Result (Option Given) Refusal × List ℕ → Type 0
  By outcome = Goes (λ address. slice_kind address outcome.0) mask cells outcome.1

  abbrev SucceedsBy : Type 0
  SucceedsBy =
      Succeeds (slice_call cells mask parity).0
      → (u : ℕ) × (v : ℕ) × (transmitter_address cells u ≡ address_of (slice_value (slice_call cells mask parity).0)) × OpenBetween cells u v

  refused : ltb 1 parity ≡ true → (Err Refusal.BadMask, cells) ≡ slice_call cells mask parity
  refused many = past _ (ap not ok) (here _ many refl)

  masterless : ltb 1 parity ≡ false → eqb (holder_in cells) 0 ≡ true → passed_by (None, without_master cells) ≡ slice_call cells mask parity
  masterless few none =
      past _ (ap not ok) (past _ few (ap passed_by (sym (no_master cells mask (eqb parity 1) (eqb-true (holder_in cells) 0 none)))))

  -- with a master
  module _ (few : ltb 1 parity ≡ false) (some : eqb (holder_in cells) 0 ≡ false) where
    abbrev m : ℕ
    m = holder_in cells - 1

    master_held : holder_in cells ≡ m + 1
    master_held = omega (arith, eqb-false (holder_in cells) 0 some)

    abbrev from : ℕ
    from = next_address cells m

    number : from < 32
    number = next_lt _ (master_within (stays ok) m (master_fitted cells ok mask (eqb parity 1) m master_held))

    abbrev kind : ℕ → Kind
    kind address = slice_kind address (slice_call cells mask parity).0

    mine : kind from ≡ own
    mine = slice_kind_lem cells ok mask parity m master_held few from ∙ sym (here _ (eq-eqb from from refl) refl)

    abbrev after : List ℕ
    after = (slice_passed cells mask (eqb parity 1)).1

    abbrev given : Given
    given = record { address = from; codes = (served_on cells (next_on cells m) from mask (eqb parity 1)).0 }

    master_goes : By (slice_call cells mask parity)
    master_goes =
        subst⁻¹ (λ (outcome : Result (Option Given) Refusal × List ℕ). Goes kind mask cells outcome.1) (slice_call_lem cells ok mask parity m master_held few)
        (served_goes kind cells after ok apart m from mask (eqb parity 1) number mine (slice_passes cells ok mask (eqb parity 1) m master_held).leaves)

    master_succeeds : SucceedsBy
    master_succeeds y =
        let called : (slice_call cells mask parity).0 ≡ Ok (Some given) =
        ap (λ (outcome : Result (Option Given) Refusal × List ℕ). outcome.0) (slice_call_lem cells ok mask parity m master_held few) in
        let shows = slice_shows cells mask parity given called in
        let z = served_succeeds kind cells after ok apart m from mask (eqb parity 1) number mine (sym shows.a ∙ y.a) (sym shows.b ∙ y.b) in
        (z.0, z.1, z.2 ∙ sym shows.address, z.3)

  pub slice_goes : By (slice_call cells mask parity)
  slice_goes =
      by (ltb 1 parity) (λ many. subst By (refused many) (quiet_goes _ _ (nothing cells ok)))
      (λ few. by (eqb (holder_in cells) 0)
      (λ none.
      subst By (masterless few none)
      (quiet_goes _ _ (quiet (without_leaves cells ok) (quiet_masterless (sides_of cells) (first_secondary cells (count_in cells))))))
      (master_goes few))

  pub slice_succeeds : SucceedsBy
  slice_succeeds y =
      let number : Result (Option Given) Refusal × List ℕ → ℕ = λ outcome. slice_number outcome.0 in
      by (ltb 1 parity) (λ many. absurd (omega (arith, y.number, ap number (refused many))))
      (λ few. by (eqb (holder_in cells) 0) (λ none. absurd (omega (arith, y.number, ap number (masterless few none)))) (λ some. master_succeeds few some y))
