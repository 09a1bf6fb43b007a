-- What an opening says of its parties: the slice call that is answered 0 with B 11 shows that there is a master, and that the address it
-- gives is T's, whose destination is R's.
-- Assumes nothing.
use Rattle.std.specs.Prelude.{true, false, not, List, ◌≡◌, refl, ℕ, ◌+◌, ◌-◌, ◌<◌, ltb, Option, Some, None, Result, Ok, Err}
use Rattle.std.proofs.Common.{ap, subst, sym, ◌∙◌, arith, eq-eqb, ltb-true}
use Rattle.std.proofs.Math.Path.{subst⁻¹}
use Rattle.bus.specs.Masterless.{without_master}
use Rattle.bus.specs.declared.slice.Given.{Given}
use Rattle.cells.specs.Fitted.{transmitter_of, receiver_of}
use Rattle.cells.specs.Layout.{count_in, holder_in, transmitter_address}
use Rattle.cells.specs.Ranges.{in_range}
use Rattle.cells.specs.Index.{Indexed, receiver_with}
use Rattle.cells.proofs.Laws.IndexLaws.{index_fitted}
use Rattle.cells.specs.Search.{first_receiver, first_transmitter}
use Rattle.frames.specs.Laws.Leaves.{master_within, stays, transmitter_within}
use Rattle.frames.specs.Laws.Serving.{receiver_is, receiver_for, served_on, unit_has, unit_is, unit_for}
use Rattle.frames.specs.Laws.Sides.{Sides}
use Rattle.frames.specs.Laws.Slices.{master_fitted, next_address, next_on}
use Rattle.laws.specs.Pick.{by, either, here, past}
use Rattle.master.specs.Laws.Laws.{next_lt}
use Rattle.pcl.specs.Link.{passed_by, slice_call}
use Rattle.pcl.specs.Numbers.{address_of, slice_number, slice_value}
use Rattle.pcl.specs.Laws.Values as Values
use Rattle.sending.specs.Choice.{acts_on, chosen, destination_of}
use Rattle.slices.specs.Slice.{exchanged, sent_alone}
use Rattle.slices.specs.declared.Alone.{Alone}
use Rattle.transmitter.specs.declared.side.Transmitter.{Transmitter}
use Rattle.words.specs.declared.codes.Codes.{Codes}
use Rattle.promise.proofs.Laws.SliceCalls.{slice_call_lem, slot_in}
use Rattle.promise.specs.Opening.{AtOpening, Opening, Parties, parties_of, undamaged}
use Rattle.promise.specs.World.{World}
use Rattle.words.specs.declared.answers.Refusal.{Refusal}

-- all that the proof takes from an opening
pub record Opens (p : Parties) (w : World) : Type 0 where
  pub ranged : in_range w.cells ≡ true
  pub indexed : Indexed w.cells
  pub sender_fitted : p.sender < count_in w.cells
  pub receiver_fitted : p.receiver < count_in w.cells
  pub mastered : holder_in w.cells ≡ p.master + 1
  -- the slice's address is T's, and T and R are those found
  pub given : next_address w.cells p.master ≡ transmitter_address w.cells p.sender
  pub sends : unit_for w.cells (transmitter_address w.cells p.sender) ≡ p.sender
  pub receives : receiver_with w.cells (transmitter_of w.cells p.sender).modes.destination ≡ p.receiver
  -- "answered 11"
  pub answered : (exchanged (transmitter_of w.cells p.sender) (receiver_of w.cells p.receiver) (transmitter_address w.cells p.sender) 0 false).codes.b ≡ 3
  pub conditions : AtOpening p w

-- ---- B 11 comes from a receiver

alone_silent : (t : Transmitter) → (sent_alone t).codes.b ≡ 3 → ⊥
alone_silent t = either (λ (a : Alone). a.codes.b ≡ 3 → ⊥) (acts_on (chosen t)) (λ e b. omega arith) (λ e b. omega arith)

module _ (cells : List ℕ) (s : Sides) (from : ℕ) where
  abbrev unit : ℕ
  unit = unit_for cells from

  abbrev other : ℕ
  other = receiver_for cells (s.transmitter unit)

  abbrev Heard : Type 0
  Heard = (unit < 16) × (other < 16) × ((exchanged (s.transmitter unit) (s.receiver other) from 0 false).codes.b ≡ 3)

  heard_by : (served_on cells s from 0 false).0.b ≡ 3 → Heard
  heard_by =
      let P : Codes × Sides → Type 0 = λ q. q.0.b ≡ 3 → Heard in
      either P (ltb unit 16)
      (λ found. either P (ltb other 16) (λ near b. (ltb-true unit 16 found, ltb-true other 16 near, b)) (λ none b. absurd (alone_silent (s.transmitter unit) b)))
      (λ none b. absurd (omega arith))

-- ---- a slice call that is answered 0 has a state in range, and a master

module _ (cells : List ℕ) (done : slice_number (slice_call cells 0 0).0 ≡ 0) where
  never : {r : Result (Option Given) Refusal × List ℕ} → r ≡ slice_call cells 0 0 → (slice_number r.0 ≡ 0 → ⊥) → ⊥
  never e nonzero = nonzero (ap (λ (c : Result (Option Given) Refusal × List ℕ). slice_number c.0) e ∙ done)

  ranged : in_range cells ≡ true
  ranged = by (in_range cells) (λ e. e) (λ out. absurd (never {r = (Err Refusal.BadState, cells)} (here _ (ap not out) refl) (λ e. omega arith)))

  held : holder_in cells ≡ (holder_in cells - 1) + 1
  held =
      let some : holder_in cells ≡ 0 → ⊥ =
      λ none. never {r = (Ok None, without_master cells)}
      (past _ (ap not ranged) (past (Err Refusal.BadMask, cells) refl (ap passed_by (here _ (eq-eqb (holder_in cells) 0 none) refl)))) (λ e. omega arith) in
      omega (arith, some)

-- ---- the opening

module _ (w : World) (ok : in_range w.cells ≡ true) (indexed : Indexed w.cells) (m from : ℕ) (mastered : holder_in w.cells ≡ m + 1) (same : next_address w.cells m ≡ from)
    (b : (served_on w.cells (next_on w.cells m) from 0 false).0.b ≡ 3) where
  abbrev cells : List ℕ
  cells = w.cells

  abbrev p : Parties
  p =
      let sender = first_transmitter cells (count_in cells) from in
      record { sender = sender; receiver = first_receiver cells (count_in cells) (destination_of (transmitter_of cells sender)); master = m }

  found : AtOpening p w → Opens p w
  found c =
      let (near, near_there, answered) = heard_by cells (next_on cells m) from b in
      let number : from < 32 = subst (λ (a : ℕ). a < 32) same (next_lt _ (master_within (stays ok) m (master_fitted cells ok 0 false m mastered))) in
      let e : unit_for cells from ≡ p.sender = unit_is cells indexed from number in
      let fitted : p.sender < count_in cells = subst (λ (u : ℕ). u < count_in cells) e (index_fitted cells 0 from near) in
      let t = transmitter_of cells p.sender in
      let f : receiver_for cells t ≡ p.receiver = receiver_is cells indexed t (transmitter_within (stays ok) p.sender fitted) in
      let has : transmitter_address cells p.sender ≡ from = subst (λ (u : ℕ). transmitter_address cells u ≡ from) e (unit_has cells indexed from number near) in
      record {
        ranged = ok;
        indexed = indexed;
        sender_fitted = fitted;
        receiver_fitted =
            subst (λ (u : ℕ). u < count_in cells) f
            (index_fitted cells 1 (destination_of t) (subst (λ (u : ℕ). receiver_for cells (transmitter_of cells u) < 16) e near_there));
        mastered = mastered;
        given = same ∙ sym has;
        sends = ap (unit_for cells) has ∙ e;
        receives = ap (receiver_with cells) (past _ c.transmitter_closed refl) ∙ f;
        answered =
            subst⁻¹ (λ (a : ℕ). (exchanged t (receiver_of cells p.receiver) a 0 false).codes.b ≡ 3) has
            (subst (λ (v : ℕ). (exchanged t (receiver_of cells v) from 0 false).codes.b ≡ 3) f
            (subst (λ (u : ℕ). (exchanged (transmitter_of cells u) (receiver_of cells (receiver_for cells (transmitter_of cells u))) from 0 false).codes.b ≡ 3) e answered));
        conditions = c;
      }

abbrev slot_is : Result (Option Given) Refusal → Option Given
slot_is (Ok s) = s
slot_is (Err refusal) = None

abbrev address_given : Option Given → ℕ
address_given None = 0
address_given (Some g) = g.address

abbrev answer_given : Option Given → ℕ
answer_given None = 0
answer_given (Some g) = g.codes.b

pub opens : (w : World) → Opening w → Opens (parties_of w) w
opens w o =
    let cells = w.cells in
    let m = holder_in cells - 1 in
    let from = address_of (slice_value (undamaged w)) in
    let ok = ranged cells o.answered in
    let mastered = held cells o.answered in
    let (g, is) : (g : Given) × (undamaged w ≡ Ok (Some g)) = Values.given_by (undamaged w) o.answered in
    let shows = Values.slice_shows cells 0 0 g is in
    let slot : slot_in cells 0 false m ≡ Some g =
    ap (λ (r : Result (Option Given) Refusal × List ℕ). slot_is r.0) (sym (slice_call_lem cells ok 0 0 m mastered refl)) ∙ ap slot_is is in
    let same : next_address cells m ≡ from = ap address_given slot ∙ sym shows.address in
    found w ok o.indexed m from mastered same
    (subst (λ (a : ℕ). (served_on cells (next_on cells m) a 0 false).0.b ≡ 3) same (ap answer_given slot ∙ sym shows.b ∙ o.acknowledged))
    o.conditions
