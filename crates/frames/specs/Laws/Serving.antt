-- The slice of an address: it is of the transmitter and the receiver found, and every other side is as it was.
-- Assumes nothing.
use Rattle.std.specs.Prelude.{Bool, false, List, ◌≡◌, refl, ℕ, ◌<◌, ltb}
use Rattle.std.proofs.Common.{ap, ◌∙◌, arith, ltb-true}
use Rattle.std.proofs.Math.Path.{subst⁻¹}
use Rattle.answering.specs.Choice.{open_with_another}
use Rattle.bus.specs.Slice as B
use Rattle.bus.specs.declared.slice.Given.{Given}
use Rattle.cells.specs.Fitted.{transmitter_of}
use Rattle.cells.specs.Index.{Indexed, transmitter_with, receiver_with}
use Rattle.cells.proofs.Laws.IndexLaws.{index_fitted, receives_as, sends_as, with_kept}
use Rattle.cells.specs.Layout.{count_in, receiver_address, transmitter_address}
use Rattle.cells.specs.Search.{first_transmitter, first_receiver}
use Rattle.laws.specs.Pick.{pick, either}
use Rattle.receiver.specs.declared.side.Receiver.{Receiver}
use Rattle.sending.specs.Choice.{acts_on, chosen, destination_of}
use Rattle.slices.specs.Laws.Keeps.{idle_pair, idle_alone, as_alone, within_transmitter, within_receiver, within_alone}
use Rattle.slices.specs.Slice.{exchanged, sent_alone}
use Rattle.slices.specs.declared.Alone.{Alone}
use Rattle.slices.specs.declared.Pair.{Pair}
use Rattle.transmitter.specs.Side as T
use Rattle.transmitter.specs.declared.side.Transmitter.{Transmitter}
use Rattle.words.specs.Codes.{no_codes}
use Rattle.words.specs.declared.codes.Codes.{Codes}
use Rattle.frames.specs.Laws.Leaves.{Leaves, Anywhere, transmitter_within, receiver_within, alike}
use Rattle.frames.specs.Laws.Sides.{Sides, with_transmitter, with_receiver}
use Rattle.frames.specs.Laws.Stores.{transmitter_stored, receiver_stored, transmitter_left, receiver_left}
use Rattle.frames.specs.Laws.Kept.{Kept}

-- ---- the units found, by the addresses in the cells: the same after as before where these are kept

abbrev pub unit_for : List ℕ → ℕ → ℕ
unit_for cells from = transmitter_with cells from

abbrev pub receiver_for : List ℕ → Transmitter → ℕ
receiver_for cells t = receiver_with cells (destination_of t)

module _ {cells after : List ℕ} (kept : Kept cells after) where
  pub unit_for_kept : (from : ℕ) → unit_for after from ≡ unit_for cells from
  unit_for_kept from = with_kept cells after kept.index kept.count 0 from (omega arith)

  pub receiver_for_kept : (t : Transmitter) → receiver_for after t ≡ receiver_for cells t
  receiver_for_kept t = with_kept cells after kept.index kept.count 1 (destination_of t) (omega arith)

-- what a transmitter addresses has 5 bits
destination_lt : (t : Transmitter) → T.Within t → destination_of t < 32
destination_lt t h = either (λ (n : ℕ). n < 32) t.end.opened (λ o. h.latched) (λ s. h.destination)

-- where the index says what the look-through says, they are those that the look-through finds, and have the address
module _ (cells : List ℕ) (indexed : Indexed cells) where
  pub unit_is : (from : ℕ) → from < 32 → unit_for cells from ≡ first_transmitter cells (count_in cells) from
  unit_is = indexed.transmitter

  pub unit_has : (from : ℕ) → from < 32 → unit_for cells from < 16 → transmitter_address cells (unit_for cells from) ≡ from
  unit_has from number = sends_as cells indexed from number

  module _ (t : Transmitter) (h : T.Within t) where
    pub receiver_is : receiver_for cells t ≡ first_receiver cells (count_in cells) (destination_of t)
    receiver_is = indexed.receiver (destination_of t) (destination_lt t h)

    pub receiver_has : receiver_for cells t < 16 → receiver_address cells (receiver_for cells t) ≡ destination_of t
    receiver_has = receives_as cells indexed (destination_of t) (destination_lt t h)

-- ---- a slice on the sides, as `bus` has it on the cells

abbrev pub pair_on : Sides → ℕ → ℕ → Pair → Codes × Sides
pair_on s unit other p = (p.codes, with_receiver (with_transmitter s unit p.transmitter) other p.receiver)

abbrev pub heard_on : Sides → ℕ → ℕ → ℕ → ℕ → Bool → Codes × Sides
heard_on s unit other from mask parity = pair_on s unit other (exchanged (s.transmitter unit) (s.receiver other) from mask parity)

abbrev pub alone_on : Sides → ℕ → Alone → Codes × Sides
alone_on s unit a = (a.codes, with_transmitter s unit a.transmitter)

abbrev pub unheard_on : Sides → ℕ → Codes × Sides
unheard_on s unit = alone_on s unit (sent_alone (s.transmitter unit))

abbrev pub slice_by : Sides → ℕ → ℕ → ℕ → ℕ → Bool → Codes × Sides
slice_by s unit other from mask parity = pick (ltb other 16) (heard_on s unit other from mask parity) (unheard_on s unit)

abbrev pub slice_on : List ℕ → Sides → ℕ → ℕ → ℕ → Bool → Codes × Sides
slice_on cells s unit from mask parity = slice_by s unit (receiver_for cells (s.transmitter unit)) from mask parity

abbrev pub served_by : List ℕ → Sides → ℕ → ℕ → ℕ → Bool → Codes × Sides
served_by cells s unit from mask parity = pick (ltb unit 16) (slice_on cells s unit from mask parity) (no_codes, s)

abbrev pub served_on : List ℕ → Sides → ℕ → ℕ → Bool → Codes × Sides
served_on cells s from mask parity = served_by cells s (unit_for cells from) from mask parity

-- what holds of the sides in each case
module _ (cells : List ℕ) (s : Sides) (from mask : ℕ) (parity : Bool) (P : Sides → Type 0) where
  pub in_each : P s → (unit_for cells from < 16 → P (unheard_on s (unit_for cells from)).1)
      → (unit_for cells from < 16 → P (heard_on s (unit_for cells from) (receiver_for cells (s.transmitter (unit_for cells from))) from mask parity).1)
      → P (served_on cells s from mask parity).1
  in_each idle alone heard =
      let unit = unit_for cells from in
      either (λ (q : Codes × Sides). P q.1) (ltb unit 16)
      (λ e. either (λ (q : Codes × Sides). P q.1) (ltb (receiver_for cells (s.transmitter unit)) 16) (λ near. heard (ltb-true unit 16 e))
      (λ none. alone (ltb-true unit 16 e))) (λ e. idle)

-- ---- the answer is the address and those codes, and the cells hold those sides

pub record Serves (cells : List ℕ) (p : Given × List ℕ) (from : ℕ) (q : Codes × Sides) : Type 0 where
  pub answer : p.0 ≡ record { address = from; codes = q.0 }
  pub leaves : Leaves Anywhere cells p.1 q.1

module _ {cells middle : List ℕ} {s : Sides} (l : Leaves Anywhere cells middle s) (from : ℕ) (address : from < 32) (mask : ℕ) (parity : Bool) where
  module _ (unit : ℕ) (fits : unit < count_in cells) where
    same : transmitter_of middle unit ≡ s.transmitter unit
    same = l.holds.transmitter unit fits

    unheard : Serves cells (B.given from (B.unheard middle unit)) from (unheard_on s unit)
    unheard =
        let t = within_alone (s.transmitter unit) (transmitter_within l unit fits) in
        subst⁻¹ (λ (x : Transmitter). Serves cells (B.given from (B.put_alone middle unit (sent_alone x))) from (unheard_on s unit)) same
        (record { answer = refl; leaves = transmitter_stored l unit fits tt (sent_alone (s.transmitter unit)).transmitter t })

    heard : (other : ℕ) → other < count_in cells → Serves cells (B.given from (B.heard_by middle unit other from mask parity)) from (heard_on s unit other from mask parity)
    heard other there =
        let t = s.transmitter unit in
        let r = s.receiver other in
        let p = exchanged t r from mask parity in
        let Q : Codes × List ℕ → Type 0 = λ x. Serves cells (B.given from x) from (heard_on s unit other from mask parity) in
        subst⁻¹ (λ (x : Receiver). Q (pick (open_with_another x from) (B.unheard middle unit) (B.put_pair middle unit other (exchanged (transmitter_of middle unit) x from mask parity))))
        (l.holds.receiver other there)
        (either Q (open_with_another r from)
        (λ another.
        let alone = unheard in
        subst⁻¹ (λ (x : Pair). Serves cells (B.given from (B.unheard middle unit)) from (pair_on s unit other x)) (as_alone t r from mask parity another)
        (record { answer = alone.answer; leaves = receiver_left alone.leaves other there r refl }))
        (λ e.
        subst⁻¹ (λ (x : Transmitter). Q (B.put_pair middle unit other (exchanged x r from mask parity))) same
        (record {
          answer = refl;
          leaves =
              receiver_stored (transmitter_stored l unit fits tt p.transmitter (within_transmitter t r from mask parity (transmitter_within l unit fits))) other there tt
              p.receiver (within_receiver t r from mask parity (receiver_within l other there) address);
        })))

    -- one that does not act: nothing is put back
    idle : (other : ℕ) → (other < 16 → other < count_in cells) → acts_on (chosen (s.transmitter unit)) ≡ false
        → Serves cells (B.given from (no_codes, middle)) from (slice_by s unit other from mask parity)
    idle other found e =
        let t = s.transmitter unit in
        let Q : Codes × Sides → Type 0 = Serves cells (B.given from (no_codes, middle)) from in
        either Q (ltb other 16)
        (λ near. subst⁻¹ (λ (x : Pair). Q (pair_on s unit other x)) (idle_pair t (s.receiver other) from mask parity e)
        (record { answer = refl; leaves = receiver_left (transmitter_left l unit fits t refl) other (found (ltb-true other 16 near)) (s.receiver other) refl }))
        (λ none. subst⁻¹ (λ (x : Alone). Q (alone_on s unit x)) (idle_alone t e) (record { answer = refl; leaves = transmitter_left l unit fits t refl }))

    other_found : receiver_for middle (transmitter_of middle unit) ≡ receiver_for cells (s.transmitter unit)
    other_found = receiver_for_kept l.kept (transmitter_of middle unit) ∙ ap (receiver_for cells) same

    slice : Serves cells (B.given from (B.slice_of middle unit from mask parity)) from (slice_on cells s unit from mask parity)
    slice =
        let t = s.transmitter unit in
        let other = receiver_for cells t in
        let found : other < 16 → other < count_in cells = index_fitted cells 1 (destination_of t) in
        let Q : Codes × List ℕ → Type 0 = λ p. Serves cells (B.given from p) from (slice_on cells s unit from mask parity) in
        subst⁻¹ (λ (x : Transmitter). Q (pick (acts_on (chosen x)) (B.acting_slice middle unit from mask parity) (no_codes, middle))) same
        (either Q (acts_on (chosen t))
        (λ acts.
        subst⁻¹ (λ (n : ℕ). Q (B.heard_or middle unit n from mask parity)) other_found
        (alike (λ (p : Codes × List ℕ) (q : Codes × Sides). Serves cells (B.given from p) from q) (ltb other 16) (λ e. heard other (found (ltb-true other 16 e)))
        (λ e. unheard)))
        (idle other found))

  pub served : Serves cells (B.served middle from mask parity) from (served_on cells s from mask parity)
  served =
      let unit = unit_for cells from in
      subst⁻¹ (λ (n : ℕ). Serves cells (B.served_or middle n from mask parity) from (served_on cells s from mask parity)) (unit_for_kept l.kept from)
      (alike (λ (p : Given × List ℕ) (q : Codes × Sides). Serves cells p from q) (ltb unit 16)
      (λ e. slice unit (index_fitted cells 0 from (ltb-true unit 16 e)))
      (λ e. record { answer = refl; leaves = l }))
