-- A slice on two states that are the same but for the layout: the same transmitter and receiver are found, the same codes pass between
-- them, and the states are the same again.
-- Assumes nothing.
use Rattle.std.specs.Prelude.{Bool, not, List, ◌≡◌, refl, ℕ, ◌-◌, ◌<◌, eqb, ltb, Some, None, Result, Ok, Err, Option}
use Rattle.std.proofs.Common.{sym, ap, subst, ◌∙◌, arith, ltb-true}
use Rattle.std.proofs.Math.Path.{subst⁻¹}
use Rattle.std.proofs.lemmas.Bool.{eqb-false}
use Rattle.bus.specs.Masterless.{without_master}
use Rattle.bus.specs.Slice.{master_slice, slot_of, slice_passed}
use Rattle.bus.specs.declared.slice.Given.{Given}
use Rattle.cells.specs.Layout.{count_in, holder_in, secondary_in}
use Rattle.cells.specs.Search.{first_secondary}
use Rattle.cells.proofs.Laws.IndexLaws.{index_fitted}
use Rattle.cells.specs.Laws.SearchLaws.{fitted, secondary_agrees}
use Rattle.frames.specs.Laws.Kept.{holder_most}
use Rattle.frames.specs.Laws.Leaves.{Agree, alike}
use Rattle.frames.specs.Laws.Masterless.{masterless_on, without_leaves}
use Rattle.frames.specs.Laws.Serving.{unit_for, receiver_for, heard_on, unheard_on, slice_by, slice_on, served_by, served_on}
use Rattle.frames.specs.Laws.Sides.{Sides, sides_of}
use Rattle.frames.specs.Laws.Slices.{next_on, next_address, section_passes}
use Rattle.laws.specs.Pick.{pick}
use Rattle.master.specs.Section.{next_of}
use Rattle.master.specs.declared.side.Master.{Master}
use Rattle.pcl.specs.Link.{passed_by, slice_call}
use Rattle.receiver.specs.declared.side.Receiver.{Receiver}
use Rattle.sending.specs.Choice.{destination_of}
use Rattle.slices.specs.Slice.{exchanged, sent_alone}
use Rattle.slices.specs.declared.Pair.{Pair}
use Rattle.transmitter.specs.declared.side.Transmitter.{Transmitter}
use Rattle.words.specs.declared.codes.Codes.{Codes}
use Rattle.layouts.specs.Same.{Same}
use Rattle.layouts.specs.Laws.Agreeing.{transmitter_agrees, receiver_agrees, master_agrees, masterless_agrees}
use Rattle.layouts.specs.Laws.Sames.{left_same}
use Rattle.layouts.specs.Laws.Units.{AlikeCalls, refused, there_too}
use Rattle.words.specs.declared.answers.Refusal.{Refusal}

-- the same codes, and sides that agree
record AgreeSlices (n : ℕ) (p q : Codes × Sides) : Type 0 where
  codes : p.0 ≡ q.0
  sides : Agree n p.1 q.1

-- ---- the sides that a slice leaves

module _ (from mask : ℕ) (parity : Bool) where
  module _ (n : ℕ) {s o : Sides} (a : Agree n s o) (unit : ℕ) (there : unit < n) where
    unheard_agrees : AgreeSlices n (unheard_on s unit) (unheard_on o unit)
    unheard_agrees =
        let t = a.transmitter unit there in
        record {
          codes = ap (λ (x : Transmitter). (sent_alone x).codes) t;
          sides = transmitter_agrees n a unit (ap (λ (x : Transmitter). (sent_alone x).transmitter) t);
        }

    heard_agrees : (other : ℕ) → other < n → AgreeSlices n (heard_on s unit other from mask parity) (heard_on o unit other from mask parity)
    heard_agrees other near =
        let p : exchanged (s.transmitter unit) (s.receiver other) from mask parity ≡ exchanged (o.transmitter unit) (o.receiver other) from mask parity =
        ap (λ (x : Transmitter). exchanged x (s.receiver other) from mask parity) (a.transmitter unit there)
        ∙ ap (λ (x : Receiver). exchanged (o.transmitter unit) x from mask parity) (a.receiver other near) in
        record {
          codes = ap (λ (x : Pair). x.codes) p;
          sides = receiver_agrees n (transmitter_agrees n a unit (ap (λ (x : Pair). x.transmitter) p)) other (ap (λ (x : Pair). x.receiver) p);
        }

    slice_agrees : (other : ℕ) → (other < 16 → other < n) → AgreeSlices n (slice_by s unit other from mask parity) (slice_by o unit other from mask parity)
    slice_agrees other near =
        alike (AgreeSlices n) (ltb other 16) (λ e. heard_agrees other (near (ltb-true other 16 e))) (λ e. unheard_agrees)

  module _ {cells other : List ℕ} (h : Same cells other) {s o : Sides} (a : Agree (count_in cells) s o) where
    -- the same unit is found for an address
    unit_same : unit_for other from ≡ unit_for cells from
    unit_same = h.index 0 from (omega arith)

    receiver_same : (t : Transmitter) → receiver_for other t ≡ receiver_for cells t
    receiver_same t = h.index 1 (destination_of t) (omega arith)

    found_agrees : (unit : ℕ) → unit < count_in cells → AgreeSlices (count_in cells) (slice_on cells s unit from mask parity) (slice_on other o unit from mask parity)
    found_agrees unit there =
        let t = s.transmitter unit in
        let hears = receiver_for cells t in
        subst (λ (n : ℕ). AgreeSlices (count_in cells) (slice_by s unit hears from mask parity) (slice_by o unit n from mask parity))
        (sym (receiver_same t) ∙ ap (receiver_for other) (a.transmitter unit there))
        (slice_agrees (count_in cells) a unit there hears (index_fitted cells 1 (destination_of t)))

    served_agrees : AgreeSlices (count_in cells) (served_on cells s from mask parity) (served_on other o from mask parity)
    served_agrees =
        let unit = unit_for cells from in
        subst⁻¹ (λ (n : ℕ). AgreeSlices (count_in cells) (served_by cells s unit from mask parity) (served_by other o n from mask parity)) unit_same
        (alike (AgreeSlices (count_in cells)) (ltb unit 16)
        (λ e. found_agrees unit (index_fitted cells 0 from (ltb-true unit 16 e)))
        (λ e. record { codes = refl; sides = a }))

-- ---- the call

module _ {cells other : List ℕ} (h : Same cells other) (mask : ℕ) where
  module _ (parity : Bool) where
    -- with a master
    section_alike : (m : ℕ) → m < count_in cells → AlikeCalls (slot_of (master_slice cells m mask parity)) (slot_of (master_slice other m mask parity))
    section_alike m there =
        let section = h.sides.master m there in
        let address : next_address cells m ≡ next_address other m = ap (λ (x : Master). (next_of x).address) section in
        let agree =
        subst (λ (n : ℕ). AgreeSlices (count_in cells) (served_on cells (next_on cells m) (next_address cells m) mask parity) (served_on other (next_on other m) n mask parity)) address
        (served_agrees (next_address cells m) mask parity h (master_agrees (count_in cells) h.sides m (ap (λ (x : Master). (next_of x).side) section))) in
        let one = section_passes cells h.ranged mask parity m there in
        let two = section_passes other h.other_ranged mask parity m (there_too h m there) in
        record {
          answer =
              one.answer
              ∙ ap (λ (n : ℕ). Some (record { address = n; codes = (served_on cells (next_on cells m) (next_address cells m) mask parity).0 })) address
              ∙ ap (λ (c : Codes). Some (record { address = next_address other m; codes = c })) agree.codes
              ∙ sym two.answer;
          cells = left_same h one.leaves two.leaves agree.sides;
        }

    -- with none
    without_alike : Same (without_master cells) (without_master other)
    without_alike =
        let unit = first_secondary cells (count_in cells) in
        let found : first_secondary other (count_in other) ≡ unit =
        ap (first_secondary other) h.count
        ∙ secondary_agrees cells other (count_in cells) (λ k there. ap (λ (x : Master). x.secondary) (sym (h.sides.master k there))) in
        left_same h (without_leaves cells h.ranged) (without_leaves other h.other_ranged)
        (subst⁻¹ (λ (n : ℕ). Agree (count_in cells) (masterless_on (sides_of cells) unit) (masterless_on (sides_of other) n)) found
        (masterless_agrees (count_in cells) h.sides unit (λ near. omega (arith, fitted (secondary_in cells) 1 (count_in cells) 0 near))))

    passed_alike : AlikeCalls (slice_passed cells mask parity) (slice_passed other mask parity)
    passed_alike =
        subst
        (λ (n : ℕ). AlikeCalls (slice_passed cells mask parity) (pick (eqb n 0) (None, without_master other) (slot_of (master_slice other (n - 1) mask parity))))
        h.sides.holder
        (alike AlikeCalls (eqb (holder_in cells) 0) (λ none. record { answer = refl; cells = without_alike })
        (λ held. section_alike (holder_in cells - 1) (omega (arith, holder_most cells h.ranged, eqb-false (holder_in cells) 0 held))))

  pub slice_alike : (parity : ℕ) → AlikeCalls (slice_call cells mask parity) (slice_call other mask parity)
  slice_alike parity =
      let passed = passed_alike (eqb parity 1) in
      let call : List ℕ → Result (Option Given) Refusal × List ℕ =
      λ l. pick (ltb 1 parity) (Err Refusal.BadMask, l) (passed_by (slice_passed l mask (eqb parity 1))) in
      subst⁻¹ (λ (b : Bool). AlikeCalls (pick (not b) (Err Refusal.BadState, cells) (call cells)) (slice_call other mask parity)) h.ranged
      (subst⁻¹ (λ (b : Bool). AlikeCalls (call cells) (pick (not b) (Err Refusal.BadState, other) (call other))) h.other_ranged
      (alike AlikeCalls (ltb 1 parity) (λ e. refused h (Err Refusal.BadMask))
      (λ e. record { answer = ap Ok passed.answer; cells = passed.cells })))
