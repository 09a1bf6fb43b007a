-- Every event that spares the master's section leaves it going round: a slice that is answered 0 has the first address of the list, which
-- then stands at the end, and any other event leaves the list.
-- Assumes nothing.
use Rattle.std.specs.Prelude.{Bool, true, false, not, List, [], ◌∷◌, ◌⊎◌, ◌≡◌, refl, ℕ, ◌+◌, ◌^◌, ◌<◌, eqb, ltb, length, get_or, Result, Err, Option}
use Rattle.std.proofs.Common.{inl, inr, ap, sym, ◌∙◌, arith, eqb-true}
use Rattle.std.proofs.Math.Path.{subst⁻¹}
use Rattle.std.proofs.lemmas.Bool.{eqb-false}
use Rattle.accesses.specs.Writing.{unit_reset}
use Rattle.bus.specs.Slice.{slice_passed}
use Rattle.bus.specs.declared.slice.Given.{Given}
use Rattle.cells.specs.Fitted.{master_of}
use Rattle.cells.specs.Layout.{count_in, holder_in}
use Rattle.cells.specs.Ranges.{in_range}
use Rattle.frames.specs.Laws.Keeps.{WriteKeeps, write_keeps, byte_keeps, reset_others}
use Rattle.frames.specs.Laws.Kept.{holder_most}
use Rattle.frames.specs.Laws.Leaves.{Leaves, master_within, stays}
use Rattle.frames.specs.Laws.Moves.{receiver_move, transmitter_move}
use Rattle.frames.specs.Laws.Others.{slice_holder, slice_master}
use Rattle.frames.specs.Laws.Reads.{read_cycle, read_holder, read_leaves}
use Rattle.frames.specs.Laws.Resets.{period_leaves, reset_holder, reset_leaves}
use Rattle.frames.specs.Laws.Serving.{served_on}
use Rattle.frames.specs.Laws.Sides.{Sides, replaced_here}
use Rattle.frames.specs.Laws.Slices.{next_address, next_on, slice_passes}
use Rattle.frames.specs.Laws.Spared.{SparesMaster, held_elsewhere}
use Rattle.frames.specs.Laws.Writes.{write_leaves, byte_leaves}
use Rattle.laws.specs.Pick.{by, either, past, here, pick}
use Rattle.master.specs.Cycle.{cycle_of}
use Rattle.master.specs.Ring.{addresses_in}
use Rattle.master.specs.Section.{next_of}
use Rattle.master.specs.declared.section.Next.{Next}
use Rattle.master.specs.declared.side.Master.{Master}
use Rattle.master.specs.Laws.Laws.{next_lt}
use Rattle.master.specs.Laws.Rotation.{rotated}
use Rattle.moves.specs.Periods.{unit_period}
use Rattle.pcl.specs.Calls.{read_call, write_call, byte_call, reset_call, period_call}
use Rattle.pcl.specs.Link.{slice_call}
use Rattle.pcl.specs.Numbers.{slice_number, address_of, given_value}
use Rattle.pcl.specs.Sides.{move_call}
use Rattle.pcl.specs.Laws.Cases.{admitted_cases, move_cases}
use Rattle.promise.specs.World.{World, Event, fit, write, write_byte, read, slice, move, period, reset, level, serial, host_write, step}
use Rattle.promise.proofs.Laws.SliceCalls.{ring_turns, ring_first, slice_call_lem}
use Rattle.turns.specs.Addresses.{answered, address_in, slice_in}
use Rattle.turns.specs.Round.{GoesRound, Elsewhere, Spares}
use Rattle.words.specs.declared.answers.Refusal.{Refusal}

module _ (unit : ℕ) (list : List ℕ) (cells : List ℕ) (g : GoesRound unit list cells) where
  there : unit < count_in cells
  there = omega (arith, holder_most cells g.ranged, g.master)

  -- ---- what leaves the section and who is master

  kept : (after : List ℕ) → in_range after ≡ true → holder_in after ≡ holder_in cells → master_of after unit ≡ master_of cells unit → GoesRound unit list after
  kept after ok holder same =
      record {
        ranged = ok;
        master = holder ∙ g.master;
        cleared = ap (λ (m : Master). m.auto_address) same ∙ g.cleared;
        holds = ap (λ (m : Master). addresses_in m.addresses) same ∙ g.holds;
      }

  spares_master : (at offset value : ℕ) → (at ≡ unit → Elsewhere offset value) → unit ≡ at → SparesMaster offset value
  spares_master at offset value spares e =
      let s = spares (sym e) in
      record {
        low = λ q. s.not_tmmr (inl q);
        high = λ q. s.not_tmmr (inr q);
        start = by (eqb offset 0) (λ t. rw (t, s.not_tx_init (eqb-true offset 0 t))) (λ t. rw t);
      }

  written : (at offset value : ℕ) {touched : ℕ → Type 0} {after : List ℕ} {sides : Sides} → (at ≡ unit → Elsewhere offset value)
      → Leaves touched cells after sides → WriteKeeps cells at offset value after → GoesRound unit list after
  written at offset value {after = after} spares leaves keeps =
      kept after leaves.ranged
      (keeps.holder
      (by (eqb unit at) (λ e. inl (spares_master at offset value spares (eqb-true unit at e)))
      (λ e. inr (held_elsewhere (holder_in cells) at unit g.master (eqb-false unit at e)))))
      (keeps.master unit there (spares_master at offset value spares))

  -- ---- the calls at a unit

  abbrev After : {A : Type 0} → A × List ℕ → Type 0
  After outcome = GoesRound unit list outcome.1

  write_goes : (at offset word : ℕ) → word < 2 ^ 16 → (at ≡ unit → Elsewhere offset word) → After (write_call cells at offset word)
  write_goes at offset word fits spares =
      admitted_cases cells After at _ _ _ g g
      (λ ok fitted. written at offset word spares (write_leaves cells ok at fitted offset word fits) (write_keeps cells ok at fitted offset word fits))

  byte_goes : (at offset byte : ℕ) → byte < 2 ^ 8 → (at ≡ unit → Elsewhere offset byte) → After (byte_call cells at offset byte)
  byte_goes at offset byte fits spares =
      admitted_cases cells After at _ _ _ g g
      (λ ok fitted. written at offset byte spares (byte_leaves cells ok at fitted offset byte fits) (byte_keeps cells ok at fitted offset byte fits))

  -- a read takes no address out of the silo while AUT ADR is clear
  read_goes : (at offset : ℕ) → After (read_call cells at offset)
  read_goes at offset =
      admitted_cases cells After at _ _ _ g g
      (λ ok fitted.
      let same = read_cycle cells ok at fitted offset unit there in
      record {
        ranged = (read_leaves cells ok at fitted offset).ranged;
        master = read_holder cells ok at fitted offset ∙ g.master;
        cleared = same.auto_address ∙ g.cleared;
        holds = ap addresses_in (same.addresses g.cleared) ∙ g.holds;
      })

  reset_goes : (at : ℕ) → (at ≡ unit → ⊥) → After (reset_call cells at)
  reset_goes at other =
      admitted_cases cells After at _ _ _ g g
      (λ ok fitted.
      kept (unit_reset cells at) (reset_leaves cells ok at fitted).ranged
      (reset_holder cells ok at fitted (λ (e : holder_in cells ≡ at + 1). other (omega (arith, g.master))))
      ((reset_others cells ok at fitted).master unit there (λ e. other (sym e))))

  period_goes : (at : ℕ) → After (period_call cells at)
  period_goes at =
      admitted_cases cells After at _ _ _ g g
      (λ ok fitted.
      let l = period_leaves cells ok at fitted in
      kept (unit_period cells at) l.ranged l.holds.holder (l.holds.master unit there))

  move_goes : (memory : List ℕ) (at side : ℕ) → GoesRound unit list (move_call cells memory at side).1
  move_goes memory at side =
      move_cases cells (λ (p : Result (Option ℕ) Refusal × List ℕ × List ℕ). GoesRound unit list p.1) memory at side g g
      (λ ok fitted. let l = transmitter_move cells ok memory at fitted in kept _ l.ranged l.holds.holder (l.holds.master unit there))
      (λ ok fitted. let l = receiver_move cells ok memory at fitted in kept _ l.ranged l.holds.holder (l.holds.master unit there))

  -- ---- a slice

  next_cleared : (m : Master) → m.auto_address ≡ false → (next_of m).side.auto_address ≡ false
  next_cleared m e = either (λ (n : Next). n.side.auto_address ≡ false) m.auto_address (λ t. e) (λ t. e)

  cycle_is : (m : Master) → m.auto_address ≡ false → cycle_of m ≡ addresses_in m.addresses
  cycle_is m e = sym (past _ e refl)

  passed_goes : (mask : ℕ) (parity : Bool) → GoesRound unit (rotated list) (slice_passed cells mask parity).1
  passed_goes mask parity =
      let after = (slice_passed cells mask parity).1 in
      let next = slice_master cells g.ranged mask parity unit g.master unit there ∙ replaced_here (master_of cells) unit _ in
      let cleared = ap (λ (m : Master). m.auto_address) next ∙ next_cleared (master_of cells unit) g.cleared in
      record {
        ranged = (slice_passes cells g.ranged mask parity unit g.master).leaves.ranged;
        master = slice_holder cells g.ranged mask parity unit g.master ∙ g.master;
        cleared = cleared;
        holds =
            sym (cycle_is (master_of after unit) cleared)
            ∙ ring_turns cells g.ranged mask parity unit g.master
            ∙ ap rotated (cycle_is (master_of cells unit) g.cleared ∙ g.holds);
      }

  -- the address that is answered: the first of the list
  slice_answers : (mask parity : ℕ) → ltb 1 parity ≡ false → answered (slice_call cells mask parity).0 ≡ get_or list 0 0 ∷ []
  slice_answers mask parity few =
      let call = slice_call_lem cells g.ranged mask parity unit g.master few in
      let fits : next_address cells unit < 32 = next_lt (master_of cells unit) (master_within (stays g.ranged) unit there) in
      let given : Given = record { address = next_address cells unit; codes = (served_on cells (next_on cells unit) (next_address cells unit) mask (eqb parity 1)).0 } in
      let shown : address_of (given_value given) ≡ next_address cells unit = omega (arith, fits) in
      ap (λ (r : Result (Option Given) Refusal × List ℕ). answered r.0) call
      ∙ ap (λ (a : ℕ). a ∷ []) (shown ∙ ring_first cells g.ranged mask (eqb parity 1) unit g.master ∙ ap (λ (l : List ℕ). get_or l 0 0) (cycle_is (master_of cells unit) g.cleared ∙ g.holds))

  -- and it is answered 0
  pub slice_done : (mask parity : ℕ) → ltb 1 parity ≡ false → slice_number (slice_call cells mask parity).0 ≡ 0
  slice_done mask parity few = ap (λ (r : Result (Option Given) Refusal × List ℕ). slice_number r.0) (slice_call_lem cells g.ranged mask parity unit g.master few)

-- ---- every event

-- what an event does with the list: it answers the first address, which goes to the end, or it answers none and leaves the list
abbrev pub Turned : ℕ → List ℕ → Event → World → Type 0
Turned unit list e w =
    ((address_in e w ≡ get_or list 0 0 ∷ []) × GoesRound unit (rotated list) (step e w).cells)
    ⊎ ((address_in e w ≡ []) × GoesRound unit list (step e w).cells)

none_or_one : (n : ℕ) (t : Bool) → (t ≡ true → n ≡ 0) → (t ≡ false → n ≡ 1) → n ≡ pick t 0 1
none_or_one n true none one = none refl
none_or_one n false none one = one refl

module _ (unit : ℕ) (list : List ℕ) (w : World) (g : GoesRound unit list w.cells) where
  refused : (mask parity : ℕ) → ltb 1 parity ≡ true → slice_call w.cells mask parity ≡ (Err Refusal.BadMask, w.cells)
  refused mask parity many = sym (past _ (ap not g.ranged) (here _ many refl))

  slice_turns : (mask parity : ℕ) → Turned unit list (slice mask parity) w
  slice_turns mask parity =
      by (ltb 1 parity)
      (λ many.
      let refused = refused mask parity many in
      inr (ap (λ (r : Result (Option Given) Refusal × List ℕ). answered r.0) refused, subst⁻¹ (λ (r : Result (Option Given) Refusal × List ℕ). GoesRound unit list r.1) refused g))
      (λ few.
      let call = slice_call_lem w.cells g.ranged mask parity unit g.master few in
      inl (slice_answers unit list w.cells g mask parity few, subst⁻¹ (λ (r : Result (Option Given) Refusal × List ℕ). GoesRound unit (rotated list) r.1) call (passed_goes unit list w.cells g mask (eqb parity 1))))

  pub turns : (e : Event) → Spares unit e → Turned unit list e w
  turns (fit setup) s = absurd s
  turns (write at offset word) (fits, s) = inr (refl, write_goes unit list w.cells g at offset word fits s)
  turns (write_byte at offset byte) (fits, s) = inr (refl, byte_goes unit list w.cells g at offset byte fits s)
  turns (read at offset) s = inr (refl, read_goes unit list w.cells g at offset)
  turns (slice mask parity) s = slice_turns mask parity
  turns (move at side) s = inr (refl, move_goes unit list w.cells g (w.memory at) at side)
  turns (period at) s = inr (refl, period_goes unit list w.cells g at)
  turns (reset at) s = inr (refl, reset_goes unit list w.cells g at s)
  turns (level at side) s = inr (refl, g)
  turns (serial at side) s = inr (refl, g)
  turns (host_write at place word) s = inr (refl, g)

  slice_each : (mask parity : ℕ) → length (answered (slice_call w.cells mask parity).0) ≡ pick (ltb 1 parity) 0 1
  slice_each mask parity =
      none_or_one (length (answered (slice_call w.cells mask parity).0)) (ltb 1 parity)
      (λ many. ap (λ (r : Result (Option Given) Refusal × List ℕ). length (answered r.0)) (refused mask parity many))
      (λ few. ap length (slice_answers unit list w.cells g mask parity few))

  -- every slice has an address, and nothing else has
  pub one_each : (e : Event) → length (address_in e w) ≡ slice_in e
  one_each (fit setup) = refl
  one_each (write at offset word) = refl
  one_each (write_byte at offset byte) = refl
  one_each (read at offset) = refl
  one_each (slice mask parity) = slice_each mask parity
  one_each (move at side) = refl
  one_each (period at) = refl
  one_each (reset at) = refl
  one_each (level at side) = refl
  one_each (serial at side) = refl
  one_each (host_write at place word) = refl
