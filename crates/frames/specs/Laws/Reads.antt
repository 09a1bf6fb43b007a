-- A word read at a fitted unit: it may remove a word of a data silo or an address, and every other side is as it was.
-- Assumes nothing.
use Rattle.std.specs.Prelude.{Bool, true, false, not, ◌&&◌, List, ◌≡◌, refl, ℕ, ◌<◌, eqb, ltb, Result}
use Rattle.std.proofs.Common.{true≢false, sym, ◌∙◌, eqb-true}
use Rattle.std.proofs.Math.Path.{subst⁻¹}
use Rattle.accesses.specs.Reading.{unit_read}
use Rattle.cells.specs.Fitted.{transmitter_of, receiver_of, master_of}
use Rattle.cells.specs.Ranges.{in_range}
use Rattle.cells.specs.Layout.{count_in, holder_in}
use Rattle.laws.specs.Pick.{pick, past, either}
use Rattle.laws.specs.Laws.Both.{left_of, right_of}
use Rattle.master.specs.Laws.Laws.{within_removed}
use Rattle.master.specs.Reading.{removes, removed}
use Rattle.master.specs.declared.side.Master.{Master}
use Rattle.receiver.specs.declared.side.Receiver.{Receiver}
use Rattle.receiver_registers.specs.Laws.Keeps as RK
use Rattle.receiver_registers.specs.Laws.Stays as RS
use Rattle.receiver_registers.specs.Reading as R
use Rattle.silos.specs.Silo.{is_empty}
use Rattle.transmitter.specs.declared.side.Transmitter.{Transmitter}
use Rattle.transmitter_registers.specs.Laws.Keeps as TK
use Rattle.transmitter_registers.specs.Laws.Stays as TS
use Rattle.transmitter_registers.specs.Reading as T
use Rattle.words.specs.declared.answers.Refusal.{Refusal}
use Rattle.frames.specs.Laws.Leaves.{Leaves, At, stays_at, transmitter_within, receiver_within, master_within, alike}
use Rattle.frames.specs.Laws.Sides.{Sides, sides_of, replaced_same, with_transmitter, with_receiver, with_master}
use Rattle.frames.specs.Laws.Stores.{transmitter_stored, receiver_stored, master_stored, transmitter_left, receiver_left, master_left}

-- a read on the sides, as `accesses` has it on the cells
abbrev pub read_on : Sides → ℕ → ℕ → Sides
read_on s unit offset =
    pick (eqb offset 10) (with_master s unit (removed (s.master unit) (s.transmitter unit).modes.read_silo))
    (pick (ltb offset 16) (with_transmitter s unit (T.read_of (s.transmitter unit) offset).side)
    (with_receiver s unit (R.read_of (s.receiver unit) offset).side))

-- ---- where nothing is removed

-- TSDB: "removing it only with RD SILO set"
pub transmitter_shown : (t : Transmitter) (offset : ℕ) → (offset ≡ 4 → t.modes.read_silo ≡ false) → (T.read_of t offset).side ≡ t
transmitter_shown t offset clear = TS.read_stays t offset (TS.not_removing t offset clear)

-- RDDB: "removing it unless RC NPR is set"
pub receiver_shown : (r : Receiver) (offset : ℕ) → (offset ≡ 20 → r.modes.memory_requests ≡ true) → (R.read_of r offset).side ≡ r
receiver_shown r offset requests = RS.read_stays r offset (RS.not_removing r offset requests)

-- TMMR: in any case it gives the addresses of its slices from the same place on
pub record SameCycle (before after : Master) : Type 0 where
  pub auto_address : after.auto_address ≡ before.auto_address
  pub secondary : after.secondary ≡ before.secondary
  pub now_master : after.now_master ≡ before.now_master
  pub place : after.place ≡ before.place
  pub switch : after.switch ≡ before.switch
  pub addresses : before.auto_address ≡ false → after.addresses ≡ before.addresses

pub same_cycle : (m : Master) → SameCycle m m
same_cycle m = record { auto_address = refl; secondary = refl; now_master = refl; place = refl; switch = refl; addresses = λ e. refl }

removed_cycle : (m : Master) (reading : Bool) → SameCycle m (removed m reading)
removed_cycle m reading =
    either (SameCycle m) (removes m reading)
    (λ e.
    record {
      auto_address = refl;
      secondary = refl;
      now_master = refl;
      place = refl;
      switch = refl;
      addresses = λ clear. absurd (true≢false (sym (right_of reading m.auto_address (left_of (reading && m.auto_address) (not (is_empty m.addresses)) e)) ∙ clear));
    })
    (λ e. same_cycle m)

-- ---- the read

module _ (cells : List ℕ) (ok : in_range cells ≡ true) (unit : ℕ) (fitted : unit < count_in cells) (offset : ℕ) where
  pub read_leaves : Leaves (At unit) cells (unit_read cells unit offset).1 (read_on (sides_of cells) unit offset)
  read_leaves =
      let l = stays_at (At unit) ok in
      let t = transmitter_of cells unit in
      let r = receiver_of cells unit in
      let m = master_of cells unit in
      let reading = t.modes.read_silo in
      let P : Result ℕ Refusal × List ℕ → Sides → Type 0 = λ p s. Leaves (At unit) cells p.1 s in
      alike P (eqb offset 10)
      (λ e. either (λ p. P p (with_master (sides_of cells) unit (removed m reading))) (removes m reading)
      (λ some. master_stored l unit fitted refl (removed m reading) (within_removed m (master_within l unit fitted) reading))
      (λ none. master_left l unit fitted (removed m reading) (sym (past _ none refl))))
      (λ e. alike P (ltb offset 16)
      (λ e. either (λ p. P p (with_transmitter (sides_of cells) unit (T.read_of t offset).side)) (T.removes t offset)
      (λ some. transmitter_stored l unit fitted refl (T.read_of t offset).side (TK.within_read t (transmitter_within l unit fitted) offset))
      (λ none. transmitter_left l unit fitted (T.read_of t offset).side (TS.read_stays t offset none)))
      (λ e. either (λ p. P p (with_receiver (sides_of cells) unit (R.read_of r offset).side)) (R.removes r offset)
      (λ some. receiver_stored l unit fitted refl (R.read_of r offset).side (RK.within_read r (receiver_within l unit fitted) offset))
      (λ none. receiver_left l unit fitted (R.read_of r offset).side (RS.read_stays r offset none))))

  pub read_holder : holder_in (unit_read cells unit offset).1 ≡ holder_in cells
  read_holder =
      let P : Sides → Type 0 = λ s. s.holder ≡ holder_in cells in
      read_leaves.holds.holder ∙ either P (eqb offset 10) (λ e. refl) (λ e. either P (ltb offset 16) (λ e. refl) (λ e. refl))

  module _ (k : ℕ) (there : k < count_in cells) where
    pub read_transmitter : (k ≡ unit → offset ≡ 4 → (transmitter_of cells unit).modes.read_silo ≡ false) → transmitter_of (unit_read cells unit offset).1 k ≡ transmitter_of cells k
    read_transmitter clear =
        let P : Sides → Type 0 = λ s. s.transmitter k ≡ transmitter_of cells k in
        read_leaves.holds.transmitter k there
        ∙ either P (eqb offset 10) (λ e. refl)
        (λ e. either P (ltb offset 16) (λ e. replaced_same (transmitter_of cells) unit _ k (λ here. transmitter_shown (transmitter_of cells unit) offset (clear here)))
        (λ e. refl))

    pub read_receiver : (k ≡ unit → offset ≡ 20 → (receiver_of cells unit).modes.memory_requests ≡ true) → receiver_of (unit_read cells unit offset).1 k ≡ receiver_of cells k
    read_receiver requests =
        let P : Sides → Type 0 = λ s. s.receiver k ≡ receiver_of cells k in
        read_leaves.holds.receiver k there
        ∙ either P (eqb offset 10) (λ e. refl)
        (λ e. either P (ltb offset 16) (λ e. refl)
        (λ e. replaced_same (receiver_of cells) unit _ k (λ here. receiver_shown (receiver_of cells unit) offset (requests here))))

    pub read_cycle : SameCycle (master_of cells k) (master_of (unit_read cells unit offset).1 k)
    read_cycle =
        let P : Sides → Type 0 = λ s. SameCycle (master_of cells k) (s.master k) in
        subst⁻¹ (SameCycle (master_of cells k)) (read_leaves.holds.master k there)
        (either P (eqb offset 10)
        (λ e. either (SameCycle (master_of cells k)) (eqb k unit)
        (λ here. subst⁻¹ (λ (n : ℕ). SameCycle (master_of cells n) (removed (master_of cells unit) (transmitter_of cells unit).modes.read_silo)) (eqb-true k unit here)
        (removed_cycle (master_of cells unit) (transmitter_of cells unit).modes.read_silo)) (λ other. same_cycle (master_of cells k)))
        (λ e. either P (ltb offset 16) (λ e. same_cycle (master_of cells k)) (λ e. same_cycle (master_of cells k))))
