-- What is promised of a planned list on the whole link: it starts, and each transmitter gets its share of the slices.
-- Assumes nothing.
use Rattle.std.specs.Prelude.{true, false, List, [], ◌∷◌, ◌≡◌, refl, ℕ, ◌+◌, ◌-◌, ◌*◌, ◌/◌, ◌%◌, ◌^◌, ◌≤◌, ◌<◌, length, get_or, take, Result, Ok}
use Rattle.std.proofs.Common.{ap, subst, sym, ◌∙◌, arith, le-ltb, lit<}
use Rattle.std.proofs.Math.Path.{subst⁻¹}
use Rattle.std.proofs.lemmas.Bool.{eqb-false}
use Rattle.cells.specs.Fitted.{master_of, transmitter_of}
use Rattle.cells.specs.Layout.{count_in, holder_in}
use Rattle.cells.specs.Ranges.{in_range}
use Rattle.frames.specs.Laws.Kept.{holder_most}
use Rattle.frames.specs.Laws.Leaves.{master_within, stays}
use Rattle.laws.specs.Bits.{bit_at}
use Rattle.master.specs.Ring.{addresses_in}
use Rattle.master.specs.Laws.RingLaws.{length_addresses}
use Rattle.promise.specs.World.{World, Event, write_byte, slice, step, run, number_of}
use Rattle.shares.specs.Asked.{Asked}
use Rattle.shares.specs.Outcomes.{PlanOutcome}
use Rattle.shares.specs.Lists.{count}
use Rattle.shares.specs.Numbers.{plan_number}
use Rattle.shares.proofs.Promise.{Answered, answers_a_list}
use Rattle.shares.specs.Wanted.{shares_in, turns_for}
use Rattle.shares.specs.declared.answers.PlanError.{PlanError}
use Rattle.shares.proofs.Laws.PlanLaws.{asked_by}
use Rattle.words.specs.Bits.TMMR as Bits
use Rattle.turns.specs.Addresses.{addresses, slices_in}
use Rattle.turns.specs.Loading.{Empty, Empties, Clears, MayHave, loads, writes, printed, Done, Starts}
use Rattle.turns.specs.Round.{GoesRound, AllSpare}
use Rattle.turns.specs.Share.{Share}
use Rattle.turns.proofs.Laws.Events.{slice_done}
use Rattle.turns.proofs.Laws.LoadLaws.{empty_done, emptied, emptied_may, clear_done, clear_auto, clear_holds, clear_goes, empty_holds, load_all, run_append, done_append}
use Rattle.turns.proofs.Laws.Planned.{may_start, fit}
use Rattle.turns.proofs.Laws.RoundLaws.{at_least, at_most, in_turn}
use Rattle.turns.proofs.Laws.Runs.{count_turned, length_turned, went}

-- ---- any list that a master goes round; slices in a row are those of any run of calls, after any run, that spare the master's section

module _ (unit : ℕ) (list : List ℕ) (w : World) (goes : GoesRound unit list w.cells) where
  some : 0 < length list
  some =
      let within = master_within (stays goes.ranged) unit (omega (arith, holder_most w.cells goes.ranged, goes.master)) in
      let held = eqb-false (master_of w.cells unit).addresses.held 0 (within.some goes.cleared) in
      omega (arith, length_addresses (master_of w.cells unit).addresses within.silo, ap length goes.holds)

  -- a slice with a parity mask of 0 or 1 is answered 0
  pub slice_answered : (mask parity : ℕ) → parity ≤ 1 → number_of (slice mask parity) w ≡ 0
  slice_answered mask parity few = slice_done unit list w.cells goes mask parity (le-ltb 1 parity few)

  -- and so is each one of a run: as many addresses as slices
  pub all_answered : (es : List Event) → AllSpare unit es → length (addresses w es) ≡ slices_in es
  all_answered es spared = (went unit es spared list w goes).each

  -- each slice has the next address of the list, and the first one again after the last
  pub goes_round : (es : List Event) → AllSpare unit es → (i : ℕ) → i < slices_in es → get_or (addresses w es) i 0 ≡ get_or list (i % length list) 0
  goes_round es spared i h =
      let all = subst⁻¹ (λ (n : ℕ). i < n) (all_answered es spared) h in
      ap (λ (l : List ℕ). get_or l i 0) (went unit es spared list w goes).answers ∙ in_turn (length (addresses w es)) list some i all

  pub share_of_slices : (before during : List Event) → AllSpare unit before → AllSpare unit during → (address : ℕ)
      → Share (count address list) (slices_in during) (length list) (count address (addresses (run before w) during))
  share_of_slices before during spared sparing address =
      let first = went unit before spared list w goes in
      let n = length (addresses w before) in
      let then = went unit during sparing _ (run before w) first.goes in
      let slices = length (addresses (run before w) during) in
      let same = ap (count address) then.answers in
      let turns = count_turned n address list in
      let long = length_turned n list in
      let there = subst⁻¹ (λ (k : ℕ). 0 < k) long some in
      let least = at_least _ there address slices in
      let most = at_most _ there address slices in
      let gets = count address (addresses (run before w) during) in
      subst (λ (k : ℕ). Share (count address list) k (length list) gets) then.each
      (record {
        least = subst (λ (k : ℕ). k * (slices / length list) ≤ gets) turns (rw (same, ← long) least);
        most = subst (λ (k : ℕ). gets ≤ k * ((slices + length list - 1) / length list)) turns (rw (same, ← long) most);
      })

-- ---- an address silo is emptied by one write, at any fitted unit; RD SILO is clear

module _ (unit : ℕ) (w : World) (ranged : in_range w.cells ≡ true) (fitted : unit < count_in w.cells) (high : ℕ) (empties : Empties high) where
  pub emptying_done : number_of (write_byte unit 11 high) w ≡ 0
  emptying_done = empty_done unit w.cells ranged fitted high empties

  pub emptying : (transmitter_of w.cells unit).modes.read_silo ≡ false → Empty unit (step (write_byte unit 11 high) w).cells
  emptying not_reading = emptied unit w.cells ranged fitted high empties not_reading

  -- and MASTER stays the unit's to have, be it written or not
  pub emptying_may : MayHave unit (holder_in w.cells) → MayHave unit (holder_in (step (write_byte unit 11 high) w).cells)
  emptying_may may = emptied_may unit w.cells ranged fitted high empties may

-- ---- a list that was planned

module _ (wanted room after : List ℕ) (n : ℕ) (plan : PlanOutcome wanted room (Ok n, after)) where
  abbrev pub list : List ℕ
  list = take n after

  asked : Asked wanted room
  asked =
      asked_by wanted room 0 (ap (λ (o : Result ℕ PlanError × List ℕ). plan_number o.0) (sym plan)) (λ q. omega arith) (λ q. omega arith) (λ q. omega arith)
      (λ q. omega arith)

  planned : Answered wanted room n after
  planned = answers_a_list wanted room after n plan

  module _ (unit : ℕ) (w : World) (empty : Empty unit w.cells) (high : ℕ) (clears : Clears high) where
    -- it starts, at any fitted unit with an empty address silo
    pub planned_starts : Starts unit list high w
    planned_starts =
        let l = planned.list in
        let loaded = load_all unit (holder_in w.cells) list [] w (empty_holds unit w.cells empty) (fit (shares_in wanted) asked.inside list l) (omega (arith, l.most)) in
        let h = loaded.holding in
        let may = may_start (shares_in wanted) list l in
        let last = write_byte unit 11 high ∷ [] in
        let there = run_append (loads unit list) last w in
        record {
          done = done_append (loads unit list) last w loaded.done (clear_done unit _ list _ h may high clears, tt);
          cleared = ap (λ (x : World). (master_of x.cells unit).auto_address) there ∙ clear_auto unit _ list _ h may high clears;
          holds = ap (λ (x : World). addresses_in (master_of x.cells unit).addresses) there ∙ clear_holds unit _ list _ h may high clears;
        }

    -- and where the same write takes MASTER, which nobody else has, the slices go round it
    pub planned_goes : bit_at (high * 2 ^ 8) Bits.MASTER ≡ true → MayHave unit (holder_in w.cells) → GoesRound unit list (run (writes unit list high) w).cells
    planned_goes master free =
        let l = planned.list in
        let loaded = load_all unit (holder_in w.cells) list [] w (empty_holds unit w.cells empty) (fit (shares_in wanted) asked.inside list l) (omega (arith, l.most)) in
        subst⁻¹ (λ (x : World). GoesRound unit list x.cells) (run_append (loads unit list) (write_byte unit 11 high ∷ []) w)
        (clear_goes unit _ list _ loaded.holding (may_start (shares_in wanted) list l) high clears master free)

  -- the writes that tools/shares prints, at any fitted unit with RD SILO clear, whatever its address silo holds: each is answered 0, and
  -- the slices go round the list
  module _ (unit : ℕ) (w : World) (ranged : in_range w.cells ≡ true) (fitted : unit < count_in w.cells)
      (not_reading : (transmitter_of w.cells unit).modes.read_silo ≡ false) where
    empties : Empties 0x31
    empties = record { byte = lit< tt; clear_addresses = refl; auto_address = refl }

    clears : Clears 1
    clears = record { byte = lit< tt; auto_address = refl; clear_addresses = refl }

    empty : Empty unit (step (write_byte unit 11 0x31) w).cells
    empty = emptying unit w ranged fitted 0x31 empties not_reading

    pub printed_done : Done w (printed unit list)
    printed_done = (emptying_done unit w ranged fitted 0x31 empties, (planned_starts unit (step (write_byte unit 11 0x31) w) empty 1 clears).done)

    pub printed_goes : MayHave unit (holder_in w.cells) → GoesRound unit list (run (printed unit list) w).cells
    printed_goes may =
        planned_goes unit (step (write_byte unit 11 0x31) w) empty 1 clears refl (emptying_may unit w ranged fitted 0x31 empties may)

  -- wherever a master goes round it, a transmitter that wants k turns gets its share of any slices in a row
  pub planned_shares : (unit : ℕ) (w : World) → GoesRound unit list w.cells → (before during : List Event) → AllSpare unit before → AllSpare unit during
      → (address : ℕ)
      → Share (turns_for address (shares_in wanted)) (slices_in during) n (count address (addresses (run before w) during))
  planned_shares unit w goes before during spared sparing address =
      let s = share_of_slices unit list w goes before during spared sparing address in
      let gets = count address (addresses (run before w) during) in
      subst (λ (k : ℕ). Share k (slices_in during) n gets) (planned.list.exact address)
      (subst (λ (k : ℕ). Share (count address list) (slices_in during) k gets) planned.long s)
