-- A whole transfer is so many single move calls, one after the other, each lent what the one before left: "moves until 4, or until a move sets
-- NXL, BC OFL or memory overflow; the count of words moved .., the missing address after No. 3". Of every transfer call, whatever it is lent.
-- Assumes nothing.
use Rattle.std.specs.Prelude.{true, false, not, List, ◌≡◌, eqb, leb, ltb, length, Result, Ok, Err, Option, Some, None, unwrap_or}
use Rattle.std.proofs.Common.{true≢false, sym, subst, ◌∙◌, not-suc-le-zero, eqb-true, lt-ltb, ltb-false, leb-false}
use Rattle.std.proofs.Math.Path.{refl, ap}
use Prim.Native.Nat.{ℕ, zero, suc, ◌+◌, ◌^◌, ◌≤◌, ◌<◌}
use native.Mathlib.Omega.{arith}
use Rattle.std.proofs.lemmas.Bool.{not-false}
use Rattle.cells.specs.Fitted.{transmitter_of, receiver_of}
use Rattle.cells.specs.Layout.{count_in, memory_length, unit_place}
use Rattle.cells.specs.Ranges.{in_range}
use Rattle.cells.specs.Laws.FittedLaws.{transmitter_within}
use Rattle.cells.specs.Laws.RangeLaws.{fitted}
use Rattle.codec.specs.Window.{cell}
use Rattle.frames.specs.Laws.Moves.{transmitter_move, receiver_move}
use Rattle.laws.specs.Pick.{pick, by, either, past, here}
use Rattle.moves.specs.Laws.Missing.{Short}
use Rattle.moves.specs.Moving.{transmitter_moved, receiver_moved}
use Rattle.moves.specs.Laws.Nothing.{has_moved, transmitter_answers, receiver_answers, receiver_memory, transmitter_may_not, receiver_may_not}
use Rattle.pcl.specs.Numbers.{move_call_number, move_call_value, transfer_number, transferred_number, transfer_value, transferred_value, missing_in, words_moved_in}
use Rattle.pcl.specs.Service.{transfer_call, sent_all_by, received_all_by}
use Rattle.pcl.specs.Sides.{move_call}
use Rattle.pcl.specs.Laws.Cases.{move_cases}
use Rattle.receiver.specs.Moves as R
use Rattle.service.specs.Transfers as S
use Rattle.service.specs.Transfers.{Lent, lent, transmitter_moved_on, receiver_moved_on, words_with}
use Rattle.service.specs.declared.transfers.Transfer.{Transfer}
use Rattle.words.specs.declared.answers.Refusal.{Refusal}
use Rattle.service.specs.Laws.Ended.{Begun, Ended, after, words_of, missing_of}
use Rattle.service.proofs.Laws.Falling.{t_room, r_room, sent_all, received_all}
use Rattle.service.specs.Laws.Kept.{out_keeps_length, in_keeps_length}
use Rattle.silos.specs.Silo.{count}
use Rattle.transmitter.specs.Moves as T
use Rattle.words.specs.Answers.{move_number}
use Rattle.outcomes.specs.Frames.{OthersStay, move_frame}
use Rattle.outcomes.specs.Ranges.{move_ranges}
use Rattle.outcomes.specs.Unchanged.{leaves_all, BothUnchanged}
use Rattle.outcomes.specs.Laws.MoveCalls.{sender_call, receiver_call, length_moved}
use Rattle.outcomes.specs.Transfers.{SoManyMoves, after_calls, called}

-- ---- one that is refused, or finds nothing to move

module _ (cells memory : List ℕ) (unit side : ℕ) where
  refused : (call : Result Transfer Refusal) → transfer_value call ≡ 0 → eqb (transfer_number call) 0 ≡ false
      → move_call_number (move_call cells memory unit side).0 ≡ transfer_number call → SoManyMoves cells memory unit side (call, cells, memory)
  unfolding after_calls
  refused call value number single =
      record {
        moves = 0;
        same = refl;
        each = λ i h. absurd (not-suc-le-zero h);
        next = past _ number single;
        begun = number;
        none = λ h. value;
        found = λ i h. absurd (not-suc-le-zero h);
        handed = λ i h. absurd (omega (arith, h));
        loaded = λ s. rw value (omega arith);
        stored = λ s. rw value (omega arith);
      }

-- ---- one that moves

-- the parts of a value are the transfer's
fits : (missing : Option ℕ) → Short (Ok missing) → unwrap_or missing 0 < 2 ^ 18
fits None h = omega arith
fits (Some address) h = h.1

words_in : (t : Result Transfer Refusal) → Begun t → words_moved_in (transferred_value t) ≡ words_of t
words_in (Err refusal) h = absurd h
words_in (Ok t) h = omega (arith, fits t.missing h)

missing_in_lem : (t : Result Transfer Refusal) → Begun t → missing_in (transferred_value t) ≡ missing_of t
missing_in_lem (Err refusal) h = absurd h
missing_in_lem (Ok t) h = omega (arith, fits t.missing h)

begun_0 : (t : Result Transfer Refusal) → Begun t → transferred_number t ≡ 0
begun_0 (Err refusal) h = absurd h
begun_0 (Ok t) h = refl

moved_0 : (m : Result (Option ℕ) Refusal) → has_moved m ≡ true → move_number m ≡ 0
moved_0 (Ok missing) h = refl
moved_0 (Err refusal) h = absurd (true≢false (sym h))

-- at a state at which a move call is the side's own move, and so from there on
module _ (unit side : ℕ) (move : Lent → Result (Option ℕ) Refusal × Lent) (Ready : Lent → Type 0)
    (agrees : (l : Lent) → Ready l → called unit side l ≡ ((move l).0, (move l).1)) (keeps : (l : Lent) → Ready l → Ready (move l).1) where
  pub ready_after : (n : ℕ) (l : Lent) → Ready l → Ready (after move n l)
  unfolding after
  ready_after zero l ready = ready
  ready_after (suc n) l ready = ready_after n (move l).1 (keeps l ready)

  after_calls_lem : (n : ℕ) (l : Lent) → Ready l → after_calls unit side n l ≡ after move n l
  unfolding after after_calls
  after_calls_lem zero l ready = refl
  after_calls_lem (suc n) l ready =
      ap (λ (c : Result (Option ℕ) Refusal × Lent). after_calls unit side n c.1) (agrees l ready) ∙ after_calls_lem n (move l).1 (keeps l ready)

  answer_after : (n : ℕ) (l : Lent) → Ready l → (called unit side (after_calls unit side n l)).0 ≡ (move (after move n l)).0
  answer_after n l ready =
      ap (λ (x : Lent). (called unit side x).0) (after_calls_lem n l ready) ∙ ap (λ (c : Result (Option ℕ) Refusal × Lent). c.0) (agrees (after move n l) (ready_after n l ready))

  module _ (with room : Lent → ℕ) (l : Lent) (ready : Ready l) (o : Result Transfer Refusal × Lent) (r : Ended move with room 0 l o) where
    pub at_end : Ready o.1
    at_end = subst Ready (sym r.same) (ready_after r.moves l ready)

    some : (n : ℕ) → n ≡ r.moves → has_moved (move l).0 ≡ true → 0 < n
    unfolding after
    some zero e moved =
        let there : o.1 ≡ l = r.same ∙ ap (λ (k : ℕ). after move k l) (sym e) in
        absurd (true≢false (sym moved ∙ ap (λ (m : Result (Option ℕ) Refusal × Lent). has_moved m.0) (ap move (sym there) ∙ r.last)))
    some (suc n) e moved = omega arith

    pub row_made : has_moved (move l).0 ≡ true
        → (side ≡ 0 → count (transmitter_of o.1.cells unit).end.silo ≡ count (transmitter_of l.cells unit).end.silo + words_of o.0)
        → (side ≡ 1 → count (receiver_of l.cells unit).end.silo ≡ count (receiver_of o.1.cells unit).end.silo + words_of o.0)
        → SoManyMoves l.cells l.memory unit side (o.0, o.1.cells, o.1.memory)
    row_made moved out into =
        let number = begun_0 o.0 r.begun in
        let words = words_in o.0 r.begun in
        let least : 0 < r.moves = some r.moves refl moved in
        record {
          moves = r.moves;
          same = r.same ∙ sym (after_calls_lem r.moves l ready);
          each = λ i h. ap move_call_number (answer_after i l ready) ∙ moved_0 (move (after move i l)).0 (r.each i h);
          next =
              ap move_call_number (answer_after r.moves l ready)
              ∙ ap (λ (x : Lent). move_number (move x).0) (sym r.same)
              ∙ ap (λ (m : Result (Option ℕ) Refusal × Lent). move_number m.0) r.last
              ∙ ap (λ (n : ℕ). pick (eqb n 0) 4 n) (sym number);
          begun = ap (λ (n : ℕ). eqb n 0) number ∙ sym (lt-ltb 0 r.moves least);
          none = λ e. absurd (omega (arith, e));
          found = λ i h. ap move_call_value (answer_after i l ready) ∙ r.found i h;
          handed = λ i h. ap move_call_value (answer_after i l ready) ∙ r.handed i h ∙ sym (missing_in_lem o.0 r.begun);
          loaded = λ s. out s ∙ ap (λ (n : ℕ). count (transmitter_of l.cells unit).end.silo + n) (sym words);
          stored = λ s. into s ∙ ap (λ (n : ℕ). count (receiver_of o.1.cells unit).end.silo + n) (sym words);
        }

-- ---- the two sides

-- in range, fitted, and lent the whole memory
abbrev Ready : ℕ → Lent → Type 0
Ready unit l = (in_range l.cells ≡ true) × (unit < count_in l.cells) × (memory_length l.cells unit ≤ length l.memory)

module _ (unit : ℕ) where
  sender_agrees : (l : Lent) → Ready unit l → called unit 0 l ≡ ((transmitter_moved_on unit l).0, (transmitter_moved_on unit l).1)
  sender_agrees l (ok, there, lends) = ap (λ (o : Result (Option ℕ) Refusal × List ℕ × List ℕ). (o.0, lent o.1 o.2)) (sender_call l.cells ok l.memory unit there lends)

  sender_keeps : (l : Lent) → Ready unit l → Ready unit (transmitter_moved_on unit l).1
  sender_keeps l (ok, there, lends) =
      let left = transmitter_move l.cells ok l.memory unit there in
      (left.ranged, rw left.kept.count there, rw (out_keeps_length l.cells l.memory unit (fitted l.cells ok unit there)) lends)

  receiver_agrees : (l : Lent) → Ready unit l → called unit 1 l ≡ ((receiver_moved_on unit l).0, (receiver_moved_on unit l).1)
  receiver_agrees l (ok, there, lends) = ap (λ (o : Result (Option ℕ) Refusal × List ℕ × List ℕ). (o.0, lent o.1 o.2)) (receiver_call l.cells ok l.memory unit there lends)

  receiver_keeps : (l : Lent) → Ready unit l → Ready unit (receiver_moved_on unit l).1
  receiver_keeps l (ok, there, lends) =
      let left = receiver_move l.cells ok l.memory unit there in
      let long : length (receiver_moved l.cells l.memory unit).2 ≡ length l.memory =
      ap length (receiver_memory l.cells l.memory unit) ∙ length_moved (receiver_of l.cells unit) l.memory (memory_length l.cells unit) in
      (left.ranged, rw left.kept.count there, rw (in_keeps_length l.cells l.memory unit (fitted l.cells ok unit there), long) lends)

  -- a transmitter's moves leave the memory
  memory_left : (n : ℕ) (l : Lent) → (after (transmitter_moved_on unit) n l).memory ≡ l.memory
  unfolding after
  memory_left zero l = refl
  memory_left (suc n) l = memory_left n (transmitter_moved_on unit l).1

module _ (cells memory : List ℕ) (unit : ℕ) (ok : in_range cells ≡ true) (there : unit < count_in cells) (lends : memory_length cells unit ≤ length memory) where
  abbrev l : Lent
  l = lent cells memory

  sent : SoManyMoves cells memory unit 0 (sent_all_by memory (S.transmitter_transferred cells memory unit))
  sent =
      let t = transmitter_of cells unit in
      let single = ap (λ (c : Result (Option ℕ) Refusal × Lent). move_call_number c.0) (sender_agrees unit l (ok, there, lends)) in
      either (λ (p : Result Transfer Refusal × List ℕ). SoManyMoves cells memory unit 0 (sent_all_by memory p)) (not (T.may_move t))
      (λ none. refused cells memory unit 0 (Err Refusal.Nothing) refl refl (single ∙ ap (λ (p : Result (Option ℕ) Refusal × List ℕ). move_number p.0) (sym (here _ none refl))))
      (λ some.
      let r = sent_all cells memory unit (fitted cells ok unit there) in
      let o = S.words_out unit 65 0 l in
      let ended = at_end unit 0 (transmitter_moved_on unit) (Ready unit) (sender_agrees unit) (sender_keeps unit) (λ (x : Lent). 1) (t_room unit) l (ok, there, lends) o r in
      let moved : has_moved (transmitter_moved cells memory unit).0 ≡ true =
      by (has_moved (transmitter_moved cells memory unit).0) (λ e. e)
      (λ e. absurd (true≢false (sym (transmitter_may_not t memory (memory_length cells unit) (ap has_moved (sym (transmitter_answers cells memory unit)) ∙ e)) ∙ some))) in
      let before = (transmitter_within cells unit (fitted cells ok unit there)).end.silo.most in
      let after_all = (transmitter_within o.1.cells unit (fitted o.1.cells ended.0 unit ended.1)).end.silo.most in
      subst (λ (m : List ℕ). SoManyMoves cells memory unit 0 (o.0, o.1.cells, m))
      (ap (λ (x : Lent). x.memory) r.same ∙ memory_left unit r.moves l)
      (row_made unit 0 (transmitter_moved_on unit) (Ready unit) (sender_agrees unit) (sender_keeps unit) (λ (x : Lent). 1) (t_room unit) l (ok, there, lends) o r moved
      (λ e. omega (arith, r.went)) (λ e. absurd (omega (arith, e)))))

  received : SoManyMoves cells memory unit 1 (received_all_by (S.receiver_transferred cells memory unit))
  received =
      let x = receiver_of cells unit in
      let single = ap (λ (c : Result (Option ℕ) Refusal × Lent). move_call_number c.0) (receiver_agrees unit l (ok, there, lends)) in
      either (λ (p : Result Transfer Refusal × List ℕ × List ℕ). SoManyMoves cells memory unit 1 (received_all_by p)) (not (R.may_move x))
      (λ none. refused cells memory unit 1 (Err Refusal.Nothing) refl refl (single ∙ ap (λ (p : Result (Option ℕ) Refusal × List ℕ × List ℕ). move_number p.0) (sym (here _ none refl))))
      (λ some.
      let r = received_all cells memory unit (fitted cells ok unit there) in
      let o = S.words_in unit 65 0 l in
      let moved : has_moved (receiver_moved cells memory unit).0 ≡ true =
      by (has_moved (receiver_moved cells memory unit).0) (λ e. e)
      (λ e. absurd (true≢false (sym (receiver_may_not x memory (memory_length cells unit) (ap has_moved (sym (receiver_answers cells memory unit)) ∙ e)) ∙ some))) in
      row_made unit 1 (receiver_moved_on unit) (Ready unit) (receiver_agrees unit) (receiver_keeps unit) (λ (y : Lent). words_with y.cells unit) (r_room unit) l (ok, there, lends) o r moved
      (λ e. absurd (omega (arith, e))) (λ e. omega (arith, r.went)))

-- ---- every transfer call

module _ (cells memory : List ℕ) (unit side : ℕ) where
  abbrev P : Result Transfer Refusal × List ℕ × List ℕ → Type 0
  P = SoManyMoves cells memory unit side

  -- where a move call is refused
  as_move : (call : Result (Option ℕ) Refusal) → move_call cells memory unit side ≡ (call, cells, memory) → move_call_number (move_call cells memory unit side).0 ≡ move_call_number call
  as_move call e = ap (λ (o : Result (Option ℕ) Refusal × List ℕ × List ℕ). move_call_number o.0) e

  pub transfer_moves : SoManyMoves cells memory unit side (transfer_call cells memory unit side)
  transfer_moves =
      either P (not (in_range cells)) (λ bad. refused cells memory unit side (Err Refusal.BadState) refl refl (as_move (Err Refusal.BadState) (sym (here _ bad refl))))
      (λ inside.
      let ok = not-false (in_range cells) inside in
      either P (leb (count_in cells) unit)
      (λ none. refused cells memory unit side (Err Refusal.NoUnit) refl refl (as_move (Err Refusal.NoUnit) (sym (past _ inside (here _ none refl)))))
      (λ some.
      let there = leb-false (count_in cells) unit some in
      either P (ltb (length memory) (memory_length cells unit))
      (λ short. refused cells memory unit side (Err Refusal.BadState) refl refl (as_move (Err Refusal.BadState) (sym (past _ inside (past _ some (here _ short refl))))))
      (λ whole.
      let lends = ltb-false (length memory) (memory_length cells unit) whole in
      either P (eqb side 0)
      (λ zero.
      let e = eqb-true side 0 zero in
      subst (λ (s : ℕ). SoManyMoves cells memory unit s (sent_all_by memory (S.transmitter_transferred cells memory unit))) (sym e) (sent cells memory unit ok there lends))
      (λ other.
      either P (eqb side 1)
      (λ one.
      let e = eqb-true side 1 one in
      subst (λ (s : ℕ). SoManyMoves cells memory unit s (received_all_by (S.receiver_transferred cells memory unit))) (sym e) (received cells memory unit ok there lends))
      (λ neither.
      refused cells memory unit side (Err Refusal.NoUnit) refl refl
      (as_move (Err Refusal.NoUnit) (sym (past _ inside (past _ some (past _ whole (past _ other (past _ neither refl))))))))))))

  -- "what any call leaves from a state in them", the ranges of 9
  calls_range : (n : ℕ) (l : Lent) → in_range l.cells ≡ true → in_range (after_calls unit side n l).cells ≡ true
  unfolding after_calls
  calls_range zero l ok = ok
  calls_range (suc n) l ok = calls_range n (called unit side l).1 (move_ranges l.cells ok l.memory unit side)

  pub transfer_ranges : in_range cells ≡ true → in_range (transfer_call cells memory unit side).1 ≡ true
  transfer_ranges ok =
      let m = transfer_moves in
      ap (λ (x : Lent). in_range x.cells) m.same ∙ calls_range m.moves (lent cells memory) ok

  -- with a number whose row says "unchanged", every cell and every word of the memory is as it was
  no_calls : (n : ℕ) (l : Lent) → n ≡ 0 → after_calls unit side n l ≡ l
  unfolding after_calls
  no_calls zero l e = refl
  no_calls (suc n) l e = absurd (omega (arith, e))

  pub transfer_refused : BothUnchanged transfer_number cells memory (transfer_call cells memory unit side)
  transfer_refused h =
      let m = transfer_moves in
      let left = by (eqb (transfer_number (transfer_call cells memory unit side).0) 0)
      (λ e. absurd (true≢false (sym h ∙ ap leaves_all (eqb-true (transfer_number (transfer_call cells memory unit side).0) 0 e))))
      (λ e. m.same ∙ no_calls m.moves (lent cells memory) (omega (arith, ltb-false 0 m.moves (sym m.begun ∙ e)))) in
      (ap (λ (x : Lent). x.cells) left, ap (λ (x : Lent). x.memory) left)

  -- every cell of every other unit stays
  move_count : (l : Lent) → count_in (called unit side l).1.cells ≡ count_in l.cells
  move_count l =
      move_cases l.cells (λ (o : Result (Option ℕ) Refusal × List ℕ × List ℕ). count_in o.1 ≡ count_in l.cells) l.memory unit side refl refl
      (λ ok there. (transmitter_move l.cells ok l.memory unit there).kept.count) (λ ok there. (receiver_move l.cells ok l.memory unit there).kept.count)

  calls_frame : (n : ℕ) (l : Lent) → OthersStay l.cells unit (after_calls unit side n l).cells
  unfolding after_calls
  calls_frame zero l k there apart j h = refl
  calls_frame (suc n) l k there apart j h =
      calls_frame n (called unit side l).1 k (rw (move_count l) there) apart j h ∙ move_frame l.cells unit l.memory side k there apart j h

  pub transfer_frame : OthersStay cells unit (transfer_call cells memory unit side).1
  transfer_frame k there apart j h =
      let m = transfer_moves in
      ap (λ (x : Lent). cell x.cells (unit_place k + j)) m.same ∙ calls_frame m.moves (lent cells memory) k there apart j h
