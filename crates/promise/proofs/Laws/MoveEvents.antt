-- A move call where a message stands: T's and R's take their words, and every other leaves both ends, the sent stretch and R's memory.
-- Assumes nothing.
use Rattle.std.specs.Prelude.{true, not, List, ◌≡◌, refl, ℕ, ◌+◌, ◌<◌, eqb, leb, ltb, length, get_or, Result, Option, Err}
use Rattle.std.proofs.Common.{ap, ap₂, subst, sym, ◌∙◌, eq-eqb, eqb-true, leb-false}
use Rattle.std.proofs.Math.Path.{subst⁻¹}
use Rattle.std.proofs.lemmas.Bool.{eqb-false}
use Rattle.cells.specs.Fitted.{transmitter_of, receiver_of}
use Rattle.cells.specs.Layout.{count_in, memory_length}
use Rattle.cells.specs.Ranges.{in_range}
use Rattle.delivery.specs.Ends.{Ends, Message}
use Rattle.words.specs.declared.answers.Refusal.{Refusal}
use Rattle.promise.specs.Kinds.{quiet}
use Rattle.delivery.specs.Laws.Invariant.{Delivering}
use Rattle.delivery.proofs.Laws.Moves.{receiver_moves, transmitter_moves}
use Rattle.delivery.specs.Laws.Slices.{State}
use Rattle.frames.specs.Laws.Leaves.{stays}
use Rattle.frames.specs.Laws.Moves.{receiver_move, transmitter_move}
use Rattle.frames.specs.Laws.Sides.{replaced_other, replaced_same}
use Rattle.laws.specs.Pick.{by, either, pick}
use Rattle.moves.specs.Moving as Moving
use Rattle.moves.specs.Laws.Nothing.{has_moved, receiver_answers, receiver_memory, receiver_stays}
use Rattle.outcomes.specs.Unchanged.{leaves_all}
use Rattle.outcomes.specs.Laws.RefusedSides.{nothing}
use Rattle.pcl.specs.Numbers.{move_call_number}
use Rattle.pcl.specs.Sides.{move_call, received_by, sent_by}
use Rattle.receiver.specs.Moves as R
use Rattle.receiver.specs.declared.side.Receiver.{Receiver}
use Rattle.transmitter.specs.Moves as T
use Rattle.transmitter.specs.declared.side.Transmitter.{Transmitter}
use Rattle.promise.specs.Conditions.{Allowed, SentKept}
use Rattle.promise.proofs.Laws.Follows.{Follows, length_same, quiet_follows}
use Rattle.promise.proofs.Laws.Memories.{written_elsewhere}
use Rattle.promise.specs.Opening.{Parties, ends_of, message_in}
use Rattle.promise.proofs.Laws.Opens.{Opens}
use Rattle.promise.proofs.Laws.Standing.{Standing}
use Rattle.promise.specs.World.{World, move, moved_by, step, with_memory}

module _ (p : Parties) (start : World) (o : Opens p start) (q : State) (w : World) (s : Standing p start q w) (unit : ℕ) where
  abbrev m : Message
  m = message_in p start

  abbrev x : Ends
  x = ends_of p w

  abbrev cells : List ℕ
  cells = w.cells

  abbrev memory : List ℕ
  memory = w.memory unit

  -- ---- the memories

  unwritten : (k : ℕ) → with_memory w.memory unit memory k ≡ w.memory k
  unwritten k = replaced_same w.memory unit memory k (λ e. refl)

  -- both ends with the memories that no move wrote
  with_unwritten : (t : Transmitter) (r : Receiver) → Delivering m q (record { transmitter = t; receiver = r; sending = x.sending; receiving = x.receiving })
      → Delivering m q (record { transmitter = t; receiver = r; sending = with_memory w.memory unit memory p.sender; receiving = with_memory w.memory unit memory p.receiver })
  with_unwritten t r =
      subst⁻¹ (Delivering m q)
      (ap₂ (λ (a b : List ℕ). record { transmitter = t; receiver = r; sending = a; receiving = b }) (unwritten p.sender) (unwritten p.receiver))

  -- ---- a call that is not done

  not_moved : (answer : Result (Option ℕ) Refusal) → Follows p start q w quiet (moved_by w unit (answer, cells, memory))
  not_moved answer =
      quiet_follows p start o q w s (stays s.ranged) refl refl (with_memory w.memory unit memory)
      (with_unwritten x.transmitter x.receiver s.delivering)

  module _ (fitted : unit < count_in cells) where
    -- ---- a transmitter's

    sent : Follows p start q w quiet (moved_by w unit (sent_by memory (Moving.transmitter_moved cells memory unit)))
    sent =
        let side = (T.moved (transmitter_of cells unit) memory (memory_length cells unit)).side in
        quiet_follows p start o q w s (transmitter_move cells s.ranged memory unit fitted) refl refl (with_memory w.memory unit memory)
        (with_unwritten _ x.receiver
        (by (eqb p.sender unit)
        (λ e.
        let here = eqb-true p.sender unit e in
        let same : (T.moved (transmitter_of cells p.sender) (w.memory p.sender) m.sending_length).side ≡ side =
        ap (λ (n : ℕ). (T.moved (transmitter_of cells p.sender) (w.memory p.sender) n).side) (sym (length_same p start o q w s p.sender))
        ∙ ap (λ (k : ℕ). (T.moved (transmitter_of cells k) (w.memory k) (memory_length cells k)).side) here in
        rw e
        (subst (λ (t : Transmitter). Delivering m q (record { transmitter = t; receiver = x.receiver; sending = x.sending; receiving = x.receiving })) same
        (transmitter_moves m q x s.delivering)))
        (λ e. rw e s.delivering)))

    -- ---- R's, and another receiver's

    abbrev both : R.Moved × List ℕ
    both = R.moved (receiver_of cells unit) memory (memory_length cells unit)

    -- what the memory of the unit becomes
    abbrev new : List ℕ
    new = (Moving.receiver_moved cells memory unit).2

    new_is : new ≡ both.1
    new_is = receiver_memory cells memory unit

    abbrev after_receiver : World
    after_receiver = moved_by w unit (received_by (Moving.receiver_moved cells memory unit))

    received : p.receiver ≡ unit → Follows p start q w quiet after_receiver
    received mine =
        let same : R.moved (receiver_of cells p.receiver) (w.memory p.receiver) m.receiving_length ≡ both =
        ap (R.moved (receiver_of cells p.receiver) (w.memory p.receiver)) (sym (length_same p start o q w s p.receiver))
        ∙ ap (λ (k : ℕ). R.moved (receiver_of cells k) (w.memory k) (memory_length cells k)) mine in
        let Put : ℕ → R.Moved × List ℕ → Type 0 = λ k v.
        Delivering m q
        (record { transmitter = x.transmitter; receiver = v.0.side; sending = pick (eqb p.sender k) v.1 x.sending; receiving = v.1 }) in
        quiet_follows p start o q w s (receiver_move cells s.ranged memory unit fitted) refl refl (with_memory w.memory unit new)
        (rw (eq-eqb p.receiver unit mine)
        (subst⁻¹ (λ (l : List ℕ). Delivering m q (record { transmitter = x.transmitter; receiver = both.0.side; sending = pick (eqb p.sender unit) l x.sending; receiving = l })) new_is
        (subst (λ (k : ℕ). Put k both) mine (subst (Put p.receiver) same (receiver_moves m q x s.delivering)))))

    -- a receiver's move that is not done leaves the memory
    refused_keeps : leaves_all (move_call_number (Moving.receiver_moved cells memory unit).0) ≡ true → SentKept p m w after_receiver
    refused_keeps refused i h =
        ap (λ (l : List ℕ). get_or l (m.source + i) 0)
        (replaced_same w.memory unit new p.sender
        (λ e. ap (λ (v : Result (Option ℕ) Refusal × List ℕ × List ℕ). v.2) (receiver_stays cells memory unit (ap has_moved (sym (receiver_answers cells memory unit)) ∙ nothing (Moving.receiver_moved cells memory unit).0 refused))))

    received_elsewhere : (p.receiver ≡ unit → ⊥) → SentKept p m w after_receiver → Follows p start q w quiet after_receiver
    received_elsewhere theirs kept =
        quiet_follows p start o q w s (receiver_move cells s.ranged memory unit fitted) refl refl (with_memory w.memory unit new)
        (subst⁻¹ (λ (r : Receiver). Delivering m q (record { transmitter = x.transmitter; receiver = r; sending = with_memory w.memory unit new p.sender; receiving = with_memory w.memory unit new p.receiver }))
        (replaced_other (receiver_of cells) unit both.0.side p.receiver theirs) (written_elsewhere p start q w s unit new theirs kept))

-- ---- the call

module _ (p : Parties) (start : World) (o : Opens p start) (q : State) (w : World) (s : Standing p start q w) (unit side : ℕ) where
  abbrev By : Result (Option ℕ) Refusal × List ℕ × List ℕ → Type 0
  By r = move_call w.cells (w.memory unit) unit side ≡ r → Follows p start q w quiet (moved_by w unit r)

  pub move_follows : Allowed p (message_in p start) (move unit side) w → Follows p start q w quiet (step (move unit side) w)
  move_follows allowed =
      let none = not_moved p start o q w s unit in
      either By (not (in_range w.cells)) (λ e c. none (Err Refusal.BadState))
      (λ ok. either By (leb (count_in w.cells) unit) (λ e c. none (Err Refusal.NoUnit))
      (λ some.
      let fitted = leb-false (count_in w.cells) unit some in
      either By (ltb (length (w.memory unit)) (memory_length w.cells unit)) (λ e c. none (Err Refusal.BadState))
      (λ e. either By (eqb side 0) (λ e c. sent p start o q w s unit fitted)
      (λ e. either By (eqb side 1)
      (λ e c.
      by (eqb p.receiver unit) (λ mine. received p start o q w s unit fitted (eqb-true p.receiver unit mine))
      (λ other.
      let theirs = eqb-false p.receiver unit other in
      let answer = (Moving.receiver_moved w.cells (w.memory unit) unit).0 in
      received_elsewhere p start o q w s unit fitted theirs
      (by (leaves_all (move_call_number answer)) (refused_keeps p start o q w s unit fitted)
      (λ done.
      subst (λ (r : Result (Option ℕ) Refusal × List ℕ × List ℕ). SentKept p (message_in p start) w (moved_by w unit r)) c
      (allowed (ap (λ (r : Result (Option ℕ) Refusal × List ℕ × List ℕ). leaves_all (move_call_number r.0)) c ∙ done) (λ here. theirs (sym here)))))))
      (λ e c. none (Err Refusal.NoUnit)))))) refl
