-- A message under way whose memories are lent whole: a move of T's or of R's, and a slice after them, are allowed and do what is asked.
-- Assumes nothing.
use Rattle.std.specs.Prelude.{true, false, List, ◌≡◌, refl, ℕ, ◌+◌, ◌-◌, ◌≤◌, ◌<◌, eqb, length, get_or, Result, Option}
use Rattle.std.proofs.Common.{ap, sym, ◌∙◌, eqb-true}
use Rattle.std.proofs.Math.Path.{subst⁻¹}
use Rattle.cells.specs.Fitted.{transmitter_of, receiver_of}
use Rattle.delivery.specs.Ends.{Message}
use Rattle.promise.specs.Kinds.{kind_of, own, other}
use Rattle.delivery.proofs.Laws.Moves.{one_fewer, one_more}
use Rattle.delivery.specs.Laws.Slices.{State}
use Rattle.frames.specs.Laws.Moves.{receiver_move, transmitter_move}
use Rattle.frames.specs.Laws.Sides.{replaced_here, replaced_same}
use Rattle.frames.specs.Laws.Slices.{next_address}
use Rattle.laws.specs.Pick.{either, pick}
use Rattle.moves.specs.Moving.{receiver_moved, transmitter_moved}
use Rattle.pcl.specs.Numbers.{move_call_number}
use Rattle.pcl.specs.Sides.{move_call, received_by, sent_by}
use Rattle.receiver.specs.Moves as R
use Rattle.receiver.specs.declared.side.Receiver.{Receiver}
use Rattle.transmitter.specs.Moves as T
use Rattle.transmitter.specs.declared.side.Transmitter.{Transmitter}
use Rattle.promise.specs.Conditions.{Allowed}
use Rattle.promise.proofs.Laws.Events.{follows}
use Rattle.promise.proofs.Laws.SliceCalls.{slice_kind_lem}
use Rattle.promise.proofs.Laws.Follows.{length_same, receiver_fitted, sender_fitted}
use Rattle.outcomes.specs.Laws.MoveCalls.{length_called, receiver_call, sender_call}
use Rattle.promise.specs.Opening.{Parties, ends_of, message_in}
use Rattle.promise.proofs.Laws.Opens.{Opens}
use Rattle.promise.proofs.Laws.Standing.{Standing, ring_of}
use Rattle.promise.specs.World.{World, move, slice, step}
use Rattle.words.specs.declared.answers.Refusal.{Refusal}

module _ (p : Parties) (start : World) (o : Opens p start) where
  abbrev m : Message
  m = message_in p start

  -- the message stands, both memories are lent whole, and T's slice is the next but j
  pub record Ready (j : ℕ) (q : State) (w : World) : Type 0 where
    pub standing : Standing p start q w
    pub lent_sender : m.sending_length ≤ length (w.memory p.sender)
    pub lent_receiver : m.receiving_length ≤ length (w.memory p.receiver)
    pub inside : j < length (ring_of p w)
    pub comes : get_or (ring_of p w) j 0 ≡ m.from

  -- ---- a move

  module _ (j : ℕ) (q : State) (w : World) (r : Ready j q w) where
    abbrev t : Transmitter
    t = transmitter_of w.cells p.sender

    abbrev u : Receiver
    u = receiver_of w.cells p.receiver

    length_kept : (unit side k : ℕ) → length ((step (move unit side) w).memory k) ≡ length (w.memory k)
    length_kept unit side k =
        either (λ (l : List ℕ). length l ≡ length (w.memory k)) (eqb k unit)
        (λ e. length_called w.cells (w.memory unit) unit side ∙ ap (λ (n : ℕ). length (w.memory n)) (sym (eqb-true k unit e))) (λ e. refl)

    pub still_ready : (unit side : ℕ) → Allowed p m (move unit side) w → Ready j q (step (move unit side) w)
    still_ready unit side a =
        let f = follows p start o q w r.standing (move unit side) a in
        record {
          standing = f.standing;
          lent_sender = subst⁻¹ (λ (n : ℕ). m.sending_length ≤ n) (length_kept unit side p.sender) r.lent_sender;
          lent_receiver = subst⁻¹ (λ (n : ℕ). m.receiving_length ≤ n) (length_kept unit side p.receiver) r.lent_receiver;
          inside = subst⁻¹ (λ (ring : List ℕ). j < length ring) f.turning r.inside;
          comes = subst⁻¹ (λ (ring : List ℕ). get_or ring j 0 ≡ m.from) f.turning r.comes;
        }

    -- the calls are the moves of T and of R

    sender_calls : move_call w.cells (w.memory p.sender) p.sender 0
        ≡ sent_by (w.memory p.sender) (transmitter_moved w.cells (w.memory p.sender) p.sender)
    sender_calls =
        sender_call w.cells r.standing.ranged (w.memory p.sender) p.sender (sender_fitted p start o q w r.standing)
        (subst⁻¹ (λ (n : ℕ). n ≤ length (w.memory p.sender)) (length_same p start o q w r.standing p.sender) r.lent_sender)

    receiver_calls : move_call w.cells (w.memory p.receiver) p.receiver 1
        ≡ received_by (receiver_moved w.cells (w.memory p.receiver) p.receiver)
    receiver_calls =
        receiver_call w.cells r.standing.ranged (w.memory p.receiver) p.receiver (receiver_fitted p start o q w r.standing)
        (subst⁻¹ (λ (n : ℕ). n ≤ length (w.memory p.receiver)) (length_same p start o q w r.standing p.receiver) r.lent_receiver)

    pub sender_may : Allowed p m (move p.sender 0) w
    sender_may done theirs i h =
        ap (λ (l : List ℕ). get_or l (m.source + i) 0)
        (replaced_same w.memory p.sender _ p.sender (λ e. ap (λ (v : Result (Option ℕ) Refusal × List ℕ × List ℕ). v.2) sender_calls))

    pub receiver_may : Allowed p m (move p.receiver 1) w
    receiver_may done theirs = absurd (theirs refl)

    -- T's move that is done puts a word into its silo, R's takes one out and leaves T

    pub one_in : T.may_move t ≡ true → (transmitter_of (step (move p.sender 0) w).cells p.sender).end.silo.held ≡ t.end.silo.held + 1
    one_in may =
        let there = sender_fitted p start o q w r.standing in
        ap (λ (v : Result (Option ℕ) Refusal × List ℕ × List ℕ). (transmitter_of v.1 p.sender).end.silo.held) sender_calls
        ∙ ap (λ (x : Transmitter). x.end.silo.held)
        ((transmitter_move w.cells r.standing.ranged (w.memory p.sender) p.sender there).holds.transmitter p.sender there
        ∙ replaced_here (transmitter_of w.cells) p.sender _
        ∙ ap (λ (n : ℕ). (T.moved t (w.memory p.sender) n).side) (length_same p start o q w r.standing p.sender))
        ∙ one_more m q (ends_of p w) r.standing.delivering may

    pub one_out : R.may_move u ≡ true → (receiver_of (step (move p.receiver 1) w).cells p.receiver).end.silo.held ≡ u.end.silo.held - 1
    one_out may =
        let there = receiver_fitted p start o q w r.standing in
        ap (λ (v : Result (Option ℕ) Refusal × List ℕ × List ℕ). (receiver_of v.1 p.receiver).end.silo.held) receiver_calls
        ∙ ap (λ (x : Receiver). x.end.silo.held)
        ((receiver_move w.cells r.standing.ranged (w.memory p.receiver) p.receiver there).holds.receiver p.receiver there
        ∙ replaced_here (receiver_of w.cells) p.receiver _
        ∙ ap (λ (n : ℕ). (R.moved u (w.memory p.receiver) n).0.side) (length_same p start o q w r.standing p.receiver))
        ∙ one_fewer m q (ends_of p w) r.standing.delivering may

    pub sender_left : transmitter_of (step (move p.receiver 1) w).cells p.sender ≡ t
    sender_left =
        ap (λ (v : Result (Option ℕ) Refusal × List ℕ × List ℕ). transmitter_of v.1 p.sender) receiver_calls
        ∙ (receiver_move w.cells r.standing.ranged (w.memory p.receiver) p.receiver (receiver_fitted p start o q w r.standing)).holds.transmitter p.sender (sender_fitted p start o q w r.standing)

    -- ---- where both have moved until 4, a slice may come

    pub slice_may : T.may_move t ≡ false → R.may_move u ≡ false → Allowed p m (slice 0 0) w
    slice_may waits stopped done mine =
        record {
          data_undamaged = refl;
          parity_undamaged = refl;
          sender_moved = ap (λ (v : Result (Option ℕ) Refusal × List ℕ × List ℕ). move_call_number v.0) sender_calls ∙ rw waits;
          receiver_moved = ap (λ (v : Result (Option ℕ) Refusal × List ℕ × List ℕ). move_call_number v.0) receiver_calls ∙ rw stopped;
        }

    pub slice_comes : kind_of m.from (slice 0 0) w ≡ pick (eqb (next_address w.cells p.master) m.from) own other
    slice_comes = slice_kind_lem w.cells r.standing.ranged 0 0 p.master r.standing.mastered refl m.from
