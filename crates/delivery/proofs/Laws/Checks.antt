-- The slices of T's that carry a CRC, and those after success: where each takes a message.
-- Assumes nothing.
use Rattle.std.specs.Prelude.{false, ◌≡◌, refl, ℕ, ◌<◌, length}
use Rattle.std.proofs.Common.{sym, subst, ◌∙◌}
use Rattle.sending.specs.Choice.{chosen}
use Rattle.sending.specs.declared.choice.Choice.{Choice}
use Rattle.slices.specs.Laws.InStep.{due_step, due_verdict, last_step, last_verdict, in_step_due, in_step_restarted, in_step_last}
use Rattle.slices.specs.Laws.Keeps.{idle}
use Rattle.slices.specs.Slice.{exchanged}
use Rattle.slices.specs.declared.Pair.{Pair}
use Rattle.delivery.specs.Laws.Calls.{MovedUntil4, sliced, with}
use Rattle.delivery.specs.Ends.{Ends, Message}
use Rattle.delivery.specs.Laws.Invariant.{Channel, Delivering, Receiving, Sending, sent_in}
use Rattle.delivery.specs.Laws.Slices.{State, Well, falls}
use Rattle.delivery.specs.Laws.Storing.{until_4}
use Rattle.delivery.proofs.Laws.Waiting.{all_sent_lem, not_all_sent, silo_emptied}

module _ (m : Message) (x : Ends) where
  abbrev n : ℕ
  n = length m.content

  -- a slice whose outcome is known takes the message to q'
  pub to : {q : State} → Delivering m q x → (q' : State) {p : Pair} → exchanged x.transmitter x.receiver m.from 0 false ≡ p → Well n q'
      → Sending m (sent_in n q') p.transmitter → Receiving m (sent_in n q') p.receiver x.receiving
      → Channel m q' p.transmitter p.receiver → Delivering m q' (sliced m x)
  to d q' {p} e well sending receiving channel =
      subst (λ (p : Pair). Delivering m q' (with x p)) (sym e)
      (record {
        laid = d.laid;
        well = well;
        holds = d.holds;
        one = d.one;
        sending = sending;
        receiving = receiving;
        channel = channel;
      })

  -- ---- the verdict on a due CRC

  pub restarts : (s : ℕ) → Delivering m (State.due s) x → Delivering m (State.words s 0) (sliced m x)
  restarts s d =
      let o = d.channel.0 in
      let i = o.in_step in
      to d (State.words s 0)
      (due_verdict x.transmitter x.receiver m.from i o.is_ending o.is_awaiting d.channel.1 o.is_owed o.is_good)
      (falls n (State.due s) d.well).0
      d.sending
      d.receiving (
        record {
          in_step = in_step_restarted x.transmitter x.receiver m.from i;
          lasting = o.lasting;
          is_ending = o.is_ending;
          is_awaiting = refl;
          is_owed = refl;
          is_good = refl;
        },
        refl,
      )

  -- ---- the verdict on the last CRC: "11, success and R closes"

  pub succeeds : Delivering m State.last x → MovedUntil4 m x → Delivering m State.done (sliced m x)
  succeeds d until =
      let o = d.channel in
      let i = o.in_step in
      let stopped = until_4 x.receiver x.receiving m.receiving_length until.receiver in
      let none = silo_emptied m n x.receiver x.receiving d.receiving stopped in
      to d State.done
      (last_verdict x.transmitter x.receiver m.from i o.is_ending o.is_owed o.is_good none o.lasting.not_truncated)
      tt
      d.sending
      d.receiving
      (record {
        shut = refl;
        shut_there = refl;
        success = refl;
        success_there = refl;
        not_sending = refl;
        not_awaiting = refl;
        silo_empty = none;
        serial = o.lasting.serial;
        serial_there = o.lasting.serial_there;
      })

  -- ---- after success T is idle

  pub stays : Delivering m State.done x → Delivering m State.done (sliced m x)
  stays d =
      let c = d.channel in
      let none : chosen x.transmitter ≡ Choice.Idle = rw (c.shut, c.not_sending) in
      to d State.done (idle x.transmitter x.receiver m.from 0 false none) tt d.sending d.receiving c

  -- ---- s words were sent

  module _ (s c : ℕ) (d : Delivering m (State.words s c) x) where
    -- all of them: the last CRC is taken
    pub ends : s ≡ n → Delivering m State.last (sliced m x)
    ends all =
        let o = d.channel.0 in
        let i = o.in_step in
        let sent = all_sent_lem m s x.transmitter d.sending i.talking.started all in
        to d State.last
        (last_step x.transmitter x.receiver m.from i o.is_ending o.is_awaiting sent o.is_owed)
        tt
        (subst (λ (k : ℕ). Sending m k x.transmitter) all d.sending)
        (subst (λ (k : ℕ). Receiving m k x.receiver x.receiving) all d.receiving)
        (record {
          in_step = in_step_last x.transmitter x.receiver m.from i;
          lasting = o.lasting;
          is_ending = refl;
          is_awaiting = o.is_awaiting;
          is_owed = refl;
          is_good = refl;
        })

    module _ (more : s < n) where
      -- 128 since the last CRC: the due one is taken
      pub checks : c ≡ 128 → Delivering m (State.due s) (sliced m x)
      checks full =
          let o = d.channel.0 in
          let i = o.in_step in
          let not_all = not_all_sent m s x.transmitter d.sending i.talking.started more in
          to d (State.due s)
          (due_step x.transmitter x.receiver m.from i o.is_ending o.is_awaiting not_all (d.channel.1 ∙ full) o.is_owed)
          more
          d.sending
          d.receiving (
            record {
              in_step = in_step_due x.transmitter x.receiver m.from i;
              lasting = o.lasting;
              is_ending = o.is_ending;
              is_awaiting = refl;
              is_owed = refl;
              is_good = refl;
            },
            d.channel.1 ∙ full,
          )
