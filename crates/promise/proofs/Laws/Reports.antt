-- What the hosts see where a message stands: nothing before its success, and the success from it on.
-- Assumes nothing.
use Rattle.std.specs.Prelude.{Bool, true, false, ◌&&◌, ◌||◌, ◌≡◌, refl, Ok}
use Rattle.std.proofs.Math.Bool.{and-false}
use Rattle.std.proofs.Common.{ap}
use Rattle.std.proofs.Math.Path.{subst⁻¹}
use Rattle.cells.specs.Fitted.{transmitter_of, receiver_of}
use Rattle.delivery.specs.Laws.Invariant.{Open}
use Rattle.delivery.specs.Laws.Slices.{State}
use Rattle.receiver.specs.Requests as R
use Rattle.receiver.specs.Side as RS
use Rattle.receiver.specs.declared.side.Receiver.{Receiver}
use Rattle.transmitter.specs.Requests as T
use Rattle.transmitter.specs.Side as TS
use Rattle.transmitter.specs.declared.side.Transmitter.{Transmitter}
use Rattle.promise.proofs.Laws.Follows.{receiver_fitted, sender_fitted}
use Rattle.promise.specs.Opening.{Parties, message_in}
use Rattle.promise.proofs.Laws.Opens.{Opens}
use Rattle.promise.proofs.Laws.RegisterReads.{level_is, receiver_channel, receiver_enabled, receiver_status, sender_channel, sender_enabled, sender_status, serial_is}
use Rattle.promise.specs.Reports.{Level, Reported, Unreported}
use Rattle.promise.proofs.Laws.Standing.{Standing}
use Rattle.promise.specs.World.{World}

or_true : (a : Bool) → a || true ≡ true
or_true true = refl
or_true false = refl

and_true : (a : Bool) → a && true ≡ a
and_true true = refl
and_true false = refl

-- ---- the levels: with no bit of a request standing, and with SUC TXF

quiet_sender : (t : Transmitter) → TS.has_error t ≡ false → t.outcome.success ≡ false → t.outcome.software_reject ≡ false → t.outcome.bus_busy ≡ false
    → T.level_of t ≡ false
quiet_sender t e s r b = rw (e, s, r, b) (and-false t.modes.interrupt_enable)

quiet_receiver : (r : Receiver) → RS.has_error r ≡ false → r.outcome.success ≡ false → r.outcome.reject_complete ≡ false → r.modes.memory_requests ≡ true
    → R.level_of r ≡ false
quiet_receiver r e s j n = rw (e, s, j, n, and-false (RS.data_out_ready r)) (and-false r.modes.interrupt_enable)

sender_stands : (t : Transmitter) → TS.has_error t ≡ false → t.outcome.success ≡ true → T.level_of t ≡ t.modes.interrupt_enable
sender_stands t e s = rw (e, s) (and_true t.modes.interrupt_enable)

receiver_stands : (r : Receiver) → RS.has_error r ≡ false → r.outcome.success ≡ true → R.level_of r ≡ r.modes.interrupt_enable
receiver_stands r e s = rw (e, s) (and_true r.modes.interrupt_enable)

module _ (p : Parties) (start : World) (o : Opens p start) (q : State) (w : World) (s : Standing p start q w) where
  abbrev t : Transmitter
  t = transmitter_of w.cells p.sender

  abbrev r : Receiver
  r = receiver_of w.cells p.receiver

  -- ---- before

  open_unreported : {ending awaiting owed : Bool} → Open (message_in p start) ending awaiting owed t r → Unreported p (message_in p start).serial w
  open_unreported c =
      let d = s.delivering in
      let there = sender_fitted p start o q w s in
      let far = receiver_fitted p start o q w s in
      let opened = c.in_step.talking.opened in
      let opened_there = c.in_step.listening.opened in
      record {
        status =
            sender_status w s.ranged p.sender there c.lasting.no_success (rw opened (or_true t.commands.send_word)) d.sending.no_reject d.sending.no_error;
        status_there =
            receiver_status w s.ranged p.receiver far c.lasting.no_success_there (rw opened_there (or_true r.commands.receive_word)) d.receiving.no_reject d.receiving.no_error;
        opened = sender_channel w s.ranged p.sender there opened;
        opened_there = receiver_channel w s.ranged p.receiver far opened_there;
        level =
            level_is w s.ranged p.sender there 0 false
            (ap Ok (quiet_sender t d.sending.no_error c.lasting.no_success d.sending.no_reject c.lasting.not_refused));
        level_there =
            level_is w s.ranged p.receiver far 1 false
            (ap Ok (quiet_receiver r d.receiving.no_error c.lasting.no_success_there d.receiving.no_reject d.receiving.requests));
        serial = serial_is w s.ranged p.sender there 0 (message_in p start).serial (ap Ok c.lasting.serial);
        serial_there = serial_is w s.ranged p.receiver far 1 (message_in p start).serial (ap Ok c.lasting.serial_there);
      }

-- while it is not done, the channel is open
pub unreported : (p : Parties) (start : World) (o : Opens p start) (q : State) (w : World) → Standing p start q w → (q ≡ State.done → ⊥) → Unreported p (message_in p start).serial w
unreported p start o (State.words i c) w s more = open_unreported p start o (State.words i c) w s s.delivering.channel.0
unreported p start o (State.due i) w s more = open_unreported p start o (State.due i) w s s.delivering.channel.0
unreported p start o State.last w s more = open_unreported p start o State.last w s s.delivering.channel
unreported p start o State.done w s more = absurd (more refl)

-- ---- from then on

pub reported : (p : Parties) (start : World) (o : Opens p start) (w : World) → Standing p start State.done w → Reported p (message_in p start).serial w
reported p start o w s =
    let d = s.delivering in
    let c = d.channel in
    let t = transmitter_of w.cells p.sender in
    let r = receiver_of w.cells p.receiver in
    let there = sender_fitted p start o State.done w s in
    let far = receiver_fitted p start o State.done w s in
    record {
      status =
          sender_status w s.ranged p.sender there c.success (rw (c.shut, c.not_sending)) d.sending.no_reject d.sending.no_error;
      status_there =
          receiver_status w s.ranged p.receiver far c.success_there (rw (c.shut_there, c.not_awaiting)) d.receiving.no_reject d.receiving.no_error;
      closed = sender_channel w s.ranged p.sender there c.shut;
      closed_there = receiver_channel w s.ranged p.receiver far c.shut_there;
      level =
          subst⁻¹ (Level w p.sender 0) (sender_enabled w s.ranged p.sender there)
          (level_is w s.ranged p.sender there 0 t.modes.interrupt_enable (ap Ok (sender_stands t d.sending.no_error c.success)));
      level_there =
          subst⁻¹ (Level w p.receiver 1) (receiver_enabled w s.ranged p.receiver far)
          (level_is w s.ranged p.receiver far 1 r.modes.interrupt_enable (ap Ok (receiver_stands r d.receiving.no_error c.success_there)));
      serial = serial_is w s.ranged p.sender there 0 (message_in p start).serial (ap Ok c.serial);
      serial_there = serial_is w s.ranged p.receiver far 1 (message_in p start).serial (ap Ok c.serial_there);
    }
