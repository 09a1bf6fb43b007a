-- A memory move leaves the channel of a message as it was.
-- Assumes nothing.
use Rattle.std.specs.Prelude.{Bool, true, false, List, ◌≡◌, ℕ}
use Rattle.std.proofs.Common.{sym, ◌∙◌, arith}
use Rattle.receiver.specs.Moves.{may_move}
use Rattle.receiver.specs.Groups as R
use Rattle.receiver.specs.declared.side.Receiver.{Receiver}
use Rattle.silos.specs.declared.Silo.{Silo}
use Rattle.transmitter.specs.Groups as T
use Rattle.transmitter.specs.declared.side.Modes.{Modes}
use Rattle.transmitter.specs.declared.side.Transmitter.{Transmitter}
use Rattle.words.specs.declared.load.Load.{Load}
use Rattle.delivery.specs.Ends.{Message}
use Rattle.delivery.specs.Laws.Invariant.{Channel, Open}
use Rattle.delivery.specs.Laws.Loading as Loading
use Rattle.delivery.specs.Laws.Slices.{State}
use Rattle.delivery.specs.Laws.Storing as Storing

-- a word that goes between a silo and a memory is no matter of the channel's
open_moved : {m : Message} {ending awaiting owed : Bool} {t : Transmitter} {r : Receiver} → Open m ending awaiting owed t r
    → (silo silo_there : Silo) (load load_there : Load) (modes : Modes)
    → Open m ending awaiting owed (T.with_modes (T.with_load (T.with_silo t silo) load) modes) (R.with_load (R.with_silo r silo_there) load_there)
open_moved o silo silo_there load load_there modes =
    let s = o.in_step in
    let l = s.listening in
    record {
      in_step =
          record {
            talking = record { opened = s.talking.opened; started = s.talking.started; no_error = s.talking.no_error };
            listening =
                record { opened = l.opened; sender = l.sender; no_error = l.no_error; parity = l.parity; accepting = l.accepting; receiving = l.receiving };
            block = s.block;
            crc = s.crc;
          };
      lasting = o.lasting;
      is_ending = o.is_ending;
      is_awaiting = o.is_awaiting;
      is_owed = o.is_owed;
      is_good = o.is_good;
    }

pub channel_loaded : (m : Message) (q : State) (t : Transmitter) (r : Receiver) (memory : List ℕ) → Channel m q t r
    → Channel m q (Loading.after t memory) r
channel_loaded m (State.words s c) t r memory (o, block) = (open_moved o _ _ _ _ _, block)
channel_loaded m (State.due s) t r memory (o, block) = (open_moved o _ _ _ _ _, block)
channel_loaded m State.last t r memory o = open_moved o _ _ _ _ _
channel_loaded m State.done t r memory c =
    record { shut = c.shut; shut_there = c.shut_there; success = c.success; success_there = c.success_there; not_sending = c.not_sending; not_awaiting = c.not_awaiting; silo_empty = c.silo_empty; serial = c.serial; serial_there = c.serial_there }

-- after success R's silo is empty, so that no word is moved
pub channel_stored : (m : Message) (q : State) (t : Transmitter) (r : Receiver) → may_move r ≡ true → Channel m q t r
    → Channel m q t (Storing.after r)
channel_stored m (State.words s c) t r may (o, block) = (open_moved o _ _ _ _ _, block)
channel_stored m (State.due s) t r may (o, block) = (open_moved o _ _ _ _ _, block)
channel_stored m State.last t r may o = open_moved o _ _ _ _ _
channel_stored m State.done t r may c =
    absurd (let e : true ≡ false = sym c.silo_empty ∙ Storing.some_word r may in let z : ◌≡◌ {A = ℕ} 0 1 = cc in omega arith)
