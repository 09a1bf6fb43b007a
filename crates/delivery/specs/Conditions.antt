-- Document 01, Conditions of demand 3: those at the opening, which are of the two ends and their memories. `promise` has the opening
-- slice (`Opening`) and the conditions after it (`Conditions`).
-- Assumes nothing.
use Rattle.std.specs.Prelude.{Bool, true, false, ◌≡◌, ℕ, ◌+◌, ◌-◌, ◌*◌, ◌^◌, ◌≤◌, ◌<◌, length}
use Rattle.receiver.specs.Side as R
use Rattle.silos.specs.Silo.{is_empty}
use Rattle.transmitter.specs.Side as T
use Rattle.words.specs.Load.{words_left}
use Rattle.delivery.specs.Ends.{Ends, source_of, target_of, left_of, content_of}

-- so many words from a word on, in a memory fitted with so many
pub record Stretch (start count memory : ℕ) : Type 0 where
  -- "inside their memories"
  pub inside : (i : ℕ) → i < count → start + i < memory
  -- "and short of byte 777776" (octal): no word lies at that byte or past it
  pub short : (i : ℕ) → i < count → (start + i) * 2 < 2 ^ 18 - 2

-- "not overlapping in a shared memory"
abbrev pub Apart : ℕ → ℕ → ℕ → ℕ → Type 0
Apart a k b n = (i j : ℕ) → i < k → j < n → a + i ≡ b + j → ⊥

-- x is as it stands before the opening slice. n is the length of `content_of x`: those in T's silo, then those the load has left. That all
-- of them came by the moves of one load, into an empty silo, is more than is needed.
pub record Conditions (x : Ends) (sending_length receiving_length : ℕ) (shared : Bool) : Type 0 where
  -- "n is 1 to 32,768"
  pub some : 1 ≤ length (content_of x)
  pub most : length (content_of x) ≤ 32768
  -- "both ends closed before"
  pub transmitter_closed : x.transmitter.end.opened ≡ false
  pub receiver_closed : x.receiver.end.opened ≡ false
  -- "TX NPR set while any are left": a load that has ended has none left, and with it TX NPR was cleared
  pub transmitter_requests : 1 ≤ left_of x → x.transmitter.modes.memory_requests ≡ true
  -- "ST TXM, SND WD set"
  pub start_transmission : x.transmitter.commands.start_transmission ≡ true
  pub send_word : x.transmitter.commands.send_word ≡ true
  -- "R's silo empty, RCV WD, RCV DAT, RC NPR set, REJ clear"
  pub silo_empty : is_empty x.receiver.end.silo ≡ true
  pub receive_word : x.receiver.commands.receive_word ≡ true
  pub receive_data : x.receiver.commands.receive_data ≡ true
  pub receiver_requests : x.receiver.modes.memory_requests ≡ true
  pub not_rejecting : x.receiver.modes.reject ≡ false
  -- "RDBC good for n words or more"
  pub count_good : length (content_of x) ≤ words_left x.receiver.end.load
  -- "INH ADI and RD SILO clear"
  pub transmitter_increments : x.transmitter.modes.inhibit_increment ≡ false
  pub receiver_increments : x.receiver.modes.inhibit_increment ≡ false
  pub read_silo : x.transmitter.modes.read_silo ≡ false
  -- "no status bit of a request standing after the opening": ERR, SUC TXF, SORE or RECOM, which the opening leaves as they are. TBS BSY
  -- may stand before it, and is cleared by it.
  pub transmitter_no_error : T.has_error x.transmitter ≡ false
  pub transmitter_no_success : x.transmitter.outcome.success ≡ false
  pub no_software_reject : x.transmitter.outcome.software_reject ≡ false
  pub receiver_no_error : R.has_error x.receiver ≡ false
  pub receiver_no_success : x.receiver.outcome.success ≡ false
  pub no_reject_complete : x.receiver.outcome.reject_complete ≡ false
  -- "both stretches inside their memories and short of byte 777776": of the sent stretch, what is still to be moved
  pub sent_stretch : Stretch (source_of x) (left_of x) sending_length
  pub stored_stretch : Stretch (target_of x) (length (content_of x)) receiving_length
  -- "not overlapping in a shared memory"
  pub stretches_apart : shared ≡ true → Apart (source_of x) (left_of x) (target_of x) (length (content_of x))
  -- Numbers, 9: the memories are lent with all their words
  pub sending_lent : sending_length ≤ length x.sending
  pub receiving_lent : receiving_length ≤ length x.receiving
