-- What no slice is: every rule by which a call other than a slice changes a side opens none, and leaves its serial. A side that is open after
-- it was open before, with the same partner and the same count, and a receiver's silo holds no more than before.
-- Assumes nothing.
use Rattle.std.specs.Prelude.{true, not, ◌&&◌, ◌||◌, List, ◌≡◌, refl, ℕ, ◌≤◌, eqb, Result, Ok, Err}
use Rattle.std.proofs.lemmas.Bool.{false≢true}
use Rattle.std.proofs.Common.{arith}
use Rattle.laws.specs.Pick.{either}
use Rattle.receiver.specs.Moves as RM
use Rattle.receiver.specs.Periods as RP
use Rattle.receiver.specs.Side as R
use Rattle.receiver.specs.declared.side.Receiver.{Receiver}
use Rattle.receiver_registers.specs.Reading as RR
use Rattle.receiver_registers.specs.Writing as RW
use Rattle.silos.specs.Silo.{count, is_empty, taken}
use Rattle.silos.specs.declared.Silo.{Silo}
use Rattle.transmitter.specs.Down.{master_missed, misses_master}
use Rattle.transmitter.specs.Moves as TM
use Rattle.transmitter.specs.Periods as TP
use Rattle.transmitter.specs.Side as T
use Rattle.transmitter.specs.declared.side.Transmitter.{Transmitter}
use Rattle.transmitter_registers.specs.Reading as TR
use Rattle.transmitter_registers.specs.Writing as TW
use Rattle.words.specs.Address.{place_of}
use Rattle.words.specs.Answers.{read_word}
use Rattle.words.specs.Halves.{even_below, with_half}
use Rattle.words.specs.Load.{word_moved}

-- ---- a transmitter

abbrev pub Still : Transmitter → Transmitter → Type 0
Still t after =
    (after.end.serial ≡ t.end.serial)
    × (after.end.opened ≡ true
    → (t.end.opened ≡ true) × (after.channel.destination ≡ t.channel.destination) × (after.end.block ≡ t.end.block))

module _ (t : Transmitter) where
  pub still_same : Still t t
  still_same = (refl, λ e. (e, refl, refl))

  -- TX INIT and reset
  pub still_initial : Still t (T.initialised t)
  still_initial = (refl, λ e. absurd (false≢true e))

  pub still_missed : Still t (master_missed t)
  still_missed = either (Still t) (misses_master t) (λ e. still_same) (λ e. still_same)

  pub still_period : Still t (TP.period_passed t)
  still_period = either (Still t) (t.end.mark && T.is_busy t) (λ e. still_same) (λ e. still_same)

  still_from : (memory : List ℕ) (p : Result ℕ ℕ) → Still t (TM.moved_from t memory p).side
  still_from memory (Ok at) =
      either (Still t) (word_moved t.end.load t.modes.inhibit_increment).overflow (λ e. still_same) (λ e. still_same)
  still_from memory (Err address) = still_same

  pub still_moved : (memory : List ℕ) (fitted : ℕ) → Still t (TM.moved t memory fitted).side
  still_moved memory fitted =
      either (λ (m : TM.Moved). Still t m.side) (not (TM.may_move t)) (λ e. still_same)
      (λ e. still_from memory (place_of t.end.load.address.0 fitted))

  pub still_read : (offset : ℕ) → Still t (TR.read_of t offset).side
  still_read offset =
      let P : TR.Reading → Type 0 = λ x. Still t x.side in
      either P (eqb offset 4)
      (λ e. either P (is_empty t.end.silo) (λ e. still_same) (λ e. either P t.modes.read_silo (λ e. still_same) (λ e. still_same)))
      (λ e. still_same)

  pub still_written : (offset word : ℕ) → Still t (TW.written t offset word).side
  still_written offset word =
      let P : TW.Written → Type 0 = λ x. Still t x.side in
      either P (eqb offset 0) (λ e. still_same)
      (λ e. either P (eqb offset 2) (λ e. either (Still t) (TW.rises t (TW.status_set t word)) (λ e. still_same) (λ e. still_same))
      (λ e. either P (eqb offset 4) (λ e. either P (T.data_in_ready t) (λ e. still_same) (λ e. still_same))
      (λ e. either P (eqb offset 6) (λ e. still_same)
      (λ e. either P (eqb offset 8) (λ e. still_same) (λ e. either P (eqb offset 12) (λ e. still_same) (λ e. still_same))))))

  pub still_byte : (offset byte : ℕ) → Still t (TW.byte_written t offset byte).side
  still_byte offset byte =
      either (λ (x : TW.Written). Still t x.side) (eqb (even_below offset) 4) (λ e. still_same)
      (λ e. still_written (even_below offset) (with_half (read_word (TR.show_of t (even_below offset))) offset byte))

-- ---- a receiver

abbrev pub StillThere : Receiver → Receiver → Type 0
StillThere r after =
    (after.end.serial ≡ r.end.serial)
    × (after.end.opened ≡ true → (r.end.opened ≡ true) × (after.modes.sender ≡ r.modes.sender) × (after.end.block ≡ r.end.block))
    × (count after.end.silo ≤ count r.end.silo)

-- one word fewer, or none
fewer : (s : Silo) → count (taken s) ≤ count s
fewer s = either (λ (x : Silo). count x ≤ count s) (is_empty s) (λ e. omega arith) (λ e. omega arith)

module _ (r : Receiver) where
  pub there_same : StillThere r r
  there_same = (refl, λ o. (o, refl, refl), omega arith)

  -- RC INIT and reset
  pub there_initial : StillThere r (R.initialised r)
  there_initial = (refl, λ o. absurd (false≢true o), omega arith)

  pub there_period : StillThere r (RP.period_passed r)
  there_period = either (StillThere r) (r.end.mark && r.end.opened) (λ e. there_same) (λ e. there_same)

  there_passed : StillThere r (RM.word_passed r)
  there_passed =
      let one : count (taken r.end.silo) ≤ count r.end.silo = fewer r.end.silo in
      either (StillThere r) (word_moved r.end.load r.modes.inhibit_increment).overflow (λ e. (refl, λ o. (o, refl, refl), one)) (λ e. (refl, λ o. (o, refl, refl), one))

  there_to : (memory : List ℕ) (p : Result ℕ ℕ) → StillThere r (RM.moved_to r memory p).0.side
  there_to memory (Ok at) = there_passed
  there_to memory (Err address) = there_same

  pub there_moved : (memory : List ℕ) (fitted : ℕ) → StillThere r (RM.moved r memory fitted).0.side
  there_moved memory fitted =
      let P : RM.Moved × List ℕ → Type 0 = λ m. StillThere r m.0.side in
      either P (not (RM.may_move r)) (λ e. there_same)
      (λ e. either P (not r.end.load.loaded) (λ e. there_same) (λ e. there_to memory (place_of r.end.load.address.0 fitted)))

  pub there_read : (offset : ℕ) → StillThere r (RR.read_of r offset).side
  there_read offset =
      let P : RR.Reading → Type 0 = λ x. StillThere r x.side in
      either P (eqb offset 20)
      (λ e. either P (is_empty r.end.silo) (λ e. there_same)
      (λ e. either P r.modes.memory_requests (λ e. there_same) (λ e. (refl, λ o. (o, refl, refl), fewer r.end.silo))))
      (λ e. there_same)

  pub there_written : (offset word : ℕ) → StillThere r (RW.written r offset word).side
  there_written offset word =
      let P : RW.Written → Type 0 = λ x. StillThere r x.side in
      either P (eqb offset 16) (λ e. either (StillThere r) (RW.initialises word) (λ e. there_initial) (λ e. there_same))
      (λ e. either P (eqb offset 18) (λ e. either (StillThere r) (RW.rises r (RW.status_set r word)) (λ e. there_same) (λ e. there_same))
      (λ e. either P (eqb offset 22) (λ e. there_same)
      (λ e. either P (eqb offset 24) (λ e. there_same)
      (λ e. either P (eqb offset 20 || eqb offset 26) (λ e. there_same) (λ e. there_same)))))

  pub there_byte : (offset byte : ℕ) → StillThere r (RW.byte_written r offset byte).side
  there_byte offset byte =
      either (λ (x : RW.Written). StillThere r x.side) (eqb (even_below offset) 20) (λ e. there_same)
      (λ e. there_written (even_below offset) (with_half (read_word (RR.show_of r (even_below offset))) offset byte))
