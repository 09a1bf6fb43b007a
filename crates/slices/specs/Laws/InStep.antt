-- Two ends in step, on undamaged slices: what each kind of slice of a message does to both. The proof of delivery goes by these.
-- Assumes nothing.
use Rattle.std.specs.Prelude.{true, false, ◌≡◌, refl, ℕ, ◌+◌, ◌<◌}
use Rattle.std.proofs.Common.{ap, sym, ◌∙◌}
use Rattle.answering.specs.Laws.Hears.{hears_word, hears_due, passes_due, hears_last, passes_last, hears_opening}
use Rattle.answering.specs.Laws.Listening.{Listening, after_word, after_crc, after_due, after_last, listening_word, listening_crc, listening_due, listening_opening}
use Rattle.answering.specs.Laws.Listening as R
use Rattle.answering.specs.Events.{opening as listening_to}
use Rattle.answering.specs.Rules.{answered_by}
use Rattle.ends.specs.Ends.{raised}
use Rattle.receiver.specs.declared.side.Receiver.{Receiver}
use Rattle.sending.specs.Choice.{all_sent, sent_by}
use Rattle.sending.specs.Events.{closed, succeeded, counted, restarted}
use Rattle.sending.specs.Hearing.{after_sending, showing}
use Rattle.sending.specs.Laws.Talking.{Talking, sends_word, sends_due, sends_due_again, sends_last, sends_last_again, word_accepted, talking_word, talking_due, talking_restarted, talking_last, sends_opening, opening_accepted, talking_opened}
use Rattle.sending.specs.Laws.Talking as T
use Rattle.sending.specs.Events.{opening as talking_to}
use Rattle.sending.specs.declared.choice.Choice.{Choice}
use Rattle.silos.specs.Silo.{is_empty, has_room, oldest}
use Rattle.transmitter.specs.Requests.{settled}
use Rattle.transmitter.specs.declared.side.Transmitter.{Transmitter}
use Rattle.words.specs.Crc.{crc_word}
use Rattle.words.specs.Lines.{damaged}
use Rattle.words.specs.Laws.LineLaws.{undamaged, parity_good}
use Rattle.words.specs.declared.codes.Codes.{Codes}
use Rattle.slices.specs.Slice.{ended, exchanged, exchanged_as}
use Rattle.slices.specs.declared.Pair.{Pair}

-- open with each other, the same count of 128 and the same CRC at both ends, and nothing that stands in the way
pub record InStep (t : Transmitter) (r : Receiver) (from : ℕ) : Type 0 where
  pub talking : Talking t
  pub listening : Listening r from
  pub block : r.end.block ≡ t.end.block
  pub crc : r.end.crc ≡ t.end.crc

abbrev codes : ℕ → ℕ → Codes
codes a b = record { a = a; b = b }

abbrev ends : Transmitter → Receiver → ℕ → ℕ → Pair
ends t r a b = record { transmitter = t; receiver = r; codes = codes a b }

module _ (t : Transmitter) (r : Receiver) (from : ℕ) (s : InStep t r from) where
  -- with no damage, R answers what T's choice sends
  plain : (choice : Choice) → damaged (sent_by t choice) 0 false ≡ sent_by t choice
  plain choice = undamaged (sent_by t choice)

  module _ (going : t.channel.ending ≡ false) where
    module _ (free : t.channel.awaiting ≡ false) where
      module _ (more : all_sent t ≡ false) where
        -- a word answered 11 leaves T's silo by its head and joins R's silo at its end
        pub word_step : t.end.block < 128 → is_empty t.end.silo ≡ false → has_room 64 r.end.silo ≡ true
            → exchanged t r from 0 false ≡ ends (settled (counted (showing t 2 3))) (after_word r (oldest t.end.silo)) 2 3
        word_step short some room =
            ap (λ c. exchanged_as t c r from 0 false) (sends_word t s.talking going free more short some)
            ∙ ap (λ x. ended t Choice.Word (answered_by r from x)) (plain Choice.Word)
            ∙ ap (ended t Choice.Word) (hears_word r from (sent_by t Choice.Word) s.listening refl refl (rw s.block short) room (parity_good (oldest t.end.silo)))
            ∙ ap (λ x. ends x (after_word r (oldest t.end.silo)) 2 3) (word_accepted t s.talking)

        -- a due CRC is taken
        pub due_step : t.end.block ≡ 128 → r.channel.owed ≡ false
            → exchanged t r from 0 false ≡ ends (settled (showing (after_sending t Choice.DueCrc) 2 1)) (after_crc r 2) 2 1
        due_step full none =
            ap (λ c. exchanged_as t c r from 0 false) (sends_due t s.talking going free more full)
            ∙ ap (λ x. ended t Choice.DueCrc (answered_by r from x)) (plain Choice.DueCrc)
            ∙ ap (ended t Choice.DueCrc) (hears_due r from (sent_by t Choice.DueCrc) s.listening refl refl (s.block ∙ full) none (sym s.crc))

      -- the last CRC is taken
      pub last_step : all_sent t ≡ true → r.channel.owed ≡ false
          → exchanged t r from 0 false ≡ ends (settled (showing (after_sending t Choice.LastCrc) 3 1)) (after_crc r 3) 3 1
      last_step all none =
          ap (λ c. exchanged_as t c r from 0 false) (sends_last t s.talking going free all)
          ∙ ap (λ x. ended t Choice.LastCrc (answered_by r from x)) (plain Choice.LastCrc)
          ∙ ap (ended t Choice.LastCrc) (hears_last r from (sent_by t Choice.LastCrc) s.listening refl refl none (sym s.crc))

    -- the verdict on a due CRC: both counts restart
    pub due_verdict : t.channel.awaiting ≡ true → t.end.block ≡ 128 → r.channel.owed ≡ true → r.channel.good ≡ true
        → exchanged t r from 0 false ≡ ends (settled (restarted (showing (after_sending t Choice.DueCrc) 2 3))) (after_due r) 2 3
    due_verdict waits full owed good =
        ap (λ c. exchanged_as t c r from 0 false) (sends_due_again t s.talking going waits)
        ∙ ap (λ x. ended t Choice.DueCrc (answered_by r from x)) (plain Choice.DueCrc)
        ∙ ap (ended t Choice.DueCrc) (passes_due r from (sent_by t Choice.DueCrc) s.listening refl refl (s.block ∙ full) owed good)

  -- the verdict on the last CRC, with R's silo empty: success at both ends
  pub last_verdict : t.channel.ending ≡ true → r.channel.owed ≡ true → r.channel.good ≡ true → is_empty r.end.silo ≡ true
      → r.channel.truncated ≡ false
      → exchanged t r from 0 false ≡ ends (settled (closed (succeeded (showing (after_sending t Choice.LastCrc) 3 3)))) (after_last r) 3 3
  last_verdict ending owed good none whole =
      ap (λ c. exchanged_as t c r from 0 false) (sends_last_again t s.talking ending)
      ∙ ap (λ x. ended t Choice.LastCrc (answered_by r from x)) (plain Choice.LastCrc)
      ∙ ap (ended t Choice.LastCrc) (passes_last r from (sent_by t Choice.LastCrc) s.listening refl refl owed good none whole)

-- ---- and they stay in step

module _ (t : Transmitter) (r : Receiver) (from : ℕ) (s : InStep t r from) where
  pub in_step_word : InStep (settled (counted (showing t 2 3))) (after_word r (oldest t.end.silo)) from
  in_step_word =
      record {
        talking = talking_word t s.talking;
        listening = listening_word r from s.listening (oldest t.end.silo);
        block = ap (λ (n : ℕ). n + 1) s.block;
        crc = ap (λ (c : ℕ). crc_word c (oldest t.end.silo)) s.crc;
      }

  pub in_step_due : InStep (settled (showing (after_sending t Choice.DueCrc) 2 1)) (after_crc r 2) from
  in_step_due =
      record { talking = talking_due t s.talking; listening = listening_crc r from s.listening 2; block = s.block; crc = s.crc }

  pub in_step_restarted : InStep (settled (restarted (showing (after_sending t Choice.DueCrc) 2 3))) (after_due r) from
  in_step_restarted =
      record { talking = talking_restarted t s.talking; listening = listening_due r from s.listening; block = refl; crc = refl }

  pub in_step_last : InStep (settled (showing (after_sending t Choice.LastCrc) 3 1)) (after_crc r 3) from
  in_step_last =
      record { talking = talking_last t s.talking; listening = listening_crc r from s.listening 3; block = s.block; crc = s.crc }

-- ---- the opening puts them in step

module _ (t : Transmitter) (r : Receiver) (from : ℕ) (sender : T.Ready t) (ready : R.Ready r) where
  pub opening_step : exchanged t r from 0 false
      ≡ ends (settled (counted (talking_to (showing t 2 3)))) (after_word (listening_to r from (raised t.end.serial)) (oldest t.end.silo)) 2 3
  opening_step =
      ap (λ c. exchanged_as t c r from 0 false) (sends_opening t sender)
      ∙ ap (λ x. ended t Choice.Opening (answered_by r from x)) (undamaged (sent_by t Choice.Opening))
      ∙ ap (ended t Choice.Opening) (hears_opening r from ready (sent_by t Choice.Opening) refl refl (parity_good (oldest t.end.silo)))
      ∙ ap (λ x. ends x (after_word (listening_to r from (raised t.end.serial)) (oldest t.end.silo)) 2 3) (opening_accepted t sender)

  pub in_step_opened : InStep (settled (counted (talking_to (showing t 2 3)))) (after_word (listening_to r from (raised t.end.serial)) (oldest t.end.silo)) from
  in_step_opened =
      record {
        talking = talking_opened t sender;
        listening = listening_opening r from ready (raised t.end.serial) (oldest t.end.silo);
        block = refl;
        crc = refl;
      }
