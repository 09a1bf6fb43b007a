-- T while a message goes well: what it sends and what it makes of the answer, as equations. The proof of delivery goes by these.
-- Assumes nothing.
use Rattle.std.specs.Prelude.{Bool, true, false, not, ◌&&◌, ◌≡◌, refl, ◌<◌, eqb}
use Rattle.std.proofs.Common.{sym, arith, eq-eqb, ne_eqb}
use Rattle.laws.specs.Pick.{past, here}
use Rattle.silos.specs.Silo.{is_empty}
use Rattle.transmitter.specs.Requests.{settled}
use Rattle.transmitter.specs.Side.{has_error}
use Rattle.transmitter.specs.declared.side.Transmitter.{Transmitter}
use Rattle.words.specs.Lines.{answered}
use Rattle.words.specs.declared.lines.Answer.{Answer}
use Rattle.sending.specs.Choice.{may_open, wants_on, all_sent, chosen, chosen_open}
use Rattle.sending.specs.Events.{closed, succeeded, counted, restarted, opening}
use Rattle.sending.specs.Hearing.{after_sending, showing, heard}
use Rattle.sending.specs.declared.choice.Choice.{Choice}

-- open, with ST TXM set, and no error
pub record Talking (t : Transmitter) : Type 0 where
  pub opened : t.end.opened ≡ true
  pub started : t.commands.start_transmission ≡ true
  pub no_error : has_error t ≡ false

-- the receiver's 11 to a due CRC
abbrev pub restarting : Answer
restarting = record { code = 3; rejects = false; truncates = false; restarts = true; truncated = false }

module _ (t : Transmitter) (k : Talking t) where
  wants : wants_on t ≡ true
  wants = rw k.started

  awaits : {b : Bool} → t.channel.awaiting ≡ b → (t.channel.awaiting && wants_on t) ≡ b
  awaits {b} e = rw (e, wants) (go b)
    where
      go : (b : Bool) → (b && true) ≡ b
      go true = refl
      go false = refl

  open_choice : {x : Choice} → x ≡ chosen_open t → chosen t ≡ x
  open_choice e = sym (here _ k.opened e)

  -- ---- what it sends

  module _ (going : t.channel.ending ≡ false) where
    module _ (free : t.channel.awaiting ≡ false) where
      pub sends_last : all_sent t ≡ true → chosen t ≡ Choice.LastCrc
      sends_last all = open_choice (past _ k.no_error (past _ going (past _ (awaits free) (here _ all refl))))

      module _ (more : all_sent t ≡ false) where
        pub sends_due : t.end.block ≡ 128 → chosen t ≡ Choice.DueCrc
        sends_due full =
            let due : (eqb t.end.block 128 && wants_on t) ≡ true = rw (eq-eqb t.end.block 128 full, wants) in
            open_choice (past _ k.no_error (past _ going (past _ (awaits free) (past _ more (here _ due refl)))))

        pub sends_word : t.end.block < 128 → is_empty t.end.silo ≡ false → chosen t ≡ Choice.Word
        sends_word short some =
            let not_due : (eqb t.end.block 128 && wants_on t) ≡ false = rw (ne_eqb t.end.block 128 (omega arith)) in
            let word : (wants_on t && not (is_empty t.end.silo)) ≡ true = rw (wants, some) in
            open_choice (past _ k.no_error (past _ going (past _ (awaits free) (past _ more (past _ not_due (here _ word refl))))))

    pub sends_due_again : t.channel.awaiting ≡ true → chosen t ≡ Choice.DueCrc
    sends_due_again waits = open_choice (past _ k.no_error (past _ going (here _ (awaits waits) refl)))

  pub sends_last_again : t.channel.ending ≡ true → chosen t ≡ Choice.LastCrc
  sends_last_again ends = open_choice (past _ k.no_error (here _ ends refl))

  -- ---- what it makes of the answer

  pub word_accepted : heard t Choice.Word (answered 3) ≡ settled (counted (showing t 2 3))
  word_accepted = rw k.started

  pub due_taken : heard t Choice.DueCrc (answered 1) ≡ settled (showing (after_sending t Choice.DueCrc) 2 1)
  due_taken = refl

  pub due_passed : heard t Choice.DueCrc restarting ≡ settled (restarted (showing (after_sending t Choice.DueCrc) 2 3))
  due_passed = refl

  pub last_taken : heard t Choice.LastCrc (answered 1) ≡ settled (showing (after_sending t Choice.LastCrc) 3 1)
  last_taken = refl

  pub last_passed : heard t Choice.LastCrc (answered 3) ≡ settled (closed (succeeded (showing (after_sending t Choice.LastCrc) 3 3)))
  last_passed = refl

-- ---- and it talks on

module _ (t : Transmitter) (k : Talking t) where
  pub talking_word : Talking (settled (counted (showing t 2 3)))
  talking_word = record { opened = k.opened; started = k.started; no_error = k.no_error }

  pub talking_due : Talking (settled (showing (after_sending t Choice.DueCrc) 2 1))
  talking_due = record { opened = k.opened; started = k.started; no_error = k.no_error }

  pub talking_restarted : Talking (settled (restarted (showing (after_sending t Choice.DueCrc) 2 3)))
  talking_restarted = record { opened = k.opened; started = k.started; no_error = k.no_error }

  pub talking_last : Talking (settled (showing (after_sending t Choice.LastCrc) 3 1))
  talking_last = record { opened = k.opened; started = k.started; no_error = k.no_error }

-- ---- the opening

-- closed, and set up to send a whole message
pub record Ready (t : Transmitter) : Type 0 where
  pub closed : t.end.opened ≡ false
  pub started : t.commands.start_transmission ≡ true
  pub acting : may_open t ≡ true
  pub no_error : has_error t ≡ false

module _ (t : Transmitter) (ready : Ready t) where
  pub sends_opening : chosen t ≡ Choice.Opening
  sends_opening = sym (past _ ready.closed (here _ ready.acting refl))

  -- 11 to the first word
  pub opening_accepted : heard t Choice.Opening (answered 3) ≡ settled (counted (opening (showing t 2 3)))
  opening_accepted = rw ready.started

  pub talking_opened : Talking (settled (counted (opening (showing t 2 3))))
  talking_opened = record { opened = refl; started = ready.started; no_error = ready.no_error }
