-- What no answer but 11 to an opening word does: it leaves the serial.
-- Assumes nothing.
use Rattle.std.specs.Prelude.{Bool, ◌≡◌, refl, eqb}
use Rattle.ends.specs.Ends.{raised}
use Rattle.laws.specs.Pick.{by, either, pick}
use Rattle.transmitter.specs.declared.side.Transmitter.{Transmitter}
use Rattle.words.specs.declared.lines.Answer.{Answer}
use Rattle.sending.specs.Chart.{chart_of}
use Rattle.sending.specs.Choice.{code_of}
use Rattle.sending.specs.Events.{restarted, word_accepted}
use Rattle.sending.specs.Hearing.{acknowledged, followed, heard, heard_open}
use Rattle.sending.specs.declared.chart.Entry.{Entry}
use Rattle.sending.specs.declared.choice.Choice.{Choice}

module _ (t : Transmitter) where
  abbrev Same : Transmitter → Type 0
  Same x = x.end.serial ≡ t.end.serial

  accepts : (x : Transmitter) → Same x → Same (word_accepted x)
  accepts x same = either Same x.commands.start_transmission (λ e. same) (λ e. same)

  acknowledges : (choice : Choice) (restarts : Bool) (x : Transmitter) → Same x → Same (acknowledged x choice restarts)
  acknowledges Choice.Idle restarts x same = same
  acknowledges Choice.Opening restarts x same = same
  acknowledges Choice.Stopped restarts x same = same
  acknowledges Choice.LastCrc restarts x same = same
  acknowledges Choice.DueCrc restarts x same = same
  acknowledges Choice.Word restarts x same = either Same restarts (λ e. accepts (restarted x) same) (λ e. accepts x same)
  acknowledges Choice.Null restarts x same = same

  pub hears_open : (choice : Choice) (answer : Answer) (x : Transmitter) → Same x → Same (heard_open x choice answer)
  hears_open choice answer x same =
      let follows : (entry : Entry) → Same (followed x choice answer entry) =
      elim [
        | Entry.Stay ↦ either Same (eqb answer.code 3) (λ e. acknowledges choice answer.restarts x same) (λ e. same)
        | Entry.Close ↦ same
        | Entry.CloseWithError ↦ same
        | Entry.CloseWithSuccess ↦ either Same answer.truncated (λ e. same) (λ e. same)
      ] in
      either Same answer.rejects (λ e. same)
      (λ e. either Same answer.truncates (λ e. same) (λ e. follows (chart_of (code_of choice) answer.code)))

  -- a closed T
  pub hears_closed : (answer : Answer) → (heard t Choice.Opening answer).end.serial ≡ pick (eqb answer.code 3) (raised t.end.serial) t.end.serial
  hears_closed answer =
      by (eqb answer.code 3) (λ e. rw e (either (λ (x : Transmitter). x.end.serial ≡ raised t.end.serial) t.commands.start_transmission (λ e. refl) (λ e. refl)))
      (λ e. rw e (either Same (eqb answer.code 0) (λ e. either Same t.modes.retry_if_busy (λ e. refl) (λ e. refl)) (λ e. refl)))
