-- R while a message goes well: how it answers each kind of slice, as one equation each. The proof of delivery goes by these.
-- Assumes nothing.
use Rattle.std.specs.Prelude.{Bool, true, false, not, ◌&&◌, ◌||◌, ◌≡◌, refl, ℕ, ◌<◌, eqb}
use Rattle.std.proofs.Common.{true≢false, ap, sym, ◌∙◌, arith, eq-eqb, ne_eqb}
use Rattle.laws.specs.Pick.{past, here}
use Rattle.receiver.specs.Side.{has_error, data_in_ready, data_out_ready}
use Rattle.receiver.specs.declared.side.Receiver.{Receiver}
use Rattle.silos.specs.Silo.{is_empty, has_room}
use Rattle.words.specs.Parity.{good_parity}
use Rattle.words.specs.declared.lines.Sent.{Sent}
use Rattle.answering.specs.Choice.{open_with_another, reopening, may_open, closing_fault, rejecting, truncating, decided_by_code, decided}
use Rattle.answering.specs.Events.{opening}
use Rattle.answering.specs.Rules.{answering, answered_as, answered_by}
use Rattle.answering.specs.Laws.Listening.{Listening, Ready, after_word, after_crc, after_due, after_last}
use Rattle.answering.specs.declared.choice.Rule.{Rule}

-- ---- no error bit, so none that closes

others_false : (a b c d e f : Bool) → (a || b || c || d || e || f) ≡ false → (b || c || d || e || f) ≡ false
others_false true b c d e f h = absurd (true≢false h)
others_false false b c d e f h = h

no_closing_fault : (r : Receiver) → has_error r ≡ false → closing_fault r.faults ≡ false
no_closing_fault r h =
    others_false r.faults.byte_count_overflow r.faults.time_out r.faults.parity r.faults.transmission_error
    r.faults.memory_overflow r.faults.nonexistent_location h

-- what the transmitter it is open with sends, and no opening word
module _ (r : Receiver) (from : ℕ) (sent : Sent) (l : Listening r from) (later : sent.opening ≡ false) where
  -- the code A decides
  by_code : eqb sent.code 0 ≡ false → decided_by_code r sent ≡ decided r from sent
  by_code some =
      let own : open_with_another r from ≡ false = rw (l.opened, eq-eqb r.modes.sender from l.sender) in
      let goes_on : reopening r sent ≡ false = rw (l.opened, later) in
      let not_rejecting : rejecting r ≡ false = rw l.accepting in
      let not_truncating : truncating r sent ≡ false = rw l.accepting in
      past _ own
      (past _ goes_on
      (past _ (ap not l.opened)
      (past _ (no_closing_fault r l.no_error) (past _ l.parity (past _ some (past _ not_rejecting (past _ not_truncating refl)))))))

  by_rule : (rule : Rule) → eqb sent.code 0 ≡ false → rule ≡ decided_by_code r sent → answered_by r from sent ≡ answered_as r from sent rule
  by_rule rule some e = ap (answered_as r from sent) (sym (e ∙ by_code some))

  -- A 10, a word
  pub hears_word : sent.code ≡ 2 → r.end.block < 128 → has_room 64 r.end.silo ≡ true → good_parity sent.word sent.parity ≡ true
      → answered_by r from sent ≡ answering 3 (after_word r sent.word)
  hears_word code short room good =
      let ready : ((r.commands.receive_data || r.commands.receive_word) && data_in_ready r) ≡ true = rw l.receiving room in
      let rule : Rule.Stores ≡ decided_by_code r sent =
      rw code (past _ (ne_eqb r.end.block 128 (omega arith)) (here _ ready refl)) in
      by_rule Rule.Stores (rw code) rule ∙ rw (l.receiving, l.no_error, code, good)

  -- A 10, the due CRC: it is taken, and then found good
  pub hears_due : sent.code ≡ 2 → r.end.block ≡ 128 → r.channel.owed ≡ false → sent.word ≡ r.end.crc
      → answered_by r from sent ≡ answering 1 (after_crc r 2)
  hears_due code full free own =
      let rule : Rule.TakesCrc ≡ decided_by_code r sent = rw (code, full) (here _ (ap not free) refl) in
      by_rule Rule.TakesCrc (rw code) rule ∙ rw (l.no_error, code, eq-eqb sent.word r.end.crc own)

  pub passes_due : sent.code ≡ 2 → r.end.block ≡ 128 → r.channel.owed ≡ true → r.channel.good ≡ true
      → answered_by r from sent
      ≡ record { side = after_due r; answer = record { code = 3; rejects = false; truncates = false; restarts = true; truncated = false } }
  passes_due code full owed good =
      let rule : Rule.Restarts ≡ decided_by_code r sent = rw (code, full) (past _ (ap not owed) (past _ (ap not good) refl)) in
      by_rule Rule.Restarts (rw code) rule ∙ rw (l.no_error, code)

  -- A 11, the last CRC: it is taken, and then, with the silo empty, found good
  pub hears_last : sent.code ≡ 3 → r.channel.owed ≡ false → sent.word ≡ r.end.crc
      → answered_by r from sent ≡ answering 1 (after_crc r 3)
  hears_last code free own =
      let rule : Rule.TakesCrc ≡ decided_by_code r sent = rw code (here _ (ap not free) refl) in
      by_rule Rule.TakesCrc (rw code) rule ∙ rw (l.no_error, code, eq-eqb sent.word r.end.crc own)

  pub passes_last : sent.code ≡ 3 → r.channel.owed ≡ true → r.channel.good ≡ true → is_empty r.end.silo ≡ true
      → r.channel.truncated ≡ false → answered_by r from sent ≡ answering 3 (after_last r)
  passes_last code owed good none whole =
      let emptied : (data_out_ready r && not r.channel.truncated) ≡ false = rw none in
      let rule : Rule.Succeeds ≡ decided_by_code r sent =
      rw code (past _ (ap not owed) (past _ (ap not good) (past _ emptied refl))) in
      by_rule Rule.Succeeds (rw code) rule ∙ rw whole

-- ---- the opening

module _ (r : Receiver) (from : ℕ) (ready : Ready r) where
  -- A 10, the opening word
  pub hears_opening : (sent : Sent) → sent.opening ≡ true → sent.code ≡ 2 → good_parity sent.word sent.parity ≡ true
      → answered_by r from sent ≡ answering 3 (after_word (opening r from sent.serial) sent.word)
  hears_opening sent first code good =
      let own : open_with_another r from ≡ false = rw ready.closed in
      let fresh : reopening r sent ≡ false = rw ready.closed in
      let may : may_open r sent ≡ true = rw (first, ready.awaiting, ready.no_error) ready.room in
      let rule : Rule.Opens ≡ decided r from sent = past _ own (past _ fresh (here _ (ap not ready.closed) (here _ may refl))) in
      ap (answered_as r from sent) (sym rule) ∙ rw (ready.receiving, ready.no_error, code, good)
