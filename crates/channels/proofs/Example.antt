-- A restarted sender: unit 0 opens to unit 1, does TX INIT in mid-message and opens again to the same receiver, which is still open with
-- it; and what the serials are meanwhile. The prover computes the runs.
-- Assumes nothing.
use Rattle.std.specs.Prelude.{Bool, true, false, List, [], ◌∷◌, ◌++◌, ◌≡◌, refl, ℕ, ◌+◌, ◌*◌, ◌^◌, replicate}
use Rattle.std.specs.Int.Count.{ones}
use Rattle.cells.specs.Fitted.{unit_fitted}
use Rattle.codec.specs.Rings.{in_order, laid_from}
use Rattle.cells.specs.Fitted.{receiver_of}
use Rattle.cells.specs.Index.{row}
use Rattle.cells.specs.Ranges.{in_range}
use Rattle.cells.specs.Search.{first_found}
use Rattle.fitting.specs.Fit.{units_fitted}
use Rattle.fitting.specs.SetUp.{taken_by, units_good}
use Rattle.promise.specs.World.{World, Event, fit, write, write_byte, slice, reset, number_of}
use Rattle.silos.specs.Silo.{words}
use Rattle.words.specs.Crc.{crc_bits, crc_word}
use Rattle.words.specs.Bits.RCR
use Rattle.words.specs.Bits.TCR
use Rattle.channels.proofs.Channels.{begun}
use Rattle.channels.specs.History.{Past, past, receiver_open, receiver_serial, sender_open, sender_serial}

-- cells that hold anything: the fit writes them all
abbrev blank : World
blank = record { cells = replicate 470 7; memory = λ k. [] }

-- two units, with the addresses 1 and 2
abbrev setup : List ℕ
setup = (1 ∷ 1 ∷ 2 ∷ 1 ∷ []) ++ (2 ∷ 2 ∷ 2 ∷ 1 ∷ [])

fitted : number_of (fit setup) blank ≡ 0
unfolding unit_fitted units_fitted taken_by units_good in_order laid_from
fitted = refl

-- ST TXM and SND WD, to receiver 2; RCV DAT and RCV WD
abbrev send : Event
send = write 0 0 (2 ^ TCR.ST_TXM + 2 * 2 ^ TCR.DC_00 + 2 ^ TCR.SND_WD)

abbrev receive : Event
receive = write 1 16 (2 ^ RCR.RCV_DAT + 2 ^ RCR.RCV_WD)

-- unit 1 is master; 7 and 9 stand in unit 0's silo; a slice for address 2 and one for address 1, in which 7 opens the channel
abbrev opening : List Event
opening = write_byte 1 11 0x11 ∷ write 0 4 7 ∷ write 0 4 9 ∷ send ∷ receive ∷ slice 0 0 ∷ slice 0 0 ∷ []

-- TX INIT at unit 0; 11 stands in its silo; a slice for address 2 and one for address 1
abbrev restart : List Event
restart = write 0 0 (2 ^ TCR.TX_INIT) ∷ write 0 4 11 ∷ send ∷ slice 0 0 ∷ slice 0 0 ∷ []

-- RSR is cleared, and both hosts try again
abbrev again : List Event
again = write 1 18 0 ∷ receive ∷ send ∷ slice 0 0 ∷ slice 0 0 ∷ []

-- whether T and R are open, the events in which they last opened, and what R's silo holds
abbrev shown : Past → Bool × Bool × ℕ × ℕ × List ℕ
shown p = (sender_open p.world 0, receiver_open p.world 1, p.sender 0, p.receiver 1, words (receiver_of p.world.cells 1).end.silo)

-- both open in event 7
opened : shown (past opening (begun blank setup fitted)) ≡ (true, true, 7, 7, 7 ∷ [])
unfolding unit_fitted units_fitted taken_by units_good first_found in_range ones crc_word crc_bits in_order laid_from row
opened = refl

-- 11 is not stored as the rest of the first message: it closes R
restarted : shown (past (opening ++ restart) (begun blank setup fitted)) ≡ (false, false, 7, 7, 7 ∷ [])
unfolding unit_fitted units_fitted taken_by units_good first_found in_range ones crc_word crc_bits in_order laid_from row
restarted = refl

-- both open again, in event 17. 7 still stands in R's silo: R's host did no RC INIT
opened_again : shown (past (opening ++ restart ++ again) (begun blank setup fitted)) ≡ (true, true, 17, 17, 7 ∷ 11 ∷ [])
unfolding unit_fitted units_fitted taken_by units_good first_found in_range ones crc_word crc_bits in_order laid_from row
opened_again = refl

-- ---- the serials: T's, R's, and that of unit 0's own receiver

abbrev serials : Past → ℕ × ℕ × ℕ
serials p = (sender_serial p.world 0, receiver_serial p.world 1, receiver_serial p.world 0)

-- unit 0 opens to its own receiver, does TX INIT, and has a word again
abbrev elsewhere : List Event
elsewhere =
    write 0 16 (2 ^ RCR.RCV_DAT + 2 ^ RCR.RCV_WD)
    ∷ write 0 0 (2 ^ TCR.ST_TXM + 2 ^ TCR.DC_00 + 2 ^ TCR.SND_WD)
    ∷ slice 0 0
    ∷ slice 0 0
    ∷ write 0 0 (2 ^ TCR.TX_INIT)
    ∷ write 0 4 13
    ∷ []

-- the first opening has the serial 1; TX INIT keeps it, and the word that closes R leaves it
serials_opened : serials (past opening (begun blank setup fitted)) ≡ (1, 1, 0)
unfolding unit_fitted units_fitted taken_by units_good first_found in_range ones crc_word crc_bits in_order laid_from row
serials_opened = refl

serials_restarted : serials (past (opening ++ restart) (begun blank setup fitted)) ≡ (1, 1, 0)
unfolding unit_fitted units_fitted taken_by units_good first_found in_range ones crc_word crc_bits in_order laid_from row
serials_restarted = refl

-- T counts its openings to every receiver, and a receiver has the serial of its own last one
serials_elsewhere : serials (past (opening ++ restart ++ elsewhere) (begun blank setup fitted)) ≡ (2, 1, 2)
unfolding unit_fitted units_fitted taken_by units_good first_found in_range ones crc_word crc_bits in_order laid_from row
serials_elsewhere = refl

serials_again : serials (past (opening ++ restart ++ elsewhere ++ again) (begun blank setup fitted)) ≡ (3, 3, 2)
unfolding unit_fitted units_fitted taken_by units_good first_found in_range ones crc_word crc_bits in_order laid_from row
serials_again = refl

-- RC INIT and reset keep them, and a fit makes them 0
serials_kept : serials (past (opening ++ restart ++ elsewhere ++ again ++ (write 1 16 (2 ^ RCR.RC_INIT) ∷ reset 0 ∷ [])) (begun blank setup fitted)) ≡ (3, 3, 2)
unfolding unit_fitted units_fitted taken_by units_good first_found in_range ones crc_word crc_bits in_order laid_from row
serials_kept = refl

serials_fitted : serials (past (opening ++ restart ++ elsewhere ++ again ++ (fit setup ∷ [])) (begun blank setup fitted)) ≡ (0, 0, 0)
unfolding unit_fitted units_fitted taken_by units_good first_found in_range ones crc_word crc_bits in_order laid_from row
serials_fitted = refl
