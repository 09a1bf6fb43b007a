-- The conditions can be met: a unit sends two words to itself, set up by calls from cells that hold nothing. The words differ, and where
-- they go there is none of them. `ExampleRun` has the run.
-- Assumes nothing.
use Rattle.std.specs.Prelude.{List, [], ◌∷◌, ◌++◌, ◌≡◌, refl, ◌+◌, ◌^◌, replicate}
use Rattle.std.proofs.Common.{arith, lit≤}
use Rattle.std.specs.Int.Count.{ones}
use Rattle.cells.specs.Fitted.{unit_fitted}
use Rattle.codec.specs.Rings.{in_order, laid_from}
use Rattle.cells.specs.Index.{row}
use Rattle.promise.proofs.Laws.Rows.{rows_say}
use Rattle.cells.specs.Ranges.{in_range}
use Rattle.cells.specs.Search.{first_found}
use Rattle.fitting.specs.Fit.{units_fitted}
use Rattle.fitting.specs.SetUp.{taken_by, units_good}
use Rattle.promise.specs.Opening.{Opening}
use Rattle.promise.specs.Statement.{words_sent}
use Rattle.promise.specs.World.{World, Event, fit, write, write_byte, slice, move, host_write, run}

abbrev blank : World
blank = record { cells = replicate 268 0; memory = λ k. replicate 6 0 }

-- one unit, its addresses 1 and 1, its switch 2, with six words of memory; 7 and 9 in words 1 and 2; MASTER and AUT ADR; a load of two
-- words from word 1 on, ST TXM, SND WD, TX NPR and IE to receiver 1; one of them is moved; a load of two words to word 3, RCV DAT,
-- RCV WD, RC NPR and IE; a slice for address 2
abbrev setting : List Event
setting =
    fit (1 ∷ 1 ∷ 2 ∷ 6 ∷ [])
    ∷ host_write 0 1 7
    ∷ host_write 0 2 9
    ∷ write_byte 0 11 0x11
    ∷ write 0 6 0xFFFC
    ∷ write 0 8 2
    ∷ write 0 0 (1 + 2 ^ 6 + 2 ^ 8 + 2 ^ 13 + 2 ^ 14)
    ∷ move 0 0
    ∷ write 0 22 0xFFFC
    ∷ write 0 24 6
    ∷ write 0 16 (1 + 2 ^ 6 + 2 ^ 13 + 2 ^ 14)
    ∷ slice 0 0
    ∷ []

abbrev pub start : World
start =
    record {
      cells =
          (1 ∷ 1 ∷ [])
          ++ (16 ∷ 0 ∷ [])
          ++ replicate 30 16
          ++ (16 ∷ 0 ∷ [])
          ++ replicate 30 16
          ++ (0 ∷ 0 ∷ 0 ∷ 5 ∷ [])
          ++ (64 ∷ 0 ∷ 0 ∷ 2 ∷ 32767 ∷ 24899 ∷ 0 ∷ 0 ∷ 0 ∷ 7 ∷ [])
          ++ replicate 63 0
          ++ (0 ∷ 0 ∷ 0 ∷ 3 ∷ 32766 ∷ 24643 ∷ 0 ∷ 0 ∷ 0 ∷ [])
          ++ replicate 64 0
          ++ (0 ∷ 1089 ∷ [])
          ++ replicate 50 0;
      memory = λ k. 0 ∷ 7 ∷ 9 ∷ 0 ∷ 0 ∷ 0 ∷ [];
    }

set_up : (run setting blank).cells ≡ start.cells
unfolding unit_fitted units_fitted taken_by units_good first_found in_range in_order laid_from row
set_up = refl

set_up_memory : (run setting blank).memory 0 ≡ start.memory 0
unfolding unit_fitted units_fitted taken_by units_good first_found in_range in_order laid_from row
set_up_memory = refl

-- ---- the next slice opens a message of two words

pub opening : Opening start
unfolding first_found in_range ones in_order laid_from row
opening =
    record {
      indexed = rows_say start.cells refl refl;
      answered = refl;
      acknowledged = refl;
      conditions =
          record {
            some = lit≤ tt;
            most = lit≤ tt;
            transmitter_closed = refl;
            receiver_closed = refl;
            transmitter_requests = λ h. refl;
            start_transmission = refl;
            send_word = refl;
            silo_empty = refl;
            receive_word = refl;
            receive_data = refl;
            receiver_requests = refl;
            not_rejecting = refl;
            count_good = lit≤ tt;
            transmitter_increments = refl;
            receiver_increments = refl;
            read_silo = refl;
            transmitter_no_error = refl;
            transmitter_no_success = refl;
            no_software_reject = refl;
            receiver_no_error = refl;
            receiver_no_success = refl;
            no_reject_complete = refl;
            sent_stretch = record { inside = λ i h. omega arith; short = λ i h. omega arith };
            stored_stretch = record { inside = λ i h. omega arith; short = λ i h. omega arith };
            stretches_apart = λ e i j h l q. omega arith;
            sending_lent = lit≤ tt;
            receiving_lent = lit≤ tt;
          };
    }

long : words_sent start ≡ 2
unfolding first_found in_range ones in_order laid_from
long = refl
