-- A unit sends three readings to itself, set up by calls from cells that hold nothing: 7, none, and 0. The prover computes the run: before
-- the slice receiving answers "message not complete", and then it gives them, with the serial 1, that of the first opening since the fit.
-- The words are put into the memory by the host's writes; every other word of it is 9, so that the 0 is one that was sent.
-- Assumes nothing.
use Rattle.std.specs.Prelude.{List, [], ◌∷◌, ◌++◌, map, ◌≡◌, refl, ℕ, zero, suc, ◌+◌, ◌^◌, replicate, Result, Ok, Err}
use Rattle.std.proofs.Common.{ap, sym, ◌∙◌, arith, lit≤}
use Rattle.std.specs.Int.Count.{ones}
use Rattle.cells.specs.Fitted.{unit_fitted}
use Rattle.codec.specs.Rings.{in_order, laid_from}
use Rattle.board.specs.declared.answers.ReceiveError.{ReceiveError}
use Rattle.board.specs.declared.answers.Received.{Received}
use Rattle.cells.specs.Fitted.{transmitter_of}
use Rattle.cells.specs.Index.{row}
use Rattle.promise.proofs.Laws.Rows.{rows_say}
use Rattle.cells.specs.Ranges.{in_range}
use Rattle.cells.specs.Search.{first_found}
use Rattle.fitting.specs.Fit.{units_fitted}
use Rattle.fitting.specs.SetUp.{taken_by, units_good}
use Rattle.promise.specs.Conditions.{Allowed, Conducted}
use Rattle.promise.specs.Kinds.{Kind, kind_of, other, own, owns}
use Rattle.promise.specs.Opening.{Opening}
use Rattle.promise.specs.Statement.{Meets, after, message, opened, own_slices, parties}
use Rattle.promise.specs.World.{World, Event, fit, write, write_byte, slice, move, host_write, number_of, run, step}
use Rattle.readings.specs.Build.{any_reserved}
use Rattle.readings.specs.declared.answers.ReadError.{ReadError}
use Rattle.words.specs.Crc.{crc_bits, crc_word}
use Rattle.words.specs.Slices.{slices_of}
use Rattle.arrival.proofs.Arrival.{arrival, arrive}
use Rattle.arrival.specs.InMemory.{InMemory}
use Rattle.arrival.proofs.Loads.{built_in_memory}
use Rattle.arrival.specs.Statement.{Given, Sent, first, receiving}

-- 65,536 is no reading
abbrev numbers : List ℕ
numbers = 7 ∷ 65536 ∷ 0 ∷ []

-- what building makes of them: their length, the kind, the count, and the readings, 65,535 (177777 octal) for the one that there is not
abbrev words : List ℕ
words = 6 ∷ 1 ∷ 3 ∷ 7 ∷ 65535 ∷ 0 ∷ []

abbrev blank : World
blank = record { cells = replicate 268 0; memory = λ k. replicate 80 9 }

-- one unit, its addresses 1 and 1, its switch 2, with 80 words of memory; the words from word 1 on; MASTER and AUT ADR; a load of six words
-- from word 1 on, ST TXM, SND WD and TX NPR to receiver 1; one of them is moved; a load of six words to word 70, RCV DAT, RCV WD and
-- RC NPR; a slice for address 2
abbrev setting : List Event
setting =
    fit (1 ∷ 1 ∷ 2 ∷ 80 ∷ [])
    ∷ host_write 0 1 6
    ∷ host_write 0 2 1
    ∷ host_write 0 3 3
    ∷ host_write 0 4 7
    ∷ host_write 0 5 65535
    ∷ host_write 0 6 0
    ∷ write_byte 0 11 0x11
    ∷ write 0 6 0xFFF4
    ∷ write 0 8 2
    ∷ write 0 0 (1 + 2 ^ 8 + 2 ^ 13 + 2 ^ 14)
    ∷ move 0 0
    ∷ write 0 22 0xFFF4
    ∷ write 0 24 140
    ∷ write 0 16 (1 + 2 ^ 13 + 2 ^ 14)
    ∷ slice 0 0
    ∷ []

abbrev start : World
start =
    record {
      cells =
          (1 ∷ 1 ∷ [])
          ++ (16 ∷ 0 ∷ [])
          ++ replicate 30 16
          ++ (16 ∷ 0 ∷ [])
          ++ replicate 30 16
          ++ (0 ∷ 0 ∷ 0 ∷ 79 ∷ [])
          ++ (64 ∷ 0 ∷ 0 ∷ 2 ∷ 32763 ∷ 24835 ∷ 0 ∷ 0 ∷ 0 ∷ 6 ∷ [])
          ++ replicate 63 0
          ++ (0 ∷ 0 ∷ 0 ∷ 70 ∷ 32762 ∷ 24579 ∷ 0 ∷ 0 ∷ 0 ∷ [])
          ++ replicate 64 0
          ++ (0 ∷ 1089 ∷ [])
          ++ replicate 50 0;
      memory = λ k. 9 ∷ words ++ replicate 73 9;
    }

set_up : (run setting blank).cells ≡ start.cells
unfolding unit_fitted units_fitted taken_by units_good first_found in_range in_order laid_from row
set_up = refl

set_up_memory : (run setting blank).memory 0 ≡ start.memory 0
unfolding unit_fitted units_fitted taken_by units_good first_found in_range in_order laid_from row
set_up_memory = refl

-- ---- the next slice opens a message of six words

opening : Opening start
unfolding first_found in_range ones in_order laid_from row
opening =
    record {
      indexed = rows_say start.cells refl refl;
      answered = refl;
      acknowledged = refl;
      conditions =
          record {
            some = lit≤ tt;
            most = lit≤ tt;
            transmitter_closed = refl;
            receiver_closed = refl;
            transmitter_requests = λ h. refl;
            start_transmission = refl;
            send_word = refl;
            silo_empty = refl;
            receive_word = refl;
            receive_data = refl;
            receiver_requests = refl;
            not_rejecting = refl;
            count_good = lit≤ tt;
            transmitter_increments = refl;
            receiver_increments = refl;
            read_silo = refl;
            transmitter_no_error = refl;
            transmitter_no_success = refl;
            no_software_reject = refl;
            receiver_no_error = refl;
            receiver_no_success = refl;
            no_reject_complete = refl;
            sent_stretch = record { inside = λ i h. omega arith; short = λ i h. omega arith };
            stored_stretch = record { inside = λ i h. omega arith; short = λ i h. omega arith };
            stretches_apart = λ e i j h l q. omega arith;
            sending_lent = lit≤ tt;
            receiving_lent = lit≤ tt;
          };
    }

-- which is the one that building makes in the memory, from word 1 on
in_memory : InMemory (transmitter_of start.cells 0) (start.memory 0) numbers 6
unfolding first_found in_range ones any_reserved in_order laid_from
in_memory =
    record {
      before = replicate 80 9;
      place = 1;
      left = words ++ replicate 73 9;
      built = refl;
      stands = refl;
      moved = 1;
      in_silo = refl;
      others = refl;
      next = refl;
    }

-- ---- what is given, by the theorem

sent : Sent start numbers 6
unfolding first_found in_range ones in_order laid_from
sent = built_in_memory start numbers 6 in_memory

arrives : (es : List Event) × Meets start es × Given start numbers (after start es)
arrives = arrive start opening numbers 6 sent

-- ---- and by a run that the prover computes

abbrev times : ℕ → List Event → List Event
times zero es = []
times (suc k) es = es ++ times k es

-- T's silo gets the other five words; then, so many times, R stores a word, and a slice is for address 2 and one for T
abbrev turn : List Event
turn = move 0 1 ∷ slice 0 0 ∷ slice 0 0 ∷ []

abbrev events : ℕ → List Event
events k = times 5 (move 0 0 ∷ []) ++ times k turn

-- each time one of T's slices
abbrev before : List ℕ
before = 0 ∷ 1 ∷ 2 ∷ 3 ∷ 4 ∷ 5 ∷ 6 ∷ []

counted : (slices_of 6 ≡ 7) × (map (λ k. own_slices start (events k)) before ≡ before) × (own_slices start (events 7) ≡ 7) × (first start ≡ 140)
unfolding first_found in_range ones crc_word crc_bits in_order laid_from
counted = (refl, refl, refl, refl)

-- they meet the conditions: the moves are at R's unit, and before each of T's slices one more move of either end would answer 4
abbrev Keeps : World → List Event → Type 0
Keeps w es = Conducted (parties start) (message start) w es

not_own : other ≡ own → ⊥
not_own e = let one : ◌≡◌ {A = ℕ} 0 1 = ap (λ (k : Kind). owns (k ∷ [])) e in omega arith

moved : (side : ℕ) (w : World) → Allowed (parties start) (message start) (move 0 side) w
unfolding first_found in_range ones in_order laid_from
moved side w e theirs = absurd (theirs refl)

loaded : (k : ℕ) (w : World) (es : List Event) → Keeps (run (times k (move 0 0 ∷ [])) w) es → Keeps w (times k (move 0 0 ∷ []) ++ es)
loaded zero w es rest = rest
loaded (suc k) w es rest = (moved 0 w, loaded k (step (move 0 0) w) es rest)

turned : (w : World) (es : List Event) → kind_of (message start).from (slice 0 0) (run (move 0 1 ∷ []) w) ≡ other
    → number_of (move 0 0) (run (move 0 1 ∷ slice 0 0 ∷ []) w) ≡ 4
    → number_of (move 0 1) (run (move 0 1 ∷ slice 0 0 ∷ []) w) ≡ 4
    → Keeps (run turn w) es → Keeps w (turn ++ es)
unfolding first_found in_range ones in_order laid_from
turned w es theirs t r rest =
    (moved 1 w, (λ e mine. absurd (not_own (sym theirs ∙ mine)), (λ e mine. record { data_undamaged = refl; parity_undamaged = refl; sender_moved = t; receiver_moved = r }, rest)))

abbrev at : ℕ → World
at k = after start (events k)

meets : Meets start (events 7)
unfolding first_found in_range ones crc_word crc_bits in_order laid_from
meets =
    loaded 5 (opened start) (times 7 turn)
    (turned (at 0) (times 6 turn) refl refl refl
    (turned (at 1) (times 5 turn) refl refl refl
    (turned (at 2) (times 4 turn) refl refl refl
    (turned (at 3) (times 3 turn) refl refl refl
    (turned (at 4) (times 2 turn) refl refl refl
    (turned (at 5) (times 1 turn) refl refl refl
    (turned (at 6) [] refl refl refl tt)))))))

-- so that the theorem gives the readings after this run, of which T has seven slices
given_by_theorem : Given start numbers (after start (events 7))
unfolding first_found in_range ones crc_word crc_bits in_order laid_from
given_by_theorem = (arrival start opening numbers 6 sent (events 7) meets).from_then (lit≤ tt)

-- ---- what receiving then answers, computed

-- the answer and the room, of which every number was 9
abbrev received : ℕ → Result Received ReceiveError × List ℕ
received k = let r = receiving start (after start (events k)) (replicate 64 9) in (r.0, r.2)

-- before the opening, and after each slice before the seventh
not_opened : receiving start start (replicate 64 9) ≡ (Err (ReceiveError.Message ReadError.NotComplete 0), start.cells, replicate 64 9)
unfolding first_found in_range ones in_order laid_from
not_opened = refl

not_complete : map received before ≡ replicate 7 (Err (ReceiveError.Message ReadError.NotComplete 1), replicate 64 9)
unfolding first_found in_range ones crc_word crc_bits in_order laid_from
not_complete = refl

given : received 7 ≡ (Ok (record { view = record { count = 3 }; serial = 1 }), 7 ∷ 65536 ∷ 0 ∷ replicate 61 9)
unfolding first_found in_range ones crc_word crc_bits in_order laid_from
given = refl

-- the memory then: the words where they were built, and once more from word 70 on
stored : (after start (events 7)).memory 0 ≡ 9 ∷ words ++ replicate 63 9 ++ words ++ replicate 4 9
unfolding first_found in_range ones crc_word crc_bits in_order laid_from
stored = refl
