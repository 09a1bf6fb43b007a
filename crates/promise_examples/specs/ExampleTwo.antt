-- The conditions can be met beside a unit whose cells no call wrote: 130 words, past a block, from one unit to another, which is master.
-- The cells are set up by calls; then those of a third unit are overwritten, all but its addresses, for the index has to say who has which. No two of the words are equal, and the memory they go to
-- has none of them.
-- Assumes nothing.
use Rattle.std.specs.Prelude.{List, [], ◌∷◌, ◌++◌, ◌≡◌, refl, ℕ, zero, suc, ◌+◌, ◌*◌, ◌-◌, ◌^◌, eqb, replicate}
use Rattle.std.proofs.Common.{◌∙◌, ap, subst, arith, lit≤}
use Rattle.std.specs.Int.Count.{ones}
use Rattle.cells.specs.Fitted.{unit_fitted}
use Rattle.codec.specs.Rings.{in_order, laid_from}
use Rattle.cells.specs.Index.{row}
use Rattle.promise.proofs.Laws.Rows.{rows_say}
use Rattle.cells.specs.Layout.{receiver_address, transmitter_address, unit_place}
use Rattle.cells.specs.Ranges.{in_range}
use Rattle.cells.specs.Search.{first_found}
use Rattle.codec.specs.Window.{splice, window}
use Rattle.fitting.specs.Fit.{units_fitted}
use Rattle.fitting.specs.SetUp.{taken_by, units_good}
use Rattle.laws.specs.Pick.{pick}
use Rattle.words.specs.Crc.{crc_bits, crc_word}
use Rattle.pcl.specs.Link.{slice_call}
use Rattle.pcl.specs.Sides.{move_call}
use Rattle.promise.proofs.Demand3.{arrives}
use Rattle.promise.specs.Opening.{Opening}
use Rattle.promise.specs.Statement.{Meets, Succeeded, after, opened, parties, round, words_sent}
use Rattle.promise.specs.World.{World, Event, fit, write, write_byte, slice, move, run, step, with_cells}

-- so many words, each one more than the last
abbrev counting : ℕ → ℕ → List ℕ
counting zero word = []
counting (suc k) word = word ∷ counting k (word + 1)

-- 1 to 300 in unit 1's memory, zeros in the others'
abbrev memories : ℕ → List ℕ
memories k = pick (eqb k 1) (counting 300 1) (replicate 300 0)

abbrev blank : World
blank = record { cells = replicate 672 0; memory = memories }

-- three units; unit 2 is master. Unit 1 sends 130 words, from word 0 on, to unit 2's receiver, which stores them from word 150 on; one of
-- them is moved, and a slice is for address 2.
abbrev setting : List Event
setting =
    fit ((3 ∷ 3 ∷ 2 ∷ 300 ∷ []) ++ (1 ∷ 1 ∷ 2 ∷ 300 ∷ []) ++ (2 ∷ 2 ∷ 2 ∷ 300 ∷ []))
    ∷ write_byte 2 11 0x11
    ∷ write 1 6 (2 ^ 16 - 260)
    ∷ write 1 8 0
    ∷ write 1 0 (1 + 2 * 2 ^ 8 + 2 ^ 13 + 2 ^ 14)
    ∷ move 1 0
    ∷ write 2 22 (2 ^ 16 - 260)
    ∷ write 2 24 300
    ∷ write 2 16 (1 + 2 ^ 13 + 2 ^ 14)
    ∷ slice 0 0
    ∷ []

-- Then every cell of unit 0 but its addresses is overwritten: its silos are full, its transmitter and its receiver are open, and every bit
-- stands. A look through the units comes to it first.
abbrev damaged : World → World
damaged w = with_cells w (splice w.cells (unit_place 0 + 2) (replicate 200 65535))

abbrev start : World
start =
    record {
      cells =
          (3 ∷ 3 ∷ [])
          ++ (16 ∷ 1 ∷ 2 ∷ 0 ∷ [])
          ++ replicate 28 16
          ++ (16 ∷ 1 ∷ 2 ∷ 0 ∷ [])
          ++ replicate 28 16
          ++ (2 ∷ 2 ∷ [])
          ++ replicate 200 65535
          ++ (0 ∷ 0 ∷ 0 ∷ 299 ∷ [])
          ++ (64 ∷ 0 ∷ 0 ∷ 1 ∷ 32639 ∷ 25091 ∷ 0 ∷ 0 ∷ 0 ∷ 1 ∷ [])
          ++ replicate 63 0
          ++ replicate 73 0
          ++ (0 ∷ 1090 ∷ [])
          ++ replicate 50 0
          ++ (1 ∷ 1 ∷ 0 ∷ 299 ∷ [])
          ++ replicate 73 0
          ++ (0 ∷ 0 ∷ 0 ∷ 150 ∷ 32638 ∷ 24579 ∷ 0 ∷ 0 ∷ 0 ∷ [])
          ++ replicate 64 0
          ++ (0 ∷ 1089 ∷ [])
          ++ replicate 50 0;
      memory = memories;
    }

set_up : (damaged (run setting blank)).cells ≡ start.cells
unfolding unit_fitted units_fitted taken_by units_good first_found in_range in_order laid_from row
set_up = refl

set_up_memory : ((run setting blank).memory 1 ≡ memories 1) × ((run setting blank).memory 2 ≡ memories 2)
unfolding unit_fitted units_fitted taken_by units_good first_found in_range in_order laid_from row
set_up_memory = (refl, refl)

opening : Opening start
unfolding first_found in_range ones in_order laid_from row
opening =
    record {
      indexed = rows_say start.cells refl refl;
      answered = refl;
      acknowledged = refl;
      conditions =
          record {
            some = lit≤ tt;
            most = lit≤ tt;
            transmitter_closed = refl;
            receiver_closed = refl;
            transmitter_requests = λ h. refl;
            start_transmission = refl;
            send_word = refl;
            silo_empty = refl;
            receive_word = refl;
            receive_data = refl;
            receiver_requests = refl;
            not_rejecting = refl;
            count_good = lit≤ tt;
            transmitter_increments = refl;
            receiver_increments = refl;
            read_silo = refl;
            transmitter_no_error = refl;
            transmitter_no_success = refl;
            no_software_reject = refl;
            receiver_no_error = refl;
            receiver_no_success = refl;
            no_reject_complete = refl;
            sent_stretch = record { inside = λ i h. omega arith; short = λ i h. omega arith };
            stored_stretch = record { inside = λ i h. omega arith; short = λ i h. omega arith };
            stretches_apart = λ e i j h l q. omega arith;
            sending_lent = lit≤ tt;
            receiving_lent = lit≤ tt;
          };
    }

long : words_sent start ≡ 130
unfolding first_found in_range ones in_order laid_from
long = refl

-- it is unit 1's message to unit 2; unit 0 has address 3 on both sides, which the cycle does not give
parties_are : parties start ≡ record { sender = 1; receiver = 2; master = 2 }
unfolding first_found in_range ones in_order laid_from
parties_are = refl

out_of_the_way : (transmitter_address start.cells 0 ≡ 3) × (receiver_address start.cells 0 ≡ 3) × (round start ≡ 2)
unfolding first_found in_range ones in_order laid_from
out_of_the_way = (refl, refl, refl)

-- ---- what is delivered, by the theorem

delivered : (es : List Event) × Meets start es × Succeeded start (after start es)
delivered = arrives start opening

-- 1 to 130 from word 150 on, and nothing else
abbrev received : List ℕ
received = replicate 150 0 ++ counting 130 1 ++ replicate 20 0

stored : (after start delivered.0).memory 2 ≡ received
unfolding first_found in_range ones in_order laid_from
stored = delivered.2.0.memory ∙ refl

-- ---- and by a run that the prover computes

abbrev times : ℕ → List Event → List Event
times zero es = []
times (suc k) es = es ++ times k es

-- T's silo is filled but for a word; then, 133 times, both ends move, and a slice is for address 2 and one for T
abbrev events : List Event
events = times 63 (move 1 0 ∷ []) ++ times 133 (move 1 0 ∷ move 2 1 ∷ slice 0 0 ∷ slice 0 0 ∷ [])

-- R's memory, and unit 0's overwritten cells
abbrev left_in : World → List ℕ × List ℕ
left_in w = (w.memory 2, window w.cells (unit_place 0 + 2) 200)

-- one of those 133 times
abbrev turn : List Event
turn = move 1 0 ∷ move 2 1 ∷ slice 0 0 ∷ slice 0 0 ∷ []

-- ---- the run in four stages, each computed from the world in which the stage before it ends, written out: computed at once it would not
-- fit into the memory that the prover gives to one proof

-- what these events see of a world; of a memory as a function of the unit no proof by computing would do
abbrev view : World → List ℕ × List ℕ × List ℕ
view w = (w.cells, w.memory 1, w.memory 2)

-- the world when so many words are stored: as at the start, but for the cells of unit 1's transmitter and of unit 2's receiver, what the
-- master sections hold, and unit 2's memory
abbrev reached : List ℕ → List ℕ → ℕ → World
reached sending receiving stored =
    record {
      cells =
          (3 ∷ 3 ∷ [])
          ++ (16 ∷ 1 ∷ 2 ∷ 0 ∷ [])
          ++ replicate 28 16
          ++ (16 ∷ 1 ∷ 2 ∷ 0 ∷ [])
          ++ replicate 28 16
          ++ (2 ∷ 2 ∷ [])
          ++ replicate 200 65535
          ++ (0 ∷ 0 ∷ 0 ∷ 299 ∷ [])
          ++ sending
          ++ replicate 73 0
          ++ (0 ∷ 1090 ∷ [])
          ++ replicate 50 0
          ++ (1 ∷ 1 ∷ 0 ∷ 299 ∷ [])
          ++ replicate 73 0
          ++ receiving
          ++ (0 ∷ 1090 ∷ [])
          ++ replicate 50 0;
      memory = λ k. pick (eqb k 1) (counting 300 1) (replicate 150 0 ++ counting stored 1 ++ replicate (150 - stored) 0);
    }

-- the heads of both silos, with the CRC of the words so far, and their rings, in which each word lies until one comes to its cell
abbrev stored_32 : World
stored_32 =
    reached
    ((4065 ∷ 33 ∷ 2 ∷ 96 ∷ 32734 ∷ 25091 ∷ 78 ∷ 41444 ∷ 1 ∷ []) ++ counting 32 65 ++ counting 32 33)
    ((96 ∷ 33 ∷ 0 ∷ 182 ∷ 32670 ∷ 24835 ∷ 30 ∷ 41444 ∷ 1 ∷ []) ++ counting 33 1 ++ replicate 31 0)
    32

abbrev stored_64 : World
stored_64 =
    reached
    ((4033 ∷ 65 ∷ 2 ∷ 128 ∷ 32766 ∷ 25091 ∷ 78 ∷ 55424 ∷ 1 ∷ []) ++ counting 64 65)
    ((64 ∷ 65 ∷ 0 ∷ 214 ∷ 32702 ∷ 24835 ∷ 30 ∷ 55424 ∷ 1 ∷ []) ++ counting 1 65 ++ counting 63 2)
    64

-- T has loaded its last word
abbrev stored_96 : World
stored_96 =
    reached
    ((2145 ∷ 97 ∷ 2 ∷ 130 ∷ 0 ∷ 8705 ∷ 78 ∷ 16093 ∷ 1 ∷ []) ++ counting 2 129 ++ counting 62 67)
    ((96 ∷ 97 ∷ 0 ∷ 246 ∷ 32734 ∷ 24835 ∷ 30 ∷ 16093 ∷ 1 ∷ []) ++ counting 33 65 ++ counting 31 34)
    96

first_stage : view (run (times 63 (move 1 0 ∷ []) ++ times 32 turn) (opened start)) ≡ view stored_32
unfolding first_found in_range ones crc_word crc_bits in_order laid_from
first_stage = refl

second_stage : view (run (times 32 turn) stored_32) ≡ view stored_64
unfolding first_found in_range ones crc_word crc_bits in_order laid_from
second_stage = refl

third_stage : view (run (times 32 turn) stored_64) ≡ view stored_96
unfolding first_found in_range ones crc_word crc_bits in_order laid_from
third_stage = refl

-- what is to be shown of a run of events
abbrev Leaves : List Event → World → Type 0
Leaves es w = left_in (run es w) ≡ (received, replicate 200 65535)

last_stage : Leaves (times 37 turn) stored_96
unfolding first_found in_range ones crc_word crc_bits in_order laid_from
last_stage = refl

-- worlds that look alike still do after each of these events
after_sending : (w v : World) → view w ≡ view v → view (step (move 1 0) w) ≡ view (step (move 1 0) v)
after_sending w v e = ap (λ (t : List ℕ × List ℕ × List ℕ). ((move_call t.0 t.1 1 0).1, (move_call t.0 t.1 1 0).2, t.2)) e

after_storing : (w v : World) → view w ≡ view v → view (step (move 2 1) w) ≡ view (step (move 2 1) v)
after_storing w v e = ap (λ (t : List ℕ × List ℕ × List ℕ). ((move_call t.0 t.2 2 1).1, t.1, (move_call t.0 t.2 2 1).2)) e

after_slice : (w v : World) → view w ≡ view v → view (step (slice 0 0) w) ≡ view (step (slice 0 0) v)
after_slice w v e = ap (λ (t : List ℕ × List ℕ × List ℕ). ((slice_call t.0 0 0).1, t.1, t.2)) e

after_turns : (k : ℕ) (w v : World) → view w ≡ view v → view (run (times k turn) w) ≡ view (run (times k turn) v)
after_turns zero w v e = e
after_turns (suc k) w v e =
    let sent = after_sending w v e in
    let stored = after_storing (step (move 1 0) w) (step (move 1 0) v) sent in
    let once = after_slice (run (move 1 0 ∷ move 2 1 ∷ []) w) (run (move 1 0 ∷ move 2 1 ∷ []) v) stored in
    let twice = after_slice (run (move 1 0 ∷ move 2 1 ∷ slice 0 0 ∷ []) w) (run (move 1 0 ∷ move 2 1 ∷ slice 0 0 ∷ []) v) once in
    after_turns k (run turn w) (run turn v) twice

-- a stage, and the turns after it from the world in which it ends
continued : (es : List Event) (k : ℕ) (w v : World) → view (run es w) ≡ view v → Leaves (times k turn) v → Leaves (es ++ times k turn) w
continued [] k w v e leaves = ap (λ (t : List ℕ × List ℕ × List ℕ). (t.2, window t.0 (unit_place 0 + 2) 200)) (after_turns k w v e) ∙ leaves
continued (x ∷ es) k w v e leaves = continued es k (step x w) v e leaves

-- the same of the list that both are: compared as lists of events, and not as what they leave
continued_as : (all es : List Event) (k : ℕ) (w v : World) → es ++ times k turn ≡ all → view (run es w) ≡ view v → Leaves (times k turn) v → Leaves all w
continued_as all es k w v same e leaves = subst (λ (fs : List Event). Leaves fs w) same (continued es k w v e leaves)

from_64 : Leaves (times 69 turn) stored_64
from_64 = continued_as (times 69 turn) (times 32 turn) 37 stored_64 stored_96 refl third_stage last_stage

from_32 : Leaves (times 101 turn) stored_32
from_32 = continued_as (times 101 turn) (times 32 turn) 69 stored_32 stored_64 refl second_stage from_64

-- the words are there, and none of those cells has changed
left : left_in (after start events) ≡ (received, replicate 200 65535)
left = continued_as events (times 63 (move 1 0 ∷ []) ++ times 32 turn) 101 (opened start) stored_32 refl first_stage from_32
