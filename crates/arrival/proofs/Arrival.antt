-- Readings that are built and sent arrive, on their slice: the theorems. The proofs stand in `Laws`.
-- Assumes nothing.
use Rattle.std.specs.Prelude.{List, [], ◌∷◌, ◌++◌, ◌≡◌, refl, ℕ, suc, ◌+◌, ◌≤◌, ltb, length, Ok}
use Rattle.std.proofs.Common.{ap, sym, ◌∙◌, arith, ltb-false, ltb-true}
use Rattle.std.proofs.lemmas.Bool.{lt-leb}
use Rattle.board.specs.Receive.{address_in}
use Rattle.cells.specs.Fitted.{receiver_of, transmitter_of}
use Rattle.cells.specs.Layout.{count_in}
use Rattle.ends.specs.Ends.{raised}
use Rattle.laws.specs.Pick.{by}
use Rattle.pcl.specs.Calls.{read_call}
use Rattle.pcl.specs.Numbers.{read_call_number, read_call_word}
use Rattle.promise.proofs.Demand3.{arrives, demand_3, exactly_then}
use Rattle.promise.specs.Kinds.{kind_of, own}
use Rattle.promise.specs.Opening.{Opening}
use Rattle.promise.specs.Reports.{Serial}
use Rattle.promise.specs.Statement.{Meets, after, message, own_slices, parties, words_sent}
use Rattle.promise.specs.World.{World, Event}
use Rattle.promise.proofs.Laws.Opens.{opens}
use Rattle.promise.proofs.Laws.RegisterReads.{serial_is}
use Rattle.readings.specs.declared.answers.View.{View}
use Rattle.readings.proofs.Laws.BuildLaws.{build_made}
use Rattle.words.specs.Slices.{slices_of}
use Rattle.arrival.specs.Statement.{Arrival, ArrivalForC, Faithful, Given, NotComplete, Sent, first, receiver, receiving, serial}
use Rattle.arrival.proofs.Laws.Outcomes.{given_faithful, given_for_C, long, none_given, not_complete_for_C, not_opened, not_yet, succeeded}
use Rattle.arrival.proofs.Laws.Reads.{Ready, address_answered, address_shown, control_answered}

module _ (start : World) (o : Opening start) where
  -- the host of R can see `first` before the opening: reads of RCR, at 16, and RDBA, at 24, are answered 0, and it is what they show
  abbrev number_at : ℕ → ℕ
  number_at offset = read_call_number (read_call start.cells (receiver start) offset).0

  abbrev read_at : ℕ → ℕ
  read_at offset = read_call_word (read_call start.cells (receiver start) offset).0

  pub first_shown : (number_at 16 ≡ 0) × (number_at 24 ≡ 0) × (address_in (read_at 16) (read_at 24) ≡ first start)
  first_shown =
      let p = opens start o in
      let cells = start.cells in
      let unit = receiver start in
      let is : Ready cells unit = record { ranged = p.ranged; fitted = lt-leb (count_in cells) unit p.receiver_fitted } in
      (control_answered cells unit is, address_answered cells unit is, address_shown cells unit is)

  -- the host of T can see before the opening what serial the message will have: the link's call at side 0 is answered 0, and the serial
  -- is what it shows, raised by one
  pub serial_shown : (number : ℕ) × Serial start (parties start).sender 0 number × (serial start ≡ raised number)
  serial_shown =
      let p = opens start o in
      let number = (transmitter_of start.cells (parties start).sender).end.serial in
      (number, serial_is start p.ranged (parties start).sender p.sender_fitted 0 number refl, refl)

  -- "An interrupt routine can't tell whether a success belongs to this message or the last": the serial is another than the one that T
  -- shows before the opening, which is that of T's last opening, or 0 where there was none since the fit
  pub serial_tells : (number : ℕ) → Serial start (parties start).sender 0 number → serial start ≡ number → ⊥
  serial_tells number shows same =
      let before = serial_shown in
      let e : before.0 ≡ number = sym before.1.1 ∙ shows.1 in
      omega (arith, before.2)

  -- and before the opening slice it is answered "message not complete" too, with the serial that R had before
  pub before_opening : NotComplete start (receiver_of start.cells (receiver start)).end.serial start
  before_opening = not_opened start o

  module _ (numbers : List ℕ) (words : ℕ) (s : Sent start numbers words) where
    abbrev many : slices_of (words_sent start) ≡ slices_of words
    many = ap slices_of (long start numbers words s)

    -- every run of events that meets the conditions
    pub arrival : (es : List Event) → Meets start es → Arrival start numbers words es
    arrival es c =
        let p = demand_3 start o es c in
        let w = after start es in
        record {
          not_before = λ few. not_yet start w (p.not_before (omega (arith, many)));
          from_then = λ enough. succeeded start numbers words s w (p.from_then (omega (arith, many)));
          in_time = λ enough. succeeded start numbers words s w (p.in_time (rw many enough));
        }

    -- and as C gets it
    pub arrival_for_C : (es : List Event) → Meets start es → ArrivalForC start numbers words es
    arrival_for_C es c =
        let a = arrival es c in
        let w = after start es in
        record {
          not_before = λ few. not_complete_for_C start w (serial start) (a.not_before few);
          from_then = λ enough. given_for_C start numbers w (a.from_then enough);
          in_time = λ enough. given_for_C start numbers w (a.in_time enough);
        }

    -- on exactly that slice
    pub exactly_on : (es : List Event) (e : Event) → Meets start (es ++ e ∷ []) → kind_of (message start).from e (after start es) ≡ own
        → suc (own_slices start es) ≡ slices_of words → NotComplete start (serial start) (after start es) × Given start numbers (after start (es ++ e ∷ []))
    exactly_on es e c mine number =
        let x = exactly_then start o es e c mine (number ∙ sym many) in
        (not_yet start (after start es) x.0, succeeded start numbers words s (after start (es ++ e ∷ [])) x.1)

    -- and from every opening there is such a run, so that the readings do arrive
    pub arrive : (es : List Event) × Meets start es × Given start numbers (after start es)
    arrive = let x = arrives start o in (x.0, x.1, succeeded start numbers words s (after start x.0) x.2)

    -- the number of that slice: every message of readings has from 4 to 67 words, and so one CRC
    pub on_slice : slices_of words ≡ words + 1
    on_slice =
        let made = build_made 1 numbers s.room words s.left s.built in
        omega (arith, made.some, made.most, made.counted)

    -- "never as 0 for want of one": at whatever place of the run receiving gives readings
    pub faithful : (es : List Event) → Meets start es → (room : List ℕ) → 64 ≤ length room → (view : View) (shown : ℕ)
        → (receiving start (after start es) room).0 ≡ Ok (record { view = view; serial = shown })
        → Faithful start numbers (after start es) room view shown
    faithful es c room enough view shown e =
        let a = arrival es c in
        by (ltb (own_slices start es) (slices_of words))
        (λ few. none_given start numbers (after start es) room view shown e (a.not_before (ltb-true _ _ few) room enough))
        (λ enough_slices. given_faithful start numbers (after start es) room view shown e (a.from_then (ltb-false _ _ enough_slices) room enough))
