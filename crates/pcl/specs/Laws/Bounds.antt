-- A slice's address is below 32, and its codes are below 4, and an address that a move missed has 18 bits: they fit in the bits that a packed
-- answer has for them.
-- Assumes nothing.
use Rattle.std.specs.Prelude.{Bool, List, ℕ, ◌-◌, ◌^◌, ◌<◌, eqb, ltb, Ok, Err, Option, Some, None, Result}
use Rattle.std.proofs.Common.{arith, lit<}
use Rattle.std.proofs.lemmas.Bool.{eqb-false}
use Rattle.answering.specs.Choice.{open_with_another}
use Rattle.answering.proofs.Laws.Keeps.{code_lt}
use Rattle.bus.specs.Slice.{heard_or, slice_of, served}
use Rattle.bus.specs.declared.slice.Given.{Given}
use Rattle.cells.specs.Fitted.{transmitter_of, receiver_of, master_of, put_next}
use Rattle.cells.specs.Index.{transmitter_with, receiver_with}
use Rattle.cells.specs.Layout.{count_in, holder_in}
use Rattle.cells.specs.Laws.FittedLaws.{master_within}
use Rattle.cells.specs.Laws.RangeLaws.{in_range_says, fitted}
use Rattle.laws.specs.Pick.{either}
use Rattle.master.specs.Laws.Laws.{next_lt}
use Rattle.master.specs.Section.{next_of}
use Rattle.moves.specs.Laws.Missing.{transmitter_short, receiver_short}
use Rattle.receiver.specs.declared.side.Receiver.{Receiver}
use Rattle.sending.specs.Choice.{acts_on, chosen, sent_by, destination_of}
use Rattle.sending.proofs.Laws.Keeps.{code_lt as sent_lt}
use Rattle.slices.specs.Slice.{exchanged, sent_alone}
use Rattle.slices.specs.declared.Alone.{Alone}
use Rattle.slices.specs.declared.Pair.{Pair}
use Rattle.transmitter.specs.declared.side.Transmitter.{Transmitter}
use Rattle.words.specs.Lines.{damaged}
use Rattle.words.specs.declared.answers.Refusal.{Refusal}
use Rattle.words.specs.declared.codes.Codes.{Codes}
use Rattle.pcl.specs.Link.{slice_call}
use Rattle.pcl.specs.Face.{move_face}
use Rattle.pcl.specs.Numbers.{move_packed, slice_packed}
use Rattle.pcl.specs.Sides.{move_call}
use Rattle.pcl.specs.Laws.Cases.{slice_cases, move_cases}
use Rattle.pcl.specs.Laws.Refused.{refused_le}
use Rattle.pcl.specs.Laws.Narrow.{Narrow, NarrowSlot, NarrowCall, ShortCall}

abbrev Small : Codes → Type 0
Small c = (c.a < 4) × (c.b < 4)

abbrev GivesSmall : Codes × List ℕ → Type 0
GivesSmall p = Small p.0

exchanged_small : (t : Transmitter) (r : Receiver) (from mask : ℕ) (parity : Bool) → Small (exchanged t r from mask parity).codes
exchanged_small t r from mask parity =
    either (λ (p : Pair). Small p.codes) (acts_on (chosen t))
    (λ e. (sent_lt (chosen t), code_lt r from (damaged (sent_by t (chosen t)) mask parity))) (λ e. (lit< tt, lit< tt))

alone_small : (t : Transmitter) → Small (sent_alone t).codes
alone_small t = either (λ (a : Alone). Small a.codes) (acts_on (chosen t)) (λ e. (sent_lt (chosen t), lit< tt)) (λ e. (lit< tt, lit< tt))

module _ (cells : List ℕ) (mask : ℕ) (parity : Bool) where
  heard_small : (unit other from : ℕ) → GivesSmall (heard_or cells unit other from mask parity)
  heard_small unit other from =
      let alone = alone_small (transmitter_of cells unit) in
      either GivesSmall (ltb other 16)
      (λ e.
      either GivesSmall (open_with_another (receiver_of cells other) from) (λ e. alone)
      (λ e. exchanged_small (transmitter_of cells unit) (receiver_of cells other) from mask parity))
      (λ e. alone)

  slice_small : (unit from : ℕ) → GivesSmall (slice_of cells unit from mask parity)
  slice_small unit from =
      let t = transmitter_of cells unit in
      either GivesSmall (acts_on (chosen t))
      (λ e. heard_small unit (receiver_with cells (destination_of t)) from) (λ e. (lit< tt, lit< tt))

  served_narrow : (address : ℕ) → address < 32 → Narrow (served cells address mask parity).0
  served_narrow address h =
      let unit = transmitter_with cells address in
      either (λ (p : Given × List ℕ). Narrow p.0) (ltb unit 16)
      (λ e. let s = slice_small unit address in (h, s.0, s.1))
      (λ e. (h, lit< tt, lit< tt))

pub narrow : (cells : List ℕ) (mask parity : ℕ) → NarrowCall (slice_call cells mask parity).0
narrow cells mask parity =
    slice_cases cells (λ (p : Result (Option Given) Refusal × List ℕ). NarrowCall p.0) mask parity tt tt
    (λ ok.
    either (λ (p : Option Given × List ℕ). NarrowSlot p.0) (eqb (holder_in cells) 0) (λ e. tt)
    (λ some.
    let most = (in_range_says cells ok).holder in
    let u = holder_in cells - 1 in
    let there : u < count_in cells = omega (arith, eqb-false (holder_in cells) 0 some) in
    let m = master_of cells u in
    served_narrow (put_next cells u (next_of m).side) mask (eqb parity 1) (next_of m).address (next_lt m (master_within cells u (fitted cells ok u there)))))

packed_slice_lt : (c : Result (Option Given) Refusal) → NarrowCall c → slice_packed c < 2 ^ 32
packed_slice_lt (Ok None) fits = lit< tt
packed_slice_lt (Ok (Some g)) fits = omega (arith, fits)
packed_slice_lt (Err refusal) fits = omega (arith, refused_le refusal)

pub slice_packed_lt : (cells : List ℕ) (mask parity : ℕ) → slice_packed (slice_call cells mask parity).0 < 2 ^ 32
slice_packed_lt cells mask parity = packed_slice_lt (slice_call cells mask parity).0 (narrow cells mask parity)

-- of every move call, whatever it was lent
pub short : (cells memory : List ℕ) (unit side : ℕ) → ShortCall (move_call cells memory unit side).0
short cells memory unit side =
    move_cases cells (λ (p : Result (Option ℕ) Refusal × List ℕ × List ℕ). ShortCall p.0) memory unit side tt tt
    (λ ok there. transmitter_short cells memory unit (fitted cells ok unit there)) (λ ok there. receiver_short cells memory unit (fitted cells ok unit there))

packed_lt : (c : Result (Option ℕ) Refusal) → ShortCall c → move_packed c < 2 ^ 34
packed_lt (Ok None) fits = lit< tt
packed_lt (Ok (Some address)) fits = omega (arith, fits.1)
packed_lt (Err refusal) fits = omega (arith, refused_le refusal)

pub move_packed_lt : (cells memory : List ℕ) (unit side : ℕ) → (move_face cells memory unit side).0 < 2 ^ 34
move_packed_lt cells memory unit side = packed_lt (move_call cells memory unit side).0 (short cells memory unit side)
