-- An address fits in 5 bits, and A and B in 2 each: what packing a slice asks, and what every slice has (`Bounds`). And what every move has that
-- missed an address.
-- Assumes nothing.
use Rattle.std.specs.Prelude.{◌<◌, Option, Some, None, Result, Ok, Err, ℕ}
use Rattle.bus.specs.declared.slice.Given.{Given}
use Rattle.moves.specs.Laws.Missing.{Short}
use Rattle.words.specs.declared.answers.Refusal.{Refusal}

abbrev pub Narrow : Given → Type 0
Narrow g = (g.address < 32) × (g.codes.a < 4) × (g.codes.b < 4)

abbrev pub NarrowSlot : Option Given → Type 0
NarrowSlot None = Unit {0}
NarrowSlot (Some g) = Narrow g

abbrev pub NarrowCall : Result (Option Given) Refusal → Type 0
NarrowCall (Ok s) = NarrowSlot s
NarrowCall (Err refusal) = Unit {0}

abbrev pub ShortCall : Result (Option ℕ) Refusal → Type 0
ShortCall m = Short m
