-- Document 01, One slice: "TSR bits 0 to 3 show the last own slice, are frozen by an error and cleared by SUC TXF. RSR's do so for
-- slices of R's channel."
-- Assumes nothing.
use Rattle.std.specs.Prelude.{ℕ, ◌<◌, Bool}
use Rattle.laws.specs.Pick.{pick}
use Rattle.words.specs.declared.codes.Codes.{Codes}

-- the values they may take
pub record Coded (c : Codes) : Type 0 where
  pub code_a : c.a < 4
  pub code_b : c.b < 4

abbrev pub no_codes : Codes
no_codes = record { a = 0; b = 0 }

-- "show the last own slice": one in which T acts, or a slice of R's own channel, the opening one included (reading 14); "are frozen by an
-- error": not changed where ERR stood before the slice; the slice in which the error arises is shown (reading 15)
abbrev pub codes_shown : Codes → Bool → ℕ → ℕ → Codes
codes_shown c frozen a b = pick frozen c (record { a = a; b = b })

-- "cleared by SUC TXF", by the event and by a host's write that takes it from clear to set, also where they were frozen (reading 16)
abbrev pub codes_cleared : Codes → Bool → Codes
codes_cleared c success = pick success no_codes c
