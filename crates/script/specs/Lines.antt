-- Document 01, The script program: "Each line is the kind and the number, in decimal". Text is a list of bytes in ASCII.
-- Assumes nothing.
use Rattle.std.specs.Prelude.{List, [], ◌∷◌, ◌++◌, ℕ, ◌+◌, ◌/◌, ◌%◌, eqb, ltb, length}
use Rattle.std.proofs.lemmas.List.Edits.{sets}
use Rattle.laws.specs.Pick.{pick}
use Rattle.script.specs.declared.lines.Line.{Line}

-- the last digit of a number
abbrev pub digit : ℕ → ℕ
digit n = 48 + n % 10

-- its digit in the place of 10, 100, .., unless that and all above it are 0
abbrev pub place : ℕ → ℕ → List ℕ
place n unit = pick (ltb n unit) [] (digit (n / unit) ∷ [])

-- a number below 100,000 in decimal, and of a larger one the last five digits: all that a line says but an address has 16 bits
unfoldable pub decimal : ℕ → List ℕ
decimal n = place n 10000 ++ place n 1000 ++ place n 100 ++ place n 10 ++ (digit n ∷ [])

-- and one below 1,000,000: an address has 18 bits
unfoldable pub long_decimal : ℕ → List ℕ
long_decimal n = place n 100000 ++ decimal n

-- "the kind and the number, in decimal"
unfoldable pub start : ℕ → ℕ → List ℕ
start kind number = decimal kind ++ (32 ∷ []) ++ decimal number

-- "with 0, a read adds the word", and others alike
unfoldable pub added : ℕ → ℕ → List ℕ
added number value = pick (eqb number 0) ((32 ∷ []) ++ decimal value) []

unfoldable pub plain_line : ℕ → ℕ → List ℕ
plain_line kind number = start kind number ++ (10 ∷ [])

unfoldable pub value_line : ℕ → ℕ → ℕ → List ℕ
value_line kind number value = start kind number ++ added number value ++ (10 ∷ [])

unfoldable pub slice_line : ℕ → ℕ → ℕ → ℕ → List ℕ
slice_line number address a b = start 4 number ++ added number address ++ added number a ++ added number b ++ (10 ∷ [])

-- "The script line of a move with NXL gains it as a third field, in decimal" (document 02, No. 3): kind 5, number 0, the address
unfoldable pub missing_line : ℕ → List ℕ
missing_line address = start 5 0 ++ (32 ∷ []) ++ long_decimal address ++ (10 ∷ [])

-- "with 0, a read adds the word, an interrupt level 0 or 1, a slice address, A and B"; the last is `stop`
abbrev pub line_text : Line → List ℕ
line_text (Line.Call kind number) = plain_line kind number
line_text (Line.Read number word) = value_line 3 number word
line_text (Line.Slice number address a b) = slice_line number address a b
line_text (Line.Level number level) = value_line 9 number level
line_text (Line.Missing address) = missing_line address
line_text Line.Stop = 115 ∷ 116 ∷ 111 ∷ 112 ∷ 10 ∷ []

-- The line's text in `out` from `at` on, and the place after it; where `out` has not 32 bytes there, nothing is put.
abbrev pub line_put : List ℕ → ℕ → Line → ℕ × List ℕ
line_put out at line = pick (ltb (length out) (at + 32)) (at, out) (at + length (line_text line), sets out at (line_text line))
