-- The tests of the plain cases of a slice, on the cells of the two heads. What a slice does rests on none of them: one that they do not let
-- through goes by value, and `Carried` allows that of every slice.
-- Assumes nothing.
use Rattle.std.specs.Prelude.{Bool, ◌&&◌, List, ℕ, ◌+◌, ◌/◌, ◌%◌, ◌<◌, eqb, leb, ltb}
use Rattle.codec.specs.Window.{cell}

-- a transmitter open with ST TXM, not ending, with no error bit, which holds a word
abbrev pub talks_by : ℕ → ℕ → ℕ → ℕ → ℕ → ℕ → Bool
talks_by ring own low count control status =
    leb 64 ring && ltb ring 4160 && ltb own 32 && ltb low 32768 && ltb count 32768 && eqb (control % 2) 1 && eqb (status / 64 % 2) 1
    && eqb (status / 256 % 128) 0

-- a receiver open with the sender, with RCV DAT and without REJ, with no error bit and no bad parity
abbrev pub listens_by : ℕ → ℕ → ℕ → ℕ → ℕ → ℕ → ℕ → Bool
listens_by ring own low count control status from =
    ltb ring 4160 && ltb own 2 && ltb low 32768 && ltb count 32768 && eqb (control % 2) 1 && ltb control 32768 && eqb (control / 256 % 32) from
    && eqb (status / 16 % 2) 1 && ltb status 512

abbrev pub talks_at : List ℕ → ℕ → Bool
talks_at cells t =
    talks_by (cell cells t) (cell cells (t + 2)) (cell cells (t + 3)) (cell cells (t + 4)) (cell cells (t + 5)) (cell cells (t + 6))

abbrev pub listens_at : List ℕ → ℕ → ℕ → Bool
listens_at cells r from =
    listens_by (cell cells r) (cell cells (r + 2)) (cell cells (r + 3)) (cell cells (r + 4)) (cell cells (r + 5)) (cell cells (r + 6)) from

-- the same count of 128 and the same CRC
abbrev pub agree_by : ℕ → ℕ → ℕ → ℕ → Bool
agree_by block other_block crc other_crc = eqb block other_block && eqb crc other_crc

abbrev pub agree_at : List ℕ → ℕ → ℕ → Bool
agree_at cells t r = agree_by (cell cells (t + 1)) (cell cells (r + 1)) (cell cells (t + 7)) (cell cells (r + 7))

-- open with each other, and in step
abbrev pub in_step_at : List ℕ → ℕ → ℕ → ℕ → Bool
in_step_at cells t r from = talks_at cells t && listens_at cells r from && agree_at cells t r

-- cells are words of sixteen bits
abbrev pub Sixteen : List ℕ → Type 0
Sixteen cells = (place : ℕ) → cell cells place < 65536
