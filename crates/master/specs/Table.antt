-- Document 01, The proved table, as one statement.
-- Assumes nothing.
use Rattle.std.specs.Prelude.{true, false, List, [], ◌∷◌, ◌≡◌, refl, map, ℕ, zero, suc}
use Rattle.words.specs.Crc.{crc_of}
use Rattle.words.specs.Load.{count_loaded, words_left}
use Rattle.words.specs.Parity.{line, parity_of}
use Rattle.words.specs.Slices.{slices_of}
use Rattle.words.specs.Table.{parity_table, words_left_table, slices_table, crc_table}
use Rattle.words.specs.declared.load.Load.{Load}
use Rattle.master.specs.Ring.{may_start, differ}

-- n addresses, a and b in turn
abbrev pub alternating : ℕ → ℕ → ℕ → List ℕ
alternating zero a b = []
alternating (suc n) a b = a ∷ alternating n b a

-- "One statement over this list"
pub record ProvedTable : Type 0 where
  pub parity : map (λ (word : ℕ). line (parity_of word)) (0 ∷ 1 ∷ 7 ∷ 0o177777 ∷ []) ≡ 1 ∷ 0 ∷ 0 ∷ 1 ∷ []
  pub words_left_for : (l : Load) → map (λ (word : ℕ). words_left (count_loaded l word)) (0o177776 ∷ 0o100000 ∷ 0 ∷ []) ≡ 1 ∷ 16384 ∷ 32768 ∷ []
  pub slices_for : map slices_of (1 ∷ 128 ∷ 129 ∷ 32768 ∷ []) ≡ 2 ∷ 129 ∷ 132 ∷ 33279 ∷ []
  pub rings : map may_start (alternating 19 1 2 ∷ alternating 20 1 2 ∷ alternating 21 1 2 ∷ []) ≡ false ∷ true ∷ false ∷ []
  pub crc : map crc_of ([] ∷ (1 ∷ []) ∷ []) ≡ 0 ∷ 0x9001 ∷ []

pub proved_table : ProvedTable
unfolding differ
proved_table = record { parity = parity_table; words_left_for = words_left_table; slices_for = slices_table; rings = refl; crc = crc_table }
