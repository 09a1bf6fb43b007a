-- A data silo whose cell is as a call writes it, with at most 64 words: what becomes of its two parts, the cell and the ring.
-- Assumes nothing.
use Rattle.std.specs.Prelude.{List, ◌≡◌, ℕ, ◌+◌, ◌-◌, ◌*◌, ◌/◌, ◌%◌, ◌≤◌, ◌<◌, ltb, length, get_or, set}
use Rattle.std.proofs.Common.{ap, ◌∙◌, arith, ltb-true, ltb-false, lit≤}
use Rattle.codec.specs.Rings.{around, silo_of, start_for}
use Rattle.codec.proofs.Laws.EndLaws.{sized_of, silo_laid}
use Rattle.codec.proofs.Laws.RingLaws.{start_for_lt}
use Rattle.codec.proofs.Laws.SiloLaws as S
use Rattle.laws.specs.Pick.{by}
use Rattle.silos.specs.Silo.{Sized, put, taken, oldest}
use Rattle.silos.specs.declared.Silo.{Silo}
use Rattle.plain.specs.Places.{front, behind, with_one, without_oldest}

around_mod : (place : ℕ) → place < 128 → around 64 place ≡ place % 64
around_mod place h = by (ltb place 64) (λ e. rw e (omega (arith, ltb-true place 64 e))) (λ e. rw e (omega (arith, ltb-false place 64 e)))

-- the two parts of a silo
abbrev pub parts : ℕ → List ℕ → Silo → ℕ × List ℕ
parts ring cells silo = S.silo_cells 64 ring cells silo

-- the silo that two parts are read as
abbrev pub read_of : ℕ × List ℕ → Silo
read_of p = silo_of 64 p.0 p.1

module _ (ring : ℕ) (cells : List ℕ) (long : length cells ≡ 64) (few : ring < 4160) where
  abbrev silo : Silo
  silo = silo_of 64 ring cells

  pub sized : Sized 64 silo
  sized = sized_of 64 ring cells (lit≤ tt) (lit≤ tt) long

  most : ring / 64 ≤ 64
  most = omega arith

  near : ring % 64 < 64
  near = omega arith

  -- whatever silo is written, it is read
  pub parts_read : (s : Silo) → Sized 64 s → read_of (parts ring cells s) ≡ s
  parts_read s h = silo_laid 64 (lit≤ tt) (lit≤ tt) s h (start_for 64 ring s.held) (start_for_lt 64 ring s.held (lit≤ tt)) cells long

  pub same_parts : parts ring cells silo ≡ (ring, cells)
  same_parts = S.same_cells 64 (lit≤ tt) (lit≤ tt) ring cells long most near sized

  pub put_parts : (word : ℕ) → ring < 4096 → parts ring cells (put 64 silo word) ≡ (with_one ring, set cells (behind ring) word)
  put_parts word room =
      S.put_cells 64 (lit≤ tt) (lit≤ tt) ring cells long most near sized word (omega arith)
      ∙ ap (λ (n : ℕ). (with_one ring, set cells n word)) (around_mod (ring % 64 + ring / 64) (omega arith))

  module _ (some : 64 ≤ ring) where
    one : 1 ≤ ring / 64
    one = omega arith

    pub oldest_there : oldest silo ≡ get_or cells (front ring) 0
    oldest_there = S.oldest_is_lem 64 (lit≤ tt) (lit≤ tt) ring cells long most near sized one

    pub taken_parts : parts ring cells (taken silo) ≡ (without_oldest ring, cells)
    taken_parts =
        S.taken_cells 64 (lit≤ tt) (lit≤ tt) ring cells long most near sized one
        ∙ ap (λ (n : ℕ). (n + (ring / 64 - 1) * 64, cells)) (around_mod (ring % 64 + 1) (omega arith))
