-- A load whose moves go well: INH ADI clear, and the address short of byte 777776.
-- Assumes nothing.
use Rattle.std.specs.Prelude.{Bool, true, false, ◌≡◌, refl, ◌+◌, ◌-◌, ◌^◌, ◌≤◌, ◌<◌, eqb}
use Rattle.std.proofs.Common.{arith, eqb-true, ne_eqb}
use Rattle.std.proofs.lemmas.Bool.{eqb-false}
use Rattle.laws.specs.Pick.{pick, by}
use Rattle.words.specs.Laws.AddressLaws.{next_inside}
use Rattle.words.specs.Count.{count_after_word, words_of}
use Rattle.words.specs.Laws.CountLaws.{one_fewer, last_word, some_left}
use Rattle.words.specs.Load.{Bounded, words_left, word_moved}
use Rattle.words.specs.declared.load.Load.{Load}

module _ (l : Load) (h : Bounded l) where
  -- "A written 0 means 65,536 bytes; not loaded, none left": a loaded one always has a word left
  pub loaded_some : l.loaded ≡ true → 1 ≤ words_left l
  loaded_some e = rw e (some_left l.count.0 h.sixteen_bits h.even_count)

  pub some_loaded : 1 ≤ words_left l → l.loaded ≡ true
  some_loaded = go l.loaded
    where
      go : (b : Bool) → 1 ≤ pick b (words_of l.count).0 0 → b ≡ true
      go true e = refl
      go false e = absurd (omega arith)

  -- a word moved is one fewer
  pub one_moved : l.loaded ≡ true → words_left (word_moved l false).load + 1 ≡ words_left l
  one_moved e =
      by (eqb (count_after_word l.count).0 0)
      (λ zero. rw (e, zero) (omega (arith, last_word l.count.0 h.sixteen_bits h.even_count (eqb-true _ _ zero))))
      (λ more. rw (e, more) (one_fewer l.count.0 h.sixteen_bits h.even_count (eqb-false _ _ more)))

  module _ (short : l.address.0 < 2 ^ 18 - 2) where
    pub next_place : (word_moved l false).load.address.0 ≡ l.address.0 + 2
    next_place = next_inside l.address.0 h.eighteen_bits h.even_address (omega arith)

    pub no_overflow : (word_moved l false).overflow ≡ false
    no_overflow = ne_eqb l.address.0 (2 ^ 18 - 2) (omega arith)
