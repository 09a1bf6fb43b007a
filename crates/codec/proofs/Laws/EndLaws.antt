-- The values that both ends have: read as they were written; and whatever the cells hold, what is read is within the values they may
-- take.
-- Assumes nothing.
use Rattle.std.specs.Prelude.{◌≡◌, Bool, List, ◌++◌, ℕ, ◌-◌, ◌/◌, ◌≤◌, ◌<◌, length, replicate}
use Rattle.std.proofs.Common.{sym, ap, ◌∙◌, arith, lit≤, take_all}
use Rattle.ends.specs.Ends.{Within}
use Rattle.ends.specs.declared.End.{End}
use Rattle.laws.specs.Bits.{bits, bit_at}
use Rattle.silos.specs.Silo.{Sized, words}
use Rattle.silos.specs.Laws.Laws.{length_words, cells_are}
use Rattle.silos.specs.declared.Silo.{Silo}
use Rattle.words.specs.Address.{at, extension_of, low_of}
use Rattle.words.specs.Count.{in_bytes}
use Rattle.words.specs.Load.{Bounded}
use Rattle.words.specs.declared.codes.Codes.{Codes}
use Rattle.words.specs.declared.load.Load.{Load}
use Rattle.codec.specs.Ends.{RING, SILO, LOADED, EA16, window_of, silo_in, load_of, codes_of, end_in}
use Rattle.codec.specs.Rings.{silo_of, start_in, length_in, start_for, in_order, laid_from, ring_cell}
use Rattle.codec.specs.Window.{cell, window}
use Rattle.codec.proofs.Laws.RingLaws.{start_lt, start_for_lt, cell_start, cell_length, length_laid, laid_in_order, length_in_order, rest_in_order}
use Rattle.codec.specs.Laws.WindowLaws.{length_window}

-- ---- what is written is read

-- a silo of its parts, a load of its parts, an end of its parts
pub same_silo : {cells cells' : List ℕ} {held held' : ℕ} → cells ≡ cells' → held ≡ held'
    → ◌≡◌ {A = Silo} (record { cells = cells; held = held }) (record { cells = cells'; held = held' })
same_silo c n = rw (c, n)

same_load : {count address count' address' : ℕ} {loaded loaded' : Bool} → count ≡ count' → loaded ≡ loaded' → address ≡ address'
    → ◌≡◌ {A = Load} (record { count = in_bytes count; loaded = loaded; address = at address }) (record { count = in_bytes count'; loaded = loaded'; address = at address' })
same_load c l a = rw (c, l, a)

same_end : {s s' : Silo} {l l' : Load} {c c' : Codes} {o o' m m' : Bool} {b b' n n' i i' : ℕ} → s ≡ s' → l ≡ l' → c ≡ c' → o ≡ o' → b ≡ b' → n ≡ n' → m ≡ m' → i ≡ i'
    → ◌≡◌ {A = End} (record { silo = s; load = l; shown = c; opened = o; block = b; crc = n; mark = m; serial = i }) (record { silo = s'; load = l'; shown = c'; opened = o'; block = b'; crc = n'; mark = m'; serial = i' })
same_end s l c o b n m i = rw (s, l, c, o, b, n, m, i)

load_back : (l : Load) (control : ℕ) → Bounded l → bit_at control LOADED ≡ l.loaded → bits control EA16 2 ≡ extension_of l.address.0
    → load_of (low_of l.address.0 / 2) (l.count.0 / 2) control ≡ l
load_back l control h loaded extension =
    same_load (omega (arith, h.sixteen_bits, h.even_count)) loaded (rw extension (omega (arith, h.even_address)))

-- the silo that is laid in a ring is the one that it holds, at any size
module _ (size : ℕ) (some : 1 ≤ size) (most : size ≤ 64) (silo : Silo) (h : Sized size silo) (start : ℕ) (there : start < size) (ring : List ℕ) (long : length ring ≡ size) where
  words_long : length (words silo) ≡ silo.held
  words_long = length_words size most silo h

  room : length (words silo) ≤ length ring
  room = omega (arith, words_long, h.most)

  pub length_laid_silo : length (laid_from start (words silo) ring) ≡ size
  length_laid_silo = length_laid ring start (rw long there) (words silo) room ∙ long

  pub silo_laid : silo_of size (ring_cell start silo.held) (laid_from start (words silo) ring) ≡ silo
  silo_laid =
      let held = cell_length size start silo.held there most h.most in
      let place = cell_start size start silo.held there most in
      same_silo
      (ap (λ (n : ℕ). in_order n (start_in size (ring_cell start silo.held)) (laid_from start (words silo) ring)) (held ∙ sym words_long)
      ∙ ap (λ (s : ℕ). in_order (length (words silo)) s (laid_from start (words silo) ring)) place
      ∙ laid_in_order start (words silo) ring (rw long there) room
      ∙ ap (λ (n : ℕ). words silo ++ replicate (64 - n) 0) words_long
      ∙ sym (cells_are size most silo h))
      held

-- the silo that a ring holds is one of its size, whatever the cells hold
pub sized_of : (size cell : ℕ) (ring : List ℕ) → 1 ≤ size → size ≤ 64 → length ring ≡ size → Sized size (silo_of size cell ring)
sized_of size cell ring some most long =
    let there : start_in size cell < length ring = rw long (start_lt size cell some) in
    let room : length_in size cell ≤ length ring = omega arith in
    record {
      most = omega arith;
      cells64 = length_in_order (length_in size cell) (start_in size cell) ring there room (omega arith);
      rest = rest_in_order (length_in size cell) (start_in size cell) ring there room;
    }

module _ (old : List ℕ) (lent : length old ≡ 73) (e : End) (own control status : ℕ) (h : Within e) where
  start_there : start_for 64 (cell old RING) e.silo.held < 64
  start_there = start_for_lt 64 (cell old RING) e.silo.held (lit≤ tt)

  ring_long : length (window old SILO 64) ≡ 64
  ring_long = length_window old SILO 64 (omega arith)

  laid_long : length (laid_from (start_for 64 (cell old RING) e.silo.held) (words e.silo) (window old SILO 64)) ≡ 64
  laid_long = length_laid_silo 64 (lit≤ tt) (lit≤ tt) e.silo h.silo _ start_there (window old SILO 64) ring_long

  pub length_end : length (window_of old e own control status) ≡ 73
  length_end = omega (arith, laid_long)

  silo_back : silo_in (window_of old e own control status) ≡ e.silo
  silo_back =
      ap (silo_of 64 (ring_cell (start_for 64 (cell old RING) e.silo.held) e.silo.held)) (take_all 64 _ (omega (arith, laid_long)))
      ∙ silo_laid 64 (lit≤ tt) (lit≤ tt) e.silo h.silo _ start_there (window old SILO 64) ring_long

  -- from cells of bits that have its loaded mark, its extension and its codes
  pub end_back : bit_at control LOADED ≡ e.load.loaded → bits control EA16 2 ≡ extension_of e.load.address.0 → codes_of status ≡ e.shown
      → (opened mark : Bool) → opened ≡ e.opened → mark ≡ e.mark → end_in (window_of old e own control status) opened mark ≡ e
  end_back loaded extension codes opened mark open_back mark_back =
      same_end silo_back (load_back e.load control h.load loaded extension) codes open_back (omega (arith, h.block)) (omega (arith, h.crc)) mark_back
      (omega (arith, h.serial))

-- ---- what is read is within its values

bounded_of : (low count control : ℕ) → Bounded (load_of low count control)
bounded_of low count control = record { sixteen_bits = omega arith; even_count = omega arith; even_address = omega arith; eighteen_bits = omega arith }

pub end_within : (w : List ℕ) (opened mark : Bool) → length w ≡ 73 → Within (end_in w opened mark)
end_within w opened mark long =
    record {
      silo = sized_of 64 (cell w RING) (window w SILO 64) (lit≤ tt) (lit≤ tt) (length_window w SILO 64 (omega arith));
      load = bounded_of _ _ _;
      shown = record { code_a = omega arith; code_b = omega arith };
      block = omega arith;
      crc = omega arith;
      serial = omega arith;
    }
