-- A plain section's cells say its next address, and what they become.
-- Assumes nothing.
use Rattle.std.specs.Prelude.{true, false, ◌&&◌, ◌||◌, List, [], ◌∷◌, ◌≡◌, refl, ℕ, ◌+◌, ◌*◌, ◌/◌, ◌%◌, ◌^◌, ◌≤◌, ◌<◌, eqb, leb, ltb, length, get_or, set, take, drop}
use Rattle.std.proofs.Common.{ap, sym, ◌∙◌, add-zero, add-one, arith, eqb-true, ne_eqb, le-leb, leb-true, ltb-true, lit≤, length-set, take_all, drop-cons}
use Rattle.std.proofs.lemmas.Bool.{eqb-false, lt-leb}
use Rattle.cells.specs.Fitted.{Fitted}
use Rattle.cells.specs.Layout.{master_place}
use Rattle.codec.specs.Masters.{RING, SECTION, ADDRESSES, COUNTER, SWITCH, AUT_ADR, SEC, NOW_MST, section_word, enc_next, addresses_in, switch_in, dec_master}
use Rattle.codec.specs.Rings.{around, silo_of}
use Rattle.codec.specs.Window.{cell, window, splice}
use Rattle.codec.proofs.Laws.EndLaws.{sized_of}
use Rattle.codec.proofs.Laws.MasterLaws.{made, same, auto_stays, counter_stays}
use Rattle.codec.proofs.Laws.SiloLaws.{silo_cells, next_cells, length_is, same_cells, oldest_is_lem, turned_cells}
use Rattle.codec.specs.Laws.WindowLaws.{length_splice, length_window, window_after, cell_window}
use Rattle.laws.specs.Bits.{bits, bit_at}
use Rattle.laws.specs.Pick.{by, past, here}
use Rattle.laws.specs.Laws.Both.{left_of, right_of}
use Rattle.laws.specs.Laws.Fields.{field, bit_on, whole}
use Rattle.master.specs.Section.{counted_down, returned, next_of}
use Rattle.master.specs.Side.{with_place}
use Rattle.master.specs.Writing.{auto_found}
use Rattle.master.specs.Ring.{address}
use Rattle.master.specs.declared.section.Next.{Next}
use Rattle.master.specs.declared.side.Master.{Master}
use Rattle.silos.specs.Silo.{Sized, put, taken, oldest, is_empty}
use Rattle.silos.specs.declared.Silo.{Silo}
use Rattle.plain.specs.Turn.{turns_by, ring_at, word_at, turns_at, counted_word, first_found, went_round, turned_at}
use Rattle.plain.specs.Laws.Heads.{set_in_window, splice_next}
use Rattle.plain.specs.Laws.PartLaws.{part_put}

-- ---- what a plain section's two cells are

pub record Plain (ring word : ℕ) : Type 0 where
  pub few : ring < 3264
  pub near : ring % 64 < 50
  pub thirteen : word < 2 ^ 13
  pub two : 2 ≤ bits word SWITCH 5
  pub least : 1 ≤ bits word COUNTER 5
  pub most : bits word COUNTER 5 ≤ bits word SWITCH 5
  pub some : bit_at word AUT_ADR || leb 64 ring ≡ true

pub turns_says : (ring word : ℕ) → turns_by ring word ≡ true → Plain ring word
turns_says ring word e =
    let place = bits word COUNTER 5 in
    let switch = bits word SWITCH 5 in
    let a = ltb ring 3264 in
    let ab = a && ltb (ring % 64) 50 in
    let abc = ab && ltb word 8192 in
    let abcd = abc && leb 2 switch in
    let abcde = abcd && leb 1 place in
    let abcdef = abcde && leb place switch in
    let e6 = left_of abcdef (bit_at word AUT_ADR || leb 64 ring) e in
    let e5 = left_of abcde (leb place switch) e6 in
    let e4 = left_of abcd (leb 1 place) e5 in
    let e3 = left_of abc (leb 2 switch) e4 in
    let e2 = left_of ab (ltb word 8192) e3 in
    record {
      few = ltb-true ring 3264 (left_of a (ltb (ring % 64) 50) e2);
      near = ltb-true (ring % 64) 50 (right_of a (ltb (ring % 64) 50) e2);
      thirteen = ltb-true word 8192 (right_of ab (ltb word 8192) e3);
      two = leb-true 2 switch (right_of abc (leb 2 switch) e4);
      least = leb-true 1 place (right_of abcd (leb 1 place) e5);
      most = leb-true place switch (right_of abcde (leb place switch) e6);
      some = right_of abcdef (bit_at word AUT_ADR || leb 64 ring) e;
    }

-- ---- a section's next address, and its cells after it

abbrev after : List ℕ → Next → ℕ × List ℕ
after w next = (next.address, enc_next w next.side)

abbrev stepped : List ℕ → ℕ × List ℕ
stepped w = after w (next_of (dec_master w))

-- ---- what is read of them, and that it is written as it stood

abbrev plain_master : Silo → ℕ → Master
plain_master silo word = made silo (bit_at word AUT_ADR) (bit_at word SEC) (bit_at word NOW_MST) (bits word COUNTER 5) (bits word SWITCH 5)

word_back : (silo : Silo) (word : ℕ) → word < 2 ^ 13 → section_word (plain_master silo word) ≡ word
word_back silo word h =
    let e = whole word (field 5 0 ∷ field 5 0 ∷ field 1 0 ∷ field 1 0 ∷ field 1 0 ∷ []) h in
    rw (bit_on (word / 2 ^ 10), bit_on (word / 2 ^ 11), bit_on (word / 2 ^ 12)) (omega (arith, e))

-- the cell and the ring of a silo, behind and before a word
joined : {a a' : ℕ} {l l' : List ℕ} (word : ℕ) → ◌≡◌ {A = ℕ × List ℕ} (a, l) (a', l') → a ∷ word ∷ l ≡ a' ∷ word ∷ l'
joined word e = ap (λ (p : ℕ × List ℕ). p.0 ∷ word ∷ p.1) e

module _ (ring word : ℕ) (cells : List ℕ) (h : Plain ring word) (long : length cells ≡ 50) where
  abbrev silo : Silo
  silo = silo_of 50 ring cells

  few : ring / 64 ≤ 50
  few = omega (arith, h.few)

  sized : Sized 50 silo
  sized = sized_of 50 ring cells (lit≤ tt) (lit≤ tt) long

  -- an address is held where AUT ADR is clear
  held_some : bit_at word AUT_ADR ≡ false → 1 ≤ ring / 64
  held_some clear = let e = leb-true 64 ring (rw clear at h.some) in omega arith

  not_empty : 1 ≤ ring / 64 → is_empty silo ≡ false
  not_empty some = ne_eqb silo.held 0 (λ (z : silo.held ≡ 0). omega (arith, length_is 50 (lit≤ tt) (lit≤ tt) ring cells long few h.near sized))

  ring_cells : take 50 cells ≡ cells
  ring_cells = take_all 50 cells (omega (arith, long))

  read_plain : dec_master (ring ∷ word ∷ cells) ≡ plain_master silo word
  read_plain =
      let addresses : addresses_in (ring ∷ word ∷ cells) ≡ silo = ap (silo_of 50 ring) ring_cells in
      let switch : switch_in word ≡ bits word SWITCH 5 = omega (arith, h.two) in
      same addresses
      (ap (λ (s : Silo). auto_found s (bit_at word AUT_ADR)) addresses ∙ auto_stays silo (bit_at word AUT_ADR) (λ e. not_empty (held_some e)))
      refl refl
      (rw switch (counter_stays (bits word COUNTER 5) (bits word SWITCH 5) h.least h.most))
      switch

  -- ---- counter mode

  counted_word_lem : section_word (with_place (plain_master silo word) (counted_down (bits word COUNTER 5) (bits word SWITCH 5))) ≡ counted_word word
  counted_word_lem =
      let back = word_back silo word h.thirteen in
      by (eqb (bits word COUNTER 5) 1)
      (λ e. let one = eqb-true (bits word COUNTER 5) 1 e in rw (e, le-leb (bits word COUNTER 5) 1 (omega arith)) (omega arith))
      (λ e. let more = eqb-false (bits word COUNTER 5) 1 e in rw (e, lt-leb (bits word COUNTER 5) 1 (omega (arith, h.least))) (omega (arith, h.least)))

  next_counted : bit_at word AUT_ADR ≡ true → stepped (ring ∷ word ∷ cells) ≡ (bits word COUNTER 5, splice (ring ∷ word ∷ cells) 1 (counted_word word ∷ []))
  next_counted auto =
      ap (λ (m : Master). after (ring ∷ word ∷ cells) (next_of m)) read_plain
      ∙ ap (after (ring ∷ word ∷ cells)) (sym (here _ auto refl))
      ∙ ap (λ (l : List ℕ). (bits word COUNTER 5, l))
      (sym (here _ auto refl)
      ∙ ap (λ (l : List ℕ). (silo_cells 50 ring l silo).0 ∷ section_word (with_place (plain_master silo word) (counted_down (bits word COUNTER 5) (bits word SWITCH 5))) ∷ (silo_cells 50 ring l silo).1) ring_cells
      ∙ joined _ (same_cells 50 (lit≤ tt) (lit≤ tt) ring cells long few h.near sized)
      ∙ ap (λ (v : ℕ). ring ∷ v ∷ cells) counted_word_lem)

  -- ---- silo mode

  next_round : bit_at word AUT_ADR ≡ false
      → stepped (ring ∷ word ∷ cells)
      ≡ (address (get_or cells (ring % 64) 0), (around 50 (ring % 64 + 1) + ring / 64 * 64) ∷ word ∷ set cells (around 50 (ring % 64 + ring / 64)) (address (get_or cells (ring % 64) 0)))
  next_round clear =
      let some = held_some clear in
      let none = not_empty some in
      let first = oldest_is_lem 50 (lit≤ tt) (lit≤ tt) ring cells long few h.near sized some in
      let turned = put 50 (taken silo) (address (oldest silo)) in
      let goes : returned silo ≡ turned = rw none in
      let w = ring ∷ word ∷ cells in
      ap (λ (m : Master). after w (next_of m)) read_plain
      ∙ ap (after w) (sym (past _ clear refl))
      ∙ ap (λ (s : Silo). (address (oldest silo), enc_next w (plain_master s word))) goes
      ∙ ap (λ (l : List ℕ). (address (oldest silo), l))
      (sym (past _ clear refl)
      ∙ ap (λ (l : List ℕ). (next_cells 50 ring l turned).0 ∷ section_word (plain_master turned word) ∷ (next_cells 50 ring l turned).1) ring_cells
      ∙ joined _ (turned_cells 50 (lit≤ tt) (lit≤ tt) ring cells long few h.near sized some (address (oldest silo)))
      ∙ ap (λ (v : ℕ). (around 50 (ring % 64 + 1) + ring / 64 * 64) ∷ v ∷ set cells (around 50 (ring % 64 + ring / 64)) (address (oldest silo))) (word_back turned word h.thirteen))
      ∙ ap (λ (n : ℕ). (address n, (around 50 (ring % 64 + 1) + ring / 64 * 64) ∷ word ∷ set cells (around 50 (ring % 64 + ring / 64)) (address n))) first

-- ---- by the cells of a unit

one_cell : (xs : List ℕ) (n : ℕ) → n < length xs → drop n xs ≡ cell xs n ∷ drop (n + 1) xs
one_cell xs n h = rw (add-one n) (drop-cons xs n 0 h)

-- a section's window: two cells, and the ring's
window_head : (xs : List ℕ) (at : ℕ) → at + 52 ≤ length xs → window xs at 52 ≡ cell xs (at + RING) ∷ cell xs (at + SECTION) ∷ window xs (at + ADDRESSES) 50
window_head xs at fits =
    let two : at + 1 + 1 ≡ at + 2 = omega arith in
    rw (add-zero at)
    (ap (take 52) (one_cell xs at (omega arith) ∙ ap (λ (l : List ℕ). cell xs at ∷ l) (one_cell xs (at + 1) (omega arith)))
    ∙ ap (λ (n : ℕ). cell xs at ∷ cell xs (at + 1) ∷ window xs n 50) two)

-- two cells put, and then one of the ring's set
pub round_put : (cells : List ℕ) (at ring word k x : ℕ) → k < 50 → at + 52 ≤ length cells
    → set (splice cells at (ring ∷ word ∷ [])) (at + ADDRESSES + k) x ≡ splice cells at (ring ∷ word ∷ set (window cells (at + ADDRESSES) 50) k x)
round_put cells at ring word k x inside fits =
    let head : List ℕ = ring ∷ word ∷ [] in
    let long : length (splice cells at head) ≡ length cells = length_splice cells at head (omega arith) in
    let wide : length (set (window cells (at + 2) 50) k x) ≡ 50 = length-set (window cells (at + 2) 50) k x ∙ length_window cells (at + 2) 50 (omega arith) in
    set_in_window (splice cells at head) (at + 2) 50 k x inside (omega arith)
    ∙ ap (λ (l : List ℕ). splice (splice cells at head) (at + 2) (set l k x)) (window_after cells at head (at + 2) (omega arith) (omega arith) 50)
    ∙ splice_next cells at head (set (window cells (at + 2) 50) k x) (at + 2) (omega arith) (omega arith)

module _ (cells : List ℕ) (unit : ℕ) (f : Fitted cells unit) (turns : turns_at cells unit ≡ true) where
  pub plain_there : Plain (ring_at cells unit) (word_at cells unit)
  plain_there = turns_says (ring_at cells unit) (word_at cells unit) turns

  fits : master_place unit + 52 ≤ length cells
  fits = omega (arith, f.room)

  ring_long : length (window cells (master_place unit + ADDRESSES) 50) ≡ 50
  ring_long = length_window cells (master_place unit + ADDRESSES) 50 (omega (arith, f.room))

  pub counted_in_place : bit_at (word_at cells unit) AUT_ADR ≡ true
      → (bits (word_at cells unit) COUNTER 5, splice cells (master_place unit + SECTION) (counted_word (word_at cells unit) ∷ [])) ≡ turned_at cells unit
  counted_in_place auto =
      let step : stepped (window cells (master_place unit) 52) ≡ (bits (word_at cells unit) COUNTER 5, splice (window cells (master_place unit) 52) 1 (counted_word (word_at cells unit) ∷ [])) =
      rw (window_head cells (master_place unit) fits) (next_counted _ _ (window cells (master_place unit + ADDRESSES) 50) plain_there ring_long auto) in
      sym (ap (λ (x : ℕ × List ℕ). (x.0, splice cells (master_place unit) x.1)) step
      ∙ ap (λ (l : List ℕ). (bits (word_at cells unit) COUNTER 5, l)) (part_put cells (master_place unit) 52 1 (counted_word (word_at cells unit) ∷ []) fits (lit≤ tt)))

  pub round_in_place : bit_at (word_at cells unit) AUT_ADR ≡ false
      → (first_found cells (master_place unit) (ring_at cells unit), splice cells (master_place unit) (went_round cells (master_place unit) (ring_at cells unit) (word_at cells unit))) ≡ turned_at cells unit
  round_in_place clear =
      let near = plain_there.near in
      let first : get_or (window cells (master_place unit + ADDRESSES) 50) (ring_at cells unit % 64) 0 ≡ cell cells (master_place unit + ADDRESSES + ring_at cells unit % 64) =
      cell_window cells (master_place unit + ADDRESSES) 50 (ring_at cells unit % 64) near in
      let step : stepped (window cells (master_place unit) 52) ≡ (first_found cells (master_place unit) (ring_at cells unit), went_round cells (master_place unit) (ring_at cells unit) (word_at cells unit)) =
      rw (window_head cells (master_place unit) fits) (next_round _ _ (window cells (master_place unit + ADDRESSES) 50) plain_there ring_long clear ∙ rw first refl) in
      sym (ap (λ (x : ℕ × List ℕ). (x.0, splice cells (master_place unit) x.1)) step)
