-- A master section's cells: read as they were written; and whatever they hold, what is read is within the values it may take.
-- Assumes nothing.
use Rattle.std.specs.Prelude.{◌≡◌, refl, Bool, true, false, ◌&&◌, ◌||◌, List, [], ◌∷◌, ℕ, ◌+◌, ◌^◌, ◌≤◌, ◌<◌, max, leb, length}
use Rattle.std.proofs.Common.{sym, ap, ◌∙◌, arith, le-leb, leb-true, lit≤, take_all}
use Rattle.laws.specs.Bits.{bits, bit_at}
use Rattle.laws.specs.Pick.{here, either}
use Rattle.laws.specs.Laws.Both.{both, left_of, right_of}
use Rattle.laws.specs.Laws.Fields.{Field, field, flag, Fit, number, value, number_lt, bit_lt, on_bit}
use Rattle.master.specs.Side.{Within}
use Rattle.master.specs.Writing.{auto_found}
use Rattle.master.specs.declared.side.Master.{Master}
use Rattle.silos.specs.Silo.{is_empty, words}
use Rattle.silos.specs.declared.Silo.{Silo}
use Rattle.codec.specs.Masters.{RING, ADDRESSES, AUT_ADR, section_word, master_from, enc_master, enc_next, addresses_in, switch_in, counter_in, dec_master, master_at}
use Rattle.codec.specs.Rings.{silo_of, start_for, start_next, laid_from, ring_cell}
use Rattle.codec.specs.Window.{cell, window, splice}
use Rattle.codec.proofs.Laws.EndLaws.{length_laid_silo, silo_laid, sized_of}
use Rattle.codec.proofs.Laws.RingLaws.{start_for_lt, start_next_lt}
use Rattle.codec.specs.Laws.WindowLaws.{length_window, window_spliced}

-- ---- the section's word

-- its fields, from the lowest bits up
abbrev fields : Master → List Field
fields m = field 5 m.place ∷ field 5 m.switch ∷ flag m.auto_address ∷ flag m.secondary ∷ flag m.now_master ∷ []

word_is : (m : Master) → section_word m ≡ number (fields m)
word_is m = omega arith

fit : (m : Master) → Within m → Fit (fields m)
fit m h =
    let p : m.place < 2 ^ 5 = omega arith in
    let s : m.switch < 2 ^ 5 = h.switch in
    search bit_lt depth 20

pub section_lt : (m : Master) → Within m → section_word m < 2 ^ 13
section_lt m h = rw (word_is m) (number_lt (fields m) (fit m h))

-- ---- what is written is read

-- a section of its parts is the same where each part is
abbrev pub made : Silo → Bool → Bool → Bool → ℕ → ℕ → Master
made addresses auto secondary now place switch =
    record { addresses = addresses; auto_address = auto; secondary = secondary; now_master = now; place = place; switch = switch }

pub same : {a a' : Silo} {b b' c c' d d' : Bool} {p p' s s' : ℕ} → a ≡ a' → b ≡ b' → c ≡ c' → d ≡ d' → p ≡ p' → s ≡ s'
    → made a b c d p s ≡ made a' b' c' d' p' s'
same a b c d p s = rw (a, b, c, d, p, s)

-- AUT ADR is found as it stands where an address is held or it is set
pub auto_stays : (s : Silo) (auto : Bool) → (auto ≡ false → is_empty s ≡ false) → auto_found s auto ≡ auto
auto_stays s true some = or_set (is_empty s)
  where
    or_set : (b : Bool) → b || true ≡ true
    or_set true = refl
    or_set false = refl
auto_stays s false some = rw (some refl)

pub counter_stays : (place switch : ℕ) → 1 ≤ place → place ≤ switch → counter_in place switch ≡ place
counter_stays place switch least most = sym (here _ (both (le-leb _ _ least) (le-leb _ _ most)) refl)

-- from whatever place on the addresses lie
module _ (start : ℕ) (there : start < 50) (old : List ℕ) (lent : length old ≡ 52) (m : Master) (h : Within m) where
  ring_long : length (window old ADDRESSES 50) ≡ 50
  ring_long = length_window old ADDRESSES 50 (omega arith)

  laid_long : length (laid_from start (words m.addresses) (window old ADDRESSES 50)) ≡ 50
  laid_long = length_laid_silo 50 (lit≤ tt) (lit≤ tt) m.addresses h.silo start there (window old ADDRESSES 50) ring_long

  pub length_from : length (master_from start old m) ≡ 52
  length_from = omega (arith, laid_long)

  silo_back : addresses_in (master_from start old m) ≡ m.addresses
  silo_back =
      ap (silo_of 50 (ring_cell start m.addresses.held)) (take_all 50 _ (omega (arith, laid_long)))
      ∙ silo_laid 50 (lit≤ tt) (lit≤ tt) m.addresses h.silo start there (window old ADDRESSES 50) ring_long

  pub dec_from : dec_master (master_from start old m) ≡ m
  dec_from =
      let v = value (section_word m) (fields m) (fit m h) (word_is m) in
      let switch : switch_in (section_word m) ≡ m.switch = ap (max 2) (v 1) ∙ omega arith in
      same silo_back
      (ap (λ (s : Silo). auto_found s (bit_at (section_word m) AUT_ADR)) silo_back ∙ simp (v 2, on_bit) (auto_stays m.addresses m.auto_address h.some))
      (simp (v 3, on_bit))
      (simp (v 4, on_bit))
      (rw (v 0, switch) (counter_stays m.place m.switch h.least h.most))
      switch

module _ (old : List ℕ) (lent : length old ≡ 52) (m : Master) (h : Within m) where
  for_there : start_for 50 (cell old RING) m.addresses.held < 50
  for_there = start_for_lt 50 (cell old RING) m.addresses.held (lit≤ tt)

  next_there : start_next 50 (cell old RING) < 50
  next_there = start_next_lt 50 (cell old RING) (lit≤ tt)

  pub length_master : length (enc_master old m) ≡ 52
  length_master = length_from _ for_there old lent m h

  pub dec_enc_master : dec_master (enc_master old m) ≡ m
  dec_enc_master = dec_from _ for_there old lent m h

  pub length_next : length (enc_next old m) ≡ 52
  length_next = either (λ (w : List ℕ). length w ≡ 52) m.auto_address (λ e. length_master) (λ e. length_from _ next_there old lent m h)

  pub dec_enc_next : dec_master (enc_next old m) ≡ m
  dec_enc_next = either (λ (w : List ℕ). dec_master w ≡ m) m.auto_address (λ e. dec_enc_master) (λ e. dec_from _ next_there old lent m h)

-- ---- what is read is within its values

some_held : (s : Silo) (auto : Bool) → auto_found s auto ≡ false → is_empty s ≡ false
some_held s auto e = first (is_empty s) auto e
  where
    first : (a b : Bool) → a || b ≡ false → a ≡ false
    first true b e = e
    first false b e = refl

module _ (place switch : ℕ) (two : 2 ≤ switch) where
  counter_least : 1 ≤ counter_in place switch
  counter_least = either (λ (p : ℕ). 1 ≤ p) (leb 1 place && leb place switch) (λ e. leb-true 1 place (left_of (leb 1 place) _ e)) (λ e. omega arith)

  counter_most : counter_in place switch ≤ switch
  counter_most = either (λ (p : ℕ). p ≤ switch) (leb 1 place && leb place switch) (λ e. leb-true place switch (right_of (leb 1 place) _ e)) (λ e. omega arith)

pub within_master : (w : List ℕ) → length w ≡ 52 → Within (dec_master w)
within_master w long =
    let word = cell w 1 in
    let two : 2 ≤ switch_in word = omega arith in
    record {
      silo = sized_of 50 (cell w RING) (window w ADDRESSES 50) (lit≤ tt) (lit≤ tt) (length_window w ADDRESSES 50 (omega arith));
      least = counter_least (bits word 0 5) (switch_in word) two;
      most = counter_most (bits word 0 5) (switch_in word) two;
      two = two;
      switch = omega arith;
      some = some_held (addresses_in w) _;
    }

-- ---- at a place of the cells

module _ (cells : List ℕ) (at : ℕ) (fits : at + 52 ≤ length cells) where
  lent : length (window cells at 52) ≡ 52
  lent = length_window cells at 52 fits

  pub master_loaded : Within (master_at cells at)
  master_loaded = within_master (window cells at 52) lent

  pub master_stored : (m : Master) → Within m → master_at (splice cells at (enc_master (window cells at 52) m)) at ≡ m
  master_stored m h =
      let old = window cells at 52 in
      ap dec_master (window_spliced cells at (enc_master old m) 52 (length_master old lent m h) fits) ∙ dec_enc_master old lent m h

  pub next_stored : (m : Master) → Within m → master_at (splice cells at (enc_next (window cells at 52) m)) at ≡ m
  next_stored m h =
      let old = window cells at 52 in
      ap dec_master (window_spliced cells at (enc_next old m) 52 (length_next old lent m h) fits) ∙ dec_enc_next old lent m h
