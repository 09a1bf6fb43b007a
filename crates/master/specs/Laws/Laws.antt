-- Every rule of a master section leaves it within its values: its counter between 1 and the switch, and an address held where AUT ADR
-- is clear.
-- Assumes nothing.
use Rattle.std.specs.Prelude.{Bool, true, false, not, ◌&&◌, ◌||◌, ◌≡◌, refl, ℕ, ◌+◌, ◌-◌, ◌*◌, ◌%◌, ◌^◌, ◌<◌, ◌≤◌, leb}
use Rattle.std.proofs.Common.{true≢false, sym, ◌∙◌, arith, leb-false, lt-ltb, ne_eqb, lit≤}
use Rattle.std.proofs.lemmas.Bool.{false≢true}
use Rattle.laws.specs.Bits.{bit_at}
use Rattle.laws.specs.Laws.Both.{left_of, right_of}
use Rattle.laws.specs.Pick.{by, either}
use Rattle.silos.specs.declared.Silo.{Silo}
use Rattle.silos.specs.Silo.{Sized, is_empty, oldest, put, taken}
use Rattle.silos.specs.Laws.Laws.{sized_none, sized_put, sized_taken, words_empty}
use Rattle.words.specs.Bits.TMMR
use Rattle.master.specs.Ring.{address, addresses_in, may_start}
use Rattle.master.specs.Section.{returned, next_of, taken_over}
use Rattle.master.specs.Side.{Within, initial, initialised, with_addresses}
use Rattle.master.specs.Reading.{removes, removed}
use Rattle.master.specs.Writing.{silo_found, restarts, high_written, takes_address, loaded, word_written, high_byte_written}
use Rattle.master.specs.declared.registers.Low.{Low}
use Rattle.master.specs.declared.section.Next.{Next}
use Rattle.master.specs.declared.side.Master.{Master}
use Rattle.master.specs.declared.side.Mastership.{Mastership}

-- ---- the address silo

pub sized_found : (s : Silo) (clear : Bool) → Sized 50 s → Sized 50 (silo_found s clear)
sized_found s clear h = either (Sized 50) clear (λ e. sized_none 50 (lit≤ tt)) (λ e. h)

pub sized_returned : (s : Silo) → Sized 50 s → Sized 50 (returned s)
sized_returned s h =
    either (Sized 50) (is_empty s) (λ e. h)
    (λ e. sized_put 50 (lit≤ tt) (taken s) (address (oldest s)) (sized_taken 50 (lit≤ tt) s h))

-- an address that goes round is held again
some_returned : (s : Silo) → Sized 50 s → is_empty s ≡ false → is_empty (returned s) ≡ false
some_returned s h some =
    let room = lt-ltb (s.held - 1) 50 (omega (arith, h.most)) in
    rw (some, room) (ne_eqb (s.held - 1 + 1) 0 (λ (q : s.held - 1 + 1 ≡ 0). omega arith))

-- an empty silo may not start, so that AUT ADR is set with it
still_set : (bit empty auto start : Bool) → empty ≡ true → start ≡ false → bit || (empty || auto) && not bit && not start ≡ true
still_set true empty auto start e f = refl
still_set false empty auto start e f = rw (e, f)

some_found : (m : Master) → Within m → (mastership : Mastership) (word : ℕ)
    → (high_written m mastership word).side.auto_address ≡ false → is_empty (silo_found m.addresses (bit_at word TMMR.CLR_ADR)) ≡ false
some_found m h mastership word e =
    let s = silo_found m.addresses (bit_at word TMMR.CLR_ADR) in
    by (is_empty s)
    (λ none.
    let few : may_start (addresses_in s) ≡ false = rw (words_empty 50 (lit≤ tt) s (sized_found m.addresses (bit_at word TMMR.CLR_ADR) h.silo) none) in
    absurd (true≢false (sym (still_set (bit_at word TMMR.AUT_ADR) (is_empty s) m.auto_address (may_start (addresses_in s)) none few) ∙ e)))
    (λ some. some)

-- ---- the section

pub within_initial : (switch : ℕ) → 2 ≤ switch → switch < 32 → Within (initial switch)
within_initial switch two h =
    record {
      silo = sized_none 50 (lit≤ tt);
      least = omega arith;
      most = omega arith;
      two = two;
      switch = h;
      some = λ e. absurd (true≢false e);
    }

module _ (m : Master) (h : Within m) where
  with_addresses_lem : (s : Silo) → Sized 50 s → (m.auto_address ≡ false → is_empty s ≡ false) → Within (with_addresses m s)
  with_addresses_lem s k some = record { silo = k; least = h.least; most = h.most; two = h.two; switch = h.switch; some = some }

  pub within_init : Within (initialised m)
  within_init = within_initial m.switch h.two h.switch

  within_flags : (mastership : Mastership) (word : ℕ) → Within (high_written m mastership word).side
  within_flags mastership word =
      record {
        silo = sized_found m.addresses (bit_at word TMMR.CLR_ADR) h.silo;
        least = either (λ (p : ℕ). 1 ≤ p) (restarts m mastership word) (λ e. omega arith) (λ e. h.least);
        most = either (λ (p : ℕ). p ≤ m.switch) (restarts m mastership word) (λ e. omega arith) (λ e. h.most);
        two = h.two;
        switch = h.switch;
        some = some_found m h mastership word;
      }

  pub within_high : (mastership : Mastership) (byte : ℕ) → Within (high_byte_written m mastership byte).side
  within_high mastership byte = within_flags mastership (byte * 2 ^ 8)

  pub within_loaded : (reading : Bool) (byte : ℕ) → Within (loaded m reading byte).side
  within_loaded reading byte =
      either (λ (l : Low). Within l.side) (takes_address m reading)
      (λ e.
      with_addresses_lem (put 50 m.addresses (address byte)) (sized_put 50 (lit≤ tt) m.addresses (address byte) h.silo)
      (λ a. absurd (false≢true (rw a at e)))) (λ e. h)

  pub within_removed : (reading : Bool) → Within (removed m reading)
  within_removed reading =
      either Within (removes m reading)
      (λ e.
      with_addresses_lem (taken m.addresses) (sized_taken 50 (lit≤ tt) m.addresses h.silo)
      (λ a. absurd (true≢false (sym (right_of reading m.auto_address (left_of (reading && m.auto_address) (not (is_empty m.addresses)) e)) ∙ a)))) (λ e. h)

  pub within_next : Within (next_of m).side
  within_next =
      either (λ (n : Next). Within n.side) m.auto_address
      (λ e.
      record {
        silo = h.silo;
        least = either (λ (p : ℕ). 1 ≤ p) (leb m.place 1) (λ e. omega arith) (λ (e : leb m.place 1 ≡ false). omega (arith, leb-false m.place 1 e));
        most = either (λ (p : ℕ). p ≤ m.switch) (leb m.place 1) (λ e. omega arith) (λ e. omega arith);
        two = h.two;
        switch = h.switch;
        some = h.some;
      })
      (λ e.
      with_addresses_lem (returned m.addresses) (sized_returned m.addresses h.silo)
      (λ a. some_returned m.addresses h.silo (h.some a)))

  -- the address of a slice: the counter's place, or a number mod 32
  pub next_lt : (next_of m).address < 32
  next_lt = either (λ (n : Next). n.address < 32) m.auto_address (λ e. omega arith) (λ e. omega arith)

  pub within_taken_over : Within (taken_over m)
  within_taken_over = record { silo = h.silo; least = omega arith; most = omega arith; two = h.two; switch = h.switch; some = h.some }

-- a write of the word; its high byte alone is `within_high`, its low byte alone `within_loaded`, and a read `within_removed`
pub within_word : (m : Master) → Within m → (mastership : Mastership) (reading : Bool) (word : ℕ)
    → Within (word_written m mastership reading word).side
within_word m h mastership reading word =
    within_loaded (high_written m mastership word).side (within_flags m h mastership word) reading (word % 2 ^ 8)
