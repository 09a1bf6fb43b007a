-- One slice: the first address of the cycle is given, and the cycle turns.
-- Assumes nothing.
use Rattle.std.specs.Prelude.{true, false, List, [], ◌∷◌, ◌++◌, map, ◌≡◌, refl, ℕ, ◌-◌, length, get_or}
use Rattle.std.proofs.lemmas.List.{map-append}
use Rattle.std.proofs.Common.{ap, sym, ◌∙◌, arith, lt-ltb, lit≤}
use Rattle.laws.specs.Pick.{by, past, here}
use Rattle.silos.specs.Laws.Laws.{words_put, words_taken, words_empty, sized_taken}
use Rattle.silos.specs.Silo.{Sized, is_empty, has_room, oldest, put, taken, words}
use Rattle.silos.specs.declared.Silo.{Silo}
use Rattle.master.specs.Cycle.{counter_cycle, cycle_of, cycle_length}
use Rattle.master.specs.Laws.Counter.{length_counter, counter_first, counter_turns}
use Rattle.master.specs.Laws.Laws.{within_next}
use Rattle.master.specs.Laws.RingLaws.{length_addresses}
use Rattle.master.specs.Laws.Rotation.{rotated, length_rotated}
use Rattle.master.specs.Ring.{address, addresses_in}
use Rattle.master.specs.Section.{returned, counted_down, next_of}
use Rattle.master.specs.Side.{Within, with_addresses, with_place}
use Rattle.master.specs.declared.section.Next.{Next}
use Rattle.master.specs.declared.side.Master.{Master}

-- ---- the silo

returned_turns : (s : Silo) → Sized 50 s → addresses_in (returned s) ≡ rotated (addresses_in s)
returned_turns s h =
    by (is_empty s)
    (λ e.
    let stays : returned s ≡ s = sym (here _ e refl) in
    let none = words_empty 50 (lit≤ tt) s h e in
    ap addresses_in stays ∙ rw none)
    (λ e.
    let turns : returned s ≡ put 50 (taken s) (address (oldest s)) = sym (past _ e refl) in
    let room : has_room 50 (taken s) ≡ true = rw e (lt-ltb (s.held - 1) 50 (omega (arith, h.most))) in
    let put_in = words_put 50 (lit≤ tt) (taken s) (sized_taken 50 (lit≤ tt) s h) (address (oldest s)) room in
    let twice : address (address (oldest s)) ≡ address (oldest s) = omega arith in
    ap addresses_in turns
    ∙ ap (map address) put_in
    ∙ map-append address (words (taken s)) (address (oldest s) ∷ [])
    ∙ ap (λ (a : ℕ). map address (words (taken s)) ++ (a ∷ [])) twice
    ∙ ap (λ (ws : List ℕ). rotated (map address ws)) (sym (words_taken 50 (lit≤ tt) s h e)))

oldest_first : (s : Silo) → Sized 50 s → address (oldest s) ≡ get_or (addresses_in s) 0 0
oldest_first s h =
    by (is_empty s)
    (λ e.
    let none : oldest s ≡ 0 = sym (here _ e refl) in
    rw (words_empty 50 (lit≤ tt) s h e, none))
    (λ e. ap (λ (ws : List ℕ). get_or (map address ws) 0 0) (sym (words_taken 50 (lit≤ tt) s h e)))

-- ---- either mode

pub step_counter : (m : Master) → Within m → m.auto_address ≡ true → cycle_of (next_of m).side ≡ rotated (cycle_of m)
step_counter m h e =
    let p = m.place in
    let s = m.switch in
    let next : with_place m (counted_down p s) ≡ (next_of m).side = ap (λ (n : Next). n.side) (here _ e refl) in
    let after : counter_cycle (counted_down p s) s ≡ cycle_of (with_place m (counted_down p s)) = here _ e refl in
    let before : counter_cycle p s ≡ cycle_of m = here _ e refl in
    sym (ap cycle_of next) ∙ sym after ∙ counter_turns p s h.least h.most ∙ ap rotated before

pub step_silo : (m : Master) → Within m → m.auto_address ≡ false → cycle_of (next_of m).side ≡ rotated (cycle_of m)
step_silo m h e =
    let s = m.addresses in
    let next : with_addresses m (returned s) ≡ (next_of m).side = ap (λ (n : Next). n.side) (past _ e refl) in
    let after : addresses_in (returned s) ≡ cycle_of (with_addresses m (returned s)) = past _ e refl in
    let before : addresses_in s ≡ cycle_of m = past _ e refl in
    sym (ap cycle_of next) ∙ sym after ∙ returned_turns s h.silo ∙ ap rotated before

module _ (m : Master) (h : Within m) where
  pub step : cycle_of (next_of m).side ≡ rotated (cycle_of m)
  step = by m.auto_address (step_counter m h) (step_silo m h)

  pub first : (next_of m).address ≡ get_or (cycle_of m) 0 0
  first =
      by m.auto_address
      (λ e.
      let given : m.place ≡ (next_of m).address = ap (λ (n : Next). n.address) (here _ e refl) in
      let before : counter_cycle m.place m.switch ≡ cycle_of m = here _ e refl in
      sym given ∙ counter_first m.place m.switch h.least h.most ∙ ap (λ (ring : List ℕ). get_or ring 0 0) before)
      (λ e.
      let given : address (oldest m.addresses) ≡ (next_of m).address = ap (λ (n : Next). n.address) (past _ e refl) in
      let before : addresses_in m.addresses ≡ cycle_of m = past _ e refl in
      sym given ∙ oldest_first m.addresses h.silo ∙ ap (λ (ring : List ℕ). get_or ring 0 0) before)

  pub length_cycle : length (cycle_of m) ≡ cycle_length m
  length_cycle =
      by m.auto_address (λ e. rw e (length_counter m.place m.switch h.least h.most))
      (λ e. rw e (length_addresses m.addresses h.silo))

-- how many they are stays
pub length_stays : (m : Master) → Within m → cycle_length (next_of m).side ≡ cycle_length m
length_stays m h =
    sym (length_cycle (next_of m).side (within_next m h))
    ∙ ap length (step m h)
    ∙ length_rotated (cycle_of m)
    ∙ length_cycle m h
