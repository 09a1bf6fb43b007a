-- The slices of a master one after the other: its whole cycle, each address in its turn, and round again.
-- Assumes nothing.
use Rattle.std.specs.Prelude.{true, List, ◌≡◌, refl, ℕ, zero, suc, ◌+◌, ◌≤◌, ◌<◌, get_or}
use Rattle.std.proofs.Common.{ap, sym, ◌∙◌, zero-add, suc-add}
use Rattle.laws.specs.Pick.{here}
use Rattle.master.specs.Cycle.{counter_cycle, cycle_of, cycle_length}
use Rattle.master.specs.Laws.Counter.{counter_has, counter_once}
use Rattle.master.specs.Laws.CycleLaws.{step, first, length_cycle, length_stays}
use Rattle.master.specs.Laws.Laws.{within_next}
use Rattle.master.specs.Laws.Rotation.{turned, Among, among_rotated, first_turned, turned_round}
use Rattle.master.specs.Section.{next_of}
use Rattle.master.specs.Side.{Within}
use Rattle.master.specs.declared.side.Master.{Master}

-- the master after k slices of its own, and the address of the k-th from now, counted from 0
unfoldable pub after_slices : ℕ → Master → Master
after_slices zero m = m
after_slices (suc k) m = after_slices k (next_of m).side

abbrev pub address_at : ℕ → Master → ℕ
address_at k m = (next_of (after_slices k m)).address

-- an address of the cycle, which it stays
abbrev pub InCycle : ℕ → Master → Type 0
InCycle a m = Among a (cycle_of m)

still_in : (m : Master) → Within m → (a : ℕ) → InCycle a m → InCycle a (next_of m).side
still_in m h a i = rw (step m h) (among_rotated a (cycle_of m) i)

-- ---- k slices

pub within_after : (k : ℕ) (m : Master) → Within m → Within (after_slices k m)
unfolding after_slices
within_after zero m h = h
within_after (suc k) m h = within_after k (next_of m).side (within_next m h)

pub cycle_after : (k : ℕ) (m : Master) → Within m → cycle_of (after_slices k m) ≡ turned k (cycle_of m)
unfolding after_slices turned
cycle_after zero m h = refl
cycle_after (suc k) m h = cycle_after k (next_of m).side (within_next m h) ∙ ap (turned k) (step m h)

-- the k-th address of the cycle is that of the k-th slice
pub given : (m : Master) → Within m → (k : ℕ) → k < cycle_length m → address_at k m ≡ get_or (cycle_of m) k 0
given m h k l =
    first (after_slices k m) (within_after k m h)
    ∙ ap (λ (ring : List ℕ). get_or ring 0 0) (cycle_after k m h)
    ∙ first_turned (cycle_of m) k (rw (length_cycle m h) l)

-- after its whole length the cycle stands as before
pub round : (m : Master) → Within m → cycle_of (after_slices (cycle_length m) m) ≡ cycle_of m
round m h = cycle_after (cycle_length m) m h ∙ rw (length_cycle m h) at (turned_round (cycle_of m))

-- an address of the cycle is given in any L slices one after the other
pub served : (i : ℕ) (m : Master) → Within m → (a : ℕ) → InCycle a m
    → (k : ℕ) × (k < cycle_length m) × (address_at (i + k) m ≡ a)
unfolding after_slices
served zero m h a (k, l, e) =
    let short : k < cycle_length m = rw (length_cycle m h) at l in
    (k, short, rw zero-add (given m h k short ∙ e))
served (suc i) m h a inside =
    let (k, l, e) = served i (next_of m).side (within_next m h) a (still_in m h a inside) in
    (k, rw (length_stays m h) at l, rw suc-add e)

-- ---- in counter mode each address from 1 to the switch is given, and once in a round

pub counter_in : (m : Master) → Within m → m.auto_address ≡ true → (a : ℕ) → 1 ≤ a → a ≤ m.switch → InCycle a m
counter_in m h e a low high = rw e (counter_has m.place m.switch h.least h.most a low high)

pub counter_given : (m : Master) → Within m → m.auto_address ≡ true
    → (k : ℕ) → k < m.switch → address_at k m ≡ get_or (counter_cycle m.place m.switch) k 0
counter_given m h e k l =
    let long : m.switch ≡ cycle_length m = here _ e refl in
    let before : counter_cycle m.place m.switch ≡ cycle_of m = here _ e refl in
    given m h k (rw (← long) l) ∙ ap (λ (ring : List ℕ). get_or ring k 0) (sym before)

pub once_given : (m : Master) → Within m → m.auto_address ≡ true
    → (j k : ℕ) → j < m.switch → k < m.switch → address_at j m ≡ address_at k m → j ≡ k
once_given m h e j k hj hk same =
    counter_once m.place m.switch h.least h.most j k hj hk
    (sym (counter_given m h e j hj) ∙ same ∙ counter_given m h e k hk)
