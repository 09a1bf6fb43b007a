-- Runs of events that spare the master's section: the addresses are the list's, round and round.
-- Assumes nothing.
use Rattle.std.specs.Prelude.{List, [], ◌∷◌, ◌++◌, ◌≡◌, refl, ℕ, zero, suc, ◌+◌, length, get_or}
use Rattle.std.proofs.Common.{⊎_elim, ap, sym, ◌∙◌, arith, length-append}
use Rattle.std.proofs.Math.Path.{subst⁻¹}
use Rattle.master.specs.Laws.Rotation.{rotated, turned, length_rotated}
use Rattle.promise.specs.World.{World, Event, step, run}
use Rattle.shares.specs.Lists.{count}
use Rattle.shares.specs.Laws.Counting.{count_append}
use Rattle.turns.specs.Addresses.{address_in, addresses, slice_in, slices_in}
use Rattle.turns.specs.Round.{GoesRound, AllSpare}
use Rattle.turns.proofs.Laws.Events.{turns, one_each}
use Rattle.turns.proofs.Laws.RoundLaws.{around}

-- ---- a list that has turned has the same addresses as often

pub count_rotated : (a : ℕ) (list : List ℕ) → count a (rotated list) ≡ count a list
unfolding count
count_rotated a [] = refl
count_rotated a (x ∷ list) = count_append a list (x ∷ []) ∙ omega arith

pub count_turned : (n a : ℕ) (list : List ℕ) → count a (turned n list) ≡ count a list
unfolding turned
count_turned zero a list = refl
count_turned (suc n) a list = count_turned n a (rotated list) ∙ count_rotated a list

pub length_turned : (n : ℕ) (list : List ℕ) → length (turned n list) ≡ length list
unfolding turned
length_turned zero list = refl
length_turned (suc n) list = length_turned n (rotated list) ∙ length_rotated list

-- ---- a run

-- its addresses are the list's from the first on, and the list has turned past them
pub record Went (unit : ℕ) (list : List ℕ) (es : List Event) (w : World) : Type 0 where
  pub answers : addresses w es ≡ around (length (addresses w es)) list
  pub goes : GoesRound unit (turned (length (addresses w es)) list) (run es w).cells
  -- and every slice has one
  pub each : length (addresses w es) ≡ slices_in es

one_more : (e : Event) (w : World) (later : List ℕ) (slices : ℕ) → length (address_in e w) ≡ slice_in e → length later ≡ slices
    → length (address_in e w ++ later) ≡ slice_in e + slices
one_more e w later slices now rest =
    length-append (address_in e w) later ∙ ap (λ (n : ℕ). n + length later) now ∙ ap (λ (n : ℕ). slice_in e + n) rest

pub went : (unit : ℕ) (es : List Event) → AllSpare unit es → (list : List ℕ) (w : World) → GoesRound unit list w.cells → Went unit list es w
unfolding addresses slices_in around turned
went unit [] s list w g = record { answers = refl; goes = g; each = refl }
went unit (e ∷ es) (s, rest) list w g =
    ⊎_elim
    (λ (t : (address_in e w ≡ get_or list 0 0 ∷ []) × GoesRound unit (rotated list) (step e w).cells).
    let later = went unit es rest (rotated list) (step e w) t.1 in
    let all : address_in e w ++ addresses (step e w) es ≡ get_or list 0 0 ∷ addresses (step e w) es =
    ap (λ (l : List ℕ). l ++ addresses (step e w) es) t.0 in
    record {
      answers =
          all
          ∙ ap (λ (l : List ℕ). get_or list 0 0 ∷ l) later.answers
          ∙ ap (λ (l : List ℕ). around (length l) list) (sym all);
      goes = subst⁻¹ (λ (l : List ℕ). GoesRound unit (turned (length l) list) (run es (step e w)).cells) all later.goes;
      each = one_more e w (addresses (step e w) es) (slices_in es) (one_each unit list w g e) later.each;
    })
    (λ (t : (address_in e w ≡ []) × GoesRound unit list (step e w).cells).
    let later = went unit es rest list (step e w) t.1 in
    let all : address_in e w ++ addresses (step e w) es ≡ addresses (step e w) es = ap (λ (l : List ℕ). l ++ addresses (step e w) es) t.0 in
    record {
      answers = all ∙ later.answers ∙ ap (λ (l : List ℕ). around (length l) list) (sym all);
      goes = subst⁻¹ (λ (l : List ℕ). GoesRound unit (turned (length l) list) (run es (step e w)).cells) all later.goes;
      each = one_more e w (addresses (step e w) es) (slices_in es) (one_each unit list w g e) later.each;
    })
    (turns unit list w g e s)
