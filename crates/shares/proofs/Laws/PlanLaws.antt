-- Which refusals do not fit, by the answer; and the answer, where none of the others fits.
-- Assumes nothing.
use Rattle.std.specs.Prelude.{true, false, List, ◌≡◌, refl, ℕ, ◌*◌, ◌≤◌, Ok, Err}
use Rattle.std.proofs.Common.{sym, arith, ltb-false}
use Rattle.laws.specs.Pick.{by, past, here, either}
use Rattle.shares.specs.Arranging.{largest}
use Rattle.shares.specs.Asked.{Asked}
use Rattle.shares.specs.Lists.{Loadable}
use Rattle.shares.specs.Numbers.{plan_number}
use Rattle.shares.specs.Plan.{planned, spread_of, over, no_room, plan_of}
use Rattle.shares.specs.Refusals.{any_outside, any_twice, wrong_total, no_such_list}
use Rattle.shares.specs.Tested.{loadable}
use Rattle.shares.specs.Wanted.{shares_in, total}
use Rattle.shares.proofs.Laws.ArrangeLaws.{arranged_loadable}
use Rattle.shares.proofs.Laws.TestLaws.{test_sound}
use Rattle.shares.specs.Laws.Totals.{right_total}
use Rattle.shares.specs.declared.answers.PlanError.{PlanError}
use Rattle.shares.specs.declared.wanted.Share.{Share}

module _ (wanted room : List ℕ) where
  abbrev shares : List Share
  shares = shares_in wanted

  -- an answer with any other number than these four is a list, or that there is none
  pub asked_by : (n : ℕ) → plan_number (plan_of wanted room).0 ≡ n → (9 ≡ n → ⊥) → (1 ≡ n → ⊥) → (2 ≡ n → ⊥) → (3 ≡ n → ⊥) → Asked wanted room
  asked_by n e no_room_lem no_outside no_twice no_total =
      by (no_room wanted room) (λ t. absurd (no_room_lem (rw t at e)))
      (λ enough.
      by (any_outside shares) (λ t. absurd (no_outside (rw (enough, t) at e)))
      (λ inside.
      by (any_twice shares) (λ t. absurd (no_twice (rw (enough, inside, t) at e)))
      (λ once.
      by (wrong_total (total shares)) (λ t. absurd (no_total (rw (enough, inside, once, t) at e)))
      (λ right. record { enough = enough; inside = inside; once = once; right = right }))))

  -- where none of the numbers fits but that of a wrong total, it is wrong, and no address is named twice
  pub wrong_by : (n : ℕ) → plan_number (plan_of wanted room).0 ≡ n → (9 ≡ n → ⊥) → (1 ≡ n → ⊥) → (2 ≡ n → ⊥) → (4 ≡ n → ⊥) → (0 ≡ n → ⊥)
      → (any_twice shares ≡ false) × (wrong_total (total shares) ≡ true)
  wrong_by n e no_room_lem no_outside no_twice no_none no_list =
      by (no_room wanted room) (λ t. absurd (no_room_lem (rw t at e)))
      (λ enough.
      by (any_outside shares) (λ t. absurd (no_outside (rw (enough, t) at e)))
      (λ inside.
      by (any_twice shares) (λ t. absurd (no_twice (rw (enough, inside, t) at e)))
      (λ once.
      by (wrong_total (total shares)) (λ wrong. (once, wrong))
      (λ right.
      by (no_such_list shares) (λ t. absurd (no_none (rw (enough, inside, once, right, t) at e)))
      (λ t. absurd (no_list (rw (enough, inside, once, right, t) at e)))))))

  module _ (a : Asked wanted room) where
    pub fits_none : no_such_list shares ≡ true → plan_of wanted room ≡ (Err PlanError.NoSuchList, room)
    fits_none t = sym (past _ a.enough (past _ a.inside (past _ a.once (past _ a.right (here _ t refl)))))

    pub fits_listed : no_such_list shares ≡ false → plan_of wanted room ≡ (Ok (total shares), over (planned shares) room)
    fits_listed t = sym (past _ a.enough (past _ a.inside (past _ a.once (past _ a.right (past _ t refl)))))

    -- the list is one that is asked for
    pub planned_loadable : no_such_list shares ≡ false → Loadable shares (planned shares)
    planned_loadable t =
        let (least, most) = right_total (total shares) a.right in
        let half : 2 * (largest shares).turns ≤ total shares = ltb-false (total shares) (2 * (largest shares).turns) t in
        either (Loadable shares) (loadable shares (spread_of 0 shares)) (test_sound shares a.once (spread_of 0 shares))
        (λ e.
        either (Loadable shares) (loadable shares (spread_of 1 shares)) (test_sound shares a.once (spread_of 1 shares))
        (λ f. arranged_loadable shares a.once (omega arith) least most half))
