-- A call that none of the refusals before "no such list" fits.
-- Assumes nothing.
use Rattle.std.specs.Prelude.{false, List, ◌≡◌, ℕ}
use Rattle.shares.specs.Plan.{no_room}
use Rattle.shares.specs.Refusals.{any_outside, any_twice, wrong_total}
use Rattle.shares.specs.Wanted.{shares_in, total}

pub record Asked (wanted room : List ℕ) : Type 0 where
  pub enough : no_room wanted room ≡ false
  pub inside : any_outside (shares_in wanted) ≡ false
  pub once : any_twice (shares_in wanted) ≡ false
  pub right : wrong_total (total (shares_in wanted)) ≡ false
