-- The codes shown stay codes.
-- Assumes nothing.
use Rattle.std.specs.Prelude.{ℕ, ◌<◌, Bool}
use Rattle.std.proofs.Common.{lit<}
use Rattle.laws.specs.Pick.{either}
use Rattle.words.specs.Codes.{Coded, no_codes, codes_shown, codes_cleared}
use Rattle.words.specs.declared.codes.Codes.{Codes}

pub coded_none : Coded no_codes
coded_none = record { code_a = lit< tt; code_b = lit< tt }

pub coded_shown : (c : Codes) (frozen : Bool) (a b : ℕ) → Coded c → a < 4 → b < 4 → Coded (codes_shown c frozen a b)
coded_shown c frozen a b h ha hb = either Coded frozen (λ e. h) (λ e. record { code_a = ha; code_b = hb })

pub coded_cleared : (c : Codes) (success : Bool) → Coded c → Coded (codes_cleared c success)
coded_cleared c success h = either Coded success (λ e. coded_none) (λ e. h)
