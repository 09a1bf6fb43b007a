-- Document 02, No. 5: "The tool answers a list .. or says there is none." What the call answers, and the lent room as it is left. The list
-- is what `planned` says; what is promised of it stands in `Promise`.
-- Assumes nothing.
use Rattle.std.specs.Prelude.{Bool, not, ◌||◌, List, ◌++◌, ℕ, ◌%◌, ltb, eqb, length, drop, Result, Ok, Err}
use Rattle.laws.specs.Pick.{pick}
use Rattle.shares.specs.Arranging.{arranged}
use Rattle.shares.specs.Refusals.{any_outside, any_twice, wrong_total, no_such_list}
use Rattle.shares.specs.Spreading.{spread}
use Rattle.shares.specs.Tested.{loadable}
use Rattle.shares.specs.Wanted.{shares_in, total}
use Rattle.shares.specs.declared.answers.PlanError.{PlanError}
use Rattle.shares.specs.declared.wanted.Share.{Share}

-- the list of a load that has one: spread, and if that is none that is asked for, spread with each turn free to come one place early; and
-- if that is none either, arranged
abbrev pub spread_of : ℕ → List Share → List ℕ
spread_of early shares = spread (total shares) early shares (total shares)

-- and whether it is one that is asked for
abbrev pub spread_tried : ℕ → List Share → Bool × List ℕ
spread_tried early shares = (loadable shares (spread_of early shares), spread_of early shares)

abbrev pub or_else : List Share → List ℕ → List ℕ → List ℕ
or_else shares list other = pick (loadable shares list) list other

abbrev pub planned : List Share → List ℕ
planned shares = or_else shares (spread_of 0 shares) (or_else shares (spread_of 1 shares) (arranged shares))

-- lent room with a list at its front: the words past it stay as they were
abbrev pub over : List ℕ → List ℕ → List ℕ
over list room = list ++ drop (length list) room

-- the first refusal that fits, or the list
abbrev pub answer_of : List Share → List ℕ → Result ℕ PlanError × List ℕ
answer_of shares room =
    pick (any_outside shares) (Err PlanError.OutsideAddress, room)
    (pick (any_twice shares) (Err PlanError.NamedTwice, room)
    (pick (wrong_total (total shares)) (Err PlanError.WrongTotal, room)
    (pick (no_such_list shares) (Err PlanError.NoSuchList, room) (Ok (total shares), over (planned shares) room))))

-- a list of 50 is asked as room, whatever is wanted, and two numbers for each transmitter: that goes before every other refusal
abbrev pub no_room : List ℕ → List ℕ → Bool
no_room wanted room = ltb (length room) 50 || not (eqb (length wanted % 2) 0)

abbrev pub plan_of : List ℕ → List ℕ → Result ℕ PlanError × List ℕ
plan_of wanted room = pick (no_room wanted room) (Err PlanError.NoRoom, room) (answer_of (shares_in wanted) room)
