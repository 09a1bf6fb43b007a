-- A list in which the turns of each transmitter lie apart: place by place, of the turns that have come the one that is due first.
-- Such a list is answered where it is one that is asked for, which a test decides.
-- Assumes nothing.
use Rattle.std.specs.Prelude.{Bool, true, false, not, ◌&&◌, List, [], ◌∷◌, ◌++◌, ℕ, zero, suc, ◌+◌, ◌*◌, ltb, leb, eqb, length}
use Rattle.laws.specs.Pick.{pick}
use Rattle.shares.specs.Lists.{count, last_of}
use Rattle.shares.specs.declared.spreading.Turn.{Turn}
use Rattle.shares.specs.declared.wanted.Share.{Share}

-- the next turn of a transmitter behind the addresses so far: of its turns, numbered from 1 on, turn n has come once the places so far
-- are (n - 1) x total / turns of them, or `early` places before that, and is due at n x total / turns
abbrev pub turn_of : ℕ → ℕ → List ℕ → Share → Turn
turn_of total early so_far share =
    record {
      address = share.address;
      turns = share.turns;
      number = count share.address so_far + 1;
      come = leb (count share.address so_far * total) ((length so_far + early) * share.turns);
    }

abbrev pub no_turn : Turn
no_turn = record { address = 0; turns = 0; number = 1; come = false }

-- a transmitter may have the turn if it has one left and was not the last to have one
abbrev pub may_have : ℕ → Turn → Bool
may_have last turn = leb turn.number turn.turns && not (eqb turn.address last)

-- the one that is due first; of two due together the one with the larger share
abbrev pub due_first : Turn → Turn → Bool
due_first turn best =
    pick (ltb (turn.number * best.turns) (best.number * turn.turns)) true
    (pick (ltb (best.number * turn.turns) (turn.number * best.turns)) false (ltb best.turns turn.turns))

-- one that has come goes before one that has not
abbrev pub goes_first : Turn → Turn → Bool
goes_first turn best =
    pick (turn.come && not best.come) true (pick (best.come && not turn.come) false (due_first turn best))

abbrev pub better : ℕ → Turn → Turn → Turn
better last best turn = pick (may_have last turn && goes_first turn best) turn best

-- the best of all
unfoldable pub best_from : ℕ → ℕ → List ℕ → Turn → List Share → Turn
best_from total early so_far best [] = best
best_from total early so_far best (share ∷ shares) =
    best_from total early so_far (better (last_of so_far) best (turn_of total early so_far share)) shares

abbrev pub next_address : ℕ → ℕ → List Share → List ℕ → ℕ
next_address total early shares so_far = (best_from total early so_far no_turn shares).address

-- the first n addresses
unfoldable pub spread : ℕ → ℕ → List Share → ℕ → List ℕ
spread total early shares zero = []
spread total early shares (suc n) =
    spread total early shares n ++ (next_address total early shares (spread total early shares n) ∷ [])
