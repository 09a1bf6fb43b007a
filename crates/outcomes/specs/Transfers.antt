-- A whole transfer is so many single move calls, one after the other, each lent what the one before left: "moves until 4, or until a move sets
-- NXL, BC OFL or memory overflow; the count of words moved .., the missing address after No. 3". Of every transfer call, whatever it is lent.
-- Assumes nothing.
use Rattle.std.specs.Prelude.{List, ◌≡◌, eqb, ltb, Result, Option}
use Prim.Native.Nat.{ℕ, zero, suc, ◌+◌, ◌<◌}
use Rattle.cells.specs.Fitted.{transmitter_of, receiver_of}
use Rattle.laws.specs.Pick.{pick}
use Rattle.pcl.specs.Numbers.{move_call_number, move_call_value, transfer_number, transfer_value, missing_in, words_moved_in}
use Rattle.pcl.specs.Sides.{move_call}
use Rattle.service.specs.Transfers.{Lent, lent}
use Rattle.silos.specs.Silo.{count}
use Rattle.words.specs.declared.answers.Refusal.{Refusal}
use Rattle.service.specs.declared.transfers.Transfer.{Transfer}

-- a single move call
abbrev pub called : ℕ → ℕ → Lent → Result (Option ℕ) Refusal × Lent
called unit side l = let o = move_call l.cells l.memory unit side in (o.0, lent o.1 o.2)

-- what so many of them leave
unfoldable pub after_calls : ℕ → ℕ → ℕ → Lent → Lent
after_calls unit side zero l = l
after_calls unit side (suc n) l = after_calls unit side n (called unit side l).1

-- the number that the next one answers, and its value
abbrev pub number_after : ℕ → ℕ → ℕ → Lent → ℕ
number_after unit side n l = move_call_number (called unit side (after_calls unit side n l)).0

abbrev pub value_after : ℕ → ℕ → ℕ → Lent → ℕ
value_after unit side n l = move_call_value (called unit side (after_calls unit side n l)).0

pub record SoManyMoves (cells memory : List ℕ) (unit side : ℕ) (outcome : Result Transfer Refusal × List ℕ × List ℕ) : Type 0 where
  -- so many move calls leave every cell and every word of the memory as the transfer does
  pub moves : ℕ
  pub same : lent outcome.1 outcome.2 ≡ after_calls unit side moves (lent cells memory)
  -- each of them is answered 0, and the next is answered 4; or as the transfer is where that is refused
  pub each : (i : ℕ) → i < moves → number_after unit side i (lent cells memory) ≡ 0
  pub next : number_after unit side moves (lent cells memory) ≡ pick (eqb (transfer_number outcome.0) 0) 4 (transfer_number outcome.0)
  -- the transfer is answered 0 where there is such a move, and only there; with any other number its value is 0
  pub begun : eqb (transfer_number outcome.0) 0 ≡ ltb 0 moves
  pub none : moves ≡ 0 → transfer_value outcome.0 ≡ 0
  -- the address that was missing is the one that the last of them hands up, and those before it found theirs
  pub found : (i : ℕ) → suc i < moves → value_after unit side i (lent cells memory) ≡ 0
  pub handed : (i : ℕ) → suc i ≡ moves → value_after unit side i (lent cells memory) ≡ missing_in (transfer_value outcome.0)
  -- the count of words is what a transmitter's silo has more, and a receiver's has fewer
  pub loaded : side ≡ 0 → count (transmitter_of outcome.1 unit).end.silo ≡ count (transmitter_of cells unit).end.silo + words_moved_in (transfer_value outcome.0)
  pub stored : side ≡ 1 → count (receiver_of cells unit).end.silo ≡ count (receiver_of outcome.1 unit).end.silo + words_moved_in (transfer_value outcome.0)
