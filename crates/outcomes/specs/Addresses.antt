-- Document 02, No. 8, of every call: what a fit answered 0 leaves has an index that says what the look-through says, and no other call changes
-- the index or an address. (`channels` has it of every run of calls. A transfer is so many moves (`Transfers`); a level, a serial and who
-- wants service are lent the cells to read alone.)
-- Assumes nothing.
use Rattle.std.specs.Prelude.{List, ◌≡◌, ℕ, ◌^◌, ◌<◌, eqb, Result}
use Rattle.std.proofs.Common.{arith}
use Rattle.cells.specs.Index.{Indexed}
use Rattle.cells.specs.Layout.{count_in, entry_in, receiver_address, transmitter_address}
use Rattle.cells.specs.Laws.FrameLaws.{receiver_address_kept, transmitter_address_kept}
use Rattle.frames.specs.Laws.Kept.{Kept, indexed_kept, kept_all}
use Rattle.frames.specs.Laws.Moves.{transmitter_move, receiver_move}
use Rattle.frames.specs.Laws.Passed.{slice_leaves}
use Rattle.frames.specs.Laws.Reads.{read_leaves}
use Rattle.frames.specs.Laws.Resets.{reset_leaves, period_leaves}
use Rattle.frames.specs.Laws.Writes.{write_leaves, byte_leaves}
use Rattle.pcl.specs.Calls.{read_call, write_call, byte_call, reset_call, period_call}
use Rattle.pcl.specs.Link.{fit_call, slice_call}
use Rattle.pcl.specs.Numbers.{fit_number}
use Rattle.pcl.specs.Sides.{move_call}
use Rattle.pcl.specs.Laws.Cases.{admitted_cases, fit_cases, slice_cases, move_cases}
use Rattle.outcomes.specs.Laws.FitRanged.{room_indexed}
use Rattle.words.specs.declared.answers.Refusal.{Refusal}

-- "filled at fit", whatever was lent
abbrev FitIndexed : Result (Unit {0}) Refusal × List ℕ → Type 0
FitIndexed outcome = fit_number outcome.0 ≡ 0 → Indexed outcome.1

pub fit_indexes : (cells setup : List ℕ) → FitIndexed (fit_call cells setup)
fit_indexes cells setup =
    fit_cases cells FitIndexed setup (λ d. absurd (omega (arith, d))) (λ d. absurd (omega (arith, d))) (λ enough good d. room_indexed cells setup good enough)

-- who has which address is as it was: the count of units, the index, each unit's two addresses, and that the index says what they say
pub record AddressesStay (cells after : List ℕ) : Type 0 where
  pub count : count_in after ≡ count_in cells
  pub index : (k a : ℕ) → k < 2 → entry_in after k a ≡ entry_in cells k a
  pub transmitter : (u : ℕ) → transmitter_address after u ≡ transmitter_address cells u
  pub receiver : (u : ℕ) → receiver_address after u ≡ receiver_address cells u
  pub indexed : Indexed cells → Indexed after

stay : {cells after : List ℕ} → Kept cells after → AddressesStay cells after
stay {cells} {after} kept =
    record {
      count = kept.count;
      index = kept.index;
      transmitter = transmitter_address_kept cells after kept.own;
      receiver = receiver_address_kept cells after kept.own;
      indexed = indexed_kept kept;
    }

-- of each call but fit, whatever is lent
module _ (cells : List ℕ) where
  abbrev Stay : {A : Type 0} → A × List ℕ → Type 0
  Stay outcome = AddressesStay cells outcome.1

  abbrev MoveStay : {A : Type 0} → A × List ℕ × List ℕ → Type 0
  MoveStay outcome = AddressesStay cells outcome.1

  same : AddressesStay cells cells
  same = stay (kept_all cells)

  pub read_addresses : (unit offset : ℕ) → Stay (read_call cells unit offset)
  read_addresses unit offset = admitted_cases cells Stay unit _ _ _ same same (λ ok there. stay (read_leaves cells ok unit there offset).kept)

  pub write_addresses : (unit offset word : ℕ) → word < 2 ^ 16 → Stay (write_call cells unit offset word)
  write_addresses unit offset word h = admitted_cases cells Stay unit _ _ _ same same (λ ok there. stay (write_leaves cells ok unit there offset word h).kept)

  pub byte_addresses : (unit offset byte : ℕ) → byte < 2 ^ 8 → Stay (byte_call cells unit offset byte)
  byte_addresses unit offset byte h = admitted_cases cells Stay unit _ _ _ same same (λ ok there. stay (byte_leaves cells ok unit there offset byte h).kept)

  pub reset_addresses : (unit : ℕ) → Stay (reset_call cells unit)
  reset_addresses unit = admitted_cases cells Stay unit _ _ _ same same (λ ok there. stay (reset_leaves cells ok unit there).kept)

  pub period_addresses : (unit : ℕ) → Stay (period_call cells unit)
  period_addresses unit = admitted_cases cells Stay unit _ _ _ same same (λ ok there. stay (period_leaves cells ok unit there).kept)

  pub slice_addresses : (mask parity : ℕ) → Stay (slice_call cells mask parity)
  slice_addresses mask parity = slice_cases cells Stay mask parity same same (λ ok. stay (slice_leaves cells ok mask (eqb parity 1)).kept)

  pub move_addresses : (memory : List ℕ) (unit side : ℕ) → MoveStay (move_call cells memory unit side)
  move_addresses memory unit side =
      move_cases cells MoveStay memory unit side same same (λ ok there. stay (transmitter_move cells ok memory unit there).kept)
      (λ ok there. stay (receiver_move cells ok memory unit there).kept)
