-- What is printed for an input, record by record, and from the bytes of it that are at hand.
-- Assumes nothing.
use Rattle.std.specs.Prelude.{Bool, true, false, List, [], ◌++◌, ◌≡◌, refl, ℕ, zero, suc, ◌≤◌, ◌<◌, length, drop}
use Rattle.std.proofs.Common.{append-nil, sym, ap, subst, ◌∙◌, arith, eq-eqb, length-drop}
use Rattle.std.proofs.lemmas.List.{drop-append-le}
use Rattle.laws.specs.Pick.{pick}
use Rattle.script.specs.Lines.{line_text}
use Rattle.script.specs.Records.{next_record}
use Rattle.script.specs.Laws.RecordLaws.{Within, stands, within}
use Rattle.script.specs.declared.calls.Call.{Call}
use Rattle.script.specs.declared.calls.Found.{Found}
use Rattle.script.specs.declared.lines.Line.{Line}
use Rattle.performing.specs.Perform.{Outcome, performed}
use Rattle.link.specs.Script.{printed_from, printed_for, printed}
use Rattle.performing.specs.Laws.PerformLaws.{performed_more}

-- a record takes bytes away, so that the rest may be printed in any way that is right for shorter inputs
agree : (r s : List ℕ → List ℕ → List ℕ → List ℕ) (input cells memories : List ℕ) (found : Found) → Within (length input) found
    → ((rest c m : List ℕ) → length rest < length input → r rest c m ≡ s rest c m)
    → printed_from r input cells memories found ≡ printed_from s input cells memories found
agree r s input cells memories (Found.Call call n) inside same =
    let after = performed input cells memories call in
    let shorter : length (drop n input) < length input = rw length-drop (omega arith) in
    ap (λ (l : List ℕ). line_text after.0 ++ l) (same (drop n input) after.1 after.2 shorter)
agree r s input cells memories Found.End inside same = refl
agree r s input cells memories Found.Stop inside same = refl
agree r s input cells memories Found.More inside same = refl

-- an input with no bytes has ended
none_left : (input : List ℕ) → length input ≤ 0 → next_record input true ≡ Found.End
unfolding next_record
none_left input h = let e : length input ≡ 0 = omega arith in rw (eq-eqb _ _ e)

nothing : (n : ℕ) (input cells memories : List ℕ) → length input ≤ 0 → printed_for n input cells memories ≡ []
unfolding printed_for
nothing zero input cells memories h = refl
nothing (suc n) input cells memories h = ap (printed_from (printed_for n) input cells memories) (none_left input h)

-- as many records as bytes are enough
enough : (n m : ℕ) (input cells memories : List ℕ) → length input ≤ n → length input ≤ m
    → printed_for n input cells memories ≡ printed_for m input cells memories
unfolding printed_for
enough zero m input cells memories h k = sym (nothing m input cells memories h)
enough (suc n) zero input cells memories h k = nothing (suc n) input cells memories k
enough (suc n) (suc m) input cells memories h k =
    agree (printed_for n) (printed_for m) input cells memories (next_record input true) (within input true)
    (λ rest c d l. enough n m rest c d (omega arith) (omega arith))

pub printed_step : (input cells memories : List ℕ)
    → printed input cells memories ≡ printed_from printed input cells memories (next_record input true)
unfolding printed_for
printed_step input cells memories =
    let n = length input in
    enough n (suc n) input cells memories (omega arith) (omega arith)
    ∙ agree (printed_for n) printed input cells memories (next_record input true) (within input true)
    (λ rest c d l. enough n (length rest) rest c d (omega arith) (omega arith))

-- ---- from the bytes at hand

-- what they tell is what the whole input has
told_on : (rest more : List ℕ) (ended : Bool) → (next_record rest ended ≡ Found.More → ⊥)
    → next_record (rest ++ pick ended [] more) true ≡ next_record rest ended
told_on rest more true told = ap (λ (l : List ℕ). next_record l true) (append-nil rest)
told_on rest more false told = sym (stands rest more true told)

module _ (rest more cells memories : List ℕ) (ended : Bool) where
  told : (found : Found) → next_record rest ended ≡ found → (found ≡ Found.More → ⊥)
      → printed (rest ++ pick ended [] more) cells memories ≡ printed_from printed (rest ++ pick ended [] more) cells memories found
  told found e some =
      printed_step (rest ++ pick ended [] more) cells memories
      ∙ ap (printed_from printed (rest ++ pick ended [] more) cells memories)
      (told_on rest more ended (λ (m : next_record rest ended ≡ Found.More). some (sym e ∙ m)) ∙ e)

  pub printed_call : (call : Call) (n : ℕ) → next_record rest ended ≡ Found.Call call n
      → printed (rest ++ pick ended [] more) cells memories
      ≡ line_text (performed rest cells memories call).0
      ++ printed (drop n rest ++ pick ended [] more) (performed rest cells memories call).1 (performed rest cells memories call).2
  printed_call call n e =
      let inside : Within (length rest) (Found.Call call n) = subst (Within (length rest)) e (within rest ended) in
      told (Found.Call call n) e (λ (m : Found.Call call n ≡ Found.More). let z : ◌≡◌ {A = ℕ} 0 1 = cc in omega arith)
      ∙ ap (λ (p : Outcome). line_text p.0 ++ printed (drop n (rest ++ pick ended [] more)) p.1 p.2)
      (performed_more rest (pick ended [] more) cells memories call n inside.1 inside.0 inside.2)
      ∙ ap (λ (l : List ℕ). line_text (performed rest cells memories call).0 ++ printed l (performed rest cells memories call).1 (performed rest cells memories call).2)
      (drop-append-le n rest (pick ended [] more) inside.1)

  pub printed_stop : next_record rest ended ≡ Found.Stop → printed (rest ++ pick ended [] more) cells memories ≡ line_text Line.Stop
  printed_stop e = told Found.Stop e (λ (m : Found.Stop ≡ Found.More). let z : ◌≡◌ {A = ℕ} 0 1 = cc in omega arith)

  pub printed_end : next_record rest ended ≡ Found.End → printed (rest ++ pick ended [] more) cells memories ≡ []
  printed_end e = told Found.End e (λ (m : Found.End ≡ Found.More). let z : ◌≡◌ {A = ℕ} 0 1 = cc in omega arith)
