-- A text put after a text is both put in one.
-- Assumes nothing.
use mathlib.Core.List.{List, [], ◌++◌}
use mathlib.Core.Path.{refl, sym, ◌∙◌}
use Prim.Native.Nat.{ℕ, ◌+◌, ◌≤◌}
use native.Mathlib.Nat.{add-zero}
use native.Mathlib.Omega.{arith}
use lib.ListN.{length-append}
use Rattle.script.specs.Put.{Put, Written}
use Rattle.script.specs.declared.text.Writer.{Writer}
use Rattle.script.proofs.Runs.{sets_append}

pub nothing : (out : List ℕ) (at most : ℕ) → Put out at [] most at out
nothing out at most = record { stands = refl; goes = sym (add-zero at); room = omega arith; same = refl }

pub and_then : {out middle after p q : List ℕ} {at m n end next : ℕ}
    → Put out at p m end middle → Put middle end q n next after → Put out at (p ++ q) (m + n) next after
and_then {out} {middle} {after} {p} {q} {at} a b =
    record {
      stands = b.stands ∙ rw (a.stands, a.goes) (sets_append out at p q);
      goes = b.goes ∙ rw (a.goes, length-append p q) (omega arith);
      room = let x = a.room in let y = b.room in omega arith;
      same = b.same ∙ a.same;
    }

-- ---- the same of a writer

pub unwritten : (w : Writer) (most : ℕ) → Written w [] most w
unwritten w most = record { put = nothing w.out.now w.at most; here = refl }

pub both : {a b c : Writer} {p q : List ℕ} {m n : ℕ} → Written a p m b → Written b q n c → Written a (p ++ q) (m + n) c
both x y = record { put = and_then x.put y.put; here = y.here ∙ x.here }

pub at_most : {a b : Writer} {p : List ℕ} {m : ℕ} (n : ℕ) → m ≤ n → Written a p m b → Written a p n b
at_most n h x =
    record {
      put = record { stands = x.put.stands; goes = x.put.goes; room = let r = x.put.room in omega arith; same = x.put.same };
      here = x.here;
    }
