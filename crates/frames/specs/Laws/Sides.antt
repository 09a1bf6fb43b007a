-- The lent cells as the rules see them: who is master, and the sides of each fitted unit.
-- Assumes nothing.
use Rattle.std.specs.Prelude.{List, ◌≡◌, refl, ℕ, eqb}
use Rattle.std.proofs.Common.{sym, ap, ◌∙◌, eq-eqb, ne_eqb, eqb-true}
use Rattle.cells.specs.Fitted.{transmitter_of, receiver_of, master_of}
use Rattle.cells.specs.Layout.{holder_in}
use Rattle.laws.specs.Pick.{pick, either}
use Rattle.master.specs.declared.side.Master.{Master}
use Rattle.receiver.specs.declared.side.Receiver.{Receiver}
use Rattle.transmitter.specs.declared.side.Transmitter.{Transmitter}

pub record Sides : Type 0 where
  pub holder : ℕ
  pub transmitter : ℕ → Transmitter
  pub receiver : ℕ → Receiver
  pub master : ℕ → Master

abbrev pub sides_of : List ℕ → Sides
sides_of cells = record { holder = holder_in cells; transmitter = transmitter_of cells; receiver = receiver_of cells; master = master_of cells }

-- ---- one unit's replaced

abbrev pub replaced : {A : Type 0} → (ℕ → A) → ℕ → A → ℕ → A
replaced f unit a k = pick (eqb k unit) a (f k)

module _ {A : Type 0} (f : ℕ → A) (unit : ℕ) (a : A) where
  pub replaced_here : replaced f unit a unit ≡ a
  replaced_here = rw (eq-eqb unit unit refl)

  pub replaced_other : (k : ℕ) → (k ≡ unit → ⊥) → replaced f unit a k ≡ f k
  replaced_other k other = rw (ne_eqb k unit other)

  -- where what is put there is what stood there, all are as they were
  pub replaced_same : (k : ℕ) → (k ≡ unit → a ≡ f unit) → replaced f unit a k ≡ f k
  replaced_same k same =
      either (λ (x : A). x ≡ f k) (eqb k unit) (λ e. same (eqb-true k unit e) ∙ ap f (sym (eqb-true k unit e))) (λ e. refl)

abbrev pub with_holder : Sides → ℕ → Sides
with_holder s holder = record { holder = holder; transmitter = s.transmitter; receiver = s.receiver; master = s.master }

abbrev pub with_transmitters : Sides → (ℕ → Transmitter) → Sides
with_transmitters s f = record { holder = s.holder; transmitter = f; receiver = s.receiver; master = s.master }

abbrev pub with_transmitter : Sides → ℕ → Transmitter → Sides
with_transmitter s unit t = with_transmitters s (replaced s.transmitter unit t)

abbrev pub with_receiver : Sides → ℕ → Receiver → Sides
with_receiver s unit r = record { holder = s.holder; transmitter = s.transmitter; receiver = replaced s.receiver unit r; master = s.master }

abbrev pub with_master : Sides → ℕ → Master → Sides
with_master s unit m = record { holder = s.holder; transmitter = s.transmitter; receiver = s.receiver; master = replaced s.master unit m }
