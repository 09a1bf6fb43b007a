-- The one way in which a definition chooses: by a test. A rule of document 01 with several cases is a row of `pick`s, first that fits.
-- Assumes nothing.
use Rattle.std.specs.Prelude.{Bool, true, false, ◌≡◌, refl}

abbrev pub pick : {A : Type 0} → Bool → A → A → A
pick true a b = a
pick false a b = b

-- what a return of the code gives: `past` each test that failed, and `here` at the one that held
pub past : {A : Type 0} {t : Bool} {x : A} (a : A) {b : A} → t ≡ false → x ≡ b → x ≡ pick t a b
past a e p = rw e p

pub here : {A : Type 0} {t : Bool} {x a : A} (b : A) → t ≡ true → x ≡ a → x ≡ pick t a b
here b e p = rw e p

-- by cases on a test
pub by : {X : Type 0} (t : Bool) → (t ≡ true → X) → (t ≡ false → X) → X
by true f g = f refl
by false f g = g refl

-- what holds of either case holds of the one that is picked
pub either : {A : Type 0} (P : A → Type 0) (t : Bool) {a b : A} → (t ≡ true → P a) → (t ≡ false → P b) → P (pick t a b)
either P true f g = f refl
either P false f g = g refl

pub pick_ap : {A B : Type 0} (f : A → B) (t : Bool) (a b : A) → f (pick t a b) ≡ pick t (f a) (f b)
pick_ap f true a b = refl
pick_ap f false a b = refl
