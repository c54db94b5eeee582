-- The words of every definition: IEEE 754's operations on f64 as infix signs, the tests, the choice between answers.
-- An f64 is a value of `lib.Ieee`: `nan`, `inf s`, or `fin s m e`, which is m · 2^e, negative where s is true.
use Rattle.std.specs.Prelude.{ℕ, Bool, false, cond, ◌||◌, T, Float}
use Rattle.std.specs.Float.Ieee as Ieee
use Rattle.std.specs.Float.{nan, inf, fin, binary64}
use Rattle.std.specs.Float.Ieee.{fits}
pub use Rattle.std.specs.Float.Ieee.Scale.{finite}

infixl 60 ◌⊕◌ ◌⊖◌
infixl 70 ◌⊗◌ ◌⊘◌
infix 80 −◌
infix 40 ◌<ᶠ◌ ◌≤ᶠ◌ ◌=ᶠ◌
infixr 10 ◌when◌else◌
-- that a value is an f64: `Float` holds the numbers of every format
abbrev pub IsF64 : Float → Type 0
IsF64 x = T (fits binary64 x)

-- ---- an answer when a condition holds, else the next

abbrev pub ◌when◌else◌ : {A : Type 0} → A → Bool → A → A
x when b else y = cond b x y

-- ---- one operation: the exact result rounded to the nearest f64, a tie to the even one

abbrev pub ◌⊕◌ : Float → Float → Float
x ⊕ y = Ieee.add binary64 x y

abbrev pub ◌⊖◌ : Float → Float → Float
x ⊖ y = Ieee.sub binary64 x y

abbrev pub ◌⊗◌ : Float → Float → Float
x ⊗ y = Ieee.mul binary64 x y

abbrev pub ◌⊘◌ : Float → Float → Float
x ⊘ y = Ieee.div binary64 x y

-- the same number with the other sign
abbrev pub −◌ : Float → Float
− x = Ieee.neg x

-- the f64 nearest to the fraction a / b
abbrev pub nearest_to : ℕ → ℕ → Float
nearest_to a b = Ieee.round binary64 false a b

-- ---- comparisons: -0 equals +0, and where a NaN stands each is false

abbrev pub ◌<ᶠ◌ : Float → Float → Bool
x <ᶠ y = Ieee.lt x y

abbrev pub ◌≤ᶠ◌ : Float → Float → Bool
x ≤ᶠ y = Ieee.le x y

abbrev pub ◌=ᶠ◌ : Float → Float → Bool
x =ᶠ y = Ieee.eq x y

-- ---- size, and the larger of two

-- "in size": the number without its sign
unfoldable pub size : Float → Float
size nan = nan
size (inf s) = inf false
size (fin s m e) = fin false m e

-- the larger of two, a NaN being passed over; of two that are equal the first
unfoldable pub larger : Float → Float → Float
larger a b = b when (a <ᶠ b || Ieee.is_nan a) else a
