-- 01, Square root, sine, cosine: "Root: 0 keeps its sign, +infinity gives itself, negative or NaN is refused 2. For finite x above 0 the
-- root is the one f64 for which x lies strictly between the squares of the midpoints to its neighbours, as whole-number inequalities."
use Rattle.std.specs.Prelude.{ℕ, zero, suc, ◌+◌, ◌-◌, ◌*◌, ◌/◌, ◌%◌, ◌^◌, ◌<◌, Bool, not, T, ltb, Float, Result}
use Rattle.std.specs.Float.{nan, inf, fin, binary64}
use Rattle.std.specs.Float.Ieee.{up, down, fits, to_bits, of_bits}
use Rattle.std.specs.Float.Ieee.Positive.{positive}
use Rattle.number.specs.Float.{◌<ᶠ◌, ◌=ᶠ◌, ◌when◌else◌}
use Rattle.number.specs.Constants.{infinity}
use Rattle.number.specs.Constants.{zero as +0}
use Rattle.number.specs.Said.{Said, gives, refused, refusal, said_result}
use Rattle.number.specs.declared.refusal.Refusal.{Refusal}
use Rattle.number.specs.Refusals.{row_of}

-- ---- the inequalities

-- The smallest f64 above zero is 2^−1074, and each finite f64 is a whole number of it in size: its grains.
-- The infinity counts as 2^1024, where the next f64 after the largest would be.
unfoldable pub grains : Float → ℕ
grains nan = 0
grains (inf s) = 2 ^ 1024 * 2 ^ 1074
grains (fin s m e) = m * up e * 2 ^ 1074 / down e

-- The neighbours of an f64 that is finite and above zero: from zero up, the order of the numbers is that of the bit patterns.
unfoldable pub next : Float → Float
next r = of_bits binary64 (to_bits binary64 r + 1)

unfoldable pub previous : Float → Float
previous r = of_bits binary64 (to_bits binary64 r - 1)

abbrev pub square : ℕ → ℕ
square n = n * n

-- In grains the midpoint of r and a neighbour s is (grains r + grains s) / 2, and 1 is 2^1074 grains. That x is above the square of the
-- midpoint says grains x · 2^1074 > ((grains r + grains s) / 2)²: both sides are taken four times.
pub record IsRoot (x r : Float) : Type 0 where
  pub held : T (fits binary64 r)
  pub above_zero : T (positive r)
  pub over : square (grains (previous r) + grains r) < grains x * 2 ^ 1076
  pub under : grains x * 2 ^ 1076 < square (grains r + grains (next r))

-- ---- the same root as a function that computes

-- what a bit pattern with no sign stands for, in grains: an exponent's field of 0 has no leading digit, and counts as a field of 1
unfoldable pub field_grains : ℕ → ℕ → ℕ
field_grains zero digits = digits
field_grains (suc k) digits = (2 ^ 52 + digits) * 2 ^ k

unfoldable pub pattern_grains : ℕ → ℕ
unfolding field_grains
pattern_grains b = field_grains (b / 2 ^ 52) (b % 2 ^ 52)

-- x lies above the square of the midpoint below the pattern p
unfoldable pub above : Float → ℕ → Bool
unfolding pattern_grains
above x p = ltb (square (pattern_grains (p - 1) + pattern_grains p)) (grains x * 2 ^ 1076)

-- the largest such pattern, found by its binary digits, the highest first: a digit is 1 where x lies above with it
unfoldable pub descend : Float → ℕ → ℕ → ℕ
unfolding above
descend x zero p = p
descend x (suc k) p = descend x k ((p + 2 ^ k) when above x (p + 2 ^ k) else p)

unfoldable pub root_of : Float → Float
unfolding descend
root_of x = of_bits binary64 (descend x 63 0)

-- ---- what `sqrt` says

unfoldable pub sqrt_of : Float → Said Float
sqrt_of x =
    gives x when x =ᶠ +0 else
    gives x when x =ᶠ infinity else
    refusal 2 when not (+0 <ᶠ x) else
    gives (root_of x)

abbrev pub said_root : Result Float Refusal → Said Float
said_root r = said_result row_of r

-- the number that is given, or a NaN where there is none
abbrev pub or_nan : Said Float → Float
or_nan (gives r) = r
or_nan (refused n values) = nan
