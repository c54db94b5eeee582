-- 01, The wheel step: "The conversion rounds to nearest, ties to even, stated over whole numbers, for every i64."
use Rattle.std.specs.Prelude.{◌≡◌, ℕ, suc, ◌+◌, ◌-◌, ◌*◌, ◌%◌, ◌^◌, ◌≤◌, Bool, true, false, ℤ, pos, negsuc, unsigned_abs, Float}
use Rattle.std.specs.Float.Ieee as Ieee
use Rattle.std.specs.Float.{binary64}
use Rattle.std.specs.Float.Ieee.Exact.{HasValue}

-- the toolchain's account of the conversion
abbrev pub whole_to_float : ℤ → Float
whole_to_float n = Ieee.of_int binary64 n

abbrev pub negative : ℤ → Bool
negative (pos n) = false
negative (negsuc n) = true

-- how far two whole numbers are apart
abbrev pub apart : ℕ → ℕ → ℕ
apart a b = (a - b) + (b - a)

-- the gap between the f64s of as many binary digits as N has: 1 up to 53 digits, then twice as much for each digit more
abbrev pub gap : ℕ → ℕ
gap N = 2 ^ (Ieee.size N - 53)

-- `HasValue x s a b`, the toolchain's: x is finite, has the sign s, minus where s is true, and is a / b in size.
-- r is an f64 nearest to n: with n's sign it is a whole number q of gaps, no further from n than half the gap, and q is even at a tie
pub record IsNearest (n : ℤ) (r : Float) : Type 0 where
  pub q : ℕ
  pub value : HasValue r (negative n) (q * gap (unsigned_abs n)) 1
  pub within : 2 * apart (q * gap (unsigned_abs n)) (unsigned_abs n) ≤ gap (unsigned_abs n)
  pub even : 2 * apart (q * gap (unsigned_abs n)) (unsigned_abs n) ≡ gap (unsigned_abs n) → q % 2 ≡ 0

-- b times how far n is from the number that is a / b in size and has the sign s: with another sign than n's it lies beyond zero
abbrev pub away : ℤ → (s : Bool) → (a b : ℕ) → ℕ
away (pos n) false a b = apart a (n * b)
away (pos n) true a b = a + n * b
away (negsuc n) true a b = apart a (suc n * b)
away (negsuc n) false a b = a + suc n * b
