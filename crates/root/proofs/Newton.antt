-- Newton's iteration for a square root, on natural numbers. Assumes nothing.
use mathlib.Core.Path.{subst}
use mathlib.Core.Logic.{inl, inr}
use Prim.Native.Nat.{ℕ, ◌+◌, ◌*◌, ◌/◌, ◌^◌, ◌≤◌, ◌<◌}
use native.Mathlib.Nat.{le_dest, mul-le-mul_right, mul-le-mul, lt-mul-div-succ, div-lt_iff_lt-mul, le_of_lt}
use native.Mathlib.Omega.{arith}
use Rattle.number.proofs.Below.{below_or_not}

-- twice a product is at most the two squares
more_by : (a d : ℕ) → a * (a + d) + a * (a + d) ≤ (a + d) * (a + d) + a * a
more_by a d = omega arith

of_le : (a b : ℕ) → a ≤ b → a * b + a * b ≤ b * b + a * a
of_le a b h = subst (λ (x : ℕ). a * x + a * x ≤ x * x + a * a) (le_dest h).1 (more_by a (le_dest h).0)

swap : (a b : ℕ) → b * a + b * a ≤ a * a + b * b → a * b + a * b ≤ b * b + a * a
swap a b h = omega arith

pub twice_le : (a b : ℕ) → a * b + a * b ≤ b * b + a * a
twice_le a b = elim (below_or_not a b) [ inl h ↦ of_le a b (le_of_lt h) | inr h ↦ swap a b (of_le b a h) ]

-- a step from any r above 0, with q for n / r and m for one more than the new guess
above : (n r q m : ℕ) → n < r * (q + 1) → r + q + 1 ≤ m + m → n < m * m
above n r q m Below-next below-twice =
    let p : (r + q + 1) * r ≤ (m + m) * r = mul-le-mul_right r below-twice in
    let s : m * r + m * r ≤ r * r + m * m = twice_le m r in
    omega arith

halved : (z : ℕ) → z + 1 ≤ z / 2 + 1 + (z / 2 + 1)
halved z = omega arith

pub newton_above : (n r : ℕ) → 0 < r → n < ((r + n / r) / 2 + 1) * ((r + n / r) / 2 + 1)
newton_above n r h = above n r (n / r) ((r + n / r) / 2 + 1) (lt-mul-div-succ n h) (halved (r + n / r))

-- a number whose square is above another is above 0
pub sq_pos : (n r : ℕ) → n < r * r → 0 < r
sq_pos n r h = elim (below_or_not 0 r) [ inl p ↦ p | inr z ↦ absurd (no (mul-le-mul z z)) ]
  where
    no : r * r ≤ 0 * 0 → ⊥
    no k = omega arith

smaller : (r q : ℕ) → q < r → (r + q) / 2 < r
smaller r q h = omega arith

-- a step from a guess whose square is above n gives a smaller one
pub newton_below : (n r : ℕ) → n < r * r → (r + n / r) / 2 < r
newton_below n r h = smaller r (n / r) ((div-lt_iff_lt-mul (sq_pos n r h)).1 h)

-- the square of a number below 2 ^ 28
pub square_small : (s : ℕ) → s ≤ 2 ^ 28 → s * s ≤ 2 ^ 56
square_small s h = mul-le-mul h h

-- what a number of at most 54 binary digits holds a guess of at least 27
pub quotient_small : (m r : ℕ) → m + 2 ≤ 2 ^ 54 → 2 ^ 26 ≤ r → m / r ≤ 2 ^ 28
quotient_small m r h k = le_of_lt ((div-lt_iff_lt-mul (some k)).1 (under (mul-le-mul_right (2 ^ 28) k)))
  where
    some : 2 ^ 26 ≤ r → 0 < r
    some k = omega arith

    under : 2 ^ 26 * 2 ^ 28 ≤ r * 2 ^ 28 → m < 2 ^ 28 * r
    under p = omega arith
