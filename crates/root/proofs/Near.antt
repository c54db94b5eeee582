-- The root of a number just above 2 ^ 52 or just below 2 ^ 54, to 54 binary digits: it moves by half of what the number moves, and the square of that, which is left
-- over, is too small to show. Assumes nothing.
use mathlib.Core.Path.{◌≡◌, ap, subst}
use mathlib.Core.Logic.{inl, inr}
use Prim.Native.Nat.{ℕ, ◌+◌, ◌*◌, ◌/◌, ◌%◌, ◌^◌, ◌≤◌, ◌<◌}
use native.Mathlib.Nat.{mul-le-mul}
use native.Mathlib.Omega.{arith}
use Rattle.root.specs.Inside.Steps.{Floor}
use Rattle.number.proofs.Below.{below_or_not}

-- m is 2 ^ 52 and k + 1 more, and q is 2 ^ 53 and k more
pub just_above : (m q k : ℕ) → m ≡ 2 ^ 52 + (k + 1) → q ≡ 2 ^ 53 + k → k ≤ 2 ^ 26 → Floor (m * 2 ^ 54) q
just_above m q k em eq h =
    let small : k * k ≤ 2 ^ 26 * 2 ^ 26 = mul-le-mul h h in
    let square : q * q ≡ (2 ^ 53 + k) * (2 ^ 53 + k) = ap (λ x. x * x) eq in
    record { reached = omega arith; short = omega arith }

-- n is m and h + h more, or one more than that, and q + 1 is half way: (q + 1)² is above m · n by h², or by h² + 2h + 1 + m
half_way : (m h q : ℕ) → q + 1 ≡ m + h → 0 < h → h * h ≤ m → Floor (m * (m + (h + h))) q
half_way m h q e some few =
    let above : 1 * 1 ≤ h * h = mul-le-mul some some in
    let square : (q + 1) * (q + 1) ≡ (m + h) * (m + h) = ap (λ x. x * x) e in
    record { reached = omega arith; short = omega arith }

half_way_up : (m h q : ℕ) → q + 1 ≡ m + h + 1 → h * h ≤ m → Floor (m * (m + (h + h + 1))) q
half_way_up m h q e few =
    let square : (q + 1) * (q + 1) ≡ (m + h + 1) * (m + h + 1) = ap (λ x. x * x) e in
    record { reached = omega arith; short = omega arith }

-- m is 2 ^ 54 less j, and q + 1 is 2 ^ 54 less half of that
pub just_below : (m q j : ℕ) → m + j ≡ 2 ^ 54 → q + 1 + j / 2 ≡ 2 ^ 54 → 2 ≤ j → j ≤ 2 ^ 26 → Floor (m * 2 ^ 54) q
just_below m q j em eq some few =
    let half : j / 2 ≤ 2 ^ 25 = omega arith in
    let small : j / 2 * (j / 2) ≤ 2 ^ 25 * 2 ^ 25 = mul-le-mul half half in
    let fits : j / 2 * (j / 2) ≤ m = omega arith in
    elim (below_or_not (j % 2) 1) [
      | inl even ↦ let whole : m + (j / 2 + j / 2) ≡ 2 ^ 54 = omega arith in subst (λ n. Floor (m * n) q) whole (half_way m (j / 2) q (omega arith) (omega arith) fits)
      | inr odd ↦ let whole : m + (j / 2 + j / 2 + 1) ≡ 2 ^ 54 = omega arith in subst (λ n. Floor (m * n) q) whole (half_way_up m (j / 2) q (omega arith) fits)
    ]
