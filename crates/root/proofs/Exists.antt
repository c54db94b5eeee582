-- Every finite f64 above zero has a root: every number has a whole root, every pattern can be written as m · 4^h with m of 53 or 54 digits,
-- and the whole root of m · 2^54 rounds to a pattern of which the inequalities hold. Assumes nothing.
use mathlib.Core.Path.{◌≡◌, refl, ◌∙◌, subst}
use mathlib.Core.Logic.{inl, inr}
use Prim.Native.Nat.{ℕ, zero, suc, ◌+◌, ◌-◌, ◌*◌, ◌/◌, ◌%◌, ◌^◌, ◌≤◌, ◌<◌}
use native.Mathlib.Nat.{pow-succ'}
use native.Mathlib.Omega.{arith}
use lib.Dec.{T}
use lib.Ieee.{Float, binary64, of_bits, to_bits, fits}
use lib.Ieee.Positive.{positive}
use Rattle.root.specs.Root.{pattern_grains, IsRoot}
use Rattle.root.specs.Inside.Steps.{RootBits, Floor, Scale}
use Rattle.number.proofs.Below.{below_or_not}
use Rattle.root.proofs.Halves.{large, some_left, doubled, even_square, odd_square}
use Rattle.root.proofs.Rounded.{rounded, subnormal, normal}
use Rattle.root.proofs.Floats.{in_range, is_root}

-- ---- the whole root of a number
floor_exists : (n : ℕ) → (q : ℕ) × Floor n q
floor_exists zero = (0, record { reached = omega arith; short = omega arith })
floor_exists (suc n) = one_more (floor_exists n)
  where
    one_more : (q : ℕ) × Floor n q → (q : ℕ) × Floor (suc n) q
    one_more (q, f) = elim (below_or_not (suc n) ((q + 1) * (q + 1))) [
      | inl h ↦ (q, record { reached = let r = f.reached in omega arith; short = h })
      | inr h ↦ (q + 1, record { reached = h; short = let s = f.short in omega arith })
    ]

-- ---- m · 2^j with m of 53 digits, after d doublings at most
record Normal (n : ℕ) : Type 0 where
  m : ℕ
  j : ℕ
  same : m * 2 ^ j ≡ n
  least : 2 ^ 52 ≤ m
  most : m < 2 ^ 53
  few : j < 3068

module _ (n : ℕ) (size : 2 ^ 54 ≤ n) where
  double : (d m j : ℕ) → 2 ^ 52 ≤ m * 2 ^ d → m < 2 ^ 53 → j < 3068 → m * 2 ^ j ≡ n → Normal n
  double zero m j l u k e = record { m = m; j = j; same = e; least = enough l; most = u; few = k }
    where
      enough : 2 ^ 52 ≤ m * 1 → 2 ^ 52 ≤ m
      enough l = omega arith
  double (suc d) m j l u k e = elim (below_or_not m (2 ^ 52)) [
    | inl h ↦ double d (m * 2) (j - 1) (shifted (2 ^ d) (rw (pow-succ' 2 d) at l)) (twice h) (fewer k) (doubled m j (some_left m j n e size (wide u)) ∙ e)
    | inr h ↦ record { m = m; j = j; same = e; least = h; most = u; few = k }
  ]
    where
      shifted : (w : ℕ) → 2 ^ 52 ≤ m * (2 * w) → 2 ^ 52 ≤ m * 2 * w
      shifted w l = omega arith

      twice : m < 2 ^ 52 → m * 2 < 2 ^ 53
      twice h = omega arith

      fewer : j < 3068 → j - 1 < 3068
      fewer h = omega arith

      wide : m < 2 ^ 53 → m < 2 ^ 54
      wide h = omega arith

normal_exists : (m j : ℕ) → 0 < m → m < 2 ^ 53 → 1022 ≤ j → j < 3068 → Normal (m * 2 ^ j)
normal_exists m j s u l k = double (m * 2 ^ j) (large m j s l) 52 m j (whole s) u k refl
  where
    whole : 0 < m → 2 ^ 52 ≤ m * 2 ^ 52
    whole s = omega arith

-- ---- as m · 4^h, m of 53 or 54 digits
Scaled : ℕ → Type 0
Scaled n = (m : ℕ) × (h : ℕ) × Scale n m h × (h < 1534)

scaled : (n : ℕ) → Normal n → Scaled n
unfolding Scaled
scaled n N = elim (below_or_not (N.j % 2) 1) [
  | inl e ↦ (N.m, N.j / 2, record { same = even_square N.m N.j (is_zero N.j e) ∙ N.same; large = N.least; small = one_digit N.m N.most }, halved N.j N.few)
  | inr o ↦ (N.m * 2, N.j / 2, record { same = odd_square N.m N.j (is_odd N.j o) ∙ N.same; large = more N.m N.least; small = two_digits N.m N.most }, halved N.j N.few)
]
  where
    is_zero : (j : ℕ) → j % 2 < 1 → j % 2 ≡ 0
    is_zero j e = omega arith

    is_odd : (j : ℕ) → 1 ≤ j % 2 → j % 2 ≡ 0 → ⊥
    is_odd j o e = omega arith

    one_digit : (m : ℕ) → m < 2 ^ 53 → m + 2 ≤ 2 ^ 54
    one_digit m h = omega arith

    two_digits : (m : ℕ) → m < 2 ^ 53 → m * 2 + 2 ≤ 2 ^ 54
    two_digits m h = omega arith

    more : (m : ℕ) → 2 ^ 52 ≤ m → 2 ^ 52 ≤ m * 2
    more m h = omega arith

    halved : (j : ℕ) → j < 3068 → j / 2 < 1534
    halved j h = omega arith

-- ---- the root of a pattern
pattern_scaled : (b : ℕ) → 0 < b → b < 0x7ff0_0000_0000_0000 → Scaled (pattern_grains b * 2 ^ 1022)
pattern_scaled b s u = elim (below_or_not (b / 2 ^ 52) 1) [
  | inl e ↦ subst Scaled (subnormal b (no_field b e)) (scaled (b % 2 ^ 52 * 2 ^ 1022) (normal_exists (b % 2 ^ 52) 1022 (some b s e) (short b) (omega arith) (omega arith)))
  | inr o ↦ subst Scaled (normal b (a_field b o)) (scaled ((b % 2 ^ 52 + 2 ^ 52) * 2 ^ (b / 2 ^ 52 + 1021)) (normal_exists (b % 2 ^ 52 + 2 ^ 52) (b / 2 ^ 52 + 1021) (omega arith) (omega arith) (omega arith) (omega arith)))
]
  where
    no_field : (b : ℕ) → b / 2 ^ 52 < 1 → b / 2 ^ 52 ≡ 0
    no_field b e = omega arith

    a_field : (b : ℕ) → 1 ≤ b / 2 ^ 52 → b / 2 ^ 52 ≡ 0 → ⊥
    a_field b o e = omega arith

    some : (b : ℕ) → 0 < b → b / 2 ^ 52 < 1 → 0 < b % 2 ^ 52
    some b s e = omega arith

    short : (b : ℕ) → b % 2 ^ 52 < 2 ^ 53
    short b = omega arith

root_bits_exist : (b : ℕ) → 0 < b → b < 0x7ff0_0000_0000_0000 → (p : ℕ) × RootBits b p
unfolding Scaled
root_bits_exist b s u =
    let (m, h, k, few) = pattern_scaled b s u in
    let (q, f) = floor_exists (m * 2 ^ 54) in
    (h * 2 ^ 52 + (q + 1) / 2, rounded b m h q k few f)

pub root_exists : (x : Float) → T (fits binary64 x) → T (positive x) → (r : Float) × IsRoot x r
root_exists x F P =
    let range = in_range x F P in
    let (p, k) = root_bits_exist (to_bits binary64 x) range.0 range.1 in
    (of_bits binary64 p, is_root x p F P k)
