-- What a user of `sqrt` goes by: a number has one root and `root_of` is it, the root of a larger number is no smaller, it is nearer than any
-- other f64, the root of a square is exact, and no root has a minus sign where the number has none. Assumes nothing.
use mathlib.Core.Path.{◌≡◌, refl, sym, ap, ◌∙◌, subst}
use mathlib.Core.Logic.{inl, inr}
use Prim.Native.Nat.{ℕ, ◌+◌, ◌-◌, ◌*◌, ◌^◌, ◌≤◌, ◌<◌}
use native.Mathlib.Nat.{lt_irrefl, lt_of_le_of_lt, lt_of_lt_of_le, le_trans, le_of_lt, le_of_eq, mul-le-mul, mul-le-mul_right, add-le-add, not-le_of_lt, mul_assoc, mul-lt-mul_of_pos_right}
use native.Mathlib.Omega.{arith}
use mathlib.Core.Bool.{Bool, true, false, not}
use lib.Dec.{T}
use lib.Ieee.{Float, binary64, fits, to_bits}
use lib.Ieee.Positive.{positive}
use Rattle.number.specs.Float.{◌<ᶠ◌, ◌=ᶠ◌, ◌when◌else◌}
use Rattle.number.specs.Constants.{zero, infinity}
use Rattle.number.specs.Said.{gives, refusal}
use Rattle.root.specs.Root.{or_nan}
use Rattle.root.specs.Root.{grains, next, previous, square, pattern_grains, root_of, sqrt_of, IsRoot}
use Rattle.number.proofs.Below.{below_or_not}
use Rattle.number.proofs.float.Signs.{unsigned, positive_unsigned}
use Rattle.root.proofs.Choice.{is_positive}
use Rattle.root.proofs.Values.{pattern_step, pattern_mono}
use Rattle.root.proofs.Floats.{in_range, grains_at, grains_next, grains_previous}
use Rattle.root.proofs.Descend.{only_root}
use Rattle.root.proofs.Exists.{root_exists}

-- ---- an f64 above zero by its pattern
module _ (r : Float) (F : T (fits binary64 r)) (P : T (positive r)) where
  at_next : grains (next r) ≡ pattern_grains (to_bits binary64 r + 1)
  at_next = grains_next r (to_bits binary64 r) refl (in_range r F P).1

  at_previous : grains (previous r) ≡ pattern_grains (to_bits binary64 r - 1)
  at_previous = grains_previous r (to_bits binary64 r) refl (in_range r F P).1

below_pred : (p q : ℕ) → p < q → p ≤ q - 1
below_pred p q h = omega arith

above_suc : (p q : ℕ) → p < q → p + 1 ≤ q
above_suc p q h = omega arith

-- a smaller f64 is at most the one before, and a larger one at least the one after
module _ (r s : Float) (F : T (fits binary64 r)) (P : T (positive r)) (G : T (fits binary64 s)) (Q : T (positive s)) (h : to_bits binary64 r < to_bits binary64 s) where
  to_previous : grains r ≤ grains (previous s)
  to_previous = rw (grains_at r F P, at_previous s G Q) (pattern_mono (to_bits binary64 r) (to_bits binary64 s - 1) (below_pred (to_bits binary64 r) (to_bits binary64 s) h))

  from_next : grains (next r) ≤ grains s
  from_next = rw (at_next r F P, grains_at s G Q) (pattern_mono (to_bits binary64 r + 1) (to_bits binary64 s) (above_suc (to_bits binary64 r) (to_bits binary64 s) h))

-- ---- the order
pub ordered : (x y r s : Float) → grains x ≤ grains y → IsRoot x r → IsRoot y s → to_bits binary64 r ≤ to_bits binary64 s
ordered x y r s h k l = elim (below_or_not (to_bits binary64 s) (to_bits binary64 r)) [
  | inl g ↦
      let a : grains s + grains (next s) ≤ grains (previous r) + grains r =
      add-le-add (to_previous s r l.held l.above_zero k.held k.above_zero g) (from_next s r l.held l.above_zero k.held k.above_zero g) in
      absurd (lt_irrefl (grains y * 2 ^ 1076) (lt_of_lt_of_le l.under (le_trans (mul-le-mul a a) (le_trans (le_of_lt k.over) (mul-le-mul_right (2 ^ 1076) h)))))
  | inr g ↦ g
]

-- ---- one root, and `root_of` is it
pub only : (x r s : Float) → IsRoot x r → IsRoot x s → r ≡ s
only x r s k l = only_root x r k ∙ sym (only_root x s l)

pub root_is : (x : Float) → T (fits binary64 x) → T (positive x) → IsRoot x (root_of x)
root_is x F P = let some = root_exists x F P in subst (IsRoot x) (only_root x some.0 some.1) some.1

-- ---- nearer than any other f64 y: the midpoint of r and y is on y's side of the root
module _ (x r y : Float) (k : IsRoot x r) (F : T (fits binary64 y)) (P : T (positive y)) where
  pub over_any : grains y < grains r → square (grains y + grains r) < grains x * 2 ^ 1076
  over_any h = lt_of_le_of_lt (mul-le-mul (closer h) (closer h)) k.over
    where
      less : grains y < grains r → to_bits binary64 y < to_bits binary64 r
      less h = elim (below_or_not (to_bits binary64 y) (to_bits binary64 r)) [
        | inl g ↦ g
        | inr g ↦ absurd (not-le_of_lt h (rw (grains_at r k.held k.above_zero, grains_at y F P) (pattern_mono (to_bits binary64 r) (to_bits binary64 y) g)))
      ]

      closer : grains y < grains r → grains y + grains r ≤ grains (previous r) + grains r
      closer h = add-le-add (to_previous y r F P k.held k.above_zero (less h)) (le_of_eq refl)

  pub under_any : grains r < grains y → grains x * 2 ^ 1076 < square (grains r + grains y)
  under_any h = lt_of_lt_of_le k.under (mul-le-mul (closer h) (closer h))
    where
      less : grains r < grains y → to_bits binary64 r < to_bits binary64 y
      less h = elim (below_or_not (to_bits binary64 r) (to_bits binary64 y)) [
        | inl g ↦ g
        | inr g ↦ absurd (not-le_of_lt h (rw (grains_at r k.held k.above_zero, grains_at y F P) (pattern_mono (to_bits binary64 y) (to_bits binary64 r) g)))
      ]

      closer : grains r < grains y → grains r + grains (next r) ≤ grains r + grains y
      closer h = add-le-add (le_of_eq refl) (from_next r y k.held k.above_zero F P (less h))

-- ---- the root of a square is exact: in grains, x * 2 ^ 1074 is r * r
exact_over : (x w v : ℕ) → w < v → v * v * 4 ≡ x → (w + v) * (w + v) < x
exact_over x w v h e = go (w + v) (v + v) (both h)
  where
    both : w < v → w + v < v + v
    both h = omega arith

    go : (a b : ℕ) → a < b → (w + v) * (w + v) < x
    go a b l =
        let p : (w + v) * (w + v) ≤ (w + v) * (v + v) = mul-le-mul (le_of_eq refl) (le_of_lt (both h)) in
        let q : (w + v) * (v + v) < (v + v) * (v + v) = mul-lt-mul_of_pos_right (both h) (some h) in
        omega arith
      where
        some : w < v → 0 < v + v
        some h = omega arith

exact_under : (x v z : ℕ) → v < z → v * v * 4 ≡ x → x < (v + z) * (v + z)
exact_under x v z h e =
    let p : (v + v) * (v + v) ≤ (v + v) * (v + z) = mul-le-mul (le_of_eq refl) (le_of_lt (both h)) in
    let q : (v + v) * (v + z) < (v + z) * (v + z) = mul-lt-mul_of_pos_right (both h) (some h) in
    omega arith
  where
    both : v < z → v + v < v + z
    both h = omega arith

    some : v < z → 0 < v + z
    some h = omega arith

pub exact : (x r : Float) → T (fits binary64 r) → T (positive r) → grains r * grains r ≡ grains x * 2 ^ 1074 → IsRoot x r
exact x r F P e =
    let p = to_bits binary64 r in
    let four : grains r * grains r * 4 ≡ grains x * 2 ^ 1076 = ap (λ (z : ℕ). z * 4) e ∙ mul_assoc (grains x) (2 ^ 1074) 4 in
    record {
      held = F;
      above_zero = P;
      over = exact_over (grains x * 2 ^ 1076) (grains (previous r)) (grains r) (rw (grains_at r F P, at_previous r F P) (subst (λ (y : ℕ). pattern_grains (p - 1) < pattern_grains y) (back p (in_range r F P).0) (pattern_step (p - 1)))) four;
      under = exact_under (grains x * 2 ^ 1076) (grains r) (grains (next r)) (rw (grains_at r F P, at_next r F P) (pattern_step p)) four;
    }
  where
    back : (p : ℕ) → 0 < p → p - 1 + 1 ≡ p
    back p h = omega arith

-- ---- no minus sign

pub root_unsigned : (x : Float) → T (fits binary64 x) → unsigned x ≡ true → unsigned (or_nan (sqrt_of x)) ≡ true
unfolding sqrt_of
root_unsigned x F p = go (x =ᶠ zero) (x =ᶠ infinity) (zero <ᶠ x) refl refl
  where
    go : (z i a : Bool) → (x =ᶠ infinity) ≡ i → (zero <ᶠ x) ≡ a → unsigned (or_nan (gives x when z else gives x when i else refusal 2 when not a else gives (root_of x))) ≡ true
    go true i a e h = p
    go false true a e h = p
    go false false false e h = refl
    go false false true e h = positive_unsigned (root_of x) (root_is x F (is_positive x h e)).above_zero
