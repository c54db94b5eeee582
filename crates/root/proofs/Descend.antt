-- `descend` finds the root's pattern: x lies above the midpoint below a pattern exactly up to that one, so each binary digit is decided by one test.
-- Assumes nothing.
use mathlib.Core.Path.{◌≡◌, refl, sym, ap, ◌∙◌}
use mathlib.Core.Logic.{inl, inr}
use Prim.Native.Nat.{ℕ, zero, suc, ◌+◌, ◌-◌, ◌*◌, ◌^◌, ◌≤◌, ◌<◌, zero-le}
use native.Mathlib.Nat.{mul-le-mul, add-le-add, le_trans, lt_of_le_of_lt, le_of_lt, le_antisymm, pow-succ'}
use native.Mathlib.Omega.{arith}
use mathlib.Core.Bool.{Bool, true, false, cond}
use borrow.Author.Tests.{lt-ltb, le-ltb, ltb-true, ltb-false}
use lib.Ieee.{Float, binary64, of_bits, to_bits}
use lib.Ieee.Bits.{of_bits-to_bits}
use Rattle.root.specs.Root.{grains, next, previous, square, pattern_grains, above, descend, root_of, IsRoot}
use Rattle.number.proofs.Below.{below_or_not}
use Rattle.root.proofs.Values.{pattern_mono}
use Rattle.root.proofs.Floats.{in_range, grains_at, grains_next, grains_previous}

-- twice the midpoint between a pattern and the one before it
abbrev twice_midpoint : ℕ → ℕ
twice_midpoint p = pattern_grains (p - 1) + pattern_grains p

midpoint_mono : (p q : ℕ) → p ≤ q → square (twice_midpoint p) ≤ square (twice_midpoint q)
midpoint_mono p q h = mul-le-mul both both
  where
    one_less : p ≤ q → p - 1 ≤ q - 1
    one_less h = omega arith

    both : twice_midpoint p ≤ twice_midpoint q
    both = add-le-add (pattern_mono (p - 1) (q - 1) (one_less h)) (pattern_mono p q h)

-- ---- a pattern t at which the test passes for the last time
module _ (x : Float) (t : ℕ) (reached : above x t ≡ true) (passed : above x (t + 1) ≡ false) where
  up_to : (p : ℕ) → p ≤ t → above x p ≡ true
  unfolding above
  up_to p h = lt-ltb _ _ (lt_of_le_of_lt (midpoint_mono p t h) (ltb-true _ _ reached))

  beyond : (p : ℕ) → t + 1 ≤ p → above x p ≡ false
  unfolding above
  beyond p h = le-ltb _ _ (le_trans (ltb-false _ _ passed) (midpoint_mono (t + 1) p h))

  pub found : (k p : ℕ) → p ≤ t → t < p + 2 ^ k → descend x k p ≡ t
  unfolding descend
  found zero p l u = le_antisymm l (last p u)
    where
      last : (p : ℕ) → t < p + 1 → t ≤ p
      last p u = omega arith
  found (suc k) p l u = elim (below_or_not t (p + 2 ^ k)) [
    | inl h ↦ ap (λ (b : Bool). descend x k (cond b (p + 2 ^ k) p)) (beyond (p + 2 ^ k) (more (p + 2 ^ k) h)) ∙ found k p l h
    | inr h ↦ ap (λ (b : Bool). descend x k (cond b (p + 2 ^ k) p)) (up_to (p + 2 ^ k) h) ∙ found k (p + 2 ^ k) h (split (2 ^ k) (pow-succ' 2 k) u)
  ]
    where
      more : (q : ℕ) → t < q → t + 1 ≤ q
      more q h = omega arith

      split : (w : ℕ) → 2 ^ suc k ≡ 2 * w → t < p + 2 ^ suc k → t < p + w + w
      split w e h = omega arith

-- ---- what the inequalities say is what `root_of` computes
module _ (x r : Float) (t : ℕ) (here : grains r ≡ pattern_grains t) where
  tested_over : grains (previous r) ≡ pattern_grains (t - 1) → square (grains (previous r) + grains r) < grains x * 2 ^ 1076 → above x t ≡ true
  unfolding above
  tested_over before over = lt-ltb _ _ (rw (before, here) at over)

  tested_under : grains (next r) ≡ pattern_grains (t + 1) → grains x * 2 ^ 1076 < square (grains r + grains (next r)) → above x (t + 1) ≡ false
  unfolding above
  tested_under after under = le-ltb (square (pattern_grains (t + 1 - 1) + pattern_grains (t + 1))) (grains x * 2 ^ 1076) (rw (less_one t) (le_of_lt (rw (here, after) at under)))
    where
      less_one : (t : ℕ) → t + 1 - 1 ≡ t
      less_one t = omega arith

pub only_root : (x r : Float) → IsRoot x r → r ≡ root_of x
unfolding root_of
only_root x r k =
    let t = to_bits binary64 r in
    let range = in_range r k.held k.above_zero in
    let here : grains r ≡ pattern_grains t = grains_at r k.held k.above_zero in
    let over = tested_over x r t here (grains_previous r t refl range.1) k.over in
    let under = tested_under x r t here (grains_next r t refl range.1) k.under in
    sym (of_bits-to_bits binary64 r k.held) ∙ ap (of_bits binary64) (sym (found x t over under 63 0 zero-le (fits_63 t range.1)))
  where
    fits_63 : (t : ℕ) → t < 0x7ff0_0000_0000_0000 → t < 0 + 2 ^ 63
    fits_63 t h = omega arith
