-- From the root of a number with 53 or 54 digits, with one digit too many, to the rounded root of what the pattern stands for. Assumes nothing.
use mathlib.Core.Path.{◌≡◌, refl, sym, ap, ◌∙◌, subst}
use mathlib.Core.Logic.{inl, inr}
use Prim.Native.Nat.{ℕ, suc, ◌+◌, ◌-◌, ◌*◌, ◌/◌, ◌%◌, ◌^◌, ◌≤◌, ◌<◌}
use native.Mathlib.Nat.{lt_of_lt_of_le, lt_of_le_of_lt, mul_assoc, mul_right_comm, mul-mul-mul_comm, mul-lt-mul_of_pos_right, mul-le-mul_right, mul-le-mul_left, mul-pos}
use native.Mathlib.Omega.{arith}
use lib.Pow.{pow-add, pow_pos}
use Rattle.root.specs.Root.{field_grains, pattern_grains}
use Rattle.root.specs.Inside.Steps.{RootBits, Floor, Scale}
use Rattle.number.proofs.Below.{below_or_not}
use Rattle.root.proofs.Extend.{whole_ge, whole_lt}
use Rattle.root.proofs.Values.{pattern_is, field_suc, field_zero, pattern_at, pattern_next, pattern_step}

-- ---- a whole number's inequality times a square
scale_lt : (n a P w : ℕ) → n < a * a → 0 < P → w ≡ a * P → n * (P * P) < w * w
scale_lt n a P w h p e = subst (λ (x : ℕ). n * (P * P) < x * x) (sym e) (subst (λ (x : ℕ). n * (P * P) < x) (mul-mul-mul_comm a a P P) (mul-lt-mul_of_pos_right h (mul-pos p p)))

scale_gt : (n a P w : ℕ) → a * a < n → 0 < P → w ≡ a * P → w * w < n * (P * P)
scale_gt n a P w h p e = subst (λ (x : ℕ). x * x < n * (P * P)) (sym e) (subst (λ (x : ℕ). x < n * (P * P)) (mul-mul-mul_comm a a P P) (mul-lt-mul_of_pos_right h (mul-pos p p)))

scale_ge : (n a P w : ℕ) → a * a ≤ n → 0 < P → w < a * P → w * w < n * (P * P)
scale_ge n a P w h p l =
    lt_of_lt_of_le (square_lt w (a * P) l) (subst (λ (x : ℕ). x ≤ n * (P * P)) (mul-mul-mul_comm a a P P) (mul-le-mul_right (P * P) h))
  where
    square_lt : (x y : ℕ) → x < y → x * x < y * y
    square_lt x y l = lt_of_le_of_lt (mul-le-mul_left x (le_of_suc x y l)) (mul-lt-mul_of_pos_right l (pos_of x y l))
      where
        le_of_suc : (x y : ℕ) → x < y → x ≤ y
        le_of_suc x y l = omega arith

        pos_of : (x y : ℕ) → x < y → 0 < y
        pos_of x y l = omega arith

-- ---- where the last digit is 0, it is dropped; where it is 1, the next number up is taken, and a tie would make an odd square even
module _ (m q P k : ℕ) (f : Floor (m * 2 ^ 54) q) (p : 0 < P) where
  even_over : (w : ℕ) → q ≡ 2 * k → w < k * P → (w + k * P) * (w + k * P) < m * 2 ^ 54 * (P * P)
  even_over w e l = scale_ge (m * 2 ^ 54) q P (w + k * P) f.reached p (subst (λ (x : ℕ). w + k * P < x * P) (sym e) (both w l))
    where
      both : (w : ℕ) → w < k * P → w + k * P < 2 * k * P
      both w l = omega arith

  even_under : q ≡ 2 * k → m * 2 ^ 54 * (P * P) < (k * P + (k + 1) * P) * (k * P + (k + 1) * P)
  even_under e = scale_lt (m * 2 ^ 54) (q + 1) P (k * P + (k + 1) * P) f.short p (subst (λ (x : ℕ). k * P + (k + 1) * P ≡ (x + 1) * P) (sym e) same)
    where
      same : k * P + (k + 1) * P ≡ (2 * k + 1) * P
      same = omega arith

  no_tie : q ≡ 2 * k + 1 → q * q < m * 2 ^ 54
  no_tie e = go f.reached (ap (λ (x : ℕ). x * x) e)
    where
      go : q * q ≤ m * 2 ^ 54 → q * q ≡ (2 * k + 1) * (2 * k + 1) → q * q < m * 2 ^ 54
      go l s = omega arith

  odd_over : q ≡ 2 * k + 1 → (k * P + (k + 1) * P) * (k * P + (k + 1) * P) < m * 2 ^ 54 * (P * P)
  odd_over e = scale_gt (m * 2 ^ 54) q P (k * P + (k + 1) * P) (no_tie e) p (subst (λ (x : ℕ). k * P + (k + 1) * P ≡ x * P) (sym e) same)
    where
      same : k * P + (k + 1) * P ≡ (2 * k + 1) * P
      same = omega arith

  odd_under : q ≡ 2 * k + 1 → m * 2 ^ 54 * (P * P) < ((k + 1) * P + (k + 1 + 1) * P) * ((k + 1) * P + (k + 1 + 1) * P)
  odd_under e = scale_lt (m * 2 ^ 54) (2 * k + 3) P ((k + 1) * P + (k + 1 + 1) * P) (go f.short (ap (λ (x : ℕ). (x + 1) * (x + 1)) e)) p same
    where
      go : m * 2 ^ 54 < (q + 1) * (q + 1) → (q + 1) * (q + 1) ≡ (2 * k + 1 + 1) * (2 * k + 1 + 1) → m * 2 ^ 54 < (2 * k + 3) * (2 * k + 3)
      go l s = omega arith

      same : (k + 1) * P + (k + 1 + 1) * P ≡ (2 * k + 3) * P
      same = omega arith

-- ---- with the pattern h * 2 ^ 52 + R, which stands for R * 2 ^ h
module _ (b m h q k : ℕ) (s : Scale (pattern_grains b * 2 ^ 1022) m h) (few : h < 1534) (f : Floor (m * 2 ^ 54) q) where
  total : m * 2 ^ 54 * (2 ^ h * 2 ^ h) ≡ pattern_grains b * 2 ^ 1076
  total = mul_right_comm m (2 ^ 54) (2 ^ h * 2 ^ h) ∙ ap (λ (x : ℕ). x * 2 ^ 54) s.same ∙ mul_assoc (pattern_grains b) (2 ^ 1022) (2 ^ 54)

  lo : 2 ^ 53 ≤ q
  lo = whole_ge m q s.large f

  hi : q < 2 ^ 54 - 1
  hi = whole_lt m q s.small f

  -- the parts of the answer, for a pattern p with the values w, v, z before, at and after it
  made : (R w v z : ℕ) → 2 ^ 52 ≤ R → R < 2 ^ 53 → pattern_grains (h * 2 ^ 52 + R - 1) ≡ w → pattern_grains (h * 2 ^ 52 + R) ≡ v → pattern_grains (h * 2 ^ 52 + R + 1) ≡ z
      → (w + v) * (w + v) < m * 2 ^ 54 * (2 ^ h * 2 ^ h) → m * 2 ^ 54 * (2 ^ h * 2 ^ h) < (v + z) * (v + z) → RootBits b (h * 2 ^ 52 + R)
  made R w v z l u ew ev ez over under = record {
    some = omega arith;
    few = omega arith;
    over = subst (λ (x : ℕ). (pattern_grains (h * 2 ^ 52 + R - 1) + pattern_grains (h * 2 ^ 52 + R)) * (pattern_grains (h * 2 ^ 52 + R - 1) + pattern_grains (h * 2 ^ 52 + R)) < x) total
        (subst (λ (x : ℕ). (x + pattern_grains (h * 2 ^ 52 + R)) * (x + pattern_grains (h * 2 ^ 52 + R)) < m * 2 ^ 54 * (2 ^ h * 2 ^ h)) (sym ew)
        (subst (λ (x : ℕ). (w + x) * (w + x) < m * 2 ^ 54 * (2 ^ h * 2 ^ h)) (sym ev) over));
    under = subst (λ (x : ℕ). x < (pattern_grains (h * 2 ^ 52 + R) + pattern_grains (h * 2 ^ 52 + R + 1)) * (pattern_grains (h * 2 ^ 52 + R) + pattern_grains (h * 2 ^ 52 + R + 1))) total
        (subst (λ (x : ℕ). m * 2 ^ 54 * (2 ^ h * 2 ^ h) < (x + pattern_grains (h * 2 ^ 52 + R + 1)) * (x + pattern_grains (h * 2 ^ 52 + R + 1))) (sym ev)
        (subst (λ (x : ℕ). m * 2 ^ 54 * (2 ^ h * 2 ^ h) < (v + x) * (v + x)) (sym ez) under));
  }

  evenly : q ≡ 2 * k → RootBits b (h * 2 ^ 52 + k)
  evenly e =
      let l : 2 ^ 52 ≤ k = let a = lo in omega arith in
      let u : k < 2 ^ 53 = let a = hi in omega arith in
      let p = h * 2 ^ 52 + k in
      let v : pattern_grains p ≡ k * 2 ^ h = pattern_at h k l u in
      let w : pattern_grains (p - 1) < k * 2 ^ h = subst (λ (x : ℕ). pattern_grains (p - 1) < x) (ap pattern_grains (back p (some p l)) ∙ v) (pattern_step (p - 1)) in
      made k (pattern_grains (p - 1)) (k * 2 ^ h) ((k + 1) * 2 ^ h) l u refl v (pattern_next h k l u) (even_over m q (2 ^ h) k f (pow_pos h) (pattern_grains (p - 1)) e w) (even_under m q (2 ^ h) k f (pow_pos h) e)
    where
      some : (p : ℕ) → 2 ^ 52 ≤ k → 0 < h * 2 ^ 52 + k
      some p l = omega arith

      back : (p : ℕ) → 0 < p → p - 1 + 1 ≡ p
      back p l = omega arith

  oddly : q ≡ 2 * k + 1 → RootBits b (h * 2 ^ 52 + (k + 1))
  oddly e =
      let l : 2 ^ 52 ≤ k = let a = lo in omega arith in
      let u : k + 1 < 2 ^ 53 = let a = hi in omega arith in
      let l' : 2 ^ 52 ≤ k + 1 = omega arith in
      let u' : k < 2 ^ 53 = omega arith in
      made (k + 1) (k * 2 ^ h) ((k + 1) * 2 ^ h) ((k + 1 + 1) * 2 ^ h) l' u (ap pattern_grains (back (h * 2 ^ 52) k) ∙ pattern_at h k l u') (pattern_at h (k + 1) l' u) (pattern_next h (k + 1) l' u)
      (odd_over m q (2 ^ h) k f (pow_pos h) e) (odd_under m q (2 ^ h) k f (pow_pos h) e)
    where
      back : (a k : ℕ) → a + (k + 1) - 1 ≡ a + k
      back a k = omega arith

pub rounded : (b m h q : ℕ) → Scale (pattern_grains b * 2 ^ 1022) m h → h < 1534 → Floor (m * 2 ^ 54) q → RootBits b (h * 2 ^ 52 + (q + 1) / 2)
rounded b m h q s few f = elim (below_or_not (q % 2) 1) [
  | inl e ↦ subst (λ (R : ℕ). RootBits b (h * 2 ^ 52 + R)) (sym (even_half q e)) (evenly b m h q (q / 2) s few f (even_is q e))
  | inr o ↦ subst (λ (R : ℕ). RootBits b (h * 2 ^ 52 + R)) (sym (odd_half q o)) (oddly b m h q (q / 2) s few f (odd_is q o))
]
  where
    even_half : (q : ℕ) → q % 2 < 1 → (q + 1) / 2 ≡ q / 2
    even_half q e = omega arith

    even_is : (q : ℕ) → q % 2 < 1 → q ≡ 2 * (q / 2)
    even_is q e = omega arith

    odd_half : (q : ℕ) → 1 ≤ q % 2 → (q + 1) / 2 ≡ q / 2 + 1
    odd_half q o = omega arith

    odd_is : (q : ℕ) → 1 ≤ q % 2 → q ≡ 2 * (q / 2) + 1
    odd_is q o = omega arith

-- ---- what the pattern b stands for, as the number that `normalized` is handed
pub subnormal : (b : ℕ) → b / 2 ^ 52 ≡ 0 → b % 2 ^ 52 * 2 ^ 1022 ≡ pattern_grains b * 2 ^ 1022
subnormal b e = ap (λ (x : ℕ). x * 2 ^ 1022) (sym (pattern_is b ∙ ap (λ (x : ℕ). field_grains x (b % 2 ^ 52)) e ∙ field_zero (b % 2 ^ 52)))

pub normal : (b : ℕ) → (b / 2 ^ 52 ≡ 0 → ⊥) → (b % 2 ^ 52 + 2 ^ 52) * 2 ^ (b / 2 ^ 52 + 1021) ≡ pattern_grains b * 2 ^ 1022
normal b n =
    let x = b / 2 ^ 52 in
    let t = b % 2 ^ 52 in
    ap (λ (z : ℕ). (t + 2 ^ 52) * z) (ap (λ (z : ℕ). 2 ^ z) (split x n) ∙ pow-add 2 (x - 1) 1022)
    ∙ sym (mul_assoc (t + 2 ^ 52) (2 ^ (x - 1)) (2 ^ 1022))
    ∙ ap (λ (z : ℕ). z * 2 ^ 1022) (sym (pattern_is b ∙ ap (λ (z : ℕ). field_grains z t) (one_more x n) ∙ field_suc (x - 1) t ∙ ap (λ (z : ℕ). z * 2 ^ (x - 1)) (swap t)))
  where
    split : (x : ℕ) → (x ≡ 0 → ⊥) → x + 1021 ≡ x - 1 + 1022
    split x n = omega arith

    one_more : (x : ℕ) → (x ≡ 0 → ⊥) → x ≡ suc (x - 1)
    one_more x n = omega arith

    swap : (t : ℕ) → 2 ^ 52 + t ≡ t + 2 ^ 52
    swap t = omega arith
