-- Two f64s that are the same number, a zero of either sign counting as one. One times x is x and a zero plus x is x, since rounding changes nothing that an f64 holds,
-- and sums and products of the same numbers are the same. Assumes nothing.
use Rattle.std.proofs.Common.{◌≡◌, ℕ, zero as none, suc, ◌+◌, ◌-◌, ◌*◌, ◌%◌, ◌^◌, ◌<◌, ◌≤◌, Bool, true, false, cond, ◌&&◌, T, eqb, ltb, leb, ◌⊎◌, ℤ, pos, negsuc, sym, refl, ap, ◌∙◌, subst, inl, inr, true≢false, le_of_suc-le-suc, mul_assoc, mul_comm, lt_of_mul-lt-mul_right, mul-lt-mul_of_pos_right, mul-pos, one-mul, lt_of_not-le, mul-zero, zero-add, zero-mul, mul-one, not-le_of_lt, le-mul_of_pos_right, arith, ltb→lt, leb→le, pow_pos, pow-add, ltb-false, eq-eqb}
use native.Mathlib.Nat.{mul-mul-mul_comm}
use mathlib.Core.Bool.{or-true, false≢true}
use lib.Pow.{pow-lt}
use lib.Ieee as Ieee
use lib.Ieee.{Float, nan, inf, fin, Format, prec, low, emax, up, down, fits, round, sum, is_nan, unlike, binary64}
use lib.Ieee.Exact.{HasValue, round_exact}
use lib.Ieee.Fits.{and_l, and_r, down_pos}
use lib.Ieee.Scale.{round_same}
use Rattle.number.specs.Float.{finite, ◌⊕◌, ◌⊗◌, ◌≤ᶠ◌, ◌=ᶠ◌}
use Rattle.number.specs.Constants.{one}
use Rattle.number.specs.Constants.{zero as +0}
use Rattle.number.proofs.float.Fraction.{cross, =ᶠ-cross}
use Rattle.number.proofs.float.Monotone.{cross_of-≤ᶠ, ≤ᶠ-of_cross, ≤ᶠ-transitive, between_finite, ⊕-monotone_both}
use Rattle.number.proofs.float.Order.{=ᶠ-reflexive}
use Rattle.number.proofs.float.Round.{round_none, round_no_nan}

-- ---- rounding changes nothing that the format holds

-- 2^e as a whole number of the format's smallest values
whole_units : (l : ℕ) (e : ℤ) → down e ≤ 2 ^ l → (j : ℕ) × (up e * 2 ^ l ≡ 2 ^ j * down e)
whole_units l (pos k) h = (k + l, sym (pow-add 2 k l) ∙ sym (mul-one (2 ^ (k + l))))
whole_units l (negsuc k) h = (l - suc k, one-mul (2 ^ l) ∙ ap (λ (n : ℕ). 2 ^ n) (omega (arith, few)) ∙ pow-add 2 (l - suc k) (suc k))
  where
    few : suc k ≤ l
    few = le_of_suc-le-suc (lt_of_not-le (λ (more : l < suc k). not-le_of_lt (pow-lt more) h))

-- with W units to 1, and J of them to U / D, an m·U/D is m·J units, and where it is below X they are fewer than W·X
in_units : (m U D J W : ℕ) → U * W ≡ J * D → m * U * W ≡ m * J * D
in_units m U D J W e = mul_assoc m U W ∙ ap (λ (n : ℕ). m * n) e ∙ sym (mul_assoc m J D)

in_range : (m U D J W X : ℕ) → U * W ≡ J * D → 0 < W → m * U < X * D → m * J < W * X
in_range m U D J W X e P h = lt_of_mul-lt-mul_right D (rw (in_units m U D J W e, mul_comm (X * D) W, ← mul_assoc W X D) at (mul-lt-mul_of_pos_right h P))

-- a value that a format holds is the fraction that it is, rounded
held : (f : Format) (s : Bool) (m : ℕ) (e : ℤ) → T (fits f (fin s m e)) → HasValue (round f s (m * up e) (down e)) s (m * up e) (down e)
unfolding fits
held f s none e t = round_exact f s (0 * up e) (down e) 0 0 (down_pos e) (pow_pos (prec f)) (pow_pos (low f + suc (emax f))) (simp zero-mul)
held f s (suc m) e t =
    let odd = eqb (suc m % 2) 1 in
    let short = ltb (suc m) (2 ^ prec f) in
    let fine = leb (down e) (2 ^ low f) in
    let small = ltb (suc m * up e) (2 ^ suc (emax f) * down e) in
    let first = and_l (odd && short && fine) small t in
    let units = whole_units (low f) e (leb→le (down e) (2 ^ low f) (and_r (odd && short) fine first)) in
    round_exact f s (suc m * up e) (down e) (suc m) units.0 (down_pos e) (ltb→lt (suc m) (2 ^ prec f) (and_r odd short (and_l (odd && short) fine first)))
    (rw (pow-add 2 (low f) (suc (emax f)))
    (in_range (suc m) (up e) (down e) (2 ^ units.0) (2 ^ low f) (2 ^ suc (emax f)) units.1 (pow_pos (low f)) (ltb→lt (suc m * up e) (2 ^ suc (emax f) * down e) (and_r (odd && short && fine) small t))))
    (in_units (suc m) (up e) (down e) (2 ^ units.0) (2 ^ low f) units.1)

-- ---- the same number

pub record Same (x y : Float) : Type 0 where
  pub at_most : (x ≤ᶠ y) ≡ true
  pub at_least : (y ≤ᶠ x) ≡ true

same_cross : (x y : Float) → finite x ≡ true → finite y ≡ true → Same x y → cross x y ≡ cross y x
same_cross x y p q h =
    let l : cross x y ≤ cross y x = cross_of-≤ᶠ x y p q h.at_most in
    let r : cross y x ≤ cross x y = cross_of-≤ᶠ y x q p h.at_least in
    omega arith

pub same_equal : (x y : Float) → finite x ≡ true → finite y ≡ true → Same x y → (x =ᶠ y) ≡ true
same_equal x y p q h = =ᶠ-cross x y p q ∙ eq-eqb (cross x y) (cross y x) (same_cross x y p q h)

same_itself : (x : Float) → is_nan x ≡ false → Same x x
unfolding Ieee.le
same_itself x p = let e : (x ≤ᶠ x) ≡ true = simp (=ᶠ-reflexive, p, or-true) in record { at_most = e; at_least = e }

pub same_turned : {x y : Float} → Same x y → Same y x
same_turned h = record { at_most = h.at_least; at_least = h.at_most }

pub same_through : {x y z : Float} → Same x y → Same y z → Same x z
same_through {x} {y} {z} h k = record { at_most = ≤ᶠ-transitive x y z h.at_most k.at_most; at_least = ≤ᶠ-transitive z y x k.at_least h.at_least }

pub same_finite : {x y : Float} → finite x ≡ true → Same x y → finite y ≡ true
same_finite {x} {y} p h = between_finite x y x p p h.at_most h.at_least

level : (x y : Float) → finite x ≡ true → finite y ≡ true → cross x y ≡ cross y x → Same x y
level x y p q h = record { at_most = ≤ᶠ-of_cross x y p q (omega arith); at_least = ≤ᶠ-of_cross y x q p (omega arith) }

-- a value of the sign and size of x
of_value : (v : Float) (s : Bool) (m : ℕ) (e : ℤ) → HasValue v s (m * up e) (down e) → Same v (fin s m e)
of_value nan s m e h = elim h [ ]
of_value (inf _) s m e h = elim h [ ]
of_value (fin true n d) true m e h = level (fin true n d) (fin true m e) refl refl (omega (arith, h.1))
of_value (fin true n d) false m e h = absurd (true≢false h.0)
of_value (fin false n d) true m e h = absurd (false≢true h.0)
of_value (fin false n d) false m e h = level (fin false n d) (fin false m e) refl refl (omega (arith, h.1))

-- x as the fraction that it is, rounded
rounded_same : (s : Bool) (m : ℕ) (e : ℤ) (a c : ℕ) → T (fits binary64 (fin s m e)) → 0 < c → a * down e ≡ m * up e * c → Same (round binary64 s a c) (fin s m e)
rounded_same s m e a c f C h =
    subst (λ (v : Float). Same v (fin s m e)) (round_same binary64 s (m * up e) (down e) a c (down_pos e) C (sym h)) (of_value (round binary64 s (m * up e) (down e)) s m e (held binary64 s m e f))

-- ---- zeros

pub data Zero (x : Float) : Type 0 where
  signed : (s : Bool) → x ≡ fin s 0 (pos 0) → Zero x

zeros_same : (t s : Bool) (m : ℕ) (e : ℤ) → m * up e ≡ 0 → Same (fin t 0 (pos 0)) (fin s m e)
zeros_same true true m e h = level (fin true 0 (pos 0)) (fin true m e) refl refl (omega arith)
zeros_same true false m e h = level (fin true 0 (pos 0)) (fin false m e) refl refl (omega arith)
zeros_same false true m e h = level (fin false 0 (pos 0)) (fin true m e) refl refl (omega arith)
zeros_same false false m e h = level (fin false 0 (pos 0)) (fin false m e) refl refl (omega arith)

both_zero : {x y : Float} → Zero x → Zero y → Same x y
both_zero (signed s p) (signed t q) = rw (p, q) (zeros_same s t 0 (pos 0) refl)

round_zero : (t : Bool) (a c : ℕ) → 0 < c → a ≡ 0 → Zero (round binary64 t a c)
round_zero t a c C h = signed t (ap (λ (n : ℕ). round binary64 t n c) h ∙ round_none t c C)

pub times_zero : (x : Float) → finite x ≡ true → Zero (x ⊗ +0)
unfolding Ieee.mul Ieee.of_bits
times_zero nan p = absurd (false≢true p)
times_zero (inf s) p = absurd (false≢true p)
times_zero (fin s m e) p = round_zero (unlike s false) (m * up e * 0) (down e * 1) (mul-pos (down_pos e) (omega arith)) (mul-zero (m * up e))

pub sum_zero : {x y : Float} → Zero x → Zero y → Zero (x ⊕ y)
unfolding Ieee.add
sum_zero (signed s p) (signed t q) = go s t (λ i. p i ⊕ q i)
  where
    go : {v : Float} (s t : Bool) → v ≡ fin s 0 (pos 0) ⊕ fin t 0 (pos 0) → Zero v
    go true true e = signed true e
    go true false e = signed false e
    go false true e = signed false e
    go false false e = signed false e

-- ---- one times x, and a zero plus x

pub one_times : (x : Float) → T (fits binary64 x) → finite x ≡ true → Same (one ⊗ x) x
unfolding Ieee.mul Ieee.of_bits
one_times nan f p = absurd (false≢true p)
one_times (inf s) f p = absurd (false≢true p)
one_times (fin true m e) f p = rounded_same true m e (1 * (m * up e)) (1 * down e) f (omega (arith, down_pos e)) (simp one-mul)
one_times (fin false m e) f p = rounded_same false m e (1 * (m * up e)) (1 * down e) f (omega (arith, down_pos e)) (simp one-mul)

-- x is the fraction b / c rounded with the sign s, or b is 0 and x is a zero
abbrev Keeps : Float → Bool → ℕ → ℕ → Type 0
Keeps x s b c = (x ≡ round binary64 s b c) ⊎ ((b ≡ 0) × Zero x)

less_none : (s t : Bool) (b c : ℕ) → 0 < c → Keeps (cond (ltb 0 b) (round binary64 s (b - 0) c) (round binary64 t (0 - b) c)) s b c
less_none s t b c C = go (ltb 0 b) refl
  where
    go : (p : Bool) → ltb 0 b ≡ p → Keeps (cond p (round binary64 s (b - 0) c) (round binary64 t (0 - b) c)) s b c
    go true h = inl (ap (λ (n : ℕ). round binary64 s n c) (omega arith))
    go false h = inr (omega (arith, ltb-false), round_zero t (0 - b) c C (omega arith))

sum_none : (t s : Bool) (b c : ℕ) → 0 < c → Keeps (sum binary64 t 0 s b c) s b c
unfolding sum
sum_none true true b c C = inl (ap (λ (n : ℕ). round binary64 true n c) (zero-add b))
sum_none true false b c C = less_none false (ltb b 0) b c C
sum_none false true b c C = less_none true false b c C
sum_none false false b c C = inl (ap (λ (n : ℕ). round binary64 false n c) (zero-add b))

pub zero_plus : {z : Float} (x : Float) → Zero z → T (fits binary64 x) → finite x ≡ true → Same (z ⊕ x) x
unfolding Ieee.add
zero_plus nan z f p = absurd (false≢true p)
zero_plus (inf s) z f p = absurd (false≢true p)
zero_plus {z} (fin s m e) (signed t q) f p = subst (λ (v : Float). Same v (fin s m e)) (sym flat) (go (sum_none t s (m * up e) (down e) (down_pos e)))
  where
    flat : z ⊕ fin s m e ≡ sum binary64 t 0 s (m * up e) (down e)
    flat = (λ i. q i ⊕ fin s m e) ∙ (λ i. sum binary64 t (zero-mul (down e) i) s (mul-one (m * up e) i) (one-mul (down e) i))

    go : {v : Float} → Keeps v s (m * up e) (down e) → Same v (fin s m e)
    go (inl h) = subst (λ (v : Float). Same v (fin s m e)) (sym h) (rounded_same s m e (m * up e) (down e) f (down_pos e) refl)
    go (inr (h, signed r k)) = subst (λ (v : Float). Same v (fin s m e)) (sym k) (zeros_same r s m e h)

-- ---- sums and products

pub same_sum : {x y z w : Float} → finite x ≡ true → finite z ≡ true → Same x y → Same z w → Same (x ⊕ z) (y ⊕ w)
same_sum {x} {y} {z} {w} p r h k =
    let q = same_finite p h in
    let s = same_finite r k in
    record { at_most = ⊕-monotone_both x y z w p q r s h.at_most k.at_most; at_least = ⊕-monotone_both y x w z q p s r h.at_least k.at_least }

-- a·k / (p·g) and b·k / (q·g), where a / p and b / q are equal
times : (a p b q k g : ℕ) → a * q ≡ b * p → a * k * (q * g) ≡ b * k * (p * g)
times a p b q k g h = mul-mul-mul_comm a k q g ∙ ap (λ (n : ℕ). n * (k * g)) h ∙ sym (mul-mul-mul_comm b k p g)

none_of : (a b q p : ℕ) → 0 < q → 0 < p → a * q + b * p ≡ 0 → (a ≡ 0) × (b ≡ 0)
none_of a b q p Q P h = (omega (arith, le-mul_of_pos_right a Q, le-mul_of_pos_right b P), omega (arith, le-mul_of_pos_right a Q, le-mul_of_pos_right b P))

module _ (m : ℕ) (e : ℤ) (n : ℕ) (d : ℤ) (r : Bool) (k : ℕ) (g : ℤ) where
  like_signs : (s : Bool) → m * up e * down d ≡ n * up d * down e → Same (fin s m e ⊗ fin r k g) (fin s n d ⊗ fin r k g)
  unfolding Ieee.mul
  like_signs s h =
      subst (λ (v : Float). Same (fin s m e ⊗ fin r k g) v)
      (round_same binary64 (unlike s r) (m * up e * (k * up g)) (down e * down g) (n * up d * (k * up g)) (down d * down g) (mul-pos (down_pos e) (down_pos g)) (mul-pos (down_pos d) (down_pos g))
      (times (m * up e) (down e) (n * up d) (down d) (k * up g) (down g) h))
      (same_itself (fin s m e ⊗ fin r k g) (round_no_nan (unlike s r) (m * up e * (k * up g)) (down e * down g)))

  unlike_signs : (s t : Bool) → m * up e * down d + n * up d * down e ≡ 0 → Same (fin s m e ⊗ fin r k g) (fin t n d ⊗ fin r k g)
  unfolding Ieee.mul
  unlike_signs s t h =
      let none = none_of (m * up e) (n * up d) (down d) (down e) (down_pos d) (down_pos e) h in
      both_zero (round_zero (unlike s r) (m * up e * (k * up g)) (down e * down g) (mul-pos (down_pos e) (down_pos g)) (ap (λ (a : ℕ). a * (k * up g)) none.0 ∙ zero-mul (k * up g)))
      (round_zero (unlike t r) (n * up d * (k * up g)) (down d * down g) (mul-pos (down_pos d) (down_pos g)) (ap (λ (a : ℕ). a * (k * up g)) none.1 ∙ zero-mul (k * up g)))

product_level : (x y z : Float) → finite x ≡ true → finite y ≡ true → finite z ≡ true → cross x y ≡ cross y x → Same (x ⊗ z) (y ⊗ z)
product_level nan y z p q r h = absurd (false≢true p)
product_level (inf s) y z p q r h = absurd (false≢true p)
product_level (fin s m e) nan z p q r h = absurd (false≢true q)
product_level (fin s m e) (inf t) z p q r h = absurd (false≢true q)
product_level (fin s m e) (fin t n d) nan p q r h = absurd (false≢true r)
product_level (fin s m e) (fin t n d) (inf u) p q r h = absurd (false≢true r)
product_level (fin true m e) (fin true n d) (fin u k g) p q r h = like_signs m e n d u k g true (omega arith)
product_level (fin true m e) (fin false n d) (fin u k g) p q r h = unlike_signs m e n d u k g true false (omega arith)
product_level (fin false m e) (fin true n d) (fin u k g) p q r h = unlike_signs m e n d u k g false true (omega arith)
product_level (fin false m e) (fin false n d) (fin u k g) p q r h = like_signs m e n d u k g false (omega arith)

pub same_product : {x y : Float} (z : Float) → finite x ≡ true → finite z ≡ true → Same x y → Same (x ⊗ z) (y ⊗ z)
same_product {x} {y} z p r h = product_level x y z p (same_finite p h) r (same_cross x y p (same_finite p h) h)
