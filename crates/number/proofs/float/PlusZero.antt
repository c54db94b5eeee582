-- What a zero adds: nothing, bit for bit, to any f64 but -0. A sum that starts from +0 is never -0, since x ⊕ y is -0 only where both are: where the exact sum is not
-- zero, it is a whole number of smallest values and does not round to zero. And a finite number times a zero, of either sign, is a zero. Assumes nothing.
use Rattle.std.proofs.Common.{◌≡◌, ℕ, zero as none, suc, ◌+◌, ◌-◌, ◌*◌, ◌/◌, ◌^◌, ◌<◌, ◌≤◌, Bool, true, false, cond, not, ◌&&◌, T, eqb, ltb, ℤ, sym, refl, ap, ◌∙◌, subst, true≢false, add-zero, zero-lt-suc, mul_comm, mul-pos, mul-zero, zero-mul, mul_right_comm, arith, ltb-true, ne_eqb, eqb-true}
use native.Mathlib.Nat.{sub-zero}
use mathlib.Core.Bool.{false≢true}
use lib.Ieee as Ieee
use lib.Ieee.{Float, nan, inf, fin, up, down, fits, round, sum, unlike, size, hid, top, to_bits, binary64}
use lib.Ieee.Bits.{of_bits-to_bits}
use lib.Ieee.Fits.{up_pos, down_pos, add-fits, neg-fits}
use lib.Ieee.Nearest.{div_same}
use Rattle.number.specs.Float.{finite, ◌⊕◌, ◌⊗◌, ◌=ᶠ◌}
use Rattle.number.specs.Constants.{zero as +0}
use Rattle.number.proofs.float.Commute.{⊕-commutes, ⊗-commutes}
use Rattle.number.proofs.float.Multiples.{gap}
use Rattle.number.proofs.float.Round.{Signed, finite_size, infinite_size, round_signed, round_none, round_zero}
use Rattle.number.proofs.float.SameNumber.{Same, Zero, signed, same_equal, same_finite, same_turned, zero_plus}
use Rattle.number.proofs.float.Zero.{is_zero}

abbrev pub not_minus_zero : Float → Bool
not_minus_zero nan = true
not_minus_zero (inf s) = true
not_minus_zero (fin s m e) = not (s && eqb m 0)

pub +0-not_minus_zero : not_minus_zero +0 ≡ true
+0-not_minus_zero = unfold Ieee.of_bits in refl

-- ---- a sum is -0 only where both parts are

rounded_up : (a c : ℕ) → not_minus_zero (round binary64 false a c) ≡ true
rounded_up a c = go (round_signed a c)
  where
    go : Signed (λ s. round binary64 s a c) → not_minus_zero (round binary64 false a c) ≡ true
    go (finite_size m e r) = ap not_minus_zero (r false)
    go (infinite_size r) = ap not_minus_zero (r false)

-- a fraction that is some smallest values
rounded_some : (s : Bool) (a c : ℕ) → 0 < c → 0 < a → c ≤ a * 2 ^ 1074 → not_minus_zero (round binary64 s a c) ≡ true
rounded_some false a c C A h = rounded_up a c
rounded_some true a c C A h = go (round_signed a c)
  where
    go : Signed (λ s. round binary64 s a c) → not_minus_zero (round binary64 true a c) ≡ true
    go (finite_size m e r) =
        let some : eqb m 0 ≡ false = sym (is_zero true m e) ∙ sym (ap (λ (x : Float). x =ᶠ +0) (r true)) ∙ round_zero true a c C (λ l. h) ∙ ne_eqb a 0 (omega arith) in
        ap not_minus_zero (r true) ∙ ap not some
    go (infinite_size r) = ap not_minus_zero (r true)

-- -a + b over the denominator c, where what is left of a is some smallest values
less : (a b c : ℕ) → 0 < c → (0 < a - b → c ≤ (a - b) * 2 ^ 1074) → not_minus_zero (sum binary64 true a false b c) ≡ true
unfolding sum
less a b c C h = go (ltb a b) (ltb b a) refl
  where
    go : (p q : Bool) → ltb b a ≡ q → not_minus_zero (cond p (round binary64 false (b - a) c) (round binary64 q (a - b) c)) ≡ true
    go true q e = rounded_up (b - a) c
    go false false e = rounded_up (a - b) c
    go false true e = let l : b < a = ltb-true b a e in let some : 0 < a - b = omega arith in rounded_some true (a - b) c C some (h some)

more : (a b c : ℕ) → 0 < c → (0 < b - a → c ≤ (b - a) * 2 ^ 1074) → not_minus_zero (sum binary64 false a true b c) ≡ true
unfolding sum
more a b c C h = go (ltb a b) refl
  where
    go : (p : Bool) → ltb a b ≡ p → not_minus_zero (cond p (round binary64 true (b - a) c) (round binary64 false (a - b) c)) ≡ true
    go true e = let l : a < b = ltb-true a b e in let some : 0 < b - a = omega arith in rounded_some true (b - a) c C some (h some)
    go false e = rounded_up (a - b) c

turned_sign : (s : Bool) (m : ℕ) (e : ℤ) → T (fits binary64 (fin s m e)) → T (fits binary64 (fin (not s) m e))
unfolding Ieee.neg
turned_sign s m e f = neg-fits binary64 (fin s m e) f

-- what two f64s without a minus sign differ by, and the sum of their sizes
apart : (m : ℕ) (e : ℤ) (n : ℕ) (d : ℤ) → T (fits binary64 (fin false m e)) → T (fits binary64 (fin false n d))
    → 0 < m * up e * down d - n * up d * down e → down e * down d ≤ (m * up e * down d - n * up d * down e) * 2 ^ 1074
apart m e n d f g h = simp (zero-mul, add-zero) at (gap (fin false m e) (fin false n d) f g (simp (zero-mul, add-zero) h))

together : (m : ℕ) (e : ℤ) (n : ℕ) (d : ℤ) → T (fits binary64 (fin false m e)) → T (fits binary64 (fin true n d))
    → 0 < m * up e * down d + n * up d * down e → down e * down d ≤ (m * up e * down d + n * up d * down e) * 2 ^ 1074
together m e n d f g h = simp (zero-mul, sub-zero) at (gap (fin false m e) (fin true n d) f g (simp (zero-mul, sub-zero) h))

pub sum_not_minus_zero : (x y : Float) → T (fits binary64 x) → T (fits binary64 y) → not_minus_zero x ≡ true → not_minus_zero (x ⊕ y) ≡ true
unfolding Ieee.add
sum_not_minus_zero nan y f g h = refl
sum_not_minus_zero (inf s) nan f g h = refl
sum_not_minus_zero (inf true) (inf true) f g h = refl
sum_not_minus_zero (inf true) (inf false) f g h = refl
sum_not_minus_zero (inf false) (inf true) f g h = refl
sum_not_minus_zero (inf false) (inf false) f g h = refl
sum_not_minus_zero (inf s) (fin t n d) f g h = refl
sum_not_minus_zero (fin s m e) nan f g h = refl
sum_not_minus_zero (fin s m e) (inf t) f g h = refl
sum_not_minus_zero (fin false m e) (fin false n d) f g h = rounded_up (m * up e * down d + n * up d * down e) (down e * down d)
sum_not_minus_zero (fin false m e) (fin true n d) f g h =
    more (m * up e * down d) (n * up d * down e) (down e * down d) (mul-pos (down_pos e) (down_pos d))
    (rw (mul_comm (down e) (down d)) (apart n d m e (turned_sign true n d g) f))
sum_not_minus_zero (fin true m e) (fin false n d) f g h =
    less (m * up e * down d) (n * up d * down e) (down e * down d) (mul-pos (down_pos e) (down_pos d)) (apart m e n d (turned_sign true m e f) g)
sum_not_minus_zero (fin true none e) (fin true n d) f g h = absurd (false≢true h)
sum_not_minus_zero (fin true (suc m) e) (fin true n d) f g h =
    let some : 0 < suc m * up e * down d + n * up d * down e = omega (arith, mul-pos (mul-pos (zero-lt-suc m) (up_pos e)) (down_pos d)) in
    rounded_some true (suc m * up e * down d + n * up d * down e) (down e * down d) (mul-pos (down_pos e) (down_pos d)) some
    (together (suc m) e n d (turned_sign true (suc m) e f) g some)

-- ---- two f64s that are the same number, neither of them -0, are one

same_bits : (s : Bool) (m : ℕ) (e : ℤ) (n : ℕ) (d : ℤ) → m * up e * down d ≡ n * up d * down e → to_bits binary64 (fin s m e) ≡ to_bits binary64 (fin s n d)
unfolding to_bits
same_bits s m e n d h =
    ap (λ (w : ℕ). cond s (top binary64) 0 + (size w - 53) * hid binary64 + w / 2 ^ (size w - 53))
    (div_same (m * up e * 2 ^ 1074) (down e) (n * up d * 2 ^ 1074) (down d) (down_pos e) (down_pos d)
    (mul_right_comm (m * up e) (2 ^ 1074) (down d) ∙ ap (λ (k : ℕ). k * 2 ^ 1074) h ∙ mul_right_comm (n * up d) (down e) (2 ^ 1074)))

-- two tests that pass together
pub both : (p q : Bool) → (p && q) ≡ true → (p ≡ true) × (q ≡ true)
both true true h = (refl, refl)
both true false h = absurd (false≢true h)
both false q h = absurd (false≢true h)

-- a significand that makes no size is 0
no_size : (m : ℕ) (e d : ℤ) → m * up e * down d ≡ 0 → m ≡ 0
no_size none e d h = refl
no_size (suc m) e d h = absurd (omega (arith, mul-pos (mul-pos (zero-lt-suc m) (up_pos e)) (down_pos d)))

signed_zero : (m : ℕ) → m ≡ 0 → not (eqb m 0) ≡ true → ⊥
signed_zero m e h = true≢false (sym h ∙ ap (λ (k : ℕ). not (eqb k 0)) e)

pub same_is_equal : (x y : Float) → T (fits binary64 x) → T (fits binary64 y) → finite x ≡ true → Same x y → not_minus_zero x ≡ true → not_minus_zero y ≡ true → x ≡ y
unfolding Ieee.eq
same_is_equal x y f g p h k l =
    sym (of_bits-to_bits binary64 x f) ∙ ap (Ieee.of_bits binary64) (go x y p (same_finite p h) (same_equal x y p (same_finite p h) h) k l) ∙ of_bits-to_bits binary64 y g
  where
    go : (x y : Float) → finite x ≡ true → finite y ≡ true → (x =ᶠ y) ≡ true → not_minus_zero x ≡ true → not_minus_zero y ≡ true → to_bits binary64 x ≡ to_bits binary64 y
    go nan y p q h k l = absurd (false≢true p)
    go (inf s) y p q h k l = absurd (false≢true p)
    go (fin s m e) nan p q h k l = absurd (false≢true q)
    go (fin s m e) (inf t) p q h k l = absurd (false≢true q)
    go (fin true m e) (fin true n d) p q h k l = same_bits true m e n d (eqb-true (m * up e * down d) (n * up d * down e) (both (eqb (m * up e * down d) (n * up d * down e)) true h).0)
    go (fin false m e) (fin false n d) p q h k l = same_bits false m e n d (eqb-true (m * up e * down d) (n * up d * down e) (both (eqb (m * up e * down d) (n * up d * down e)) true h).0)
    go (fin true m e) (fin false n d) p q h k l =
        let two = both (eqb (m * up e * down d) (n * up d * down e)) (eqb (m * up e * down d) 0) h in
        absurd (signed_zero m (no_size m e d (eqb-true (m * up e * down d) 0 two.1)) k)
    go (fin false m e) (fin true n d) p q h k l =
        let two = both (eqb (m * up e * down d) (n * up d * down e)) (eqb (m * up e * down d) 0) h in
        absurd (signed_zero n (no_size n d e (sym (eqb-true (m * up e * down d) (n * up d * down e) two.0) ∙ eqb-true (m * up e * down d) 0 two.1)) l)

-- ---- a zero of either sign

zero_fits : {z : Float} → Zero z → T (fits binary64 z)
unfolding fits
zero_fits (signed s e) = subst (λ (v : Float). T (fits binary64 v)) (sym e) tt

pub plus_zero : {z : Float} (x : Float) → T (fits binary64 x) → not_minus_zero x ≡ true → Zero z → x ⊕ z ≡ x
unfolding Ieee.add
plus_zero nan f h w = refl
plus_zero (inf s) f h (signed t e) = λ i. inf s ⊕ e i
plus_zero {z} (fin s m e) f h w =
    let x = fin s m e in
    let same = subst (λ (v : Float). Same x v) (⊕-commutes z x) (same_turned (zero_plus x w f refl)) in
    sym (same_is_equal x (x ⊕ z) f (add-fits binary64 x z) refl same h (sum_not_minus_zero x z f (zero_fits w) h))

pub times_a_zero : (x z : Float) → finite x ≡ true → (z =ᶠ +0) ≡ true → Zero (x ⊗ z)
unfolding Ieee.mul Ieee.eq Ieee.of_bits
times_a_zero nan z p h = absurd (false≢true p)
times_a_zero (inf s) z p h = absurd (false≢true p)
times_a_zero (fin s m e) nan p h = absurd (false≢true h)
times_a_zero (fin s m e) (inf t) p h = absurd (false≢true h)
times_a_zero (fin s m e) (fin t n d) p h =
    let none : n ≡ 0 = eqb-true n 0 (sym (is_zero t n d) ∙ h) in
    signed (unlike s t)
    (ap (λ (k : ℕ). round binary64 (unlike s t) (m * up e * (k * up d)) (down e * down d)) none
    ∙ ap (λ (k : ℕ). round binary64 (unlike s t) k (down e * down d)) (ap (λ (k : ℕ). m * up e * k) (zero-mul (up d)) ∙ mul-zero (m * up e))
    ∙ round_none (unlike s t) (down e * down d) (mul-pos (down_pos e) (down_pos d)))

pub a_zero_times : (z x : Float) → finite x ≡ true → (z =ᶠ +0) ≡ true → Zero (z ⊗ x)
a_zero_times z x p h = subst (λ (v : Float). Zero v) (⊗-commutes x z) (times_a_zero x z p h)
