-- The f64s are whole multiples of the smallest value, 2^-1074, so two that differ do so by that value at least. Assumes nothing.
use Rattle.std.proofs.Common.{ℕ, zero as none, suc, ◌-◌, ◌*◌, ◌%◌, ◌^◌, ◌<◌, ◌≤◌, ◌&&◌, T, eqb, ltb, leb, pos, negsuc, sym, ap, ◌∙◌, subst, le_of_suc-le-suc, mul_comm, add-sub_of_le, mul-pos, lt_of_not-le, mul-add, not-le_of_lt, eqb→eq, leb→le, pow_pos, pow-add}
use Prim.Native.Nat.{◌∣◌}
use native.Mathlib.Nat.{mul-sub, mul-dvd-mul, dvd-add, dvd-sub, dvd-mul_left, dvd-mul_right, dvd_trans, one-dvd, le_of_dvd}
use lib.Pow.{pow-lt}
use lib.Ieee.{Float, nan, inf, fin, up, down, fits, binary64}
use lib.Ieee.Fits.{and_l, and_r}
use lib.Ieee.Positive.{den}
use Rattle.number.proofs.float.Fraction.{gain, loss, cross, common, excess}

power_divides : (i j : ℕ) → 2 ^ i ≤ 2 ^ j → 2 ^ i ∣ 2 ^ j
power_divides i j h = subst (λ (n : ℕ). 2 ^ i ∣ n) (sym (pow-add 2 i (j - i)) ∙ ap (λ (n : ℕ). 2 ^ n) (add-sub_of_le few)) (dvd-mul_right (2 ^ i) (2 ^ (j - i)))
  where
    few : i ≤ j
    few = le_of_suc-le-suc (lt_of_not-le (λ (more : j < i). not-le_of_lt (pow-lt more) h))

den_divides : (a : Float) → T (fits binary64 a) → den a ∣ 2 ^ 1074
unfolding fits
den_divides nan f = one-dvd (2 ^ 1074)
den_divides (inf s) f = one-dvd (2 ^ 1074)
den_divides (fin s none e) f = dvd_trans (down e) (subst (λ (n : ℕ). down e ∣ n) (eqb→eq (up e * down e) 1 f) (dvd-mul_left (down e) (up e))) (one-dvd (2 ^ 1074))
den_divides (fin s (suc m) (pos k)) f = one-dvd (2 ^ 1074)
den_divides (fin s (suc m) (negsuc k)) f =
    power_divides (suc k) 1074
    (leb→le (2 ^ suc k) (2 ^ 1074)
    (and_r (eqb (suc m % 2) 1 && ltb (suc m) (2 ^ 53)) (leb (2 ^ suc k) (2 ^ 1074))
    (and_l (eqb (suc m % 2) 1 && ltb (suc m) (2 ^ 53) && leb (2 ^ suc k) (2 ^ 1074)) (ltb (suc m * 1) (2 ^ 1024 * 2 ^ suc k)) f)))

cross_divides : (a b : Float) (l : ℕ) → den a ∣ l → den b ∣ l → common a b ∣ l * cross a b
cross_divides a b l p q =
    rw mul-add
    (dvd-add (common a b) (mul-dvd-mul (den a) (den b) p (dvd-mul_left (den b) (gain a)))
    (rw (mul_comm (den a) (den b)) (mul-dvd-mul (den b) (den a) q (dvd-mul_left (den a) (loss b)))))

apart : (a b : Float) (l : ℕ) → 0 < l → den a ∣ l → den b ∣ l → 0 < excess a b → common a b ≤ excess a b * l
apart a b l L p q h =
    rw (mul_comm (excess a b) l)
    (le_of_dvd (mul-pos L h)
    (rw mul-sub (dvd-sub (common a b) (cross_divides a b l p q) (rw (mul_comm (den a) (den b)) (cross_divides b a l q p)))))

pub gap : (a b : Float) → T (fits binary64 a) → T (fits binary64 b) → 0 < excess a b → common a b ≤ excess a b * 2 ^ 1074
gap a b f g = apart a b (2 ^ 1074) (pow_pos 1074) (den_divides a f) (den_divides b g)
