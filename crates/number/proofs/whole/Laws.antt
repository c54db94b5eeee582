-- What the conversion of a whole number gives: the f64 nearest to it, at a tie the even one, and no other f64 is that.
-- It is so because `round` keeps the multiple of the gap that is `closest` to the number. Assumes nothing.
use Rattle.std.proofs.Common.{◌≡◌, ℕ, ◌+◌, ◌-◌, ◌*◌, ◌^◌, ◌<◌, ◌≤◌, Bool, T, ℤ, pos, negsuc, nat_abs, sym, refl, subst, inl, inr, lt_of_lt_of_le, lt_of_le_of_lt, le_of_lt, eq-zero-or-pos, arith, lit<, pow_pos, pow_mono, w64, SFits}
use lib.Signed.{mag}
use lib.Ieee as Ieee
use lib.Ieee.{Float, binary64, round, size, fits, of_bits}
use lib.Ieee.Digits.{size-lt}
use lib.Ieee.Exact.{HasValue}
use lib.Ieee.Back.{round_whole, whole_unique}
use lib.Ieee.Nearest.{closest}
use Rattle.number.specs.Whole.{whole_to_float, negative, gap, IsNearest}
use Rattle.number.proofs.whole.Closest.{Closest, closest_is, closest_only}
use Rattle.number.proofs.whole.Rounded.{round_value}

rounded : (n : ℤ) → whole_to_float n ≡ round binary64 (negative n) (nat_abs n) 1
unfolding Ieee.of_int
rounded (pos n) = refl
rounded (negsuc n) = refl

-- up to 2^53 nothing is lost
pub whole_exact : (n : ℤ) → nat_abs n ≤ 2 ^ 53 → HasValue (whole_to_float n) (negative n) (nat_abs n) 1
whole_exact n h = rw rounded (round_whole binary64 (negative n) (nat_abs n) h)

-- ---- the nearest
-- up to 53 digits the gap is 1, and N is kept whole
value_short : (s : Bool) (N : ℕ) → size N - 53 ≡ 0 → HasValue (round binary64 s N 1) s (closest N (gap N) * gap N) 1
value_short s N e =
    let at_most : N ≤ 2 ^ 53 = le_of_lt (lt_of_lt_of_le (size-lt N) (pow_mono (short (size N) e))) in
    subst (λ (z : ℕ). HasValue (round binary64 s N 1) s (closest N (2 ^ z) * 2 ^ z) 1) (sym e)
    (subst (λ (m : ℕ). HasValue (round binary64 s N 1) s m 1) (sym (whole N (closest N 1) (closest_is N 1 (pow_pos 0)))) (round_whole binary64 s N at_most))
  where
    short : (z : ℕ) → z - 53 ≡ 0 → z ≤ 53
    short z e = omega arith

    whole : (a q : ℕ) → Closest a 1 q → q * 1 ≡ a
    whole a q c = omega arith

value_nearest : (s : Bool) (N : ℕ) → N < 2 ^ 1023 → HasValue (round binary64 s N 1) s (closest N (gap N) * gap N) 1
value_nearest s N h = elim (eq-zero-or-pos (size N - 53)) [ inl e ↦ value_short s N e | inr l ↦ round_value binary64 s N (long (size N) l) h ]
  where
    long : (z : ℕ) → 0 < z - 53 → 53 ≤ z
    long z l = omega arith

-- far below where the conversion overflows
pub whole_nearest_below : (n : ℤ) → nat_abs n < 2 ^ 1023 → IsNearest n (whole_to_float n)
whole_nearest_below n h =
    let N = nat_abs n in
    let c = closest_is N (gap N) (pow_pos (size N - 53)) in
    record {
      q = closest N (gap N);
      value = rw rounded (value_nearest (negative n) N h);
      within = c.within;
      even = c.even;
    }

-- so for every i64
pub whole_nearest : (n : ℤ) → SFits w64 n → IsNearest n (whole_to_float n)
whole_nearest n f = whole_nearest_below n (lt_of_le_of_lt (size_at_most n f.sfits) (lit< tt))
  where
    size_at_most : (n : ℤ) → mag n < 2 ^ 63 → nat_abs n ≤ 2 ^ 63
    size_at_most (pos n) h = le_of_lt h
    size_at_most (negsuc n) h = h

-- no other f64 is the nearest
pub whole_only : (n : ℤ) (r s : Float) → T (fits binary64 r) → T (fits binary64 s) → IsNearest n r → IsNearest n s → r ≡ s
whole_only n r s F G x y =
    let g = gap (nat_abs n) in
    let same : x.q ≡ y.q = closest_only (nat_abs n) g x.q y.q (pow_pos (size (nat_abs n) - 53)) (record { within = x.within; even = x.even }) (record { within = y.within; even = y.even }) in
    whole_unique binary64 r s (negative n) (y.q * g) F G (subst (λ (q : ℕ). HasValue r (negative n) (q * g) 1) same x.value) y.value

pub record Examples : Type 0 where
  pub zero_to_plus_zero : whole_to_float (pos 0) ≡ of_bits binary64 0
  -- 2^53 + 1 lies in the middle of 2^53 and 2^53 + 2, and 2^53 is the even multiple of the gap
  pub tie_to_even : whole_to_float (pos (2 ^ 53 + 1)) ≡ of_bits binary64 0x4340000000000000
  -- −2^63 is exact, and 2^63 − 1 goes up to 2^63
  pub least : whole_to_float (negsuc (2 ^ 63 - 1)) ≡ of_bits binary64 0xc3e0000000000000
  pub greatest : whole_to_float (pos (2 ^ 63 - 1)) ≡ of_bits binary64 0x43e0000000000000

pub examples : Examples
unfolding Ieee.of_int Ieee.round Ieee.of_bits
examples = record { zero_to_plus_zero = refl; tie_to_even = refl; least = refl; greatest = refl }
