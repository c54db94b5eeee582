-- `round` at a whole number N of at least as many digits as the format keeps. In units of the format's smallest value N only has more zeros at its end,
-- so `round` drops N's last digits with them, and what it keeps is `closest N (2 ^ dropped)`. Assumes nothing.
use Rattle.std.proofs.Common.{◌≡◌, ℕ, suc, ◌+◌, ◌-◌, ◌*◌, ◌/◌, ◌^◌, ◌<◌, ◌≤◌, Bool, sym, ap, ◌∙◌, subst, le_trans, le_of_eq, lt_of_lt_of_le, lt_of_le_of_lt, mul-le-mul_right, mul_assoc, mul_comm, add_comm, one-mul, lt_of_not-le, mul-one, mul_right_comm, not-le_of_lt, div-one, arith, pow_pos, pow_mono, pow-add, shl_lt}
use native.Mathlib.Nat.{eq_of_mul-eq-mul_right}
use lib.Pow.{pow-lt, add-lt-pow}
use lib.Ieee.{Float, nan, inf, fin, Format, prec, emax, low, up, down, size, units, round}
use lib.Ieee.Digits.{size-lt, size-le, size_reaches}
use lib.Ieee.Fits.{two, two-le_pos, round_is}
use lib.Ieee.Exact.{HasValue, units_val}
use lib.Ieee.Nearest.{closest, closest_same}
use Rattle.number.specs.Whole.{apart}
use Rattle.number.proofs.whole.Closest.{closest_is}

-- ---- t zeros at its end make a number t digits longer
size_above : (n j : ℕ) → 2 ^ j ≤ n → j < size n
size_above n j h = lt_of_not-le (λ (g : size n ≤ j). not-le_of_lt (lt_of_lt_of_le (size-lt n) (pow_mono g)) h)

size_shift : (n t : ℕ) → 0 < size n → size (n * 2 ^ t) ≡ size n + t
size_shift n t Z = join (size n) (size (n * 2 ^ t)) Z (size-le (n * 2 ^ t) (size n + t) (shl_lt (size n) t (size-lt n))) (size_above (n * 2 ^ t) (size n - 1 + t) leading)
  where
    before : (z : ℕ) → 0 < z → z - 1 < z
    before z h = omega arith

    leading : 2 ^ (size n - 1 + t) ≤ n * 2 ^ t
    leading = le_trans (le_of_eq (pow-add 2 (size n - 1) t)) (mul-le-mul_right (2 ^ t) (size_reaches n (size n - 1) (before (size n) Z)))

    join : (z x : ℕ) → 0 < z → x ≤ z + t → z - 1 + t < x → x ≡ z + t
    join z x Z a b = omega arith

-- ---- from units to ones
in_ones : (x : Float) (s : Bool) (a l : ℕ) → 0 < l → HasValue x s (a * l) l → HasValue x s a 1
in_ones nan s a l L v = v
in_ones (inf t) s a l L v = v
in_ones (fin t m e) s a l L v = (v.0, mul-one (m * up e) ∙ eq_of_mul-eq-mul_right l L (m * up e) (a * down e) (v.1 ∙ mul_right_comm a l (down e)))

module _ (f : Format) (s : Bool) (N : ℕ) (long : prec f ≤ size N) where
  abbrev dropped : ℕ
  dropped = size N - prec f

  abbrev kept : ℕ
  kept = closest N (2 ^ dropped)

  has_digits : 0 < size N
  has_digits = lt_of_lt_of_le (two-le_pos (prec f) (two f)) long

  dropped_in_units : size (N * 2 ^ low f / 1) - prec f ≡ dropped + low f
  dropped_in_units = ap (λ (z : ℕ). size z - prec f) (div-one (N * 2 ^ low f)) ∙ more (size N) (prec f) (low f) (size (N * 2 ^ low f)) long (size_shift N (low f) has_digits)
    where
      more : (z p t x : ℕ) → p ≤ z → x ≡ z + t → x - p ≡ z - p + t
      more z p t x h e = omega arith

  round_in_units : round f s N 1 ≡ units f s kept (dropped + low f)
  round_in_units =
      let k = dropped + low f in
      let n = N * 2 ^ low f in
      round_is f s N 1
      ∙ ap (λ (z : ℕ). units f s (closest n (1 * 2 ^ z)) z) dropped_in_units
      ∙ ap (λ (z : ℕ). units f s (closest n z) k) (one-mul (2 ^ k))
      ∙ ap (λ (z : ℕ). units f s z k) (closest_same n (2 ^ k) N (2 ^ dropped) (pow_pos k) (pow_pos dropped) (simp (pow-add, mul_assoc, mul_comm)))

  -- nothing overflows: the result is at most N and a gap
  kept_below : N < 2 ^ emax f → kept * 2 ^ dropped < 2 ^ suc (emax f)
  kept_below h =
      lt_of_le_of_lt (reach (kept * 2 ^ dropped) (2 ^ dropped) (closest_is N (2 ^ dropped) (pow_pos dropped)).within)
      (add-lt-pow (emax f) h (pow-lt (fewer (size N) (prec f) (emax f) has_digits (two f) (size-le N (emax f) h))))
    where
      reach : (m g : ℕ) → 2 * apart m N ≤ g → m ≤ N + g
      reach m g h = omega arith

      fewer : (z p e : ℕ) → 0 < z → 2 ≤ p → z ≤ e → z - p < e
      fewer z p e Z P h = omega arith

  pub round_value : N < 2 ^ emax f → HasValue (round f s N 1) s (kept * 2 ^ dropped) 1
  round_value h =
      let l = low f in
      let w = kept * 2 ^ dropped in
      let shift : kept * 2 ^ (dropped + l) ≡ w * 2 ^ l = ap (λ (z : ℕ). kept * z) (pow-add 2 dropped l) ∙ sym (mul_assoc kept (2 ^ dropped) (2 ^ l)) in
      let fine : w * 2 ^ l < 2 ^ (l + suc (emax f)) = subst (λ (z : ℕ). w * 2 ^ l < 2 ^ z) (add_comm (suc (emax f)) l) (shl_lt (suc (emax f)) l (kept_below h)) in
      in_ones (round f s N 1) s w (2 ^ l) (pow_pos l) (rw round_in_units (rw shift at (units_val f s kept (dropped + l) (rw shift fine))))
