-- A fraction rounded to an f64: it is no NaN, has the sign asked for, and is zero exactly where the fraction is, once that is a whole number of smallest values 2^-1074.
-- Assumes nothing.
use Rattle.std.proofs.Common.{◌≡◌, ℕ, zero as none, suc, ◌*◌, ◌^◌, ◌<◌, ◌≤◌, Bool, true, false, cond, T, eqb, ltb, ℤ, pos, sym, refl, ap, ◌∙◌, subst, zero-lt-suc, one-mul, arith, ltb→lt, pow_pos, ne_eqb}
use mathlib.Core.Bool.{false≢true}
use lib.Dec.{eqb-suc-zero}
use lib.Ieee as Ieee
use lib.Ieee.{Float, fin, inf, is_nan, odd, units, round, binary64}
use lib.Ieee.Bits.{is_true}
use lib.Ieee.Order.{kept, drop, round_mono}
use lib.Ieee.Positive.{above, positive, above_of_le}
use lib.Ieee.Scale.{round_same}
use Rattle.number.specs.Float.{◌<ᶠ◌, ◌=ᶠ◌}
use Rattle.number.specs.Constants.{zero}
use Rattle.number.proofs.float.Zero.{is_zero, is_above}

-- of the two values that x gives, for the two signs, each has its sign, and both the same size
pub data Signed (x : Bool → Float) : Type 0 where
  finite_size : (m : ℕ) (e : ℤ) → ((s : Bool) → x s ≡ fin s m e) → Signed x
  infinite_size : ((s : Bool) → x s ≡ inf s) → Signed x

odd_signed : (d q k l : ℕ) → Signed (λ s. odd d s q k l)
unfolding odd
odd_signed d none k l = finite_size 0 (pos 0) (λ s. refl)
odd_signed d (suc q) k l = finite_size _ _ (λ s. refl)

units_signed : (q k : ℕ) → Signed (λ s. units binary64 s q k)
unfolding units
units_signed q k = go (ltb (q * 2 ^ k) (2 ^ 2098))
  where
    go : (p : Bool) → Signed (λ s. cond p (odd 54 s q k 1074) (inf s))
    go true = odd_signed 54 q k 1074
    go false = infinite_size (λ s. refl)

pub round_signed : (a c : ℕ) → Signed (λ s. round binary64 s a c)
unfolding round
round_signed a c = units_signed (kept 53 (a * 2 ^ 1074) c) (drop 53 (a * 2 ^ 1074) c)

pub round_no_nan : (s : Bool) (a c : ℕ) → is_nan (round binary64 s a c) ≡ false
unfolding is_nan
round_no_nan s a c = go (round_signed a c)
  where
    go : Signed (λ t. round binary64 t a c) → is_nan (round binary64 s a c) ≡ false
    go (finite_size m e r) = ap is_nan (r s)
    go (infinite_size r) = ap is_nan (r s)

-- a negative one is not above zero
pub round_negative : (a c : ℕ) → (zero <ᶠ round binary64 true a c) ≡ false
round_negative a c = is_above (round binary64 true a c) ∙ go (round_signed a c)
  where
    go : Signed (λ t. round binary64 t a c) → above (round binary64 true a c) ≡ false
    go (finite_size m e r) = ap above (r true)
    go (infinite_size r) = ap above (r true)

pub round_none : (s : Bool) (c : ℕ) → 0 < c → round binary64 s 0 c ≡ fin s 0 (pos 0)
unfolding round
round_none s c C = round_same binary64 s 0 c 0 1 C (omega arith) (omega arith)

pub round_some : (a c : ℕ) → 0 < c → (zero <ᶠ round binary64 false a c) ≡ true → 0 < a
round_some none c C h = absurd (false≢true (sym (is_above (round binary64 false 0 c) ∙ ap above (round_none false c C)) ∙ h))
round_some (suc a) c C h = zero-lt-suc a

-- from the smallest value up, a fraction rounds to a value above zero
some_above : (a c : ℕ) → 0 < c → c ≤ a * 2 ^ 1074 → T (above (round binary64 false a c))
some_above a c C h = above_of_le (round binary64 false 1 (2 ^ 1074)) (round binary64 false a c) smallest (round_mono binary64 1 (2 ^ 1074) a c (pow_pos 1074) C (rw one-mul h))
  where
    smallest : T (positive (round binary64 false 1 (2 ^ 1074)))
    smallest = unfold round in tt

pub round_above : (a c : ℕ) → 0 < c → c ≤ a * 2 ^ 1074 → (zero <ᶠ round binary64 false a c) ≡ true
round_above a c C h = is_above (round binary64 false a c) ∙ is_true (above (round binary64 false a c)) (some_above a c C h)

pub round_zero : (s : Bool) (a c : ℕ) → 0 < c → (0 < a → c ≤ a * 2 ^ 1074) → (round binary64 s a c =ᶠ zero) ≡ eqb a 0
unfolding Ieee.eq Ieee.of_bits
round_zero s none c C h = ap (λ (x : Float). x =ᶠ zero) (round_none s c C) ∙ is_zero s 0 (pos 0)
round_zero s (suc a) c C h = go (round_signed (suc a) c) ∙ sym (eqb-suc-zero a)
  where
    go : Signed (λ t. round binary64 t (suc a) c) → (round binary64 s (suc a) c =ᶠ zero) ≡ false
    go (finite_size m e r) =
        let l : 0 < m = ltb→lt 0 m (subst (λ (x : Float). T (above x)) (r false) (some_above (suc a) c C (h (zero-lt-suc a)))) in
        ap (λ (x : Float). x =ᶠ zero) (r s) ∙ is_zero s m e ∙ ne_eqb m 0 (omega arith)
    go (infinite_size r) = ap (λ (x : Float). x =ᶠ zero) (r s)
