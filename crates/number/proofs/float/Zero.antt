-- An f64 beside zero: its significand and its sign tell whether a finite value is zero, and whether it is above zero. Assumes nothing.
use Rattle.std.proofs.Common.{◌≡◌, ℕ, zero as none, suc, ◌*◌, ◌<◌, Bool, true, false, eqb, ℤ, sym, refl, ◌∙◌, zero-lt-suc, mul-pos, zero-mul, arith, lt-ltb, ne_eqb}
use mathlib.Core.Bool.{or-true}
use lib.Dec.{eqb-suc-zero}
use lib.Ieee as Ieee
use lib.Ieee.{Float, nan, inf, fin, up, down}
use lib.Ieee.Fits.{up_pos}
use lib.Ieee.Positive.{above}
use Rattle.number.specs.Float.{◌<ᶠ◌, ◌=ᶠ◌}
use Rattle.number.specs.Constants.{zero}

value_positive : (m : ℕ) (e : ℤ) → 0 < suc m * up e
value_positive m e = mul-pos (zero-lt-suc m) (up_pos e)

pub is_zero : (s : Bool) (m : ℕ) (e : ℤ) → (fin s m e =ᶠ zero) ≡ eqb m 0
unfolding Ieee.eq Ieee.of_bits
is_zero s none e = simp (zero-mul, or-true)
is_zero s (suc m) e = simp (ne_eqb (suc m * up e * 1) (0 * down e) (omega (arith, value_positive m e)), eqb-suc-zero)

pub is_above : (x : Float) → (zero <ᶠ x) ≡ above x
unfolding Ieee.lt Ieee.of_bits
is_above nan = refl
is_above (inf s) = refl
is_above (fin true m e) = refl
is_above (fin false none e) = simp zero-mul
is_above (fin false (suc m) e) = lt-ltb (0 * down e) (suc m * up e * 1) (omega (arith, value_positive m e)) ∙ sym (lt-ltb 0 (suc m) (zero-lt-suc m))
