-- A power of two and itself make the next one, exactly: computed for the twenty that an interval is cut into. Assumes nothing.
use Rattle.std.proofs.Common.{◌≡◌, ℕ, suc, ◌^◌, ◌<◌, Bool, eqb, pos, sym, refl, ap, ◌∙◌, eqb→eq}
use lib.Ieee as Ieee
use lib.Ieee.{binary64, of_bits, to_bits}
use lib.Ieee.Fits.{add-fits, of_int-fits}
use lib.Ieee.Bits.{of_bits-to_bits}
use Rattle.number.specs.Float.{◌⊕◌}
use Rattle.number.specs.Constants.{one}
use Rattle.number.specs.Halving.{power}
use Rattle.number.proofs.All.{all_at}

doubles : ℕ → Bool
doubles k = eqb (to_bits binary64 (power k ⊕ power k)) (to_bits binary64 (power (suc k)))

pub power_doubles : (k : ℕ) → k < 20 → power k ⊕ power k ≡ power (suc k)
unfolding power doubles to_bits Ieee.add Ieee.of_int
power_doubles k h =
    sym (of_bits-to_bits binary64 (power k ⊕ power k) (add-fits binary64 (power k) (power k)))
    ∙ ap (of_bits binary64) (eqb→eq _ _ (all_at doubles 20 k h tt))
    ∙ of_bits-to_bits binary64 (power (suc k)) (of_int-fits binary64 (pos (2 ^ suc k)))

pub power_none : one ≡ power 0
unfolding power Ieee.of_int of_bits
power_none = refl
