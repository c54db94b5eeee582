-- 01, The wheel step: "At most 1+1e-9: 0 halvings. Otherwise the least k with 2^k not below the ratio, never more than 20; infinite gives 20, NaN 0."
use Rattle.std.specs.Prelude.{◌≡◌, ℕ, zero, suc, ◌^◌, ◌<◌, ◌≤◌, true, false, not, pos, Float}
use Rattle.std.specs.Float.Ieee as Ieee
use Rattle.std.specs.Float.{binary64}
use Rattle.number.specs.Float.{◌<ᶠ◌, ◌≤ᶠ◌, ◌when◌else◌}
use Rattle.number.specs.Constants.{c1+1e-9}
use Rattle.number.specs.declared.halving.Halved.{Halved}

-- 2^k as an f64
unfoldable pub power : ℕ → Float
power k = Ieee.of_int binary64 (pos (2 ^ k))

-- "the least k .. never more than 20": what the count is, and what it is not
pub record IsLeast (ratio : Float) (k : ℕ) : Type 0 where
  pub below : (j : ℕ) → j < k → (power j <ᶠ ratio) ≡ true
  pub reached : k < 20 → (power k <ᶠ ratio) ≡ false
  pub most : k ≤ 20

-- the same as a function that computes: the first of j, j + 1, .. that is not below the ratio, after n tries the number reached
unfoldable pub first_from : ℕ → ℕ → Float → ℕ
unfolding power
first_from zero j ratio = j
first_from (suc n) j ratio = let later = first_from n (suc j) ratio in j when not (power j <ᶠ ratio) else later

unfoldable pub halving_count : Float → ℕ
unfolding first_from
halving_count ratio =
    0 when ratio ≤ᶠ c1+1e-9 else
    first_from 20 0 ratio

-- so many halvings, and the number of equal parts that they make
abbrev pub made : ℕ → Halved
made k = record { count = k; parts = power k }

abbrev pub halvings_of : Float → Halved
halvings_of ratio = made (halving_count ratio)
