-- What 01 states of the number leaves, and 02 of the tick difference, as one record about the definitions of this folder. It is proved in proofs/Statements.antt.
use Rattle.std.specs.Prelude.{◌≡◌, ℕ, ◌*◌, ◌≤◌, Bool, true, false, List, ℤ, ◌-ℤ◌, unsigned_abs, Float}
use Rattle.std.specs.Float.{nan, inf}
use Rattle.std.specs.Float.Ieee.Exact.{HasValue}
use Rattle.number.specs.Float.{◌≤ᶠ◌, IsF64}
use Rattle.number.specs.Constants.{c1+1e-9}
use Rattle.number.specs.Whole.{whole_to_float, apart, away, gap, IsNearest}
use Rattle.number.specs.Ticks.{IsI64, IsSigned, IsDifference, tick_difference, difference64, AddUp}
use Rattle.number.specs.Halving.{IsLeast, halving_count}

pub record Statements : Type 0 where
  -- ---- "The conversion rounds to nearest, ties to even, stated over whole numbers, for every i64."
  pub whole_nearest : (n : ℤ) → IsI64 n → IsNearest n (whole_to_float n)
  -- one f64 is that, and no other
  pub whole_only : (n : ℤ) (r s : Float) → IsF64 r → IsF64 s → IsNearest n r → IsNearest n s → r ≡ s
  -- and no f64 x is nearer: x has the sign s and is a / b in size, and b times its distance from n is no less than b times that of the nearest
  pub none_nearer : (n : ℤ) (r x : Float) (s : Bool) (a b : ℕ) (k : IsNearest n r) → IsF64 x → HasValue x s a b → apart (k.q * gap (unsigned_abs n)) (unsigned_abs n) * b ≤ away n s a b
  -- ---- 02, W-201: "the difference is the signed one modulo 2^width, from −2^(width−1) upward. The rule is proved once over the width."
  pub difference_is : (w : ℕ) → 1 ≤ w → w ≤ 64 → (from to : ℤ) → IsDifference w from to (tick_difference w from to)
  -- one number is that, and no other; where nothing turns over it is the plain difference
  pub difference_only : (w : ℕ) → 1 ≤ w → w ≤ 64 → (from to d : ℤ) → IsDifference w from to d → d ≡ tick_difference w from to
  pub difference_exact : (w : ℕ) → 1 ≤ w → w ≤ 64 → (from to : ℤ) → IsSigned w (to -ℤ from) → tick_difference w from to ≡ to -ℤ from
  -- W-209: the differences of any counts add up
  pub add_up : (w : ℕ) → 1 ≤ w → w ≤ 64 → (first : ℤ) (later : List ℤ) → AddUp w first later
  -- "Width 64 reads as before"
  pub width_64 : (from to : ℤ) → tick_difference 64 from to ≡ difference64 from to
  -- ---- "At most 1+1e-9: 0 halvings. Otherwise the least k with 2^k not below the ratio, never more than 20; infinite gives 20, NaN 0."
  pub count_small : (ratio : Float) → (ratio ≤ᶠ c1+1e-9) ≡ true → halving_count ratio ≡ 0
  pub count_least : (ratio : Float) → (ratio ≤ᶠ c1+1e-9) ≡ false → IsLeast ratio (halving_count ratio)
  pub least_only : (ratio : Float) (j k : ℕ) → IsLeast ratio j → IsLeast ratio k → j ≡ k
  pub count_infinite : halving_count (inf false) ≡ 20
  pub count_nan : halving_count nan ≡ 0
