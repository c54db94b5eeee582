-- A valid factor's measurement has information, and a joined factor spans from the first's start to the second's end. Assumes nothing.
use Rattle.std.proofs.Common.{arith}
use mathlib.Core.Path.{◌≡◌}
use Prim.Native.Nat.{ℕ}
use mathlib.Core.Bool.{true, false, and-false}
use mathlib.Core.List.{List}
use lib.Ieee.{Float}
use Rattle.number.specs.Said.{gives, refused}
use Rattle.wheel_odom.specs.Information.{information_of}
use Rattle.wheel_factor.specs.declared.WheelOdomFactor.{WheelOdomFactor}
use Rattle.wheel_factor.specs.Factor.{compose_factor_of, valid_factor}
use Rattle.wheel_factor.specs.Statements.{Spans}

-- ---- a factor that may enter a solve

-- 01: "`is_valid` .. is false wherever `information` refuses"
pub refused_not_valid : (f : WheelOdomFactor) (n : ℕ) (values : List Float) → (information_of f.measurement).outcome ≡ refused n values → valid_factor f ≡ false
unfolding valid_factor
refused_not_valid f n values r = simp (r, and-false)

pub valid_has_information : (f : WheelOdomFactor) → valid_factor f ≡ true → (information_of f.measurement).outcome ≡ gives tt
unfolding valid_factor
valid_has_information f e = grind arith

-- ---- the ends of a joined factor

pub joined_spans : (a b : WheelOdomFactor) → (compose_factor_of a b).outcome ≡ gives tt → Spans a b (compose_factor_of a b).value
unfolding compose_factor_of
joined_spans a b e = record { from_the_first = grind arith; to_the_second = grind arith }
