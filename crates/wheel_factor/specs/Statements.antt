-- What 01 states of wheel factors, as one record. It is proved in proofs/Statements.antt.
use Rattle.std.specs.Prelude.{ℕ, ◌≡◌, false, List, Float}
use Rattle.number.specs.Said.{gives, refused}
use Rattle.wheel_odom.specs.Information.{information_of}
use Rattle.wheel_factor.specs.declared.WheelOdomFactor.{WheelOdomFactor}
use Rattle.wheel_factor.specs.Factor.{compose_factor_of, valid_factor}

-- a joined factor goes from the first's start to the second's end
pub record Spans (a b joined : WheelOdomFactor) : Type 0 where
  pub from_the_first : joined.from_idx ≡ a.from_idx
  pub to_the_second : joined.to_idx ≡ b.to_idx

pub record Statements : Type 0 where
  -- "`is_valid` .. is false wherever `information` refuses"
  pub refused_not_valid : (f : WheelOdomFactor) (n : ℕ) (values : List Float) → (information_of f.measurement).outcome ≡ refused n values → valid_factor f ≡ false
  pub joined_spans : (a b : WheelOdomFactor) → (compose_factor_of a b).outcome ≡ gives tt → Spans a b (compose_factor_of a b).value
