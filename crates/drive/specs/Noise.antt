-- 01, Refusal numbers: which noise is fit.
use Rattle.std.specs.Prelude.{Bool, ◌&&◌}
use Rattle.number.specs.Constants.{zero as +0}
use Rattle.number.specs.Fit.{finite_not_negative}
use Rattle.drive.specs.declared.WheelNoise.{WheelNoise}

-- 01, Refusal numbers, 6: "a noise number not finite or below 0"
unfoldable pub valid_noise : WheelNoise → Bool
valid_noise n = finite_not_negative n.wheel_rate && finite_not_negative n.lateral_velocity

-- "no state": every number +0
abbrev pub blank_noise : WheelNoise
blank_noise = record { wheel_rate = +0; lateral_velocity = +0 }
