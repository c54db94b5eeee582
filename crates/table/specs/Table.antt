-- 01, Examples to prove: "One table, one statement". Each row is of a definition; the contract of the function that is named beside it carries it to the
-- code, for that function answers what the definition says.
use Rattle.std.specs.Prelude.{ℕ, ◌+◌, ◌-◌, ◌^◌, ◌≡◌, [], ◌∷◌, pos, negsuc, Float}
use Rattle.number.specs.Float.{−◌, nearest_to}
use Rattle.number.specs.Constants.{half, one, c2}
use Rattle.number.specs.Constants.{zero as +0}
use Rattle.number.specs.Halving.{halving_count}
use Rattle.root.specs.Root.{sqrt_of, next}
use Rattle.number.specs.Said.{gives, refusal}
use Rattle.number.specs.Ticks.{tick_difference}
use Rattle.number.specs.Whole.{whole_to_float}
use Rattle.mat3.specs.Matrix.{diagonal}
use Rattle.drive.specs.declared.DifferentialDrive.{DifferentialDrive}
use Rattle.drive.specs.Drive.{twist_asked}
use Rattle.wheel_odom.specs.Measurement.{with_defaults}
use Rattle.wheel_odom.specs.Information.{information_of}

-- the f64 that is a whole number, and that is 1 over one
abbrev pub whole : ℕ → Float
whole n = nearest_to n 1

abbrev pub over : ℕ → Float
over n = nearest_to 1 n

-- radii of 0.5 (02, W-205, gives each wheel its own) and a track of 0.25; the ticks per turn and the counter width are not used
abbrev pub drive : DifferentialDrive
drive = record { left_radius = half; right_radius = half; track_width = over 4; ticks_per_revolution = one; counter_width = 64 }

pub record Table : Type 0 where
  -- "2^53+1 converts to 2^53; 2^63−1 to 2^63": number::whole_to_f64
  pub tie_to_even : whole_to_float (pos (2 ^ 53 + 1)) ≡ whole (2 ^ 53)
  pub greatest : whole_to_float (pos (2 ^ 63 - 1)) ≡ whole (2 ^ 63)
  -- "root of 2^−1074 is 2^−537": root::sqrt
  pub least_root : sqrt_of (over (2 ^ 1074)) ≡ gives (over (2 ^ 537))
  -- "the tick wrap above": "From 2^63−1 to −2^63 it is 1", which is that of counters of 64 bits: number::tick_difference
  pub tick_wrap : tick_difference 64 (pos (2 ^ 63 - 1)) (negsuc (2 ^ 63 - 1)) ≡ pos 1
  -- "ratio 1, 1024, next above it give 0, 10, 11": number::halvings
  pub ratio_one : halving_count one ≡ 0
  pub ratio_thousand : halving_count (whole 1024) ≡ 10
  pub ratio_next : halving_count (next (whole 1024)) ≡ 11
  -- "r 0.5, track 0.25, rates 1, 2 give vx 0.75, wz 2": drive::DifferentialDrive::twist
  pub twist : twist_asked drive one c2 ≡ gives (record { vx = nearest_to 3 4; vy = +0; wz = c2 })
  -- "covariance diag(−1,−1,1) gives 9": wheel_odom::WheelOdomMeasurement::information
  pub indefinite : (information_of (with_defaults (+0 ∷ +0 ∷ +0 ∷ []) (diagonal (− one) (− one) one))).outcome ≡ refusal 9
