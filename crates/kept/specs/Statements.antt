-- 02, W-206: "a NaN in either being the bits 7ff8000000000000". Drive and noise can be fit and a kept value be NaN or infinite: a cart for each, and what is kept
-- of it. It is worked out in proofs/Statements.antt.
use Rattle.std.specs.Prelude.{◌≡◌, true, Float}
use Rattle.std.specs.Float.{binary64, nan}
use Rattle.std.specs.Float.Ieee.{of_bits}
use Rattle.number.specs.Constants.{one, half, TAU}
use Rattle.number.specs.Constants.{zero as +0}
use Rattle.mat3.specs.Matrix.{rows}
use Rattle.drive.specs.declared.DifferentialDrive.{DifferentialDrive}
use Rattle.drive.specs.declared.WheelNoise.{WheelNoise}
use Rattle.drive.specs.Drive.{valid_drive}
use Rattle.drive.specs.Noise.{valid_noise}
use Rattle.kept.specs.Kept.{kept_of}

abbrev pub +∞ : Float
+∞ = of_bits binary64 0x7ff0000000000000

-- a cart with wheels of radius r on a track, so many ticks to a turn
abbrev pub cart : (r track per_turn : Float) → DifferentialDrive
cart r track per_turn = record { left_radius = r; right_radius = r; track_width = track; ticks_per_revolution = per_turn; counter_width = 64 }

abbrev pub noises : (wheel lateral : Float) → WheelNoise
noises wheel lateral = record { wheel_rate = wheel; lateral_velocity = lateral }

-- wheels of 2^1000 m, 2^−1000 m apart
abbrev pub vast : DifferentialDrive
vast = cart (of_bits binary64 0x7e70000000000000) (of_bits binary64 0x0170000000000000) one

-- the least number above 0 of ticks to a turn, and a lateral noise of 2^1000
abbrev pub fine : DifferentialDrive
fine = cart one one (of_bits binary64 1)

abbrev pub slippery : WheelNoise
slippery = noises one (of_bits binary64 0x7e70000000000000)

pub record Statements : Type 0 where
  pub vast_fit : valid_drive vast ≡ true
  pub noise_fit : valid_noise (noises one one) ≡ true
  -- infinity less infinity, and 0 times infinity
  pub vast_kept : kept_of vast (noises one one) ≡ record {
    rate_noise = rows +∞ +0 nan
        +0 one nan
        nan nan +∞;
    radians_per_tick = TAU;
  }
  pub fine_fit : valid_drive fine ≡ true
  pub slippery_fit : valid_noise slippery ≡ true
  pub fine_kept : kept_of fine slippery ≡ record {
    rate_noise = rows half +0 +0
        +0 +∞ +0
        +0 +0 (of_bits binary64 0x4000000000000000);
    radians_per_tick = +∞;
  }
