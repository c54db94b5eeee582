-- What the timed functions are given, where it is not an argument: one cart, one board, the default sigmas.
use Rattle.std.specs.Prelude.{[], ◌∷◌, Float}
use Rattle.std.specs.Float.{binary64}
use Rattle.std.specs.Float.Ieee.{of_bits}
use Rattle.number.specs.Constants.{half, c0·05, c0·01, c1e-3}
use Rattle.number.specs.Constants.{zero as +0}
use Rattle.wheel.specs.declared.WheelPreintegration.{WheelPreintegration}
use Rattle.mat3.specs.Matrix.{rows}
use Rattle.vec3.specs.Vector.{zero_vector}
use Rattle.imu.specs.declared.PreintegratedImu.{PreintegratedImu}
use Rattle.imu.specs.State.{fresh as fresh_board}
use Rattle.wheel.specs.Integrator.{fresh, settings}
use Rattle.wheel_odom.specs.declared.WheelOdomMeasurement.{WheelOdomMeasurement}
use Rattle.wheel_odom.specs.Measurement.{with_defaults}

-- a fresh integrator: wheels of 0.1 m, a track of 0.5 m, 65,536 ticks to a turn, counters of 64 bits, the default noise
abbrev pub cart : WheelPreintegration
cart = fresh (settings
    (record {
      left_radius = of_bits binary64 0x3fb999999999999a;
      right_radius = of_bits binary64 0x3fb999999999999a;
      track_width = half;
      ticks_per_revolution = of_bits binary64 0x40f0000000000000;
      counter_width = 64;
    })
    (record { wheel_rate = c0·05; lateral_velocity = c0·01 }))

-- a measurement with the default sigmas, at a heading, of a covariance given by its upper half
abbrev pub symmetric_measurement : (heading cxx cxy cxw cyy cyw cww : Float) → WheelOdomMeasurement
symmetric_measurement heading cxx cxy cxw cyy cyw cww = with_defaults (+0 ∷ +0 ∷ heading ∷ []) (rows cxx cxy cxw cxy cyy cyw cxw cyw cww)

-- a fresh inertial state: no biases, densities of 0.001 for the gyroscope and 0.01 for the accelerometer
abbrev pub board : PreintegratedImu
board = fresh_board
    (record { gyro = zero_vector; accel = zero_vector })
    (record { gyro_noise = c1e-3; accel_noise = c0·01; gyro_bias_noise = c1e-3; accel_bias_noise = c0·01 })
