-- What the code computes for a state: the covariance without what meets a zero (imu_step's words).
use Rattle.std.specs.Prelude.{List, Float}
use Rattle.rotation.specs.declared.Increment.{Increment}
use Rattle.imu_step.specs.Inside.Lean.{lean_covariance_after}
use Rattle.imu.specs.declared.PreintegratedImu.{PreintegratedImu}
use Rattle.imu.specs.Step.{advanced_with, rotated_hat}

unfoldable pub lean_advanced_by : PreintegratedImu → Increment → (a : List Float) → Float → PreintegratedImu
lean_advanced_by s d a dt = advanced_with (lean_covariance_after s.covariance s.calib s.delta_rotation d (rotated_hat s a) dt) s d a dt
