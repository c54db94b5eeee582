-- `PreintegratedImu::integrate` meets its contract: the state that is computed is as finite as the one that is defined, and equal to it where it is finite
-- (proofs/step/Lean.antt). Assumes nothing.
use Rattle.std.proofs.Common.{sym, ◌∙◌, arith}
use Rattle.number.proofs.float.PlusZero.{both}
use Rattle.imu.specs.Step.{angle_in, step_of}
use Rattle.imu.proofs.step.Lean.{advanced_finite, advanced_same}
use Rattle.imu.proofs.PreintegratedImu.integrate.Goals as goal

pub returns-then-not-is_finite-2 : goal.returns-then-not-is_finite-2
unfolding step_of angle_in
returns-then-not-is_finite-2 c =
    let a = c.args in
    let timed = sym c.is_finite.ensures ∙ (both c.is_finite_measurement.result c.is_finite.result c.if-not-is_finite_measurement-is_finite.false).1 in
    let finite = advanced_finite a.self.now a.measurement a.dt c.turn_in.ensures c.increment_of-d.ensures c.accel_in.ensures c.advanced_by-state.ensures timed in
    grind arith

pub returns : goal.returns
unfolding step_of angle_in
returns c =
    let a = c.args in
    let timed = sym c.is_finite.ensures ∙ (both c.is_finite_measurement.result c.is_finite.result c.if-not-is_finite_measurement-is_finite.false).1 in
    let same = advanced_same a.self.now a.measurement a.dt c.turn_in.ensures c.increment_of-d.ensures c.accel_in.ensures c.advanced_by-state.ensures timed (sym c.is_finite-3.ensures ∙ c.if-not-is_finite-2.false) in
    grind arith
