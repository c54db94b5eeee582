-- The state that the code computes is as finite as the one that is defined, and equal to it where it is finite: only the covariance is computed otherwise, and of it
-- that is imu_step's law (its proofs/Agrees.antt). Assumes nothing.
use mathlib.Core.Path.{◌≡◌, sym, ap, ◌∙◌}
use mathlib.Core.Bool.{true, ◌&&◌}
use mathlib.Core.List.{List}
use lib.Ieee.{Float}
use Rattle.number.specs.Float.{finite}
use Rattle.number.proofs.float.PlusZero.{both}
use Rattle.mat9.specs.Matrix.{all_finite}
use Rattle.lean9.proofs.Agrees.{Agrees, as_finite}
use Rattle.inertial.specs.declared.ImuMeasurement.{ImuMeasurement}
use Rattle.rotation.specs.declared.Increment.{Increment}
use Rattle.rotation.specs.Rotation.{increment_of}
use Rattle.imu_step.specs.Parts.{covariance_after}
use Rattle.imu_step.specs.Inside.Lean.{lean_covariance_after}
use Rattle.imu_step.proofs.Agrees.{covariance_agrees}
use Rattle.imu.specs.declared.PreintegratedImu.{PreintegratedImu}
use Rattle.imu.specs.Inside.Lean.{lean_advanced_by}
use Rattle.imu.specs.State.{finite_bias, finite_calib, finite_jacobians, finite_motion, finite_state}
use Rattle.imu.specs.Step.{accel_in, advanced, advanced_by, advanced_with, rotated_hat, turn_in}

-- ---- with either covariance

covariance_finite : (s : PreintegratedImu) → finite_state s ≡ true → all_finite s.covariance ≡ true
unfolding finite_state
covariance_finite s h =
    let motion = finite_motion s && finite_bias s.bias && finite_calib s.calib in
    let covariance = motion && all_finite s.covariance in
    let walk = covariance && all_finite s.bias_covariance in
    (both motion (all_finite s.covariance) (both covariance (all_finite s.bias_covariance) (both walk (finite_jacobians s) h).0).0).1

module _ (s : PreintegratedImu) (d : Increment) (a : List Float) (dt : Float) where
  finite_with : (C D : List Float) → all_finite C ≡ all_finite D → finite_state (advanced_with C s d a dt) ≡ finite_state (advanced_with D s d a dt)
  unfolding finite_state finite_motion finite_jacobians advanced_with
  finite_with C D e = rw e

  same_with : (C D : List Float) → Agrees C D → finite_state (advanced_with C s d a dt) ≡ true → advanced_with D s d a dt ≡ advanced_with C s d a dt
  unfolding advanced_with
  same_with C D g f = ap (λ (E : List Float). advanced_with E s d a dt) (sym (g.where_first (covariance_finite (advanced_with C s d a dt) f)))

  abbrev lean : List Float
  lean = lean_covariance_after s.covariance s.calib s.delta_rotation d (rotated_hat s a) dt

  abbrev whole : List Float
  whole = covariance_after s.covariance s.calib s.delta_rotation d (rotated_hat s a) dt

  agrees : finite dt ≡ true → Agrees lean whole
  agrees = covariance_agrees s.covariance s.calib s.delta_rotation d (rotated_hat s a) dt

-- ---- of what the calls of a step give

module _ (s : PreintegratedImu) (m : ImuMeasurement) (dt : Float) {turn : List Float} {d : Increment} (e : turn ≡ turn_in s m dt) (f : d ≡ increment_of turn) where
  module _ {a : List Float} {x : PreintegratedImu} (g : a ≡ accel_in s m) (h : x ≡ lean_advanced_by s d a dt) (p : finite dt ≡ true) where
    advanced_is : advanced s m dt ≡ advanced_by s d a dt
    unfolding advanced
    advanced_is = rw (f, e, g)

    pub advanced_finite : finite_state (advanced s m dt) ≡ finite_state x
    unfolding advanced_by lean_advanced_by
    advanced_finite = ap finite_state advanced_is ∙ finite_with s d a dt (whole s d a dt) (lean s d a dt) (sym (as_finite (agrees s d a dt p))) ∙ sym (ap finite_state h)

    pub advanced_same : finite_state x ≡ true → advanced s m dt ≡ x
    unfolding advanced_by lean_advanced_by
    advanced_same y = advanced_is ∙ same_with s d a dt (lean s d a dt) (whole s d a dt) (agrees s d a dt p) (sym (ap finite_state h) ∙ y) ∙ sym h
