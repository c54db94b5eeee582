-- The two answers of a step: a refusal, with the state as it came, or the new state, which has passed every test. So a step that is taken leaves every field
-- finite, and its total time is no smaller than it was: adding a time above 0 never comes out below adding a zero. The total need not grow, since rounding may
-- take a small time away. Assumes nothing.
use mathlib.Core.Path.{◌≡◌, refl}
use Prim.Native.Nat.{ℕ}
use mathlib.Core.Bool.{Bool, true, false, not, ◌&&◌, and-eq-true_iff, false≢true}
use mathlib.Core.List.{List}
use lib.Dec.{T}
use lib.Ieee as Ieee
use lib.Ieee.{Float, binary64, fits}
use Rattle.number.specs.Float.{◌⊕◌, ◌<ᶠ◌, ◌≤ᶠ◌, ◌=ᶠ◌, ◌when◌else◌, finite}
use Rattle.number.specs.Constants.{zero as +0}
use Rattle.number.specs.Said.{gives, refused, Told, accepts, refuses}
use Rattle.number.proofs.Cases.{refused_not_given}
use Rattle.sincos.specs.Turn.{above_four}
use Rattle.number.proofs.float.Commute.{⊕-commutes}
use Rattle.number.proofs.float.Monotone.{≤ᶠ-transitive, ⊕-monotone, finite_no_nan, not_below}
use Rattle.number.proofs.float.Parts.{finite_sum}
use Rattle.number.proofs.float.SameNumber.{signed, zero_plus}
use Rattle.mat3.specs.Matrix.{finite_matrix}
use Rattle.vec3.specs.Vector.{finite_vector}
use Rattle.mat9.specs.Matrix.{all_finite}
use Rattle.inertial.specs.declared.ImuMeasurement.{ImuMeasurement}
use Rattle.imu.specs.declared.PreintegratedImu.{PreintegratedImu}
use Rattle.imu.specs.State.{finite_bias, finite_calib, finite_jacobians, finite_measurement, finite_motion, finite_state}
use Rattle.imu.specs.Step.{advanced, advanced_by, advanced_with, angle_in, step_of}

-- ---- the answers

-- what has been tested where a step is taken
pub record Taken (s : PreintegratedImu) (m : ImuMeasurement) (dt : Float) : Type 0 where
  pub reading_finite : finite_measurement m ≡ true
  pub time_finite : finite dt ≡ true
  pub not_before : (dt <ᶠ +0) ≡ false
  pub not_at_once : (dt =ᶠ +0) ≡ false
  pub angle_in_range : above_four (angle_in s m dt) ≡ false
  pub angle_finite : finite (angle_in s m dt) ≡ true
  pub result_finite : finite_state (advanced s m dt) ≡ true

pub data Answered (s : PreintegratedImu) (m : ImuMeasurement) (dt : Float) : Told PreintegratedImu → Type 0 where
  refusing : (n : ℕ) → Answered s m dt (refuses n s)
  advancing : Taken s m dt → Answered s m dt (accepts (advanced s m dt))

module _ (s : PreintegratedImu) (m : ImuMeasurement) (dt : Float) where
  -- a refusal where the test holds
  either : (n : ℕ) (b : Bool) {x : Told PreintegratedImu} → (b ≡ false → Answered s m dt x) → Answered s m dt (refuses n s when b else x)
  either n true later = refusing n
  either n false later = later refl

  -- a refusal where it fails
  unless : (n : ℕ) (b : Bool) {x : Told PreintegratedImu} → (b ≡ true → Answered s m dt x) → Answered s m dt (refuses n s when not b else x)
  unless n true later = later refl
  unless n false later = refusing n

  pub answered : Answered s m dt (step_of s m dt)
  unfolding step_of
  answered =
      unless 2 (finite_measurement m && finite dt) (λ p.
      either 3 (dt <ᶠ +0) (λ q.
      either 4 (dt =ᶠ +0) (λ r.
      either 8 (above_four (angle_in s m dt)) (λ w.
      unless 2 (finite (angle_in s m dt)) (λ a.
      unless 2 (finite_state (advanced s m dt)) (λ f.
      let both = (and-eq-true_iff (finite_measurement m) (finite dt)).0 p in
      advancing (record { reading_finite = both.0; time_finite = both.1; not_before = q; not_at_once = r; angle_in_range = w; angle_finite = a; result_finite = f })))))))

  pub accepted_taken : (step_of s m dt).outcome ≡ gives tt → Taken s m dt
  accepted_taken = go answered
    where
      go : {x : Told PreintegratedImu} → Answered s m dt x → x.outcome ≡ gives tt → Taken s m dt
      go (refusing n) e = absurd (refused_not_given e)
      go (advancing t) e = t

  pub accepted_advances : (step_of s m dt).outcome ≡ gives tt → (step_of s m dt).value ≡ advanced s m dt
  accepted_advances = go answered
    where
      go : {x : Told PreintegratedImu} → Answered s m dt x → x.outcome ≡ gives tt → x.value ≡ advanced s m dt
      go (refusing n) e = cc
      go (advancing t) e = refl

  pub accepted_finite : (step_of s m dt).outcome ≡ gives tt → finite_state (step_of s m dt).value ≡ true
  accepted_finite e = rw (accepted_advances e) (accepted_taken e).result_finite

  pub refused_keeps : (n : ℕ) (values : List Float) → (step_of s m dt).outcome ≡ refused n values → (step_of s m dt).value ≡ s
  refused_keeps n values = go answered
    where
      go : {x : Told PreintegratedImu} → Answered s m dt x → x.outcome ≡ refused n values → x.value ≡ s
      go (refusing k) e = refl
      go (advancing t) e = cc

-- ---- the total time

first_of_six : (p q r s t u : Bool) → (p && q && r && s && t && u) ≡ true → p ≡ true
first_of_six true q r s t u h = refl
first_of_six false q r s t u h = absurd (false≢true h)

last_of_four : (p q r s : Bool) → (p && q && r && s) ≡ true → s ≡ true
last_of_four true true true s h = h
last_of_four true true false s h = absurd (false≢true h)
last_of_four true false r s h = absurd (false≢true h)
last_of_four false q r s h = absurd (false≢true h)

pub finite_time : (s : PreintegratedImu) → finite_state s ≡ true → finite s.dt ≡ true
unfolding finite_state finite_motion
finite_time s h =
    last_of_four (finite_matrix s.delta_rotation) (finite_vector s.delta_velocity) (finite_vector s.delta_position) (finite s.dt)
    (first_of_six (finite_motion s) (finite_bias s.bias) (finite_calib s.calib) (all_finite s.covariance) (all_finite s.bias_covariance) (finite_jacobians s) h)

zero_finite : finite +0 ≡ true
unfolding Ieee.of_bits
zero_finite = refl

-- a sum with a number that is not below 0 is not below the other number, where that is an f64
pub not_below_sum : (x y : Float) → T (fits binary64 x) → finite x ≡ true → finite y ≡ true → (y <ᶠ +0) ≡ false → (x ≤ᶠ x ⊕ y) ≡ true
unfolding Ieee.of_bits
not_below_sum x y f p q h =
    let up : (+0 ≤ᶠ y) ≡ true = not_below y +0 (finite_no_nan y q) (finite_no_nan +0 zero_finite) h in
    rw (⊕-commutes x y) (≤ᶠ-transitive x (+0 ⊕ x) (y ⊕ x) (zero_plus x (signed false refl) f p).at_least (⊕-monotone +0 y x zero_finite q p up))

pub advanced_no_earlier : (s : PreintegratedImu) (m : ImuMeasurement) (dt : Float) → T (fits binary64 s.dt) → Taken s m dt → (s.dt ≤ᶠ (advanced s m dt).dt) ≡ true
unfolding advanced advanced_by advanced_with
advanced_no_earlier s m dt f t = not_below_sum s.dt dt f (finite_sum s.dt dt (finite_time (advanced s m dt) t.result_finite)).0 t.time_finite t.not_before

pub time_never_falls : (s : PreintegratedImu) (m : ImuMeasurement) (dt : Float) → T (fits binary64 s.dt) → (step_of s m dt).outcome ≡ gives tt → (s.dt ≤ᶠ (step_of s m dt).value.dt) ≡ true
time_never_falls s m dt f e = rw (accepted_advances s m dt e) (advanced_no_earlier s m dt f (accepted_taken s m dt e))
