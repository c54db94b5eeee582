-- A call that is refused gives back the state that came, wherever it is refused; and what becomes of the kept values: each test either refuses, and then the state
-- is the one that came, or leads on to a state whose kept values are those that came, or new ones beside new settings. Assumes nothing.
use Prim.Native.Nat.{ℕ}
use mathlib.Core.Path.{◌≡◌, refl, sym, ap}
use mathlib.Core.Bool.{Bool, true, false, not, ◌&&◌}
use mathlib.Core.List.{List}
use lib.Dec.{eqb}
use lib.Ieee.{Float}
use Rattle.number.specs.Float.{◌when◌else◌}
use Rattle.number.specs.Said.{Said, gives, refused, Told, accepts, refuses}
use Rattle.number.proofs.Cases.{refused_not_given}
use Rattle.drive.specs.declared.DifferentialDrive.{DifferentialDrive}
use Rattle.drive.specs.declared.WheelNoise.{WheelNoise}
use Rattle.drive.specs.declared.WheelMeasurement.{WheelMeasurement}
use Rattle.drive.specs.Drive.{valid_drive}
use Rattle.drive.specs.Noise.{valid_noise}
use Rattle.kept.specs.declared.KeptValues.{KeptValues}
use Rattle.planar.specs.Motion.{heading}
use Rattle.step_order.specs.Order.{interval_fits, reading_fits, result_fits}
use Rattle.std.specs.Prelude.{Option, None, Some}
use Rattle.wheel.specs.declared.WheelPreintegration.{WheelPreintegration}
use Rattle.wheel.specs.Integrator.{settings, make_of, changed, change_of, moved, Kept}
use Rattle.wheel.specs.Step.{interval_by, advanced_by, after, step_from, step_by, step_of, step_afresh, unless_refused}
use Rattle.wheel.specs.Statements.{Statements}
use Rattle.wheel.proofs.Making.{made}

-- ---- what a call answers: it refuses and the state is s, or it accepts and P holds of the state

pub data Answers (s : WheelPreintegration) (P : WheelPreintegration → Type 0) : Told WheelPreintegration → Type 0 where
  same : (n : ℕ) (values : List Float) → Answers s P (record { outcome = refused n values; value = s })
  next : (v : WheelPreintegration) → P v → Answers s P (accepts v)

module _ {s : WheelPreintegration} {P : WheelPreintegration → Type 0} where
  unless : (o : Said (Unit {0})) {t : Told WheelPreintegration} → Answers s P t → Answers s P (unless_refused o s t)
  unless (gives u) a = a
  unless (refused n values) a = same n values

  where_true : (n : ℕ) (b : Bool) {t : Told WheelPreintegration} → (b ≡ false → Answers s P t) → Answers s P (refuses n s when b else t)
  where_true n true a = same n _
  where_true n false a = a refl

  refusing : {t : Told WheelPreintegration} → Answers s P t → (n : ℕ) (values : List Float) → t.outcome ≡ refused n values → t.value ≡ s
  refusing (same r vs) n values e = refl
  refusing (next v p) n values e = absurd (refused_not_given (sym e))

  either : {t : Told WheelPreintegration} (Q : WheelPreintegration → Type 0) → Q s → ((v : WheelPreintegration) → P v → Q v) → Answers s P t → Q t.value
  either Q q f (same n values) = q
  either Q q f (next v p) = f v p

-- ---- a step

abbrev KeptOf : WheelPreintegration → WheelPreintegration → Type 0
KeptOf s v = (v.settings ≡ s.settings) × (v.kept ≡ s.kept)

module _ (kept : KeptValues) (s : WheelPreintegration) (m : WheelMeasurement) where
  after_answers : (last : Option WheelMeasurement) → Answers s (KeptOf s) (after kept last s m)
  unfolding step_from
  after_answers None = next (moved s s.accumulated m) (refl, refl)
  after_answers (Some last) =
      let a = advanced_by kept s last m in
      unless (interval_fits (heading s.accumulated.motion) last m (interval_by kept s last m)) (unless (result_fits a) (next (moved s a m) (refl, refl)))

  step_answers : Answers s (KeptOf s) (step_by kept s m)
  step_answers = unless (reading_fits s.settings.drive s.settings.noise m) (after_answers s.last)

kept_stepped : (s : WheelPreintegration) (m : WheelMeasurement) → Kept s → Kept (step_of s m).value
unfolding step_of
kept_stepped s m k = either Kept k (λ v p. rw (p.0, p.1) k) (step_answers s.kept s m)

as_afresh : (s : WheelPreintegration) (m : WheelMeasurement) → Kept s → step_of s m ≡ step_afresh s m
unfolding step_of step_afresh
as_afresh s m k = ap (λ (kept : KeptValues). step_by kept s m) k

-- ---- a change

-- what an accepted one makes of s, and what was found on the way
pub record Changed (s : WheelPreintegration) (d : DifferentialDrive) (n : WheelNoise) (v : WheelPreintegration) : Type 0 where
  pub is : v ≡ changed s (settings d n)
  pub noise : valid_noise n ≡ true
  pub drive : (valid_drive d && eqb d.counter_width s.settings.drive.counter_width) ≡ true

module _ (s : WheelPreintegration) (d : DifferentialDrive) (n : WheelNoise) where
  true_of : (b : Bool) → not b ≡ false → b ≡ true
  true_of true e = refl
  true_of false e = sym e

  pub change_answers : Answers s (Changed s d n) (change_of s d n)
  unfolding change_of
  change_answers =
      let test = valid_drive d && eqb d.counter_width s.settings.drive.counter_width in
      where_true 6 (not (valid_noise n)) (λ p. where_true 7 (not test) (λ q. next (changed s (settings d n)) (record { is = refl; noise = true_of (valid_noise n) p; drive = true_of test q })))

  kept_changed : Kept s → Kept (change_of s d n).value
  kept_changed k = either Kept k (λ v c. rw c.is refl) change_answers

-- ---- making

kept_made : (d : DifferentialDrive) (n : WheelNoise) (s : WheelPreintegration) → make_of d n ≡ accepts s → Kept s
kept_made d n s e = rw (made d n s e).0 refl

pub statements : Statements
unfolding step_of
statements = record {
  refused_keeps = λ s m. refusing (step_answers s.kept s m);
  refused_change_keeps = λ s d noise. refusing (change_answers s d noise);
  kept_made = kept_made;
  kept_restarted = λ s k. k;
  kept_changed = kept_changed;
  kept_stepped = kept_stepped;
  as_afresh = as_afresh;
}
