-- When two still factors are joined, and what their join is: each test that a composition passes is read back from its being given. Of two sigmas that
-- are finite and above 0 neither is a NaN, so the larger is one of them and below neither. Assumes nothing.
use mathlib.Core.Path.{◌≡◌, refl, sym}
use mathlib.Core.Logic.{inl, inr}
use mathlib.Core.Bool.{Bool, true, false, cond, not, ◌&&◌, ◌||◌, and-eq-true_iff, false≢true}
use lib.Dec.{eqb}
use lib.Ieee.{Float, is_nan}
use borrow.Author.Tests.{eq-eqb}
use Rattle.number.specs.Float.{finite, larger, ◌⊕◌, ◌<ᶠ◌, ◌≤ᶠ◌, ◌when◌else◌}
use Rattle.number.specs.Fit.{finite_positive}
use Rattle.std.proofs.Common.{arith}
use Rattle.number.specs.Said.{gives, refusal}
use Rattle.number.proofs.float.Order.{<ᶠ-irreflexive}
use Rattle.number.proofs.float.Monotone.{<ᶠ-≤ᶠ, not_below, finite_no_nan}
use Rattle.stationary.specs.declared.StationaryFactor.{StationaryFactor}
use Rattle.stationary.specs.Factor.{valid_factor, valid_sigmas}
use Rattle.stationary.specs.Join.{compose_of, finite_gyro, joined_factor, joined_gyro}
use Rattle.stationary.specs.Statements.{Looser, Joins}

-- ---- which answer

-- Of valid factors at a shared index: 10 where the ends coincide, else 2 where the new span, mean or covered time is not finite, else the joined factor.
pub composed_at_shared_index : (a b : StationaryFactor) → valid_factor a ≡ true → valid_factor b ≡ true → a.to_idx ≡ b.from_idx
    → compose_of a b ≡
    (refusal 10 when eqb a.from_idx b.to_idx else
    refusal 2 when not (finite (a.span_s ⊕ b.span_s) && finite_gyro (joined_gyro a.gyro b.gyro)) else
    gives (joined_factor a b))
unfolding compose_of joined_factor
composed_at_shared_index a b p q e = simp (p, q, eq-eqb a.to_idx b.from_idx e)

-- ---- the sigmas

fit_no_nan : (x : Float) → finite_positive x ≡ true → is_nan x ≡ false
unfolding finite_positive
fit_no_nan x h = finite_no_nan x ((and-eq-true_iff (finite x) _).0 h).0

fit_within : (x : Float) → finite_positive x ≡ true → (x ≤ᶠ x) ≡ true
fit_within x h = not_below x x (fit_no_nan x h) (fit_no_nan x h) (<ᶠ-irreflexive x)

larger_looser : (x y : Float) → finite_positive x ≡ true → finite_positive y ≡ true → Looser x y (larger x y)
unfolding larger
larger_looser x y p q = go (x <ᶠ y) (is_nan x) refl (fit_no_nan x p)
  where
    go : (o n : Bool) → (x <ᶠ y) ≡ o → n ≡ false → Looser x y (cond (o || n) y x)
    go true n e m = record { fit = q; one_of_two = inr refl; first_within = <ᶠ-≤ᶠ x y e; second_within = fit_within y q }
    go false true e m = absurd (false≢true (sym m))
    go false false e m = record { fit = p; one_of_two = inl refl; first_within = fit_within x p; second_within = not_below x y (fit_no_nan x p) (fit_no_nan y q) e }

-- what a valid factor's sigmas are
record Sigmas (f : StationaryFactor) : Type 0 where
  translation : finite_positive f.translation_sigma_m ≡ true
  rotation : finite_positive f.rotation_sigma_rad ≡ true
  velocity : finite_positive f.velocity_sigma_m_s ≡ true

valid_sigmas_lem : (f : StationaryFactor) → valid_factor f ≡ true → Sigmas f
unfolding valid_factor valid_sigmas
valid_sigmas_lem f h = record { translation = grind arith; rotation = grind arith; velocity = grind arith }

-- ---- the join

pub composition_joins : (a b f : StationaryFactor) → compose_of a b ≡ gives f → Joins a b f
unfolding compose_of joined_factor
composition_joins a b f h =
    let joined : f ≡ joined_factor a b = grind arith in
    let first : valid_factor a ≡ true = grind arith in
    let second : valid_factor b ≡ true = grind arith in
    let s = valid_sigmas_lem a first in
    let t = valid_sigmas_lem b second in
    rw joined (record {
      first_valid = first;
      second_valid = second;
      meet = grind arith;
      first_start_kept = refl;
      last_end_kept = refl;
      ends_apart = grind arith;
      spans_add = refl;
      span_finite = grind arith;
      gyro_joined = refl;
      gyro_finite = grind arith;
      first_calibration_kept = refl;
      limits_joined = refl;
      translation_looser = larger_looser a.translation_sigma_m b.translation_sigma_m s.translation t.translation;
      rotation_looser = larger_looser a.rotation_sigma_rad b.rotation_sigma_rad s.rotation t.rotation;
      velocity_looser = larger_looser a.velocity_sigma_m_s b.velocity_sigma_m_s s.velocity t.velocity;
    })
