-- 01, Inertial accumulation: "Exp = I + A·H + B·H², right Jacobian = I − B·H + C·H², with H the hat matrix." A turn is given by three numbers v:
-- its axis times its angle θ.
use Rattle.std.specs.Prelude.{List, Float}
use Rattle.number.specs.Float.{◌⊕◌, ◌⊖◌, ◌⊗◌, ◌⊘◌, ◌<ᶠ◌, ◌when◌else◌}
use Rattle.number.specs.Constants.{half, one, c6, c24, c120, c720, c5040, c1e-6}
use Rattle.root.specs.Root.{sqrt_of}
use Rattle.root.specs.Root.{or_nan}
use Rattle.sincos.specs.Turn.{turn_of}
use Rattle.mat3.specs.Matrix.{hat, identity, product, sum, difference, scaled, column, columns}
use Rattle.vec3.specs.Vector.{coordinate, dot, cross, vector_difference, vector_scaled}
use Rattle.rotation.specs.declared.Coefficients.{Coefficients}
use Rattle.rotation.specs.declared.Increment.{Increment}

-- "θ is the root of x·x+y·y+z·z"
abbrev pub squared_angle : List Float → Float
squared_angle v = dot v v

-- ---- A, B, C

-- "With θ² below 1e-6: A = 1−θ²/6+θ⁴/120, B = 1/2−θ²/24+θ⁴/720, C = 1/6−θ²/120+θ⁴/5040"; "θ⁴ is θ²·θ²"
unfoldable pub series_of : Float → Coefficients
series_of θ² =
    let θ⁴ = θ² ⊗ θ² in
    record {
      a = one ⊖ θ² ⊘ c6 ⊕ θ⁴ ⊘ c120;
      b = half ⊖ θ² ⊘ c24 ⊕ θ⁴ ⊘ c720;
      c = one ⊘ c6 ⊖ θ² ⊘ c120 ⊕ θ⁴ ⊘ c5040;
    }

-- "else sin θ/θ, (1−cos θ)/θ², (θ−sin θ)/θ³; θ² is the sum, .. θ³ is θ²·θ"
unfoldable pub closed_forms : Float → Float → Coefficients
closed_forms θ² θ = record {
  a = (turn_of θ).sin ⊘ θ;
  b = (one ⊖ (turn_of θ).cos) ⊘ θ²;
  c = (θ ⊖ (turn_of θ).sin) ⊘ (θ² ⊗ θ);
}

unfoldable pub coefficients_of : Float → Float → Coefficients
coefficients_of θ² θ =
    series_of θ² when θ² <ᶠ c1e-6 else
    closed_forms θ² θ

-- ---- Exp and the right Jacobian

abbrev pub hat_of : List Float → List Float
hat_of v = hat (coordinate v 0) (coordinate v 1) (coordinate v 2)

unfoldable pub exp_by : Coefficients → List Float → List Float → List Float
exp_by k H H² = sum (sum identity (scaled H k.a)) (scaled H² k.b)

unfoldable pub jacobian_by : Coefficients → List Float → List Float → List Float
jacobian_by k H H² = sum (difference identity (scaled H k.b)) (scaled H² k.c)

-- the angle of a turn, its Exp and its right Jacobian
unfoldable pub increment_of : List Float → Increment
increment_of v =
    let θ² = squared_angle v in
    let θ = or_nan (sqrt_of θ²) in
    let k = coefficients_of θ² θ in
    let H = hat_of v in
    let H² = product H H in
    record { angle = θ; exp = exp_by k H H²; jacobian = jacobian_by k H H² }

-- ---- back onto the rotations, as in `normalize_rotation`

-- "Normalising multiplies by 1 over the root of the squared length."
unfoldable pub unit : List Float → List Float
unit v = vector_scaled v (one ⊘ or_nan (sqrt_of (dot v v)))

-- what is left of v along no part of the unit vector e
unfoldable pub across : List Float → List Float → List Float
across v e = vector_difference v (vector_scaled e (dot v e))

unfoldable pub normalized : List Float → List Float
normalized r =
    let e0 = unit (column r 0) in
    let e1 = unit (across (column r 1) e0) in
    columns e0 e1 (cross e0 e1)
