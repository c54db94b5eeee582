-- 01, Composing planar motions: "Formulas as in `compose`."
use Rattle.std.specs.Prelude.{not, ◌&&◌, ◌||◌, List, [], ◌∷◌, Float, Result}
use Rattle.number.specs.Float.{◌⊕◌, ◌⊖◌, −◌, ◌<ᶠ◌, ◌≤ᶠ◌, ◌when◌else◌}
use Rattle.number.specs.Constants.{half, one, PI, TAU}
use Rattle.number.specs.Constants.{zero as +0}
use Rattle.number.specs.Said.{Told, told_result, accepts, refuses}
use Rattle.sincos.specs.declared.Refusal.{Refusal}
use Rattle.sincos.specs.Refusals.{row_of}
use Rattle.sincos.specs.Turn.{turn_of, above_four}
use Rattle.mat3.specs.Matrix.{rows, yaw, product, transform, transpose, sum, scaled}
use Rattle.vec3.specs.Vector.{coordinate}
use Rattle.planar.specs.declared.PlanarMotion.{PlanarMotion}
use Rattle.planar.specs.Motion.{dx, dy, heading, identity, finite_motion}

-- "The heading sum S is kept when −PI ≤ S ≤ PI, else TAU is taken off or added once."
unfoldable pub wrapped : Float → Float
wrapped S =
    S when (− PI ≤ᶠ S && S ≤ᶠ PI) else
    (S ⊖ TAU) when PI <ᶠ S else
    (S ⊕ TAU)

-- the yaw of a heading
unfoldable pub turn_matrix : Float → List Float
turn_matrix θ = yaw (turn_of θ).sin (turn_of θ).cos

-- a translation in the axes before the turn: yaw times (x, y, 0)
unfoldable pub shifted : Float → Float → Float → List Float
shifted θ x y = transform (turn_matrix θ) (x ∷ y ∷ +0 ∷ [])

-- how the composed motion moves with the first: rows (1, 0, −ty), (0, 1, tx), (0, 0, 1)
abbrev pub first_jacobian : Float → Float → List Float
first_jacobian tx ty = rows one +0 (− ty) +0 one tx +0 +0 one

-- "a triple product goes left to right": J · Σ · Jᵀ
unfoldable pub carried : List Float → List Float → List Float
carried J Σ = product (product J Σ) (transpose J)

-- "The covariance is ((A+Aᵀ)+(B+Bᵀ))·0.5."
unfoldable pub symmetrized : List Float → List Float → List Float
symmetrized A B = scaled (sum (sum A (transpose A)) (sum B (transpose B))) half

unfoldable pub composed : PlanarMotion → PlanarMotion → PlanarMotion
composed a b =
    let t = shifted (heading a) (dx b) (dy b) in
    record {
      delta = (dx a ⊕ coordinate t 0) ∷ (dy a ⊕ coordinate t 1) ∷ wrapped (heading a ⊕ heading b) ∷ [];
      covariance = symmetrized (carried (first_jacobian (coordinate t 0) (coordinate t 1)) a.covariance) (carried (turn_matrix (heading a)) b.covariance);
    }

-- no motion comes with a refusal: 01's "no matrix"
abbrev pub told_composed : Result PlanarMotion Refusal → Told PlanarMotion
told_composed r = told_result row_of identity r

-- "Public composing refuses 2 for any input not finite, then 8 for a heading above 4 in size, then 2 for the result."
unfoldable pub compose_of : PlanarMotion → PlanarMotion → Told PlanarMotion
compose_of a b =
    refuses 2 identity when not (finite_motion a && finite_motion b) else
    refuses 8 identity when (above_four (heading a) || above_four (heading b)) else
    refuses 2 identity when not (finite_motion (composed a b)) else
    accepts (composed a b)
