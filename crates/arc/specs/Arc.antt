-- 01, The wheel step: "`se2_exp` uses the file's series where |w| is below 1e-3 and the closed forms from 1e-3 on."
use Rattle.std.specs.Prelude.{List, [], ◌∷◌, Float}
use Rattle.number.specs.Float.{◌⊕◌, ◌⊖◌, ◌⊗◌, ◌⊘◌, −◌, ◌<ᶠ◌, ◌when◌else◌, size}
use Rattle.number.specs.Constants.{half, one, c2, c3, c6, c8, c24, c30, c120, c144, c1e-3}
use Rattle.number.specs.Constants.{zero as +0}
use Rattle.sincos.specs.Turn.{turn_of}
use Rattle.mat3.specs.Matrix.{rows}
use Rattle.arc.specs.declared.Coefficients.{Coefficients}
use Rattle.arc.specs.declared.Arc.{Arc}
use Rattle.planar.specs.declared.PlanarMotion.{PlanarMotion}
use Rattle.planar.specs.Compose.{carried}

-- A = sin w / w, B = (1 − cos w) / w, and their derivatives in w
unfoldable pub series : Float → Coefficients
series w =
    let w2 = w ⊗ w in
    record {
      a = one ⊖ w2 ⊘ c6 ⊕ w2 ⊗ w2 ⊘ c120;
      b = w ⊘ c2 ⊖ w ⊗ w2 ⊘ c24;
      da = (− w) ⊘ c3 ⊕ w ⊗ w2 ⊘ c30;
      db = half ⊖ w2 ⊘ c8 ⊕ w2 ⊗ w2 ⊘ c144;
    }

unfoldable pub closed_forms : Float → Coefficients
closed_forms w =
    let s = (turn_of w).sin in
    let c = (turn_of w).cos in
    let a = s ⊘ w in
    let b = (one ⊖ c) ⊘ w in
    record { a = a; b = b; da = (c ⊖ a) ⊘ w; db = (s ⊖ b) ⊘ w }

unfoldable pub coefficients_of : Float → Coefficients
coefficients_of w =
    series w when size w <ᶠ c1e-3 else
    closed_forms w

-- The motion of holding the twist increment (x, y, w): where it ends, and its Jacobian, with rows (A, −B, A'x − B'y), (B, A, B'x + A'y), (0, 0, 1).
unfoldable pub se2_exp : Float → Float → Float → Arc
se2_exp x y w =
    let k = coefficients_of w in
    record {
      delta = (k.a ⊗ x ⊖ k.b ⊗ y) ∷ (k.b ⊗ x ⊕ k.a ⊗ y) ∷ w ∷ [];
      jacobian = rows
          k.a (− k.b) (k.da ⊗ x ⊖ k.db ⊗ y)
          k.b k.a (k.db ⊗ x ⊕ k.da ⊗ y)
          +0 +0 one;
    }

-- 01, The wheel step: "One increment by `se2_exp` .., its covariance Jac·(rate noise·h)·Jacᵀ"
unfoldable pub increment_of : Float → Float → Float → List Float → PlanarMotion
increment_of x y w q = record { delta = (se2_exp x y w).delta; covariance = carried (se2_exp x y w).jacobian q }
