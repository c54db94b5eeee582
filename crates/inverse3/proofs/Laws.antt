-- The inverse of an exactly symmetric matrix is exactly symmetric, since a product of two floats does not turn on their order. Assumes nothing.
use mathlib.Core.Path.{◌≡◌, ap, ◌∙◌}
use Prim.Native.Nat.{◌+◌, ◌%◌}
use mathlib.Core.List.{List}
use lib.Ieee.{Float}
use Rattle.number.specs.Constants.{one}
use Rattle.number.specs.Float.{◌⊖◌, ◌⊗◌, ◌⊘◌}
use Rattle.number.proofs.float.Commute.{⊗-commutes}
use Rattle.mat3.specs.Matrix.{entry, matrix, transpose}
use Rattle.mat3.proofs.Laws.{Symmetric, scaled_symmetric}
use Rattle.inverse3.specs.Inverse.{determinant, adjugate, inverse}

-- across the diagonal a cofactor has the factors of its second product the other way round
transpose_adjugate : (m : List Float) → transpose (adjugate m) ≡ adjugate (transpose m)
transpose_adjugate m =
    λ k. matrix (λ i j. entry m ((i + 1) % 3) ((j + 1) % 3) ⊗ entry m ((i + 2) % 3) ((j + 2) % 3) ⊖ ⊗-commutes (entry m ((i + 1) % 3) ((j + 2) % 3)) (entry m ((i + 2) % 3) ((j + 1) % 3)) k)

pub inverse_symmetric : (m : List Float) → Symmetric m → Symmetric (inverse m)
inverse_symmetric m p = scaled_symmetric (adjugate m) (one ⊘ determinant m) (transpose_adjugate m ∙ ap adjugate p)
