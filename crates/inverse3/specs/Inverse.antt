-- 01, Information of wheel factors: "The determinant expands along row 0; the inverse is the adjugate times 1/det."
use Rattle.std.specs.Prelude.{ℕ, ◌+◌, ◌%◌, List, Float}
use Rattle.number.specs.Float.{◌⊕◌, ◌⊖◌, ◌⊗◌, ◌⊘◌}
use Rattle.number.specs.Constants.{one}
use Rattle.mat3.specs.Matrix.{entry, matrix, scaled}

abbrev pub determinant : List Float → Float
determinant m =
    entry m 0 0 ⊗ (entry m 1 1 ⊗ entry m 2 2 ⊖ entry m 1 2 ⊗ entry m 2 1)
    ⊖ entry m 0 1 ⊗ (entry m 1 0 ⊗ entry m 2 2 ⊖ entry m 1 2 ⊗ entry m 2 0)
    ⊕ entry m 0 2 ⊗ (entry m 1 0 ⊗ entry m 2 1 ⊖ entry m 1 1 ⊗ entry m 2 0)

-- What is left of m without row i and column j, as a difference of two products. Rows and columns are counted round, after 2 comes 0,
-- which has the two products change places where i + j is odd.
abbrev pub cofactor : List Float → ℕ → ℕ → Float
cofactor m i j =
    entry m ((i + 1) % 3) ((j + 1) % 3) ⊗ entry m ((i + 2) % 3) ((j + 2) % 3)
    ⊖ entry m ((i + 1) % 3) ((j + 2) % 3) ⊗ entry m ((i + 2) % 3) ((j + 1) % 3)

abbrev pub adjugate : List Float → List Float
adjugate m = matrix (λ i j. cofactor m j i)

abbrev pub inverse : List Float → List Float
inverse m = scaled (adjugate m) (one ⊘ determinant m)
