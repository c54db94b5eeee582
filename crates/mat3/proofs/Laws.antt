-- A matrix plus its transpose is exactly symmetric, since a sum of two floats does not turn on their order; sums and multiples of what is symmetric are.
-- Assumes nothing.
use mathlib.Core.Path.{◌≡◌}
use mathlib.Core.List.{List}
use lib.Ieee.{Float}
use Rattle.number.proofs.float.Commute.{⊕-commutes}
use Rattle.mat3.specs.Matrix.{entry, matrix, transpose, sum, scaled}

abbrev pub Symmetric : List Float → Type 0
Symmetric m = transpose m ≡ m

pub plus_transpose_symmetric : (m : List Float) → Symmetric (sum m (transpose m))
plus_transpose_symmetric m = λ k. matrix (λ i j. ⊕-commutes (entry m j i) (entry m i j) k)

pub sum_symmetric : (a b : List Float) → Symmetric a → Symmetric b → Symmetric (sum a b)
sum_symmetric a b p q = λ k. sum (p k) (q k)

pub scaled_symmetric : (a : List Float) (s : Float) → Symmetric a → Symmetric (scaled a s)
scaled_symmetric a s p = λ k. scaled (p k) s
