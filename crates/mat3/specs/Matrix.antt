-- 3×3 matrices of f64: nine numbers, column by column. 01, Composing planar motions: "Products add k = 0, 1, 2 in that order".
use Rattle.std.specs.Prelude.{ℕ, ◌+◌, ◌*◌, Bool, ◌&&◌, List, [], ◌∷◌, get_or, Float}
use Rattle.std.specs.Float.{nan}
use Rattle.number.specs.Float.{◌⊕◌, ◌⊖◌, ◌⊗◌, −◌}
use Rattle.number.specs.Constants.{one}
use Rattle.number.specs.Constants.{zero as +0}
use Rattle.vec3.specs.Vector.{coordinate, vector, finite_vector}

-- ---- nine numbers by row and column

-- what stands in row i and column j
abbrev pub entry : List Float → ℕ → ℕ → Float
entry m i j = get_or m (i + 3 * j) nan

-- the nine numbers f row column, column by column
abbrev pub matrix : (ℕ → ℕ → Float) → List Float
matrix f = f 0 0 ∷ f 1 0 ∷ f 2 0 ∷ f 0 1 ∷ f 1 1 ∷ f 2 1 ∷ f 0 2 ∷ f 1 2 ∷ f 2 2 ∷ []

-- the same from three rows, as they are printed
abbrev pub rows : Float → Float → Float → Float → Float → Float → Float → Float → Float → List Float
rows a00 a01 a02 a10 a11 a12 a20 a21 a22 = a00 ∷ a10 ∷ a20 ∷ a01 ∷ a11 ∷ a21 ∷ a02 ∷ a12 ∷ a22 ∷ []

-- ---- sums and products

abbrev pub product : List Float → List Float → List Float
product a b = matrix (λ i j. entry a i 0 ⊗ entry b 0 j ⊕ entry a i 1 ⊗ entry b 1 j ⊕ entry a i 2 ⊗ entry b 2 j)

abbrev pub transform : List Float → List Float → List Float
transform a v = vector (λ i. entry a i 0 ⊗ coordinate v 0 ⊕ entry a i 1 ⊗ coordinate v 1 ⊕ entry a i 2 ⊗ coordinate v 2)

abbrev pub transpose : List Float → List Float
transpose a = matrix (λ i j. entry a j i)

abbrev pub sum : List Float → List Float → List Float
sum a b = matrix (λ i j. entry a i j ⊕ entry b i j)

abbrev pub difference : List Float → List Float → List Float
difference a b = matrix (λ i j. entry a i j ⊖ entry b i j)

abbrev pub scaled : List Float → Float → List Float
scaled a s = matrix (λ i j. entry a i j ⊗ s)

-- column j as three numbers
abbrev pub column : List Float → ℕ → List Float
column m j = vector (λ i. entry m i j)

-- three columns side by side
abbrev pub columns : List Float → List Float → List Float → List Float
columns a b c = matrix (λ i j. coordinate (get_or (a ∷ b ∷ c ∷ []) j []) i)

-- ---- matrices that are named

abbrev pub zeros : List Float
zeros = rows +0 +0 +0 +0 +0 +0 +0 +0 +0

abbrev pub diagonal : Float → Float → Float → List Float
diagonal a b c = rows a +0 +0 +0 b +0 +0 +0 c

abbrev pub identity : List Float
identity = diagonal one one one

-- the cross product with (x, y, z) as a matrix
abbrev pub hat : Float → Float → Float → List Float
hat x y z = rows +0 (− z) y z +0 (− x) (− y) x +0

-- 01, Composing planar motions: "Yaw is rows (c, −s, 0), (s, c, 0), (0, 0, 1)."
abbrev pub yaw : Float → Float → List Float
yaw s c = rows c (− s) +0 s c +0 +0 +0 one

-- ---- no infinity and no NaN

abbrev pub finite_matrix : List Float → Bool
finite_matrix m = finite_vector (column m 0) && finite_vector (column m 1) && finite_vector (column m 2)
