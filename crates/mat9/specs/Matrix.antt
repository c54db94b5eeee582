-- Matrices of any number of rows and columns: f64 numbers, column by column, as imu.rs stores its 9×9, 9×6 and 6×6 ones.
-- 01, Inertial accumulation: "the 9×9 and 9×6 sums start from 0".
use Rattle.std.specs.Prelude.{ℕ, zero, suc, ◌+◌, ◌*◌, ◌/◌, ◌%◌, Bool, true, ◌&&◌, List, [], ◌∷◌, eqb, ltb, get_or, Float}
use Rattle.std.specs.Float.{nan}
use Rattle.number.specs.Float.{◌⊕◌, ◌⊗◌, ◌when◌else◌, finite}
use Rattle.number.specs.Constants.{zero as +0}
use Rattle.number.specs.Tabulated.{tabulated}
use Rattle.mat3.specs.Matrix.{entry as entry3}

-- ---- by row and column

-- what stands in row i and column j of a matrix of `rows` rows
abbrev pub entry : (rows : ℕ) → List Float → ℕ → ℕ → Float
entry rows m i j = get_or m (i + j * rows) nan

-- the numbers f row column, column by column
unfoldable pub matrix : (rows cols : ℕ) → (ℕ → ℕ → Float) → List Float
matrix rows cols f = tabulated (rows * cols) (λ n. f (n % rows) (n / rows))

-- ---- products and sums

-- 0 ⊕ f 0 ⊕ f 1 ⊕ .. ⊕ f (n − 1), from the left
unfoldable pub sum_from_zero : ℕ → (ℕ → Float) → Float
sum_from_zero zero f = +0
sum_from_zero (suc n) f = sum_from_zero n f ⊕ f n

-- row i of a, which has `rows` rows, times column j of b, which has `inner`
unfoldable pub row_times_column : (rows inner : ℕ) → List Float → List Float → ℕ → ℕ → Float
row_times_column rows inner a b i j = sum_from_zero inner (λ k. entry rows a i k ⊗ entry inner b k j)

-- a, of `rows` rows and `inner` columns, times b, of `inner` rows and `cols` columns
unfoldable pub product : (rows inner cols : ℕ) → List Float → List Float → List Float
product rows inner cols a b = matrix rows cols (row_times_column rows inner a b)

-- a, of `rows` rows and `cols` columns, with its rows for columns
unfoldable pub transposed : (rows cols : ℕ) → List Float → List Float
transposed rows cols a = matrix cols rows (λ i j. entry rows a j i)

unfoldable pub sum : (rows cols : ℕ) → List Float → List Float → List Float
sum rows cols a b = matrix rows cols (λ i j. entry rows a i j ⊕ entry rows b i j)

-- ---- made of parts

-- 3×3 matrices side by side and one below the other, given as they are printed: row by row, `across` of them in each row
unfoldable pub blocks : (down across : ℕ) → List (List Float) → List Float
blocks down across parts = matrix (3 * down) (3 * across) (λ i j. entry3 (get_or parts (i / 3 * across + j / 3) []) (i % 3) (j % 3))

-- a 6×6 matrix with a three times and then b three times on its diagonal, and 0 elsewhere
unfoldable pub diagonal6 : Float → Float → List Float
diagonal6 a b = matrix 6 6 (λ i j. (a when ltb i 3 else b) when eqb i j else +0)

-- a 6×6 matrix with a added three times and then b three times to its diagonal, and all else kept
unfoldable pub diagonal_raised : List Float → Float → Float → List Float
diagonal_raised m a b = matrix 6 6 (λ i j. entry 6 m i j ⊕ (a when ltb i 3 else b) when eqb i j else entry 6 m i j)

-- ---- no infinity and no NaN

unfoldable pub all_finite : List Float → Bool
all_finite [] = true
all_finite (x ∷ xs) = finite x && all_finite xs

-- the diagonal of a 6×6 matrix
unfoldable pub finite_diagonal : List Float → Bool
finite_diagonal m =
    finite (entry 6 m 0 0) && finite (entry 6 m 1 1) && finite (entry 6 m 2 2)
    && finite (entry 6 m 3 3) && finite (entry 6 m 4 4) && finite (entry 6 m 5 5)
