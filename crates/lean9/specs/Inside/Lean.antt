-- The products of the inertial step, of which one factor is mostly zeros, without what meets a zero.
use Rattle.std.specs.Prelude.{ℕ, zero, suc, ◌+◌, Bool, ◌||◌, List, eqb, ltb, Float}
use Rattle.std.specs.Bool.{beq}
use Rattle.number.specs.Float.{◌⊕◌, ◌⊗◌, ◌when◌else◌}
use Rattle.number.specs.Constants.{zero as +0}
use Rattle.mat9.specs.Matrix.{entry, matrix, sum}

-- ---- sums and products of the terms that are kept

-- 0 ⊕ f 0 ⊕ f 1 ⊕ .. ⊕ f (n − 1), from the left, of those f k that `keep k` names
unfoldable pub kept_sum : ℕ → (keep : ℕ → Bool) → (ℕ → Float) → Float
kept_sum zero keep f = +0
kept_sum (suc n) keep f = kept_sum n keep f ⊕ f n when keep n else kept_sum n keep f

-- the product of two matrices that are given by row and column, of the terms that `keep row column` names
abbrev pub kept_entry : (inner : ℕ) → (keep : ℕ → ℕ → ℕ → Bool) → (a b : ℕ → ℕ → Float) → ℕ → ℕ → Float
kept_entry inner keep a b i j = kept_sum inner (keep i j) (λ k. a i k ⊗ b k j)

unfoldable pub kept_product : (rows inner cols : ℕ) → (keep : ℕ → ℕ → ℕ → Bool) → (a b : ℕ → ℕ → Float) → List Float
kept_product rows inner cols keep a b = matrix rows cols (kept_entry inner keep a b)

-- ---- which places of the step's matrices may hold anything but a zero

-- of A: columns 0 to 2 whole, the diagonal, and the places three rows below the diagonal
abbrev pub kept_in_step : ℕ → ℕ → Bool
kept_in_step r k = ltb k 3 || (eqb r k || eqb r (k + 3))

-- of B: rows 0 to 2 of columns 0 to 2, and the rows from 3 on of the columns from 3 on
abbrev pub kept_in_noise : ℕ → ℕ → Bool
kept_in_noise r k = beq (ltb r 3) (ltb k 3)

-- ---- A·C·Aᵀ + B·N·Bᵀ

-- what row i of m and row j of a give at k: a term of m · aᵀ
abbrev pub term : (m a : List Float) → (i j k : ℕ) → Float
term m a i j k = entry 9 m i k ⊗ entry 9 a j k

-- three terms from k on
abbrev pub three_from : (k : ℕ) → (ℕ → Float) → Float
three_from k f = +0 ⊕ f k ⊕ f (k + 1) ⊕ f (k + 2)

unfoldable pub step_times : (A C : List Float) → List Float
step_times A C = kept_product 9 9 9 (λ i j. kept_in_step i) (entry 9 A) (entry 9 C)

unfoldable pub times_step_transposed : (M A : List Float) → List Float
times_step_transposed M A = kept_product 9 9 9 (λ i j. kept_in_step j) (entry 9 M) (λ k j. entry 9 A j k)

unfoldable pub noise_times_diagonal : (B N : List Float) → List Float
noise_times_diagonal B N = kept_product 9 6 6 (λ i j k. eqb k j) (entry 9 B) (entry 6 N)

unfoldable pub times_noise_transposed : (T B : List Float) → List Float
times_noise_transposed T B = kept_product 9 6 9 (λ i j. kept_in_noise j) (entry 9 T) (λ k j. entry 9 B j k)

unfoldable pub lean_carried : (A C B N : List Float) → List Float
lean_carried A C B N = sum 9 9 (times_step_transposed (step_times A C) A) (times_noise_transposed (noise_times_diagonal B N) B)
