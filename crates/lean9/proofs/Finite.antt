-- A list is finite where each of its numbers is, a matrix by row and column, and a sum is finite only where each of its terms is. Assumes nothing.
use mathlib.Core.Path.{◌≡◌, refl, sym, ap, ◌∙◌}
use mathlib.Core.Bool.{Bool, true, false, true≢false}
use mathlib.Core.List.{List, [], ◌∷◌}
use mathlib.Core.Logic.{◌⊎◌, inl, inr}
use Prim.Native.Nat.{ℕ, zero, suc, ◌+◌, ◌*◌, ◌/◌, ◌%◌, ◌<◌}
use native.Mathlib.Nat.{le_of_suc-le-suc, eq-or-lt_of_le, mod-add-div'}
use native.Mathlib.Omega.{arith}
use lib.ListN.{length, get_or}
use lib.Ieee.{Float, nan}
use Rattle.number.specs.Float.{finite, ◌⊕◌, ◌when◌else◌}
use Rattle.number.proofs.Tabulated.{tabulated_length}
use Rattle.number.proofs.float.Parts.{finite_sum}
use Rattle.number.proofs.float.PlusZero.{both}
use Rattle.mat9.specs.Matrix.{all_finite, entry, matrix}
use Rattle.mat9.proofs.Loops.{cell, entry_matrix, within}
use Rattle.lean9.specs.Inside.Lean.{kept_sum}

-- ---- a list, and a matrix

all_finite_at : (m : List Float) (n : ℕ) → all_finite m ≡ true → n < length m → finite (get_or m n nan) ≡ true
unfolding all_finite
all_finite_at [] n f h = let none : ⊥ = omega arith in absurd none
all_finite_at (x ∷ xs) zero f h = (both (finite x) (all_finite xs) f).0
all_finite_at (x ∷ xs) (suc n) f h = all_finite_at xs n (both (finite x) (all_finite xs) f).1 (omega arith)

all_finite_lem : (m : List Float) → ((n : ℕ) → n < length m → finite (get_or m n nan) ≡ true) → all_finite m ≡ true
unfolding all_finite
all_finite_lem [] f = refl
all_finite_lem (x ∷ xs) f = rw (f 0 (omega arith), all_finite_lem xs (λ n h. f (suc n) (omega arith)))

pub matrix_length : (rows cols : ℕ) (f : ℕ → ℕ → Float) → length (matrix rows cols f) ≡ rows * cols
unfolding matrix
matrix_length rows cols f = tabulated_length (cell rows f) (rows * cols)

-- the numbers of nine rows and so many columns
abbrev pub FiniteIn : (cols : ℕ) → List Float → Type 0
FiniteIn cols m = (i j : ℕ) → i < 9 → j < cols → finite (entry 9 m i j) ≡ true

pub entries_finite : (cols : ℕ) (m : List Float) → length m ≡ 9 * cols → FiniteIn cols m → all_finite m ≡ true
entries_finite cols m l f = all_finite_lem m (λ n h. rw (mod-add-div' n 9) at (f (n % 9) (n / 9) (omega arith) (omega arith)))

pub matrix_finite : {rows cols i j : ℕ} (f : ℕ → ℕ → Float) → all_finite (matrix rows cols f) ≡ true → i < rows → j < cols → finite (f i j) ≡ true
matrix_finite {rows} {cols} {i} {j} f h g k =
    rw (entry_matrix f g k) at (all_finite_at (matrix rows cols f) (i + j * rows) h (rw (matrix_length rows cols f) (within g k)))

-- ---- a sum of the terms that are kept

pub kept_finite : (n : ℕ) (keep : ℕ → Bool) (f : ℕ → Float) → finite (kept_sum n keep f) ≡ true → (k : ℕ) → k < n → keep k ≡ true → finite (f k) ≡ true
unfolding kept_sum
kept_finite zero keep f h k i e = let none : ⊥ = omega arith in absurd none
kept_finite (suc n) keep f h k i e = go (λ s l. kept_finite n keep f s k l e) (eq-or-lt_of_le (le_of_suc-le-suc i)) (keep n) refl h
  where
    go : (finite (kept_sum n keep f) ≡ true → k < n → finite (f k) ≡ true) → (k ≡ n) ⊎ (k < n) → (p : Bool) → keep n ≡ p
        → finite (kept_sum n keep f ⊕ f n when p else kept_sum n keep f) ≡ true → finite (f k) ≡ true
    go earlier (inl l) true q s = rw l (finite_sum (kept_sum n keep f) (f n) s).1
    go earlier (inl l) false q s = absurd (true≢false (sym e ∙ ap keep l ∙ q))
    go earlier (inr l) true q s = earlier (finite_sum (kept_sum n keep f) (f n) s).0 l
    go earlier (inr l) false q s = earlier s l
