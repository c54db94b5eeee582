-- The covariance without what meets a zero agrees with the whole one: each is finite where the other is, and there they are equal. Where the factor that may be anything
-- is finite, what is left out are zeros, and a sum that starts from +0 is never -0, so that a zero adds nothing, bit for bit. And a product is finite only where that
-- factor is, with terms left out or not: a number of it that is not finite makes no finite term, and each meets a term that is kept, on the diagonal of the other factor.
-- Assumes nothing.
use mathlib.Core.Path.{◌≡◌, refl, sym, ap, ◌∙◌}
use mathlib.Core.Bool.{Bool, true, false, or-true, beq}
use mathlib.Core.List.{List}
use Prim.Native.Nat.{ℕ, zero, suc, ◌*◌, ◌/◌, ◌%◌, ◌<◌, ◌≤◌}
use native.Mathlib.Omega.{arith}
use borrow.Author.Tests.{eq-eqb}
use lib.Dec.{T, eqb, ltb}
use lib.ListN.{length}
use lib.Ieee.{Float, fits, binary64}
use lib.Ieee.Bits.{of_bits-fits}
use lib.Ieee.Fits.{add-fits, mul-fits}
use Rattle.number.specs.Float.{finite, ◌⊕◌, ◌⊗◌, ◌=ᶠ◌, ◌when◌else◌}
use Rattle.number.specs.Constants.{zero as +0}
use Rattle.number.proofs.float.Parts.{finite_product, finite_sum}
use Rattle.number.proofs.float.PlusZero.{not_minus_zero, +0-not_minus_zero, sum_not_minus_zero, plus_zero, times_a_zero, a_zero_times}
use Rattle.number.proofs.float.SameNumber.{Zero}
use Rattle.mat9.specs.Matrix.{all_finite, entry, matrix, product, row_times_column, sum, sum_from_zero, transposed}
use Rattle.mat9.proofs.Loops.{cell, entry_transposed}
use Rattle.lean9.specs.Inside.Lean.{kept_entry, kept_in_noise, kept_in_step, kept_product, kept_sum, lean_carried, noise_times_diagonal, step_times, times_noise_transposed, times_step_transposed}
use Rattle.lean9.proofs.Columns.{tabulated_same}
use Rattle.lean9.proofs.Finite.{FiniteIn, entries_finite, kept_finite, matrix_finite, matrix_length}
use Rattle.lean9.proofs.Kept.{kept_same}
use Rattle.lean9.proofs.Shapes.{DiagonalShape, NoiseShape, StepShape}

-- ---- equal wherever either is finite

pub record Agrees (x y : List Float) : Type 0 where
  pub where_first : all_finite x ≡ true → x ≡ y
  pub where_second : all_finite y ≡ true → x ≡ y

pub as_finite : {x y : List Float} → Agrees x y → all_finite x ≡ all_finite y
as_finite {x} {y} a = go (all_finite x) (all_finite y) refl refl
  where
    go : (p q : Bool) → all_finite x ≡ p → all_finite y ≡ q → p ≡ q
    go true q e f = sym e ∙ ap all_finite (a.where_first e) ∙ f
    go false true e f = sym e ∙ ap all_finite (a.where_second f) ∙ f
    go false false e f = refl

-- two products of a factor of nine rows and so many columns, of which one leaves terms out
record Spares (cols : ℕ) (lean whole : List Float → List Float) : Type 0 where
  lean_factor : (m : List Float) → all_finite (lean m) ≡ true → FiniteIn cols m
  whole_factor : (m : List Float) → all_finite (whole m) ≡ true → FiniteIn cols m
  same : (m : List Float) → FiniteIn cols m → lean m ≡ whole m

agrees_at : {cols : ℕ} {lean whole : List Float → List Float} → Spares cols lean whole → (m : List Float) → Agrees (lean m) (whole m)
agrees_at s m = record { where_first = λ f. s.same m (s.lean_factor m f); where_second = λ f. s.same m (s.whole_factor m f) }

agrees_through : {cols : ℕ} {lean whole : List Float → List Float} {x y : List Float} → Spares cols lean whole → length x ≡ 9 * cols → length y ≡ 9 * cols → Agrees x y
    → Agrees (lean x) (whole y)
agrees_through {cols} {lean} {whole} {x} {y} s l k a =
    record {
      where_first = λ f. let own = s.lean_factor x f in s.same x own ∙ ap whole (a.where_first (entries_finite cols x l own));
      where_second = λ f. let own = s.whole_factor y f in ap lean (a.where_second (entries_finite cols y k own)) ∙ s.same y own;
    }

-- ---- a zero that is left out of a sum

sum_fits : (n : ℕ) (f : ℕ → Float) → T (fits binary64 (sum_from_zero n f))
unfolding sum_from_zero
sum_fits zero f = of_bits-fits binary64 0
sum_fits (suc n) f = add-fits binary64 (sum_from_zero n f) (f n)

sum_some : (n : ℕ) (f : ℕ → Float) → ((k : ℕ) → T (fits binary64 (f k))) → not_minus_zero (sum_from_zero n f) ≡ true
unfolding sum_from_zero
sum_some zero f h = +0-not_minus_zero
sum_some (suc n) f h = sum_not_minus_zero (sum_from_zero n f) (f n) (sum_fits n f) (h n) (sum_some n f h)

left_out : (n : ℕ) (keep : ℕ → Bool) (f : ℕ → Float) → ((k : ℕ) → T (fits binary64 (f k))) → ((k : ℕ) → k < n → keep k ≡ false → Zero (f k)) → sum_from_zero n f ≡ kept_sum n keep f
unfolding sum_from_zero kept_sum
left_out zero keep f h z = refl
left_out (suc n) keep f h z = go (left_out n keep f h (λ k l. z k (omega arith))) (keep n) refl
  where
    go : sum_from_zero n f ≡ kept_sum n keep f → (p : Bool) → keep n ≡ p → sum_from_zero n f ⊕ f n ≡ (kept_sum n keep f ⊕ f n when p else kept_sum n keep f)
    go before true e = λ i. before i ⊕ f n
    go before false e = plus_zero (sum_from_zero n f) (sum_fits n f) (sum_some n f h) (z n (omega arith) e) ∙ before

-- ---- the whole products are those that keep every term

abbrev every : ℕ → ℕ → ℕ → Bool
every i j k = true

every_kept : (n : ℕ) (f : ℕ → Float) → sum_from_zero n f ≡ kept_sum n (λ k. true) f
unfolding sum_from_zero kept_sum
every_kept zero f = refl
every_kept (suc n) f = λ i. every_kept n f i ⊕ f n

matrix_same : (cols : ℕ) (f g : ℕ → ℕ → Float) → ((i j : ℕ) → i < 9 → j < cols → f i j ≡ g i j) → matrix 9 cols f ≡ matrix 9 cols g
unfolding matrix
matrix_same cols f g e = tabulated_same (9 * cols) (cell 9 f) (cell 9 g) (λ n h. e (n % 9) (n / 9) (omega arith) (omega arith))

product_every : (inner cols : ℕ) (a b : List Float) → product 9 inner cols a b ≡ kept_product 9 inner cols every (entry 9 a) (entry inner b)
unfolding product row_times_column kept_product
product_every inner cols a b =
    matrix_same cols (row_times_column 9 inner a b) (kept_entry inner every (entry 9 a) (entry inner b)) (λ i j h g. every_kept inner (λ k. entry 9 a i k ⊗ entry inner b k j))

product_transposed_every : (inner cols : ℕ) (a b : List Float) → product 9 inner cols a (transposed cols inner b) ≡ kept_product 9 inner cols every (entry 9 a) (λ k j. entry cols b j k)
unfolding kept_product
product_transposed_every inner cols a b =
    product_every inner cols a (transposed cols inner b)
    ∙ matrix_same cols (kept_entry inner every (entry 9 a) (entry inner (transposed cols inner b))) (kept_entry inner every (entry 9 a) (λ k j. entry cols b j k)) (λ i j h g.
    kept_same inner (λ k. true) (λ k. entry 9 a i k ⊗ entry inner (transposed cols inner b) k j) (λ k. entry 9 a i k ⊗ entry cols b j k) (λ k l. λ p. entry 9 a i k ⊗ entry_transposed {rows = cols} b l g p))

-- ---- a product with terms left out

-- the terms that are left out are zeros
same_products : (inner cols : ℕ) (keep : ℕ → ℕ → ℕ → Bool) (x y : ℕ → ℕ → Float) → ((i j k : ℕ) → i < 9 → j < cols → k < inner → keep i j k ≡ false → Zero (x i k ⊗ y k j))
    → kept_product 9 inner cols keep x y ≡ kept_product 9 inner cols every x y
unfolding kept_product
same_products inner cols keep x y z =
    matrix_same cols (kept_entry inner keep x y) (kept_entry inner every x y) (λ i j h g.
    sym (left_out inner (keep i j) (λ k. x i k ⊗ y k j) (λ k. mul-fits binary64 (x i k) (y k j)) (λ k l e. z i j k h g l e)) ∙ every_kept inner (λ k. x i k ⊗ y k j))

-- a factor on the left of one that keeps its diagonal is finite where the product is; and one on the right
left_factor : (inner cols : ℕ) (keep : ℕ → ℕ → Bool) (y : ℕ → ℕ → Float) → ((k : ℕ) → keep k k ≡ true) → inner ≤ cols → (m : List Float)
    → all_finite (kept_product 9 inner cols (λ i j. keep j) (entry 9 m) y) ≡ true → FiniteIn inner m
unfolding kept_product
left_factor inner cols keep y d w m f i k h g =
    (finite_product (entry 9 m i k) (y k k)
    (kept_finite inner (keep k) (λ n. entry 9 m i n ⊗ y n k) (matrix_finite (kept_entry inner (λ i j. keep j) (entry 9 m) y) f h (omega arith)) k g (d k))).0

right_factor : (cols : ℕ) (keep : ℕ → ℕ → Bool) (x : ℕ → ℕ → Float) → ((k : ℕ) → keep k k ≡ true) → (m : List Float)
    → all_finite (kept_product 9 9 cols (λ i j. keep i) x (entry 9 m)) ≡ true → FiniteIn cols m
unfolding kept_product
right_factor cols keep x d m f k j h g =
    (finite_product (x k k) (entry 9 m k j)
    (kept_finite 9 (keep k) (λ n. x k n ⊗ entry 9 m n j) (matrix_finite (kept_entry 9 (λ i j. keep i) x (entry 9 m)) f h g) k h (d k))).1

spares_left : (inner cols : ℕ) (keep : ℕ → ℕ → Bool) (y : ℕ → ℕ → Float) → ((k : ℕ) → keep k k ≡ true) → inner ≤ cols
    → ((j k : ℕ) → j < cols → k < inner → keep j k ≡ false → (y k j =ᶠ +0) ≡ true)
    → Spares inner (λ m. kept_product 9 inner cols (λ i j. keep j) (entry 9 m) y) (λ m. kept_product 9 inner cols every (entry 9 m) y)
spares_left inner cols keep y d w z =
    record {
      lean_factor = left_factor inner cols keep y d w;
      whole_factor = left_factor inner cols (λ j k. true) y (λ k. refl) w;
      same = λ m f. same_products inner cols (λ i j. keep j) (entry 9 m) y (λ i j k h g n e. times_a_zero (entry 9 m i k) (y k j) (f i k h n) (z j k g n e));
    }

spares_right : (cols : ℕ) (keep : ℕ → ℕ → Bool) (x : ℕ → ℕ → Float) → ((k : ℕ) → keep k k ≡ true)
    → ((i k : ℕ) → i < 9 → k < 9 → keep i k ≡ false → (x i k =ᶠ +0) ≡ true)
    → Spares cols (λ m. kept_product 9 9 cols (λ i j. keep i) x (entry 9 m)) (λ m. kept_product 9 9 cols every x (entry 9 m))
spares_right cols keep x d z =
    record {
      lean_factor = right_factor cols keep x d;
      whole_factor = right_factor cols (λ i k. true) x (λ k. refl);
      same = λ m f. same_products 9 cols (λ i j. keep i) x (entry 9 m) (λ i j k h g n e. a_zero_times (x i k) (entry 9 m k j) (f k j n g) (z i k h n e));
    }

-- ---- the sum

sum_parts : (x y : List Float) → length x ≡ 81 → length y ≡ 81 → all_finite (sum 9 9 x y) ≡ true → (all_finite x ≡ true) × (all_finite y ≡ true)
unfolding sum
sum_parts x y l k f =
    let parts : (i j : ℕ) → i < 9 → j < 9 → (finite (entry 9 x i j) ≡ true) × (finite (entry 9 y i j) ≡ true) =
    λ i j h g. finite_sum (entry 9 x i j) (entry 9 y i j) (matrix_finite (λ i j. entry 9 x i j ⊕ entry 9 y i j) f h g) in
    (entries_finite 9 x l (λ i j h g. (parts i j h g).0), entries_finite 9 y k (λ i j h g. (parts i j h g).1))

agrees_sum : {x x' y y' : List Float} → length x ≡ 81 → length x' ≡ 81 → length y ≡ 81 → length y' ≡ 81 → Agrees x x' → Agrees y y' → Agrees (sum 9 9 x y) (sum 9 9 x' y')
agrees_sum {x} {x'} {y} {y'} l l' k k' a b =
    record {
      where_first = λ f. let parts = sum_parts x y l k f in λ i. sum 9 9 (a.where_first parts.0 i) (b.where_first parts.1 i);
      where_second = λ f. let parts = sum_parts x' y' l' k' f in λ i. sum 9 9 (a.where_second parts.0 i) (b.where_second parts.1 i);
    }

-- ---- A·C·Aᵀ + B·N·Bᵀ

kept_length : (inner cols : ℕ) (keep : ℕ → ℕ → ℕ → Bool) (x y : ℕ → ℕ → Float) → length (kept_product 9 inner cols keep x y) ≡ 9 * cols
unfolding kept_product
kept_length inner cols keep x y = matrix_length 9 cols (kept_entry inner keep x y)

step_diagonal : (k : ℕ) → kept_in_step k k ≡ true
step_diagonal k = rw (eq-eqb k k refl) (or-true (ltb k 3))

noise_diagonal : (k : ℕ) → kept_in_noise k k ≡ true
noise_diagonal k = go (ltb k 3)
  where
    go : (p : Bool) → beq p p ≡ true
    go true = refl
    go false = refl

module _ (A C B N : List Float) (a : StepShape A) (b : NoiseShape B) (n : DiagonalShape N) where
  agrees_step : Agrees (times_step_transposed (step_times A C) A) (kept_product 9 9 9 every (entry 9 (kept_product 9 9 9 every (entry 9 A) (entry 9 C))) (λ k j. entry 9 A j k))
  unfolding times_step_transposed step_times
  agrees_step =
      agrees_through (spares_left 9 9 kept_in_step (λ k j. entry 9 A j k) step_diagonal (omega arith) a) (kept_length 9 9 _ _ _) (kept_length 9 9 _ _ _)
      (agrees_at (spares_right 9 kept_in_step (entry 9 A) step_diagonal a) C)

  agrees_noise : Agrees (times_noise_transposed (noise_times_diagonal B N) B) (kept_product 9 6 9 every (entry 9 (kept_product 9 6 6 every (entry 9 B) (entry 6 N))) (λ k j. entry 9 B j k))
  unfolding times_noise_transposed noise_times_diagonal
  agrees_noise =
      agrees_through (spares_left 6 9 kept_in_noise (λ k j. entry 9 B j k) noise_diagonal (omega arith) b) (kept_length 6 6 _ _ _) (kept_length 6 6 _ _ _)
      (agrees_at (spares_left 6 6 (λ j k. eqb k j) (entry 6 N) (λ k. eq-eqb k k refl) (omega arith) (λ j k h g e. n k j g h e)) B)

  pub lean_agrees : Agrees (lean_carried A C B N) (sum 9 9 (product 9 9 9 (product 9 9 9 A C) (transposed 9 9 A)) (product 9 6 9 (product 9 6 6 B N) (transposed 9 6 B)))
  unfolding lean_carried times_step_transposed times_noise_transposed
  lean_agrees =
      rw (product_transposed_every 9 9 (product 9 9 9 A C) A, product_every 9 9 A C, product_transposed_every 6 9 (product 9 6 6 B N) B, product_every 6 6 B N)
      (agrees_sum (kept_length 9 9 _ _ _) (kept_length 9 9 _ _ _) (kept_length 6 9 _ _ _) (kept_length 6 9 _ _ _) agrees_step agrees_noise)
