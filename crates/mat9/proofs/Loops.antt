-- The loops of the matrix functions: where a place of a matrix lies, what stands at a row and a column of a matrix that is given by its entries, and a loop over
-- columns and rows that fills a matrix: `Filled` of the crate number, place by place. Assumes nothing.
use mathlib.Core.Path.{◌≡◌, sym, ◌∙◌}
use mathlib.Core.List.{List, []}
use Prim.Native.Nat.{ℕ, suc, ◌+◌, ◌*◌, ◌/◌, ◌%◌, ◌≤◌, ◌<◌}
use native.Mathlib.Nat.{suc-mul, zero-add, mul_comm, mul-le-mul_right, div-eq_of_lt, mod-eq_of_lt, add-mul-div_right, add-mul-mod_self_right}
use native.Mathlib.Omega.{arith}
use lib.ListN.{length, get_or, set, drop}
use lib.Seq.{drop_at}
use lib.Ieee.{Float, nan}
use Rattle.number.specs.Tabulated.{tabulated}
use Rattle.number.proofs.Tabulated.{tabulated_at, tabulated_length}
use Rattle.number.proofs.Filled.{Filled, filled_none, filled_more, filled_done}
use Rattle.mat3.specs.Matrix.{entry as entry3}
use Rattle.mat9.specs.Matrix.{entry, matrix, transposed}

-- ---- where a place lies

-- row i of column j lies within a matrix of so many rows and columns
pub within : {rows cols i j : ℕ} → i < rows → j < cols → i + j * rows < rows * cols
within {rows} {cols} {i} {j} h g = omega (arith, suc-mul j rows, mul_comm rows cols, mul-le-mul_right {m = suc j} {n = cols} rows g)

-- ---- a matrix by its entries

-- what stands in place n
abbrev pub cell : (rows : ℕ) → (ℕ → ℕ → Float) → ℕ → Float
cell rows f n = f (n % rows) (n / rows)

pub cell_at : {rows i j : ℕ} (f : ℕ → ℕ → Float) → i < rows → cell rows f (i + j * rows) ≡ f i j
cell_at {rows} f h = let some : 0 < rows = omega arith in rw (add-mul-mod_self_right, mod-eq_of_lt, add-mul-div_right, div-eq_of_lt, zero-add)

-- what stands in row i and column j of `blocks`
abbrev pub block_entry : (across : ℕ) → List (List Float) → ℕ → ℕ → Float
block_entry across parts i j = entry3 (get_or parts (i / 3 * across + j / 3) []) (i % 3) (j % 3)

pub entry_matrix : {rows cols i j : ℕ} (f : ℕ → ℕ → Float) → i < rows → j < cols → entry rows (matrix rows cols f) i j ≡ f i j
unfolding matrix
entry_matrix {rows} {cols} {i} {j} f h g = tabulated_at (cell rows f) (rows * cols) (i + j * rows) nan (within h g) ∙ cell_at f h

pub entry_transposed : {rows cols i j : ℕ} (a : List Float) → i < cols → j < rows → entry cols (transposed rows cols a) i j ≡ entry rows a j i
unfolding transposed
entry_transposed {rows} a h g = entry_matrix (λ i j. entry rows a j i) h g

-- ---- filled column by column

-- `out`, a matrix of nine rows, is filled up to row r of column c; it goes on as `d`
pub record FilledTo (cols : ℕ) (f : ℕ → ℕ → Float) (d : List Float) (r c : ℕ) (out : List Float) : Type 0 where
  pub row : r ≤ 9
  pub filled : Filled (9 * cols) (cell 9 f) d (r + c * 9) out

pub filled_to_none : {cols : ℕ} {f : ℕ → ℕ → Float} {d : List Float} → length d ≡ 9 * cols → FilledTo cols f d 0 0 d
filled_to_none l = record { row = omega arith; filled = filled_none l }

pub filled_to_more : {cols r c : ℕ} {f : ℕ → ℕ → Float} {d out : List Float} {v : Float}
    → FilledTo cols f d r c out → r < 9 → c < cols → v ≡ f r c → FilledTo cols f d (r + 1) c (set out (r + c * 9) v)
filled_to_more {cols} {r} {c} {f} {d} {out} {v} w h g e =
    let at : r + 1 + c * 9 ≡ r + c * 9 + 1 = omega arith in
    record { row = omega arith; filled = rw at (filled_more w.filled (within h g) (e ∙ sym (cell_at f h))) }

-- after the last row of a column stands the first of the next
pub filled_to_next : {cols r c : ℕ} {f : ℕ → ℕ → Float} {d out : List Float} → FilledTo cols f d r c out → 9 ≤ r → FilledTo cols f out 0 (c + 1) out
filled_to_next {cols} {r} {c} {f} {d} {out} w h =
    let n = 0 + (c + 1) * 9 in
    let at : r + c * 9 ≡ n = omega arith in
    let so : Filled (9 * cols) (cell 9 f) d n out = rw at at w.filled in
    record {
      row = omega arith;
      filled = record {
        upto = so.upto;
        was = so.long;
        long = so.long;
        is = so.is ∙ rw (so.is, drop_at (tabulated n (cell 9 f)) (drop n d) n (tabulated_length (cell 9 f) n));
      };
    }

pub filled_to_done : {cols c : ℕ} {f : ℕ → ℕ → Float} {d out : List Float} → FilledTo cols f d 0 c out → cols ≤ c → out ≡ matrix 9 cols f
unfolding matrix
filled_to_done w h = filled_done w.filled (omega arith)
