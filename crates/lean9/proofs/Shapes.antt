-- Matrices of which only the places that the products of specs/inside/Lean.antt keep may hold anything but a zero, of either sign. Assumes nothing.
use Prim.Native.Nat.{ℕ, ◌<◌}
use mathlib.Core.Path.{◌≡◌}
use mathlib.Core.Bool.{Bool, true, false}
use mathlib.Core.List.{List}
use lib.Dec.{eqb}
use lib.Ieee.{Float}
use Rattle.number.specs.Float.{◌=ᶠ◌}
use Rattle.number.specs.Constants.{zero as +0}
use Rattle.mat9.specs.Matrix.{entry}
use Rattle.lean9.specs.Inside.Lean.{kept_in_step, kept_in_noise}

-- wherever `kept` row column is false, m has a zero
abbrev pub ZeroBut : (rows cols : ℕ) → (kept : ℕ → ℕ → Bool) → List Float → Type 0
ZeroBut rows cols kept m = (r k : ℕ) → r < rows → k < cols → kept r k ≡ false → (entry rows m r k =ᶠ +0) ≡ true

-- 9×9
abbrev pub StepShape : List Float → Type 0
StepShape a = ZeroBut 9 9 kept_in_step a

-- 9×6
abbrev pub NoiseShape : List Float → Type 0
NoiseShape b = ZeroBut 9 6 kept_in_noise b

-- 6×6
abbrev pub DiagonalShape : List Float → Type 0
DiagonalShape n = ZeroBut 6 6 eqb n
