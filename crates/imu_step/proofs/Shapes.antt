-- The matrices of a step have zeros where the products of lean9 leave terms out (lean9, proofs/Shapes.antt). Assumes nothing.
use mathlib.Core.Path.{◌≡◌, refl, sym, ap, ◌∙◌, subst}
use Prim.Native.Nat.{ℕ}
use mathlib.Core.Bool.{Bool, true, false, ◌||◌}
use mathlib.Core.List.{List, [], ◌∷◌}
use lib.Dec.{T, eqb, ltb}
use lib.IntN.{pos}
use lib.Ieee as Ieee
use lib.Ieee.{Float, fin}
use lib.Ieee.Bits.{is_true}
use Rattle.number.specs.Float.{◌⊗◌, ◌⊘◌, ◌=ᶠ◌, ◌when◌else◌, finite}
use Rattle.number.specs.Constants.{zero as +0}
use Rattle.number.proofs.All.{all, all_at}
use Rattle.number.proofs.float.PlusZero.{a_zero_times}
use Rattle.number.proofs.float.SameNumber.{Zero, signed}
use Rattle.mat3.specs.Matrix.{transpose, zeros, identity, scaled}
use Rattle.mat9.specs.Matrix.{matrix, blocks, diagonal6}
use Rattle.lean9.specs.Inside.Lean.{kept_in_step, kept_in_noise}
use Rattle.lean9.proofs.Shapes.{ZeroBut, StepShape, NoiseShape, DiagonalShape}
use Rattle.mat9.proofs.Loops.{block_entry, entry_matrix}
use Rattle.inertial.specs.declared.ImuCalib.{ImuCalib}
use Rattle.imu_step.specs.Parts.{half_square, less_times, less_half_square, matrix_a, matrix_b, matrix_n}

-- ---- one test of all places

module _ (kept : ℕ → ℕ → Bool) (f : ℕ → ℕ → Float) where
  abbrev kept_or_zero : ℕ → ℕ → Bool
  kept_or_zero r k = kept r k || (f r k =ᶠ +0)

  abbrev everywhere : (rows cols : ℕ) → Bool
  everywhere rows cols = all (λ r. all (kept_or_zero r) cols) rows

  zero_but : (rows cols : ℕ) → everywhere rows cols ≡ true → ZeroBut rows cols kept (matrix rows cols f)
  zero_but rows cols t r k h g e =
      let here : T (kept_or_zero r k) = all_at (kept_or_zero r) cols k g (all_at (λ r. all (kept_or_zero r) cols) rows r h (subst T (sym t) tt)) in
      ap (λ (x : Float). x =ᶠ +0) (entry_matrix f h g) ∙ is_true (f r k =ᶠ +0) (subst (λ (b : Bool). T (b || (f r k =ᶠ +0))) e here)

-- ---- the three matrices

either_zero : (s : Bool) → (fin s 0 (pos 0) =ᶠ +0) ≡ true
unfolding Ieee.eq Ieee.of_bits
either_zero true = refl
either_zero false = refl

+0-is_zero : (+0 =ᶠ +0) ≡ true
unfolding Ieee.eq Ieee.of_bits
+0-is_zero = refl

zero_times : (dt : Float) → finite dt ≡ true → (+0 ⊗ dt =ᶠ +0) ≡ true
zero_times dt p = go (a_zero_times +0 dt p +0-is_zero)
  where
    go : Zero (+0 ⊗ dt) → (+0 ⊗ dt =ᶠ +0) ≡ true
    go (signed s e) = ap (λ (x : Float). x =ᶠ +0) e ∙ either_zero s

abbrev step_parts : (dR G : List Float) → Float → List (List Float)
step_parts dR G dt =
    transpose dR ∷ zeros ∷ zeros ∷
    less_times G dt ∷ identity ∷ zeros ∷
    less_half_square G dt ∷ scaled identity dt ∷ identity ∷ []

step_everywhere : (dR G : List Float) (dt : Float) → (+0 ⊗ dt =ᶠ +0) ≡ true → everywhere kept_in_step (block_entry 3 (step_parts dR G dt)) 9 9 ≡ true
step_everywhere dR G dt h = simp (h, +0-is_zero)

pub step_shape : (dR G : List Float) (dt : Float) → finite dt ≡ true → StepShape (matrix_a dR G dt)
unfolding matrix_a blocks
step_shape dR G dt p = zero_but kept_in_step (block_entry 3 (step_parts dR G dt)) 9 9 (step_everywhere dR G dt (zero_times dt p))

abbrev noise_parts : (Jr R : List Float) → Float → List (List Float)
noise_parts Jr R dt =
    scaled Jr dt ∷ zeros ∷
    zeros ∷ scaled R dt ∷
    zeros ∷ scaled R (half_square dt) ∷ []

noise_everywhere : (Jr R : List Float) (dt : Float) → everywhere kept_in_noise (block_entry 2 (noise_parts Jr R dt)) 9 6 ≡ true
noise_everywhere Jr R dt = simp +0-is_zero

pub noise_shape : (Jr R : List Float) (dt : Float) → NoiseShape (matrix_b Jr R dt)
unfolding matrix_b blocks
noise_shape Jr R dt = zero_but kept_in_noise (block_entry 2 (noise_parts Jr R dt)) 9 6 (noise_everywhere Jr R dt)

diagonal_everywhere : (a b : Float) → everywhere eqb (λ i j. (a when ltb i 3 else b) when eqb i j else +0) 6 6 ≡ true
diagonal_everywhere a b = simp +0-is_zero

pub diagonal_shape : (c : ImuCalib) (dt : Float) → DiagonalShape (matrix_n c dt)
unfolding matrix_n diagonal6
diagonal_shape c dt =
    let gyro = c.gyro_noise ⊗ c.gyro_noise ⊘ dt in
    let accel = c.accel_noise ⊗ c.accel_noise ⊘ dt in
    zero_but eqb (λ i j. (gyro when ltb i 3 else accel) when eqb i j else +0) 6 6 (diagonal_everywhere gyro accel)
