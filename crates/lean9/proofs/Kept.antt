-- Which terms are kept in each row of the step's matrices, and their sum written out. Assumes nothing.
use mathlib.Core.Path.{◌≡◌, refl, subst}
use mathlib.Core.Bool.{Bool, true, false, beq}
use mathlib.Core.Logic.{◌⊎◌, inl, inr}
use Prim.Native.Nat.{ℕ, zero, suc, ◌+◌, ◌-◌, ◌<◌, ◌≤◌}
use native.Mathlib.Omega.{arith}
use lib.Dec.{eqb, ltb}
use lib.Ieee.{Float}
use Rattle.number.specs.Float.{◌⊕◌, ◌when◌else◌}
use Rattle.number.specs.Constants.{zero as +0}
use Rattle.number.proofs.Below.{below_or_not}
use Rattle.lean9.specs.Inside.Lean.{kept_in_noise, kept_in_step, kept_sum, three_from}

pub kept_same : (n : ℕ) (keep : ℕ → Bool) (f g : ℕ → Float) → ((k : ℕ) → k < n → f k ≡ g k) → kept_sum n keep f ≡ kept_sum n keep g
unfolding kept_sum
kept_same zero keep f g e = refl
kept_same (suc n) keep f g e = rw (kept_same n keep f g (λ k h. e k (omega arith)), e n (omega arith))

-- what holds of three numbers in a row holds of each of them
of_three : (from : ℕ) (P : ℕ → Type 0) → P from → P (from + 1) → P (from + 2) → (c : ℕ) → from ≤ c → c < from + 3 → P c
of_three from P p q r c h i = go (below_or_not c (from + 1)) (below_or_not c (from + 2))
  where
    go : (c < from + 1) ⊎ (from + 1 ≤ c) → (c < from + 2) ⊎ (from + 2 ≤ c) → P c
    go (inl l) n = subst P (omega arith) p
    go (inr g) (inl l) = subst P (omega arith) q
    go (inr g) (inr k) = subst P (omega arith) r

-- ---- a row of A lies in the top, the middle or the bottom three

pub kept_in_top : (f : ℕ → Float) (c : ℕ) → c < 3 → three_from 0 f ≡ kept_sum 9 (kept_in_step c) f
unfolding kept_sum
kept_in_top f c h = of_three 0 (λ c. three_from 0 f ≡ kept_sum 9 (kept_in_step c) f) refl refl refl c (omega arith) h

pub kept_in_middle : (f : ℕ → Float) (c : ℕ) → 3 ≤ c → c < 6 → three_from 0 f ⊕ f c ≡ kept_sum 9 (kept_in_step c) f
unfolding kept_sum
kept_in_middle f c g h = of_three 3 (λ c. three_from 0 f ⊕ f c ≡ kept_sum 9 (kept_in_step c) f) refl refl refl c g h

pub kept_in_bottom : (f : ℕ → Float) (c : ℕ) → 6 ≤ c → c < 9 → three_from 0 f ⊕ f (c - 3) ⊕ f c ≡ kept_sum 9 (kept_in_step c) f
unfolding kept_sum
kept_in_bottom f c g h = of_three 6 (λ c. three_from 0 f ⊕ f (c - 3) ⊕ f c ≡ kept_sum 9 (kept_in_step c) f) refl refl refl c g h

-- ---- a row of B keeps three columns from k on, and a column of N its own place

pub kept_in_noise_lem : (f : ℕ → Float) (c k : ℕ) → k ≡ (0 when ltb c 3 else 3) → three_from k f ≡ kept_sum 6 (kept_in_noise c) f
unfolding kept_sum
kept_in_noise_lem f c k e = rw e (go (ltb c 3))
  where
    go : (p : Bool) → three_from (0 when p else 3) f ≡ kept_sum 6 (λ i. beq p (ltb i 3)) f
    go true = refl
    go false = refl

pub kept_on_diagonal : (f : ℕ → Float) (c : ℕ) → c < 6 → +0 ⊕ f c ≡ kept_sum 6 (λ k. eqb k c) f
unfolding kept_sum
kept_on_diagonal f c h = go (below_or_not c 3)
  where
    go : (c < 3) ⊎ (3 ≤ c) → +0 ⊕ f c ≡ kept_sum 6 (λ k. eqb k c) f
    go (inl l) = of_three 0 (λ c. +0 ⊕ f c ≡ kept_sum 6 (λ k. eqb k c) f) refl refl refl c (omega arith) l
    go (inr l) = of_three 3 (λ c. +0 ⊕ f c ≡ kept_sum 6 (λ k. eqb k c) f) refl refl refl c l h
