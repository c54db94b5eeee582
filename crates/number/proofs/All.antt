-- A test that passes below n passes at each number below n. With a test that the checker computes, this proves a rule over a whole table at once.
-- Assumes nothing.
use Rattle.std.proofs.Common.{ℕ, zero, suc, ◌<◌, Bool, true, ◌&&◌, T, sym, subst, inl, inr, le_of_suc-le-suc, eq-or-lt_of_le, arith}
use lib.Ieee.Fits.{and_l, and_r}

abbrev pub all : (ℕ → Bool) → ℕ → Bool
all test zero = true
all test (suc n) = test n && all test n

pub all_at : (test : ℕ → Bool) (n k : ℕ) → k < n → T (all test n) → T (test k)
all_at test zero k h t = let none : ⊥ = omega arith in absurd none
all_at test (suc n) k h t = elim (eq-or-lt_of_le (le_of_suc-le-suc h)) [
  | inl e ↦ subst (λ (i : ℕ). T (test i)) (sym e) (and_l (test n) (all test n) t)
  | inr l ↦ all_at test n k l (and_r (test n) (all test n) t)
]
