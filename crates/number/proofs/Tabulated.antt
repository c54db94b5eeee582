-- A tabulated list has as many entries as it says, the i-th of them is f i, and one entry more stands at its end. Each list is tabulated by its own entries.
-- Assumes nothing.
use Rattle.std.proofs.Common.{◌≡◌, ℕ, zero, suc, ◌+◌, ◌<◌, List, [], ◌∷◌, ◌++◌, length, get_or, sym, refl, ap, ◌∙◌, inl, inr, le_of_suc-le-suc, eq-or-lt_of_le, add-one, arith, length-append, ext_get_or}
use lib.ListN.{get_or-append}
use lib.Seq.{get_or_at}
use Rattle.number.specs.Tabulated.{tabulated}

module _ {A : Type 0} (f : ℕ → A) where
  pub tabulated_more : (i : ℕ) → tabulated (i + 1) f ≡ tabulated i f ++ (f i ∷ [])
  unfolding tabulated
  tabulated_more i = ap (λ (n : ℕ). tabulated n f) (add-one i)

  pub tabulated_length : (n : ℕ) → length (tabulated n f) ≡ n
  unfolding tabulated
  tabulated_length zero = refl
  tabulated_length (suc n) = simp length-append (omega (arith, tabulated_length n))

  pub tabulated_at : (n i : ℕ) (d : A) → i < n → get_or (tabulated n f) i d ≡ f i
  unfolding tabulated
  tabulated_at zero i d h = let none : ⊥ = omega arith in absurd none
  tabulated_at (suc n) i d h = elim (eq-or-lt_of_le (le_of_suc-le-suc h)) [
    | inl e ↦ rw e (get_or_at (tabulated n f) (f n) [] d n (tabulated_length n))
    | inr l ↦ get_or-append (tabulated n f) (f n ∷ []) d i (rw tabulated_length l) ∙ tabulated_at n i d l
  ]

pub tabulated_entries : {A : Type 0} {n : ℕ} (l : List A) (d : A) → length l ≡ n → l ≡ tabulated n (λ i. get_or l i d)
tabulated_entries {n = n} l d e = ext_get_or d l (tabulated n (λ i. get_or l i d)) (e ∙ sym (tabulated_length (λ i. get_or l i d) n)) (λ i h. sym (tabulated_at (λ i. get_or l i d) n i d (omega arith)))
