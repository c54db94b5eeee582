-- Columns: a term is added to the sum in each row. Assumes nothing.
use mathlib.Core.Path.{◌≡◌, refl}
use mathlib.Core.List.{List}
use Prim.Native.Nat.{ℕ, zero, suc, ◌<◌}
use native.Mathlib.Omega.{arith}
use lib.ListN.{get_or}
use lib.Ieee.{Float, nan}
use Rattle.number.specs.Float.{◌⊕◌}
use Rattle.number.specs.Tabulated.{tabulated}
use Rattle.number.proofs.Tabulated.{tabulated_at}

pub tabulated_same : (n : ℕ) (f g : ℕ → Float) → ((k : ℕ) → k < n → f k ≡ g k) → tabulated n f ≡ tabulated n g
unfolding tabulated
tabulated_same zero f g e = refl
tabulated_same (suc n) f g e = rw (tabulated_same n f g (λ k h. e k (omega arith)), e n (omega arith))

-- where w has the sums g, h is added to each
pub plus_tabulated : {w : List Float} (g h : ℕ → Float) → w ≡ tabulated 9 g → tabulated 9 (λ r. get_or w r nan ⊕ h r) ≡ tabulated 9 (λ r. g r ⊕ h r)
plus_tabulated {w} g h e = tabulated_same 9 (λ r. get_or w r nan ⊕ h r) (λ r. g r ⊕ h r) (λ r i. rw (e, tabulated_at g 9 r nan i))
