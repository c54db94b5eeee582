-- `noise_times_diagonal` meets its contract: a column of n times b is the column of b times its own place, added to 0. Assumes nothing.
use Rattle.std.proofs.Common.{◌≡◌, ◌∙◌, ℕ, List, Float, ◌<◌, refl, rules, eqb, get_or, replicate}
use lib.Ieee.{nan}
use Rattle.number.specs.Float.{◌⊕◌, ◌⊗◌}
use Rattle.number.specs.Constants.{zero as +0}
use Rattle.number.specs.Tabulated.{tabulated}
use Rattle.mat9.specs.Matrix.{entry}
use Rattle.lean9.specs.Inside.Lean.{kept_entry, kept_product, noise_times_diagonal}
use Rattle.lean9.proofs.Columns.{plus_tabulated, tabulated_same}
use Rattle.lean9.proofs.Kept.{kept_on_diagonal}
use Rattle.lean9.proofs.noise_times_diagonal.Goals as goal

diagonal_column : (b n : List Float) (c : ℕ) → c < 6
    → tabulated 9 (λ r. get_or (replicate 9 +0) r nan ⊕ entry 9 b r c ⊗ entry 6 n c c) ≡ tabulated 9 (λ r. kept_entry 6 (λ i j k. eqb k j) (entry 9 b) (entry 6 n) r c)
unfolding tabulated
diagonal_column b n c h =
    plus_tabulated (λ r. +0) (λ r. entry 9 b r c ⊗ entry 6 n c c) refl
    ∙ tabulated_same 9 (λ r. +0 ⊕ entry 9 b r c ⊗ entry 6 n c c) (λ r. kept_entry 6 (λ i j k. eqb k j) (entry 9 b) (entry 6 n) r c) (λ r i. kept_on_diagonal (λ k. entry 9 b r k ⊗ entry 6 n k c) c h)

pub returns : goal.returns
unfolding noise_times_diagonal kept_product
returns c =
    c.of_columns.ensures (kept_entry 6 (λ i j k. eqb k j) (entry 9 c.args.b.now) (entry 6 c.args.n.now))
    (λ j w m call. let so : w ≡ tabulated 9 (λ r. get_or (replicate 9 +0) r nan ⊕ entry 9 c.args.b.now r j ⊗ entry 6 c.args.n.now j j) = search rules in so ∙ diagonal_column c.args.b.now c.args.n.now j m)
