-- `noise_transposed_column` meets its contract: by the row of b, which is column c of its transpose, the terms that are kept are those of the first three columns or
-- of the last three. Assumes nothing.
use mathlib.Core.Path.{◌∙◌}
use Prim.Native.Nat.{ℕ}
use lib.Ieee.{Float}
use Rattle.lean9.specs.Inside.Lean.{kept_in_noise, kept_sum, term, three_from}
use Rattle.lean9.proofs.Columns.{tabulated_same}
use Rattle.lean9.proofs.Kept.{kept_in_noise_lem}
use Rattle.lean9.proofs.noise_transposed_column.Goals as goal

pub returns : goal.returns
returns c =
    let first = c.first_kept in
    let j = c.args.c in
    let f : ℕ → ℕ → Float = λ r. term c.args.t.now c.args.b.now r j in
    c.three_terms.ensures
    ∙ tabulated_same 9 (λ r. three_from first.result (f r)) (λ r. kept_sum 6 (kept_in_noise j) (f r)) (λ r i. kept_in_noise_lem (f r) j first.result first.ensures.0)
