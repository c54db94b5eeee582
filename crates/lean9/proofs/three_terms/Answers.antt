-- `three_terms` meets its contract: each term is added to the sums of those before it. Assumes nothing.
use mathlib.Core.Path.{refl, ◌∙◌}
use Prim.Native.Nat.{ℕ, ◌+◌}
use lib.Ieee.{Float}
use Rattle.number.specs.Float.{◌⊕◌}
use Rattle.number.specs.Constants.{zero as +0}
use Rattle.number.specs.Tabulated.{tabulated}
use Rattle.lean9.specs.Inside.Lean.{term}
use Rattle.lean9.proofs.Columns.{plus_tabulated}
use Rattle.lean9.proofs.three_terms.Goals as goal

pub returns : goal.returns
unfolding tabulated
returns g c =
    let k = c.args.k in
    let at : ℕ → ℕ → Float = λ k r. term c.args.m.now c.args.a.now r c.args.c k in
    c.plus_term.ensures
    ∙ plus_tabulated (λ r. +0 ⊕ at k r ⊕ at (k + 1) r) (at (k + 2))
    (c.plus_term-two.ensures ∙ plus_tabulated (λ r. +0 ⊕ at k r) (at (k + 1)) (c.plus_term-one.ensures ∙ plus_tabulated (λ r. +0) (at k) refl))
