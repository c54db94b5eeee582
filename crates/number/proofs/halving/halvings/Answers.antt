-- `halving::halvings` meets its contract: the one test is the definition's, and `first_halvings` is the search after it. Assumes nothing.
use Rattle.std.proofs.Common.{sym, ap, ◌∙◌, rules}
use Rattle.number.specs.Halving.{made}
use Rattle.number.proofs.halving.Powers.{power_none}
use Rattle.number.proofs.halving.Least.{count_small, count_above}
use Rattle.number.proofs.halving.halvings.Goals as goal

pub returns-then-ratio : goal.returns-then-ratio
returns-then-ratio c = (λ i. record { count = 0; parts = power_none i }) ∙ ap made (sym (count_small c.args.ratio c.if-ratio.true))

pub first_halvings-requires : goal.first_halvings-requires
first_halvings-requires c = search rules

pub returns : goal.returns
returns c = c.first_halvings.ensures ∙ ap made (sym (count_above c.args.ratio c.if-ratio.false))
