-- `tick::tick_in_range` meets its contract: the bits of a number below 0 are too large for any counter below 64. Assumes nothing.
use Rattle.std.proofs.Common.{ltb, ap, ◌∙◌, arith, w64}
use mir.ValLaws.{to_z-of_z}
use Rattle.number.specs.Ticks.{residue}
use Rattle.number.proofs.tick.Signed.{i64_fits}
use Rattle.number.proofs.tick.Width.{any_in_range, bits_in_range}
use Rattle.number.proofs.tick.tick_in_range.Goals as goal

pub returns-then-width-ge64 : goal.returns-then-width-ge64
returns-then-width-ge64 c = any_in_range c.args.width c.if-width-ge64.true c.args.tick

pub returns : goal.returns
returns c =
    (λ i. ltb ((c.bits_of.ensures ∙ ap (residue 64) (to_z-of_z w64 c.args.tick c.ranges.tick)) i) (c.power_of_two.ensures i))
    ∙ bits_in_range c.args.width (omega arith) c.args.tick (i64_fits _ c.ranges.tick)
