-- `doubled` meets its contract. The invariant: what is left to do to the motion so far gives what was to be done to the first.
-- Assumes nothing.
use Rattle.std.proofs.Common.{◌≡◌, ℕ, suc, ◌+◌, ◌-◌, ◌<◌, ◌∙◌, arith}
use Rattle.planar.specs.declared.PlanarMotion.{PlanarMotion}
use Rattle.planar.specs.Compose.{composed}
use Rattle.interval.specs.Interval.{doubled}
use Rattle.interval.proofs.formula.doubled.Goals as goal

once : (k i : ℕ) (p : PlanarMotion) → i < k → doubled (k - (i + 1)) (composed p p) ≡ doubled (k - i) p
unfolding doubled
once k i p h =
    let one : k - i ≡ suc (k - (i + 1)) = omega arith in
    rw one

pub loop-preserved : goal.loop-preserved
loop-preserved c =
    let l = c.loop in
    rw c.composed-motion.ensures (once c.args.k l.counter l.motion c.loop-test.true ∙ l.invariant)

pub returns : goal.returns
unfolding doubled
returns c =
    let l = c.loop in
    let none : c.args.k - l.counter ≡ 0 = omega arith in
    rw none at l.invariant
