-- `rotation_after` meets its contract: each call's result is what it ensures, and with these put in place, the last first, both sides are one term. Assumes nothing.
use Rattle.imu_step.specs.Parts.{rotation_after}
use Rattle.imu_step.proofs.rotation_after.Goals as goal

pub returns : goal.returns
unfolding rotation_after
returns c = rw (c.normalized.ensures, c.product.ensures)
