-- `matrix_a` meets its contract: each call's result is what it ensures, and with these put in place, the last first, both sides are one term. Assumes nothing.
use Rattle.imu_step.specs.Parts.{matrix_a}
use Rattle.imu_step.proofs.matrix_a.Goals as goal

pub returns : goal.returns
unfolding matrix_a
returns c =
    rw (c.block3x3_to_9x9.ensures, c.scaled.ensures, c.less_half_square.ensures, c.less_times.ensures, c.transpose.ensures, c.identity-same.ensures, c.zeros-none.ensures)
