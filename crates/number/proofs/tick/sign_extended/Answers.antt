-- `tick::sign_extended` meets its contract: at 64 bits nothing is cut off, and below that the highest bit of the lowest ones is the sign. Assumes nothing.
use Rattle.std.proofs.Common.{◌<◌, arith}
use Rattle.number.proofs.tick.Width.{half_positive, size_fits}
use Rattle.number.proofs.tick.sign_extended.Goals as goal

-- a width from 1 to 63, and the power that is half its range
positive : (c : goal.After-power_of_two-half) → 0 < c.power_of_two-half.result
positive c = half_positive c.args.width c.power_of_two-half.result (omega arith) (omega arith) c.power_of_two-half.ensures

pub overflow_mul-size : goal.overflow_mul-size
overflow_mul-size c = record { fits = size_fits c.args.width c.power_of_two-half.result (omega arith) (omega arith) c.power_of_two-half.ensures }
