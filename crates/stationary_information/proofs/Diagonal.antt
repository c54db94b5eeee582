-- The diagonal of mat9 is that of the pose. Assumes nothing.
use Rattle.std.proofs.Common.{◌≡◌, refl}
use lib.Ieee.{Float}
use Rattle.number.specs.Tabulated.{tabulated}
use Rattle.mat9.specs.Matrix.{diagonal6, matrix}
use Rattle.stationary_information.specs.Information.{pose_diagonal}

pub same : (t r : Float) → diagonal6 t r ≡ pose_diagonal t r
unfolding diagonal6 matrix tabulated
same t r = refl
