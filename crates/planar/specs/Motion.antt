-- A planar motion: three numbers (dx, dy, dθ) and the nine numbers of their covariance, column by column.
use Rattle.std.specs.Prelude.{Bool, ◌&&◌, [], ◌∷◌, Float}
use Rattle.number.specs.Constants.{zero as +0}
use Rattle.mat3.specs.Matrix.{zeros, finite_matrix}
use Rattle.vec3.specs.Vector.{coordinate, finite_vector}
use Rattle.planar.specs.declared.PlanarMotion.{PlanarMotion}

abbrev pub dx : PlanarMotion → Float
dx m = coordinate m.delta 0

abbrev pub dy : PlanarMotion → Float
dy m = coordinate m.delta 1

abbrev pub heading : PlanarMotion → Float
heading m = coordinate m.delta 2

-- no motion and no uncertainty, every zero being +0; it also stands where 01 says "no matrix"
abbrev pub identity : PlanarMotion
identity = record { delta = +0 ∷ +0 ∷ +0 ∷ []; covariance = zeros }

unfoldable pub finite_motion : PlanarMotion → Bool
finite_motion m = finite_vector m.delta && finite_matrix m.covariance
