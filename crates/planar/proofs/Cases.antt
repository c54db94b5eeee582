-- What a composing says in 01's numbers determines the answer. Assumes nothing.
use Rattle.std.proofs.Common.{◌≡◌}
use Rattle.std.specs.Prelude.{Result}
use Rattle.number.proofs.Cases.{told_result_determined}
use Rattle.sincos.specs.declared.Refusal.{Refusal}
use Rattle.sincos.specs.Refusals.{row_of}
use Rattle.sincos.proofs.Cases.{row_determined}
use Rattle.planar.specs.declared.PlanarMotion.{PlanarMotion}
use Rattle.planar.specs.Motion.{identity}
use Rattle.planar.specs.Compose.{told_composed}

pub composed_determined : (a b : Result PlanarMotion Refusal) → told_composed a ≡ told_composed b → a ≡ b
composed_determined = told_result_determined row_of row_determined identity
