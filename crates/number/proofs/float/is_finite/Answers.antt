use Rattle.std.proofs.Common.{◌≡◌, refl, ◌∙◌}
use Rattle.std.specs.Float.{float_is_finite}
use lib.Ieee.{Float, nan, inf, fin}
use Rattle.number.specs.Float.{finite}
use Rattle.number.proofs.float.is_finite.Goals as goal

as_std : (x : Float) → float_is_finite x ≡ finite x
unfolding float_is_finite
as_std nan = refl
as_std (inf s) = refl
as_std (fin s m e) = refl

pub returns : goal.returns
returns c = c.is_finite.ensures.value ∙ as_std c.args.x
