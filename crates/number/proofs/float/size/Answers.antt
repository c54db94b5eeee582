use Rattle.std.proofs.Common.{◌≡◌, false, refl, ◌∙◌}
use Rattle.std.specs.Float.{float_with_sign}
use lib.Ieee.{Float, nan, inf, fin}
use Rattle.number.specs.Float.{size}
use Rattle.number.proofs.float.size.Goals as goal

as_std : (x : Float) → float_with_sign false x ≡ size x
unfolding float_with_sign size
as_std nan = refl
as_std (inf s) = refl
as_std (fin s m e) = refl

pub returns : goal.returns
returns c = c.abs.ensures.value ∙ as_std c.args.x
