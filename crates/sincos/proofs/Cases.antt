-- What `sin_cos` says in 01's numbers determines its answer, since a refusal's row determines the refusal. Assumes nothing.
use Rattle.std.proofs.Common.{◌≡◌, refl, eqb}
use Rattle.std.specs.Prelude.{Result}
use Rattle.number.specs.Float.{◌when◌else◌}
use Rattle.number.specs.Said.{Row}
use Rattle.number.proofs.Cases.{determined, said_result_determined}
use Rattle.sincos.specs.declared.SinCos.{SinCos}
use Rattle.sincos.specs.declared.Refusal.{Refusal}
use Rattle.sincos.specs.declared.Refusal.TheVariants as R
use Rattle.sincos.specs.Refusals.{row_of}
use Rattle.sincos.specs.Turn.{said_turned}

abbrev refusal_with : Row → Refusal
refusal_with r = R.NonFinite when eqb r.number 2 else R.AngleRange

refusal_back : (r : Refusal) → refusal_with (row_of r) ≡ r
refusal_back R.NonFinite = refl
refusal_back R.AngleRange = refl

pub row_determined : (a b : Refusal) → row_of a ≡ row_of b → a ≡ b
row_determined = determined row_of refusal_with refusal_back

pub turned_determined : (a b : Result SinCos Refusal) → said_turned a ≡ said_turned b → a ≡ b
turned_determined = said_result_determined row_of row_determined
