-- What a joining says in 01's numbers determines the answer. Assumes nothing.
use Rattle.std.proofs.Common.{◌≡◌, refl}
use Rattle.std.specs.Prelude.{Result, eqb}
use Rattle.number.specs.Float.{◌when◌else◌}
use Rattle.number.specs.Said.{Row}
use Rattle.number.proofs.Cases.{determined, said_result_determined}
use Rattle.stationary.specs.declared.StationaryFactor.{StationaryFactor}
use Rattle.stationary.specs.declared.Refusal.{Refusal}
use Rattle.stationary.specs.declared.Refusal.TheVariants as R
use Rattle.stationary.specs.Join.{row_of, said_joined}

abbrev refusal_with : Row → Refusal
refusal_with r = R.InvalidFactor when eqb r.number 11 else R.NotJoined when eqb r.number 10 else R.NonFinite

refusal_back : (r : Refusal) → refusal_with (row_of r) ≡ r
refusal_back R.InvalidFactor = refl
refusal_back R.NotJoined = refl
refusal_back R.NonFinite = refl

pub row_determined : (a b : Refusal) → row_of a ≡ row_of b → a ≡ b
row_determined = determined row_of refusal_with refusal_back

pub joined_determined : (a b : Result StationaryFactor Refusal) → said_joined a ≡ said_joined b → a ≡ b
joined_determined = said_result_determined row_of row_determined
