-- What an asking for information says in 01's numbers, and the information beside it, determine the answer. Assumes nothing.
use Rattle.std.proofs.Common.{◌≡◌, refl}
use Rattle.std.specs.Prelude.{Result, eqb}
use Rattle.number.specs.Float.{◌when◌else◌}
use Rattle.number.specs.Said.{Row}
use Rattle.number.proofs.Cases.{determined, told_result_determined}
use Rattle.stationary_information.specs.declared.Refusal.{Refusal}
use Rattle.stationary_information.specs.declared.Refusal.TheVariants as R
use Rattle.stationary_information.specs.declared.StationaryInfo.{StationaryInfo}
use Rattle.stationary_information.specs.Information.{blank_info, refusal_row, told_informed}

abbrev refusal_with : Row → Refusal
refusal_with r = R.InvalidFactor when eqb r.number 11 else R.NonFinite

refusal_back : (r : Refusal) → refusal_with (refusal_row r) ≡ r
refusal_back R.InvalidFactor = refl
refusal_back R.NonFinite = refl

pub row_determined : (a b : Refusal) → refusal_row a ≡ refusal_row b → a ≡ b
row_determined = determined refusal_row refusal_with refusal_back

pub informed_determined : (a b : Result StationaryInfo Refusal) → told_informed a ≡ told_informed b → a ≡ b
informed_determined = told_result_determined refusal_row row_determined blank_info
