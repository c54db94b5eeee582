-- 01, Refusal numbers: the number and the values of every case of an answer; 16 is 02's, W-201.
use Rattle.std.specs.Prelude.{[], ◌∷◌, Result}
use Rattle.number.specs.Said.{Said, Row, row, row_with, refused_by, said_result}
use Rattle.drive.specs.declared.Refusal.{Refusal}
use Rattle.drive.specs.declared.Refusal.TheVariants as R
use Rattle.drive.specs.declared.BodyTwist.{BodyTwist}
use Rattle.drive.specs.declared.TwistColumns.{TwistColumns}
use Rattle.drive.specs.declared.WheelRates.{WheelRates}

abbrev pub row_of : Refusal → Row
row_of R.Invalid = row 1
row_of R.NonFinite = row 2
row_of (R.OutOfOrder time last) = row_with 3 (time ∷ last ∷ [])
row_of (R.Duplicate time) = row_with 4 (time ∷ [])
row_of R.MixedReadings = row 5
row_of R.InvalidNoise = row 6
row_of R.InvalidKinematics = row 7
row_of R.AngleRange = row 8
row_of R.TickRange = row 16

abbrev pub said_refusal : {A : Type 0} → Refusal → Said A
said_refusal r = refused_by (row_of r)

abbrev pub said_twisted : Result BodyTwist Refusal → Said BodyTwist
said_twisted r = said_result row_of r

abbrev pub said_jacobian : Result TwistColumns Refusal → Said TwistColumns
said_jacobian r = said_result row_of r

abbrev pub said_rated : Result WheelRates Refusal → Said WheelRates
said_rated r = said_result row_of r
