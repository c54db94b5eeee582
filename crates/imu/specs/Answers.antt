-- 01, Refusal numbers: 2 NonFinite, 3 OutOfOrder, 4 Duplicate, 6 InvalidNoise, 8 AngleRange.
use Rattle.number.specs.Said.{Said, gives, refused, Row, row}
use Rattle.imu.specs.declared.Refusal.{Refusal}
use Rattle.imu.specs.declared.Refusal.TheVariants as R

abbrev pub row_of : Refusal → Row
row_of R.NonFinite = row 2
row_of R.OutOfOrder = row 3
row_of R.Duplicate = row 4
row_of R.InvalidNoise = row 6
row_of R.AngleRange = row 8

-- the first where it is given, the second where it is refused
abbrev pub by_outcome : {A : Type 0} → Said (Unit {0}) → A → A → A
by_outcome (gives u) x y = x
by_outcome (refused n values) x y = y
