-- 01, Refusal numbers: 2 NonFinite, 8 AngleRange.
use Rattle.number.specs.Said.{Row, row}
use Rattle.sincos.specs.declared.Refusal.{Refusal}
use Rattle.sincos.specs.declared.Refusal.TheVariants as R

abbrev pub row_of : Refusal → Row
row_of R.NonFinite = row 2
row_of R.AngleRange = row 8
