-- 01, Refusal numbers: 2 NonFinite.
use Rattle.number.specs.Said.{Row, row}
use Rattle.number.specs.declared.refusal.Refusal.{Refusal}
use Rattle.number.specs.declared.refusal.Refusal.TheVariants as R

abbrev pub row_of : Refusal → Row
row_of R.NonFinite = row 2
