-- Every statement of 01 and 02 on the number leaves holds. Assumes nothing.
use Rattle.number.specs.Statements.{Statements}
use Rattle.number.proofs.whole.Laws.{whole_nearest, whole_only}
use Rattle.number.proofs.whole.Nearer.{none_nearer}
use Rattle.number.proofs.tick.Laws.{difference_is, difference_only, difference_exact, width_64}
use Rattle.number.proofs.tick.Signed.{fits_i64}
use Rattle.number.proofs.tick.Sums.{add_up}
use Rattle.number.proofs.halving.Least.{count_small, count_least, least_only, examples}

pub statements : Statements
statements = record {
  whole_nearest = λ n h. whole_nearest n (fits_i64 n h);
  whole_only = whole_only;
  none_nearer = none_nearer;
  difference_is = difference_is;
  difference_only = difference_only;
  difference_exact = difference_exact;
  add_up = add_up;
  width_64 = width_64;
  count_small = count_small;
  count_least = count_least;
  least_only = least_only;
  count_infinite = examples.infinite;
  count_nan = examples.not_a_number;
}
