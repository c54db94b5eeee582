-- The table holds: the checker works out every row from the definitions. Assumes nothing.
use Prim.Native.Nat.{◌^◌}
use mathlib.Core.Path.{◌≡◌, refl, sym, ◌∙◌}
use lib.Ieee as Ieee
use lib.Ieee.{binary64, of_bits}
use Rattle.number.specs.Fit.{finite_positive}
use Rattle.number.specs.Float.{nearest_to}
use Rattle.number.specs.Constants.{one, c2}
use Rattle.number.specs.Constants.{zero as +0}
use Rattle.number.specs.Halving.{halving_count}
use Rattle.root.specs.Root.{sqrt_of, root_of, grains, next}
use Rattle.number.specs.Said.{gives}
use Rattle.number.proofs.whole.Laws.{examples as conversions}
use Rattle.number.proofs.tick.Laws.{wraps}
use Rattle.drive.specs.Drive.{valid_drive, finite_twist, twist_asked, twist_of}
use Rattle.wheel_odom.proofs.Examples.{examples}
use Rattle.table.specs.Table.{Table, drive, over, whole}

two^53 : whole (2 ^ 53) ≡ of_bits binary64 0x4340000000000000
unfolding Ieee.round Ieee.of_bits
two^53 = refl

two^63 : whole (2 ^ 63) ≡ of_bits binary64 0x43e0000000000000
unfolding Ieee.round Ieee.of_bits
two^63 = refl

least_root : sqrt_of (over (2 ^ 1074)) ≡ gives (over (2 ^ 537))
unfolding sqrt_of root_of grains Ieee.round Ieee.of_bits Ieee.eq Ieee.lt
least_root = refl

ratio_one : halving_count one ≡ 0
unfolding halving_count Ieee.of_bits Ieee.lt Ieee.le Ieee.of_int
ratio_one = refl

ratio_thousand : halving_count (whole 1024) ≡ 10
unfolding halving_count Ieee.of_bits Ieee.round Ieee.lt Ieee.le Ieee.of_int
ratio_thousand = refl

ratio_next : halving_count (next (whole 1024)) ≡ 11
unfolding halving_count next Ieee.to_bits Ieee.of_bits Ieee.round Ieee.lt Ieee.le Ieee.of_int
ratio_next = refl

twist : twist_asked drive one c2 ≡ gives (record { vx = nearest_to 3 4; vy = +0; wz = c2 })
unfolding twist_asked twist_of valid_drive finite_twist finite_positive Ieee.of_bits Ieee.round Ieee.add Ieee.sub Ieee.mul Ieee.div Ieee.lt
twist = refl

pub table : Table
table = record {
  tie_to_even = conversions.tie_to_even ∙ sym two^53;
  greatest = conversions.greatest ∙ sym two^63;
  least_root = least_root;
  tick_wrap = wraps;
  ratio_one = ratio_one;
  ratio_thousand = ratio_thousand;
  ratio_next = ratio_next;
  twist = twist;
  indefinite = examples.indefinite_refused;
}
