-- What 01 states of the table of sine and cosine holds: it is proved once over the whole table. Assumes nothing.
use mathlib.Core.Path.{◌≡◌, ap, ◌∙◌}
use Prim.Native.Nat.{ℕ, ◌<◌}
use mathlib.Core.Bool.{Bool}
use lib.Dec.{eqb, eqb→eq}
use lib.ListN.{get_or}
use lib.Ieee as Ieee
use lib.Ieee.{binary64, of_bits, to_bits}
use lib.Ieee.Fits.{round-fits}
use lib.Ieee.Bits.{of_bits-to_bits}
use mathlib.Core.Bool.{false}
use Rattle.number.specs.Float.{nearest_to}
use Rattle.sincos.specs.Turn.{reciprocal_factorials, F, factorial}
use Rattle.sincos.specs.Statements.{Statements}
use Rattle.number.proofs.All.{all_at}

nearest_entry : ℕ → Bool
nearest_entry k = eqb (get_or reciprocal_factorials k 0) (to_bits binary64 (nearest_to 1 (factorial k)))

reciprocal_factorial : (k : ℕ) → k < 18 → F k ≡ nearest_to 1 (factorial k)
unfolding nearest_entry to_bits Ieee.round
reciprocal_factorial k h =
    ap (of_bits binary64) (eqb→eq _ _ (all_at nearest_entry 18 k h tt))
    ∙ of_bits-to_bits binary64 (nearest_to 1 (factorial k)) (round-fits binary64 false 1 (factorial k))

pub statements : Statements
statements = record { reciprocal_factorial = reciprocal_factorial }
