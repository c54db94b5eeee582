-- What 01 states of the table of sine and cosine. It is proved in proofs/Statements.antt.
use Rattle.std.specs.Prelude.{ℕ, ◌<◌, ◌≡◌}
use Rattle.number.specs.Float.{nearest_to}
use Rattle.sincos.specs.Turn.{F, factorial}

pub record Statements : Type 0 where
  -- "a short table of reciprocal factorials as constants": each entry is the f64 nearest to its fraction
  pub reciprocal_factorial : (k : ℕ) → k < 18 → F k ≡ nearest_to 1 (factorial k)
