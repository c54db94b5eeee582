-- What 01 states of the square root, as one record. It is proved in proofs/Statements.antt.
use Rattle.std.specs.Prelude.{◌+◌, ◌*◌, ◌^◌, ◌<◌, ◌≡◌, T, Float}
use Rattle.std.specs.Float.Ieee.Positive.{positive}
use Rattle.number.specs.Float.{IsF64}
use Rattle.root.specs.Root.{IsRoot, grains, root_of, square}

pub record Statements : Type 0 where
  -- "For finite x above 0 the root is the one f64 for which x lies strictly between the squares of the midpoints to its neighbours, as whole-number inequalities."
  pub root_is : (x : Float) → IsF64 x → T (positive x) → IsRoot x (root_of x)
  pub root_only : (x r s : Float) → IsRoot x r → IsRoot x s → r ≡ s
  -- so no other f64 y above zero is nearer: x lies on r's side of the square of the midpoint of r and y
  pub nearer_than_below : (x r y : Float) → IsRoot x r → IsF64 y → T (positive y) → grains y < grains r → square (grains y + grains r) < grains x * 2 ^ 1076
  pub nearer_than_above : (x r y : Float) → IsRoot x r → IsF64 y → T (positive y) → grains r < grains y → grains x * 2 ^ 1076 < square (grains r + grains y)
