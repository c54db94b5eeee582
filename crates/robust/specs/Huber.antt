-- 01, Information of wheel factors: "The first Huber limit is kept unless it is absent, or a second is present and is below it, or is a number where the
-- first is NaN."
use Rattle.std.specs.Prelude.{Bool, true, not, ◌&&◌, ◌||◌, Float, Option, Some, None}
use Rattle.std.specs.Float.Ieee as Ieee
use Rattle.number.specs.Float.{◌<ᶠ◌, ◌when◌else◌}
use Rattle.number.specs.Fit.{finite_positive}

-- "below it, or is a number where the first is NaN"
unfoldable pub tighter : Float → Float → Bool
tighter a b = b <ᶠ a || Ieee.is_nan a && not (Ieee.is_nan b)

abbrev pub joined_of : Option Float → Option Float → Option Float
joined_of None second = second
joined_of (Some a) None = Some a
joined_of (Some a) (Some b) = Some b when tighter a b else Some a

-- "a positive Huber threshold if any"
abbrev pub valid_huber : Option Float → Bool
valid_huber None = true
valid_huber (Some a) = finite_positive a
