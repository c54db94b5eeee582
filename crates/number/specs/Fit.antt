-- 01, Refusal numbers: "not finite and above 0" (7), "not finite or below 0" (6). What a length, a sigma or a density has to be, and a sigma's information.
use Rattle.std.specs.Prelude.{Bool, ◌&&◌, Float}
use Rattle.number.specs.Float.{◌⊗◌, ◌⊘◌, ◌<ᶠ◌, ◌≤ᶠ◌, finite}
use Rattle.number.specs.Constants.{zero, one}

unfoldable pub finite_positive : Float → Bool
finite_positive x = finite x && zero <ᶠ x

unfoldable pub finite_not_negative : Float → Bool
finite_not_negative x = finite x && zero ≤ᶠ x

-- 1/s²
abbrev pub inverse_square : Float → Float
inverse_square s = one ⊘ (s ⊗ s)
