-- The words of the private functions of `root`: the root of a bit pattern, with no float.
use Rattle.std.specs.Prelude.{◌≡◌, ℕ, ◌+◌, ◌-◌, ◌*◌, ◌^◌, ◌≤◌, ◌<◌}
use Rattle.root.specs.Root.{pattern_grains, square}

-- `IsRoot`, of patterns
pub record RootBits (b p : ℕ) : Type 0 where
  pub some : 0 < p
  pub few : p < 0x7ff0_0000_0000_0000
  pub over : square (pattern_grains (p - 1) + pattern_grains p) < pattern_grains b * 2 ^ 1076
  pub under : pattern_grains b * 2 ^ 1076 < square (pattern_grains p + pattern_grains (p + 1))

-- the largest number whose square is at most n
pub record Floor (n q : ℕ) : Type 0 where
  pub reached : q * q ≤ n
  pub short : n < (q + 1) * (q + 1)

-- m · 4^h is a given number, m having 53 or 54 binary digits, and not 54 ones
pub record Scale (n m h : ℕ) : Type 0 where
  pub same : m * (2 ^ h * 2 ^ h) ≡ n
  pub large : 2 ^ 52 ≤ m
  pub small : m + 2 ≤ 2 ^ 54
