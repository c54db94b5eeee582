-- Roots that the checker works out from the definition: of the smallest f64 and of the largest, of 2, of a square and of the f64s beside it, and
-- what is refused. Assumes nothing.
use Prim.Native.Nat.{ℕ}
use mathlib.Core.Path.{◌≡◌, refl}
use mathlib.Core.Bool.{false}
use lib.Ieee as Ieee
use lib.Ieee.{Float, binary64, of_bits, nan, inf}
use Rattle.number.specs.Said.{gives, refusal}
use Rattle.root.specs.Root.{sqrt_of, root_of, grains}

abbrev f64 : ℕ → Float
f64 b = of_bits binary64 b

pub record Examples : Type 0 where
  pub least : sqrt_of (f64 1) ≡ gives (f64 0x1e60_0000_0000_0000)
  pub most : sqrt_of (f64 0x7fef_ffff_ffff_ffff) ≡ gives (f64 0x5fef_ffff_ffff_ffff)
  pub two : sqrt_of (f64 0x4000_0000_0000_0000) ≡ gives (f64 0x3ff6_a09e_667f_3bcd)
  pub nine : sqrt_of (f64 0x4022_0000_0000_0000) ≡ gives (f64 0x4008_0000_0000_0000)
  pub before_one : sqrt_of (f64 0x3fef_ffff_ffff_ffff) ≡ gives (f64 0x3fef_ffff_ffff_ffff)
  pub minus_zero : sqrt_of (f64 0x8000_0000_0000_0000) ≡ gives (f64 0x8000_0000_0000_0000)
  pub infinite : sqrt_of (inf false) ≡ gives (inf false)
  pub minus_one : sqrt_of (f64 0xbff0_0000_0000_0000) ≡ refusal 2
  pub not_a_number : sqrt_of nan ≡ refusal 2

pub examples : Examples
unfolding sqrt_of root_of grains Ieee.of_bits Ieee.eq Ieee.lt
examples = record {
  least = refl;
  most = refl;
  two = refl;
  nine = refl;
  before_one = refl;
  minus_zero = refl;
  infinite = refl;
  minus_one = refl;
  not_a_number = refl;
}
