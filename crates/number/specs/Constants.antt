-- The constants of 01, each by its bits, and which fraction each is nearest to.
use Rattle.std.specs.Prelude.{◌≡◌, ◌-◌, ◌*◌, ◌^◌, false, from_bits, refl, Float}
use Rattle.std.specs.Float.Ieee as Ieee
use Rattle.std.specs.Float.{inf, binary64}
use Rattle.number.specs.Float.{nearest_to}

abbrev pub zero : Float
zero = from_bits binary64 0

abbrev pub half : Float
half = from_bits binary64 0x3fe0000000000000

abbrev pub one : Float
one = from_bits binary64 0x3ff0000000000000

abbrev pub c2 : Float
c2 = from_bits binary64 0x4000000000000000

abbrev pub c3 : Float
c3 = from_bits binary64 0x4008000000000000

abbrev pub c4 : Float
c4 = from_bits binary64 0x4010000000000000

abbrev pub c5 : Float
c5 = from_bits binary64 0x4014000000000000

abbrev pub c6 : Float
c6 = from_bits binary64 0x4018000000000000

abbrev pub c8 : Float
c8 = from_bits binary64 0x4020000000000000

abbrev pub c12 : Float
c12 = from_bits binary64 0x4028000000000000

abbrev pub c24 : Float
c24 = from_bits binary64 0x4038000000000000

abbrev pub c30 : Float
c30 = from_bits binary64 0x403e000000000000

abbrev pub c120 : Float
c120 = from_bits binary64 0x405e000000000000

abbrev pub c144 : Float
c144 = from_bits binary64 0x4062000000000000

abbrev pub c720 : Float
c720 = from_bits binary64 0x4086800000000000

abbrev pub c5040 : Float
c5040 = from_bits binary64 0x40b3b00000000000

abbrev pub c0·002 : Float
c0·002 = from_bits binary64 0x3f60624dd2f1a9fc

abbrev pub c9·81 : Float
c9·81 = from_bits binary64 0x40239eb851eb851f

abbrev pub c21·03 : Float
c21·03 = from_bits binary64 0x403507ae147ae148

abbrev pub c0·05 : Float
c0·05 = from_bits binary64 0x3fa999999999999a

-- the longest and the widest substep, in seconds and in radians
abbrev pub c0·01 : Float
c0·01 = from_bits binary64 0x3f847ae147ae147b

abbrev pub c0·02 : Float
c0·02 = from_bits binary64 0x3f947ae147ae147b

abbrev pub c1+1e-9 : Float
c1+1e-9 = from_bits binary64 0x3ff000000044b830

abbrev pub c1e-3 : Float
c1e-3 = from_bits binary64 0x3f50624dd2f1a9fc

abbrev pub c1e-6 : Float
c1e-6 = from_bits binary64 0x3eb0c6f7a0b5ed8d

abbrev pub c1e-9 : Float
c1e-9 = from_bits binary64 0x3e112e0be826d695

-- where the short kernel of sine and cosine ends
abbrev pub c2^-5 : Float
c2^-5 = from_bits binary64 0x3fa0000000000000

abbrev pub PI : Float
PI = from_bits binary64 0x400921fb54442d18

abbrev pub TAU : Float
TAU = from_bits binary64 0x401921fb54442d18

-- a quarter turn, and what it lacks of π/2
abbrev pub H : Float
H = from_bits binary64 0x3ff921fb54442d18

abbrev pub L : Float
L = from_bits binary64 0x3c91a62633145c07

abbrev pub infinity : Float
infinity = from_bits binary64 0x7ff0000000000000

-- ---- each is the f64 nearest to its fraction: π is given by 36 digits, π/2 less H by 51
pub record Nearest : Type 0 where
  pub zero_is : zero ≡ nearest_to 0 1
  pub half_is : half ≡ nearest_to 1 2
  pub one_is : one ≡ nearest_to 1 1
  pub c2-is : c2 ≡ nearest_to 2 1
  pub c3-is : c3 ≡ nearest_to 3 1
  pub c4-is : c4 ≡ nearest_to 4 1
  pub c5-is : c5 ≡ nearest_to 5 1
  pub c6-is : c6 ≡ nearest_to 6 1
  pub c8-is : c8 ≡ nearest_to 8 1
  pub c12-is : c12 ≡ nearest_to 12 1
  pub c24-is : c24 ≡ nearest_to 24 1
  pub c30-is : c30 ≡ nearest_to 30 1
  pub c120-is : c120 ≡ nearest_to 120 1
  pub c144-is : c144 ≡ nearest_to 144 1
  pub c720-is : c720 ≡ nearest_to 720 1
  pub c5040-is : c5040 ≡ nearest_to 5040 1
  pub c0·002-is : c0·002 ≡ nearest_to 2 1000
  pub c9·81-is : c9·81 ≡ nearest_to 981 100
  pub c21·03-is : c21·03 ≡ nearest_to 2103 100
  pub c0·05-is : c0·05 ≡ nearest_to 5 100
  pub c0·01-is : c0·01 ≡ nearest_to 1 100
  pub c0·02-is : c0·02 ≡ nearest_to 2 100
  pub c1+1e-9-is : c1+1e-9 ≡ nearest_to 1000000001 (10 ^ 9)
  pub c1e-3-is : c1e-3 ≡ nearest_to 1 (10 ^ 3)
  pub c1e-6-is : c1e-6 ≡ nearest_to 1 (10 ^ 6)
  pub c1e-9-is : c1e-9 ≡ nearest_to 1 (10 ^ 9)
  pub c2^-5-is : c2^-5 ≡ nearest_to 1 (2 ^ 5)
  pub PI-is : PI ≡ nearest_to 314159265358979323846264338327950288 (10 ^ 35)
  pub TAU-is : TAU ≡ nearest_to (2 * 314159265358979323846264338327950288) (10 ^ 35)
  pub H-is : H ≡ nearest_to 314159265358979323846264338327950288 (2 * 10 ^ 35)
  pub L-is : L ≡ nearest_to (157079632679489661923132169163975144209858469968755 * 2 ^ 52 - 0x1921fb54442d18 * 10 ^ 50) (10 ^ 50 * 2 ^ 52)
  pub infinity_is : infinity ≡ inf false

pub nearest : Nearest
unfolding Ieee.of_bits Ieee.round
nearest = record {
  zero_is = refl;
  half_is = refl;
  one_is = refl;
  c2-is = refl;
  c3-is = refl;
  c4-is = refl;
  c5-is = refl;
  c6-is = refl;
  c8-is = refl;
  c12-is = refl;
  c24-is = refl;
  c30-is = refl;
  c120-is = refl;
  c144-is = refl;
  c720-is = refl;
  c5040-is = refl;
  c0·002-is = refl;
  c9·81-is = refl;
  c21·03-is = refl;
  c0·05-is = refl;
  c0·01-is = refl;
  c0·02-is = refl;
  c1+1e-9-is = refl;
  c1e-3-is = refl;
  c1e-6-is = refl;
  c1e-9-is = refl;
  c2^-5-is = refl;
  PI-is = refl;
  TAU-is = refl;
  H-is = refl;
  L-is = refl;
  infinity_is = refl;
}
