-- 01, Square root, sine, cosine: "Sine and cosine take |x| ≤ 4: not finite is refused 2, above 4 is refused 8. One fixed evaluation, written
-- in docs/ first, with a short table of reciprocal factorials as constants, is part of this document's definition." The evaluation is docs/SINCOS.md's.
use Rattle.std.specs.Prelude.{ℕ, zero, suc, ◌*◌, Bool, not, ◌&&◌, List, [], ◌∷◌, get_or, Float, Result}
use Rattle.std.specs.Float.{binary64}
use Rattle.std.specs.Float.Ieee.{of_bits}
use Rattle.number.specs.Float.{◌⊖◌, ◌⊗◌, ◌⊘◌, −◌, ◌<ᶠ◌, ◌≤ᶠ◌, ◌when◌else◌, finite, size}
use Rattle.number.specs.Constants.{one, c2, c3, c4, c5, c2^-5, PI, H, L}
use Rattle.number.specs.Constants.{zero as +0}
use Rattle.number.specs.Said.{Said, gives, refusal, said_result}
use Rattle.sincos.specs.declared.SinCos.{SinCos}
use Rattle.sincos.specs.declared.Refusal.{Refusal}
use Rattle.sincos.specs.Refusals.{row_of}

-- ---- the table: F k is the f64 nearest to 1/k! (Statements.antt)

abbrev pub reciprocal_factorials : List ℕ
reciprocal_factorials =
    0x3ff0000000000000 ∷ 0x3ff0000000000000 ∷ 0x3fe0000000000000
    ∷ 0x3fc5555555555555 ∷ 0x3fa5555555555555 ∷ 0x3f81111111111111
    ∷ 0x3f56c16c16c16c17 ∷ 0x3f2a01a01a01a01a ∷ 0x3efa01a01a01a01a
    ∷ 0x3ec71de3a556c734 ∷ 0x3e927e4fb7789f5c ∷ 0x3e5ae64567f544e4
    ∷ 0x3e21eed8eff8d898 ∷ 0x3de6124613a86d09 ∷ 0x3da93974a8c07c9d
    ∷ 0x3d6ae7f3e733b81f ∷ 0x3d2ae7f3e733b81f ∷ 0x3ce952c77030ad4a
    ∷ []

abbrev pub F : ℕ → Float
F k = of_bits binary64 (get_or reciprocal_factorials k 0)

abbrev pub factorial : ℕ → ℕ
factorial zero = 1
factorial (suc k) = suc k * factorial k

-- ---- step 2: the short kernel, where |x| ≤ 2^−5

unfoldable pub short_kernel : Float → SinCos
short_kernel x =
    let z = x ⊗ x in
    record {
      sin = x ⊖ x ⊗ (z ⊗ (F 3 ⊖ z ⊗ (F 5 ⊖ z ⊗ F 7)));
      cos = one ⊖ z ⊗ (F 2 ⊖ z ⊗ (F 4 ⊖ z ⊗ F 6));
    }

-- ---- step 4: the long kernel

unfoldable pub long_kernel : Float → SinCos
long_kernel r =
    let z = r ⊗ r in
    record {
      sin = r ⊖ r ⊗ (z ⊗ (F 3 ⊖ z ⊗ (F 5 ⊖ z ⊗ (F 7 ⊖ z ⊗ (F 9 ⊖ z ⊗ (F 11 ⊖ z ⊗ (F 13 ⊖ z ⊗ (F 15 ⊖ z ⊗ F 17))))))));
      cos = one ⊖ z ⊗ (F 2 ⊖ z ⊗ (F 4 ⊖ z ⊗ (F 6 ⊖ z ⊗ (F 8 ⊖ z ⊗ (F 10 ⊖ z ⊗ (F 12 ⊖ z ⊗ (F 14 ⊖ z ⊗ F 16)))))));
    }

-- ---- steps 3 and 5: the angle a from zero up less q quarter turns, and the quarter that q names

unfoldable pub less_quarters : Float → Float → Float
less_quarters a q = a ⊖ q ⊗ H ⊖ q ⊗ L

abbrev pub quarter0 : SinCos → SinCos
quarter0 v = v

abbrev pub quarter1 : SinCos → SinCos
quarter1 v = record { sin = v.cos; cos = − v.sin }

abbrev pub quarter2 : SinCos → SinCos
quarter2 v = record { sin = − v.sin; cos = − v.cos }

abbrev pub quarter3 : SinCos → SinCos
quarter3 v = record { sin = − v.cos; cos = v.sin }

unfoldable pub from_zero_up : Float → SinCos
from_zero_up a =
    quarter0 (long_kernel (less_quarters a +0)) when a ≤ᶠ PI ⊘ c4 else
    quarter1 (long_kernel (less_quarters a one)) when a ≤ᶠ c3 ⊗ PI ⊘ c4 else
    quarter2 (long_kernel (less_quarters a c2)) when a ≤ᶠ c5 ⊗ PI ⊘ c4 else
    quarter3 (long_kernel (less_quarters a c3))

-- the sine is odd, the cosine even
abbrev pub mirrored : SinCos → SinCos
mirrored v = record { sin = − v.sin; cos = v.cos }

-- ---- the evaluation, and what `sin_cos` says

unfoldable pub turn_of : Float → SinCos
turn_of x =
    short_kernel x when size x ≤ᶠ c2^-5 else
    mirrored (from_zero_up (size x)) when x <ᶠ +0 else
    from_zero_up (size x)

-- 01, Refusal numbers: "a finite angle above 4 rad in size"
unfoldable pub above_four : Float → Bool
above_four x = finite x && c4 <ᶠ size x

unfoldable pub sin_cos_of : Float → Said SinCos
sin_cos_of x =
    refusal 2 when not (finite x) else
    refusal 8 when above_four x else
    gives (turn_of x)

abbrev pub said_turned : Result SinCos Refusal → Said SinCos
said_turned r = said_result row_of r
