-- 02, W-201: the difference of two counts of a counter that turns over at 16, 24, 32 or 64 bits, and which counts it can show. Width 64 is 01's, The wheel step:
-- "Tick difference is taken modulo 2^64 as a signed number. From 2^63−1 to −2^63 it is 1." W-209: the sum of such differences.
use Rattle.std.specs.Prelude.{◌≡◌, ℕ, suc, ◌-◌, ◌%◌, ◌^◌, ◌<◌, Bool, ◌&&◌, ◌||◌, ltb, leb, List, [], ◌∷◌, ℤ, pos, negsuc, ◌+ℤ◌, ◌-ℤ◌, nat_le, nat_lt}
use Rattle.number.specs.Float.{◌when◌else◌}

-- ---- whole numbers of w bits

-- z lies from −2^(w−1) to 2^(w−1) − 1; `negsuc n` is −1 − n
abbrev pub IsSigned : (w : ℕ) → ℤ → Type 0
IsSigned w (pos n) = n < 2 ^ (w - 1)
IsSigned w (negsuc n) = n < 2 ^ (w - 1)

abbrev pub IsI64 : ℤ → Type 0
IsI64 z = IsSigned 64 z

-- z modulo 2^w, from 0 to 2^w − 1
abbrev pub residue : (w : ℕ) → ℤ → ℕ
residue w (pos n) = n % 2 ^ w
residue w (negsuc n) = 2 ^ w - 1 - n % 2 ^ w

-- the signed number from −2^(w−1) to 2^(w−1) − 1 that has the residue n
abbrev pub signed : (w : ℕ) → ℕ → ℤ
signed w n = pos n when ltb n (2 ^ (w - 1)) else negsuc (2 ^ w - suc n)

-- ---- the difference: "the signed one modulo 2^width, from −2^(width−1) upward"

-- d is the difference from one count to the other
pub record IsDifference (w : ℕ) (from to d : ℤ) : Type 0 where
  pub congruent : residue w d ≡ residue w (to -ℤ from)
  pub in_range : IsSigned w d

-- a width is from 1 to 64, and any other reads as 64: no answer of a drive rests on that, since such a one is refused 7
abbrev pub width_of : ℕ → ℕ
width_of width = width when leb 1 width && nat_le width 64 else 64

-- the difference as a function that computes; that it is one, and no other number is: Statements.antt
unfoldable pub tick_difference : (width : ℕ) → ℤ → ℤ → ℤ
tick_difference width from to = let w = width_of width in signed w (residue w (to -ℤ from))

-- 01's own: "taken modulo 2^64 as a signed number"
abbrev pub difference64 : ℤ → ℤ → ℤ
difference64 from to = signed 64 (residue 64 (to -ℤ from))

-- ---- "Below 64 a tick must lie in 0 to 2^width−1"

unfoldable pub tick_in_range : (width : ℕ) → ℤ → Bool
tick_in_range width (pos n) = nat_le 64 width || nat_lt n (2 ^ width)
tick_in_range width (negsuc n) = nat_le 64 width

-- ---- 02, W-209: "all signed tick differences .. add up, modulo 2^width, to the newest count less the first"

-- of a list of counts, which has a first one: the difference from each to the next, added up as whole numbers
unfoldable pub clicks : (width : ℕ) → (first : ℤ) → List ℤ → ℤ
clicks width first [] = pos 0
clicks width first (next ∷ later) = tick_difference width first next +ℤ clicks width next later

unfoldable pub newest : (first : ℤ) → List ℤ → ℤ
newest first [] = first
newest first (next ∷ later) = newest next later

abbrev pub AddUp : (width : ℕ) → (first : ℤ) → List ℤ → Type 0
AddUp width first later = residue width (clicks width first later) ≡ residue width (newest first later -ℤ first)
