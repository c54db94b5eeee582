-- f64s that have no minus sign: a size has none, a product of two such has none, and none of them is below a zero, of either sign. Assumes nothing.
use Rattle.std.proofs.Common.{◌≡◌, ℕ, ◌*◌, Bool, true, false, cond, not, T, eqb, sym, refl, ap, ◌∙◌, zero-mul, arith, le-ltb, eqb-true}
use mathlib.Core.Bool.{false≢true}
use lib.Ieee as Ieee
use lib.Ieee.{Float, nan, inf, fin, up, down, round, binary64}
use lib.Ieee.Positive.{positive}
use Rattle.number.specs.Float.{size, ◌⊗◌, ◌<ᶠ◌, ◌=ᶠ◌}
use Rattle.number.specs.Constants.{zero}
use Rattle.number.proofs.float.Round.{Signed, finite_size, infinite_size, round_signed}
use Rattle.number.proofs.float.Zero.{is_zero}

abbrev pub unsigned : Float → Bool
unsigned nan = true
unsigned (inf s) = not s
unsigned (fin s m e) = not s

pub size_unsigned : (x : Float) → unsigned (size x) ≡ true
unfolding size
size_unsigned nan = refl
size_unsigned (inf s) = refl
size_unsigned (fin s m e) = refl

pub positive_unsigned : (x : Float) → T (positive x) → unsigned x ≡ true
positive_unsigned nan p = absurd p
positive_unsigned (inf s) p = absurd p
positive_unsigned (fin true m e) p = absurd p
positive_unsigned (fin false m e) p = refl

rounded_unsigned : (a c : ℕ) → unsigned (round binary64 false a c) ≡ true
rounded_unsigned a c = go (round_signed a c)
  where
    go : Signed (λ s. round binary64 s a c) → unsigned (round binary64 false a c) ≡ true
    go (finite_size m e at) = ap unsigned (at false)
    go (infinite_size at) = ap unsigned (at false)

nan_or_infinite : (b : Bool) → unsigned (cond b nan (inf false)) ≡ true
nan_or_infinite true = refl
nan_or_infinite false = refl

pub product_unsigned : (a b : Float) → unsigned a ≡ true → unsigned b ≡ true → unsigned (a ⊗ b) ≡ true
unfolding Ieee.mul
product_unsigned nan b p q = refl
product_unsigned (inf true) b p q = absurd (false≢true p)
product_unsigned (inf false) nan p q = refl
product_unsigned (inf false) (inf true) p q = absurd (false≢true q)
product_unsigned (inf false) (inf false) p q = refl
product_unsigned (inf false) (fin true n d) p q = absurd (false≢true q)
product_unsigned (inf false) (fin false n d) p q = nan_or_infinite (eqb n 0)
product_unsigned (fin true m e) b p q = absurd (false≢true p)
product_unsigned (fin false m e) nan p q = refl
product_unsigned (fin false m e) (inf true) p q = absurd (false≢true q)
product_unsigned (fin false m e) (inf false) p q = nan_or_infinite (eqb m 0)
product_unsigned (fin false m e) (fin true n d) p q = absurd (false≢true q)
product_unsigned (fin false m e) (fin false n d) p q = rounded_unsigned (m * up e * (n * up d)) (down e * down d)

pub not_below_zero : (a z : Float) → unsigned a ≡ true → (z =ᶠ zero) ≡ true → (a <ᶠ z) ≡ false
unfolding Ieee.lt Ieee.eq Ieee.of_bits
not_below_zero nan z p h = refl
not_below_zero (inf true) z p h = absurd (false≢true p)
not_below_zero (inf false) nan p h = refl
not_below_zero (inf false) (inf t) p h = refl
not_below_zero (inf false) (fin t n d) p h = refl
not_below_zero (fin true m e) z p h = absurd (false≢true p)
not_below_zero (fin false m e) nan p h = refl
not_below_zero (fin false m e) (inf t) p h = absurd (false≢true h)
not_below_zero (fin false m e) (fin true n d) p h = refl
not_below_zero (fin false m e) (fin false n d) p h =
    let none : n ≡ 0 = eqb-true n 0 (sym (is_zero false n d) ∙ h) in
    let nothing : n * up d * down e ≡ 0 = ap (λ (k : ℕ). k * up d * down e) none ∙ ap (λ (k : ℕ). k * down e) (zero-mul (up d)) ∙ zero-mul (down e) in
    le-ltb (m * up e * down d) (n * up d * down e) (omega (arith, nothing))
