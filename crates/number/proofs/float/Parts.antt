-- A finite sum, difference or product has finite parts, and of finite parts none is a NaN: it is a fraction rounded. Assumes nothing.
use Rattle.std.proofs.Common.{◌≡◌, ℕ, Bool, true, false, cond, eqb, sym, refl, ap, ◌∙◌}
use mathlib.Core.Bool.{false≢true, beq, not-not}
use lib.Ieee as Ieee
use lib.Ieee.{Float, nan, inf, fin, unlike, is_nan}
use Rattle.number.specs.Float.{finite, ◌⊕◌, ◌⊖◌, ◌⊗◌, −◌}
use Rattle.number.proofs.float.Fraction.{Rounded, above, under, ⊖-cross}
use Rattle.number.proofs.float.Round.{round_no_nan}

-- ---- finite parts

neither : (p : Bool) (x y : Float) → finite x ≡ false → finite y ≡ false → finite (cond p x y) ≡ true → ⊥
neither true x y p q h = false≢true (sym p ∙ h)
neither false x y p q h = false≢true (sym q ∙ h)

pub finite_sum : (a b : Float) → finite (a ⊕ b) ≡ true → (finite a ≡ true) × (finite b ≡ true)
unfolding Ieee.add
finite_sum nan b h = absurd (false≢true h)
finite_sum (inf s) nan h = absurd (false≢true h)
finite_sum (inf s) (inf t) h = absurd (neither (beq s t) (inf s) nan refl refl h)
finite_sum (inf s) (fin t n d) h = absurd (false≢true h)
finite_sum (fin s m e) nan h = absurd (false≢true h)
finite_sum (fin s m e) (inf t) h = absurd (false≢true h)
finite_sum (fin s m e) (fin t n d) h = (refl, refl)

pub finite_negated : (a : Float) → finite (− a) ≡ finite a
unfolding Ieee.neg
finite_negated nan = refl
finite_negated (inf s) = refl
finite_negated (fin s m e) = refl

pub finite_product : (a b : Float) → finite (a ⊗ b) ≡ true → (finite a ≡ true) × (finite b ≡ true)
unfolding Ieee.mul
finite_product nan b h = absurd (false≢true h)
finite_product (inf s) nan h = absurd (false≢true h)
finite_product (inf s) (inf t) h = absurd (false≢true h)
finite_product (inf s) (fin t n d) h = absurd (neither (eqb n 0) nan (inf (unlike s t)) refl refl h)
finite_product (fin s m e) nan h = absurd (false≢true h)
finite_product (fin s m e) (inf t) h = absurd (neither (eqb m 0) nan (inf (unlike s t)) refl refl h)
finite_product (fin s m e) (fin t n d) h = (refl, refl)

-- ---- no NaN

pub difference_no_nan : (a b : Float) → finite a ≡ true → finite b ≡ true → is_nan (a ⊖ b) ≡ false
difference_no_nan a b p q = go (⊖-cross a b p q)
  where
    go : {x : Float} {u v c : ℕ} → Rounded x u v c → is_nan x ≡ false
    go (above h r) = ap is_nan r ∙ round_no_nan false _ _
    go (under h r) = ap is_nan r ∙ round_no_nan true _ _

pub negated_twice : (a : Float) → − (− a) ≡ a
unfolding Ieee.neg
negated_twice nan = refl
negated_twice (inf s) = ap inf (not-not s)
negated_twice (fin s m e) = λ i. fin (not-not s i) m e
