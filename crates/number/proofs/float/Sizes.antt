-- The size of an f64: it is an f64 too, negation does not change it, and a bound on it bounds the value on both sides. Assumes nothing.
use Rattle.std.proofs.Common.{◌≡◌, zero as none, suc, true, false, T, refl, ◌∙◌, arith}
use lib.Ieee as Ieee
use lib.Ieee.{Float, nan, inf, fin, up, down, fits, binary64, is_nan}
use Rattle.number.specs.Float.{finite, size, −◌, ◌≤ᶠ◌}
use Rattle.number.proofs.float.Monotone.{≤ᶠ-of_cross, ≤ᶠ-transitive, ≤ᶠ-negated, between_finite}
use Rattle.number.proofs.float.Parts.{finite_negated, negated_twice}

pub size_fits : (x : Float) → T (fits binary64 x) → T (fits binary64 (size x))
unfolding size fits
size_fits nan f = tt
size_fits (inf s) f = tt
size_fits (fin s none e) f = f
size_fits (fin s (suc m) e) f = f

pub size_negated : (x : Float) → size (− x) ≡ size x
unfolding size Ieee.neg
size_negated nan = refl
size_negated (inf s) = refl
size_negated (fin s m e) = refl

-- ---- a value whose size is at most b lies from −b to b

pub size_at_most : (x b : Float) → (size x ≤ᶠ b) ≡ true → (x ≤ᶠ b) ≡ true
unfolding size Ieee.le
size_at_most nan b h = h
size_at_most (inf true) b h = ≤ᶠ-transitive (inf true) (inf false) b refl h
size_at_most (inf false) b h = h
size_at_most (fin true m e) b h = ≤ᶠ-transitive (fin true m e) (fin false m e) b (≤ᶠ-of_cross (fin true m e) (fin false m e) refl refl (omega arith)) h
size_at_most (fin false m e) b h = h

pub size_at_least : (x b : Float) → (size x ≤ᶠ b) ≡ true → (− b ≤ᶠ x) ≡ true
size_at_least x b h = rw negated_twice at (≤ᶠ-negated b (− x) ∙ size_at_most (− x) b (rw size_negated h))

pub size_bounded : (x b : Float) → finite b ≡ true → (size x ≤ᶠ b) ≡ true → finite x ≡ true
size_bounded x b p h = between_finite (− b) x b (finite_negated b ∙ p) p (size_at_least x b h) (size_at_most x b h)
