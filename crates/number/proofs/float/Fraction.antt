-- A finite f64 as the fraction (gain - loss) / den of natural numbers, one of gain and loss being 0. Two of them are compared and subtracted over the common
-- denominator, what is lost on one side being carried to the other: one form for the four choices of signs. Assumes nothing.
use Rattle.std.proofs.Common.{◌≡◌, ℕ, ◌+◌, ◌-◌, ◌*◌, ◌≤◌, Bool, true, false, cond, not, ◌&&◌, eqb, ltb, sym, refl, ap, ◌∙◌, add-zero, add_comm, zero-add, zero-mul, arith, ltb-false, ltb-true, le-ltb, eq-eqb, ne_eqb, eqb-true}
use mathlib.Core.Bool.{and-true, false≢true}
use borrow.Author.Tests.{eqb-false}
use lib.Ieee as Ieee
use lib.Ieee.{Float, nan, inf, fin, up, down, below, level, sum, round, binary64}
use lib.Ieee.Positive.{den}
use Rattle.number.specs.Float.{finite, ◌⊖◌, ◌<ᶠ◌, ◌=ᶠ◌}
use Rattle.number.proofs.float.Commute.{sum_turned}

-- what ±a has above zero, and what it lacks to zero
abbrev plus : Bool → ℕ → ℕ
plus s a = cond s 0 a

abbrev minus : Bool → ℕ → ℕ
minus s a = cond s a 0

abbrev pub gain : Float → ℕ
gain nan = 0
gain (inf s) = 0
gain (fin s m e) = plus s (m * up e)

abbrev pub loss : Float → ℕ
loss nan = 0
loss (inf s) = 0
loss (fin s m e) = minus s (m * up e)

-- the side of a, once it and b have a common denominator and what each lacks is carried to the other
abbrev pub cross : Float → Float → ℕ
cross a b = gain a * den b + loss b * den a

-- the common denominator, and how far a lies above b in units of it: 0 where it lies below
abbrev pub common : Float → Float → ℕ
common a b = den a * den b

abbrev pub excess : Float → Float → ℕ
excess a b = cross a b - cross b a

-- ---- the order and equality

below_sides : (s : Bool) (a p : ℕ) (t : Bool) (b q : ℕ) → below s (a * q) t (b * p) ≡ ltb (plus s a * q + minus t b * p) (plus t b * p + minus s a * q)
below_sides false a p false b q = simp (zero-mul, add-zero)
below_sides false a p true b q = sym (le-ltb (a * q + b * p) (0 * p + 0 * q) (omega arith))
below_sides true a p false b q = ap (ltb 0) (add_comm (a * q) (b * p)) ∙ simp zero-mul
below_sides true a p true b q = simp (zero-mul, zero-add)

-- a test that passes exactly where u and v are equal
pub same_test : (p : Bool) (u v : ℕ) → (p ≡ true → u ≡ v) → (p ≡ false → u ≡ v → ⊥) → p ≡ eqb u v
same_test true u v equal apart = sym (eq-eqb u v (equal refl))
same_test false u v equal apart = sym (ne_eqb u v (apart refl))

-- numbers of opposite signs are equal where both are zero
opposite : (a b u v : ℕ) → (a + b ≡ 0 → u ≡ v) → (u ≡ v → a + b ≡ 0) → (eqb a b && eqb a 0) ≡ eqb u v
opposite a b u v to from = go (eqb a b) (eqb a 0) refl refl
  where
    go : (p q : Bool) → eqb a b ≡ p → eqb a 0 ≡ q → (p && q) ≡ eqb u v
    go true true h k = sym (eq-eqb u v (to (omega (arith, eqb-true))))
    go true false h k = sym (ne_eqb u v (λ e. eqb-false a 0 k (omega (arith, from e))))
    go false q h k = sym (ne_eqb u v (λ e. eqb-false a b h (omega (arith, from e))))

level_sides : (s : Bool) (a p : ℕ) (t : Bool) (b q : ℕ) → level s (a * q) t (b * p) ≡ eqb (plus s a * q + minus t b * p) (plus t b * p + minus s a * q)
level_sides false a p false b q = simp (zero-mul, add-zero, and-true)
level_sides false a p true b q = opposite (a * q) (b * p) (a * q + b * p) (0 * p + 0 * q) (omega arith) (omega arith)
level_sides true a p false b q = opposite (a * q) (b * p) (0 * q + 0 * p) (b * p + a * q) (omega arith) (omega arith)
level_sides true a p true b q = and-true (eqb (a * q) (b * p)) ∙ same_test (eqb (a * q) (b * p)) (0 * q + b * p) (0 * p + a * q) (λ h. omega (arith, eqb-true)) (λ h e. omega (arith, eqb-false))

pub <ᶠ-cross : (a b : Float) → finite a ≡ true → finite b ≡ true → (a <ᶠ b) ≡ ltb (cross a b) (cross b a)
unfolding Ieee.lt
<ᶠ-cross nan b p q = absurd (false≢true p)
<ᶠ-cross (inf s) b p q = absurd (false≢true p)
<ᶠ-cross (fin s m e) nan p q = absurd (false≢true q)
<ᶠ-cross (fin s m e) (inf t) p q = absurd (false≢true q)
<ᶠ-cross (fin s m e) (fin t n d) p q = below_sides s (m * up e) (down e) t (n * up d) (down d)

pub =ᶠ-cross : (a b : Float) → finite a ≡ true → finite b ≡ true → (a =ᶠ b) ≡ eqb (cross a b) (cross b a)
unfolding Ieee.eq
=ᶠ-cross nan b p q = absurd (false≢true p)
=ᶠ-cross (inf s) b p q = absurd (false≢true p)
=ᶠ-cross (fin s m e) nan p q = absurd (false≢true q)
=ᶠ-cross (fin s m e) (inf t) p q = absurd (false≢true q)
=ᶠ-cross (fin s m e) (fin t n d) p q = level_sides s (m * up e) (down e) t (n * up d) (down d)

-- ---- the difference

-- x is (u - v) / c rounded
pub data Rounded (x : Float) (u v c : ℕ) : Type 0 where
  above : v ≤ u → x ≡ round binary64 false (u - v) c → Rounded x u v c
  under : u ≤ v → x ≡ round binary64 true (v - u) c → Rounded x u v c

like_signs : (a b c : ℕ) → Rounded (sum binary64 false a true b c) a b c
unfolding sum
like_signs a b c = go (ltb a b) refl
  where
    go : (p : Bool) → ltb a b ≡ p → Rounded (cond p (round binary64 true (b - a) c) (round binary64 false (a - b) c)) a b c
    go true h = under (omega (arith, ltb-true)) refl
    go false h = above (omega (arith, ltb-false)) refl

rounded_sides : (s : Bool) (a p : ℕ) (t : Bool) (b q c : ℕ) → Rounded (sum binary64 s (a * q) (not t) (b * p) c) (plus s a * q + minus t b * p) (plus t b * p + minus s a * q) c
unfolding sum
rounded_sides false a p false b q c = simp (zero-mul, add-zero) (like_signs (a * q) (b * p) c)
rounded_sides false a p true b q c = above (omega arith) (ap (λ (k : ℕ). round binary64 false k c) (omega arith))
rounded_sides true a p false b q c = under (omega arith) (ap (λ (k : ℕ). round binary64 true k c) (omega arith))
rounded_sides true a p true b q c = simp (zero-mul, zero-add, sum_turned) (like_signs (b * p) (a * q) c)

pub ⊖-cross : (a b : Float) → finite a ≡ true → finite b ≡ true → Rounded (a ⊖ b) (cross a b) (cross b a) (common a b)
unfolding Ieee.sub
⊖-cross nan b p q = absurd (false≢true p)
⊖-cross (inf s) b p q = absurd (false≢true p)
⊖-cross (fin s m e) nan p q = absurd (false≢true q)
⊖-cross (fin s m e) (inf t) p q = absurd (false≢true q)
⊖-cross (fin s m e) (fin t n d) p q = rounded_sides s (m * up e) (down e) t (n * up d) (down d) (down e * down d)
