-- The order of f64s, the infinities included: strict, and total where no NaN stands. Two finite values are in the order of the fractions that they are. Assumes nothing.
use Rattle.std.proofs.Common.{◌≡◌, ℕ, ◌+◌, ◌*◌, ◌<◌, ◌≤◌, true, false, not, sym, refl, ap, ◌∙◌, true≢false, mul_assoc, mul_comm, add-mul, lt_of_mul-lt-mul_right, mul-lt-mul_of_pos_right, mul_left_comm, arith, ltb-false, ltb-true, le-ltb, lt-ltb, eq-eqb}
use mathlib.Core.Bool.{false≢true, not-not}
use borrow.Author.Tests.{eqb-false}
use lib.Ieee as Ieee
use lib.Ieee.{Float, nan, inf, fin, is_nan}
use lib.Ieee.Positive.{den, den_pos}
use Rattle.number.specs.Float.{◌<ᶠ◌, ◌=ᶠ◌}
use Rattle.number.proofs.float.Fraction.{gain, loss, cross, <ᶠ-cross, =ᶠ-cross}

pub <ᶠ-irreflexive : (a : Float) → (a <ᶠ a) ≡ false
unfolding Ieee.lt
<ᶠ-irreflexive nan = refl
<ᶠ-irreflexive (inf true) = refl
<ᶠ-irreflexive (inf false) = refl
<ᶠ-irreflexive (fin s m e) = let a = fin s m e in <ᶠ-cross a a refl refl ∙ le-ltb (cross a a) (cross a a) (omega arith)

-- only a NaN differs from itself
pub =ᶠ-reflexive : (a : Float) → (a =ᶠ a) ≡ not (is_nan a)
unfolding Ieee.eq is_nan
=ᶠ-reflexive nan = refl
=ᶠ-reflexive (inf true) = refl
=ᶠ-reflexive (inf false) = refl
=ᶠ-reflexive (fin s m e) = let a = fin s m e in =ᶠ-cross a a refl refl ∙ eq-eqb (cross a a) (cross a a) refl

-- how a program tests for a NaN
pub differs_from_itself : (a : Float) → Ieee.ne a a ≡ is_nan a
unfolding Ieee.ne
differs_from_itself a = ap not (=ᶠ-reflexive a) ∙ not-not (is_nan a)

-- where no NaN stands, a value that is neither below another nor equal to it is above it
pub <ᶠ-connected : (a b : Float) → is_nan a ≡ false → is_nan b ≡ false → (a <ᶠ b) ≡ false → (a =ᶠ b) ≡ false → (b <ᶠ a) ≡ true
unfolding Ieee.lt Ieee.eq is_nan
<ᶠ-connected nan b p q h k = absurd (true≢false p)
<ᶠ-connected (inf s) nan p q h k = absurd (true≢false q)
<ᶠ-connected (inf true) (inf true) p q h k = absurd (true≢false k)
<ᶠ-connected (inf true) (inf false) p q h k = absurd (true≢false h)
<ᶠ-connected (inf false) (inf true) p q h k = refl
<ᶠ-connected (inf false) (inf false) p q h k = absurd (true≢false k)
<ᶠ-connected (inf true) (fin t n d) p q h k = absurd (true≢false h)
<ᶠ-connected (inf false) (fin t n d) p q h k = refl
<ᶠ-connected (fin s m e) nan p q h k = absurd (true≢false q)
<ᶠ-connected (fin s m e) (inf true) p q h k = refl
<ᶠ-connected (fin s m e) (inf false) p q h k = absurd (true≢false h)
<ᶠ-connected (fin s m e) (fin t n d) p q h k =
    let a = fin s m e in
    let b = fin t n d in
    let l : cross b a ≤ cross a b = ltb-false (cross a b) (cross b a) (sym (<ᶠ-cross a b refl refl) ∙ h) in
    let r : cross a b ≡ cross b a → ⊥ = eqb-false (cross a b) (cross b a) (sym (=ᶠ-cross a b refl refl) ∙ k) in
    <ᶠ-cross b a refl refl ∙ lt-ltb (cross b a) (cross a b) (omega arith)

-- ---- transitivity

ruleset products = (add-mul, mul_assoc, mul_comm, mul_left_comm)

-- of (a - b) / p < (a' - b') / q < (a'' - b'') / r the first is below the last: the middle denominator cancels
through : (a b p a' b' q a'' b'' r : ℕ) → 0 < p → 0 < r → a * q + b' * p < a' * p + b * q → a' * r + b'' * q < a'' * q + b' * r → a * r + b'' * p < a'' * p + b * r
through a b p a' b' q a'' b'' r P R h k =
    let x : (a * q + b' * p) * r < (a' * p + b * q) * r = mul-lt-mul_of_pos_right h R in
    let y : (a' * r + b'' * q) * p < (a'' * q + b' * r) * p = mul-lt-mul_of_pos_right k P in
    lt_of_mul-lt-mul_right q (simp products (omega (arith, simp products at x, simp products at y)))

none_above : (a : Float) → (inf false <ᶠ a) ≡ false
unfolding Ieee.lt
none_above nan = refl
none_above (inf s) = refl
none_above (fin s m e) = refl

pub <ᶠ-transitive : (a b c : Float) → (a <ᶠ b) ≡ true → (b <ᶠ c) ≡ true → (a <ᶠ c) ≡ true
unfolding Ieee.lt
<ᶠ-transitive nan b c h k = absurd (false≢true h)
<ᶠ-transitive (inf s) nan c h k = absurd (false≢true h)
<ᶠ-transitive (inf true) (inf true) c h k = absurd (false≢true h)
<ᶠ-transitive (inf true) (inf false) c h k = absurd (false≢true (sym (none_above c) ∙ k))
<ᶠ-transitive (inf false) (inf t) c h k = absurd (false≢true h)
<ᶠ-transitive (inf true) (fin t n d) nan h k = k
<ᶠ-transitive (inf true) (fin t n d) (inf r) h k = k
<ᶠ-transitive (inf true) (fin t n d) (fin r l g) h k = refl
<ᶠ-transitive (inf false) (fin t n d) c h k = absurd (false≢true h)
<ᶠ-transitive (fin s m e) nan c h k = absurd (false≢true h)
<ᶠ-transitive (fin s m e) (inf true) c h k = absurd (false≢true h)
<ᶠ-transitive (fin s m e) (inf false) c h k = absurd (false≢true (sym (none_above c) ∙ k))
<ᶠ-transitive (fin s m e) (fin t n d) nan h k = absurd (false≢true k)
<ᶠ-transitive (fin s m e) (fin t n d) (inf r) h k = k
<ᶠ-transitive (fin s m e) (fin t n d) (fin r k g) h l =
    let a = fin s m e in
    let b = fin t n d in
    let c = fin r k g in
    let u : cross a b < cross b a = ltb-true (cross a b) (cross b a) (sym (<ᶠ-cross a b refl refl) ∙ h) in
    let v : cross b c < cross c b = ltb-true (cross b c) (cross c b) (sym (<ᶠ-cross b c refl refl) ∙ l) in
    <ᶠ-cross a c refl refl
    ∙ lt-ltb (cross a c) (cross c a) (through (gain a) (loss a) (den a) (gain b) (loss b) (den b) (gain c) (loss c) (den c) (den_pos a) (den_pos c) u v)
