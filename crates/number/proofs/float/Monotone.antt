-- The order ≤ᶠ of f64s, the infinities included, and that sums and differences keep it: a sum of finite f64s is a fraction rounded, and rounding keeps the order of fractions.
-- Assumes nothing.
use Rattle.std.proofs.Common.{◌≡◌, ℕ, ◌+◌, ◌-◌, ◌*◌, ◌<◌, ◌≤◌, Bool, true, false, ◌||◌, eqb, ltb, leb, sym, refl, ap, ◌∙◌, mul-le-mul_right, mul_assoc, mul_comm, add-mul, add_comm, mul-pos, le_of_mul-le-mul_right, mul_left_comm, arith, ltb-false, ltb-true, eqb-true, le-leb, leb-true}
use native.Mathlib.Nat.{mul-sub}
use mathlib.Core.Bool.{false≢true}
use borrow.Author.Tests.{eqb-false, lt-leb}
use lib.Ieee as Ieee
use lib.Ieee.{Float, nan, inf, fin, is_nan, round, binary64}
use lib.Ieee.Bits.{is_true}
use lib.Ieee.Order.{round_mono}
use lib.Ieee.Positive.{den, den_pos}
use Rattle.number.specs.Float.{finite, ◌⊕◌, ◌⊖◌, −◌, ◌<ᶠ◌, ◌≤ᶠ◌, ◌=ᶠ◌}
use Rattle.number.proofs.float.Commute.{⊕-commutes}
use Rattle.number.proofs.float.Fraction.{gain, loss, cross, Rounded, above, under, <ᶠ-cross, =ᶠ-cross, ⊖-cross}
use Rattle.number.proofs.float.Order.{<ᶠ-connected}
use Rattle.number.proofs.float.Parts.{finite_negated, negated_twice}
use Rattle.number.proofs.float.Round.{Signed, finite_size, infinite_size, round_signed, round_none}

-- ---- the order

pub <ᶠ-≤ᶠ : (a b : Float) → (a <ᶠ b) ≡ true → (a ≤ᶠ b) ≡ true
unfolding Ieee.le
<ᶠ-≤ᶠ a b h = ap (λ (p : Bool). p || (a =ᶠ b)) h

-- where no NaN stands, a value that is not below another is at least that
pub not_below : (a b : Float) → is_nan a ≡ false → is_nan b ≡ false → (a <ᶠ b) ≡ false → (b ≤ᶠ a) ≡ true
unfolding Ieee.le
not_below a b p q h = go (b <ᶠ a) (b =ᶠ a) refl refl
  where
    go : (l e : Bool) → (b <ᶠ a) ≡ l → (b =ᶠ a) ≡ e → (l || e) ≡ true
    go true e u v = refl
    go false true u v = refl
    go false false u v = absurd (false≢true (sym h ∙ <ᶠ-connected b a q p u v))

pub ≤ᶠ-connected : (a b : Float) → is_nan a ≡ false → is_nan b ≡ false → (a ≤ᶠ b) ≡ false → (b ≤ᶠ a) ≡ true
≤ᶠ-connected a b p q h = not_below a b p q (go (a <ᶠ b) refl)
  where
    go : (l : Bool) → (a <ᶠ b) ≡ l → l ≡ false
    go true k = sym (<ᶠ-≤ᶠ a b k) ∙ h
    go false k = refl

pub finite_no_nan : (a : Float) → finite a ≡ true → is_nan a ≡ false
unfolding is_nan
finite_no_nan nan p = absurd (false≢true p)
finite_no_nan (inf s) p = refl
finite_no_nan (fin s m e) p = refl

-- two finite values are in the order of the fractions that they are
≤ᶠ-cross : (a b : Float) → finite a ≡ true → finite b ≡ true → (a ≤ᶠ b) ≡ leb (cross a b) (cross b a)
unfolding Ieee.le
≤ᶠ-cross a b p q = (λ i. <ᶠ-cross a b p q i || =ᶠ-cross a b p q i) ∙ joined (cross a b) (cross b a)
  where
    joined : (u v : ℕ) → (ltb u v || eqb u v) ≡ leb u v
    joined u v = go (ltb u v) (eqb u v) refl refl
      where
        go : (l e : Bool) → ltb u v ≡ l → eqb u v ≡ e → (l || e) ≡ leb u v
        go true e h k = sym (le-leb u v (omega (arith, ltb-true)))
        go false true h k = sym (le-leb u v (omega (arith, eqb-true)))
        go false false h k = sym (lt-leb u v (omega (arith, ltb-false, eqb-false)))

pub cross_of-≤ᶠ : (a b : Float) → finite a ≡ true → finite b ≡ true → (a ≤ᶠ b) ≡ true → cross a b ≤ cross b a
cross_of-≤ᶠ a b p q h = leb-true (cross a b) (cross b a) (sym (≤ᶠ-cross a b p q) ∙ h)

pub ≤ᶠ-of_cross : (a b : Float) → finite a ≡ true → finite b ≡ true → cross a b ≤ cross b a → (a ≤ᶠ b) ≡ true
≤ᶠ-of_cross a b p q h = ≤ᶠ-cross a b p q ∙ le-leb (cross a b) (cross b a) h

ruleset products = (add-mul, mul_assoc, mul_comm, mul_left_comm)

-- of (a - b) / p ≤ (a' - b') / q ≤ (a'' - b'') / r the first is at most the last: the middle denominator cancels
through : (a b p a' b' q a'' b'' r : ℕ) → 0 < q → a * q + b' * p ≤ a' * p + b * q → a' * r + b'' * q ≤ a'' * q + b' * r → a * r + b'' * p ≤ a'' * p + b * r
through a b p a' b' q a'' b'' r Q h k =
    let x : (a * q + b' * p) * r ≤ (a' * p + b * q) * r = mul-le-mul_right r h in
    let y : (a' * r + b'' * q) * p ≤ (a'' * q + b' * r) * p = mul-le-mul_right p k in
    let z : (a * r + b'' * p) * q ≤ (a'' * p + b * r) * q = simp products (omega (arith, simp products at x, simp products at y)) in
    le_of_mul-le-mul_right z Q

none_at_nan : (a : Float) → (a ≤ᶠ nan) ≡ false
unfolding Ieee.le
none_at_nan nan = refl
none_at_nan (inf s) = refl
none_at_nan (fin s m e) = refl

pub ≤ᶠ-transitive : (a b c : Float) → (a ≤ᶠ b) ≡ true → (b ≤ᶠ c) ≡ true → (a ≤ᶠ c) ≡ true
unfolding Ieee.le
≤ᶠ-transitive nan b c h k = absurd (false≢true h)
≤ᶠ-transitive (inf true) b nan h k = absurd (false≢true (sym (none_at_nan b) ∙ k))
≤ᶠ-transitive (inf true) b (inf true) h k = refl
≤ᶠ-transitive (inf true) b (inf false) h k = refl
≤ᶠ-transitive (inf true) b (fin r l g) h k = refl
≤ᶠ-transitive (inf false) nan c h k = absurd (false≢true h)
≤ᶠ-transitive (inf false) (inf true) c h k = absurd (false≢true h)
≤ᶠ-transitive (inf false) (inf false) c h k = k
≤ᶠ-transitive (inf false) (fin t n d) c h k = absurd (false≢true h)
≤ᶠ-transitive (fin s m e) nan c h k = absurd (false≢true h)
≤ᶠ-transitive (fin s m e) (inf true) c h k = absurd (false≢true h)
≤ᶠ-transitive (fin s m e) (inf false) nan h k = absurd (false≢true k)
≤ᶠ-transitive (fin s m e) (inf false) (inf true) h k = absurd (false≢true k)
≤ᶠ-transitive (fin s m e) (inf false) (inf false) h k = refl
≤ᶠ-transitive (fin s m e) (inf false) (fin r l g) h k = absurd (false≢true k)
≤ᶠ-transitive (fin s m e) (fin t n d) nan h k = absurd (false≢true k)
≤ᶠ-transitive (fin s m e) (fin t n d) (inf true) h k = absurd (false≢true k)
≤ᶠ-transitive (fin s m e) (fin t n d) (inf false) h k = refl
≤ᶠ-transitive (fin s m e) (fin t n d) (fin r l g) h k =
    let a = fin s m e in
    let b = fin t n d in
    let c = fin r l g in
    ≤ᶠ-of_cross a c refl refl
    (through (gain a) (loss a) (den a) (gain b) (loss b) (den b) (gain c) (loss c) (den c) (den_pos b) (cross_of-≤ᶠ a b refl refl h) (cross_of-≤ᶠ b c refl refl k))

pub between_finite : (lo x hi : Float) → finite lo ≡ true → finite hi ≡ true → (lo ≤ᶠ x) ≡ true → (x ≤ᶠ hi) ≡ true → finite x ≡ true
unfolding Ieee.le
between_finite lo nan hi p q h k = absurd (false≢true k)
between_finite nan (inf true) hi p q h k = absurd (false≢true p)
between_finite (inf s) (inf true) hi p q h k = absurd (false≢true p)
between_finite (fin s m e) (inf true) hi p q h k = absurd (false≢true h)
between_finite lo (inf false) nan p q h k = absurd (false≢true q)
between_finite lo (inf false) (inf t) p q h k = absurd (false≢true q)
between_finite lo (inf false) (fin t n d) p q h k = absurd (false≢true k)
between_finite lo (fin r l g) hi p q h k = refl

-- ---- negation turns the order

gain_negated : (a : Float) → gain (− a) ≡ loss a
unfolding Ieee.neg
gain_negated nan = refl
gain_negated (inf s) = refl
gain_negated (fin true m e) = refl
gain_negated (fin false m e) = refl

loss_negated : (a : Float) → loss (− a) ≡ gain a
loss_negated a = sym (gain_negated (− a)) ∙ ap gain (negated_twice a)

den_negated : (a : Float) → den (− a) ≡ den a
unfolding Ieee.neg
den_negated nan = refl
den_negated (inf s) = refl
den_negated (fin s m e) = refl

cross_negated : (a b : Float) → cross (− a) (− b) ≡ cross b a
cross_negated a b = (λ i. gain_negated a i * den_negated b i + loss_negated b i * den_negated a i) ∙ add_comm (loss a * den b) (gain b * den a)

pub ≤ᶠ-negated : (a b : Float) → (− a ≤ᶠ − b) ≡ (b ≤ᶠ a)
unfolding Ieee.le Ieee.neg
≤ᶠ-negated nan b = sym (none_at_nan b)
≤ᶠ-negated (inf s) nan = refl
≤ᶠ-negated (inf true) (inf true) = refl
≤ᶠ-negated (inf true) (inf false) = refl
≤ᶠ-negated (inf false) (inf true) = refl
≤ᶠ-negated (inf false) (inf false) = refl
≤ᶠ-negated (inf s) (fin t n d) = refl
≤ᶠ-negated (fin s m e) nan = refl
≤ᶠ-negated (fin s m e) (inf true) = refl
≤ᶠ-negated (fin s m e) (inf false) = refl
≤ᶠ-negated (fin s m e) (fin t n d) =
    let a = fin s m e in
    let b = fin t n d in
    ≤ᶠ-cross (− a) (− b) refl refl ∙ (λ i. leb (cross_negated a b i) (cross_negated b a i)) ∙ sym (≤ᶠ-cross b a refl refl)

-- ---- rounding keeps the order of fractions, whatever their signs

round_negated : (a c : ℕ) → round binary64 true a c ≡ − round binary64 false a c
unfolding Ieee.neg
round_negated a c = go (round_signed a c)
  where
    go : Signed (λ s. round binary64 s a c) → round binary64 true a c ≡ − round binary64 false a c
    go (finite_size m e r) = r true ∙ sym (ap −◌ (r false))
    go (infinite_size r) = r true ∙ sym (ap −◌ (r false))

both_above : (a c b d : ℕ) → 0 < c → 0 < d → a * d ≤ b * c → (round binary64 false a c ≤ᶠ round binary64 false b d) ≡ true
both_above a c b d C D h = is_true (round binary64 false a c ≤ᶠ round binary64 false b d) (round_mono binary64 a c b d C D h)

both_under : (a c b d : ℕ) → 0 < c → 0 < d → b * c ≤ a * d → (round binary64 true a c ≤ᶠ round binary64 true b d) ≡ true
both_under a c b d C D h = rw (round_negated a c, round_negated b d, ≤ᶠ-negated) (both_above b d a c D C h)

-- a fraction under zero is at most one above zero: -0 and +0 lie between them
under_above : (a c b d : ℕ) → 0 < c → 0 < d → (round binary64 true a c ≤ᶠ round binary64 false b d) ≡ true
under_above a c b d C D =
    ≤ᶠ-transitive (round binary64 true a c) (round binary64 true 0 1) (round binary64 false b d) (both_under a c 0 1 C (omega arith) (omega arith))
    (≤ᶠ-transitive (round binary64 true 0 1) (round binary64 false 0 1) (round binary64 false b d) (unfold Ieee.le round in refl) (both_above 0 1 b d (omega arith) D (omega arith)))

-- a fraction above zero at most one under zero: both are zero, and +0 equals -0
above_under : (a c b d : ℕ) → 0 < c → 0 < d → a ≡ 0 → b ≡ 0 → (round binary64 false a c ≤ᶠ round binary64 true b d) ≡ true
above_under a c b d C D p q = rw (p, q, round_none false c C, round_none true d D) (unfold Ieee.le in refl)

-- (u - v) / c ≤ (u' - v') / d, written without differences, holds also where each difference stops at zero, as those of natural numbers do
excess_order : (u v c u' v' d : ℕ) → u * d + v' * c ≤ u' * c + v * d → (u - v) * d ≤ (u' - v') * c
excess_order u v c u' v' d h =
    let p : (u - v) * d ≡ u * d - v * d = mul_comm (u - v) d ∙ mul-sub d u v ∙ (λ i. mul_comm d u i - mul_comm d v i) in
    let q : (u' - v') * c ≡ u' * c - v' * c = mul_comm (u' - v') c ∙ mul-sub c u' v' ∙ (λ i. mul_comm c u' i - mul_comm c v' i) in
    rw (p, q) (omega arith)

-- (u - v) / c rounded is at most (u' - v') / d rounded, once that holds of the fractions
rounded_order : {x y : Float} {u v c u' v' d : ℕ} → Rounded x u v c → Rounded y u' v' d → 0 < c → 0 < d → u * d + v' * c ≤ u' * c + v * d → (x ≤ᶠ y) ≡ true
rounded_order {u = u} {v = v} {c = c} {u' = u'} {v' = v'} {d = d} (above p r) (above q s) C D h =
    rw (r, s) (both_above (u - v) c (u' - v') d C D (excess_order u v c u' v' d h))
rounded_order {u = u} {v = v} {c = c} {u' = u'} {v' = v'} {d = d} (above p r) (under q s) C D h =
    let few : u ≤ v = le_of_mul-le-mul_right (omega (arith, mul-le-mul_right c q)) D in
    let few' : v' ≤ u' = le_of_mul-le-mul_right (omega (arith, mul-le-mul_right d p)) C in
    rw (r, s) (above_under (u - v) c (v' - u') d C D (omega arith) (omega arith))
rounded_order {u = u} {v = v} {c = c} {u' = u'} {v' = v'} {d = d} (under p r) (above q s) C D h = rw (r, s) (under_above (v - u) c (u' - v') d C D)
rounded_order {u = u} {v = v} {c = c} {u' = u'} {v' = v'} {d = d} (under p r) (under q s) C D h =
    rw (r, s) (both_under (v - u) c (v' - u') d C D (excess_order v' u' d v u c (omega arith)))

-- ---- sums and differences

-- (a - b) / p ≤ (a' - b') / q stays so with (a'' - b'') / r taken off both sides
taken_off : (a b p a' b' q a'' b'' r : ℕ) → a * q + b' * p ≤ a' * p + b * q
    → (a * r + b'' * p) * (q * r) + (a'' * q + b' * r) * (p * r) ≤ (a' * r + b'' * q) * (p * r) + (a'' * p + b * r) * (q * r)
taken_off a b p a' b' q a'' b'' r h =
    let x : (a * q + b' * p) * (r * r) ≤ (a' * p + b * q) * (r * r) = mul-le-mul_right (r * r) h in
    simp products (omega (arith, simp products at x))

pub ⊖-monotone : (x y z : Float) → finite x ≡ true → finite y ≡ true → finite z ≡ true → (x ≤ᶠ y) ≡ true → (x ⊖ z ≤ᶠ y ⊖ z) ≡ true
⊖-monotone x y z p q r h =
    rounded_order (⊖-cross x z p r) (⊖-cross y z q r) (mul-pos (den_pos x) (den_pos z)) (mul-pos (den_pos y) (den_pos z))
    (taken_off (gain x) (loss x) (den x) (gain y) (loss y) (den y) (gain z) (loss z) (den z) (cross_of-≤ᶠ x y p q h))

pub ⊕-monotone : (x y z : Float) → finite x ≡ true → finite y ≡ true → finite z ≡ true → (x ≤ᶠ y) ≡ true → (x ⊕ z ≤ᶠ y ⊕ z) ≡ true
unfolding Ieee.sub
⊕-monotone x y z p q r h = simp negated_twice at (⊖-monotone x y (− z) p q (finite_negated z ∙ r) h)

pub ⊕-monotone_both : (x y z w : Float) → finite x ≡ true → finite y ≡ true → finite z ≡ true → finite w ≡ true → (x ≤ᶠ y) ≡ true → (z ≤ᶠ w) ≡ true → (x ⊕ z ≤ᶠ y ⊕ w) ≡ true
⊕-monotone_both x y z w p q r s h k =
    ≤ᶠ-transitive (x ⊕ z) (y ⊕ z) (y ⊕ w) (⊕-monotone x y z p q r h)
    (rw (⊕-commutes y z, ⊕-commutes y w) (⊕-monotone z w y r s q k))
