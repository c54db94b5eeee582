-- The difference of two f64s tells how they compare. One above zero does so for any two. Conversely two finite f64s that differ do so by the smallest value at least,
-- so their difference does not round to zero: underflow is gradual. A finite f64 less itself is +0, and so is +0 over what is above zero. Assumes nothing.
use Rattle.std.proofs.Common.{◌≡◌, ℕ, zero as none, suc, ◌-◌, ◌*◌, ◌^◌, ◌<◌, ◌≤◌, Bool, true, false, cond, not, T, eqb, sym, refl, ap, ◌∙◌, zero-lt-suc, mul_comm, mul-pos, zero-mul, not-le_of_lt, arith, ltb-true, le-ltb, lt-ltb, eqb-true}
use mathlib.Core.Bool.{false≢true}
use borrow.Author.Tests.{eqb-false}
use lib.Dec.{eqb-suc-zero}
use lib.Ieee as Ieee
use lib.Ieee.{Float, nan, inf, fin, is_nan, fits, round, sum, up, down, binary64}
use lib.Ieee.Fits.{up_pos, down_pos}
use lib.Ieee.Positive.{den, den_pos}
use Rattle.number.specs.Float.{finite, ◌⊖◌, ◌⊘◌, ◌<ᶠ◌, ◌=ᶠ◌}
use Rattle.number.specs.Constants.{zero}
use Rattle.number.proofs.float.Fraction.{cross, common, excess, Rounded, above, under, <ᶠ-cross, =ᶠ-cross, ⊖-cross, same_test}
use Rattle.number.proofs.float.Multiples.{gap}
use Rattle.number.proofs.float.Order.{<ᶠ-connected}
use Rattle.number.proofs.float.Parts.{difference_no_nan}
use Rattle.number.proofs.float.Round.{round_negative, round_none, round_some, round_above, round_zero}
use Rattle.number.proofs.float.Zero.{is_above}

common_pos : (a b : Float) → 0 < common a b
common_pos a b = mul-pos (den_pos a) (den_pos b)

-- ---- from the difference to the order

finite_above : (a b : Float) → finite a ≡ true → finite b ≡ true → (zero <ᶠ a ⊖ b) ≡ true → (b <ᶠ a) ≡ true
finite_above a b p q h = <ᶠ-cross b a q p ∙ lt-ltb (cross b a) (cross a b) (go (⊖-cross a b p q))
  where
    go : Rounded (a ⊖ b) (cross a b) (cross b a) (common a b) → cross b a < cross a b
    go (above l r) =
        let some : 0 < excess a b = round_some (excess a b) (common a b) (common_pos a b) (sym (ap (λ (x : Float). zero <ᶠ x) r) ∙ h) in
        omega arith
    go (under l r) = absurd (false≢true (sym (ap (λ (x : Float). zero <ᶠ x) r ∙ round_negative (excess b a) (common a b)) ∙ h))

pub difference_above : (a b : Float) → (zero <ᶠ a ⊖ b) ≡ true → (b <ᶠ a) ≡ true
unfolding Ieee.sub Ieee.lt Ieee.of_bits
difference_above nan b h = absurd (false≢true h)
difference_above (inf s) nan h = absurd (false≢true h)
difference_above (inf true) (inf true) h = absurd (false≢true h)
difference_above (inf true) (inf false) h = absurd (false≢true h)
difference_above (inf false) (inf true) h = refl
difference_above (inf false) (inf false) h = absurd (false≢true h)
difference_above (inf true) (fin t n d) h = absurd (false≢true h)
difference_above (inf false) (fin t n d) h = refl
difference_above (fin s m e) nan h = absurd (false≢true h)
difference_above (fin s m e) (inf true) h = refl
difference_above (fin s m e) (inf false) h = absurd (false≢true h)
difference_above (fin s m e) (fin t n d) h = finite_above (fin s m e) (fin t n d) refl refl h

-- a finite difference is no NaN, so one of three tests passes
pub order_of_difference : (a b : Float) → finite a ≡ true → finite b ≡ true → (a ⊖ b <ᶠ zero) ≡ false → (a ⊖ b =ᶠ zero) ≡ false → (b <ᶠ a) ≡ true
order_of_difference a b p q h k = difference_above a b (<ᶠ-connected (a ⊖ b) zero (difference_no_nan a b p q) (unfold is_nan Ieee.of_bits in refl) h k)

-- ---- from the order to the difference

pub above_difference : (a b : Float) → T (fits binary64 a) → T (fits binary64 b) → finite a ≡ true → finite b ≡ true → (b <ᶠ a) ≡ true → (zero <ᶠ a ⊖ b) ≡ true
above_difference a b f g p q h = go (⊖-cross a b p q)
  where
    more : cross b a < cross a b
    more = ltb-true (cross b a) (cross a b) (sym (<ᶠ-cross b a q p) ∙ h)

    go : Rounded (a ⊖ b) (cross a b) (cross b a) (common a b) → (zero <ᶠ a ⊖ b) ≡ true
    go (above l r) = ap (λ (x : Float). zero <ᶠ x) r ∙ round_above (excess a b) (common a b) (common_pos a b) (gap a b f g (omega (arith, more)))
    go (under l r) = absurd (not-le_of_lt more l)

pub difference_zero : (a b : Float) → T (fits binary64 a) → T (fits binary64 b) → finite a ≡ true → finite b ≡ true → (a ⊖ b =ᶠ zero) ≡ (a =ᶠ b)
difference_zero a b f g p q = go (⊖-cross a b p q) ∙ sym (=ᶠ-cross a b p q)
  where
    -- k is how far a and b lie apart
    test : (s : Bool) (k : ℕ) → a ⊖ b ≡ round binary64 s k (common a b) → (0 < k → common a b ≤ k * 2 ^ 1074) → (k ≡ 0 → cross a b ≡ cross b a) → (cross a b ≡ cross b a → k ≡ 0)
        → (a ⊖ b =ᶠ zero) ≡ eqb (cross a b) (cross b a)
    test s k r h to from =
        ap (λ (x : Float). x =ᶠ zero) r
        ∙ round_zero s k (common a b) (common_pos a b) h
        ∙ same_test (eqb k 0) (cross a b) (cross b a) (λ e. to (eqb-true k 0 e)) (λ e g. eqb-false k 0 e (from g))

    go : Rounded (a ⊖ b) (cross a b) (cross b a) (common a b) → (a ⊖ b =ᶠ zero) ≡ eqb (cross a b) (cross b a)
    go (above l r) = test false (excess a b) r (gap a b f g) (omega arith) (omega arith)
    go (under l r) = test true (excess b a) r (rw (mul_comm (den a) (den b)) (gap b a g f)) (omega arith) (omega arith)

-- ---- +0 to the bit: what is taken from itself, and what +0 is divided into

nothing_left : (a : ℕ) → a - a ≡ 0
nothing_left a = omega arith

itself_summed : (s : Bool) (a c : ℕ) → 0 < c → sum binary64 s a (not s) a c ≡ zero
unfolding sum Ieee.of_bits
itself_summed false a c C = rw (le-ltb a a (omega arith), nothing_left a) (round_none false c C)
itself_summed true a c C = rw (le-ltb a a (omega arith), nothing_left a) (round_none false c C)

pub less_itself : (x : Float) → finite x ≡ true → x ⊖ x ≡ zero
unfolding Ieee.sub
less_itself nan p = absurd (false≢true p)
less_itself (inf s) p = absurd (false≢true p)
less_itself (fin s m e) p = itself_summed s (m * up e * down e) (down e * down e) (mul-pos (down_pos e) (down_pos e))

none_rounded : (p : Bool) (a c : ℕ) (y : Float) → p ≡ false → a ≡ 0 → 0 < c → cond p y (round binary64 false a c) ≡ zero
unfolding Ieee.of_bits
none_rounded p a c y P A C = rw (P, A) (round_none false c C)

pub zero_over : (x : Float) → (zero <ᶠ x) ≡ true → finite x ≡ true → zero ⊘ x ≡ zero
unfolding Ieee.div Ieee.of_bits
zero_over nan p q = absurd (false≢true q)
zero_over (inf s) p q = absurd (false≢true q)
zero_over (fin true m e) p q = absurd (false≢true (sym (is_above (fin true m e)) ∙ p))
zero_over (fin false none e) p q = absurd (false≢true (sym (is_above (fin false none e)) ∙ p))
zero_over (fin false (suc m) e) p q =
    none_rounded (eqb (suc m) 0) (0 * down e) (suc m * up e * 1) _ (eqb-suc-zero m) (zero-mul (down e)) (omega (arith, mul-pos (zero-lt-suc m) (up_pos e)))
