-- What a width below 64 makes of 64 bits: sign extension, by the lowest bits and the half of their range, and the range of a counter. Assumes nothing.
use Rattle.std.proofs.Common.{◌≡◌, ℕ, ◌-◌, ◌*◌, ◌%◌, ◌^◌, ◌<◌, ◌≤◌, Bool, true, false, ◌&&◌, ltb, leb, ℤ, pos, negsuc, sym, refl, ap, ◌∙◌, inl, inr, le_of_lt, mod-lt, mod-eq_of_lt, eq-or-lt_of_le, arith, lit≤, pow_pos, pow_mono, le-ltb, lt-ltb, le-leb, leb-true}
use borrow.Author.Tests.{lt-leb}
use Rattle.number.specs.Float.{◌when◌else◌}
use Rattle.number.specs.Ticks.{IsI64, IsSigned, residue, signed, tick_in_range, width_of}
use Rattle.number.proofs.tick.Signed.{twice, signed_in_range, residue_signed, signed_residue, residue_low}

pub width_is : (w : ℕ) → 1 ≤ w → w ≤ 64 → width_of w ≡ w
width_is w some most = simp (le-leb 1 w some, le-leb w 64 most)

pub width_large : (w : ℕ) → 64 ≤ w → width_of w ≡ 64
width_large w h = elim (eq-or-lt_of_le h) [ inl e ↦ sym (ap width_of e) | inr l ↦ simp (le-leb 1 w (omega arith), lt-leb w 64 l) ]

width_from_one_to_64 : (w : ℕ) → (1 ≤ width_of w) × (width_of w ≤ 64)
width_from_one_to_64 w = go (leb 1 w) (leb w 64) refl refl
  where
    go : (a b : Bool) → leb 1 w ≡ a → leb w 64 ≡ b → (1 ≤ (w when a && b else 64)) × ((w when a && b else 64) ≤ 64)
    go true true p q = (leb-true 1 w p, leb-true w 64 q)
    go true false p q = (lit≤ tt, lit≤ tt)
    go false b p q = (lit≤ tt, lit≤ tt)

narrower : (w : ℕ) → w ≤ 64 → (z : ℤ) → IsSigned w z → IsI64 z
narrower w h (pos n) l = omega (arith, pow_mono {i = w - 1} {j = 63} (omega arith))
narrower w h (negsuc n) l = omega (arith, pow_mono {i = w - 1} {j = 63} (omega arith))

-- ---- sign extension

-- of the difference's 64 bits it is the difference over the width
pub extended_difference : (width bits : ℕ) (z : ℤ) → bits ≡ residue 64 z → let w = width_of width in signed 64 (residue 64 (signed w (bits % 2 ^ w))) ≡ signed w (residue w z)
extended_difference width bits z e =
    let w = width_of width in
    let some = (width_from_one_to_64 width).0 in
    let most = (width_from_one_to_64 width).1 in
    let low = signed w (bits % 2 ^ w) in
    signed_residue 64 (lit≤ tt) low (narrower w most low (signed_in_range w some (bits % 2 ^ w) (mod-lt bits (pow_pos w))))
    ∙ ap (λ (n : ℕ). signed w (n % 2 ^ w)) e
    ∙ ap (signed w) (residue_low w most z)

pub extended_whole : (w n : ℕ) → w ≡ 64 → n < 2 ^ 64 → n ≡ residue 64 (signed w (n % 2 ^ w))
extended_whole w n e h = sym (ap (λ (v : ℕ). residue 64 (signed v (n % 2 ^ v))) e ∙ ap (λ (m : ℕ). residue 64 (signed 64 m)) (mod-eq_of_lt h) ∙ residue_signed 64 (omega arith) n h)

module _ (w half : ℕ) (some : 1 ≤ w) (most : w < 64) (is-half : half ≡ 2 ^ (w - 1)) where
  whole : 2 ^ w ≡ 2 * half
  whole = twice w some ∙ sym (ap (λ (n : ℕ). 2 * n) is-half)

  pub half_positive : 0 < half
  half_positive = rw is-half (pow_pos (w - 1))

  pub size_fits : 2 * half < 2 ^ 64
  size_fits = omega (arith, whole, pow_mono {i = w} {j = 63} (omega arith))

  module _ (n : ℕ) where
    low_below : n % (2 * half) < 2 * half
    low_below = mod-lt n (omega (arith, half_positive))

    by_half : residue 64 (signed (width_of w) (n % 2 ^ width_of w)) ≡ residue 64 (signed w (n % (2 * half)))
    by_half = ap (λ (v : ℕ). residue 64 (signed v (n % 2 ^ v))) (width_is w some (le_of_lt most)) ∙ ap (λ (m : ℕ). residue 64 (signed w (n % m))) whole

    pub extended_low : n % (2 * half) < half → n % (2 * half) ≡ residue 64 (signed (width_of w) (n % 2 ^ width_of w))
    extended_low l = sym (by_half ∙ rw (← is-half, lt-ltb (n % (2 * half)) half l) (mod-eq_of_lt (omega (arith, low_below, size_fits))))

    pub extended_high : half ≤ n % (2 * half) → 2 ^ 64 - 1 - (2 * half - 1 - n % (2 * half)) ≡ residue 64 (signed (width_of w) (n % 2 ^ width_of w))
    extended_high l = sym (by_half ∙ rw (← is-half, le-ltb (n % (2 * half)) half l, whole) (omega (arith, low_below, size_fits)))

-- ---- the range

pub any_in_range : (w : ℕ) → 64 ≤ w → (z : ℤ) → true ≡ tick_in_range w z
unfolding tick_in_range
any_in_range w h (pos n) = simp (le-leb 64 w h)
any_in_range w h (negsuc n) = simp (le-leb 64 w h)

pub bits_in_range : (w : ℕ) → w < 64 → (z : ℤ) → IsI64 z → ltb (residue 64 z) (2 ^ w) ≡ tick_in_range w z
unfolding tick_in_range
bits_in_range w h (pos n) l = rw (lt-leb 64 w h, mod-eq_of_lt {n = n} {m = 2 ^ 64} (omega arith))
bits_in_range w h (negsuc n) l =
    rw (lt-leb 64 w h) (le-ltb (2 ^ 64 - 1 - n % 2 ^ 64) (2 ^ w) (omega (arith, pow_mono {i = w} {j = 63} (omega arith))))
