-- What the difference of two tick counts is: for every width w from 1 to 64 the one number from −2^(w−1) to 2^(w−1) − 1 that is their difference modulo 2^w.
-- Assumes nothing.
use Rattle.std.proofs.Common.{◌≡◌, ℕ, ◌-◌, ◌^◌, ◌≤◌, ℤ, pos, negsuc, ◌-ℤ◌, sym, refl, ap, ◌∙◌}
use Rattle.number.specs.Ticks.{IsSigned, IsDifference, residue, signed, tick_difference, difference64}
use Rattle.number.proofs.tick.Signed.{residue_below, signed_in_range, residue_signed, signed_residue}
use Rattle.number.proofs.tick.Width.{width_is}

module _ (w : ℕ) (some : 1 ≤ w) (most : w ≤ 64) where
  at_width : (from to : ℤ) → tick_difference w from to ≡ signed w (residue w (to -ℤ from))
  unfolding tick_difference
  at_width from to = ap (λ (v : ℕ). signed v (residue v (to -ℤ from))) (width_is w some most)

  pub difference_is : (from to : ℤ) → IsDifference w from to (tick_difference w from to)
  difference_is from to =
      let below = residue_below w (to -ℤ from) in
      rw (at_width from to) (record { congruent = residue_signed w some _ below; in_range = signed_in_range w some _ below })

  pub difference_only : (from to d : ℤ) → IsDifference w from to d → d ≡ tick_difference w from to
  difference_only from to d k = sym (signed_residue w some d k.in_range) ∙ ap (signed w) k.congruent ∙ sym (at_width from to)

  pub difference_exact : (from to : ℤ) → IsSigned w (to -ℤ from) → tick_difference w from to ≡ to -ℤ from
  difference_exact from to h = sym (difference_only from to (to -ℤ from) (record { congruent = refl; in_range = h }))

pub width_64 : (from to : ℤ) → tick_difference 64 from to ≡ difference64 from to
unfolding tick_difference
width_64 from to = refl

-- from 2^63 − 1 to −2^63 it is 1
pub wraps : tick_difference 64 (pos (2 ^ 63 - 1)) (negsuc (2 ^ 63 - 1)) ≡ pos 1
unfolding tick_difference
wraps = refl

-- counters of 16 bits: over their end, back over it, and half their range from either side
pub record Turns : Type 0 where
  pub ahead : tick_difference 16 (pos 65535) (pos 0) ≡ pos 1
  pub back : tick_difference 16 (pos 0) (pos 65535) ≡ negsuc 0
  pub half : tick_difference 16 (pos 0) (pos 32768) ≡ negsuc 32767
  pub half_back : tick_difference 16 (pos 32768) (pos 0) ≡ negsuc 32767

pub turns : Turns
unfolding tick_difference
turns = record { ahead = refl; back = refl; half = refl; half_back = refl }
