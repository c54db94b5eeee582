-- Sums modulo 2^w: the residue of a sum depends on the residues of its parts alone. So the differences from each count of a list to the next add up, modulo 2^w, to the
-- newest less the first. Assumes nothing.
use Rattle.std.proofs.Common.{◌≡◌, ℕ, zero, suc, ◌+◌, ◌-◌, ◌%◌, ◌^◌, ◌<◌, ◌≤◌, List, [], ◌∷◌, ℤ, pos, negsuc, ◌+ℤ◌, ◌-ℤ◌, neg_ℤ, sym, ap, ◌∙◌, inl, inr, mod-lt, mod-eq_of_lt, eq-or-lt_of_le, arith, pow_pos}
use native.Mathlib.Nat.{mod_self, suc-mod, mod-add-mod, add-mod_right}
use lib.IntN.{suc_ℤ, pred_ℤ, suc-pred, +ℤ-suc_ℤ, +ℤ-pred_ℤ, +ℤ_idr, +ℤ_assoc, +ℤ_comm, +ℤ_invr, -ℤ-+ℤ_cancel}
use Rattle.number.specs.Ticks.{residue, tick_difference, clicks, newest, AddUp}
use Rattle.number.proofs.tick.Signed.{residue_below}
use Rattle.number.proofs.tick.Laws.{difference_is}

-- counted from the other end, one less
back_one : (m t : ℕ) → t < m → m - 1 - t ≡ suc (m - 1 - suc t % m) % m
back_one m t l = elim (eq-or-lt_of_le l) [
  | inl e ↦ rw (e, mod_self m) (omega arith ∙ sym (ap (λ (x : ℕ). x % m) (omega arith) ∙ mod_self m))
  | inr l' ↦ rw (mod-eq_of_lt l') (sym (ap (λ (x : ℕ). x % m) (omega arith) ∙ mod-eq_of_lt (omega arith)))
]

module _ (w : ℕ) where
  residue_suc : (z : ℤ) → residue w (suc_ℤ z) ≡ suc (residue w z) % 2 ^ w
  residue_suc (pos n) = suc-mod n (2 ^ w)
  residue_suc (negsuc zero) = rw (mod-eq_of_lt (pow_pos w)) (sym (ap (λ (x : ℕ). x % 2 ^ w) (omega (arith, pow_pos w)) ∙ mod_self (2 ^ w)))
  residue_suc (negsuc (suc n)) = rw (suc-mod n (2 ^ w)) (back_one (2 ^ w) (n % 2 ^ w) (mod-lt n (pow_pos w)))

  residue_pred : (z : ℤ) → residue w (pred_ℤ z) ≡ (residue w z + (2 ^ w - 1)) % 2 ^ w
  residue_pred z =
      let r = residue w (pred_ℤ z) in
      let one_more : residue w z ≡ suc r % 2 ^ w = ap (residue w) (sym (suc-pred z)) ∙ residue_suc (pred_ℤ z) in
      let back : suc r + (2 ^ w - 1) ≡ r + 2 ^ w = omega (arith, pow_pos w) in
      sym (
      ap (λ (x : ℕ). (x + (2 ^ w - 1)) % 2 ^ w) one_more
      ∙ mod-add-mod (suc r) (2 ^ w) (2 ^ w - 1)
      ∙ ap (λ (x : ℕ). x % 2 ^ w) back
      ∙ add-mod_right r (2 ^ w)
      ∙ mod-eq_of_lt (residue_below w (pred_ℤ z)))

  -- ---- numbers of the same residue, and their sums

  abbrev Same : ℤ → ℤ → Type 0
  Same a b = residue w a ≡ residue w b

  module _ (a b : ℤ) (e : Same a b) where
    same_suc : Same (suc_ℤ a) (suc_ℤ b)
    same_suc = residue_suc a ∙ ap (λ (r : ℕ). suc r % 2 ^ w) e ∙ sym (residue_suc b)

    same_pred : Same (pred_ℤ a) (pred_ℤ b)
    same_pred = residue_pred a ∙ ap (λ (r : ℕ). (r + (2 ^ w - 1)) % 2 ^ w) e ∙ sym (residue_pred b)

  module _ (a b : ℤ) (e : Same a b) where
    same_plus : (c : ℤ) → Same (a +ℤ c) (b +ℤ c)
    same_plus (pos zero) = rw (+ℤ_idr a, +ℤ_idr b) e
    same_plus (pos (suc n)) = rw (+ℤ-suc_ℤ a (pos n), +ℤ-suc_ℤ b (pos n)) (same_suc (a +ℤ pos n) (b +ℤ pos n) (same_plus (pos n)))
    same_plus (negsuc zero) = rw (+ℤ-pred_ℤ a (pos zero), +ℤ-pred_ℤ b (pos zero), +ℤ_idr a, +ℤ_idr b) (same_pred a b e)
    same_plus (negsuc (suc n)) = rw (+ℤ-pred_ℤ a (negsuc n), +ℤ-pred_ℤ b (negsuc n)) (same_pred (a +ℤ negsuc n) (b +ℤ negsuc n) (same_plus (negsuc n)))

  same_sum : (a b c d : ℤ) → Same a b → Same c d → Same (a +ℤ c) (b +ℤ d)
  same_sum a b c d e f = same_plus a b e c ∙ ap (residue w) (+ℤ_comm b c) ∙ same_plus c d f b ∙ ap (residue w) (+ℤ_comm d b)

-- ---- the differences of a list of counts

-- to the next and on from there
through : (first next last : ℤ) → (next -ℤ first) +ℤ (last -ℤ next) ≡ last -ℤ first
through first next last =
    +ℤ_comm (next -ℤ first) (last -ℤ next)
    ∙ sym (+ℤ_assoc (last -ℤ next) next (neg_ℤ first))
    ∙ ap (λ (x : ℤ). x -ℤ first) (-ℤ-+ℤ_cancel last next)

pub add_up : (w : ℕ) → 1 ≤ w → w ≤ 64 → (first : ℤ) (later : List ℤ) → AddUp w first later
unfolding clicks newest
add_up w some most first [] = ap (residue w) (sym (+ℤ_invr first))
add_up w some most first (next ∷ later) =
    same_sum w (tick_difference w first next) (next -ℤ first) (clicks w next later) (newest next later -ℤ next) (difference_is w some most first next).congruent (add_up w some most next later)
    ∙ ap (residue w) (through first next (newest next later))
