-- The halving count is the least k, at most 20, with 2^k not below the ratio, and no other number is. Assumes nothing.
use Rattle.std.proofs.Common.{◌≡◌, ℕ, zero, suc, ◌+◌, ◌<◌, ◌≤◌, Bool, true, false, cond, not, sym, refl, ap, ◌∙◌, subst, inl, inr, true≢false, zero-le, lt_of_lt_of_le, le_of_suc-le-suc, eq-or-lt_of_le, arith}
use lib.Ieee as Ieee
use lib.Ieee.{Float, nan, inf, binary64, of_bits}
use Rattle.number.proofs.Below.{below_or_not}
use Rattle.number.specs.Float.{◌<ᶠ◌, ◌≤ᶠ◌}
use Rattle.number.specs.Constants.{c1+1e-9}
use Rattle.number.specs.Halving.{power, IsLeast, first_from, halving_count}

-- ---- one try
pub first_more : (n j : ℕ) (ratio : Float) → (power j <ᶠ ratio) ≡ true → first_from (suc n) j ratio ≡ first_from n (suc j) ratio
unfolding first_from
first_more n j ratio h = ap (λ (b : Bool). cond (not b) j (first_from n (suc j) ratio)) h

pub first_done : (n j : ℕ) (ratio : Float) → (power j <ᶠ ratio) ≡ false → first_from (suc n) j ratio ≡ j
unfolding first_from
first_done n j ratio h = ap (λ (b : Bool). cond (not b) j (first_from n (suc j) ratio)) h

pub first_none : (j : ℕ) (ratio : Float) → first_from 0 j ratio ≡ j
unfolding first_from
first_none j ratio = refl

-- ---- the tries together
below_next : (ratio : Float) (j : ℕ) → ((i : ℕ) → i < j → (power i <ᶠ ratio) ≡ true) → (power j <ᶠ ratio) ≡ true → (i : ℕ) → i < suc j → (power i <ᶠ ratio) ≡ true
below_next ratio j below here i h = elim (eq-or-lt_of_le (le_of_suc-le-suc h)) [
  | inl e ↦ subst (λ (k : ℕ). (power k <ᶠ ratio) ≡ true) (sym e) here
  | inr l ↦ below i l
]

first_least : (n j : ℕ) (ratio : Float) → n + j ≡ 20 → ((i : ℕ) → i < j → (power i <ᶠ ratio) ≡ true) → IsLeast ratio (first_from n j ratio)
first_least zero j ratio e below = subst (IsLeast ratio) (sym (first_none j ratio)) (record { below = below; reached = λ h. absurd (no h); most = omega arith })
  where
    no : j < 20 → ⊥
    no h = omega arith
first_least (suc n) j ratio e below = go (power j <ᶠ ratio) refl (λ h. first_least n (suc j) ratio (omega arith) (below_next ratio j below h))
  where
    go : (b : Bool) → (power j <ᶠ ratio) ≡ b → ((power j <ᶠ ratio) ≡ true → IsLeast ratio (first_from n (suc j) ratio)) → IsLeast ratio (first_from (suc n) j ratio)
    go true h later = subst (IsLeast ratio) (sym (first_more n j ratio h)) (later h)
    go false h later = subst (IsLeast ratio) (sym (first_done n j ratio h)) (record { below = below; reached = λ _. h; most = omega arith })

-- ---- 01's sentence
pub count_small : (ratio : Float) → (ratio ≤ᶠ c1+1e-9) ≡ true → halving_count ratio ≡ 0
unfolding halving_count
count_small ratio h = simp h

pub count_above : (ratio : Float) → (ratio ≤ᶠ c1+1e-9) ≡ false → halving_count ratio ≡ first_from 20 0 ratio
unfolding halving_count
count_above ratio h = simp h

pub count_least : (ratio : Float) → (ratio ≤ᶠ c1+1e-9) ≡ false → IsLeast ratio (halving_count ratio)
count_least ratio h = subst (IsLeast ratio) (sym (count_above ratio h)) (first_least 20 0 ratio refl none)
  where
    none : (i : ℕ) → i < 0 → (power i <ᶠ ratio) ≡ true
    none i l = let no : ⊥ = omega arith in absurd no

pub count_most : (ratio : Float) → halving_count ratio ≤ 20
count_most ratio = go (ratio ≤ᶠ c1+1e-9) refl
  where
    go : (b : Bool) → (ratio ≤ᶠ c1+1e-9) ≡ b → halving_count ratio ≤ 20
    go true h = subst (λ (k : ℕ). k ≤ 20) (sym (count_small ratio h)) zero-le
    go false h = (count_least ratio h).most

-- a number with these three properties is the only one
pub least_only : (ratio : Float) (j k : ℕ) → IsLeast ratio j → IsLeast ratio k → j ≡ k
least_only ratio j k J K = elim (below_or_not j k) [
  | inl l ↦ absurd (earlier ratio j k J K l)
  | inr g ↦ elim (eq-or-lt_of_le g) [ inl e ↦ sym e | inr l ↦ absurd (earlier ratio k j K J l) ]
]
  where
    earlier : (ratio : Float) (j k : ℕ) → IsLeast ratio j → IsLeast ratio k → j < k → ⊥
    earlier ratio j k J K l = true≢false (sym (K.below j l) ∙ J.reached (lt_of_lt_of_le l K.most))

-- ---- computed: NaN and infinity, and 01's examples
pub record Examples : Type 0 where
  pub not_a_number : halving_count nan ≡ 0
  pub infinite : halving_count (inf false) ≡ 20
  pub one : halving_count (of_bits binary64 0x3ff0_0000_0000_0000) ≡ 0
  pub thousand : halving_count (of_bits binary64 0x4090_0000_0000_0000) ≡ 10
  pub thousand_next : halving_count (of_bits binary64 0x4090_0000_0000_0001) ≡ 11
  pub at_tolerance : halving_count c1+1e-9 ≡ 0
  pub past_tolerance : halving_count (of_bits binary64 0x3ff0_0000_0044_b831) ≡ 1

pub examples : Examples
unfolding halving_count of_bits Ieee.lt Ieee.le Ieee.of_int
examples = record { not_a_number = refl; infinite = refl; one = refl; thousand = refl; thousand_next = refl; at_tolerance = refl; past_tolerance = refl }
