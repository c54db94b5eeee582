-- Whole numbers of w bits: `residue w` and `signed w` undo each other, and the lowest w bits of a residue modulo 2^64 are the residue modulo 2^w. At 64 they are what the
-- machine writes and reads, and a difference of two residues is, modulo 2^64, the residue of the difference. Assumes nothing.
use Rattle.std.proofs.Common.{◌≡◌, ℕ, zero, suc, ◌+◌, ◌-◌, ◌*◌, ◌/◌, ◌%◌, ◌^◌, ◌<◌, ◌≤◌, Bool, true, false, cond, not, T, ltb, ℤ, pos, negsuc, ◌-ℤ◌, nat_abs, sym, refl, ap, ◌∙◌, subst, mul-le-mul_right, mod-lt, mod-eq_of_lt, div-lt_iff_lt-mul, add-mul, div-add-mod', arith, ltb→lt, nltb→le, pow_pos, pow-add, w64, Fits, SFits, le-ltb, lt-ltb, leb-false}
use Prim.Native.Nat.{◌∣◌}
use native.Mathlib.Nat.{mod-mod_of_dvd, dvd-mul_left, mul-add-mod_self_right, pow-succ'}
use mathlib.Core.Bool.{false≢true}
use lib.Pow.{ones_sub-lt}
use lib.IntN.{+ℤ_comm, -ℤ_one}
use lib.Signed.{mag, non_neg, le_z}
use Rattle.number.specs.Ticks.{IsI64, IsSigned, residue, signed}

-- a choice by the order of two numbers
by_order : {A : Type 0} (P : A → Type 0) (a b : ℕ) {x y : A} → (a < b → P x) → (b ≤ a → P y) → P (cond (ltb a b) x y)
by_order {A} P a b {x} {y} f g = go (ltb a b) (λ t. f (ltb→lt a b t)) (λ t. g (nltb→le a b t))
  where
    go : (t : Bool) → (T t → P x) → (T (not t) → P y) → P (cond t x y)
    go true f g = f tt
    go false f g = g tt

-- ---- for every width

pub twice : (w : ℕ) → 1 ≤ w → 2 ^ w ≡ 2 * 2 ^ (w - 1)
twice zero h = let none : ⊥ = omega arith in absurd none
twice (suc k) h = pow-succ' 2 k ∙ ap (λ (n : ℕ). 2 * 2 ^ n) (omega arith)

pub residue_below : (w : ℕ) (z : ℤ) → residue w z < 2 ^ w
residue_below w (pos n) = mod-lt n (pow_pos w)
residue_below w (negsuc n) = ones_sub-lt w (n % 2 ^ w)

module _ (w : ℕ) (some : 1 ≤ w) where
  whole : 2 ^ w ≡ 2 * 2 ^ (w - 1)
  whole = twice w some

  pub signed_in_range : (n : ℕ) → n < 2 ^ w → IsSigned w (signed w n)
  signed_in_range n h = by_order (IsSigned w) n (2 ^ (w - 1)) (λ l. l) (λ l. omega (arith, whole))

  pub residue_signed : (n : ℕ) → n < 2 ^ w → residue w (signed w n) ≡ n
  residue_signed n h = by_order (λ (z : ℤ). residue w z ≡ n) n (2 ^ (w - 1)) (λ l. mod-eq_of_lt h) (λ l. rw (mod-eq_of_lt {n = 2 ^ w - suc n} {m = 2 ^ w} (omega arith)) (omega arith))

  pub signed_residue : (z : ℤ) → IsSigned w z → signed w (residue w z) ≡ z
  signed_residue (pos n) h = rw (mod-eq_of_lt {n = n} {m = 2 ^ w} (omega (arith, whole)), lt-ltb n (2 ^ (w - 1)) h)
  signed_residue (negsuc n) h =
      rw (mod-eq_of_lt {n = n} {m = 2 ^ w} (omega (arith, whole)), le-ltb (2 ^ w - 1 - n) (2 ^ (w - 1)) (omega (arith, whole)))
      (ap negsuc (omega (arith, whole)))

-- 2^64 is so many times 2^w
parts : (w : ℕ) → w ≤ 64 → 2 ^ 64 ≡ 2 ^ (64 - w) * 2 ^ w
parts w h = let all : 64 ≡ 64 - w + w = omega arith in ap (λ (n : ℕ). 2 ^ n) all ∙ pow-add 2 (64 - w) w

-- 2^w divides 2^64, so the lowest w bits are left
low_bits : (w : ℕ) → w ≤ 64 → (n : ℕ) → n % 2 ^ 64 % 2 ^ w ≡ n % 2 ^ w
low_bits w h n = mod-mod_of_dvd (2 ^ w) n (subst (λ (m : ℕ). 2 ^ w ∣ m) (sym (parts w h)) (dvd-mul_left (2 ^ w) (2 ^ (64 - w))))

-- of k·m numbers from the other end: its place among the m is that from the other end too
from_end : (k m n : ℕ) → 0 < m → n < k * m → (k * m - 1 - n) % m ≡ m - 1 - n % m
from_end k m n some h =
    let q = n / m in
    let t = n % m in
    let small : t < m = mod-lt n some in
    let below : q < k = (div-lt_iff_lt-mul some).1 h in
    let split : q * m + t ≡ n = div-add-mod' n m in
    let more : suc q * m ≤ k * m = mul-le-mul_right m below in
    let less : (k - suc q) * m + suc q * m ≡ k * m = sym (add-mul (k - suc q) (suc q) m) ∙ ap (λ (x : ℕ). x * m) (omega arith) in
    let back : k * m - 1 - n ≡ (k - suc q) * m + (m - 1 - t) = omega arith in
    ap (λ (x : ℕ). x % m) back ∙ mul-add-mod_self_right (k - suc q) m (m - 1 - t) ∙ mod-eq_of_lt (omega arith)

pub residue_low : (w : ℕ) → w ≤ 64 → (z : ℤ) → residue 64 z % 2 ^ w ≡ residue w z
residue_low w h (pos n) = low_bits w h n
residue_low w h (negsuc n) =
    ap (λ (m : ℕ). (m - 1 - n % 2 ^ 64) % 2 ^ w) (parts w h)
    ∙ from_end (2 ^ (64 - w)) (2 ^ w) (n % 2 ^ 64) (pow_pos w) (subst (λ (m : ℕ). n % 2 ^ 64 < m) (parts w h) (mod-lt n (pow_pos 64)))
    ∙ ap (λ (m : ℕ). 2 ^ w - 1 - m) (low_bits w h n)

-- ---- at 64: what the machine writes and reads

-- the toolchain's word for an i64
pub fits_i64 : (z : ℤ) → IsI64 z → SFits w64 z
fits_i64 (pos n) h = record { sfits = h }
fits_i64 (negsuc n) h = record { sfits = h }

pub i64_fits : (z : ℤ) → SFits w64 z → IsI64 z
i64_fits (pos n) h = h.sfits
i64_fits (negsuc n) h = h.sfits

-- a number that is not negative is its own residue
pub positive_cast : (z : ℤ) → SFits w64 z → le_z (pos 0) z ≡ true → T (non_neg z) × Fits w64 (nat_abs z)
positive_cast (pos n) f h = let b : n < 2 ^ 63 = f.sfits in (tt, record { fits = omega arith })
positive_cast (negsuc n) f h = absurd (false≢true h)

pub positive_residue : (z : ℤ) → SFits w64 z → le_z (pos 0) z ≡ true → nat_abs z ≡ residue 64 z
positive_residue (pos n) f h = let b : n < 2 ^ 63 = f.sfits in omega arith
positive_residue (negsuc n) f h = absurd (false≢true h)

-- a negative z by −1 − z, which is 0 or more
pub complement : (z : ℤ) → le_z (pos 0) z ≡ false → negsuc 0 -ℤ z ≡ pos (mag z)
complement (pos n) h = let b : n < 0 = leb-false 0 n h in absurd (omega arith)
complement (negsuc k) h = +ℤ_comm (negsuc 0) (pos (suc k)) ∙ -ℤ_one (pos (suc k))

pub negative_residue : (z : ℤ) → SFits w64 z → le_z (pos 0) z ≡ false → 2 ^ 64 - 1 - mag z ≡ residue 64 z
negative_residue (pos n) f h = let b : n < 0 = leb-false 0 n h in absurd (omega arith)
negative_residue (negsuc k) f h = let b : k < 2 ^ 63 = f.sfits in omega arith

pub complement_back : (k : ℕ) → negsuc 0 -ℤ pos k ≡ negsuc k
complement_back zero = refl
complement_back (suc k) = ap (λ (x : ℕ). negsuc (suc x)) (omega arith)

pub negative_signed : (n : ℕ) → 2 ^ 63 ≤ n → negsuc (2 ^ 64 - 1 - n) ≡ signed 64 n
negative_signed n h = simp (le-ltb n (2 ^ 63) h) (ap negsuc (omega arith))

-- ---- a difference modulo 2^64, by the signs

pub residue_of_difference : (a b : ℤ) (d : ℕ) → d < 2 ^ 64 → (d + residue 64 b) % 2 ^ 64 ≡ residue 64 a → d ≡ residue 64 (a -ℤ b)
residue_of_difference (pos m) (pos zero) d l h = omega arith
residue_of_difference (pos m) (pos (suc n)) d l h = by_order (λ (z : ℤ). d ≡ residue 64 z) m (suc n) (λ p. omega arith) (λ p. omega arith)
residue_of_difference (pos m) (negsuc n) d l h = omega arith
residue_of_difference (negsuc m) (pos zero) d l h = by_order (λ (z : ℤ). d ≡ residue 64 z) 0 (suc m) (λ p. omega arith) (λ p. omega arith)
residue_of_difference (negsuc m) (pos (suc n)) d l h = omega arith
residue_of_difference (negsuc m) (negsuc n) d l h = by_order (λ (z : ℤ). d ≡ residue 64 z) (suc n) (suc m) (λ p. omega arith) (λ p. omega arith)
