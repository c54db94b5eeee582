-- What bit patterns stand for, in grains: `pattern_grains` of a pattern is that of a field and the digits, and a larger pattern stands for a larger number. Assumes nothing.
use mathlib.Core.Path.{◌≡◌, refl, sym, ap, ◌∙◌, subst}
use mathlib.Core.Logic.{inl, inr}
use Prim.Native.Nat.{ℕ, zero, suc, ◌+◌, ◌-◌, ◌*◌, ◌/◌, ◌%◌, ◌^◌, ◌≤◌, ◌<◌}
use native.Mathlib.Nat.{le_refl, le_trans, le_of_lt, le_dest, add-zero, add-suc, add_assoc, mul-lt-mul_of_pos_right, pow-succ'}
use native.Mathlib.Numerals.{add-one}
use native.Mathlib.Omega.{arith}
use lib.Pow.{pow_pos}
use Rattle.root.specs.Root.{field_grains, pattern_grains}
use Rattle.number.proofs.Below.{below_or_not}

pub pattern_is : (b : ℕ) → pattern_grains b ≡ field_grains (b / 2 ^ 52) (b % 2 ^ 52)
unfolding pattern_grains
pattern_is b = refl

pub field_suc : (k t : ℕ) → field_grains (suc k) t ≡ (2 ^ 52 + t) * 2 ^ k
unfolding field_grains
field_suc k t = refl

pub field_zero : (t : ℕ) → field_grains 0 t ≡ t
unfolding field_grains
field_zero t = refl

-- the pattern of a field x and the digits t
of_fields : (b x t : ℕ) → b / 2 ^ 52 ≡ x → b % 2 ^ 52 ≡ t → pattern_grains b ≡ field_grains x t
of_fields b x t p q = pattern_is b ∙ ap (λ (a : ℕ). field_grains a (b % 2 ^ 52)) p ∙ ap (field_grains x) q

-- a normal one: h + 1 in the field, R with its leading digit
pub pattern_at : (h R : ℕ) → 2 ^ 52 ≤ R → R < 2 ^ 53 → pattern_grains (h * 2 ^ 52 + R) ≡ R * 2 ^ h
pattern_at h R l u =
    of_fields (h * 2 ^ 52 + R) (suc h) (R - 2 ^ 52) (field h R l u) (digits h R l u) ∙ field_suc h (R - 2 ^ 52) ∙ ap (λ (x : ℕ). x * 2 ^ h) (back R l)
  where
    field : (h R : ℕ) → 2 ^ 52 ≤ R → R < 2 ^ 53 → (h * 2 ^ 52 + R) / 2 ^ 52 ≡ suc h
    field h R l u = omega arith

    digits : (h R : ℕ) → 2 ^ 52 ≤ R → R < 2 ^ 53 → (h * 2 ^ 52 + R) % 2 ^ 52 ≡ R - 2 ^ 52
    digits h R l u = omega arith

    back : (R : ℕ) → 2 ^ 52 ≤ R → 2 ^ 52 + (R - 2 ^ 52) ≡ R
    back R l = omega arith

pattern_full : (h : ℕ) → pattern_grains (h * 2 ^ 52 + 2 ^ 53) ≡ 2 ^ 53 * 2 ^ h
pattern_full h = of_fields (h * 2 ^ 52 + 2 ^ 53) (suc (suc h)) 0 (field h) (digits h) ∙ field_suc (suc h) 0 ∙ whole h
  where
    field : (h : ℕ) → (h * 2 ^ 52 + 2 ^ 53) / 2 ^ 52 ≡ suc (suc h)
    field h = omega arith

    digits : (h : ℕ) → (h * 2 ^ 52 + 2 ^ 53) % 2 ^ 52 ≡ 0
    digits h = omega arith

    whole : (h : ℕ) → (2 ^ 52 + 0) * 2 ^ suc h ≡ 2 ^ 53 * 2 ^ h
    whole h = let e : 2 ^ suc h ≡ 2 * 2 ^ h = pow-succ' 2 h in omega arith

pub pattern_next : (h R : ℕ) → 2 ^ 52 ≤ R → R < 2 ^ 53 → pattern_grains (h * 2 ^ 52 + R + 1) ≡ (R + 1) * 2 ^ h
pattern_next h R l u = ap pattern_grains (add_assoc (h * 2 ^ 52) R 1) ∙ elim (below_or_not (R + 1) (2 ^ 53)) [
  | inl k ↦ pattern_at h (R + 1) (more R l) k
  | inr k ↦ subst (λ (x : ℕ). pattern_grains (h * 2 ^ 52 + x) ≡ x * 2 ^ h) (sym (just R u k)) (pattern_full h)
]
  where
    more : (R : ℕ) → 2 ^ 52 ≤ R → 2 ^ 52 ≤ R + 1
    more R l = omega arith

    just : (R : ℕ) → R < 2 ^ 53 → 2 ^ 53 ≤ R + 1 → R + 1 ≡ 2 ^ 53
    just R u k = omega arith

-- ---- the order
within : (x t : ℕ) → field_grains x t < field_grains x (t + 1)
unfolding field_grains
within zero t = less t
  where
    less : (t : ℕ) → t < t + 1
    less t = omega arith
within (suc k) t = mul-lt-mul_of_pos_right (less t) (pow_pos k)
  where
    less : (t : ℕ) → 2 ^ 52 + t < 2 ^ 52 + (t + 1)
    less t = omega arith

across : (x : ℕ) → field_grains x (2 ^ 52 - 1) < field_grains (suc x) 0
unfolding field_grains
across zero = go (2 ^ 0) refl
  where
    go : (p : ℕ) → p ≡ 1 → 2 ^ 52 - 1 < (2 ^ 52 + 0) * p
    go p e = omega arith
across (suc k) = let e : 2 ^ suc k ≡ 2 * 2 ^ k = pow-succ' 2 k in go (2 ^ k) (2 ^ suc k) e (pow_pos k)
  where
    go : (p q : ℕ) → q ≡ 2 * p → 0 < p → (2 ^ 52 + (2 ^ 52 - 1)) * p < (2 ^ 52 + 0) * q
    go p q e h = omega arith

pub pattern_step : (b : ℕ) → pattern_grains b < pattern_grains (b + 1)
pattern_step b = elim (below_or_not (b % 2 ^ 52 + 1) (2 ^ 52)) [
  | inl k ↦
      subst (λ (y : ℕ). pattern_grains b < y) (sym (of_fields (b + 1) (b / 2 ^ 52) (b % 2 ^ 52 + 1) (same b k) (up b k)))
      (subst (λ (y : ℕ). y < field_grains (b / 2 ^ 52) (b % 2 ^ 52 + 1)) (sym (pattern_is b)) (within (b / 2 ^ 52) (b % 2 ^ 52)))
  | inr k ↦
      subst (λ (y : ℕ). pattern_grains b < y) (sym (of_fields (b + 1) (suc (b / 2 ^ 52)) 0 (more b k) (none b k)))
      (subst (λ (y : ℕ). y < field_grains (suc (b / 2 ^ 52)) 0) (sym (of_fields b (b / 2 ^ 52) (2 ^ 52 - 1) refl (last b k))) (across (b / 2 ^ 52)))
]
  where
    same : (b : ℕ) → b % 2 ^ 52 + 1 < 2 ^ 52 → (b + 1) / 2 ^ 52 ≡ b / 2 ^ 52
    same b k = omega arith

    up : (b : ℕ) → b % 2 ^ 52 + 1 < 2 ^ 52 → (b + 1) % 2 ^ 52 ≡ b % 2 ^ 52 + 1
    up b k = omega arith

    more : (b : ℕ) → 2 ^ 52 ≤ b % 2 ^ 52 + 1 → (b + 1) / 2 ^ 52 ≡ suc (b / 2 ^ 52)
    more b k = omega arith

    none : (b : ℕ) → 2 ^ 52 ≤ b % 2 ^ 52 + 1 → (b + 1) % 2 ^ 52 ≡ 0
    none b k = omega arith

    last : (b : ℕ) → 2 ^ 52 ≤ b % 2 ^ 52 + 1 → b % 2 ^ 52 ≡ 2 ^ 52 - 1
    last b k = omega arith

further : (b d : ℕ) → pattern_grains b ≤ pattern_grains (b + d)
further b zero = subst (λ (x : ℕ). pattern_grains b ≤ pattern_grains x) (sym (add-zero b)) (le_refl (pattern_grains b))
further b (suc d) =
    subst (λ (x : ℕ). pattern_grains b ≤ pattern_grains x) (add-one (b + d) ∙ sym (add-suc b d)) (le_trans (further b d) (le_of_lt (pattern_step (b + d))))

pub pattern_mono : (b c : ℕ) → b ≤ c → pattern_grains b ≤ pattern_grains c
pattern_mono b c h = subst (λ (x : ℕ). pattern_grains b ≤ pattern_grains x) (le_dest h).1 (further b (le_dest h).0)
