-- From the root s of m to that of m * 2 ^ 54, by one division: the 27 digits more are those of (m - s * s) * 2 ^ 27 / (2 * s), or that less 1. Assumes nothing.
use mathlib.Core.Path.{◌≡◌, ap}
use mathlib.Core.Logic.{inl, inr}
use Prim.Native.Nat.{ℕ, ◌+◌, ◌-◌, ◌*◌, ◌/◌, ◌%◌, ◌^◌, ◌≤◌, ◌<◌}
use native.Mathlib.Nat.{mul-le-mul, le_of_mul-le-mul_right, div-add-mod', mod-lt}
use native.Mathlib.Omega.{arith}
use Rattle.root.specs.Inside.Steps.{Floor}
use Rattle.number.proofs.Below.{below_or_not}
use Rattle.root.proofs.Newton.{sq_pos}

-- ---- the range of a root
floor_ge : (n s a : ℕ) → Floor n s → a * a ≤ n → a ≤ s
floor_ge n s a f h = elim (below_or_not s a) [ inl l ↦ absurd (no (mul-le-mul (up l) (up l))) | inr g ↦ g ]
  where
    up : s < a → s + 1 ≤ a
    up l = omega arith

    no : (s + 1) * (s + 1) ≤ a * a → ⊥
    no k = let z = f.short in omega arith

floor_lt : (n s a : ℕ) → Floor n s → n < a * a → s < a
floor_lt n s a f h = elim (below_or_not s a) [ inl l ↦ l | inr g ↦ absurd (no (mul-le-mul g g)) ]
  where
    no : a * a ≤ s * s → ⊥
    no k = let z = f.reached in omega arith

pub root_ge : (m s : ℕ) → 2 ^ 52 ≤ m → Floor m s → 2 ^ 26 ≤ s
root_ge m s h f = floor_ge m s (2 ^ 26) f h

pub root_lt : (m s : ℕ) → m + 2 ≤ 2 ^ 54 → Floor m s → s < 2 ^ 27
root_lt m s h f = floor_lt m s (2 ^ 27) f (omega arith)

pub whole_ge : (m q : ℕ) → 2 ^ 52 ≤ m → Floor (m * 2 ^ 54) q → 2 ^ 53 ≤ q
whole_ge m q h f = floor_ge (m * 2 ^ 54) q (2 ^ 53) f (omega arith)

pub whole_lt : (m q : ℕ) → m + 2 ≤ 2 ^ 54 → Floor (m * 2 ^ 54) q → q < 2 ^ 54 - 1
whole_lt m q h f = floor_lt (m * 2 ^ 54) q (2 ^ 54 - 1) f (omega arith)

-- ---- the digits
pub rest_le : (m s : ℕ) → Floor m s → m - s * s ≤ 2 * s
rest_le m s f = let a = f.reached in let b = f.short in omega arith

-- t and u are the quotient and the remainder
pub record Digits (m s t u : ℕ) : Type 0 where
  pub split : t * (2 * s) + u ≡ (m - s * s) * 2 ^ 27
  pub rest : u < 2 * s
  pub most : t ≤ 2 ^ 27

pub digits : (m s : ℕ) → 0 < 2 * s → Floor m s → Digits m s ((m - s * s) * 134217728 / (2 * s)) ((m - s * s) * 134217728 % (2 * s))
digits m s p f =
    let d = (m - s * s) * 134217728 in
    let e : d / (2 * s) * (2 * s) + d % (2 * s) ≡ d = div-add-mod' d (2 * s) in
    record {
      split = e;
      rest = mod-lt d p;
      most = le_of_mul-le-mul_right (least (d / (2 * s) * (2 * s)) (d % (2 * s)) (m - s * s) e (rest_le m s f)) p;
    }
  where
    least : (a u r : ℕ) → a + u ≡ r * 134217728 → r ≤ 2 * s → a ≤ 2 ^ 27 * (2 * s)
    least a u r e l = omega arith

module _ (m s t u : ℕ) (f : Floor m s) (g : Digits m s t u) where
  -- what is left is u * 2 ^ 27 - t * t
  balance : m * 2 ^ 54 + t * t ≡ (s * 134217728 + t) * (s * 134217728 + t) + u * 134217728
  balance = let a = f.reached in let b = g.split in go (m - s * s) (m * 2 ^ 54) (part m (s * s) a) b
    where
      part : (m z : ℕ) → z ≤ m → m ≡ z + (m - z)
      part m z h = omega arith

      go : (r n : ℕ) → m ≡ s * s + r → t * (2 * s) + u ≡ r * 2 ^ 27 → m * 2 ^ 54 + t * t ≡ (s * 134217728 + t) * (s * 134217728 + t) + u * 134217728
      go r n e d = omega arith

  pub kept : t * t ≤ u * 134217728 → Floor (m * 2 ^ 54) (s * 134217728 + t)
  kept h = record { reached = reached'; short = short' }
    where
      reached' : (s * 134217728 + t) * (s * 134217728 + t) ≤ m * 2 ^ 54
      reached' = let b = balance in omega arith

      short' : m * 2 ^ 54 < (s * 134217728 + t + 1) * (s * 134217728 + t + 1)
      short' = let b = balance in let c = g.rest in omega arith

  pub less : 2 ^ 26 ≤ s → u * 134217728 < t * t → Floor (m * 2 ^ 54) (s * 134217728 + t - 1)
  less l h = go (s * 134217728 + t - 1) (pred_is (s * 134217728) t (first l)) balance
    where
      first : 2 ^ 26 ≤ s → 1 ≤ s * 134217728
      first k = omega arith

      pred_is : (a t : ℕ) → 1 ≤ a → a + t - 1 + 1 ≡ a + t
      pred_is a t k = omega arith

      go : (q : ℕ) → q + 1 ≡ s * 134217728 + t → m * 2 ^ 54 + t * t ≡ (s * 134217728 + t) * (s * 134217728 + t) + u * 134217728 → Floor (m * 2 ^ 54) q
      go q e b =
          let z : (q + 1) * (q + 1) ≡ (s * 134217728 + t) * (s * 134217728 + t) = ap (λ (x : ℕ). x * x) e in
          let w : t * t ≤ 2 ^ 27 * 2 ^ 27 = mul-le-mul g.most g.most in
          let v : 0 < t = sq_pos (u * 134217728) t h in
          record { reached = lower q e z w v b; short = upper q z b }
        where
          lower : (q : ℕ) → q + 1 ≡ s * 134217728 + t → (q + 1) * (q + 1) ≡ (s * 134217728 + t) * (s * 134217728 + t) → t * t ≤ 2 ^ 27 * 2 ^ 27 → 0 < t
              → m * 2 ^ 54 + t * t ≡ (s * 134217728 + t) * (s * 134217728 + t) + u * 134217728 → q * q ≤ m * 2 ^ 54
          lower q e z w v b = omega arith

          upper : (q : ℕ) → (q + 1) * (q + 1) ≡ (s * 134217728 + t) * (s * 134217728 + t)
              → m * 2 ^ 54 + t * t ≡ (s * 134217728 + t) * (s * 134217728 + t) + u * 134217728 → m * 2 ^ 54 < (q + 1) * (q + 1)
          upper q z b = omega arith
