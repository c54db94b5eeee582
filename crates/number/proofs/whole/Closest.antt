-- What `closest a b`, a / b to the nearest whole number, is: of b's multiples the one nearest to a, and at a tie the even one. There is only one such.
-- Nothing here is about floats. Assumes nothing.
use Rattle.std.proofs.Common.{◌≡◌, ℕ, zero, suc, ◌+◌, ◌-◌, ◌*◌, ◌/◌, ◌%◌, ◌<◌, ◌≤◌, not, T, sym, refl, ap, ◌∙◌, inl, inr, mul-le-mul_right, mod-lt, suc-mul, eq-or-lt_of_le, div-add-mod', arith, eqb→eq, leb→le}
use Prim.Native.Nat.{compare, Ordering}
use lib.Arith.{lt_of_le-ne}
use lib.Dec.{is_le, compare_is_eq, nleb→lt}
use lib.Ieee.{nearest}
use lib.Ieee.Fits.{eq→eqb}
use lib.Ieee.Nearest.{closest}
use Rattle.number.specs.Whole.{apart}

pub record Closest (a b q : ℕ) : Type 0 where
  pub within : 2 * apart (q * b) a ≤ b
  pub even : 2 * apart (q * b) a ≡ b → q % 2 ≡ 0

-- ---- q's multiple lies r below a, or r above it
from_apart : (a b q r : ℕ) → apart (q * b) a ≡ r → 2 * r ≤ b → (2 * r ≡ b → q % 2 ≡ 0) → Closest a b q
from_apart a b q r e h k = record { within = omega arith; even = λ t. k (omega arith) }

from_below : (a b q r : ℕ) → q * b + r ≡ a → 2 * r ≤ b → (2 * r ≡ b → q % 2 ≡ 0) → Closest a b q
from_below a b q r e h k = from_apart a b q r (omega arith) h k

from_above : (a b q r : ℕ) → a + r ≡ q * b → 2 * r ≤ b → (2 * r ≡ b → q % 2 ≡ 0) → Closest a b q
from_above a b q r e h k = from_apart a b q r (omega arith) h k

-- ---- a / b is w with the remainder r: by whether r is below, above or at half of b
module _ (a b w r : ℕ) (split : w * b + r ≡ a) (rest : r < b) where
  below_half : r * 2 < b → Closest a b w
  below_half h = from_below a b w r split (omega arith) (λ t. absurd (omega arith))

  above_half : b < r * 2 → Closest a b (suc w)
  above_half h = from_above a b (suc w) (b - r) (omega arith) (omega arith) (λ t. absurd (omega arith))

  at_half : r * 2 ≡ b → (odd : ℕ) → w % 2 ≡ odd → Closest a b (w + odd)
  at_half h zero e = from_below a b (w + 0) r (omega arith) (omega arith) (λ t. omega arith)
  at_half h (suc zero) e = from_above a b (w + 1) r (omega arith) (omega arith) (λ t. omega arith)
  at_half h (suc (suc odd)) e = absurd (omega arith)

  nearest_closest : (o : Ordering) → (T (is_le o) → r * 2 ≤ b) → (T (not (is_le o)) → b < r * 2) → (T (compare_is_eq o) → r * 2 ≡ b) → (r * 2 ≡ b → T (compare_is_eq o)) → Closest a b (nearest w o)
  nearest_closest Ordering.lt le gt eq ne = below_half (lt_of_le-ne (le tt) ne)
  nearest_closest Ordering.eq le gt eq ne = at_half (eq tt) (w % 2) refl
  nearest_closest Ordering.gt le gt eq ne = above_half (gt tt)

pub closest_is : (a b : ℕ) → 0 < b → Closest a b (closest a b)
closest_is a b B =
    let r = a % b in
    nearest_closest a b (a / b) r (div-add-mod' a b) (mod-lt a B) (compare (r * 2) b) (leb→le (r * 2) b) (nleb→lt (r * 2) b) (eqb→eq (r * 2) b) eq→eqb

-- ---- two that are closest: neighbours would both be at a tie, and one of them is odd
module _ (a b p q : ℕ) (B : 0 < b) (h : Closest a b p) (k : Closest a b q) where
  not_next : q ≡ suc p → ⊥
  not_next e =
      let m : q * b ≡ p * b + b = ap (λ (x : ℕ). x * b) e ∙ suc-mul p b in
      let even-p = h.even (omega arith) in
      let even-q = k.even (omega arith) in
      omega arith

  not_further : suc p < q → ⊥
  not_further l = let m : suc (suc p) * b ≤ q * b = mul-le-mul_right b l in omega arith

  not_below : p < q → ⊥
  not_below l = elim (eq-or-lt_of_le l) [ inl e ↦ not_next (sym e) | inr m ↦ not_further m ]

pub closest_only : (a b p q : ℕ) → 0 < b → Closest a b p → Closest a b q → p ≡ q
closest_only a b p q B h k = go (not_below a b p q B h k) (not_below a b q p B k h)
  where
    go : (p < q → ⊥) → (q < p → ⊥) → p ≡ q
    go x y = omega arith
