-- The planar block's entries of the heading: with the yaw's 0 and 1 taken off, what stands on one side of the diagonal and across it are sums of the same two products, so they
-- are the same number. Assumes nothing.
use Rattle.std.proofs.Common.{arith}
use mathlib.Core.Path.{◌≡◌, sym, ap, ◌∙◌, subst}
use Prim.Native.Nat.{ℕ}
use mathlib.Core.Bool.{true}
use mathlib.Core.List.{List}
use lib.Dec.{T}
use lib.Ieee.{Float, binary64, fits}
use lib.Ieee.Fits.{add-fits, mul-fits}
use Rattle.number.specs.Float.{finite, ◌⊕◌, ◌⊗◌, −◌, ◌=ᶠ◌}
use Rattle.number.specs.Constants.{one}
use Rattle.number.specs.Constants.{zero as +0}
use Rattle.number.proofs.float.Commute.{⊕-commutes, ⊗-commutes}
use Rattle.number.proofs.float.Parts.{finite_sum, finite_product}
use Rattle.mat3.specs.Matrix.{entry, product, transpose, yaw, finite_matrix}
use Rattle.vec3.specs.Vector.{three_finite}
use Rattle.mat3.proofs.Laws.{Symmetric}
use Rattle.number.proofs.float.SameNumber.{Same, Zero, same_equal, same_turned, same_through, same_sum, same_product, times_zero, sum_zero, one_times, zero_plus}

zero_times : (x : Float) → finite x ≡ true → Zero (+0 ⊗ x)
zero_times x p = subst Zero (⊗-commutes x +0) (times_zero x p)

times_one : (x : Float) → T (fits binary64 x) → finite x ≡ true → Same (x ⊗ one) x
times_one x f p = subst (λ (v : Float). Same v x) (⊗-commutes one x) (one_times x f p)

plus_zero : {z : Float} (x : Float) → Zero z → T (fits binary64 x) → finite x ≡ true → Same (x ⊕ z) x
plus_zero {z} x Z f p = subst (λ (v : Float). Same v x) (⊕-commutes z x) (zero_plus x Z f p)

-- a row of the yaw's transpose that is (0, 0, 1)
kept : (f g a : Float) → T (fits binary64 a) → finite (+0 ⊗ f ⊕ +0 ⊗ g ⊕ one ⊗ a) ≡ true → Same (+0 ⊗ f ⊕ +0 ⊗ g ⊕ one ⊗ a) a
kept f g a h p =
    let parts = finite_sum (+0 ⊗ f ⊕ +0 ⊗ g) (one ⊗ a) p in
    let zeros = finite_sum (+0 ⊗ f) (+0 ⊗ g) parts.0 in
    let none = sum_zero (zero_times f (finite_product +0 f zeros.0).1) (zero_times g (finite_product +0 g zeros.1).1) in
    same_through (zero_plus (one ⊗ a) none (mul-fits binary64 one a) parts.1) (one_times a h (finite_product one a parts.1).1)

-- u and v are a column of the yaw, a and b what the inverse has of the heading in its last column, or in its last row
module _ (u v a b : Float) where
  abbrev down_column : Float → Float → Float → Float
  down_column x y d = x ⊗ +0 ⊕ y ⊗ +0 ⊕ (u ⊗ a ⊕ v ⊗ b ⊕ +0 ⊗ d) ⊗ one

  abbrev along_row : Float → Float → Float → Float → Float → Float
  along_row f g h k w = (+0 ⊗ f ⊕ +0 ⊗ g ⊕ one ⊗ a) ⊗ u ⊕ (+0 ⊗ h ⊕ +0 ⊗ k ⊕ one ⊗ b) ⊗ v ⊕ w ⊗ +0

  column_same : (x y d : Float) → finite (down_column x y d) ≡ true → Same (down_column x y d) (u ⊗ a ⊕ v ⊗ b)
  column_same x y d p =
      let S = u ⊗ a ⊕ v ⊗ b in
      let M = S ⊕ +0 ⊗ d in
      let parts = finite_sum (x ⊗ +0 ⊕ y ⊗ +0) (M ⊗ one) p in
      let zeros = finite_sum (x ⊗ +0) (y ⊗ +0) parts.0 in
      let none = sum_zero (times_zero x (finite_product x +0 zeros.0).0) (times_zero y (finite_product y +0 zeros.1).0) in
      let M-finite = (finite_product M one parts.1).0 in
      let inner = finite_sum S (+0 ⊗ d) M-finite in
      same_through (zero_plus (M ⊗ one) none (mul-fits binary64 M one) parts.1)
      (same_through (times_one M (add-fits binary64 S (+0 ⊗ d)) M-finite)
      (plus_zero S (zero_times d (finite_product +0 d inner.1).1) (add-fits binary64 (u ⊗ a) (v ⊗ b)) inner.0))

  row_same : (f g h k w : Float) → T (fits binary64 a) → T (fits binary64 b) → finite (along_row f g h k w) ≡ true → Same (along_row f g h k w) (a ⊗ u ⊕ b ⊗ v)
  row_same f g h k w A B p =
      let A' = +0 ⊗ f ⊕ +0 ⊗ g ⊕ one ⊗ a in
      let B' = +0 ⊗ h ⊕ +0 ⊗ k ⊕ one ⊗ b in
      let S = A' ⊗ u ⊕ B' ⊗ v in
      let parts = finite_sum S (w ⊗ +0) p in
      let products = finite_sum (A' ⊗ u) (B' ⊗ v) parts.0 in
      let first = finite_product A' u products.0 in
      let second = finite_product B' v products.1 in
      same_through (plus_zero S (times_zero w (finite_product w +0 parts.1).0) (add-fits binary64 (A' ⊗ u) (B' ⊗ v)) parts.0)
      (same_sum products.0 products.1 (same_product u first.0 first.1 (kept f g a A first.0)) (same_product v second.0 second.1 (kept h k b B second.0)))

across : (u v a b a' b' x y d f g h k w : Float) → a ≡ a' → b ≡ b' → T (fits binary64 a') → T (fits binary64 b')
    → finite (down_column u v a b x y d) ≡ true → finite (along_row u v a' b' f g h k w) ≡ true → (down_column u v a b x y d =ᶠ along_row u v a' b' f g h k w) ≡ true
across u v a b a' b' x y d f g h k w e r A B p q =
    let D = down_column u v a b x y d in
    let R = along_row u v a' b' f g h k w in
    let turned : a' ⊗ u ⊕ b' ⊗ v ≡ u ⊗ a ⊕ v ⊗ b = (λ i. ⊗-commutes a' u i ⊕ ⊗-commutes b' v i) ∙ (λ i. u ⊗ sym e i ⊕ v ⊗ sym r i) in
    same_equal D R p q (same_through (column_same u v a b x y d p) (same_turned (subst (Same R) turned (row_same u v a' b' f g h k w A B q))))

-- ---- the block of the sine s, the cosine c and the inverse P

pub record HeadingAcross (p : List Float) : Type 0 where
  pub x_heading : (entry p 0 2 =ᶠ entry p 2 0) ≡ true
  pub y_heading : (entry p 1 2 =ᶠ entry p 2 1) ≡ true

abbrev FiniteColumn : List Float → ℕ → Type 0
FiniteColumn m j = (finite (entry m 0 j) ≡ true) × (finite (entry m 1 j) ≡ true) × (finite (entry m 2 j) ≡ true)

columns : (m : List Float) → finite_matrix m ≡ true → FiniteColumn m 0 × FiniteColumn m 1 × FiniteColumn m 2
unfolding three_finite
columns m p = ((grind arith, grind arith, grind arith), (grind arith, grind arith, grind arith), (grind arith, grind arith, grind arith))

module _ (s c : Float) (P : List Float) where
  abbrev block : List Float
  block = product (product (transpose (yaw s c)) P) (yaw s c)

  pub heading_across : Symmetric P → T (fits binary64 (entry P 2 0)) → T (fits binary64 (entry P 2 1)) → finite_matrix block ≡ true → HeadingAcross block
  heading_across symmetric A B p =
      let finite-at = columns block p in
      let e : entry P 0 2 ≡ entry P 2 0 = ap (λ (m : List Float). entry m 2 0) symmetric in
      let r : entry P 1 2 ≡ entry P 2 1 = ap (λ (m : List Float). entry m 2 1) symmetric in
      record {
        x_heading = across c s _ _ _ _ _ _ _ _ _ _ _ _ e r A B finite-at.2.0 finite-at.0.2;
        y_heading = across (− s) c _ _ _ _ _ _ _ _ _ _ _ _ e r A B finite-at.2.1 finite-at.1.2;
      }
