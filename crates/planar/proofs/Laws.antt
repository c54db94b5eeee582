-- The composed covariance is exactly symmetric, and the composed heading of two headings of at most 4 in size lies within half a turn: their sum lies from −8 to 8,
-- and taking off or adding a turn brings what is beyond half a turn between −PI and PI, since sums and differences keep the order. Assumes nothing.
use mathlib.Core.Path.{◌≡◌, refl, sym, ◌∙◌}
use mathlib.Core.Bool.{Bool, true, false, cond, ◌&&◌, false≢true}
use mathlib.Core.List.{List}
use lib.Ieee as Ieee
use lib.Ieee.{Float, is_nan}
use Rattle.number.specs.Float.{finite, size, ◌⊕◌, ◌⊖◌, −◌, ◌<ᶠ◌, ◌≤ᶠ◌}
use Rattle.number.specs.Constants.{half, c4, c8, PI, TAU}
use Rattle.number.proofs.float.Monotone.{<ᶠ-≤ᶠ, not_below, ≤ᶠ-connected, finite_no_nan, ≤ᶠ-transitive, between_finite, ⊕-monotone, ⊖-monotone, ⊕-monotone_both}
use Rattle.number.proofs.float.Sizes.{size_at_most, size_at_least, size_bounded}
use Rattle.mat3.specs.Matrix.{sum, transpose}
use Rattle.mat3.proofs.Laws.{Symmetric, plus_transpose_symmetric, sum_symmetric, scaled_symmetric}
use Rattle.planar.specs.declared.PlanarMotion.{PlanarMotion}
use Rattle.planar.specs.Motion.{heading}
use Rattle.planar.specs.Compose.{composed, wrapped, symmetrized}

symmetrized_symmetric : (A B : List Float) → Symmetric (symmetrized A B)
unfolding symmetrized
symmetrized_symmetric A B =
    let P = sum A (transpose A) in
    let Q = sum B (transpose B) in
    scaled_symmetric (sum P Q) half (sum_symmetric P Q (plus_transpose_symmetric A) (plus_transpose_symmetric B))

pub composed_symmetric : (a b : PlanarMotion) → Symmetric (composed a b).covariance
unfolding composed
composed_symmetric a b = symmetrized_symmetric _ _

-- ---- the heading

-- what the checker computes of the bounds
record Bounds : Type 0 where
  PI-finite : finite PI ≡ true
  TAU-finite : finite TAU ≡ true
  −PI-finite : finite (− PI) ≡ true
  c4-finite : finite c4 ≡ true
  −c4-finite : finite (− c4) ≡ true
  c8-finite : finite c8 ≡ true
  −c8-finite : finite (− c8) ≡ true
  c4-twice : c4 ⊕ c4 ≡ c8
  −c4-twice : − c4 ⊕ − c4 ≡ − c8
  PI-turned_back : PI ⊖ TAU ≡ − PI
  −PI-turned_on : − PI ⊕ TAU ≡ PI
  c8-turned_back : (c8 ⊖ TAU ≤ᶠ PI) ≡ true
  −c8-turned_on : (− PI ≤ᶠ − c8 ⊕ TAU) ≡ true

bounds : Bounds
unfolding Ieee.add Ieee.sub Ieee.neg Ieee.le Ieee.of_bits
bounds = record {
  PI-finite = refl;
  TAU-finite = refl;
  −PI-finite = refl;
  c4-finite = refl;
  −c4-finite = refl;
  c8-finite = refl;
  −c8-finite = refl;
  c4-twice = refl;
  −c4-twice = refl;
  PI-turned_back = refl;
  −PI-turned_on = refl;
  c8-turned_back = refl;
  −c8-turned_on = refl;
}

-- x lies from lo to hi
record Within (lo x hi : Float) : Type 0 where
  low : (lo ≤ᶠ x) ≡ true
  high : (x ≤ᶠ hi) ≡ true

sum_within : (x y : Float) → (size x ≤ᶠ c4) ≡ true → (size y ≤ᶠ c4) ≡ true → Within (− c8) (x ⊕ y) c8
sum_within x y p q = record {
  low = rw bounds.−c4-twice at (⊕-monotone_both (− c4) x (− c4) y bounds.−c4-finite x_finite bounds.−c4-finite y_finite (size_at_least x c4 p) (size_at_least y c4 q));
  high = rw bounds.c4-twice at (⊕-monotone_both x c4 y c4 x_finite bounds.c4-finite y_finite bounds.c4-finite (size_at_most x c4 p) (size_at_most y c4 q));
}
  where
    x_finite : finite x ≡ true
    x_finite = size_bounded x c4 bounds.c4-finite p

    y_finite : finite y ≡ true
    y_finite = size_bounded y c4 bounds.c4-finite q

module _ (S : Float) (within : Within (− c8) S c8) where
  S-finite : finite S ≡ true
  S-finite = between_finite (− c8) S c8 bounds.−c8-finite bounds.c8-finite within.low within.high

  turned_back : (PI <ᶠ S) ≡ true → Within (− PI) (S ⊖ TAU) PI
  turned_back h = record {
    low = rw bounds.PI-turned_back at (⊖-monotone PI S TAU bounds.PI-finite S-finite bounds.TAU-finite (<ᶠ-≤ᶠ PI S h));
    high = ≤ᶠ-transitive (S ⊖ TAU) (c8 ⊖ TAU) PI (⊖-monotone S c8 TAU S-finite bounds.c8-finite bounds.TAU-finite within.high) bounds.c8-turned_back;
  }

  turned_on : (S ≤ᶠ − PI) ≡ true → Within (− PI) (S ⊕ TAU) PI
  turned_on h = record {
    low = ≤ᶠ-transitive (− PI) (− c8 ⊕ TAU) (S ⊕ TAU) bounds.−c8-turned_on (⊕-monotone (− c8) S TAU bounds.−c8-finite S-finite bounds.TAU-finite within.low);
    high = rw bounds.−PI-turned_on at (⊕-monotone S (− PI) TAU S-finite bounds.−PI-finite bounds.TAU-finite h);
  }

  wrapped_within : Within (− PI) (wrapped S) PI
  unfolding wrapped
  wrapped_within = go (− PI ≤ᶠ S) (S ≤ᶠ PI) (PI <ᶠ S) refl refl refl
    where
      S-no_nan : is_nan S ≡ false
      S-no_nan = finite_no_nan S S-finite

      go : (l u o : Bool) → (− PI ≤ᶠ S) ≡ l → (S ≤ᶠ PI) ≡ u → (PI <ᶠ S) ≡ o → Within (− PI) (cond (l && u) S (cond o (S ⊖ TAU) (S ⊕ TAU))) PI
      go true true o p q r = record { low = p; high = q }
      go true false true p q r = turned_back r
      go true false false p q r = absurd (false≢true (sym q ∙ not_below PI S (finite_no_nan PI bounds.PI-finite) S-no_nan r))
      go false u true p q r = turned_back r
      go false u false p q r = turned_on (≤ᶠ-connected (− PI) S (finite_no_nan (− PI) bounds.−PI-finite) S-no_nan p)

pub composed_heading : (a b : PlanarMotion) → (size (heading a) ≤ᶠ c4) ≡ true → (size (heading b) ≤ᶠ c4) ≡ true
    → ((− PI ≤ᶠ heading (composed a b)) ≡ true) × ((heading (composed a b) ≤ᶠ PI) ≡ true)
unfolding composed
composed_heading a b p q =
    let w = wrapped_within (heading a ⊕ heading b) (sum_within (heading a) (heading b) p q) in
    (w.low, w.high)
