-- From bit patterns to floats: the pattern of a finite f64 from zero up stands for `pattern_grains` grains, that of one above zero is in range, and
-- `RootBits` of two patterns is `IsRoot` of the floats. Assumes nothing.
use mathlib.Core.Path.{◌≡◌, refl, sym, ap, ◌∙◌, subst}
use mathlib.Core.Logic.{inl, inr}
use Prim.Native.Nat.{ℕ, zero, suc, ◌+◌, ◌-◌, ◌*◌, ◌/◌, ◌%◌, ◌^◌, ◌≤◌, ◌<◌}
use native.Mathlib.Nat.{le_of_lt, not-le_of_lt, mul-one, mul-div_cancel, mod-eq_of_lt, le_antisymm}
use native.Mathlib.Omega.{arith}
use mathlib.Core.Bool.{Bool, true, false, not, cond}
use lib.Dec.{T, leb, eqb, leb→le, le→leb, eqb→eq, not_T}
use lib.Ieee.{Float, nan, inf, fin, binary64, odd, down, of_fields, of_bits, nan_bits, to_bits, fits, is_nan}
use lib.Ieee.Fits.{down_pos}
use lib.Ieee.Bits.{is_true, is_false, cond_no, of_bits-to_bits, to_bits-of_bits, of_bits-fits, nan_bits_is}
use lib.Ieee.Exact.{HasValue, odd_sign}
use lib.Ieee.Positive.{positive, positive_of_value}
use Rattle.root.specs.Root.{grains, next, previous, IsRoot}
use Rattle.root.specs.Root.{field_grains, pattern_grains}
use Rattle.root.specs.Inside.Steps.{RootBits}
use Rattle.number.proofs.Below.{below_or_not}
use Rattle.root.proofs.Values.{pattern_is, pattern_step}

-- ---- what a pattern is read as
read : (b : ℕ) → of_bits binary64 b ≡ of_fields binary64 (leb (2 ^ 63) b) (b % 2 ^ 63 / 2 ^ 52) (b % 2 ^ 52)
unfolding of_bits
read b = refl

sign_clear : (b : ℕ) → b < 2 ^ 63 → of_bits binary64 b ≡ of_fields binary64 false (b / 2 ^ 52) (b % 2 ^ 52)
sign_clear b u =
    read b
    ∙ ap (λ (s : Bool). of_fields binary64 s (b % 2 ^ 63 / 2 ^ 52) (b % 2 ^ 52)) (is_false (leb (2 ^ 63) b) (not_T (leb (2 ^ 63) b) (λ (t : T (leb (2 ^ 63) b)). not-le_of_lt u (leb→le (2 ^ 63) b t))))
    ∙ ap (λ (x : ℕ). of_fields binary64 false (x / 2 ^ 52) (b % 2 ^ 52)) (mod-eq_of_lt u)

fields_value : (x t : ℕ) → x < 2047 → HasValue (of_fields binary64 false x t) false (field_grains x t) (2 ^ 1074)
unfolding of_fields field_grains
fields_value zero t h = subst (λ (a : ℕ). HasValue (odd 53 false t 0 1074) false a (2 ^ 1074)) (mul-one t) (odd_sign 53 false t 0 1074)
fields_value (suc x) t h =
    subst (λ (v : Float). HasValue v false ((2 ^ 52 + t) * 2 ^ x) (2 ^ 1074))
    (sym (cond_no (eqb (suc x) 2047) (cond (eqb t 0) (inf false) nan) (odd 53 false (2 ^ 52 + t) x 1074) (not_T (eqb (suc x) 2047) (λ (u : T (eqb (suc x) 2047)). differ x h (eqb→eq (suc x) 2047 u)))))
    (odd_sign 53 false (2 ^ 52 + t) x 1074)
  where
    differ : (x : ℕ) → suc x < 2047 → suc x ≡ 2047 → ⊥
    differ x h e = omega arith

pub bits_value : (b : ℕ) → b < 0x7ff0_0000_0000_0000 → HasValue (of_bits binary64 b) false (pattern_grains b) (2 ^ 1074)
bits_value b u =
    subst (λ (v : Float). HasValue v false (pattern_grains b) (2 ^ 1074)) (sym (sign_clear b (wide b u)))
    (subst (λ (a : ℕ). HasValue (of_fields binary64 false (b / 2 ^ 52) (b % 2 ^ 52)) false a (2 ^ 1074)) (sym (pattern_is b)) (fields_value (b / 2 ^ 52) (b % 2 ^ 52) (field b u)))
  where
    wide : (b : ℕ) → b < 0x7ff0_0000_0000_0000 → b < 2 ^ 63
    wide b u = omega arith

    field : (b : ℕ) → b < 0x7ff0_0000_0000_0000 → b / 2 ^ 52 < 2047
    field b u = omega arith

-- ---- in grains
of_value : (x : Float) (a : ℕ) → HasValue x false a (2 ^ 1074) → grains x ≡ a
unfolding grains
of_value nan a h = absurd h
of_value (inf s) a h = absurd h
of_value (fin s m e) a h = ap (λ (z : ℕ). z / down e) h.1 ∙ mul-div_cancel a (down_pos e)

at_top : grains (of_bits binary64 0x7ff0_0000_0000_0000) ≡ pattern_grains 0x7ff0_0000_0000_0000
unfolding grains of_bits pattern_grains field_grains
at_top = refl

pub bits_grains : (b : ℕ) → b ≤ 0x7ff0_0000_0000_0000 → grains (of_bits binary64 b) ≡ pattern_grains b
bits_grains b h = elim (below_or_not b 0x7ff0_0000_0000_0000) [
  | inl l ↦ of_value (of_bits binary64 b) (pattern_grains b) (bits_value b l)
  | inr g ↦ subst (λ (x : ℕ). grains (of_bits binary64 x) ≡ pattern_grains x) (le_antisymm g h) at_top
]

-- ---- the pattern of a field_grains that is finite and above zero
odd_neg : (d q k l : ℕ) → T (positive (odd d true q k l)) → ⊥
unfolding odd
odd_neg d zero k l p = p
odd_neg d (suc q) k l p = p

fields_neg : (x t : ℕ) → T (positive (of_fields binary64 true x t)) → ⊥
unfolding of_fields
fields_neg zero t p = odd_neg 53 t 0 1074 p
fields_neg (suc x) t p = go (eqb (suc x) 2047) (eqb t 0) p
  where
    go : (a b : Bool) → T (positive (cond a (cond b (inf true) nan) (odd 53 true (2 ^ 52 + t) x 1074))) → ⊥
    go true true q = q
    go true false q = q
    go false b q = odd_neg 53 (2 ^ 52 + t) x 1074 q

at_ones : (t : ℕ) → T (positive (of_fields binary64 false 2047 t)) → ⊥
unfolding of_fields
at_ones t p = go (eqb t 0) p
  where
    go : (b : Bool) → T (positive (cond b (inf false) nan)) → ⊥
    go true q = q
    go false q = q

none : T (positive (of_bits binary64 0)) → ⊥
unfolding of_bits
none p = p

negative : (b : ℕ) → 2 ^ 63 ≤ b → T (positive (of_bits binary64 b)) → ⊥
negative b l p =
    fields_neg (b % 2 ^ 63 / 2 ^ 52) (b % 2 ^ 52)
    (subst (λ (w : Float). T (positive w)) (read b ∙ ap (λ (s : Bool). of_fields binary64 s (b % 2 ^ 63 / 2 ^ 52) (b % 2 ^ 52)) (is_true (leb (2 ^ 63) b) (le→leb (2 ^ 63) b l))) p)

too_large : (b : ℕ) → 0x7ff0_0000_0000_0000 ≤ b → b < 2 ^ 63 → T (positive (of_bits binary64 b)) → ⊥
too_large b l u p = at_ones (b % 2 ^ 52) (subst (λ (w : Float). T (positive w)) (sign_clear b u ∙ ap (λ (x : ℕ). of_fields binary64 false x (b % 2 ^ 52)) (the_field b l u)) p)
  where
    the_field : (b : ℕ) → 0x7ff0_0000_0000_0000 ≤ b → b < 2 ^ 63 → b / 2 ^ 52 ≡ 2047
    the_field b l u = omega arith

pub in_range : (x : Float) → T (fits binary64 x) → T (positive x) → (0 < to_bits binary64 x) × (to_bits binary64 x < 0x7ff0_0000_0000_0000)
in_range x F P =
    let b = to_bits binary64 x in
    let p : T (positive (of_bits binary64 b)) = subst (λ (w : Float). T (positive w)) (sym (of_bits-to_bits binary64 x F)) P in (
      elim (below_or_not 0 b) [ inl h ↦ h | inr h ↦ absurd (none (subst (λ (n : ℕ). T (positive (of_bits binary64 n))) (zero_of b h) p)) ],
      elim (below_or_not b 0x7ff0_0000_0000_0000) [ inl h ↦ h | inr h ↦ elim (below_or_not b (2 ^ 63)) [ inl g ↦ absurd (too_large b h g p) | inr g ↦ absurd (negative b g p) ] ],
    )
  where
    zero_of : (b : ℕ) → b ≤ 0 → b ≡ 0
    zero_of b h = omega arith

pub positive_no_nan : (x : Float) → T (positive x) → T (not (is_nan x))
unfolding is_nan
positive_no_nan nan p = absurd p
positive_no_nan (inf s) p = absurd p
positive_no_nan (fin s m e) p = tt

value_no_nan : (x : Float) (a c : ℕ) → HasValue x false a c → T (not (is_nan x))
unfolding is_nan
value_no_nan nan a c h = absurd h
value_no_nan (inf s) a c h = tt
value_no_nan (fin s m e) a c h = tt

pub bits_no_nan : (p : ℕ) → p < 0x7ff0_0000_0000_0000 → T (not (nan_bits binary64 p))
bits_no_nan p u = subst (λ (b : Bool). T (not b)) (sym (nan_bits_is binary64 p)) (value_no_nan (of_bits binary64 p) (pattern_grains p) (2 ^ 1074) (bits_value p u))

written : (p : ℕ) → p < 0x7ff0_0000_0000_0000 → to_bits binary64 (of_bits binary64 p) ≡ p
written p u = to_bits-of_bits binary64 p (wide p u) (value_no_nan (of_bits binary64 p) (pattern_grains p) (2 ^ 1074) (bits_value p u))
  where
    wide : (p : ℕ) → p < 0x7ff0_0000_0000_0000 → p < 2 * 2 ^ 63
    wide p u = omega arith

-- ---- the neighbours' grains, of a field_grains given by its pattern
pub grains_next : (r : Float) (p : ℕ) → to_bits binary64 r ≡ p → p < 0x7ff0_0000_0000_0000 → grains (next r) ≡ pattern_grains (p + 1)
unfolding next
grains_next r p e u = ap (λ (n : ℕ). grains (of_bits binary64 (n + 1))) e ∙ bits_grains (p + 1) (omega arith)

pub grains_previous : (r : Float) (p : ℕ) → to_bits binary64 r ≡ p → p < 0x7ff0_0000_0000_0000 → grains (previous r) ≡ pattern_grains (p - 1)
unfolding previous
grains_previous r p e u = ap (λ (n : ℕ). grains (of_bits binary64 (n - 1))) e ∙ bits_grains (p - 1) (omega arith)

pub grains_at : (r : Float) → T (fits binary64 r) → T (positive r) → grains r ≡ pattern_grains (to_bits binary64 r)
grains_at r F P = ap grains (sym (of_bits-to_bits binary64 r F)) ∙ bits_grains (to_bits binary64 r) (le_of_lt (in_range r F P).1)

-- ---- `RootBits` of the patterns is `IsRoot` of the floats
pub is_root : (x : Float) (p : ℕ) → T (fits binary64 x) → T (positive x) → RootBits (to_bits binary64 x) p → IsRoot x (of_bits binary64 p)
is_root x p F P k =
    let r = of_bits binary64 p in
    let gx : grains x ≡ pattern_grains (to_bits binary64 x) = grains_at x F P in
    let gr : grains r ≡ pattern_grains p = bits_grains p (le_of_lt k.few) in
    let gn : grains (next r) ≡ pattern_grains (p + 1) = grains_next r p (written p k.few) k.few in
    let gp : grains (previous r) ≡ pattern_grains (p - 1) = grains_previous r p (written p k.few) k.few in
    record {
      held = of_bits-fits binary64 p;
      above_zero = positive_of_value r (pattern_grains p) (2 ^ 1074) (bits_value p k.few) (above p k.some);
      over = rw (gx, gr, gp) k.over;
      under = rw (gx, gr, gn) k.under;
    }
  where
    back : (p : ℕ) → 0 < p → p - 1 + 1 ≡ p
    back p h = omega arith

    pos_of : (a b : ℕ) → a < b → 0 < b
    pos_of a b h = omega arith

    above : (p : ℕ) → 0 < p → 0 < pattern_grains p
    above p h = pos_of (pattern_grains (p - 1)) (pattern_grains p) (subst (λ (y : ℕ). pattern_grains (p - 1) < pattern_grains y) (back p h) (pattern_step (p - 1)))
