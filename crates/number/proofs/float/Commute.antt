-- A sum and a product commute, the sign of a zero included. Assumes nothing.
use Rattle.std.proofs.Common.{◌≡◌, ℕ, ◌-◌, ◌*◌, ◌<◌, Bool, true, false, cond, eqb, ltb, sym, refl, ap, mul_comm, add_comm, arith, ltb-false, ltb-true}
use lib.Ieee as Ieee
use lib.Ieee.{Float, nan, inf, fin, up, down, unlike, sum, round, binary64}
use Rattle.number.specs.Float.{◌⊕◌, ◌⊗◌}

-- -a + b and b - a, over a common denominator
pub sum_turned : (a b c : ℕ) → sum binary64 true a false b c ≡ sum binary64 false b true a c
unfolding sum
sum_turned a b c = go (ltb a b) (ltb b a) refl refl
  where
    go : (p q : Bool) → ltb a b ≡ p → ltb b a ≡ q
        → cond p (round binary64 false (b - a) c) (round binary64 q (a - b) c) ≡ cond q (round binary64 true (a - b) c) (round binary64 false (b - a) c)
    go true true h k = let l : a < b = ltb-true a b h in let r : b < a = ltb-true b a k in absurd (omega arith)
    go true false h k = refl
    go false true h k = refl
    go false false h k = ap (λ (n : ℕ). round binary64 false n c) (omega (arith, ltb-false))

sum_commutes : (s : Bool) (a : ℕ) (t : Bool) (b c : ℕ) → sum binary64 s a t b c ≡ sum binary64 t b s a c
unfolding sum
sum_commutes true a true b c = ap (λ (n : ℕ). round binary64 true n c) (add_comm a b)
sum_commutes true a false b c = sum_turned a b c
sum_commutes false a true b c = sym (sum_turned b a c)
sum_commutes false a false b c = ap (λ (n : ℕ). round binary64 false n c) (add_comm a b)

pub ⊕-commutes : (a b : Float) → a ⊕ b ≡ b ⊕ a
unfolding Ieee.add
⊕-commutes nan nan = refl
⊕-commutes nan (inf t) = refl
⊕-commutes nan (fin t n d) = refl
⊕-commutes (inf s) nan = refl
⊕-commutes (inf true) (inf true) = refl
⊕-commutes (inf true) (inf false) = refl
⊕-commutes (inf false) (inf true) = refl
⊕-commutes (inf false) (inf false) = refl
⊕-commutes (inf s) (fin t n d) = refl
⊕-commutes (fin s m e) nan = refl
⊕-commutes (fin s m e) (inf t) = refl
⊕-commutes (fin s m e) (fin t n d) = rw (mul_comm (down e) (down d)) (sum_commutes s (m * up e * down d) t (n * up d * down e) (down d * down e))

unlike_commutes : (s t : Bool) → unlike s t ≡ unlike t s
unlike_commutes true true = refl
unlike_commutes true false = refl
unlike_commutes false true = refl
unlike_commutes false false = refl

pub ⊗-commutes : (a b : Float) → a ⊗ b ≡ b ⊗ a
unfolding Ieee.mul
⊗-commutes nan nan = refl
⊗-commutes nan (inf t) = refl
⊗-commutes nan (fin t n d) = refl
⊗-commutes (inf s) nan = refl
⊗-commutes (inf s) (inf t) = ap inf (unlike_commutes s t)
⊗-commutes (inf s) (fin t n d) = λ i. cond (eqb n 0) nan (inf (unlike_commutes s t i))
⊗-commutes (fin s m e) nan = refl
⊗-commutes (fin s m e) (inf t) = λ i. cond (eqb m 0) nan (inf (unlike_commutes s t i))
⊗-commutes (fin s m e) (fin t n d) = λ i. round binary64 (unlike_commutes s t i) (mul_comm (m * up e) (n * up d) i) (mul_comm (down e) (down d) i)
