-- `halving::first_halvings` meets its contract. The invariant: `parts` is 2^count, and the search from 0 has come to the search from `count`.
-- Assumes nothing.
use Rattle.std.proofs.Common.{◌≡◌, ℕ, suc, ◌+◌, ◌-◌, ◌<◌, ◌≤◌, true, false, sym, refl, ap, ◌∙◌, subst, add-one, arith}
use lib.Ieee.{Float}
use Rattle.number.specs.declared.halving.Halved.{Halved}
use Rattle.number.specs.Float.{◌⊕◌, ◌<ᶠ◌}
use Rattle.number.specs.Halving.{power, first_from, made}
use Rattle.number.proofs.halving.Powers.{power_doubles, power_none}
use Rattle.number.proofs.halving.Least.{first_more, first_done, first_none}
use Rattle.number.proofs.halving.first_halvings.Invariants.{Tried}
use Rattle.number.proofs.halving.first_halvings.Goals as goal

-- one try more, and the search that found its number
one_left : (count : ℕ) → count < 20 → 20 - count ≡ suc (20 - (count + 1))
one_left count h = omega arith

more : (ratio : Float) (count : ℕ) (parts : Float) → Tried ratio count parts → count < 20 → (parts <ᶠ ratio) ≡ true → Tried ratio (count + 1) (parts ⊕ parts)
more ratio count parts t h below = record {
  most = omega arith;
  doubled = (λ i. t.doubled i ⊕ t.doubled i) ∙ power_doubles count h ∙ ap power (sym (add-one count));
  found = t.found ∙ ap (λ (n : ℕ). first_from n count ratio) (one_left count h) ∙ first_more (20 - (count + 1)) count ratio (subst (λ (p : Float). (p <ᶠ ratio) ≡ true) t.doubled below) ∙ ap (λ (k : ℕ). first_from (20 - (count + 1)) k ratio) (sym (add-one count));
}

stopped : (ratio : Float) (count : ℕ) (parts : Float) → Tried ratio count parts → count < 20 → (parts <ᶠ ratio) ≡ false → first_from 20 0 ratio ≡ count
stopped ratio count parts t h reached =
    t.found ∙ ap (λ (n : ℕ). first_from n count ratio) (one_left count h) ∙ first_done (20 - (count + 1)) count ratio (subst (λ (p : Float). (p <ᶠ ratio) ≡ false) t.doubled reached)

spent : (ratio : Float) (count : ℕ) (parts : Float) → Tried ratio count parts → 20 ≤ count → first_from 20 0 ratio ≡ count
spent ratio count parts t h = t.found ∙ ap (λ (n : ℕ). first_from n count ratio) (none count h) ∙ first_none count ratio
  where
    none : (count : ℕ) → 20 ≤ count → 20 - count ≡ 0
    none count h = omega arith

answer : (ratio : Float) (count : ℕ) (parts : Float) → Tried ratio count parts → first_from 20 0 ratio ≡ count → ◌≡◌ {A = Halved} (record { count = count; parts = parts }) (made (first_from 20 0 ratio))
answer ratio count parts t e = (λ i. record { count = count; parts = t.doubled i }) ∙ ap made (sym e)

pub loop-count-init : goal.loop-count-init
loop-count-init c = record { most = omega arith; doubled = power_none; found = refl }

pub returns-then-not-parts-ratio : goal.returns-then-not-parts-ratio
returns-then-not-parts-ratio c =
    let l = c.loop-count in
    let ratio = c.args.ratio in
    answer ratio l.count l.parts l.invariant (stopped ratio l.count l.parts l.invariant c.loop-count-test.true c.if-not-parts-ratio.true)

pub loop-count-preserved : goal.loop-count-preserved
loop-count-preserved c =
    let l = c.loop-count in
    more c.args.ratio l.count l.parts l.invariant c.loop-count-test.true c.if-not-parts-ratio.false

pub returns : goal.returns
returns c =
    let l = c.loop-count in
    let ratio = c.args.ratio in
    let e : l.count ≡ 20 = omega (arith, l.invariant.most) in
    (λ i. record { count = sym e i; parts = l.parts }) ∙ answer ratio l.count l.parts l.invariant (spent ratio l.count l.parts l.invariant c.loop-count-test.false)
