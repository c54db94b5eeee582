-- `root::root_bits` meets its contract. Either way what `normalized` was handed is what the pattern stands for times 2 ^ 1022, and `Rounded.antt` has the rest. Assumes nothing.
use mathlib.Core.Path.{◌≡◌, sym, subst}
use Prim.Native.Nat.{ℕ, ◌*◌, ◌^◌, ◌<◌}
use Rattle.root.specs.declared.Scaled.{Scaled}
use Rattle.root.specs.Root.{pattern_grains}
use Rattle.root.specs.Inside.Steps.{Scale}
use Rattle.root.proofs.Rounded.{rounded, subnormal, normal}
use Rattle.root.proofs.root_bits.Goals as goal
use Rattle.root.proofs.root_bits.Goals.{then-field-eq0, else-field-eq0}

carry : {n : ℕ} (N : ℕ) (s r : Scaled) → s ≡ r → n ≡ N → Scale n r.digits.m r.h × (r.h < 1534) → Scale N s.digits.m s.h × (s.h < 1534)
carry N s r e d k =
    subst (λ (z : Scaled). Scale N z.digits.m z.h × (z.h < 1534)) (sym e) (subst (λ (z : ℕ). Scale z r.digits.m r.h) d k.0, k.1)

pub returns : goal.returns
returns c =
    let b = c.args.bits in
    let n = pattern_grains b * 2 ^ 1022 in
    let s = c.if-field-eq0.s in
    let k : Scale n s.digits.m s.h × (s.h < 1534) = elim c.if-field-eq0.branch [
      | then-field-eq0 w ↦ carry n s w.normalized-s.result w.s-is (subnormal b w.if-field-eq0.true) w.normalized-s.ensures
      | else-field-eq0 w ↦ carry n s w.normalized-s-else-field-eq0.result w.s-is (normal b w.if-field-eq0.false) w.normalized-s-else-field-eq0.ensures
    ] in
    rounded b s.digits.m s.h c.whole_root-q.result k.0 k.1 c.whole_root-q.ensures
