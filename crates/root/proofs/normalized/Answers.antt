-- `root::normalized` meets its contract: in the loop j is above 0, for what m * 2 ^ j is has more than 54 binary digits and m has fewer. Assumes nothing.
use mathlib.Core.Path.{◌∙◌}
use Prim.Native.Nat.{◌*◌, ◌^◌, ◌<◌}
use native.Mathlib.Omega.{arith}
use Rattle.root.proofs.Halves.{large, some_left, doubled, even_square, odd_square}
use Rattle.root.proofs.normalized.Goals as goal

some : (c : goal.In-loop-m) → 0 < c.loop-m.j
some c =
    let a = c.args in
    let p = c.requires in
    some_left c.loop-m.m c.loop-m.j (a.m0 * 2 ^ a.j0) c.loop-m.invariant.0 (large a.m0 a.j0 p.0 p.2) (omega arith)

pub overflow_sub-j : goal.overflow_sub-j
overflow_sub-j c = some c

pub loop-m-smaller : goal.loop-m-smaller
loop-m-smaller c = omega (arith, some c)

pub loop-m-preserved : goal.loop-m-preserved
loop-m-preserved c = (doubled c.loop-m.m c.loop-m.j (some c) ∙ c.loop-m.invariant.0, omega arith, omega arith, omega arith)

pub returns-then-j-eq0 : goal.returns-then-j-eq0
returns-then-j-eq0 c =
    let l = c.loop-m in
    (record { same = even_square l.m l.j c.if-j-eq0.true ∙ l.invariant.0; large = omega arith; small = omega arith }, omega arith)

pub returns-else-j-eq0 : goal.returns-else-j-eq0
returns-else-j-eq0 c =
    let l = c.loop-m in
    (record { same = odd_square l.m l.j c.if-j-eq0.false ∙ l.invariant.0; large = omega arith; small = omega arith }, omega arith)
