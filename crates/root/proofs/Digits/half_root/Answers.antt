-- `root::half_root` meets its contract: `proofs/Newton.antt` has what a step does, and the other goals close by themselves. Assumes nothing.
use native.Mathlib.Nat.{le_of_lt, le_trans}
use native.Mathlib.Omega.{arith}
use Rattle.root.proofs.Newton.{newton_above, newton_below, sq_pos, quotient_small}
use Rattle.root.proofs.Digits.half_root.Goals as goal

pub loop-s-init : goal.loop-s-init
loop-s-init c =
    let m = c.args.self.m in
    let guess = c.first_guess-guess.result in
    (newton_above m guess (omega (arith, c.first_guess-guess.ensures.0)), omega (arith, c.first_guess-guess.ensures.1, quotient_small m guess c.args.self.small c.first_guess-guess.ensures.0))

pub loop-s-preserved : goal.loop-s-preserved
loop-s-preserved c =
    let m = c.args.self.m in
    let s = c.loop-s.s in
    (newton_above m s (sq_pos m s c.loop-s-test.true), le_trans (le_of_lt (newton_below m s c.loop-s-test.true)) c.loop-s.invariant.1)
