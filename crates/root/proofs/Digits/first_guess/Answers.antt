-- `root::first_guess` meets its contract: the square that is taken off stays below 2 ^ 33, so what is left of the height is 2 ^ 26 at least. Assumes nothing.
use Prim.Native.Nat.{ℕ, ◌*◌, ◌-◌, ◌/◌, ◌≤◌, ◌^◌}
use native.Mathlib.Nat.{mul-le-mul}
use native.Mathlib.Omega.{arith}
use Rattle.root.proofs.Digits.first_guess.Goals as goal

square-of-short : (m : ℕ) → 2 ^ 52 ≤ m → (107000 - m / 274877906944) * (107000 - m / 274877906944) ≤ 90616 * 90616
square-of-short m h = mul-le-mul short short
  where
    short : 107000 - m / 274877906944 ≤ 90616
    short = omega arith

pub returns : goal.returns
returns c = (omega (arith, square-of-short c.args.self.m c.args.self.large), omega arith)
