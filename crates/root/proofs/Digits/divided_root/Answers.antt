-- `root::divided_root` meets its contract: `proofs/Extend.antt` has the arithmetic, and the other goals close by themselves. Assumes nothing.
use Prim.Native.Nat.{ℕ, ◌-◌, ◌*◌, ◌/◌, ◌%◌, ◌^◌, ◌≤◌, ◌<◌}
use native.Mathlib.Nat.{mul-le-mul}
use native.Mathlib.Omega.{arith}
use Rattle.root.specs.Inside.Steps.{Floor}
use Rattle.root.proofs.Extend.{root_ge, Digits, digits, less}
use Rattle.root.proofs.Digits.divided_root.Goals as goal

-- the digits that the division adds, and what it leaves
abbrev T : ℕ → ℕ → ℕ
T m s = (m - s * s) * 134217728 / (2 * s)

abbrev U : ℕ → ℕ → ℕ
U m s = (m - s * s) * 134217728 % (2 * s)

known_digits : (m s : ℕ) → 2 ^ 52 ≤ m → Floor m s → Digits m s (T m s) (U m s)
known_digits m s l f = digits m s (omega (arith, root_ge m s l f)) f

square_fits : (t : ℕ) → t ≤ 2 ^ 27 → t * t < 2 ^ 64
square_fits t h = let w : t * t ≤ 2 ^ 27 * 2 ^ 27 = mul-le-mul h h in omega arith

pub overflow_mul-t-2 : goal.overflow_mul-t-2
overflow_mul-t-2 c =
    let m = c.args.self.m in
    let s = c.half_root-s.result in
    omega (arith, square_fits (T m s) (known_digits m s c.args.self.large c.half_root-s.ensures).most)

pub returns-else-t-u : goal.returns-else-t-u
returns-else-t-u c =
    let m = c.args.self.m in
    let s = c.half_root-s.result in
    let f = c.half_root-s.ensures in
    less m s (T m s) (U m s) f (known_digits m s c.args.self.large f) (root_ge m s c.args.self.large f) c.if-t-u.false
