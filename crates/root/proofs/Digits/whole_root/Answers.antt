-- `root::whole_root` meets its contract: near a power of 4 by `proofs/Near.antt`, elsewhere by a division. Assumes nothing.
use mathlib.Core.Path.{sym}
use mathlib.Core.Logic.{⊎_elim}
use Prim.Native.Nat.{◌+◌, ◌-◌, ◌/◌, ◌^◌, ◌<◌}
use native.Mathlib.Nat.{eq-or-lt_of_le}
use native.Mathlib.Omega.{arith}
use Rattle.root.proofs.Near.{just_above, just_below}
use Rattle.root.proofs.Digits.whole_root.Goals as goal

pub returns-then-m-le4503599694479360 : goal.returns-then-m-le4503599694479360
returns-then-m-le4503599694479360 c =
    let m = c.args.self.m in
    let more : 2 ^ 52 < m = ⊎_elim (λ e. absurd (c.if-m-eq4503599627370496.false (sym e))) (λ l. l) (eq-or-lt_of_le c.args.self.large) in
    just_above m (m + 4503599627370495) (m - 4503599627370497) (omega arith) (omega arith) (omega arith)

pub returns-then-m-ge18014398442373120 : goal.returns-then-m-ge18014398442373120
returns-then-m-ge18014398442373120 c = let m = c.args.self.m in just_below m (18014398509481983 - (18014398509481984 - m) / 2) (18014398509481984 - m) (omega arith) (omega arith) (omega arith) (omega arith)
