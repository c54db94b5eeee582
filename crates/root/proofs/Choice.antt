-- What is above zero and not the infinity is finite and above zero. Assumes nothing.
use mathlib.Core.Path.{◌≡◌, sym, subst}
use Prim.Native.Nat.{ℕ, ◌*◌, ◌<◌}
use native.Mathlib.Nat.{zero-mul}
use mathlib.Core.Bool.{Bool, true, false, true≢false, false≢true}
use lib.Dec.{T, ltb, ltb→lt, lt→ltb}
use lib.Ieee.{Float, nan, inf, fin, binary64, up, down, eq, lt, of_bits}
use lib.Ieee.Positive.{positive, first_pos}

yes : (b : Bool) → b ≡ true → T b
yes b h = subst T (sym h) tt

pub is_positive : (x : Float) → lt (of_bits binary64 0) x ≡ true → eq x (of_bits binary64 0x7ff0_0000_0000_0000) ≡ false → T (positive x)
unfolding eq lt of_bits
is_positive nan h k = absurd (false≢true h)
is_positive (inf true) h k = absurd (false≢true h)
is_positive (inf false) h k = absurd (true≢false k)
is_positive (fin true m e) h k = absurd (false≢true h)
is_positive (fin false m e) h k =
    lt→ltb 0 m (first_pos m (up e) (first_pos (m * up e) 1 (subst (λ (z : ℕ). z < m * up e * 1) (zero-mul (down e)) (ltb→lt (0 * down e) (m * up e * 1) (yes (ltb (0 * down e) (m * up e * 1)) h)))))
