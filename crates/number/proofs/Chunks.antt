-- The chunks of n entries, one behind the other, that a list begins with. Assumes nothing.
use Rattle.std.proofs.Common.{◌≡◌, ℕ, zero, suc, ◌+◌, ◌*◌, ◌<◌, List, get_or, take, drop, length, ap, refl, ◌∙◌, arith}
use lib.Seq.{drop-drop}
use Rattle.std.specs.Simd.{first_chunks}

module _ {A : Type 0} (n : ℕ) where
  pub chunk_at : (k i : ℕ) (s d : List A) → i < k → get_or (first_chunks n k s) i d ≡ take n (drop (i * n) s)
  chunk_at zero i s d h = absurd (omega arith)
  chunk_at (suc k) zero s d h = let none : 0 * n ≡ 0 = omega arith in rw none
  chunk_at (suc k) (suc i) s d h =
      let e : n + i * n ≡ suc i * n = omega arith in
      chunk_at k i (drop n s) d (omega (arith, h)) ∙ ap (take n) (drop-drop (i * n) n s ∙ ap (λ (j : ℕ). drop j s) e)

  pub chunks_length : (k : ℕ) (s : List A) → length (first_chunks n k s) ≡ k
  chunks_length zero s = refl
  chunks_length (suc k) s = ap suc (chunks_length k (drop n s))
