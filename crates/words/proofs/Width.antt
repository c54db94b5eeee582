-- The bytes from an index on are the same number to std and to 01, and zeros behind what there is change nothing. Assumes nothing.
use Rattle.std.proofs.Common.{◌≡◌, ℕ, zero, suc, ◌+◌, ◌<◌, List, [], ◌∷◌, ◌++◌, length, get_or, drop, replicate, refl, ap, add_assoc, arith}
use Rattle.std.specs.Prelude.{slice_index}
use Rattle.std.specs.Int.{w32, w64, from_le_bytes}
use lib.Seq.{drop-drop, get_or-drop}
use Rattle.number.specs.Tabulated.{tabulated}
use Rattle.number.proofs.Tabulated.{tabulated_at}
use Rattle.words.specs.Words.{little_endian, word_at}

module _ (bytes s : List ℕ) (i : ℕ) where
  pub spelled_4 : ((k : ℕ) → k < 4 → slice_index bytes k ≡ get_or s (i + k) 0) → from_le_bytes w32 bytes ≡ word_at 4 s i
  unfolding little_endian
  spelled_4 h = simp (drop-drop, get_or-drop, add_assoc) (omega (arith, h 0 (omega arith), h 1 (omega arith), h 2 (omega arith), h 3 (omega arith)))

  pub spelled_8 : ((k : ℕ) → k < 8 → slice_index bytes k ≡ get_or s (i + k) 0) → from_le_bytes w64 bytes ≡ word_at 8 s i
  unfolding little_endian
  spelled_8 h =
      simp (drop-drop, get_or-drop, add_assoc)
      (omega (arith, h 0 (omega arith), h 1 (omega arith), h 2 (omega arith), h 3 (omega arith), h 4 (omega arith), h 5 (omega arith), h 6 (omega arith), h 7 (omega arith)))

-- bytes with zeros behind them, from an index on
pub padded_at : (bytes s : List ℕ) (i n k : ℕ) → bytes ≡ tabulated n (λ k. get_or {A = ℕ} (drop i s) k 0) → k < n → slice_index bytes k ≡ get_or {A = ℕ} s (i + k) 0
padded_at bytes s i n k e h = rw (e, tabulated_at, get_or-drop)
