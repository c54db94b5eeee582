-- Numbers in a list of bytes. 01, The log: "Little-endian".
use Rattle.std.specs.Prelude.{ℕ, zero, suc, ◌+◌, ◌*◌, List, ℤ, Float, get_or, drop}
use Rattle.std.specs.Float.{binary64}
use Rattle.std.specs.Float.Ieee.{of_bits}
use Rattle.number.specs.Ticks.{signed}

-- the number whose n bytes, the lowest first, stand at the front of xs; a byte past the end counts 0
unfoldable pub little_endian : ℕ → List ℕ → ℕ
little_endian zero xs = 0
little_endian (suc n) xs = little_endian n (drop 1 xs) * 256 + get_or xs 0 0

-- the n bytes from index i on
abbrev pub word_at : ℕ → List ℕ → ℕ → ℕ
word_at n s i = little_endian n (drop i s)

-- eight of them as a signed number, and as the f64 whose bits they are: a NaN's pattern is NaN
abbrev pub signed_at : List ℕ → ℕ → ℤ
signed_at s i = signed 64 (word_at 8 s i)

abbrev pub float_at : List ℕ → ℕ → Float
float_at s i = of_bits binary64 (word_at 8 s i)
