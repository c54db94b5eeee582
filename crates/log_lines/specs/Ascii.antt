-- A text's bytes: each of its characters by its code, which for the characters used here is ASCII's.
use Prim.Native.Nat.{ℕ}
use Prim.Native.Char.{code}
use Prim.Native.String.{String, [] as empty, _∷_ as _before_}
use mathlib.Core.List.{List, [], _∷_}

abbrev pub ascii : String → List ℕ
ascii empty = []
ascii (c before s) = code c ∷ ascii s

-- one line feed
abbrev pub lineFeed : List ℕ
lineFeed = 10 ∷ []
