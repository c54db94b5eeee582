-- Three numbers of f64 as a vector.
use Rattle.std.specs.Prelude.{ℕ, ◌+◌, ◌%◌, Bool, ◌&&◌, List, [], ◌∷◌, get_or, Float}
use Rattle.std.specs.Float.{nan}
use Rattle.number.specs.Float.{◌⊕◌, ◌⊖◌, ◌⊗◌, finite}
use Rattle.number.specs.Constants.{zero as +0}

abbrev pub coordinate : List Float → ℕ → Float
coordinate v i = get_or v i nan

abbrev pub vector : (ℕ → Float) → List Float
vector f = f 0 ∷ f 1 ∷ f 2 ∷ []

abbrev pub vector_sum : List Float → List Float → List Float
vector_sum a b = vector (λ i. coordinate a i ⊕ coordinate b i)

abbrev pub vector_difference : List Float → List Float → List Float
vector_difference a b = vector (λ i. coordinate a i ⊖ coordinate b i)

abbrev pub vector_scaled : List Float → Float → List Float
vector_scaled v s = vector (λ i. coordinate v i ⊗ s)

abbrev pub dot : List Float → List Float → Float
dot a b = coordinate a 0 ⊗ coordinate b 0 ⊕ coordinate a 1 ⊗ coordinate b 1 ⊕ coordinate a 2 ⊗ coordinate b 2

-- coordinates are counted round, after 2 comes 0
abbrev pub cross : List Float → List Float → List Float
cross a b = vector (λ i. coordinate a ((i + 1) % 3) ⊗ coordinate b ((i + 2) % 3) ⊖ coordinate a ((i + 2) % 3) ⊗ coordinate b ((i + 1) % 3))

abbrev pub zero_vector : List Float
zero_vector = +0 ∷ +0 ∷ +0 ∷ []

-- ---- no infinity and no NaN

unfoldable pub three_finite : Float → Float → Float → Bool
three_finite a b c = finite a && finite b && finite c

abbrev pub finite_vector : List Float → Bool
finite_vector v = three_finite (coordinate v 0) (coordinate v 1) (coordinate v 2)
