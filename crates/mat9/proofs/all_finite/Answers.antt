-- `all_finite` meets its contract: the chain asks each number. Assumes nothing.
use Rattle.std.proofs.Common.{◌≡◌, List, [], ◌∷◌, Float, refl, ◌∙◌, rules}
use Rattle.std.specs.List.{list_all}
use Rattle.std.proofs.lemmas.Iterator.{YieldsList-from_slice}
use Rattle.std.proofs.lemmas.Iterator.Search.{all_from_yields_List}
use Rattle.number.specs.Float.{finite}
use Rattle.mat9.specs.Matrix.{all_finite}
use Rattle.mat9.proofs.all_finite.Goals as goal

each_finite : (xs : List Float) → list_all (λ x. finite x) xs ≡ all_finite xs
unfolding all_finite
each_finite [] = refl
each_finite (x ∷ xs) = rw (each_finite xs)

pub returns : goal.returns
returns c =
    all_from_yields_List (λ x. finite x) _ _ _ c.all.ensures.ran (YieldsList-from_slice c.args.m.now cc) (λ x b q call. search rules)
    ∙ each_finite c.args.m.now
