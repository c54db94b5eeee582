-- A refusal's row determines it. Assumes nothing.
use Rattle.std.proofs.Common.{◌≡◌, refl}
use Rattle.number.specs.declared.refusal.Refusal.{Refusal}
use Rattle.number.specs.declared.refusal.Refusal.TheVariants as R
use Rattle.number.specs.Refusals.{row_of}

pub row_determined : (a b : Refusal) → row_of a ≡ row_of b → a ≡ b
row_determined R.NonFinite R.NonFinite e = refl
