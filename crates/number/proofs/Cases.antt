-- An answer that can be read back from what it says in 01's numbers and values is determined by them; a refusal is never an acceptance. Assumes nothing.
use Rattle.std.proofs.Common.{◌≡◌, ℕ, List, sym, ap, ◌∙◌, arith}
use lib.Ieee.{Float}
use Rattle.std.specs.Prelude.{Result, Ok, Err}
use Rattle.number.specs.Said.{gives, refused, Row, Told, accepts, refuses, said_result, told_result, told_after}

pub determined : {A B : Type 0} (said : B → A) (back : A → B) → ((x : B) → back (said x) ≡ x) → (x y : B) → said x ≡ said y → x ≡ y
determined said back same x y e = sym (same x) ∙ ap back e ∙ same y

pub refused_not_given : {A : Type 0} {n : ℕ} {values : List Float} {v : A} → refused n values ≡ gives v → ⊥
refused_not_given e = let z : ◌≡◌ {A = ℕ} 0 1 = cc in omega arith

pub refused_not_accepted : {A : Type 0} (n : ℕ) (x y : A) → refuses n x ≡ accepts y → ⊥
refused_not_accepted {A} n x y e = refused_not_given (ap (λ (t : Told A). t.outcome) e)

-- What a `Result` says determines it, where the rows of its refusals tell them apart.
module _ {A E : Type 0} (row_of : E → Row) (rows : (a b : E) → row_of a ≡ row_of b → a ≡ b) where
  pub said_result_determined : (a b : Result A E) → said_result row_of a ≡ said_result row_of b → a ≡ b
  said_result_determined (Ok v) (Ok w) e = cc
  said_result_determined (Ok v) (Err f) e = absurd (refused_not_given (sym e))
  said_result_determined (Err d) (Ok w) e = absurd (refused_not_given e)
  said_result_determined (Err d) (Err f) e =
      let n : (row_of d).number ≡ (row_of f).number = cc in
      let vs : (row_of d).values ≡ (row_of f).values = cc in
      ap Err (rows d f (λ i. record { number = n i; values = vs i }))

  pub told_result_determined : (none : A) (a b : Result A E) → told_result row_of none a ≡ told_result row_of none b → a ≡ b
  told_result_determined none (Ok v) (Ok w) e = ap Ok (ap (λ (t : Told A). t.value) e)
  told_result_determined none (Ok v) (Err f) e = absurd (refused_not_given (sym (ap (λ (t : Told A). t.outcome) e)))
  told_result_determined none (Err d) (Ok w) e = absurd (refused_not_given (ap (λ (t : Told A). t.outcome) e))
  told_result_determined none (Err d) (Err f) e =
      let o = ap (λ (t : Told A). t.outcome) e in
      let n : (row_of d).number ≡ (row_of f).number = cc in
      let vs : (row_of d).values ≡ (row_of f).values = cc in
      ap Err (rows d f (λ i. record { number = n i; values = vs i }))

-- and so does what is said after a call that changes what it is lent, with what that then is
pub told_after_determined : {A E : Type 0} (row_of : E → Row) → ((a b : E) → row_of a ≡ row_of b → a ≡ b)
    → (a b : Result (Unit {0}) E) (v w : A) → told_after row_of a v ≡ told_after row_of b w → (a ≡ b) × (v ≡ w)
told_after_determined {A} row_of rows a b v w e =
    (said_result_determined row_of rows a b (ap (λ (t : Told A). t.outcome) e), ap (λ (t : Told A). t.value) e)
