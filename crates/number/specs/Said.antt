-- What an answer says in 01's numbers. A `Result` is said by the row that its crate's definition gives each refusal; the contracts speak through it,
-- and it is proved that what is said determines the answer (`proofs/Cases.antt` of its crate).
use Rattle.std.specs.Prelude.{ℕ, List, [], Float, Result, Ok, Err}

-- the value that was asked for, or 01's refusal number and the values that the refusal carries
pub data Said (A : Type 0) : Type 0 where
  gives : A → Said A
  refused : ℕ → List Float → Said A

-- a refusal that carries no value
abbrev pub refusal : {A : Type 0} → ℕ → Said A
refusal n = refused n []

-- a row of 01's table of refusals: the number, and the values that the refusal carries
pub record Row : Type 0 where
  pub number : ℕ
  pub values : List Float

abbrev pub row : ℕ → Row
row n = record { number = n; values = [] }

abbrev pub row_with : ℕ → List Float → Row
row_with n values = record { number = n; values = values }

abbrev pub refused_by : {A : Type 0} → Row → Said A
refused_by r = refused r.number r.values

-- An answer with a value in either case: it is taken, and this is the value, or it is refused, and this is the value all the same.
pub record Told (A : Type 0) : Type 0 where
  pub outcome : Said (Unit {0})
  pub value : A

abbrev pub told : {A : Type 0} → Said (Unit {0}) → A → Told A
told o v = record { outcome = o; value = v }

abbrev pub accepts : {A : Type 0} → A → Told A
accepts v = told (gives tt) v

abbrev pub refuses : {A : Type 0} → ℕ → A → Told A
refuses n v = told (refusal n) v

-- ---- what a `Result` says, by the row of each refusal

abbrev pub said_result : {A E : Type 0} → (E → Row) → Result A E → Said A
said_result row_of (Ok v) = gives v
said_result row_of (Err e) = refused_by (row_of e)

-- where 01 says that a refusal gives no value, `none` stands for it
abbrev pub told_result : {A E : Type 0} → (E → Row) → A → Result A E → Told A
told_result row_of none (Ok v) = accepts v
told_result row_of none (Err e) = told (refused_by (row_of e)) none

-- a call that changes what it is lent, and what that is after it
abbrev pub told_after : {A E : Type 0} → (E → Row) → Result (Unit {0}) E → A → Told A
told_after row_of r v = told (said_result row_of r) v
