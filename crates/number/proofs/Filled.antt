-- A loop that fills an array: over n = 0, 1, .., size − 1 it stores f n in place n. The law is over the size and the entry function:
-- what holds before the first turn, after a turn, and at the end. Assumes nothing.
use Rattle.std.proofs.Common.{◌≡◌, ℕ, suc, ◌+◌, ◌<◌, ◌≤◌, List, ◌++◌, length, get_or, drop, set, refl, ◌∙◌, append_assoc, append-nil, add-one, arith, length-set, drop_of_length-le, drop-cons}
use lib.Seq.{set_at}
use Rattle.number.specs.Tabulated.{tabulated}
use Rattle.number.proofs.Tabulated.{tabulated_length, tabulated_more}

module _ {A : Type 0} where
  -- `out`, which has `size` elements, begins with the first n entries, and goes on as `d`, which it was
  pub record Filled (size : ℕ) (f : ℕ → A) (d : List A) (n : ℕ) (out : List A) : Type 0 where
    pub upto : n ≤ size
    pub was : length d ≡ size
    pub long : length out ≡ size
    pub is : out ≡ tabulated n f ++ drop n d

  pub filled_none : {size : ℕ} {f : ℕ → A} {d : List A} → length d ≡ size → Filled size f d 0 d
  unfolding tabulated
  filled_none l = record { upto = omega arith; was = l; long = l; is = refl }

  pub filled_more : {size n : ℕ} {f : ℕ → A} {d out : List A} {v : A} → Filled size f d n out → n < size → v ≡ f n → Filled size f d (n + 1) (set out n v)
  filled_more {size} {n} {f} {d} {out} {v} w h e =
      let l : n < length d = omega arith in
      record {
        upto = omega arith;
        was = w.was;
        long = simp length-set w.long;
        is = rw (w.is, drop-cons d n v, set_at (tabulated n f) (get_or d n v) (drop (suc n) d) v n (tabulated_length f n), tabulated_more, append_assoc, add-one, e);
      }

  pub filled_done : {size n : ℕ} {f : ℕ → A} {d out : List A} → Filled size f d n out → size ≤ n → out ≡ tabulated size f
  filled_done {size} {n} {f} {d} w h =
      let e : n ≡ size = omega arith in
      let l : length d ≤ size = omega arith in
      w.is ∙ rw (e, drop_of_length-le d l, append-nil)
