-- What `std::array::from_fn` makes of a closure that a call leaves as it is: the list of what it answers at each index. Assumes nothing.
use Rattle.std.proofs.Common.{◌≡◌, ℕ, zero, suc, ◌+◌, ◌<◌, ◌≤◌, ◌⊎◌, inl, inr, List, get_or, sym, refl, ◌∙◌, subst, arith, zero-add, ext_get_or, eq-or-lt_of_le}
use Rattle.std.specs.Fn.{Mut, Called}
use Rattle.std.specs.Array.{IsFromFnResult, IsFromFnResultFrom}
use Rattle.number.specs.Tabulated.{tabulated}
use Rattle.number.proofs.Tabulated.{tabulated_at, tabulated_length}

module _ {F A : Type 0} (g : Mut F (ℕ × Unit {0}) A) (h : ℕ → A) (size : ℕ) where
  -- at each index below size the closure f answers h there
  abbrev pub Gives : F → Type 0
  Gives f = (i : ℕ) (y : A) (q : F) → i < size → Called g f (i, tt) y q → (y ≡ h i) × (q ≡ f)

  -- of the n indices from i on
  from_each : (f p : F) (ys : List A) (d : A) (n i j : ℕ) → Gives f → p ≡ f → i + n ≡ size → IsFromFnResultFrom g p ys i n → i ≤ j → j < size → get_or ys j d ≡ h j
  from_each f p ys d zero i j gives e s all l m = let none : ⊥ = omega arith in absurd none
  from_each f p ys d (suc n) i j gives e s (q, y, at, call, rest) l m =
      let here : (y ≡ h i) × (q ≡ f) = gives i y q (omega arith) (subst (λ (o : F). Called g o (i, tt) y q) e call) in
      go here.0 (λ k. from_each f q ys d n (i + 1) j gives here.1 (omega arith) rest (omega arith) m) (eq-or-lt_of_le l)
    where
      go : y ≡ h i → (i < j → get_or ys j d ≡ h j) → (i ≡ j) ⊎ (i < j) → get_or ys j d ≡ h j
      go same later (inl k) = subst (λ (o : ℕ). get_or ys o d ≡ h o) k (at.1 d ∙ same)
      go same later (inr k) = later k

pub made_by : {F A : Type 0} {g : Mut F (ℕ × Unit {0}) A} {f : F} {ys : List A} {n : ℕ} (h : ℕ → A) (d : A) → IsFromFnResult g f ys n → Gives g h n f → ys ≡ tabulated n h
made_by {g = g} {f} {ys} {n} h d made gives =
    ext_get_or d ys (tabulated n h) (made.long ∙ sym (tabulated_length h n))
    (λ i l.
    let k : i < n = omega (arith, made.long) in
    from_each g h n f f ys d n 0 i gives refl (zero-add n) made.each (omega arith) k ∙ sym (tabulated_at h n i d k))
