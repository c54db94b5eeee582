-- No f64 is nearer to a whole number than a multiple of the gap that lies within half a gap of it. From the number's highest power of two on, every f64 is
-- a multiple of the gap; one below that power lies further off than the power itself, which is a multiple too. With the other sign it lies beyond zero.
-- Assumes nothing.
use Rattle.std.proofs.Common.{◌≡◌, ℕ, zero, suc, ◌+◌, ◌-◌, ◌*◌, ◌%◌, ◌^◌, ◌<◌, ◌≤◌, Bool, true, false, ◌&&◌, T, eqb, ltb, leb, ℤ, pos, negsuc, nat_abs, sym, ap, ◌∙◌, subst, inl, inr, zero-le, le_trans, lt_of_lt_of_le, le_of_lt, mul-le-mul_right, mul_assoc, suc-mul, add-mul, eq-zero-or-pos, zero-mul, mul-one, le-mul_of_pos_right, le-add_left, arith, ltb→lt, pow_pos, pow_mono, pow-add, shl_lt}
use lib.Ieee.{Float, nan, inf, fin, binary64, emax, low, up, down, size, fits}
use lib.Ieee.Digits.{size_reaches}
use lib.Ieee.Exact.{HasValue}
use lib.Ieee.Fits.{and_l, and_r}
use Rattle.number.specs.Whole.{apart, away, gap, IsNearest}
use Rattle.number.proofs.Below.{below_or_not}

-- ---- of the multiples of g

module _ (N u v g : ℕ) (half : 2 * apart v N ≤ g) where
  lower_further : u + g ≤ v → apart v N ≤ apart u N
  lower_further h = omega arith

  higher_further : v + g ≤ u → apart v N ≤ apart u N
  higher_further h = omega arith

one_more : (p q g : ℕ) → p < q → p * g + g ≤ q * g
one_more p q g h = rw (sym (suc-mul p g)) (mul-le-mul_right g h)

none_nearer_of_multiples : (N p q g : ℕ) → 2 * apart (q * g) N ≤ g → apart (q * g) N ≤ apart (p * g) N
none_nearer_of_multiples N p q g half = elim (below_or_not p q) [
  | inl h ↦ lower_further N (p * g) (q * g) g half (one_more p q g h)
  | inr h ↦ elim (below_or_not q p) [
    | inl k ↦ higher_further N (p * g) (q * g) g half (one_more q p g k)
    | inr k ↦ same p q h k
  ]
]
  where
    same : (p q : ℕ) → q ≤ p → p ≤ q → apart (q * g) N ≤ apart (p * g) N
    same p q h k = let e : p ≡ q = omega arith in subst (λ (x : ℕ). apart (q * g) N ≤ apart (x * g) N) (sym e) (omega arith)

-- ---- b times as far

scaled_gap : (x r N b : ℕ) → x + r ≡ N → r * b ≤ apart (x * b) (N * b)
scaled_gap x r N b e = let s : x * b + r * b ≡ N * b = sym (add-mul x r b) ∙ ap (λ (z : ℕ). z * b) e in omega arith

scaled_gap_above : (x r N b : ℕ) → N + r ≡ x → r * b ≤ apart (x * b) (N * b)
scaled_gap_above x r N b e = let s : N * b + r * b ≡ x * b = sym (add-mul N r b) ∙ ap (λ (z : ℕ). z * b) e in omega arith

scaled_apart : (x N b : ℕ) → apart x N * b ≤ apart (x * b) (N * b)
scaled_apart x N b = elim (below_or_not x N) [
  | inl h ↦ scaled_gap x (apart x N) N b (under h)
  | inr h ↦ scaled_gap_above x (apart x N) N b (over h)
]
  where
    under : x < N → x + apart x N ≡ N
    under h = omega arith

    over : N ≤ x → N + apart x N ≡ x
    over h = omega arith

-- ---- a number of more than 53 digits, and an f64 of its sign

-- P, the highest power of two in N, is a multiple of the gap, so the nearest one is no further off; what is at most P is
below_power : (N P d a b : ℕ) → P ≤ N → d ≤ apart P N → a ≤ P * b → d * b ≤ apart a (N * b)
below_power N P d a b h k l =
    let e : P * b + (N - P) * b ≡ N * b = sym (add-mul P (N - P) b) ∙ ap (λ (z : ℕ). z * b) (rest h) in
    let m : d * b ≤ (N - P) * b = mul-le-mul_right b (least h k) in
    omega arith
  where
    rest : P ≤ N → P + (N - P) ≡ N
    rest h = omega arith

    least : P ≤ N → d ≤ apart P N → d ≤ N - P
    least h k = omega arith

module _ (N k q : ℕ) (long : 52 + k < size N) (half : 2 * apart (q * 2 ^ k) N ≤ 2 ^ k) (m a b : ℕ) (digits : m < 2 ^ 53) where
  power_below : 2 ^ 52 * 2 ^ k ≤ N
  power_below = rw (sym (pow-add 2 52 k)) (size_reaches N (52 + k) long)

  near : (p : ℕ) → apart (q * 2 ^ k) N ≤ apart (p * 2 ^ k) N
  near p = none_nearer_of_multiples N p q (2 ^ k) half

  below : a ≤ 2 ^ 52 * 2 ^ k * b → apart (q * 2 ^ k) N * b ≤ apart a (N * b)
  below h = below_power N (2 ^ 52 * 2 ^ k) (apart (q * 2 ^ k) N) a b power_below (near (2 ^ 52)) h

  at_multiple : (p : ℕ) → p * 2 ^ k * b ≡ a → apart (q * 2 ^ k) N * b ≤ apart a (N * b)
  at_multiple p e = subst (λ (x : ℕ). apart (q * 2 ^ k) N * b ≤ apart x (N * b)) e (le_trans (mul-le-mul_right b (near p)) (scaled_apart (p * 2 ^ k) N b))

  whole_value : (j : ℕ) → m * 2 ^ j * b ≡ a → apart (q * 2 ^ k) N * b ≤ apart a (N * b)
  whole_value j e = elim (below_or_not j k) [
    | inl h ↦ below (subst (λ (x : ℕ). x ≤ 2 ^ 52 * 2 ^ k * b) e (mul-le-mul_right b (short h)))
    | inr h ↦ at_multiple (m * 2 ^ (j - k)) (ap (λ (x : ℕ). x * b) (mul_assoc m (2 ^ (j - k)) (2 ^ k) ∙ ap (λ (x : ℕ). m * x) (sym (pow-add 2 (j - k) k) ∙ ap (λ (x : ℕ). 2 ^ x) (back h))) ∙ e)
  ]
    where
      back : k ≤ j → j - k + k ≡ j
      back h = omega arith

      fewer : j < k → 53 + j ≤ 52 + k
      fewer h = omega arith

      short : j < k → m * 2 ^ j ≤ 2 ^ 52 * 2 ^ k
      short h = le_of_lt (lt_of_lt_of_le (shl_lt 53 j digits) (subst (λ (x : ℕ). 2 ^ (53 + j) ≤ x) (pow-add 2 52 k) (pow_mono (fewer h))))

  part_value : 0 < k → (c : ℕ) → 0 < c → m * 1 * b ≡ a * c → apart (q * 2 ^ k) N * b ≤ apart a (N * b)
  part_value some c h e = below (le_trans (le-mul_of_pos_right a h) (subst (λ (x : ℕ). x ≤ 2 ^ 52 * 2 ^ k * b) e (mul-le-mul_right b short)))
    where
      more : 0 < k → 53 ≤ 52 + k
      more h = omega arith

      short : m * 1 ≤ 2 ^ 52 * 2 ^ k
      short = rw (mul-one m) (le_of_lt (lt_of_lt_of_le digits (subst (λ (x : ℕ). 2 ^ 53 ≤ x) (pow-add 2 52 k) (pow_mono (more some)))))

  any_value : 0 < k → (e : ℤ) → m * up e * b ≡ a * down e → apart (q * 2 ^ k) N * b ≤ apart a (N * b)
  any_value some (pos j) e = whole_value j (e ∙ mul-one a)
  any_value some (negsuc j) e = part_value some (2 ^ suc j) (pow_pos (suc j)) e

-- ---- any number

few_digits : (s : Bool) (m : ℕ) (e : ℤ) → T (fits binary64 (fin s m e)) → m < 2 ^ 53
unfolding fits
few_digits s zero e F = pow_pos 53
few_digits s (suc m) e F =
    let odd = eqb (suc m % 2) 1 in
    let few = ltb (suc m) (2 ^ 53) in
    let fine = leb (down e) (2 ^ low binary64) in
    ltb→lt (suc m) (2 ^ 53) (and_r odd few (and_l (odd && few) fine (and_l (odd && few && fine) (ltb (suc m * up e) (2 ^ suc (emax binary64) * down e)) F)))

module _ (N q : ℕ) (half : 2 * apart (q * gap N) N ≤ gap N) where
  -- up to 53 digits the gap is 1, and the number itself is the nearest
  itself : size N - 53 ≡ 0 → apart (q * gap N) N ≡ 0
  itself z = go (gap N) (ap (λ (k : ℕ). 2 ^ k) z) half
    where
      go : (g : ℕ) → g ≡ 1 → 2 * apart (q * g) N ≤ g → apart (q * g) N ≡ 0
      go g e h = omega arith

  beyond : 0 < size N - 53 → 52 + (size N - 53) < size N
  beyond h = omega arith

  same_sign : (s : Bool) (m : ℕ) (e : ℤ) (a b : ℕ) → T (fits binary64 (fin s m e)) → m * up e * b ≡ a * down e → apart (q * gap N) N * b ≤ apart a (N * b)
  same_sign s m e a b F v = elim (eq-zero-or-pos (size N - 53)) [
    | inl z ↦ subst (λ (d : ℕ). d * b ≤ apart a (N * b)) (sym (itself z)) (rw (zero-mul b) zero-le)
    | inr l ↦ any_value N (size N - 53) q (beyond l) half m a b (few_digits s m e F) l e v
  ]

  no_further_than_zero : apart (q * gap N) N ≤ N
  no_further_than_zero = elim (eq-zero-or-pos (size N - 53)) [
    | inl z ↦ subst (λ (d : ℕ). d ≤ N) (sym (itself z)) zero-le
    | inr l ↦ within (gap N) half (le_trans (pow_mono (le-add_left (size N - 53) 52)) (size_reaches N (52 + (size N - 53)) (beyond l)))
  ]
    where
      within : (g : ℕ) → 2 * apart (q * g) N ≤ g → g ≤ N → apart (q * g) N ≤ N
      within g h k = omega arith

  other_sign : (a b : ℕ) → apart (q * gap N) N * b ≤ a + N * b
  other_sign a b = le_trans (mul-le-mul_right b no_further_than_zero) (le-add_left (N * b) a)

pub none_nearer : (n : ℤ) (r x : Float) (s : Bool) (a b : ℕ) (k : IsNearest n r) → T (fits binary64 x) → HasValue x s a b
    → apart (k.q * gap (nat_abs n)) (nat_abs n) * b ≤ away n s a b
none_nearer n r nan s a b k F v = absurd v
none_nearer n r (inf t) s a b k F v = absurd v
none_nearer (pos n) r (fin t m e) false a b k F v = same_sign n k.q k.within t m e a b F v.1
none_nearer (pos n) r (fin t m e) true a b k F v = other_sign n k.q k.within a b
none_nearer (negsuc n) r (fin t m e) true a b k F v = same_sign (suc n) k.q k.within t m e a b F v.1
none_nearer (negsuc n) r (fin t m e) false a b k F v = other_sign (suc n) k.q k.within a b
