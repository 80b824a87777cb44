-- Laws of sums, counts and tests over the numbers below a bound.
-- Assumes nothing.
use Prim.Native.Nat.{ℕ, zero, suc, ◌+◌, ◌≤◌, ◌<◌}
use mathlib.Core.Bool.{Bool, true, false, cond, ◌&&◌}
use mathlib.Core.Path.{◌≡◌, refl, sym, ◌∙◌, ap, subst}
use mathlib.Core.Logic.{◌⊎◌, inl, inr}
use native.Mathlib.Nat.{eq-or-lt_of_le}
use native.Mathlib.Omega.{arith}
use lib.Dec.{eqb, ltb}
use borrow.Author.Tests.{eqb-true, eq-eqb, ne_eqb, ltb-true, ltb-false}
use Rattle.probing.specs.Counting.{sum_to, one, count_to, all_to}
use Rattle.probing.proofs.Keys.{either, not_both, and_both, both_and}

-- what holds below n and of n holds below n + 1
pub one_more : {P : ℕ → Type 0} (n : ℕ) → ((i : ℕ) → i < n → P i) → P n → (i : ℕ) → i < suc n → P i
one_more {P} n h hn i l = go (eq-or-lt_of_le {n = i} {m = n} (omega arith))
  where
    go : (i ≡ n) ⊎ (i < n) → P i
    go (inl e) = subst P (sym e) hn
    go (inr m) = h i m

-- Sums

-- functions that are equal below n have equal sums
pub sum_same : (n : ℕ) {f g : ℕ → ℕ} → ((i : ℕ) → i < n → f i ≡ g i) → sum_to n f ≡ sum_to n g
unfolding sum_to
sum_same zero h = refl
sum_same (suc n) h =
    let e = sum_same n (λ i l. h i (omega arith)) in
    let e' = h n (omega arith) in
    omega arith

-- the larger function has the larger sum
pub sum_le : (n : ℕ) {f g : ℕ → ℕ} → ((i : ℕ) → i < n → f i ≤ g i) → sum_to n f ≤ sum_to n g
unfolding sum_to
sum_le zero h = omega arith
sum_le (suc n) h =
    let e = sum_le n (λ i l. h i (omega arith)) in
    let e' = h n (omega arith) in
    omega arith

-- the sum of zeros
pub sum_zero : (n : ℕ) {f : ℕ → ℕ} → ((i : ℕ) → i < n → f i ≡ 0) → sum_to n f ≡ 0
unfolding sum_to
sum_zero zero h = refl
sum_zero (suc n) h =
    let e = sum_zero n (λ i l. h i (omega arith)) in
    let e' = h n (omega arith) in
    omega arith

-- the sum of ones
pub sum_ones : (n : ℕ) → sum_to n (λ i. 1) ≡ n
unfolding sum_to
sum_ones zero = refl
sum_ones (suc n) = let e = sum_ones n in omega arith

-- the sum of f + g
pub sum_add : (n : ℕ) (f g : ℕ → ℕ) → sum_to n (λ i. f i + g i) ≡ sum_to n f + sum_to n g
unfolding sum_to
sum_add zero f g = refl
sum_add (suc n) f g = let e = sum_add n f g in omega arith

-- the first term by itself
pub sum_first : (n : ℕ) (f : ℕ → ℕ) → sum_to (suc n) f ≡ f 0 + sum_to n (λ i. f (suc i))
unfolding sum_to
sum_first zero f = omega arith
sum_first (suc n) f = let e = sum_first n f in omega arith

-- sums of sums can be taken in either order
pub sum_swap : (n m : ℕ) (f : ℕ → ℕ → ℕ) → sum_to n (λ i. sum_to m (λ j. f i j)) ≡ sum_to m (λ j. sum_to n (λ i. f i j))
unfolding sum_to
sum_swap zero m f = sym (sum_zero m (λ i l. refl))
sum_swap (suc n) m f = ap (λ (x : ℕ). x + sum_to m (f n)) (sum_swap n m f) ∙ sym (sum_add m (λ j. sum_to n (λ i. f i j)) (f n))

-- a term is at most the sum
pub term_le : (n : ℕ) (f : ℕ → ℕ) (i : ℕ) → i < n → f i ≤ sum_to n f
unfolding sum_to
term_le zero f = λ i l. absurd (omega arith)
term_le (suc n) f =
    one_more {P = λ i. f i ≤ sum_to n f + f n} n (λ i l. let h = term_le n f i l in omega arith) (omega arith)

-- changing one value of a function changes the sum by the difference
pub sum_change :
    (n : ℕ) (f g : ℕ → ℕ) (i : ℕ) → i < n → ((j : ℕ) → j < n → (j ≡ i → ⊥) → f j ≡ g j)
    → sum_to n f + g i ≡ sum_to n g + f i
unfolding sum_to
sum_change zero f g i l h = omega arith
sum_change (suc n) f g i l h =
    go (eq-or-lt_of_le {n = i} {m = n} (omega arith)) (λ l'. sum_change n f g i l' (λ j m. h j (omega arith)))
  where
    go : (i ≡ n) ⊎ (i < n) → (i < n → sum_to n f + g i ≡ sum_to n g + f i) → sum_to n f + f n + g i ≡ sum_to n g + g n + f i
    go (inl e) r =
        let same = sum_same n {f = f} {g = g} (λ j m. h j (omega arith) (λ e'. omega arith)) in
        let e₁ = ap f e in
        let e₂ = ap g e in
        omega arith
    go (inr l') r = let r' = r l' in let e = h n (omega arith) (λ e'. omega arith) in omega arith

-- a sum with one term that is not zero is that term
pub sum_single : (n : ℕ) (f : ℕ → ℕ) (i : ℕ) → i < n → ((j : ℕ) → j < n → (j ≡ i → ⊥) → f j ≡ 0) → sum_to n f ≡ f i
sum_single n f i l h = let e = sum_change n f (λ j. 0) i l h in let z = sum_zero n {f = λ j. 0} (λ j m. refl) in omega arith

-- Tests

-- where each number below n passes, a number below n passes
pub all_at : (n : ℕ) (p : ℕ → Bool) → all_to n p ≡ true → (i : ℕ) → i < n → p i ≡ true
unfolding all_to
all_at zero p a = λ i l. absurd (omega arith)
all_at (suc n) p a =
    one_more {P = λ i. p i ≡ true} n (all_at n p (and_both (all_to n p) (p n) a).0) (and_both (all_to n p) (p n) a).1

-- and the other way
pub all_of : (n : ℕ) (p : ℕ → Bool) → ((i : ℕ) → i < n → p i ≡ true) → all_to n p ≡ true
unfolding all_to
all_of zero p h = refl
all_of (suc n) p h = both_and (all_of n p (λ i l. h i (omega arith))) (h n (omega arith))

-- Counts

-- tests that are equal below n count the same
pub count_same : (n : ℕ) {p q : ℕ → Bool} → ((i : ℕ) → i < n → p i ≡ q i) → count_to n p ≡ count_to n q
unfolding count_to
count_same n h = sum_same n (λ i l. ap one (h i l))

-- a count is at most the bound
pub count_le : (n : ℕ) (p : ℕ → Bool) → count_to n p ≤ n
unfolding count_to
count_le n p = let e = sum_le n {f = λ i. one (p i)} {g = λ i. 1} (λ i l. go (p i)) in let o = sum_ones n in omega arith
  where
    go : (b : Bool) → one b ≤ 1
    go true = omega arith
    go false = omega arith

-- what counts nothing
pub count_none : (n : ℕ) {p : ℕ → Bool} → ((i : ℕ) → i < n → p i ≡ false) → count_to n p ≡ 0
unfolding count_to
count_none n h = sum_zero n (λ i l. ap one (h i l))

-- what counts one number alone
pub count_single :
    (n : ℕ) (p : ℕ → Bool) (i : ℕ) → i < n → p i ≡ true → ((j : ℕ) → j < n → (j ≡ i → ⊥) → p j ≡ false)
    → count_to n p ≡ 1
unfolding count_to
count_single n p i l e h = sum_single n (λ j. one (p j)) i l (λ j m d. ap one (h j m d)) ∙ ap one e

-- changing one value of a test changes the count by the difference
pub count_change :
    (n : ℕ) (p q : ℕ → Bool) (i : ℕ) → i < n → ((j : ℕ) → j < n → (j ≡ i → ⊥) → p j ≡ q j)
    → count_to n p + one (q i) ≡ count_to n q + one (p i)
unfolding count_to
count_change n p q i l h = sum_change n (λ j. one (p j)) (λ j. one (q j)) i l (λ j m d. ap one (h j m d))

-- one number below n is i
pub count_equal : (n i : ℕ) → i < n → count_to n (λ j. eqb i j) ≡ 1
count_equal n i l = count_single n (λ j. eqb i j) i l (eq-eqb i i refl) (λ j m d. ne_eqb i j (λ e. d (sym e)))

-- a number that passes makes a count positive
pub count_positive : (n : ℕ) (p : ℕ → Bool) (i : ℕ) → i < n → p i ≡ true → 0 < count_to n p
unfolding count_to
count_positive n p i l e = let h = term_le n (λ j. one (p j)) i l in let e' = ap one e in omega arith

-- a number below n passes, and none does
abbrev pub Some : ℕ → (ℕ → Bool) → Type 0
Some n p = (i : ℕ) × (i < n) × (p i ≡ true)

abbrev pub None : ℕ → (ℕ → Bool) → Type 0
None n p = (i : ℕ) → i < n → p i ≡ false

-- one or the other
pub some_or_none : (n : ℕ) (p : ℕ → Bool) → Some n p ⊎ None n p
some_or_none zero p = inr (λ i l. absurd (omega arith))
some_or_none (suc n) p = go (either (p n)) (some_or_none n p)
  where
    go : (p n ≡ true) ⊎ (p n ≡ false) → Some n p ⊎ None n p → Some (suc n) p ⊎ None (suc n) p
    go (inl e) r = inl (n, omega arith, e)
    go (inr e) (inl r) = inl (r.0, omega arith, r.2)
    go (inr e) (inr r) = inr (one_more {P = λ i. p i ≡ false} n r e)

-- Maps

-- what each number below n that passes has, a function gives
pub chosen :
    {P : ℕ → ℕ → Type 0} (n : ℕ) (p : ℕ → Bool) → ((i : ℕ) → i < n → p i ≡ true → (j : ℕ) × P i j)
    → (f : ℕ → ℕ) × ((i : ℕ) → i < n → p i ≡ true → P i (f i))
chosen {P} n p h = (λ i. (pick i).0, λ i. (pick i).1)
  where
    go :
        (i : ℕ) → (ltb i n ≡ true) ⊎ (ltb i n ≡ false) → (p i ≡ true) ⊎ (p i ≡ false)
        → (j : ℕ) × (i < n → p i ≡ true → P i j)
    go i (inl l) (inl e) = let r = h i (ltb-true i n l) e in (r.0, λ l' e'. r.1)
    go i (inr l) d = (0, λ l' e'. absurd (omega (arith, ltb-false i n l)))
    go i (inl l) (inr e) = (0, λ l' e'. absurd (not_both e' e))

    pick : (i : ℕ) → (j : ℕ) × (i < n → p i ≡ true → P i j)
    pick i = go i (either (ltb i n)) (either (p i))

-- the test q without x
without : (ℕ → Bool) → ℕ → ℕ → Bool
without q x j = cond (eqb j x) false (q j)

without_other : (q : ℕ → Bool) (x j : ℕ) → (j ≡ x → ⊥) → without q x j ≡ q j
unfolding without
without_other q x j d = rw (ne_eqb j x d)

without_same : (q : ℕ → Bool) (x : ℕ) → without q x x ≡ false
unfolding without
without_same q x = rw (eq-eqb x x refl)

-- without a number that passes, one less is counted
count_without : (m : ℕ) (q : ℕ → Bool) (x : ℕ) → x < m → q x ≡ true → count_to m q ≡ suc (count_to m (without q x))
count_without m q x l e =
    let c = count_change m q (without q x) x l (λ j k d. sym (without_other q x j d)) in
    let e₁ = ap one e in
    let e₂ = ap one (without_same q x) in
    omega arith

-- each number below n that passes p has an image below m that passes q
abbrev pub Maps : ℕ → ℕ → (ℕ → Bool) → (ℕ → Bool) → (ℕ → ℕ) → Type 0
Maps n m p q f = (i : ℕ) → i < n → p i ≡ true → (f i < m) × (q (f i) ≡ true)

-- no two numbers below n that pass p have one image
abbrev pub Injective : ℕ → (ℕ → Bool) → (ℕ → ℕ) → Type 0
Injective n p f = (i j : ℕ) → i < n → j < n → p i ≡ true → p j ≡ true → f i ≡ f j → i ≡ j

-- and a number that is no image may be left out
maps_without :
    (n m : ℕ) (p q : ℕ → Bool) (f : ℕ → ℕ) → Maps n m p q f → (x : ℕ) → ((i : ℕ) → i < n → p i ≡ true → f i ≡ x → ⊥)
    → Maps n m p (without q x) f
maps_without n m p q f maps x other i l e =
    let r = maps i l e in
    (r.0, without_other q x (f i) (other i l e) ∙ r.1)

-- counting by an injection
pub count_into : (n m : ℕ) (p q : ℕ → Bool) (f : ℕ → ℕ) → Maps n m p q f → Injective n p f → count_to n p ≤ count_to m q
unfolding count_to sum_to
count_into zero m p q f maps inj = omega arith
count_into (suc n) m p q f maps inj =
    go (either (p n)) (λ q' maps'. count_into n m p q' f maps' (λ i j k l. inj i j (omega arith) (omega arith)))
  where
    go :
        (p n ≡ true) ⊎ (p n ≡ false) → ((q' : ℕ → Bool) → Maps n m p q' f → count_to n p ≤ count_to m q')
        → count_to (suc n) p ≤ count_to m q
    go (inl e) r =
        let at = maps n (omega arith) e in
        let less = count_without m q (f n) at.0 at.1 in
        let other : (i : ℕ) → i < n → p i ≡ true → f i ≡ f n → ⊥ =
        λ i l e' d. let z = inj i n (omega arith) (omega arith) e' e d in omega arith in
        let rest = r (without q (f n)) (maps_without n m p q f (λ i l. maps i (omega arith)) (f n) other) in
        let e₁ = ap one e in
        omega arith
    go (inr e) r = let rest = r q (λ i l. maps i (omega arith)) in let e₁ = ap one e in omega arith

-- Pigeonhole: where no more is counted than is mapped, an injection is onto.
pub count_onto :
    (n m : ℕ) (p q : ℕ → Bool) (f : ℕ → ℕ) → Maps n m p q f → Injective n p f → count_to m q ≤ count_to n p
    → (j : ℕ) → j < m → q j ≡ true → (i : ℕ) × (i < n) × (p i ≡ true) × (f i ≡ j)
count_onto n m p q f maps inj le j l e = go (some_or_none n (λ i. p i && eqb (f i) j))
  where
    go : Some n (λ i. p i && eqb (f i) j) ⊎ None n (λ i. p i && eqb (f i) j) → (i : ℕ) × (i < n) × (p i ≡ true) × (f i ≡ j)
    go (inl w) = let b = and_both _ _ w.2 in (w.0, w.1, b.0, eqb-true _ _ b.1)
    go (inr none) =
        let less = count_without m q j l e in
        let other : (i : ℕ) → i < n → p i ≡ true → f i ≡ j → ⊥ =
        λ i k e' d. not_both (both_and e' (eq-eqb (f i) j d)) (none i k) in
        let rest = count_into n m p (without q j) f (maps_without n m p q f maps j other) inj in
        absurd (omega arith)
