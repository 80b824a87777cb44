-- Numbers mixed by the digits of a number, one digit after the other.
-- Assumes nothing.
use Rattle.std.proofs.Common.{◌≡◌, ℕ, suc, ◌/◌, ◌%◌, ◌^◌, cond, eqb, List, [], ◌∷◌, ◌++◌, length, take, slice_index_or, length-take-le, get_or-take, take_all, append-nil, sym, refl, ap, ◌∙◌, length-append, ◌<◌, ◌≤◌, ◌+◌, ◌*◌, div-one, add-one, one-add, arith, shr-shr}
use lib.Bits.{bit_xor, xor_zero_r}
use Rattle.std.specs.Int.Bits.{xor_assoc}
use Rattle.std.proofs.lemmas.List.{take_more, get_or_past}
use Rattle.std.proofs.lemmas.List.Folds.{concat-append}
use native.Mathlib.Decide.{dec_lt}
use lib.Pow.{field, mod-mod-pow}
use Rattle.std.specs.List.{concat}
use Rattle.digests.specs.Mixed.{mixed}
use Rattle.digests.proofs.Linear.{digit}

-- s may as well be added at the end
pub mixed_from : (s : ℕ) (bs : List ℕ) (x : ℕ) → mixed s bs x ≡ bit_xor s (mixed 0 bs x)
unfolding mixed
mixed_from s [] x = sym (xor_zero_r s)
mixed_from s (b ∷ bs) x =
    digit (λ (d : ℕ). mixed (cond (eqb d 1) (bit_xor s b) s) bs (x / 2) ≡ bit_xor s (mixed (cond (eqb d 1) (bit_xor 0 b) 0) bs (x / 2)))
    (mixed_from s bs (x / 2))
    (mixed_from (bit_xor s b) bs (x / 2) ∙ xor_assoc s b (mixed 0 bs (x / 2)) ∙ ap (bit_xor s) (sym (mixed_from b bs (x / 2))))
    (x % 2) (omega arith)

-- with no bit of x there is s alone
pub mixed_none : (s : ℕ) (bs : List ℕ) → mixed s bs 0 ≡ s
unfolding mixed
mixed_none s [] = refl
mixed_none s (b ∷ bs) = mixed_none s bs

-- with no number there is 0
pub mixed_nothing : (x : ℕ) → mixed 0 [] x ≡ 0
unfolding mixed
mixed_nothing x = refl

-- the lists of two digits, one behind the other
mixed_append : (s : ℕ) (cs bs : List ℕ) (x : ℕ) → mixed s (cs ++ bs) x ≡ mixed (mixed s cs x) bs (x / 2 ^ length cs)
unfolding mixed
mixed_append s [] bs x = rw div-one refl
mixed_append s (c ∷ cs) bs x = mixed_append (cond (eqb (x % 2) 1) (bit_xor s c) s) cs bs (x / 2) ∙ rw (shr-shr x 1 (length cs), one-add) refl

-- only so many bits of x are asked
pub mixed_low : (s : ℕ) (bs : List ℕ) (x : ℕ) → mixed s bs (x % 2 ^ length bs) ≡ mixed s bs x
unfolding mixed
mixed_low s [] x = refl
mixed_low s (b ∷ bs) x =
    let low : x % 2 ^ suc (length bs) % 2 ≡ x % 2 = ap (λ (n : ℕ). x % 2 ^ n % 2) (sym (add-one (length bs))) ∙ mod-mod-pow x (length bs) 1 in
    let high : x % 2 ^ suc (length bs) / 2 ≡ x / 2 % 2 ^ length bs = ap (λ (n : ℕ). x % 2 ^ n / 2) (sym (add-one (length bs))) ∙ field x (length bs) 1 in
    rw (low, high) (mixed_low (cond (eqb (x % 2) 1) (bit_xor s b) s) bs (x / 2))

-- five numbers are those at their places
five : (xs : List ℕ) → length xs ≡ 5
    → xs ≡ slice_index_or xs 0 0 ∷ slice_index_or xs 1 0 ∷ slice_index_or xs 2 0 ∷ slice_index_or xs 3 0 ∷ slice_index_or xs 4 0 ∷ []
five (a ∷ b ∷ c ∷ d ∷ e ∷ []) l = refl
five [] l = absurd (omega (arith, l))
five (a ∷ []) l = absurd (omega (arith, l))
five (a ∷ b ∷ []) l = absurd (omega (arith, l))
five (a ∷ b ∷ c ∷ []) l = absurd (omega (arith, l))
five (a ∷ b ∷ c ∷ d ∷ []) l = absurd (omega (arith, l))
five (a ∷ b ∷ c ∷ d ∷ e ∷ f ∷ xs) l = absurd (omega (arith, l))

-- so what a digit mixes of five numbers is what a number mixes that ends in it
pub ends_in : (xs : List ℕ) (x d : ℕ) {r : ℕ} → length xs ≡ 5 → x % 32 ≡ d
    → r ≡ mixed 0 (slice_index_or xs 0 0 ∷ slice_index_or xs 1 0 ∷ slice_index_or xs 2 0 ∷ slice_index_or xs 3 0 ∷ slice_index_or xs 4 0 ∷ []) d → r ≡ mixed 0 xs x
ends_in xs x d l e f =
    f ∙ ap (λ (ys : List ℕ). mixed 0 ys d) (sym (five xs l)) ∙ ap (mixed 0 xs) (sym e) ∙ ap (λ (n : ℕ). mixed 0 xs (x % 2 ^ n)) (sym l) ∙ mixed_low 0 xs x

-- one more digit behind others
pub further : (cs bs : List ℕ) (x : ℕ) {p r : ℕ} → p ≡ mixed 0 cs x → r ≡ mixed 0 bs (x / 2 ^ length cs) → bit_xor p r ≡ mixed 0 (cs ++ bs) x
further cs bs x e f = rw (mixed_append 0 cs bs x, mixed_from (mixed 0 cs x) bs (x / 2 ^ length cs), e, f) refl

-- each list has five numbers
abbrev pub Fives : List (List ℕ) → Type 0
Fives ds = (k : ℕ) → k < length ds → length (slice_index_or ds k []) ≡ 5

length_fives : (ds : List (List ℕ)) → Fives ds → length (concat ds) ≡ 5 * length ds
length_fives [] h = refl
length_fives (d ∷ ds) h = rw (length-append, h 0 (omega arith), length_fives ds (λ k l. h (suc k) (omega (arith, l)))) (omega arith)

-- of no digit there is nothing
pub no_digit : (ds : List (List ℕ)) (k x : ℕ) → length ds ≤ k → 0 ≡ mixed 0 (slice_index_or ds k []) x
no_digit ds k x l = rw (get_or_past ds k [] l) (sym (mixed_nothing x))

-- and the digit at k, behind the k before it
pub next_digit : (ds : List (List ℕ)) (x k : ℕ) {p r : ℕ} → Fives ds → p ≡ mixed 0 (concat (take k ds)) x → r ≡ mixed 0 (slice_index_or ds k []) (x / 2 ^ (5 * k))
    → bit_xor p r ≡ mixed 0 (concat (take (k + 1) ds)) x
next_digit ds x k {p} {r} h e f = go (dec_lt k (length ds))
  where
    go : Dec (k < length ds) → bit_xor p r ≡ mixed 0 (concat (take (k + 1) ds)) x
    go (yes l) =
        let early : length (take k ds) ≡ k = length-take-le k ds (omega (arith, l)) in
        let fives : Fives (take k ds) = λ i m. let n : i < k = rw early at m in ap length (get_or-take k ds i [] n) ∙ h i (omega (arith, l)) in
        let size : length (concat (take k ds)) ≡ 5 * k = length_fives (take k ds) fives ∙ ap (λ (n : ℕ). 5 * n) early in
        let last : r ≡ mixed 0 (slice_index_or ds k [] ++ []) (x / 2 ^ length (concat (take k ds))) = rw (append-nil (slice_index_or ds k []), size) f in
        rw (take_more ds k [] l, concat-append (take k ds) (slice_index_or ds k [] ∷ []))
        (further (concat (take k ds)) (slice_index_or ds k [] ++ []) x e last)
    go (no l) =
        let none : r ≡ 0 = f ∙ sym (no_digit ds k (x / 2 ^ (5 * k)) (omega (arith, l))) in
        rw (none, xor_zero_r p, take_all (k + 1) ds (omega (arith, l))) (rw (take_all k ds (omega (arith, l))) at e)
