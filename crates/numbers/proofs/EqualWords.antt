-- Two lists by words of eight bytes: how many they begin with in common, and what these say of a comparison.
-- Assumes nothing.
use Prim.Native.Nat.{ℕ, zero, suc, ◌+◌, ◌*◌, ◌≤◌}
use mathlib.Core.Bool.{Bool, true, false, ◌&&◌, and-false}
use mathlib.Core.Path.{◌≡◌, refl, sym, ap, ap₂, ◌∙◌}
use mathlib.Core.List.{List, [], ◌∷◌, ◌++◌}
use native.Mathlib.Nat.{le_refl, mul-add}
use native.Mathlib.Omega.{arith}
use borrow.Author.Tests.{eq-eqb, le-ltb, eqb-true}
use lib.Dec.{eqb}
use lib.ListN.{length, get_or, take, drop, take-append-drop}
use lib.Pointwise.{pointwise}
use lib.Seq.{take-add}
use Rattle.std.proofs.lemmas.Slice.{between_to_end}
use Rattle.std.specs.List.{between}
use Rattle.numbers.specs.Bytes.{Bytes, part, word, same, below}
use Rattle.numbers.specs.EqualWords.{EqualWords}
use Rattle.numbers.proofs.Put.{part_cons}

-- bytes that are the same word are the same
word_part : (n : ℕ) (a b : List ℕ) (i : ℕ) → Bytes a → Bytes b → i + n ≤ length a → i + n ≤ length b
    → word (part a i n) ≡ word (part b i n) → part a i n ≡ part b i n
unfolding part word
word_part zero a b i _ _ _ _ _ = refl
word_part (suc n) a b i ba bb ha hb e =
    let ca : part a i (suc n) ≡ get_or a i 0 ∷ part a (i + 1) n = part_cons a i n (omega arith) in
    let cb : part b i (suc n) ≡ get_or b i 0 ∷ part b (i + 1) n = part_cons b i n (omega arith) in
    let w : get_or a i 0 + 256 * word (part a (i + 1) n) ≡ get_or b i 0 + 256 * word (part b (i + 1) n) = sym (ap word ca) ∙ e ∙ ap word cb in
    let first : get_or a i 0 ≡ get_or b i 0 = omega (arith, ba i, bb i) in
    let rest : part a (i + 1) n ≡ part b (i + 1) n =
    word_part n a b (i + 1) ba bb (omega arith) (omega arith) (omega (arith, ba i, bb i)) in
    ca ∙ ap₂ ◌∷◌ first rest ∙ sym cb

-- n words with which both begin, and the next one, are n + 1
pub one_more : (a b : List ℕ) (n : ℕ) → Bytes a → Bytes b → 8 * n + 8 ≤ length a → 8 * n + 8 ≤ length b → take (8 * n) a ≡ take (8 * n) b
    → word (part a (8 * n) 8) ≡ word (part b (8 * n) 8) → take (8 * (n + 1)) a ≡ take (8 * (n + 1)) b
unfolding part
one_more a b n ba bb ha hb alike e =
    rw (mul-add 8 n 1, take-add (8 * n) 8 a, take-add (8 * n) 8 b) (ap₂ ◌++◌ alike (word_part 8 a b (8 * n) ba bb ha hb e))

same_behind : (xs a b : List ℕ) → same (xs ++ a) (xs ++ b) ≡ same a b
unfolding same
same_behind [] a b = refl
same_behind (x ∷ xs) a b = rw (eq-eqb x x refl) (same_behind xs a b)

below_behind : (xs a b : List ℕ) → below (xs ++ a) (xs ++ b) ≡ below a b
unfolding below
below_behind [] a b = refl
below_behind (x ∷ xs) a b = rw (le-ltb x x (le_refl x), eq-eqb x x refl) (below_behind xs a b)

-- a comparison that passes over what both begin with goes by what is left
left : (f : List ℕ → List ℕ → Bool) → ((xs a b : List ℕ) → f (xs ++ a) (xs ++ b) ≡ f a b)
    → (a b : List ℕ) (m : ℕ) → take m a ≡ take m b → f a b ≡ f (drop m a) (drop m b)
left f behind a b m e =
    ap₂ f (sym (take-append-drop m a)) (sym (take-append-drop m b) ∙ ap (λ (l : List ℕ). l ++ drop m b) (sym e))
    ∙ behind (take m a) (drop m a) (drop m b)

pub below_past : (a b : List ℕ) (m : ℕ) → take m a ≡ take m b → below a b ≡ below (drop m a) (drop m b)
below_past = left below below_behind

-- as `==` of slices compares them
same_pointwise : (xs ys : List ℕ) → pointwise eqb xs ys ≡ same xs ys
unfolding same
same_pointwise [] [] = refl
same_pointwise [] (y ∷ ys) = refl
same_pointwise (x ∷ xs) [] = refl
same_pointwise (x ∷ xs) (y ∷ ys) = ap (λ (rest : Bool). eqb x y && rest) (same_pointwise xs ys)

-- lists of two lengths are not the same
pub same_lengths : (a b : List ℕ) → (length a ≡ length b → ⊥) → same a b ≡ false
unfolding same
same_lengths [] [] ne = absurd (ne refl)
same_lengths [] (y ∷ ys) ne = refl
same_lengths (x ∷ xs) [] ne = refl
same_lengths (x ∷ xs) (y ∷ ys) ne = rw (same_lengths xs ys (λ e. ne (ap suc e))) (and-false (eqb x y))

-- lists whose first n bytes are different words are not the same
same_not : (n : ℕ) (xs ys : List ℕ) → (word (take n xs) ≡ word (take n ys) → ⊥) → same xs ys ≡ false
unfolding same word
same_not zero xs ys ne = absurd (ne refl)
same_not (suc n) [] [] ne = absurd (ne refl)
same_not (suc n) [] (y ∷ ys) ne = refl
same_not (suc n) (x ∷ xs) [] ne = refl
same_not (suc n) (x ∷ xs) (y ∷ ys) ne =
    by (eqb x y) (λ e. same_not n xs ys (λ w. ne (ap₂ (λ (b r : ℕ). b + 256 * r) (eqb-true x y e) w)))
  where
    by : (t : Bool) → (t ≡ true → same xs ys ≡ false) → (t && same xs ys) ≡ false
    by true rest = rest refl
    by false rest = refl

module _ {a b : List ℕ} {n : ℕ} (words : EqualWords a b n) where
  pub same_left : same a b ≡ same (drop (8 * n) a) (drop (8 * n) b)
  same_left = left same same_behind a b (8 * n) words.alike

  pub below_left : below a b ≡ below (drop (8 * n) a) (drop (8 * n) b)
  below_left = below_past a b (8 * n) words.alike

  -- a further word in both is a difference
  pub same_differ : 8 * n + 8 ≤ length a → 8 * n + 8 ≤ length b → same a b ≡ false
  unfolding part
  same_differ ha hb = same_left ∙ same_not 8 (drop (8 * n) a) (drop (8 * n) b) (words.no_more ha hb)

  -- what is left of both decides
  pub same_by_rest : (m : ℕ) → m ≡ n → {r : Bool} → r ≡ pointwise eqb (between (8 * m) (length a) a) (between (8 * m) (length b) b) → r ≡ same a b
  same_by_rest m e compared =
      compared ∙ ap₂ (pointwise eqb) (between_to_end a (8 * m) (length a) (le_refl (length a))) (between_to_end b (8 * m) (length b) (le_refl (length b)))
      ∙ same_pointwise (drop (8 * m) a) (drop (8 * m) b)
      ∙ rw e (sym same_left)
