-- How the comparisons of two lists go on, and the test of zeros, one byte at a time from index i.
-- Assumes nothing.
use Prim.Native.Nat.{ℕ, ◌+◌, ◌≤◌, ◌<◌}
use mathlib.Core.Bool.{true, false}
use mathlib.Core.Path.{◌≡◌, refl}
use mathlib.Core.List.{List}
use native.Mathlib.Numerals.{add-one}
use native.Mathlib.Omega.{arith}
use borrow.Author.Tests.{eq-eqb, ne_eqb, lt-ltb, le-ltb}
use lib.ListN.{length, get_or, drop, drop_of_length-le}
use lib.Seq.{drop-cons}
use Rattle.numbers.specs.Bytes.{same, below, all_zero}

module _ (a b : List ℕ) (i : ℕ) (ha : i < length a) (hb : i < length b) where
  -- whether they are the same: where the two bytes are, and where they differ
  pub same_on : get_or a i 0 ≡ get_or b i 0 → same (drop i a) (drop i b) ≡ same (drop (i + 1) a) (drop (i + 1) b)
  unfolding same
  same_on e = rw (add-one, drop-cons a i 0, drop-cons b i 0, eq-eqb (get_or a i 0) (get_or b i 0) e) refl

  pub same_no : (get_or a i 0 ≡ get_or b i 0 → ⊥) → same (drop i a) (drop i b) ≡ false
  unfolding same
  same_no ne = rw (drop-cons a i 0, drop-cons b i 0, ne_eqb (get_or a i 0) (get_or b i 0) ne) refl

  -- which one comes first: where the two bytes are the same, and where they differ
  pub below_on : get_or a i 0 ≡ get_or b i 0 → below (drop i a) (drop i b) ≡ below (drop (i + 1) a) (drop (i + 1) b)
  unfolding below
  below_on e =
      let le : get_or b i 0 ≤ get_or a i 0 = omega arith in
      rw (add-one, drop-cons a i 0, drop-cons b i 0, le-ltb (get_or a i 0) (get_or b i 0) le, eq-eqb (get_or a i 0) (get_or b i 0) e) refl

  pub below_yes : get_or a i 0 < get_or b i 0 → below (drop i a) (drop i b) ≡ true
  unfolding below
  below_yes l = rw (drop-cons a i 0, drop-cons b i 0, lt-ltb (get_or a i 0) (get_or b i 0) l) refl

  pub below_no : get_or b i 0 < get_or a i 0 → below (drop i a) (drop i b) ≡ false
  unfolding below
  below_no l =
      let le : get_or b i 0 ≤ get_or a i 0 = omega arith in
      let ne : get_or a i 0 ≡ get_or b i 0 → ⊥ = λ e. omega arith in
      rw (drop-cons a i 0, drop-cons b i 0, le-ltb (get_or a i 0) (get_or b i 0) le, ne_eqb (get_or a i 0) (get_or b i 0) ne) refl

-- two lists that both end are the same
pub same_end : (a b : List ℕ) (i : ℕ) → length a ≤ i → length b ≤ i → same (drop i a) (drop i b) ≡ true
unfolding same
same_end a b i ha hb = rw (drop_of_length-le a ha, drop_of_length-le b hb) refl

-- a shorter list that the other begins with comes before it; a list never comes before one that it begins with
pub below_short : (a b : List ℕ) (i : ℕ) → length a ≤ i → i < length b → below (drop i a) (drop i b) ≡ true
unfolding below
below_short a b i ha hb = rw (drop_of_length-le a ha, drop-cons b i 0) refl

pub below_end : (a b : List ℕ) (i : ℕ) → length b ≤ i → below (drop i a) (drop i b) ≡ false
unfolding below
below_end a b i hb = rw (drop_of_length-le b hb) refl

module _ (s : List ℕ) (i : ℕ) (h : i < length s) where
  -- whether every byte is zero: where the next one is, and where it is not
  pub zero_on : get_or s i 0 ≡ 0 → all_zero (drop i s) ≡ all_zero (drop (i + 1) s)
  unfolding all_zero
  zero_on e = rw (add-one, drop-cons s i 0, eq-eqb (get_or s i 0) 0 e) refl

  pub zero_no : (get_or s i 0 ≡ 0 → ⊥) → all_zero (drop i s) ≡ false
  unfolding all_zero
  zero_no ne = rw (drop-cons s i 0, ne_eqb (get_or s i 0) 0 ne) refl

-- a list that ends has no other byte
pub zero_end : (s : List ℕ) (i : ℕ) → length s ≤ i → all_zero (drop i s) ≡ true
unfolding all_zero
zero_end s i h = rw (drop_of_length-le s h) refl
