-- Lists compared bit by bit, the most significant bit of a byte first, and compared byte by byte: of bytes both say the same.
-- Assumes nothing.
use Prim.Native.Nat.{ℕ, zero, suc, ◌+◌, ◌*◌, ◌-◌, ◌/◌, ◌%◌, ◌^◌, ◌≤◌, ◌<◌}
use mathlib.Core.Bool.{Bool, true, false, ◌&&◌}
use mathlib.Core.Path.{◌≡◌, refl, sym, ◌∙◌, ap, ap₂}
use mathlib.Core.List.{List, [], ◌∷◌}
use native.Mathlib.Nat.{add-zero, add-suc, div-one}
use native.Mathlib.Numerals.{add-one}
use native.Mathlib.Omega.{arith}
use lib.Dec.{eqb}
use lib.ListN.{length, get_or, take, drop}
use lib.Pow.{shr-shr}
use lib.Seq.{get_or-drop, drop-cons, take-length}
use borrow.Author.Tests.{eqb-true, eqb-false, eq-eqb, ne_eqb}
use Rattle.std.specs.Str.{bytes_eq}
use Rattle.numbers.specs.Bytes.{Bytes, part, same}
use Rattle.probing.specs.Counting.{all_to}
use Rattle.listing.specs.Match.{bit_at, agrees}

-- the first n bits of two lists are the same
pub same_bits : ℕ → List ℕ → List ℕ → Bool
same_bits n xs ys = all_to n (λ i. eqb (bit_at xs i) (bit_at ys i))

-- bit i of a byte
bit : ℕ → ℕ → ℕ
bit x i = x / 2 ^ (7 - i) % 2

-- tests that are equal below n say the same
all_same : (n : ℕ) (p q : ℕ → Bool) → ((i : ℕ) → i < n → p i ≡ q i) → all_to n p ≡ all_to n q
unfolding all_to
all_same zero p q h = refl
all_same (suc n) p q h = ap₂ ◌&&◌ (all_same n p q (λ i l. h i (omega arith))) (h n (omega arith))

and_assoc : (s t u : Bool) → (s && (t && u)) ≡ ((s && t) && u)
and_assoc true t u = refl
and_assoc false t u = refl

and_true : (t : Bool) → t ≡ (t && true)
and_true true = refl
and_true false = refl

-- a test below a + b is the test below a and then of b numbers more
all_add : (a b : ℕ) (p : ℕ → Bool) → all_to (a + b) p ≡ (all_to a p && all_to b (λ i. p (a + i)))
unfolding all_to
all_add a zero p = rw (add-zero a) (and_true (all_to a p))
all_add a (suc b) p =
    rw (add-suc a b)
    (ap (λ (t : Bool). t && p (a + b)) (all_add a b p)
    ∙ sym (and_assoc (all_to a p) (all_to b (λ i. p (a + i))) (p (a + b))))

-- two numbers are equal where their halves and their last bits are
eq_halves : (a b : ℕ) → eqb a b ≡ (eqb (a / 2) (b / 2) && eqb (a % 2) (b % 2))
eq_halves a b = go (eqb (a / 2) (b / 2)) (eqb (a % 2) (b % 2)) refl refl
  where
    go : (s t : Bool) → eqb (a / 2) (b / 2) ≡ s → eqb (a % 2) (b % 2) ≡ t → eqb a b ≡ (s && t)
    go true true e f =
        let e' = eqb-true (a / 2) (b / 2) e in
        let f' = eqb-true (a % 2) (b % 2) f in
        eq-eqb a b (omega arith)
    go true false e f = ne_eqb a b (λ g. eqb-false (a % 2) (b % 2) f (ap (λ (n : ℕ). n % 2) g))
    go false t e f = ne_eqb a b (λ g. eqb-false (a / 2) (b / 2) e (ap (λ (n : ℕ). n / 2) g))

-- bytes have the same first n bits where they have the same upper n bits
same_upper :
    (x y n : ℕ) → x < 256 → y < 256 → n ≤ 8
    → all_to n (λ i. eqb (bit x i) (bit y i)) ≡ eqb (x / 2 ^ (8 - n)) (y / 2 ^ (8 - n))
unfolding all_to bit
same_upper x y zero hx hy h = sym (eq-eqb (x / 256) (y / 256) (omega arith))
same_upper x y (suc n) hx hy h =
    let up : (z : ℕ) → z / 2 ^ (8 - n) ≡ z / 2 ^ (7 - n) / 2 =
    λ z. ap (λ (k : ℕ). z / 2 ^ k) (omega arith) ∙ sym (shr-shr z (7 - n) 1) in
    ap (λ (t : Bool). t && eqb (bit x n) (bit y n)) (same_upper x y n hx hy (omega arith) ∙ ap₂ eqb (up x) (up y))
    ∙ sym (eq_halves (x / 2 ^ (7 - n)) (y / 2 ^ (7 - n)))
    ∙ ap (λ (k : ℕ). eqb (x / 2 ^ k) (y / 2 ^ k)) (omega arith)

-- the bits of the byte at i, and those after n bytes
bit_first : (xs : List ℕ) (i k : ℕ) → k < 8 → bit_at (drop i xs) k ≡ bit (get_or xs i 0) k
unfolding bit_at bit
bit_first xs i k h =
    rw (get_or-drop i xs (k / 8) 0) (ap₂ (λ (a b : ℕ). get_or xs a 0 / 2 ^ (7 - b) % 2) (omega arith) (omega arith))

bits_rest : (xs : List ℕ) (i n k : ℕ) → bit_at (drop i xs) (8 * n + k) ≡ bit_at (drop (i + n) xs) k
unfolding bit_at
bits_rest xs i n k =
    rw (get_or-drop i xs ((8 * n + k) / 8) 0, get_or-drop (i + n) xs (k / 8) 0)
    (ap₂ (λ (a b : ℕ). get_or xs a 0 / 2 ^ (7 - b) % 2) (omega arith) (omega arith))

-- lists compared from a place of each on, where the bytes at these places decide
module _ (xs ys : List ℕ) (i j : ℕ) (hx : get_or xs i 0 < 256) (hy : get_or ys j 0 < 256) where
  -- at most eight bits: the upper bits of the two bytes
  pub same_last :
      (n : ℕ) → n ≤ 8
      → same_bits n (drop i xs) (drop j ys) ≡ eqb (get_or xs i 0 / 2 ^ (8 - n)) (get_or ys j 0 / 2 ^ (8 - n))
  unfolding same_bits
  same_last n h =
      all_same n _ _ (λ k l. ap₂ eqb (bit_first xs i k (omega arith)) (bit_first ys j k (omega arith)))
      ∙ same_upper (get_or xs i 0) (get_or ys j 0) n hx hy h

  -- more: the two bytes, and then what follows them
  pub same_step :
      (n : ℕ)
      → same_bits (8 + n) (drop i xs) (drop j ys)
      ≡ (eqb (get_or xs i 0) (get_or ys j 0) && same_bits n (drop (i + 1) xs) (drop (j + 1) ys))
  unfolding same_bits
  same_step n =
      all_add 8 n _
      ∙ ap₂ ◌&&◌ (same_last 8 (omega arith) ∙ ap₂ eqb (div-one (get_or xs i 0)) (div-one (get_or ys j 0)))
      (all_same n _ _ (λ k l. ap₂ eqb (bits_rest xs i 1 k) (bits_rest ys j 1 k)))

-- no bits are always the same
pub same_none : (xs ys : List ℕ) → same_bits 0 xs ys ≡ true
unfolding same_bits all_to
same_none xs ys = refl

-- the bits that a match compares
pub agrees_same : (offset bits : ℕ) (pattern key : List ℕ) → agrees offset bits pattern key ≡ same_bits bits (drop offset key) pattern
unfolding agrees same_bits
agrees_same offset bits pattern key = refl

-- the bits of n bytes of each are the same where the bytes are
same_whole :
    (n : ℕ) (xs ys : List ℕ) (i j : ℕ) → Bytes xs → Bytes ys → i + n ≤ length xs → j + n ≤ length ys
    → same_bits (8 * n) (drop i xs) (drop j ys) ≡ same (take n (drop i xs)) (take n (drop j ys))
unfolding same
same_whole zero xs ys i j bx by hx hy = same_none (drop i xs) (drop j ys)
same_whole (suc n) xs ys i j bx by hx hy =
    ap (λ (k : ℕ). same_bits k (drop i xs) (drop j ys)) (omega arith)
    ∙ same_step xs ys i j (bx i) (by j) (8 * n)
    ∙ ap (λ (t : Bool). eqb (get_or xs i 0) (get_or ys j 0) && t) (same_whole n xs ys (i + 1) (j + 1) bx by (omega arith) (omega arith))
    ∙ rw (drop-cons xs i 0 (omega arith), drop-cons ys j 0 (omega arith), add-one i, add-one j) refl

-- so a match of all bits of a pattern is one of its bytes
pub agrees_bytes :
    (offset : ℕ) (pattern key : List ℕ) → Bytes pattern → Bytes key → offset + length pattern ≤ length key
    → agrees offset (8 * length pattern) pattern key ≡ same (part key offset (length pattern)) pattern
unfolding part
agrees_bytes offset pattern key bp bk h =
    agrees_same offset (8 * length pattern) pattern key
    ∙ same_whole (length pattern) key pattern offset 0 bk bp h (omega arith)
    ∙ ap (same (take (length pattern) (drop offset key))) (take-length pattern)

-- bytes are the same where the slices that hold them are equal
same_equal : (xs ys : List ℕ) → same xs ys ≡ bytes_eq xs ys
unfolding same
same_equal [] [] = refl
same_equal [] (y ∷ ys) = refl
same_equal (x ∷ xs) [] = refl
same_equal (x ∷ xs) (y ∷ ys) = ap (λ (t : Bool). eqb x y && t) (same_equal xs ys)

-- a match compares the whole bytes of its bits, and then the bits that are left
pub agrees_parts :
    (offset bits : ℕ) (pattern key : List ℕ) → Bytes pattern → Bytes key → offset + bits / 8 ≤ length key → bits / 8 ≤ length pattern
    → agrees offset bits pattern key
    ≡ (bytes_eq (take (bits / 8) (drop offset key)) (take (bits / 8) pattern)
    && same_bits (bits % 8) (drop (offset + bits / 8) key) (drop (bits / 8) pattern))
unfolding same_bits
agrees_parts offset bits pattern key bp bk hk hp =
    let n = bits / 8 in
    let rest : (k : ℕ) → bit_at pattern (8 * n + k) ≡ bit_at (drop n pattern) k =
    λ k. bits_rest pattern 0 n k ∙ ap (λ (j : ℕ). bit_at (drop j pattern) k) (omega arith) in
    agrees_same offset bits pattern key
    ∙ ap (λ (k : ℕ). same_bits k (drop offset key) pattern) (omega arith)
    ∙ all_add (8 * n) (bits % 8) _
    ∙ ap₂ ◌&&◌ (same_whole n key pattern offset 0 bk bp hk (omega arith) ∙ same_equal _ _)
    (all_same (bits % 8) _ _ (λ k l. ap₂ eqb (bits_rest key offset n k) (rest k)))
