-- Lists that hold bytes, as every list that code lends does: parts, puts and words of them.
-- Assumes nothing.
use Prim.Native.Nat.{ℕ, zero, suc, ◌+◌, ◌*◌, ◌%◌, ◌/◌, ◌^◌, ◌<◌}
use mathlib.Core.Path.{◌≡◌, refl, ap}
use mathlib.Core.List.{List, [], ◌∷◌, ◌++◌}
use native.Mathlib.Nat.{mod-lt, pow-succ'}
use native.Mathlib.Omega.{arith}
use lib.Dec.{lit<}
use lib.ListN.{length, take, drop, replicate}
use lib.Seq.{get_or-drop}
use Rattle.numbers.specs.Bytes.{Bytes, part, word, bytes_of, put}

-- bytes in a list, and in another put into it, are bytes
pub append_bytes : (a b : List ℕ) → Bytes a → Bytes b → Bytes (a ++ b)
append_bytes [] b ha hb i = hb i
append_bytes (x ∷ a) b ha hb zero = ha 0
append_bytes (x ∷ a) b ha hb (suc i) = append_bytes a b (λ j. ha (suc j)) hb i

pub take_bytes : (n : ℕ) (s : List ℕ) → Bytes s → Bytes (take n s)
take_bytes zero s h i = lit< tt
take_bytes (suc n) [] h i = lit< tt
take_bytes (suc n) (x ∷ s) h zero = h 0
take_bytes (suc n) (x ∷ s) h (suc i) = take_bytes n s (λ j. h (suc j)) i

pub drop_bytes : (n : ℕ) (s : List ℕ) → Bytes s → Bytes (drop n s)
drop_bytes n s h i = rw (get_or-drop n s i 0) (h (n + i))

pub part_bytes : (s : List ℕ) (at n : ℕ) → Bytes s → Bytes (part s at n)
unfolding part
part_bytes s at n h = take_bytes n (drop at s) (drop_bytes at s h)

pub replicate_bytes : (n : ℕ) → Bytes (replicate n 0)
replicate_bytes zero i = lit< tt
replicate_bytes (suc n) zero = lit< tt
replicate_bytes (suc n) (suc i) = replicate_bytes n i

pub put_bytes : (s : List ℕ) (at : ℕ) (b : List ℕ) → Bytes s → Bytes b → Bytes (put s at b)
unfolding put
put_bytes s at b hs hb =
    append_bytes (take at s ++ b) (drop (at + length b) s)
    (append_bytes (take at s) b (take_bytes at s hs) hb)
    (drop_bytes (at + length b) s hs)

pub bytes_of_bytes : (n x : ℕ) → Bytes (bytes_of n x)
unfolding bytes_of
bytes_of_bytes zero x i = lit< tt
bytes_of_bytes (suc n) x zero = mod-lt x (lit< tt)
bytes_of_bytes (suc n) x (suc i) = bytes_of_bytes n (x / 256) i

-- a word of n bytes is below 256 to the n
pub word_bound : (s : List ℕ) → Bytes s → word s < 256 ^ length s
unfolding word
word_bound [] h = lit< tt
word_bound (b ∷ s) h =
    let rest = word_bound s (λ i. h (suc i)) in
    rw pow-succ' (omega (arith, rest, h 0))

-- the bytes of a word are those that it was read from
pub bytes_word : (s : List ℕ) → Bytes s → bytes_of (length s) (word s) ≡ s
unfolding word bytes_of
bytes_word [] h = refl
bytes_word (b ∷ s) h =
    let low : (b + 256 * word s) % 256 ≡ b = omega (arith, h 0) in
    let high : (b + 256 * word s) / 256 ≡ word s = omega (arith, h 0) in
    rw (low, high) (ap (λ (l : List ℕ). b ∷ l) (bytes_word s (λ i. h (suc i))))
