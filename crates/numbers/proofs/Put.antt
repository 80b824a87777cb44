-- Laws of `put` and `part`.
-- Assumes nothing.
use Prim.Native.Nat.{ℕ, suc, ◌+◌, ◌-◌, ◌≤◌, ◌<◌}
use mathlib.Core.Path.{◌≡◌, refl, sym, ap, ◌∙◌}
use mathlib.Core.List.{List, ◌∷◌, ◌++◌, append_assoc, append-nil}
use native.Mathlib.Nat.{zero-add, add_assoc}
use native.Mathlib.Numerals.{add-one}
use native.Mathlib.Omega.{arith}
use borrow.Rule.Slice.PartMut.{put_mid}
use lib.ListN.{length, get_or, take, drop, length-append, length-drop, drop_of_length-le}
use lib.Seq.{drop-cons, length-take-le, take-add, drop-drop, take_at, take-append-le, drop-append-le, drop-append-add}
use Rattle.numbers.specs.Bytes.{part, put}

-- one byte of a part, and the rest of it
pub part_cons : (s : List ℕ) (at n : ℕ) → at < length s → part s at (suc n) ≡ get_or s at 0 ∷ part s (at + 1) n
unfolding part
part_cons s at n h = rw (add-one, drop-cons s at 0)

-- a part in two pieces
pub part_add : (s : List ℕ) (at n m : ℕ) → part s at (n + m) ≡ part s at n ++ part s (at + n) m
unfolding part
part_add s at n m = take-add n m (drop at s) ∙ ap (λ (l : List ℕ). take n (drop at s) ++ take m l) (drop-drop n at s)

-- a part of a list with others behind it
pub part_append : (a b : List ℕ) (at n : ℕ) → at + n ≤ length a → part (a ++ b) at n ≡ part a at n
unfolding part
part_append a b at n h =
    rw (drop-append-le at a b (omega arith), take-append-le n (drop at a) b (rw length-drop (omega arith))) refl

pub length_part : (s : List ℕ) (at n : ℕ) → at + n ≤ length s → length (part s at n) ≡ n
unfolding part
length_part s at n h = length-take-le n (drop at s) (rw length-drop (omega arith))

-- the bytes from one offset to another are a part
pub range_part : (xs : List ℕ) (at end n : ℕ) → end ≡ at + n → take (end - at) (drop at xs) ≡ part xs at n
unfolding part
range_part xs at end n e =
    let size : end - at ≡ n = omega arith in
    rw size

-- what stands in the part of s that begins at `at` after a write to it, as a put
pub part_written : {A : Type 0} (s : List A) (at k : ℕ) (now bs : List A) → k ≡ length bs → now ≡ bs → put_mid at k s now ≡ put s at bs
unfolding put
part_written s at k now bs size e =
    rw (e, size, drop-drop (length bs) at s) (sym (append_assoc (take at s) bs (drop (at + length bs) s)))

-- as many as there are, put at the start, are all there is
pub put_all : {A : Type 0} (s bs : List A) → length bs ≡ length s → put s 0 bs ≡ bs
unfolding put
put_all s bs e = rw (zero-add, drop_of_length-le s {i = length bs} (omega arith)) (append-nil bs)

head_length : (s : List ℕ) (at : ℕ) (bs : List ℕ) → at ≤ length s → length (take at s ++ bs) ≡ at + length bs
head_length s at bs h = rw (length-append, length-take-le at s h) refl

pub length_put : (s : List ℕ) (at : ℕ) (bs : List ℕ) → at + length bs ≤ length s → length (put s at bs) ≡ length s
unfolding put
length_put s at bs h =
    let low : at ≤ length s = omega arith in
    rw (length-append, head_length s at bs low, length-drop) (omega arith)

-- what is put behind what was put is put with it
pub put_put : (s : List ℕ) (at : ℕ) (xs ys : List ℕ) → at + length xs ≤ length s
    → put (put s at xs) (at + length xs) ys ≡ put s at (xs ++ ys)
unfolding put
put_put s at xs ys h =
    let p : List ℕ = take at s ++ xs in
    let r : List ℕ = drop (at + length xs) s in
    let low : at ≤ length s = omega arith in
    let lp : length p ≡ at + length xs = head_length s at xs low in
    let tail : drop (at + length xs + length ys) (p ++ r) ≡ drop (at + length xs + length ys) s =
    ap (λ (n : ℕ). drop (n + length ys) (p ++ r)) (sym lp) ∙ drop-append-add p r (length ys) ∙ drop-drop (length ys) (at + length xs) s in
    rw (take_at p r (at + length xs) lp, tail, length-append xs ys, append_assoc (take at s) xs ys, add_assoc at (length xs)) refl
