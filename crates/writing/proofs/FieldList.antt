-- What fields written one after the other leave. Different fields have no byte in common: one test over the whole table.
-- Assumes nothing.
use Prim.Native.Nat.{ℕ, ◌≤◌, ◌<◌}
use mathlib.Core.Bool.{Bool, true, false, cond, ◌&&◌, ◌||◌}
use mathlib.Core.Path.{◌≡◌, refl, sym, ap, ◌∙◌}
use mathlib.Core.List.{List, [], ◌∷◌, ◌++◌}
use native.Mathlib.Decide.{dec_lt}
use native.Mathlib.Omega.{arith}
use borrow.Author.Tests.{eqb-true, eqb-false, ne_eqb}
use lib.Dec.{T, eqb, leb, le→leb}
use lib.ListN.{length, get_or-eq_default}
use Rattle.numbers.specs.Bytes.{part}
use Rattle.probing.specs.Counting.{all_to}
use Rattle.probing.proofs.Counting.{all_at}
use Rattle.header.specs.Fields.{fields, field, bytes_in, value}
use Rattle.writing.specs.Write.{with_field, with_fields}
use Rattle.writing.proofs.OneField.{start, end, apart, Fits, field_length, field_behind, field_bytes, field_other, field_same, field_append}

-- the test over the table
table_apart : all_to 23 (λ m. all_to 23 (λ n. eqb m n || apart m n)) ≡ true
unfolding all_to
table_apart = refl

among : (m n : ℕ) → m < 23 → n < 23 → eqb m n || apart m n ≡ true
among m n hm hn = all_at 23 (λ n. eqb m n || apart m n) (all_at 23 (λ m. all_to 23 (λ n. eqb m n || apart m n)) table_apart m hm) n hn

is_true : {t : Bool} → t ≡ true → T t
is_true e = rw e tt

or_left : (a b : Bool) → T a → T (a || b)
or_left true b t = tt
or_left false b t = absurd t

or_right : (a b : Bool) → T b → T (a || b)
or_right true b t = tt
or_right false b t = t

pub together : (a b : Bool) → T a → T b → T (a && b)
together true b ta tb = tb
together false b ta tb = ta

pub both : (a b : Bool) → T (a && b) → T a × T b
both true b t = (tt, t)
both false b t = (absurd t, absurd t)

-- what is no field has no bytes
nowhere : (n : ℕ) → (n < 23 → ⊥) → end n ≡ 0
nowhere n h = rw (get_or-eq_default fields (field 0 0) {n = n} (omega arith)) refl

-- different fields have no byte in common
pub fields_apart : (m n : ℕ) → (m ≡ n → ⊥) → T (apart m n)
fields_apart m n other = go (dec_lt m 23) (dec_lt n 23)
  where
    before : end m ≤ start n → T (apart m n)
    before h = or_left (leb (end m) (start n)) (leb (end n) (start m)) (le→leb (end m) (start n) h)

    behind : end n ≤ start m → T (apart m n)
    behind h = or_right (leb (end m) (start n)) (leb (end n) (start m)) (le→leb (end n) (start m) h)

    go : Dec (m < 23) → Dec (n < 23) → T (apart m n)
    go (yes hm) (yes hn) = is_true (rw (ne_eqb m n other) at (among m n hm hn))
    go (yes hm) (no hn) = behind (omega (arith, nowhere n hn))
    go (no hm) d = before (omega (arith, nowhere m hm))

-- the numbers that a list writes, each one that its field can hold
abbrev pub Fitting : List (ℕ × ℕ) → Type 0
Fitting [] = Unit {0}
Fitting (f ∷ fs) = Fits f.0 f.1 × Fitting fs

-- the value of field m after the writes of a list, where it was x: the last one that is its own, else x
abbrev pub after : List (ℕ × ℕ) → ℕ → ℕ → ℕ
after [] m x = x
after (f ∷ fs) m x = after fs m (cond (eqb f.0 m) f.1 x)

-- whether a list writes no byte of field m
abbrev pub misses : List (ℕ × ℕ) → ℕ → Bool
misses [] m = true
misses (f ∷ fs) m = apart m f.0 && misses fs m

one_value : (image : List ℕ) → 256 ≤ length image → (n x m : ℕ) → Fits n x
    → value (with_field image n x) m ≡ cond (eqb n m) x (value image m)
one_value image long n x m h = go (eqb n m) refl
  where
    go : (t : Bool) → eqb n m ≡ t → value (with_field image n x) m ≡ cond t x (value image m)
    go true e = rw (← eqb-true n m e) (field_same image long n x h)
    go false e = field_other image long n x m (fields_apart m n (λ e'. eqb-false n m e (sym e')))

pub fields_length : (fs : List (ℕ × ℕ)) (image : List ℕ) → 256 ≤ length image → length (with_fields image fs) ≡ length image
unfolding with_fields
fields_length [] image long = refl
fields_length (f ∷ fs) image long =
    let e = field_length image long f.0 f.1 in
    fields_length fs (with_field image f.0 f.1) (rw e long) ∙ e

pub fields_value : (fs : List (ℕ × ℕ)) (image : List ℕ) → 256 ≤ length image → Fitting fs → (m : ℕ)
    → value (with_fields image fs) m ≡ after fs m (value image m)
unfolding with_fields
fields_value [] image long h m = refl
fields_value (f ∷ fs) image long h m =
    fields_value fs (with_field image f.0 f.1) (rw (field_length image long f.0 f.1) long) h.1 m
    ∙ ap (after fs m) (one_value image long f.0 f.1 m h.0)

-- the bytes behind the header stay
pub fields_behind : (fs : List (ℕ × ℕ)) (image : List ℕ) → 256 ≤ length image → (a n : ℕ) → 256 ≤ a
    → part (with_fields image fs) a n ≡ part image a n
unfolding with_fields
fields_behind [] image long a n h = refl
fields_behind (f ∷ fs) image long a n h =
    fields_behind fs (with_field image f.0 f.1) (rw (field_length image long f.0 f.1) long) a n h
    ∙ field_behind image long f.0 f.1 a n h

-- so do the bytes of a field that the list misses
pub fields_bytes : (fs : List (ℕ × ℕ)) (image : List ℕ) → 256 ≤ length image → (m : ℕ) → T (misses fs m)
    → bytes_in (with_fields image fs) m ≡ bytes_in image m
unfolding with_fields
fields_bytes [] image long m t = refl
fields_bytes (f ∷ fs) image long m t =
    let p = both (apart m f.0) (misses fs m) t in
    fields_bytes fs (with_field image f.0 f.1) (rw (field_length image long f.0 f.1) long) m p.1
    ∙ field_bytes image long f.0 f.1 m p.0

-- a list with other bytes behind it
pub fields_append : (fs : List (ℕ × ℕ)) (image b : List ℕ) → 256 ≤ length image → with_fields (image ++ b) fs ≡ with_fields image fs ++ b
unfolding with_fields
fields_append [] image b long = refl
fields_append (f ∷ fs) image b long =
    ap (λ (l : List ℕ). with_fields l fs) (field_append image long f.0 f.1 b)
    ∙ fields_append fs (with_field image f.0 f.1) b (rw (field_length image long f.0 f.1) long)
