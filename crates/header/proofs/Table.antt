-- The fields lie in the header, and those that hold a number have four or eight bytes: tests over the whole table.
-- Assumes nothing.
use Prim.Native.Nat.{ℕ, zero, suc, ◌+◌, ◌-◌, ◌≤◌, ◌<◌}
use mathlib.Core.Bool.{Bool, true, ◌&&◌, ◌||◌, and-eq-true_iff}
use mathlib.Core.Path.{◌≡◌, refl, ap}
use mathlib.Core.List.{List}
use native.Mathlib.Nat.{le_of_suc-le-suc, not-suc-le-zero}
use native.Mathlib.Omega.{arith}
use borrow.Author.Tests.{leb-true, eqb-true, ne_eqb}
use lib.Dec.{leb, eqb, lit<}
use lib.ListN.{take, drop}
use Rattle.numbers.specs.Bytes.{part, word}
use Rattle.header.specs.declared.fields.Field.{Field}
use Rattle.header.specs.declared.fields.Name.{Name}
use Rattle.header.specs.declared.fields.Name.TheVariants.{Magic, Version, HeaderSize, KeySize, IndexSize, SlotSize, HashAlg, Flags, SlotCapacity, SlotHighwater, LiveCount, UserVersion, Generation, BucketCount, BucketUsed, BucketTombstones, SlotsOffset, BucketsOffset, HeaderCrc32c, State, UserFlags, UserData, Reserved}
use Rattle.header.specs.Fields.{place, field_of, value, bytes_in}

-- whether a test holds of every name below n
all_below : ℕ → (ℕ → Bool) → Bool
all_below zero p = true
all_below (suc n) p = p 0 && all_below n (λ k. p (suc k))

below : (n : ℕ) (p : ℕ → Bool) → all_below n p ≡ true → (k : ℕ) → k < n → p k ≡ true
unfolding all_below
below zero p t k h = absurd (not-suc-le-zero h)
below (suc n) p t zero h = ((and-eq-true_iff (p 0) (all_below n (λ k. p (suc k)))).0 t).0
below (suc n) p t (suc k) h =
    below n (λ k. p (suc k)) ((and-eq-true_iff (p 0) (all_below n (λ k. p (suc k)))).0 t).1 k (le_of_suc-le-suc h)

-- what one test over the first n fields says of each
tested : (n : ℕ) (p : Field → Bool) → all_below n (λ name. p (field_of name)) ≡ true → (name : ℕ) {f : Field} → name < n → f ≡ field_of name → p f ≡ true
tested n p t name h e = rw e (below n (λ name. p (field_of name)) t name h)

-- a name's place is in the table
pub place_lt : (name : Name) → place name < 23
place_lt Magic = lit< tt
place_lt Version = lit< tt
place_lt HeaderSize = lit< tt
place_lt KeySize = lit< tt
place_lt IndexSize = lit< tt
place_lt SlotSize = lit< tt
place_lt HashAlg = lit< tt
place_lt Flags = lit< tt
place_lt SlotCapacity = lit< tt
place_lt SlotHighwater = lit< tt
place_lt LiveCount = lit< tt
place_lt UserVersion = lit< tt
place_lt Generation = lit< tt
place_lt BucketCount = lit< tt
place_lt BucketUsed = lit< tt
place_lt BucketTombstones = lit< tt
place_lt SlotsOffset = lit< tt
place_lt BucketsOffset = lit< tt
place_lt HeaderCrc32c = lit< tt
place_lt State = lit< tt
place_lt UserFlags = lit< tt
place_lt UserData = lit< tt
place_lt Reserved = lit< tt

-- every field lies in the header
pub inside : (name : ℕ) {f : Field} → name < 23 → f ≡ field_of name → f.offset + f.width ≤ 256
unfolding all_below
inside name {f} h e = leb-true (f.offset + f.width) 256 (tested 23 (λ f. leb (f.offset + f.width) 256) refl name h e)

-- every field but user_data and reserved has four or eight bytes
pub four_or_eight : (name : ℕ) {f : Field} → name < 21 → f ≡ field_of name → (f.width ≡ 4 → ⊥) → f.width ≡ 8
unfolding all_below
four_or_eight name {f} h e other =
    let t : eqb f.width 4 || eqb f.width 8 ≡ true = tested 21 (λ f. eqb f.width 4 || eqb f.width 8) refl name h e in
    eqb-true f.width 8 (rw (ne_eqb f.width 4 other) at t)

-- the number in a field, by its width
pub value_of : (image : List ℕ) (name n : ℕ) {f : Field} {r : ℕ} → f ≡ field_of name → f.width ≡ n → r ≡ word (part image f.offset n)
    → r ≡ value image name
unfolding value bytes_in
value_of image name n {f} e w p = rw (← w, e) at p

-- the bytes of a field, as a part from its offset to its end
pub bytes_of_lem : (image : List ℕ) (name : ℕ) {f : Field} → f ≡ field_of name
    → take (f.offset + f.width - f.offset) (drop f.offset image) ≡ bytes_in image name
unfolding bytes_in part
bytes_of_lem image name {f} e =
    let n : f.offset + f.width - f.offset ≡ f.width = omega arith in
    rw n (ap (λ (g : Field). take g.width (drop g.offset image)) e)
