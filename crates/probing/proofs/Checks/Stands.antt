-- Live slots and the FULL buckets that they stand in, counted.
-- Assumes nothing.
use Prim.Native.Nat.{ℕ, ◌+◌, ◌≤◌, ◌<◌}
use mathlib.Core.Path.{◌≡◌, refl, sym, ap, ◌∙◌}
use mathlib.Core.Bool.{true, false, not, false≢true}
use mathlib.Core.Logic.{◌⊎◌, inl, inr}
use native.Mathlib.Nat.{mod-lt, le_antisymm}
use native.Mathlib.Omega.{arith}
use borrow.Author.Tests.{eqb-true, eq-eqb}
use Rattle.probing.specs.Counting.{count_to}
use Rattle.probing.specs.Table.{Bucket, EMPTY, TOMBSTONE, FULL, Table, live, is_empty, is_full, live_count, full_count, tombstone_count}
use Rattle.probing.specs.Sound.{Reached, Sound}
use Rattle.probing.proofs.Counting.{chosen, some_or_none, count_same, count_into, count_onto, Maps, Injective}
use Rattle.probing.proofs.Reading.Walk.{nth}
use Rattle.probing.proofs.Reading.Bound.{taken_count, taken_count_lem, count_all}

-- slot s stands in bucket b
abbrev pub StandsIn : Table → ℕ → ℕ → Type 0
StandsIn t s b = (b < t.B) × (t.bucket b ≡ FULL (t.hash (t.key s)) s)

-- a slot stands in the bucket that it is reached in
pub reached_stands : (t : Table) (s : ℕ) → Reached t s → (b : ℕ) × StandsIn t s b
reached_stands t s r = (nth t (t.key s) r.distance, (mod-lt _ (omega (arith, r.within)), r.stands))

-- the slot that a bucket holds, if it is FULL
abbrev slot_of : Bucket → ℕ
slot_of EMPTY = 0
slot_of TOMBSTONE = 0
slot_of (FULL h s) = s

full_holds : (x : Bucket) → is_full x ≡ true → (h : ℕ) × (x ≡ FULL h (slot_of x))
full_holds EMPTY e = absurd (false≢true e)
full_holds TOMBSTONE e = absurd (false≢true e)
full_holds (FULL h s) e = (h, refl)

module _ (t : Table) (stands : (s : ℕ) → s < t.highwater → t.meta s ≡ 1 → (b : ℕ) × StandsIn t s b) where
  -- a function from each live slot to its bucket
  place : (f : ℕ → ℕ) × ((s : ℕ) → s < t.highwater → live t s ≡ true → StandsIn t s (f s))
  place = chosen t.highwater (live t) (λ s l a. stands s l (eqb-true _ _ a))

  -- each place is a FULL bucket
  maps : Maps t.highwater t.B (live t) (λ b. is_full (t.bucket b)) place.0
  maps s l a = let p = place.1 s l a in (p.0, ap is_full p.1)

  -- and no other slot's place
  injective : Injective t.highwater (live t) place.0
  injective s s' l l' a a' e =
      let p = (place.1 s l a).1 in
      let p' = (place.1 s' l' a').1 in
      cc (ap t.bucket e)

  -- there are at least as many FULL buckets as live slots
  pub live_le_full : live_count t ≤ full_count t
  unfolding live_count full_count
  live_le_full = count_into t.highwater t.B (live t) (λ b. is_full (t.bucket b)) place.0 maps injective

  -- where there are no more, a bucket that holds a slot is the slot's place
  held_in_place : full_count t ≤ live_count t → (b h s : ℕ) → b < t.B → t.bucket b ≡ FULL h s → b ≡ place.0 s
  unfolding live_count full_count
  held_in_place le b h s l e =
      let onto = count_onto t.highwater t.B (live t) (λ b. is_full (t.bucket b)) place.0 maps injective le b l (ap is_full e) in
      let there = (place.1 onto.0 onto.1 onto.2).1 in
      let same : onto.0 ≡ s = cc (ap t.bucket onto.3) in
      sym onto.3 ∙ ap place.0 same

  -- so no two buckets hold one slot
  pub one_bucket :
      full_count t ≤ live_count t → (b b' h h' s : ℕ) → b < t.B → b' < t.B
      → t.bucket b ≡ FULL h s → t.bucket b' ≡ FULL h' s → b ≡ b'
  one_bucket le b b' h h' s l l' e e' = held_in_place le b h s l e ∙ sym (held_in_place le b' h' s l' e')

-- where FULL and TOMBSTONE buckets are fewer than all, one is EMPTY
pub has_empty : (t : Table) → full_count t + tombstone_count t < t.B → (b : ℕ) × (b < t.B) × (t.bucket b ≡ EMPTY)
unfolding taken_count
has_empty t few = go (some_or_none t.B (λ b. is_empty (t.bucket b)))
  where
    is_empty_lem : (x : Bucket) → is_empty x ≡ true → x ≡ EMPTY
    is_empty_lem EMPTY e = refl
    is_empty_lem TOMBSTONE e = absurd (false≢true e)
    is_empty_lem (FULL h s) e = absurd (false≢true e)

    go : ((b : ℕ) × (b < t.B) × (is_empty (t.bucket b) ≡ true)) ⊎ ((b : ℕ) → b < t.B → is_empty (t.bucket b) ≡ false)
        → (b : ℕ) × (b < t.B) × (t.bucket b ≡ EMPTY)
    go (inl w) = (w.0, w.1, is_empty_lem (t.bucket w.0) w.2)
    go (inr none) =
        let all : taken_count t ≡ count_to t.B (λ b. true) = count_same t.B (λ b l. ap not (none b l)) in
        absurd (omega (arith, taken_count_lem t, count_all t.B))

module _ (t : Table) (sound : Sound t) where
  -- each FULL bucket's slot is live
  slot_maps : Maps t.B t.highwater (λ b. is_full (t.bucket b)) (live t) (λ b. slot_of (t.bucket b))
  slot_maps b l e =
      let w = full_holds (t.bucket b) e in
      let f = sound.full b w.0 (slot_of (t.bucket b)) l w.1 in
      (f.0, eq-eqb _ _ f.1)

  -- and no other bucket's
  slot_injective : Injective t.B (λ b. is_full (t.bucket b)) (λ b. slot_of (t.bucket b))
  slot_injective b b' l l' e e' q =
      let w = full_holds (t.bucket b) e in
      let w' = full_holds (t.bucket b') e' in
      sound.single b b' w.0 w'.0 (slot_of (t.bucket b)) l l' w.1 (w'.1 ∙ ap (FULL w'.0) (sym q))

  -- a sound table has as many FULL buckets as live slots
  pub full_is_live : full_count t ≡ live_count t
  unfolding live_count full_count
  full_is_live =
      le_antisymm
      (count_into t.B t.highwater (λ b. is_full (t.bucket b)) (live t) (λ b. slot_of (t.bucket b)) slot_maps slot_injective)
      (live_le_full t (λ s l a. reached_stands t s (sound.reached s l a)))
