-- Where a key's slot is put: the first bucket on its probe that is not FULL.
-- Assumes nothing.
use Prim.Native.Nat.{ℕ, zero, suc, ◌+◌, ◌%◌, ◌≤◌, ◌<◌}
use mathlib.Core.Bool.{true, false}
use mathlib.Core.Path.{◌≡◌, refl, sym, ap, ap₂, ◌∙◌}
use mathlib.Core.List.{List}
use native.Mathlib.Nat.{mod-lt}
use lib.Arith.{lt_of_le-ne}
use native.Mathlib.Omega.{arith}
use Rattle.probing.specs.Table.{Bucket, EMPTY, TOMBSTONE, FULL, Table, is_full}
use Rattle.probing.specs.Probe.{home, next}
use Rattle.probing.specs.Change.{takes, place_from, place}
use Rattle.probing.proofs.Counting.{one_more}
use Rattle.probing.proofs.Keys.{not_both}
use Rattle.probing.proofs.Round.{suc_step, steps_to, no_step}

-- Bucket p is distance from bucket h, is not FULL, and each bucket on the way there is.
pub record FirstFree (t : Table) (h p : ℕ) : Type 0 where
  pub distance : ℕ
  pub within : distance < t.B
  pub there : p ≡ (h + distance) % t.B
  pub free : is_full (t.bucket p) ≡ false
  pub way : (i : ℕ) → i < distance → is_full (t.bucket ((h + i) % t.B)) ≡ true

module _ (t : Table) (h : ℕ) where
  -- the bucket that is i steps from h
  abbrev bucket_at : ℕ → Bucket
  bucket_at i = t.bucket ((h + i) % t.B)

  -- one bucket more is FULL
  way_on : (i : ℕ) → ((j : ℕ) → j < i → is_full (bucket_at j) ≡ true) → is_full (bucket_at i) ≡ true → (j : ℕ) → j < suc i → is_full (bucket_at j) ≡ true
  way_on i w f = one_more {P = λ j. is_full (bucket_at j) ≡ true} i w f

  -- The walk from i steps past h, with each bucket before FULL, ends at the first bucket that is not, where one is left.
  first_from : (left i e : ℕ) → i ≤ e → e < i + left → e < t.B → is_full (bucket_at e) ≡ false
      → ((j : ℕ) → j < i → is_full (bucket_at j) ≡ true) → FirstFree t h (place_from t left ((h + i) % t.B))
  unfolding place_from
  first_from zero i e le lt l f w = absurd (omega arith)
  first_from (suc left) i e le lt l f w =
      go (bucket_at i) refl (λ q. rw suc_step (first_from left (suc i) e (further q) (omega arith) l f (way_on i w q)))
    where
      further : is_full (bucket_at i) ≡ true → i < e
      further q = lt_of_le-ne le (λ same. not_both q (rw same f))

      here : is_full (bucket_at i) ≡ false → FirstFree t h ((h + i) % t.B)
      here f = record { distance = i; within = omega arith; there = refl; free = f; way = w }

      go : {onward : ℕ} (x : Bucket) → bucket_at i ≡ x → (is_full (bucket_at i) ≡ true → FirstFree t h onward)
          → FirstFree t h (takes ((h + i) % t.B) onward x)
      go EMPTY q on = here (ap is_full q)
      go TOMBSTONE q on = here (ap is_full q)
      go (FULL x s) q on = on (ap is_full q)

-- there is one such bucket
pub first_free_same : (t : Table) (h : ℕ) {p q : ℕ} → FirstFree t h p → FirstFree t h q → p ≡ q
first_free_same t h {p} {q} f g = f.there ∙ ap (λ (i : ℕ). (h + i) % t.B) (same f.distance g.distance (one_way f g) (one_way g f)) ∙ sym g.there
  where
    one_way : {p q : ℕ} (f : FirstFree t h p) (g : FirstFree t h q) → f.distance < g.distance → ⊥
    one_way f g less = not_both (g.way f.distance less) (sym (ap (λ (b : ℕ). is_full (t.bucket b)) f.there) ∙ f.free)

    same : (i j : ℕ) → (i < j → ⊥) → (j < i → ⊥) → i ≡ j
    same i j not-less not_more = omega (arith, not-less, not_more)

module _ (t : Table) (k : List ℕ) where
  -- where some bucket is not FULL, the place of a key is the first such bucket from its home on
  pub place_first : (b : ℕ) → b < t.B → is_full (t.bucket b) ≡ false → FirstFree t (home t k) (place t k)
  unfolding place
  place_first b l f =
      let away = steps_to (home t k) b t.B l in
      let free = ap (λ (x : ℕ). is_full (t.bucket x)) away.2 ∙ f in
      rw no_step at (first_from t (home t k) t.B 0 away.0 (omega arith) (omega (arith, away.1)) away.1 free (λ j l. absurd (omega arith)))

  -- it is a bucket of the table
  pub place_below : FirstFree t (home t k) (place t k) → place t k < t.B
  place_below r = rw r.there (mod-lt _ (omega (arith, r.within)))

module _ (t u : Table) (same_b : t.B ≡ u.B) (sameBuckets : t.bucket ≡ u.bucket) where
  -- the walk hangs on the number of buckets and the buckets alone
  place_from_same : (left b : ℕ) → place_from t left b ≡ place_from u left b
  unfolding place_from
  place_from_same zero b = refl
  place_from_same (suc left) b =
      ap₂ (takes b) (place_from_same left (next t b) ∙ ap (λ (n : ℕ). place_from u left ((b + 1) % n)) same_b) (ap (λ (f : ℕ → Bucket). f b) sameBuckets)

  -- the place of a key hangs on the number of buckets, the buckets and the hash alone
  pub place_same : t.hash ≡ u.hash → (k : List ℕ) → place t k ≡ place u k
  unfolding place
  place_same same_hash k = place_from_same t.B (home t k) ∙ cc

-- Where what is FULL in one table is FULL in the other, the place of a key in the one is its place in the other, unless it is FULL there.
module _ (t u : Table) (same_b : t.B ≡ u.B) (same_hash : t.hash ≡ u.hash) (k : List ℕ)
    (full : (b : ℕ) → b < t.B → is_full (t.bucket b) ≡ true → is_full (u.bucket b) ≡ true) where
  same_home : home t k ≡ home u k
  same_home = cc

  pub place_stays : (b : ℕ) → b < t.B → is_full (t.bucket b) ≡ false → is_full (u.bucket (place t k)) ≡ false → place u k ≡ place t k
  place_stays b l f free =
      let first = place_first t k b l f in
      let inside = place_below t k first in
      first_free_same u (home u k) (place_first u k (place t k) (omega arith) free)
      (record {
        distance = first.distance;
        within = omega (arith, first.within);
        there = first.there ∙ ap₂ (λ (h n : ℕ). (h + first.distance) % n) same_home same_b;
        free = free;
        way = λ i less. rw (← same_home, ← same_b) (full _ (mod-lt _ (omega arith)) (first.way i less));
      })
