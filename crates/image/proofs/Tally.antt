-- How the full check's tallies go on by a bucket and by a slot, case by case.
-- Assumes nothing.
use Prim.Native.Nat.{ℕ, zero, suc, ◌+◌, ◌*◌, ◌≤◌, ◌<◌}
use mathlib.Core.Path.{◌≡◌, refl}
use mathlib.Core.Bool.{Bool, true, false, cond, ◌&&◌, and-true, and-false}
use mathlib.Core.List.{List}
use native.Mathlib.Nat.{add-zero}
use native.Mathlib.Numerals.{add-one}
use native.Mathlib.Omega.{arith}
use borrow.Author.Tests.{lt-ltb, le-ltb, ne_eqb}
use lib.Dec.{eqb}
use Rattle.digests.specs.Fnv.{fnv1a64}
use Rattle.probing.specs.Counting.{sum_to, count_to, all_to}
use Rattle.probing.specs.Table.{EMPTY, TOMBSTONE, FULL, Table, live}
use Rattle.probing.specs.Probe.{Probed, found, absent, broken, probe, count_of}
use Rattle.probing.specs.Check.{bucket_right}
use Rattle.probing.proofs.Counting.{count_le}
use Rattle.probing.proofs.Reading.Ends.{found_run, absent_run}
use Rattle.header.specs.declared.shape.Shape.{Shape}
use Rattle.image.specs.declared.check.BucketTally.{BucketTally}
use Rattle.image.specs.declared.check.SlotTally.{SlotTally}
use Rattle.image.specs.declared.probe.Probe.TheVariants.{Found, Absent, Broken}
use Rattle.image.specs.Table.{meta_of, key_of, table_of}
use Rattle.image.specs.Told.{told}
use Rattle.image.specs.Tally.{buckets_to, slots_to}
use Rattle.image.proofs.Looked.{told_end}

module _ (s : Shape) (image : List ℕ) (h n : ℕ) where
  -- a FULL bucket that points at or past highwater is wrong
  pub past_wrong : s.slot_highwater ≤ n → false ≡ bucket_right (table_of s image) (FULL h n)
  unfolding table_of
  past_wrong l = rw (le-ltb n s.slot_highwater l)

  -- below highwater the slot's meta and its key's hash decide
  pub meta_decides : n < s.slot_highwater → eqb (meta_of s.layout image n) 1 && eqb h (fnv1a64 (key_of s.layout image n)) ≡ bucket_right (table_of s image) (FULL h n)
  unfolding table_of
  meta_decides l = rw (lt-ltb n s.slot_highwater l)

-- the tally of the buckets below n + 1, by what bucket n is
module _ (t : Table) (n : ℕ) (y : BucketTally) (e : y ≡ buckets_to t n) where
  pub more_empty : t.bucket n ≡ EMPTY → y ≡ buckets_to t (n + 1)
  unfolding buckets_to all_to count_to sum_to
  more_empty q = simp (e, add-one, q, and-true, add-zero)

  pub more_tombstone : t.bucket n ≡ TOMBSTONE → record { right = y.right; full = y.full; tombstones = y.tombstones + 1 } ≡ buckets_to t (n + 1)
  unfolding buckets_to all_to count_to sum_to
  more_tombstone q = simp (e, add-one, q, and-true, add-zero)

  pub more_full :
      (h s : ℕ) → t.bucket n ≡ FULL h s
      → record { right = y.right && bucket_right t (FULL h s); full = y.full + 1; tombstones = y.tombstones } ≡ buckets_to t (n + 1)
  unfolding buckets_to all_to count_to sum_to
  more_full h s q = simp (e, add-one, q, add-zero)

  -- no more buckets are counted than were passed
  pub full_small : y.full ≤ n
  unfolding buckets_to
  full_small = rw e (count_le n _)

  pub tombstones_small : y.tombstones ≤ n
  unfolding buckets_to
  tombstones_small = rw e (count_le n _)

-- a probe examines at most all the buckets
count_small : (t : Table) (k : List ℕ) → count_of (probe t k) ≤ t.B
count_small t k = go (probe t k) refl
  where
    go : (p : Probed) → probe t k ≡ p → count_of p ≤ t.B
    go (found s n) e = (found_run t k s n e).bounded
    go (absent n) e = (absent_run t k n e).bounded
    go broken e = omega arith

pub found_small : (t : Table) (k : List ℕ) (s n : ℕ) → Found s n ≡ told (probe t k) → n ≤ t.B
found_small t k s n e = rw (told_end (Found s n) (probe t k) e) at (count_small t k)

pub absent_small : (t : Table) (k : List ℕ) (n : ℕ) → Absent n ≡ told (probe t k) → n ≤ t.B
absent_small t k n e = rw (told_end (Absent n) (probe t k) e) at (count_small t k)

-- the sum of so many lookup counts
sum_small : (t : Table) → t.B ≤ 4294967296 → (n : ℕ) → (slots_to t n).probes ≤ 4294967296 * n
unfolding slots_to sum_to
sum_small t small zero = omega arith
sum_small t small (suc n) = go (live t n) (sum_small t small n)
  where
    go : (alive : Bool) → (slots_to t n).probes ≤ 4294967296 * n → (slots_to t n).probes + cond alive (count_of (probe t (t.key n))) 0 ≤ 4294967296 * suc n
    go true h = omega (arith, count_small t (t.key n))
    go false h = omega arith

-- the tally of the slots below n + 1, by slot n's meta and what the probe of its key ends in
module _ (t : Table) (n : ℕ) (y : SlotTally) (e : y ≡ slots_to t n) where
  pub more_deleted : t.meta n ≡ 0 → y ≡ slots_to t (n + 1)
  unfolding slots_to all_to count_to sum_to
  more_deleted q = simp (e, add-one, q, and-true, add-zero)

  pub more_unknown :
      (t.meta n ≡ 0 → ⊥) → (t.meta n ≡ 1 → ⊥)
      → record { metas = false; found = y.found; live = y.live; probes = y.probes } ≡ slots_to t (n + 1)
  unfolding slots_to all_to count_to sum_to
  more_unknown q q' = simp (e, add-one, ne_eqb (t.meta n) 0 q, ne_eqb (t.meta n) 1 q', and-true, and-false, add-zero)

  module _ (alive : t.meta n ≡ 1) where
    pub more_found :
        (s count : ℕ) → Found s count ≡ told (probe t (t.key n))
        → record { metas = y.metas; found = y.found && eqb s n; live = y.live + 1; probes = y.probes + count } ≡ slots_to t (n + 1)
    unfolding slots_to all_to count_to sum_to
    more_found s count q = simp (e, add-one, alive, told_end (Found s count) (probe t (t.key n)) q, and-true)

    pub more_absent :
        (count : ℕ) → Absent count ≡ told (probe t (t.key n))
        → record { metas = y.metas; found = false; live = y.live + 1; probes = y.probes + count } ≡ slots_to t (n + 1)
    unfolding slots_to all_to count_to sum_to
    more_absent count q = simp (e, add-one, alive, told_end (Absent count) (probe t (t.key n)) q, and-true, and-false)

    pub more_broken :
        Broken ≡ told (probe t (t.key n))
        → record { metas = y.metas; found = false; live = y.live + 1; probes = y.probes } ≡ slots_to t (n + 1)
    unfolding slots_to all_to count_to sum_to
    more_broken q = simp (e, add-one, alive, told_end Broken (probe t (t.key n)) q, and-true, and-false, add-zero)

  -- no more slots are counted than were passed, and each lookup count is at most the number of buckets
  pub live_small : y.live ≤ n
  unfolding slots_to
  live_small = rw e (count_le n _)

  pub probes_small : t.B ≤ 4294967296 → y.probes ≤ 4294967296 * n
  probes_small small = rw e (sum_small t small n)
