-- What a record does to the image, by what it depends on.
-- Assumes nothing.
use Prim.Native.Nat.{ℕ, ◌*◌, ◌≤◌, ◌<◌}
use mathlib.Core.Path.{◌≡◌, refl, ap, ◌∙◌}
use mathlib.Core.Bool.{Bool, true, false, not, ◌&&◌}
use mathlib.Core.List.{List}
use native.Mathlib.Nat.{mod-lt}
use native.Mathlib.Omega.{arith}
use borrow.Author.Tests.{lt-ltb, le-ltb}
use Rattle.probing.specs.Probe.{Probed, found, last_of, count_of}
use Rattle.probing.specs.Report.{report}
use Rattle.probing.specs.Table.{live_count, tombstone_count}
use Rattle.probing.proofs.Counting.{count_le}
use Rattle.probing.proofs.Report.{left_inside}
use Rattle.header.specs.declared.shape.Shape.{Shape}
use Rattle.header.specs.Shaped.{Shaped}
use Rattle.image.specs.Table.{table_of}
use Rattle.image.specs.Lookup.{probe_of}
use Rattle.image.specs.Told.{free_of, report_of}
use Rattle.image.specs.declared.probe.Report.{Report}
use Rattle.image.specs.declared.probe.Probe.TheVariants.{Found}
use Rattle.image.proofs.Looked.{reported_end, found_below}
use Rattle.slots.specs.Slots.{rebuilt, counted}
use Rattle.slots.proofs.Table.Indexed.{told_free}
use Rattle.batch.specs.Batch.{record_at, key_in, record_key, decides}
use Rattle.header.specs.Counters.{with_counters}
use Rattle.soundness.specs.Apply.{on_live, acted, tidied, recounted, settled}

module _ (s : Shape) (image : List ℕ) where
  -- what is known of the slot and the bucket where the probe of a key stopped
  pub stopped_at :
      Shaped s image → (key : List ℕ) (r : Report) → r ≡ report_of s image key → (n examined : ℕ) → r.end ≡ Found n examined
      → (probe_of s image key ≡ found n examined) × (n < s.layout.slot_capacity) × (r.bucket < s.layout.bucket_count)
      × (r.bucket ≡ last_of (table_of s image) key examined)
  unfolding report_of report probe_of table_of
  stopped_at fit key r e n examined is =
      let ended = reported_end s image key r e (Found n examined) is in
      let at : r.bucket ≡ last_of (table_of s image) key examined = ap (λ (x : Report). x.bucket) e ∙ ap (λ (p : Probed). last_of (table_of s image) key (count_of p)) ended in
      (ended, omega (arith, found_below s image key n examined ended, fit.highwater), rw at (mod-lt _ (omega (arith, fit.laid.room))), at)

  -- the bucket that a report leaves for a new key is one
  pub left_below : Shaped s image → (key : List ℕ) (r : Report) → r ≡ report_of s image key → free_of r < s.layout.bucket_count
  unfolding report_of table_of
  left_below fit key r e =
      let told = report (table_of s image) key in
      rw (e, told_free s.layout.bucket_count told.tombstone told.bucket) (left_inside (table_of s image) (omega (arith, fit.laid.room)) key)

  module _ (new : ℕ → Bool) (batch : List ℕ) (i : ℕ) where
    -- a record acts where it decides and its turn is not a later one, and does nothing elsewhere
    pub acts :
        decides s.layout batch i && not (new i) ≡ true → (r : List ℕ) → r ≡ record_at s.layout batch i
        → on_live s image r (probe_of s image (key_in s.layout r)) ≡ acted s new batch i image
    unfolding acted record_key
    acts e r q = rw (e, q)

    pub acts_not : decides s.layout batch i && not (new i) ≡ false → image ≡ acted s new batch i image
    unfolding acted
    acts_not e = rw e

  -- more than a quarter of the buckets are TOMBSTONE, or not
  pub tidied_rebuilt : s.layout.bucket_count < 4 * tombstone_count (table_of s image) → rebuilt s image ≡ tidied s image
  unfolding tidied
  tidied_rebuilt l = rw (lt-ltb s.layout.bucket_count (4 * tombstone_count (table_of s image)) l)

  pub tidied_left : 4 * tombstone_count (table_of s image) ≤ s.layout.bucket_count → image ≡ tidied s image
  unfolding tidied
  tidied_left l = rw (le-ltb s.layout.bucket_count (4 * tombstone_count (table_of s image)) l)

  pub tombstones_bound : tombstone_count (table_of s image) ≤ s.layout.bucket_count
  unfolding tombstone_count table_of
  tombstones_bound = count_le s.layout.bucket_count _

  -- the counters are published of the table as it is left
  pub settled_by :
      (left : List ℕ) → left ≡ tidied s image → (live tombstones : ℕ) → live ≡ live_count (table_of s left)
      → tombstones ≡ tombstone_count (table_of s left) → (t : Shape) → t ≡ with_counters s s.slot_highwater live tombstones
      → counted t left ≡ settled s image
  unfolding settled recounted
  settled_by left e live tombstones l d t q = ap (λ (u : Shape). counted u left) (q ∙ rw (l, d) refl) ∙ ap (λ (i : List ℕ). counted (recounted s i) i) e
