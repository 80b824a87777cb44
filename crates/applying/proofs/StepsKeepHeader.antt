-- What the steps of a commit keep: the length and the header; so the shape still fits.
-- Assumes nothing.
use Prim.Native.Nat.{ℕ, zero, suc, ◌+◌, ◌*◌, ◌≤◌, ◌<◌}
use mathlib.Core.Path.{◌≡◌, refl}
use mathlib.Core.Bool.{Bool, true, false, cond, not, ◌&&◌}
use mathlib.Core.List.{List}
use native.Mathlib.Nat.{mod-lt}
use native.Mathlib.Omega.{arith}
use lib.Dec.{eqb, ltb}
use lib.ListN.{length, get_or}
use Rattle.probing.specs.Probe.{Probed, found, absent, broken, last_of}
use Rattle.probing.specs.Table.{tombstone_count}
use Rattle.header.specs.declared.shape.Shape.{Shape}
use Rattle.header.specs.Shaped.{Shaped}
use Rattle.header.specs.Sizes.{buckets_offset}
use Rattle.image.specs.Table.{table_of}
use Rattle.image.specs.Lookup.{probe_of}
use Rattle.image.proofs.Looked.{found_below}
use Rattle.slots.proofs.Table.Around.{Around, around_self, around_then, around_shaped}
use Rattle.slots.proofs.Table.Rewritten.{rewritten_around}
use Rattle.slots.proofs.Table.Removed.{removed_around}
use Rattle.slots.proofs.Table.Appended.{appended_around}
use Rattle.slots.proofs.Table.Rebuilt.{rebuilt_around}
use Rattle.batch.specs.Batch.{record_count, record_at, meta_in, key_in, record_key, decides}
use Rattle.header.specs.Counters.{with_counters, with_slots}
use Rattle.soundness.specs.Apply.{on_live, acted, acted_to, tidied}
use Rattle.applying.specs.Prepared.{one_appended, appended_to}
use Rattle.batch.proofs.Records.{record_length}

-- one of two images that keep it keeps it
around_either : {image a b : List ℕ} (t : Bool) → Around image a → Around image b → Around image (cond t a b)
around_either true p q = p
around_either false p q = q

-- an image that passed the header test holds a header
pub header_inside : (s : Shape) (image : List ℕ) → Shaped s image → 256 ≤ length image
unfolding buckets_offset
header_inside s image fit = omega (arith, fit.laid.offset, fit.laid.size)

-- the shape with other slots given out
module _ (s : Shape) (image : List ℕ) (fit : Shaped s image) (n : ℕ) (more : s.slot_highwater ≤ n) (room : n ≤ s.layout.slot_capacity) where
  pub slots_shaped : Shaped (with_slots s n) image
  unfolding with_slots with_counters
  slots_shaped = record { laid = fit.laid; counters = omega (arith, fit.counters); highwater = room }

module _ (s : Shape) (image : List ℕ) (fit : Shaped s image) where
  -- a record acts on a live key
  live_kept :
      (r : List ℕ) → length r ≡ s.layout.slot_size → (p : Probed) → probe_of s image (key_in s.layout r) ≡ p
      → Around image (on_live s image r p)
  unfolding table_of
  live_kept r l (found n count) e =
      let inside : n < s.layout.slot_capacity = omega (arith, found_below s image (key_in s.layout r) n count e, fit.highwater) in
      let b = last_of (table_of s image) (key_in s.layout r) count in
      around_either (eqb (meta_in r) 1) (rewritten_around s image fit n inside r l)
      (removed_around s image fit n b inside (mod-lt _ (omega (arith, fit.laid.room))))
  live_kept r l (absent count) e = around_self
  live_kept r l broken e = around_self

  -- record i acts, or does not, whichever keys are new
  pub acted_kept : (new : ℕ → Bool) (batch : List ℕ) (i : ℕ) → i < record_count s.layout batch → Around image (acted s new batch i image)
  unfolding acted record_key
  acted_kept new batch i l =
      around_either (decides s.layout batch i && not (new i))
      (live_kept (record_at s.layout batch i) (record_length s.layout batch i l) (probe_of s image (record_key s.layout batch i)) refl) (around_self)

  -- a record of the order is appended
  pub one_kept :
      (batch order : List ℕ) (k : ℕ) → s.slot_highwater + k < s.layout.slot_capacity
      → get_or order k 0 < record_count s.layout batch → Around image (one_appended s batch order k image)
  unfolding one_appended with_slots with_counters
  one_kept batch order k room l =
      appended_around (with_slots s (s.slot_highwater + k)) image
      (slots_shaped s image fit (s.slot_highwater + k) (omega arith) (omega arith)) room (record_at s.layout batch (get_or order k 0))
      (record_length s.layout batch (get_or order k 0) l)

  -- the index is rebuilt, or is not
  pub tidied_kept : Around image (tidied s image)
  unfolding tidied
  tidied_kept =
      around_either (ltb s.layout.bucket_count (4 * tombstone_count (table_of s image))) (rebuilt_around s image fit) (around_self)

module _ (s : Shape) (image : List ℕ) (fit : Shaped s image) (batch : List ℕ) where
  -- all records act
  pub live_all_kept : (new : ℕ → Bool) (i : ℕ) → i ≤ record_count s.layout batch → Around image (acted_to s new image batch i)
  unfolding acted_to
  live_all_kept new zero l = around_self
  live_all_kept new (suc i) l =
      let k = live_all_kept new i (omega arith) in
      around_then k (acted_kept s (acted_to s new image batch i) (around_shaped k fit) new batch i l)

  -- all new keys are appended
  module _ (order : List ℕ) (count : ℕ) (room : s.slot_highwater + count ≤ s.layout.slot_capacity) (there : (k : ℕ) → k < count → get_or order k 0 < record_count s.layout batch) where
    pub new_all_kept : (k : ℕ) → k ≤ count → Around image (appended_to s batch order image k)
    unfolding appended_to
    new_all_kept zero l = around_self
    new_all_kept (suc k) l =
        let a = new_all_kept k (omega arith) in
        around_then a (one_kept s (appended_to s batch order image k) (around_shaped a fit) batch order k (omega arith) (there k l))
