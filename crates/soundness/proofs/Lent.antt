-- The image that a commit leaves holds bytes, as the image and the batch do.
-- Assumes nothing.
use Prim.Native.Nat.{ℕ, zero, suc, ◌+◌, ◌*◌}
use mathlib.Core.Bool.{Bool, true, false, cond, not, ◌&&◌}
use mathlib.Core.List.{List}
use lib.Dec.{eqb, ltb}
use lib.ListN.{drop}
use Rattle.numbers.specs.Bytes.{Bytes, part}
use Rattle.probing.specs.Table.{tombstone_count}
use Rattle.probing.specs.Probe.{Probed, found, absent, broken}
use Rattle.header.specs.declared.shape.Shape.{Shape}
use Rattle.image.specs.Table.{table_of}
use Rattle.image.specs.Lookup.{probe_of, is_live}
use Rattle.slots.specs.Slots.{rebuilt}
use Rattle.numbers.proofs.Bytes.{take_bytes, drop_bytes}
use Rattle.slots.proofs.Table.Lent.{rewritten_lent, removed_lent, appended_lent, rebuilt_lent, counted_lent}
use Rattle.batch.specs.Batch.{record_count, record_at, meta_in, record_key, decides}
use Rattle.batch.specs.NewKeys.{is_new, new_count, new_at}
use Rattle.header.specs.Counters.{with_slots}
use Rattle.soundness.specs.Apply.{on_live, acted, acted_to, after_live, after_new, tidied, recounted, settled, committed}

-- one of two lists
either_lent : (b : Bool) (x y : List ℕ) → Bytes x → Bytes y → Bytes (cond b x y)
either_lent true x y hx hy = hx
either_lent false x y hx hy = hy

module _ (s : Shape) (batch : List ℕ) (hb : Bytes batch) where
  record_lent : (i : ℕ) → Bytes (record_at s.layout batch i)
  unfolding record_at part
  record_lent i = take_bytes s.layout.slot_size (drop (i * s.layout.slot_size) batch) (drop_bytes (i * s.layout.slot_size) batch hb)

  on_live_lent : (image : List ℕ) (i : ℕ) → Bytes image → (p : Probed) → Bytes (on_live s image (record_at s.layout batch i) p)
  on_live_lent image i h (found n count) =
      either_lent (eqb (meta_in (record_at s.layout batch i)) 1) _ _ (rewritten_lent s image n (record_at s.layout batch i) h (record_lent i)) (removed_lent s image n _ h)
  on_live_lent image i h (absent count) = h
  on_live_lent image i h broken = h

  module _ (image : List ℕ) (h : Bytes image) where
    pub live_lent : (i : ℕ) → Bytes (after_live s image batch i)
    unfolding after_live acted_to acted
    live_lent zero = h
    live_lent (suc i) =
        let before = after_live s image batch i in
        either_lent (decides s.layout batch i && not (is_new s.layout (is_live s image) batch i)) _ before (on_live_lent before i (live_lent i) (probe_of s before (record_key s.layout batch i))) (live_lent i)

    pub new_lent : (r : ℕ) → Bytes (after_new s image batch r)
    unfolding after_new
    new_lent zero = live_lent (record_count s.layout batch)
    new_lent (suc r) = appended_lent _ (after_new s image batch r) _ (new_lent r) (record_lent (new_at s.layout (is_live s image) batch r))

pub tidied_lent : (s : Shape) (image : List ℕ) → Bytes image → Bytes (tidied s image)
unfolding tidied
tidied_lent s image h = either_lent (ltb s.layout.bucket_count (4 * tombstone_count (table_of s image))) (rebuilt s image) image (rebuilt_lent s image h) h

pub committed_lent : (s : Shape) (image batch : List ℕ) → Bytes image → Bytes batch → Bytes (committed s image batch)
unfolding committed settled
committed_lent s image batch h hb =
    let n = new_count s.layout (is_live s image) batch in
    let given = with_slots s (s.slot_highwater + n) in
    let image' = after_new s image batch n in
    counted_lent (recounted given (tidied given image')) (tidied given image') (tidied_lent given image' (new_lent s batch hb image h n))
