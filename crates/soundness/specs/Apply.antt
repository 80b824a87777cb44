-- What a commit whose tests all pass does to the image, sentence by sentence.
-- Assumes nothing.
use Rattle.std.specs.Prelude.{ℕ, zero, suc, ◌+◌, ◌*◌, Bool, cond, not, ◌&&◌, List, eqb, ltb}
use Rattle.probing.specs.Probe.{Probed, found, absent, broken, last_of}
use Rattle.probing.specs.Table.{live_count, tombstone_count}
use Rattle.header.specs.declared.shape.Layout.{Layout}
use Rattle.header.specs.declared.shape.Shape.{Shape}
use Rattle.header.specs.Counters.{with_counters, with_slots}
use Rattle.image.specs.Table.{table_of}
use Rattle.image.specs.Lookup.{probe_of, is_live}
use Rattle.slots.specs.Slots.{rewritten, removed, appended, rebuilt, counted}
use Rattle.batch.specs.Batch.{record_count, record_at, meta_in, key_in, record_key, decides}
use Rattle.batch.specs.NewKeys.{is_new, new_count, new_at}

-- "Put on a live key rewrites revision and index in its slot. Delete on a live key clears meta alone and makes its bucket a
-- TOMBSTONE": record r does so with slot n and bucket b
abbrev pub on_slot : Layout → List ℕ → List ℕ → ℕ → ℕ → List ℕ
on_slot l image r n b = cond (eqb (meta_in r) 1) (rewritten l image n r) (removed l image n b)

-- The bucket is the last one that the probe examined. "delete on an absent key does nothing"
abbrev pub on_live : Shape → List ℕ → List ℕ → Probed → List ℕ
on_live s image r (found n count) = on_slot s.layout image r n (last_of (table_of s image) (key_in s.layout r) count)
on_live s image r (absent count) = image
on_live s image r broken = image

-- "Only the last record for a key counts", and a new key's turn comes later: record i acts if it decides and is not new
unfoldable pub acted : Shape → (ℕ → Bool) → List ℕ → ℕ → List ℕ → List ℕ
acted s new batch i image =
    cond (decides s.layout batch i && not (new i))
    (on_live s image (record_at s.layout batch i) (probe_of s image (record_key s.layout batch i))) image

-- the image after the records below i have acted
unfoldable pub acted_to : Shape → (ℕ → Bool) → List ℕ → List ℕ → ℕ → List ℕ
acted_to s new image batch zero = image
acted_to s new image batch (suc i) = acted s new batch i (acted_to s new image batch i)

unfoldable pub after_live : Shape → List ℕ → List ℕ → ℕ → List ℕ
after_live s image batch = acted_to s (is_new s.layout (is_live s image) batch) image batch

-- "Then new keys get the next slot numbers, in order ...; the record's bytes become the whole slot.": r of them have
unfoldable pub after_new : Shape → List ℕ → List ℕ → ℕ → List ℕ
after_new s image batch zero = after_live s image batch (record_count s.layout batch)
after_new s image batch (suc r) =
    appended (with_slots s (s.slot_highwater + r)) (after_new s image batch r)
    (record_at s.layout batch (new_at s.layout (is_live s image) batch r))

-- "Last, if 4 x tombstones > B, the index is rebuilt"
unfoldable pub tidied : Shape → List ℕ → List ℕ
tidied s image = cond (ltb s.layout.bucket_count (4 * tombstone_count (table_of s image))) (rebuilt s image) image

-- a shape whose counters are those of the table
unfoldable pub recounted : Shape → List ℕ → Shape
recounted s image =
    with_counters s s.slot_highwater (live_count (table_of s image)) (tombstone_count (table_of s image))

-- counters, generation and CRC last
unfoldable pub settled : Shape → List ℕ → List ℕ
settled s image = counted (recounted s (tidied s image)) (tidied s image)

unfoldable pub committed : Shape → List ℕ → List ℕ → List ℕ
committed s image batch =
    settled (with_slots s (s.slot_highwater + new_count s.layout (is_live s image) batch))
    (after_new s image batch (new_count s.layout (is_live s image) batch))
