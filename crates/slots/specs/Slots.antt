-- The writes that a commit is made of, on bytes. A shape says where slots and buckets lie, and carries the counters.
-- Assumes nothing.
use Rattle.std.specs.Prelude.{ℕ, zero, suc, ◌+◌, ◌*◌, Option, IfSome, cond, List, [], ◌∷◌, ◌++◌, eqb, replicate}
use Rattle.numbers.specs.Bytes.{part, bytes_of, put}
use Rattle.digests.specs.Fnv.{fnv1a64}
use Rattle.probing.specs.Table.{Table}
use Rattle.probing.specs.Report.{Hint}
use Rattle.probing.specs.Change.{place}
use Rattle.header.specs.declared.shape.Layout.{Layout}
use Rattle.header.specs.declared.shape.Shape.{Shape}
use Rattle.header.specs.Fields as F
use Rattle.header.specs.Sizes.{align8}
use Rattle.image.specs.Table.{all_ones, slot_at, revision_at, bucket_at, meta_of, key_of, table_of}
use Rattle.writing.specs.State.{published}

-- "Put on a live key rewrites revision and index in its slot." They stand one behind the other.
unfoldable pub rewritten : Layout → List ℕ → ℕ → List ℕ → List ℕ
rewritten l image n bytes = put image (revision_at l n) (part bytes (8 + align8 l.key_size) (8 + l.index_size))

-- "Delete on a live key clears meta alone and makes its bucket a TOMBSTONE, hash64 unchanged"
unfoldable pub removed : Layout → List ℕ → ℕ → ℕ → List ℕ
removed l image n b = put (put image (slot_at l n) (bytes_of 8 0)) (bucket_at l b + 8) (bytes_of 8 all_ones)

-- slot n put into the index by its key: "Each takes the first TOMBSTONE on its probe, else the EMPTY that ends it."
unfoldable pub indexed : Shape → List ℕ → ℕ → List ℕ
indexed s image n =
    put image (bucket_at s.layout (place (table_of s image) (key_of s.layout image n)))
    (bytes_of 8 (fnv1a64 (key_of s.layout image n)) ++ bytes_of 8 (n + 1))

-- the bucket noted before for a key, if any, is a hint
abbrev pub Hinted : Table → List ℕ → Option ℕ → Type 0
Hinted t key hint = IfSome hint (Hint t key)

-- "new keys get the next slot numbers, ...; the record's bytes become the whole slot"
unfoldable pub appended : Shape → List ℕ → List ℕ → List ℕ
appended s image bytes = indexed s (put image (slot_at s.layout s.slot_highwater) bytes) s.slot_highwater

-- "the index is rebuilt: all zero, then live slots in slot order": with the live slots below n in the index
unfoldable pub rebuilt_to : Shape → List ℕ → ℕ → List ℕ
rebuilt_to s image zero = put image s.layout.buckets_offset (replicate (16 * s.layout.bucket_count) 0)
rebuilt_to s image (suc n) = cond (eqb (meta_of s.layout image n) 1) (indexed s (rebuilt_to s image n) n) (rebuilt_to s image n)

unfoldable pub rebuilt : Shape → List ℕ → List ℕ
rebuilt s image = rebuilt_to s image s.slot_highwater

-- the counters of a shape published, with the generation and the CRC
unfoldable pub counted : Shape → List ℕ → List ℕ
counted s image =
    published image
    ((F.slot_highwater, s.slot_highwater)
    ∷ (F.live_count_field, s.live_count)
    ∷ (F.bucket_used, s.live_count)
    ∷ (F.bucket_tombstones, s.bucket_tombstones)
    ∷ [])
