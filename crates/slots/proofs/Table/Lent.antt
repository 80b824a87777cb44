-- Lists that hold bytes, as those that code lends do, hold bytes after each write.
-- Assumes nothing.
use Prim.Native.Nat.{ℕ, zero, suc, ◌+◌, ◌*◌}
use mathlib.Core.Bool.{Bool, true, false, cond}
use mathlib.Core.List.{List, [], ◌∷◌, ◌++◌}
use lib.Dec.{eqb}
use lib.ListN.{replicate}
use Rattle.numbers.specs.Bytes.{Bytes, part, bytes_of, put}
use Rattle.digests.specs.Crc.{header_crc}
use Rattle.digests.specs.Fnv.{fnv1a64}
use Rattle.probing.specs.Change.{place}
use Rattle.header.specs.declared.shape.Shape.{Shape}
use Rattle.header.specs.Fields as F
use Rattle.header.specs.Fields.{field_of, value}
use Rattle.header.specs.Sizes.{align8}
use Rattle.image.specs.Table.{all_ones, slot_at, revision_at, bucket_at, meta_of, key_of, table_of}
use Rattle.writing.specs.Write.{with_field, with_fields, sealed}
use Rattle.writing.specs.State.{published}
use Rattle.slots.specs.Slots.{rewritten, removed, indexed, appended, rebuilt_to, rebuilt, counted}
use Rattle.numbers.proofs.Bytes.{append_bytes, take_bytes, drop_bytes, replicate_bytes, put_bytes, bytes_of_bytes}

pub rewritten_lent : (s : Shape) (image : List ℕ) (n : ℕ) (bytes : List ℕ) → Bytes image → Bytes bytes → Bytes (rewritten s.layout image n bytes)
unfolding rewritten part
rewritten_lent s image n bytes h b =
    put_bytes image (revision_at s.layout n) (part bytes (8 + align8 s.layout.key_size) (8 + s.layout.index_size)) h
    (take_bytes (8 + s.layout.index_size) _ (drop_bytes (8 + align8 s.layout.key_size) bytes b))

pub removed_lent : (s : Shape) (image : List ℕ) (n b : ℕ) → Bytes image → Bytes (removed s.layout image n b)
unfolding removed
removed_lent s image n b h =
    put_bytes (put image (slot_at s.layout n) (bytes_of 8 0)) (bucket_at s.layout b + 8) (bytes_of 8 all_ones)
    (put_bytes image (slot_at s.layout n) (bytes_of 8 0) h (bytes_of_bytes 8 0)) (bytes_of_bytes 8 all_ones)

pub indexed_lent : (s : Shape) (image : List ℕ) (n : ℕ) → Bytes image → Bytes (indexed s image n)
unfolding indexed
indexed_lent s image n h =
    let hash = fnv1a64 (key_of s.layout image n) in
    put_bytes image (bucket_at s.layout (place (table_of s image) (key_of s.layout image n))) (bytes_of 8 hash ++ bytes_of 8 (n + 1)) h
    (append_bytes (bytes_of 8 hash) (bytes_of 8 (n + 1)) (bytes_of_bytes 8 hash) (bytes_of_bytes 8 (n + 1)))

pub appended_lent : (s : Shape) (image bytes : List ℕ) → Bytes image → Bytes bytes → Bytes (appended s image bytes)
unfolding appended
appended_lent s image bytes h b =
    indexed_lent s (put image (slot_at s.layout s.slot_highwater) bytes) s.slot_highwater (put_bytes image (slot_at s.layout s.slot_highwater) bytes h b)

rebuilt_to_lent : (s : Shape) (image : List ℕ) (n : ℕ) → Bytes image → Bytes (rebuilt_to s image n)
unfolding rebuilt_to
rebuilt_to_lent s image zero h =
    put_bytes image s.layout.buckets_offset (replicate (16 * s.layout.bucket_count) 0) h (replicate_bytes (16 * s.layout.bucket_count))
rebuilt_to_lent s image (suc n) h = go (eqb (meta_of s.layout image n) 1) (rebuilt_to_lent s image n h)
  where
    go : (alive : Bool) → Bytes (rebuilt_to s image n) → Bytes (cond alive (indexed s (rebuilt_to s image n) n) (rebuilt_to s image n))
    go true b = indexed_lent s (rebuilt_to s image n) n b
    go false b = b

pub rebuilt_lent : (s : Shape) (image : List ℕ) → Bytes image → Bytes (rebuilt s image)
unfolding rebuilt
rebuilt_lent s image = rebuilt_to_lent s image s.slot_highwater

-- header fields
pub fields_lent : (fs : List (ℕ × ℕ)) (image : List ℕ) → Bytes image → Bytes (with_fields image fs)
unfolding with_fields with_field
fields_lent [] image h = h
fields_lent (f ∷ fs) image h =
    fields_lent fs (with_field image f.0 f.1)
    (put_bytes image (field_of f.0).offset (bytes_of (field_of f.0).width f.1) h (bytes_of_bytes (field_of f.0).width f.1))

pub published_lent : (image : List ℕ) (fs : List (ℕ × ℕ)) → Bytes image → Bytes (published image fs)
unfolding published sealed with_fields
published_lent image fs h =
    let changed = with_fields image ((F.generation, value image F.generation + 2) ∷ fs) in
    fields_lent ((F.header_crc32c, header_crc changed) ∷ []) changed (fields_lent ((F.generation, value image F.generation + 2) ∷ fs) image h)

pub counted_lent : (s : Shape) (image : List ℕ) → Bytes image → Bytes (counted s image)
unfolding counted
counted_lent s image = published_lent image _
