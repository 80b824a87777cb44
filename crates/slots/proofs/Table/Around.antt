-- What a write of slots and buckets leaves alone.
-- Assumes nothing.
use Prim.Native.Nat.{ℕ, ◌+◌, ◌≤◌}
use mathlib.Core.Path.{◌≡◌, refl, ap, ap₂, ◌∙◌}
use mathlib.Core.List.{List}
use native.Mathlib.Omega.{arith}
use lib.ListN.{length}
use Rattle.numbers.specs.Bytes.{part, word, put}
use Rattle.numbers.specs.Signed.{signed}
use Rattle.numbers.proofs.Put.{length_put}
use Rattle.numbers.proofs.PutPart.{part_put_before, part_put_after}
use Rattle.header.specs.declared.shape.Layout.{Layout}
use Rattle.header.specs.declared.shape.Shape.{Shape}
use Rattle.header.specs.Fields as F
use Rattle.header.specs.Fields.{field_of, bytes_in, value}
use Rattle.header.specs.HeaderTest.{layout_of, shape_of}
use Rattle.header.specs.Shaped.{LaidOut, Shaped}
use Rattle.image.specs.Table.{slot_at, key_at, revision_at, index_at, bucket_at, meta_of, key_of, revision_of, index_of, bucket_from, bucket_of}
use Rattle.writing.proofs.OneField.{in_header}
use Rattle.image.proofs.Places.{key_in_slot, index_in_slot}

-- Every part from one offset to another is as it was.
pub record SameFrom (image image' : List ℕ) (low high : ℕ) : Type 0 where
  pub parts : (a n : ℕ) → low ≤ a → a + n ≤ high → part image' a n ≡ part image a n

-- a put changes nothing that ends before it or begins behind it
module _ (image : List ℕ) (at : ℕ) (bs : List ℕ) (fits : at + length bs ≤ length image) where
  pub put_before : (low high : ℕ) → high ≤ at → SameFrom image (put image at bs) low high
  put_before low high l = record { parts = λ a n from to. part_put_before image at bs fits a n (omega arith) }

  pub put_behind : (low high : ℕ) → at + length bs ≤ low → SameFrom image (put image at bs) low high
  put_behind low high l = record { parts = λ a n from to. part_put_after image at bs fits a n (omega arith) }

-- Slot n reads as it did.
pub record SameSlot (layout : Layout) (image image' : List ℕ) (n : ℕ) : Type 0 where
  pub meta : meta_of layout image' n ≡ meta_of layout image n
  pub key : key_of layout image' n ≡ key_of layout image n
  pub revision : revision_of layout image' n ≡ revision_of layout image n
  pub index : index_of layout image' n ≡ index_of layout image n

pub same_slot_self : {layout : Layout} {image : List ℕ} {n : ℕ} → SameSlot layout image image n
same_slot_self = record { meta = refl; key = refl; revision = refl; index = refl }

pub same_slot_then : {layout : Layout} {image image' image'' : List ℕ} {n : ℕ} → SameSlot layout image image' n → SameSlot layout image' image'' n
    → SameSlot layout image image'' n
same_slot_then p q =
    record { meta = q.meta ∙ p.meta; key = q.key ∙ p.key; revision = q.revision ∙ p.revision; index = q.index ∙ p.index }

-- All of slot n but its meta reads as it did.
pub record SameBody (layout : Layout) (image image' : List ℕ) (n : ℕ) : Type 0 where
  pub key : key_of layout image' n ≡ key_of layout image n
  pub revision : revision_of layout image' n ≡ revision_of layout image n
  pub index : index_of layout image' n ≡ index_of layout image n

module _ (layout : Layout) (image image' : List ℕ) where
  pub same_body : LaidOut layout image → (n : ℕ) → SameFrom image image' (slot_at layout n + 8) (slot_at layout n + layout.slot_size) → SameBody layout image image' n
  unfolding key_of revision_of index_of key_at revision_at index_at
  same_body fit n h =
      let key = key_in_slot layout n in
      let index = index_in_slot layout image fit n in
      record {
        key = h.parts (key_at layout n) layout.key_size (omega arith) (omega arith);
        revision = ap (λ (x : List ℕ). signed (word x)) (h.parts (revision_at layout n) 8 (omega arith) (omega arith));
        index = h.parts (index_at layout n) layout.index_size (omega arith) (omega arith);
      }

  pub same_slot : LaidOut layout image → (n : ℕ) → SameFrom image image' (slot_at layout n) (slot_at layout n + layout.slot_size) → SameSlot layout image image' n
  unfolding meta_of index_at
  same_slot fit n h =
      let index = index_in_slot layout image fit n in
      let body = same_body fit n (record { parts = λ a m from to. h.parts a m (omega arith) to }) in
      record {
        meta = ap word (h.parts (slot_at layout n) 8 (omega arith) (omega arith));
        key = body.key;
        revision = body.revision;
        index = body.index;
      }

  pub same_bucket : (b : ℕ) → SameFrom image image' (bucket_at layout b) (bucket_at layout b + 16) → bucket_of layout image' b ≡ bucket_of layout image b
  unfolding bucket_of
  same_bucket b h =
      ap₂ (λ (x y : List ℕ). bucket_from (word x) (word y))
      (h.parts (bucket_at layout b) 8 (omega arith) (omega arith)) (h.parts (bucket_at layout b + 8) 8 (omega arith) (omega arith))

-- Around the slots and buckets all is as it was: the header, and the length.
pub record Around (image image' : List ℕ) : Type 0 where
  pub size : length image' ≡ length image
  pub header : (a n : ℕ) → a + n ≤ 256 → part image' a n ≡ part image a n

pub around_self : {image : List ℕ} → Around image image
around_self = record { size = refl; header = λ a n l. refl }

pub around_then : {image image' image'' : List ℕ} → Around image image' → Around image' image'' → Around image image''
around_then p q = record { size = q.size ∙ p.size; header = λ a n l. q.header a n l ∙ p.header a n l }

-- so is every field of the header, and what the header says
pub around_bytes : {image image' : List ℕ} → Around image image' → (name : ℕ) → bytes_in image' name ≡ bytes_in image name
unfolding bytes_in
around_bytes k name = k.header (field_of name).offset (field_of name).width (in_header name)

pub around_generation : {image image' : List ℕ} → Around image image' → value image' F.generation ≡ value image F.generation
unfolding value
around_generation k = ap word (around_bytes k F.generation)

pub around_shape : {image image' : List ℕ} → Around image image' → shape_of image' ≡ shape_of image
unfolding shape_of layout_of value
around_shape k =
    let b = around_bytes k in
    rw (b F.key_size_field, b F.index_size_field, b F.slot_size_field, b F.slot_capacity_field, b F.slot_highwater, b F.live_count_field, b F.bucket_count_field, b F.bucket_tombstones, b F.buckets_offset_field, b F.flags, b F.state, b F.generation) refl

-- the layout is still that of the image, and so is the shape
pub around_laid : {layout : Layout} {image image' : List ℕ} → Around image image' → LaidOut layout image → LaidOut layout image'
around_laid k fit =
    record {
      keys = fit.keys;
      slot = fit.slot;
      offset = fit.offset;
      size = omega (arith, fit.size, k.size);
      power = fit.power;
      room = fit.room;
      small = fit.small;
    }

pub around_shaped : {s : Shape} {image image' : List ℕ} → Around image image' → Shaped s image → Shaped s image'
around_shaped k fit = record { laid = around_laid k fit.laid; counters = fit.counters; highwater = fit.highwater }

-- a put behind the header
pub put_around : (image : List ℕ) (at : ℕ) (bs : List ℕ) → 256 ≤ at → at + length bs ≤ length image → Around image (put image at bs)
put_around image at bs low fits =
    record { size = length_put image at bs fits; header = λ a n l. part_put_before image at bs fits a n (omega arith) }
