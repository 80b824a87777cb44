-- A slot put into the index: one bucket more is FULL, and all else stays.
-- Assumes nothing.
use Prim.Native.Nat.{ℕ, ◌+◌, ◌≤◌, ◌<◌}
use mathlib.Core.Path.{◌≡◌, refl, sym, ap, ap₂, ◌∙◌}
use mathlib.Core.Bool.{Bool, true, false, cond}
use mathlib.Core.List.{List, ◌++◌}
use native.Mathlib.Nat.{add-sub_cancel}
use native.Mathlib.Decide.{ℕ_discrete}
use native.Mathlib.Omega.{arith}
use borrow.Author.Tests.{ne_eqb}
use lib.Dec.{eqb}
use lib.ListN.{length, length-append}
use Rattle.std.specs.Prelude.{Some, None}
use Rattle.std.specs.Option.{unwrap_or}
use Rattle.numbers.specs.Bytes.{word, part, bytes_of, put}
use Rattle.numbers.proofs.Put.{put_put, length_put}
use Rattle.numbers.proofs.PutPart.{length_bytes, part_put_before}
use Rattle.digests.specs.Fnv.{fnv1a64}
use Rattle.probing.specs.Table.{FULL, is_full}
use Rattle.probing.specs.Report.{Missing, free_by, report}
use Rattle.probing.specs.Change.{place, placed}
use Rattle.probing.specs.Clip.{clip}
use Rattle.probing.proofs.Change.{by_update}
use Rattle.probing.proofs.Report.{place_reported}
use Rattle.probing.proofs.Clip.{agree_clip, place_inside, clip_placed}
use Rattle.header.specs.declared.shape.Shape.{Shape}
use Rattle.header.specs.Shaped.{Shaped}
use Rattle.image.specs.declared.probe.Report.{Report}
use Rattle.image.specs.Told.{told_tombstone, free_of, report_of}
use Rattle.image.specs.Table.{all_ones, bucket_at, key_of, bucket_from, bucket_of, table_of}
use Rattle.image.proofs.Places.{bucket_inside}
use Rattle.slots.specs.Slots.{indexed}
use Rattle.slots.proofs.Table.ReadBack.{word_put, hash_fits}
use Rattle.slots.proofs.Table.Around.{Around, SameSlot}
use Rattle.slots.proofs.Table.Apart.{bucket_put_around, bucket_put_slot, bucket_put_bucket}

-- the bucket that a report leaves is the same, told as an option
pub told_free : (B tombstone bucket : ℕ) → unwrap_or (told_tombstone B tombstone) bucket ≡ free_by B tombstone bucket
told_free B tombstone bucket = go (eqb tombstone B)
  where
    go : (none : Bool) → unwrap_or (cond none None (Some tombstone)) bucket ≡ cond none bucket tombstone
    go true = refl
    go false = refl

-- the place of a key that is not there, by the report of its probe
pub reported_place : (s : Shape) (image key : List ℕ) (r : Report) → r ≡ report_of s image key → Missing (table_of s image) key
    → free_of r ≡ place (table_of s image) key
unfolding report_of table_of
reported_place s image key r e none =
    let told = report (table_of s image) key in
    rw e (told_free s.layout.bucket_count told.tombstone told.bucket ∙ place_reported (table_of s image) key none.0 none.1)

module _ (s : Shape) (image : List ℕ) (fit : Shaped s image) (n : ℕ) (inside : n < s.layout.slot_capacity) where
  abbrev bucket : ℕ
  bucket = place (table_of s image) (key_of s.layout image n)

  abbrev hash : ℕ
  hash = fnv1a64 (key_of s.layout image n)

  abbrev entry : List ℕ
  entry = bytes_of 8 hash ++ bytes_of 8 (n + 1)

  -- the place is a bucket
  pub bucket_below : bucket < s.layout.bucket_count
  unfolding table_of
  bucket_below = place_inside (table_of s image) (omega (arith, fit.laid.room)) (key_of s.layout image n)

  entry_length : length entry ≡ 16
  entry_length = length-append (bytes_of 8 hash) (bytes_of 8 (n + 1)) ∙ rw (length_bytes 8 hash, length_bytes 8 (n + 1)) refl

  high : bucket_at s.layout bucket + length entry ≤ bucket_at s.layout bucket + 16
  high = omega (arith, entry_length)

  pub indexed_around : Around image (indexed s image n)
  unfolding indexed
  indexed_around = bucket_put_around s.layout image fit.laid (bucket_at s.layout bucket) entry bucket bucket_below (omega arith) high

  pub indexed_slot : (m : ℕ) → m < s.layout.slot_capacity → SameSlot s.layout image (indexed s image n) m
  unfolding indexed
  indexed_slot = bucket_put_slot s.layout image fit.laid (bucket_at s.layout bucket) entry bucket bucket_below (omega arith) high

  other_buckets : (c : ℕ) → (c ≡ bucket → ⊥) → bucket_of s.layout (indexed s image n) c ≡ bucket_of s.layout image c
  unfolding indexed
  other_buckets = bucket_put_bucket s.layout image fit.laid (bucket_at s.layout bucket) entry bucket bucket_below (omega arith) high

  -- the image with the hash64 written, and then the slot_plus1
  abbrev mid : List ℕ
  mid = put image (bucket_at s.layout bucket) (bytes_of 8 hash)

  whole : bucket_at s.layout bucket + 16 ≤ length image
  whole = bucket_inside s.layout image fit.laid bucket bucket_below

  two_puts : put mid (bucket_at s.layout bucket + 8) (bytes_of 8 (n + 1)) ≡ indexed s image n
  unfolding indexed
  two_puts =
      let size = length_bytes 8 hash in
      rw size at (put_put image (bucket_at s.layout bucket) (bytes_of 8 hash) (bytes_of 8 (n + 1)) (omega (arith, whole)))

  pub indexes : {at h : ℕ} {a end : List ℕ} → at ≡ bucket_at s.layout bucket → h ≡ hash → a ≡ put image at (bytes_of 8 h) → end ≡ put a (at + 8) (bytes_of 8 (n + 1))
      → end ≡ indexed s image n
  indexes there hashed ea ee =
      let first = ea ∙ ap₂ (λ (at h : ℕ). put image at (bytes_of 8 h)) there hashed in
      ee ∙ ap₂ (λ (l : List ℕ) (at : ℕ). put l (at + 8) (bytes_of 8 (n + 1))) first there ∙ two_puts

  mid_length : length mid ≡ length image
  mid_length = length_put image (bucket_at s.layout bucket) (bytes_of 8 hash) (omega (arith, whole, length_bytes 8 hash))

  read_hash : word (part (indexed s image n) (bucket_at s.layout bucket) 8) ≡ hash
  read_hash =
      rw (← two_puts)
      (ap word (part_put_before mid (bucket_at s.layout bucket + 8) (bytes_of 8 (n + 1)) (omega (arith, whole, mid_length, length_bytes 8 (n + 1))) (bucket_at s.layout bucket) 8 (omega arith))
      ∙ word_put image (bucket_at s.layout bucket) hash (omega (arith, whole)) (hash_fits (key_of s.layout image n)))

  read_slot : word (part (indexed s image n) (bucket_at s.layout bucket + 8) 8) ≡ n + 1
  read_slot =
      rw (← two_puts)
      (word_put mid (bucket_at s.layout bucket + 8) (n + 1) (omega (arith, whole, mid_length)) (omega (arith, fit.laid.room, fit.laid.small)))

  -- the bucket is FULL with the key's hash and the slot
  pub indexed_bucket : bucket_of s.layout (indexed s image n) bucket ≡ FULL hash n
  unfolding bucket_of bucket_from
  indexed_bucket =
      rw (read_hash, read_slot, ne_eqb (n + 1) 0 (omega arith), ne_eqb (n + 1) all_ones (omega (arith, fit.laid.room, fit.laid.small)), add-sub_cancel) refl

  -- a bucket that is FULL stays so
  pub indexed_full : (c : ℕ) → is_full (bucket_of s.layout image c) ≡ true → is_full (bucket_of s.layout (indexed s image n) c) ≡ true
  indexed_full c full = go (ℕ_discrete c bucket)
    where
      go : Dec (c ≡ bucket) → is_full (bucket_of s.layout (indexed s image n) c) ≡ true
      go (yes e) = ap (λ (b : ℕ). is_full (bucket_of s.layout (indexed s image n) b)) e ∙ ap is_full indexed_bucket
      go (no other) = ap is_full (other_buckets c other) ∙ full

  -- the table with the slot placed
  pub indexed_table : n < s.slot_highwater → clip (table_of s (indexed s image n)) ≡ placed (clip (table_of s image)) n
  unfolding table_of placed
  indexed_table below =
      agree_clip (table_of s (indexed s image n)) (placed (table_of s image) n) refl refl refl
      (λ c l. by_update (bucket_of s.layout image) bucket (FULL hash n) c
      (λ at v. ap (bucket_of s.layout (indexed s image n)) at ∙ indexed_bucket ∙ sym v)
      (λ other v. other_buckets c other ∙ sym v))
      (λ m l. (indexed_slot m (omega (arith, l, fit.highwater))).meta)
      (λ m l. (indexed_slot m (omega (arith, l, fit.highwater))).key)
      ∙ clip_placed (table_of s image) n (omega (arith, bucket_below)) below
