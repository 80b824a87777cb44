-- A slot's revision and index rewritten: the table stays, and so does every other slot.
-- Assumes nothing.
use Prim.Native.Nat.{ℕ, ◌+◌, ◌≤◌, ◌<◌}
use mathlib.Core.Path.{◌≡◌, refl, ap, ◌∙◌}
use mathlib.Core.List.{List}
use native.Mathlib.Nat.{add-zero}
use native.Mathlib.Decide.{ℕ_discrete}
use native.Mathlib.Omega.{arith}
use lib.ListN.{length}
use Rattle.numbers.specs.Bytes.{part, word}
use Rattle.numbers.specs.Signed.{signed}
use Rattle.numbers.proofs.Put.{length_part}
use Rattle.numbers.proofs.PutPart.{part_put_before, part_put_in}
use Rattle.probing.specs.Clip.{clip}
use Rattle.probing.proofs.Clip.{agree_clip}
use Rattle.header.specs.declared.shape.Shape.{Shape}
use Rattle.header.specs.Shaped.{Shaped}
use Rattle.header.specs.Sizes.{align8, slot_size}
use Rattle.header.proofs.SizeLaws.{align8_low}
use Rattle.image.specs.Table.{slot_at, key_at, revision_at, meta_of, key_of, revision_of, index_of, bucket_of, table_of}
use Rattle.image.proofs.Places.{key_in_slot, revision_in_slot}
use Rattle.slots.specs.Slots.{rewritten}
use Rattle.slots.proofs.Table.ReadBack.{part_part}
use Rattle.slots.proofs.Table.Around.{Around, SameSlot}
use Rattle.slots.proofs.Table.Apart.{fits_slots, slot_put_around, slot_put_slot, slot_put_bucket}

-- the bytes that are written: revision and index of a record
abbrev tail : Shape → List ℕ → List ℕ
tail s bytes = part bytes (8 + align8 s.layout.key_size) (8 + s.layout.index_size)

module _ (s : Shape) (image : List ℕ) (fit : Shaped s image) (n : ℕ) (inside : n < s.layout.slot_capacity)
    (bytes : List ℕ) (whole : length bytes ≡ s.layout.slot_size) where
  tail_inside : 8 + align8 s.layout.key_size + (8 + s.layout.index_size) ≤ length bytes
  unfolding slot_size
  tail_inside = omega (arith, fit.laid.slot, align8_low s.layout.index_size)

  tail_length : length (tail s bytes) ≡ 8 + s.layout.index_size
  tail_length = length_part bytes (8 + align8 s.layout.key_size) (8 + s.layout.index_size) tail_inside

  low : slot_at s.layout n ≤ revision_at s.layout n
  unfolding revision_at
  low = omega arith

  high : revision_at s.layout n + length (tail s bytes) ≤ slot_at s.layout n + s.layout.slot_size
  unfolding revision_at
  high = omega (arith, tail_inside, tail_length)

  fits : revision_at s.layout n + length (tail s bytes) ≤ length image
  fits = fits_slots s.layout image fit.laid (revision_at s.layout n) (tail s bytes) n inside low high

  pub rewritten_around : Around image (rewritten s.layout image n bytes)
  unfolding rewritten
  rewritten_around = slot_put_around s.layout image fit.laid (revision_at s.layout n) (tail s bytes) n inside low high

  -- the other slots
  pub rewritten_other : (m : ℕ) → (m ≡ n → ⊥) → SameSlot s.layout image (rewritten s.layout image n bytes) m
  unfolding rewritten
  rewritten_other = slot_put_slot s.layout image fit.laid (revision_at s.layout n) (tail s bytes) n inside low high

  -- a part of what is written is a part of the record
  written : (j m : ℕ) → j + m ≤ 8 + s.layout.index_size
      → part (rewritten s.layout image n bytes) (revision_at s.layout n + j) m ≡ part bytes (8 + align8 s.layout.key_size + j) m
  unfolding rewritten
  written j m l =
      part_put_in image (revision_at s.layout n) (tail s bytes) fits j m (omega (arith, tail_length))
      ∙ part_part bytes (8 + align8 s.layout.key_size) (8 + s.layout.index_size) j m tail_inside l

  pub rewritten_revision : revision_of s.layout (rewritten s.layout image n bytes) n ≡ signed (word (part bytes (8 + align8 s.layout.key_size) 8))
  unfolding revision_of
  rewritten_revision = ap (λ (x : List ℕ). signed (word x)) (simp add-zero at (written 0 8 (omega arith)))

  pub rewritten_index : index_of s.layout (rewritten s.layout image n bytes) n ≡ part bytes (16 + align8 s.layout.key_size) s.layout.index_size
  unfolding index_of
  rewritten_index =
      let there : 8 + align8 s.layout.key_size + 8 ≡ 16 + align8 s.layout.key_size = omega arith in
      rw (revision_in_slot s.layout n, there) at (written 8 s.layout.index_size (omega arith))

  -- what lies before the revision of slot n stays
  before : (a m : ℕ) → a + m ≤ revision_at s.layout n → part (rewritten s.layout image n bytes) a m ≡ part image a m
  unfolding rewritten
  before = part_put_before image (revision_at s.layout n) (tail s bytes) fits

  -- so metas and keys stay
  pub rewritten_meta : (m : ℕ) → meta_of s.layout (rewritten s.layout image n bytes) m ≡ meta_of s.layout image m
  unfolding meta_of revision_at
  rewritten_meta m = go (ℕ_discrete m n)
    where
      go : Dec (m ≡ n) → meta_of s.layout (rewritten s.layout image n bytes) m ≡ meta_of s.layout image m
      go (yes e) = rw e (ap word (before (slot_at s.layout n) 8 (omega arith)))
      go (no other) = (rewritten_other m other).meta

  pub rewritten_key : (m : ℕ) → key_of s.layout (rewritten s.layout image n bytes) m ≡ key_of s.layout image m
  unfolding key_of
  rewritten_key m = go (ℕ_discrete m n)
    where
      go : Dec (m ≡ n) → key_of s.layout (rewritten s.layout image n bytes) m ≡ key_of s.layout image m
      go (yes e) = rw e (before (key_at s.layout n) s.layout.key_size (key_in_slot s.layout n))
      go (no other) = (rewritten_other m other).key

  -- the buckets stay, and so the table does
  pub rewritten_bucket : (b : ℕ) → bucket_of s.layout (rewritten s.layout image n bytes) b ≡ bucket_of s.layout image b
  unfolding rewritten
  rewritten_bucket = slot_put_bucket s.layout image fit.laid (revision_at s.layout n) (tail s bytes) n inside low high

  pub rewritten_table : clip (table_of s (rewritten s.layout image n bytes)) ≡ clip (table_of s image)
  unfolding table_of
  rewritten_table =
      agree_clip (table_of s (rewritten s.layout image n bytes)) (table_of s image) refl refl refl
      (λ b l. rewritten_bucket b) (λ m l. rewritten_meta m) (λ m l. rewritten_key m)
