-- A slot removed: its meta is cleared and its bucket a TOMBSTONE, and all else stays.
-- Assumes nothing.
use Prim.Native.Nat.{ℕ, ◌+◌, ◌≤◌, ◌<◌}
use mathlib.Core.Path.{◌≡◌, refl, sym, ap, ap₂, ◌∙◌}
use mathlib.Core.List.{List}
use native.Mathlib.Decide.{ℕ_discrete}
use native.Mathlib.Omega.{arith}
use lib.Dec.{lit<}
use lib.ListN.{length}
use Rattle.numbers.specs.Bytes.{bytes_of, put}
use Rattle.numbers.proofs.PutPart.{length_bytes}
use Rattle.probing.specs.Table.{TOMBSTONE}
use Rattle.probing.specs.Probe.{Probed, found, last_of, probe}
use Rattle.probing.specs.Change.{deleted_at, deleted}
use Rattle.probing.specs.Clip.{clip}
use Rattle.probing.proofs.Change.{by_update}
use Rattle.probing.proofs.Delete.{cleared}
use Rattle.probing.proofs.Clip.{agree_clip, clip_deleted}
use Rattle.header.specs.declared.shape.Layout.{Layout}
use Rattle.header.specs.declared.shape.Shape.{Shape}
use Rattle.header.specs.Shaped.{Shaped}
use Rattle.image.specs.Table.{all_ones, slot_at, index_at, bucket_at, meta_of, bucket_from, bucket_of, table_of}
use Rattle.image.proofs.Places.{index_in_slot, meta_inside, bucket_inside}
use Rattle.slots.specs.Slots.{removed}
use Rattle.slots.proofs.Table.ReadBack.{word_put}
use Rattle.slots.proofs.Table.Around.{Around, around_then, around_shaped, SameSlot, SameBody, same_body, put_behind}
use Rattle.slots.proofs.Table.Apart.{fits_slots, slot_put_around, slot_put_slot, slot_put_bucket, bucket_put_around, bucket_put_slot, bucket_put_bucket}

-- the meta cleared, then the bucket made a TOMBSTONE
pub removes : (layout : Layout) (image : List ℕ) (n b : ℕ) {slot bucket : ℕ} {mid end : List ℕ}
    → slot ≡ slot_at layout n → mid ≡ put image slot (bytes_of 8 0) → bucket ≡ bucket_at layout b → end ≡ put mid (bucket + 8) (bytes_of 8 all_ones)
    → end ≡ removed layout image n b
unfolding removed
removes layout image n b es em eb ee =
    let cleared = em ∙ ap (λ (at : ℕ). put image at (bytes_of 8 0)) es in
    ee ∙ ap₂ (λ (l : List ℕ) (at : ℕ). put l (at + 8) (bytes_of 8 all_ones)) cleared eb

module _ (s : Shape) (image : List ℕ) (fit : Shaped s image) (n b : ℕ) (inside : n < s.layout.slot_capacity) (bucket : b < s.layout.bucket_count) where
  -- the image with the meta cleared
  abbrev mid : List ℕ
  mid = put image (slot_at s.layout n) (bytes_of 8 0)

  high : slot_at s.layout n + length (bytes_of 8 0) ≤ slot_at s.layout n + s.layout.slot_size
  unfolding index_at
  high = omega (arith, length_bytes 8 0, index_in_slot s.layout image fit.laid n)

  mid_around : Around image mid
  mid_around = slot_put_around s.layout image fit.laid (slot_at s.layout n) (bytes_of 8 0) n inside (omega arith) high

  mid_other : (m : ℕ) → (m ≡ n → ⊥) → SameSlot s.layout image mid m
  mid_other = slot_put_slot s.layout image fit.laid (slot_at s.layout n) (bytes_of 8 0) n inside (omega arith) high

  mid_fit : Shaped s mid
  mid_fit = around_shaped mid_around fit

  high' : bucket_at s.layout b + 8 + length (bytes_of 8 all_ones) ≤ bucket_at s.layout b + 16
  high' = omega (arith, length_bytes 8 all_ones)

  pub removed_around : Around image (removed s.layout image n b)
  unfolding removed
  removed_around =
      around_then mid_around
      (bucket_put_around s.layout mid mid_fit.laid (bucket_at s.layout b + 8) (bytes_of 8 all_ones) b bucket (omega arith) high')

  abbrev after : List ℕ
  after = removed s.layout image n b

  -- the bucket's own bytes touch no slot
  slots : (m : ℕ) → m < s.layout.slot_capacity → SameSlot s.layout mid after m
  unfolding removed
  slots = bucket_put_slot s.layout mid mid_fit.laid (bucket_at s.layout b + 8) (bytes_of 8 all_ones) b bucket (omega arith) high'

  -- the slot's meta is cleared, the other metas stay
  pub removed_meta : meta_of s.layout after n ≡ 0
  unfolding meta_of
  removed_meta = (slots n inside).meta ∙ word_put image (slot_at s.layout n) 0 (meta_inside s.layout image fit.laid n inside) (lit< tt)

  pub removed_other : (m : ℕ) → m < s.layout.slot_capacity → (m ≡ n → ⊥) → meta_of s.layout after m ≡ meta_of s.layout image m
  removed_other m l other =
      (slots m l).meta ∙ (mid_other m other).meta

  -- all else of the slots stays
  pub removed_body : (m : ℕ) → m < s.layout.slot_capacity → SameBody s.layout image after m
  removed_body m l =
      record { key = (slots m l).key ∙ body.key; revision = (slots m l).revision ∙ body.revision; index = (slots m l).index ∙ body.index }
    where
      go : Dec (m ≡ n) → SameBody s.layout image mid m
      go (yes e) =
          let size = length_bytes 8 0 in
          rw e (same_body s.layout image mid fit.laid n
          (put_behind image (slot_at s.layout n) (bytes_of 8 0) (fits_slots s.layout image fit.laid (slot_at s.layout n) (bytes_of 8 0) n inside (omega arith) high) _ _ (omega arith)))
      go (no other) =
          let r = mid_other m other in
          record { key = r.key; revision = r.revision; index = r.index }

      body : SameBody s.layout image mid m
      body = go (ℕ_discrete m n)

  -- the bucket is a TOMBSTONE, the other buckets stay
  pub removed_bucket : bucket_of s.layout after b ≡ TOMBSTONE
  unfolding bucket_of bucket_from removed
  removed_bucket =
      let fits : bucket_at s.layout b + 8 + 8 ≤ length mid = omega (arith, bucket_inside s.layout mid mid_fit.laid b bucket) in
      rw (word_put mid (bucket_at s.layout b + 8) all_ones fits (lit< tt)) refl

  removed_buckets : (c : ℕ) → (c ≡ b → ⊥) → bucket_of s.layout after c ≡ bucket_of s.layout image c
  unfolding removed
  removed_buckets c other =
      bucket_put_bucket s.layout mid mid_fit.laid (bucket_at s.layout b + 8) (bytes_of 8 all_ones) b bucket (omega arith) high' c other
      ∙ slot_put_bucket s.layout image fit.laid (slot_at s.layout n) (bytes_of 8 0) n inside (omega arith) high c

  -- the table with the meta cleared and the bucket a TOMBSTONE
  pub removed_cleared : clip (table_of s after) ≡ clip (cleared (table_of s image) b n)
  unfolding table_of
  removed_cleared =
      agree_clip (table_of s after) (cleared (table_of s image) b n) refl refl refl
      (λ c l. by_update (bucket_of s.layout image) b TOMBSTONE c (λ at v. ap (bucket_of s.layout after) at ∙ removed_bucket ∙ sym v) (λ other v. removed_buckets c other ∙ sym v))
      (λ m l. by_update (meta_of s.layout image) n 0 m
      (λ at v. ap (meta_of s.layout after) at ∙ removed_meta ∙ sym v)
      (λ other v. removed_other m (omega (arith, l, fit.highwater)) other ∙ sym v))
      (λ m l. (removed_body m (omega (arith, l, fit.highwater))).key)

  -- the table with the key deleted, where its probe found the slot and ended at the bucket
  pub removed_table : (k : List ℕ) (count : ℕ) → probe (table_of s image) k ≡ found n count
      → b ≡ last_of (table_of s image) k count → clip (table_of s after) ≡ deleted (clip (table_of s image)) k
  unfolding deleted table_of
  removed_table k count e at =
      removed_cleared
      ∙ ap (λ (c : ℕ). clip (cleared (table_of s image) c n)) at
      ∙ ap (λ (p : Probed). clip (deleted_at (table_of s image) k p)) (sym e)
      ∙ clip_deleted (table_of s image) k (omega (arith, bucket))
