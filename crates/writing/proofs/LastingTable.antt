-- The shape and the table of an image through a change of state and of user fields.
-- Assumes nothing.
use Prim.Native.Nat.{ℕ, ◌+◌, ◌*◌, ◌≤◌}
use mathlib.Core.Path.{◌≡◌, refl, ap, ◌∙◌, fun_ext}
use mathlib.Core.List.{List}
use native.Mathlib.Omega.{arith}
use lib.Dec.{T}
use Rattle.numbers.specs.Bytes.{word}
use Rattle.header.specs.declared.options.Options.{Options}
use Rattle.header.specs.declared.shape.Shape.{Shape}
use Rattle.header.specs.Fields as F
use Rattle.header.specs.Fields.{value}
use Rattle.header.specs.HeaderTest.{header_test, layout_of, shape_of}
use Rattle.header.specs.Shaped.{Shaped}
use Rattle.header.specs.Sizes.{buckets_offset}
use Rattle.header.proofs.Fit.{fit_shaped}
use Rattle.probing.specs.Check.{checks}
use Rattle.image.specs.Check.{passes}
use Rattle.image.specs.Table.{slot_at, key_at, bucket_at, meta_of, key_of, bucket_of, table_of}
use Rattle.writing.proofs.Lasting.{Kept, lasting, kept_value}

-- a shape in another state and generation
abbrev pub moved : Shape → ℕ → ℕ → Shape
moved s state generation =
    record {
      layout = s.layout;
      slot_highwater = s.slot_highwater;
      live_count = s.live_count;
      bucket_tombstones = s.bucket_tombstones;
      state = state;
      generation = generation;
    }

module _ (image image' : List ℕ) (kept : Kept image image') where
  v : (m : ℕ) → T (lasting m) → value image' m ≡ value image m
  v = kept_value kept

  pub kept_shape : shape_of image' ≡ moved (shape_of image) (value image' F.state) (value image' F.generation)
  unfolding shape_of layout_of
  kept_shape =
      rw (v F.key_size_field tt, v F.index_size_field tt, v F.slot_size_field tt, v F.slot_capacity_field tt, v F.slot_highwater tt, v F.live_count_field tt, v F.bucket_count_field tt, v F.bucket_tombstones tt, v F.buckets_offset_field tt, v F.flags tt) refl

  module _ (s : Shape) (offset : 256 ≤ s.layout.buckets_offset) where
    kept_bucket : (b : ℕ) → bucket_of s.layout image' b ≡ bucket_of s.layout image b
    unfolding bucket_of bucket_at
    kept_bucket b =
        rw (kept.behind (s.layout.buckets_offset + 16 * b) 8 (omega arith), kept.behind (s.layout.buckets_offset + 16 * b + 8) 8 (omega arith)) refl

    kept_meta : (n : ℕ) → meta_of s.layout image' n ≡ meta_of s.layout image n
    unfolding meta_of slot_at
    kept_meta n = ap word (kept.behind (256 + n * s.layout.slot_size) 8 (omega arith))

    kept_key : (n : ℕ) → key_of s.layout image' n ≡ key_of s.layout image n
    unfolding key_of key_at slot_at
    kept_key n = kept.behind (256 + n * s.layout.slot_size + 8) s.layout.key_size (omega arith)

    pub kept_table : table_of s image' ≡ table_of s image
    unfolding table_of
    kept_table = rw (fun_ext kept_bucket, fun_ext kept_meta, fun_ext kept_key) refl

-- the state and the generation are no part of the table
moved_table : (s : Shape) (image : List ℕ) (state generation : ℕ) → table_of (moved s state generation) image ≡ table_of s image
unfolding table_of
moved_table s image state generation = refl

-- the buckets begin behind the header
buckets_behind : (s : Shape) (image : List ℕ) → Shaped s image → 256 ≤ s.layout.buckets_offset
unfolding buckets_offset
buckets_behind s image h = omega (arith, h.laid.offset)

-- the table of an image that passes the header test stays
pub same_table : (o : Options) (image image' : List ℕ) → header_test o image ≡ 0 → Kept image image'
    → table_of (shape_of image') image' ≡ table_of (shape_of image) image
same_table o image image' z kept =
    let low = buckets_behind (shape_of image) image (fit_shaped o image z) in
    ap (λ (s : Shape). table_of s image') (kept_shape image image' kept)
    ∙ moved_table (shape_of image) image' (value image' F.state) (value image' F.generation)
    ∙ kept_table image image' kept (shape_of image) low

-- and with it what the full check says
pub same_passes : (o : Options) (image image' : List ℕ) → header_test o image ≡ 0 → Kept image image'
    → passes (shape_of image') image' ≡ passes (shape_of image) image
unfolding passes
same_passes o image image' z kept =
    rw (same_table o image image' z kept) (ap (λ (s : Shape). checks (table_of (shape_of image) image) s.layout.ordered s.live_count s.live_count s.bucket_tombstones) (kept_shape image image' kept))
