-- A record appended: it is the next slot, with its place in the index, and all else stays.
-- Assumes nothing.
use Prim.Native.Nat.{ℕ, ◌+◌, ◌≤◌, ◌<◌}
use mathlib.Core.Path.{◌≡◌, refl, sym, ap, ◌∙◌}
use mathlib.Core.Bool.{true}
use mathlib.Core.List.{List, ◌++◌}
use native.Mathlib.Nat.{add-zero, add_assoc}
use native.Mathlib.Omega.{arith}
use lib.ListN.{length}
use Rattle.std.specs.Prelude.{Option, Some, None}
use Rattle.numbers.specs.Bytes.{word, part, bytes_of, put}
use Rattle.numbers.specs.Signed.{signed}
use Rattle.numbers.proofs.PutPart.{part_put_in}
use Rattle.digests.specs.Fnv.{fnv1a64}
use Rattle.probing.specs.Table.{Table, is_full}
use Rattle.probing.specs.Probe.{probe}
use Rattle.probing.specs.Report.{Missing, Hint}
use Rattle.probing.specs.Change as change
use Rattle.probing.specs.Change.{place, inserted, placed}
use Rattle.probing.specs.Clip.{clip}
use Rattle.probing.proofs.Change.{by_update}
use Rattle.probing.proofs.Place.{place_same}
use Rattle.probing.proofs.Clip.{agree_clip, probe_clip, place_clip, clip_appended}
use Rattle.header.specs.declared.shape.Layout.{Layout}
use Rattle.header.specs.declared.shape.Shape.{Shape}
use Rattle.header.specs.Counters.{with_counters, with_slots}
use Rattle.header.specs.Shaped.{Shaped}
use Rattle.header.specs.Sizes.{align8}
use Rattle.image.specs.Table.{slot_at, key_at, revision_at, index_at, bucket_at, meta_of, key_of, revision_of, index_of, bucket_of, table_of}
use Rattle.image.proofs.Places.{key_in_slot, index_in_slot}
use Rattle.slots.specs.Slots.{Hinted, indexed, appended}
use Rattle.slots.proofs.Table.Around.{Around, around_then, around_shaped, SameSlot, same_slot_then}
use Rattle.slots.proofs.Table.Apart.{fits_slots, slot_put_around, slot_put_slot, slot_put_bucket}
use Rattle.slots.proofs.Table.Indexed.{indexed_around, indexed_slot, indexed_full, indexed_table}

-- Slot n holds the bytes of a record.
pub record Holds (layout : Layout) (image : List ℕ) (n : ℕ) (bytes : List ℕ) : Type 0 where
  pub meta : meta_of layout image n ≡ word (part bytes 0 8)
  pub key : key_of layout image n ≡ part bytes 8 layout.key_size
  pub revision : revision_of layout image n ≡ signed (word (part bytes (8 + align8 layout.key_size) 8))
  pub index : index_of layout image n ≡ part bytes (16 + align8 layout.key_size) layout.index_size

-- it still does where the slot reads as it did
pub holds_then : {layout : Layout} {image image' : List ℕ} {n : ℕ} {bytes : List ℕ} → Holds layout image n bytes → SameSlot layout image image' n
    → Holds layout image' n bytes
holds_then h same =
    record {
      meta = same.meta ∙ h.meta;
      key = same.key ∙ h.key;
      revision = same.revision ∙ h.revision;
      index = same.index ∙ h.index;
    }

-- the shape with the next slot counted below highwater is that of the image too
abbrev pub grown : Shape → Shape
grown s = with_slots s (s.slot_highwater + 1)

pub grown_shaped : (s : Shape) (image : List ℕ) → Shaped s image → s.slot_highwater < s.layout.slot_capacity → Shaped (grown s) image
unfolding with_slots with_counters
grown_shaped s image fit room = record { laid = fit.laid; counters = omega (arith, fit.counters); highwater = omega arith }

module _ (s : Shape) (image : List ℕ) (fit : Shaped s image) (room : s.slot_highwater < s.layout.slot_capacity)
    (bytes : List ℕ) (size : length bytes ≡ s.layout.slot_size) where
  abbrev n : ℕ
  n = s.slot_highwater

  -- the image with the slot written
  abbrev mid : List ℕ
  mid = put image (slot_at s.layout n) bytes

  high : slot_at s.layout n + length bytes ≤ slot_at s.layout n + s.layout.slot_size
  high = omega arith

  mid_around : Around image mid
  mid_around = slot_put_around s.layout image fit.laid (slot_at s.layout n) bytes n room (omega arith) high

  pub mid_fit : Shaped s mid
  mid_fit = around_shaped mid_around fit

  written : (j m : ℕ) → j + m ≤ s.layout.slot_size → part mid (slot_at s.layout n + j) m ≡ part bytes j m
  written j m l =
      part_put_in image (slot_at s.layout n) bytes (fits_slots s.layout image fit.laid (slot_at s.layout n) bytes n room (omega arith) high) j m (omega arith)

  -- the other slots, when the slot is written
  others : (m : ℕ) → (m ≡ n → ⊥) → SameSlot s.layout image mid m
  others = slot_put_slot s.layout image fit.laid (slot_at s.layout n) bytes n room (omega arith) high

  pub appended_around : Around image (appended s image bytes)
  unfolding appended
  appended_around = around_then mid_around (indexed_around s mid mid_fit n room)

  -- the other slots stay
  pub appended_other : (m : ℕ) → m < s.layout.slot_capacity → (m ≡ n → ⊥) → SameSlot s.layout image (appended s image bytes) m
  unfolding appended
  appended_other m l other =
      same_slot_then (others m other) (indexed_slot s mid mid_fit n room m l)

  -- the new slot is the record
  pub mid_new : Holds s.layout mid n bytes
  unfolding meta_of key_of revision_of index_of key_at revision_at index_at
  mid_new =
      let key = key_in_slot s.layout n in
      let index = index_in_slot s.layout image fit.laid n in
      record {
        meta = ap word (rw add-zero at (written 0 8 (omega arith)));
        key = written 8 s.layout.key_size (omega arith);
        revision =
            rw (add_assoc (slot_at s.layout n) 8 (align8 s.layout.key_size))
            (ap (λ (x : List ℕ). signed (word x)) (written (8 + align8 s.layout.key_size) 8 (omega arith)));
        index = rw (add_assoc (slot_at s.layout n) 16 (align8 s.layout.key_size)) (written (16 + align8 s.layout.key_size) s.layout.index_size (omega arith));
      }

  -- the buckets stay, and with them what is read of the table
  mid_bucket : (b : ℕ) → bucket_of s.layout mid b ≡ bucket_of s.layout image b
  mid_bucket = slot_put_bucket s.layout image fit.laid (slot_at s.layout n) bytes n room (omega arith) high

  same_clip : clip (table_of s mid) ≡ clip (table_of s image)
  unfolding table_of
  same_clip =
      agree_clip (table_of s mid) (table_of s image) refl refl refl
      (λ b l. mid_bucket b) (λ m l. (others m (omega arith)).meta) (λ m l. (others m (omega arith)).key)

  -- a key that was not there is not there yet
  pub mid_missing : (key : List ℕ) → Missing (table_of s image) key → Missing (table_of s mid) key
  unfolding table_of
  mid_missing key none = (
    none.0,
    sym (probe_clip (table_of s mid) (omega (arith, fit.laid.room)) key)
        ∙ ap (λ (t : Table). probe t key) same_clip
        ∙ probe_clip (table_of s image) (omega (arith, fit.laid.room)) key
        ∙ none.1,
  )

  -- a bucket noted for it is one still
  mid_hint : (key : List ℕ) (b : ℕ) → Hint (table_of s image) key b → Hint (table_of s mid) key b
  unfolding table_of
  mid_hint key b hint inside free =
      sym (place_clip (table_of s mid) (omega arith) key)
      ∙ ap (λ (t : Table). place t key) same_clip
      ∙ place_clip (table_of s image) (omega arith) key
      ∙ hint inside (ap is_full (sym (mid_bucket b)) ∙ free)

  pub mid_hinted : (key : List ℕ) (hint : Option ℕ) → Hinted (table_of s image) key hint → Hinted (table_of s mid) key hint
  unfolding table_of
  mid_hinted key None hinted = hinted
  mid_hinted key (Some b) hinted = mid_hint key b hinted

  pub appended_new : Holds s.layout (appended s image bytes) n bytes
  unfolding appended
  appended_new = holds_then mid_new (indexed_slot s mid mid_fit n room n room)

  -- a bucket that is FULL stays so
  pub appended_full : (b : ℕ) → is_full (bucket_of s.layout image b) ≡ true → is_full (bucket_of s.layout (appended s image bytes) b) ≡ true
  unfolding appended
  appended_full b full = indexed_full s mid mid_fit n room b (ap is_full (mid_bucket b) ∙ full)

  abbrev key : List ℕ
  key = part bytes 8 s.layout.key_size

  -- the place of a key does not hang on highwater
  grown_indexed : indexed (grown s) mid n ≡ indexed s mid n
  unfolding indexed with_slots with_counters table_of bucket_at bucket_of key_of key_at slot_at
  grown_indexed =
      ap (λ (b : ℕ). put mid (bucket_at s.layout b) (bytes_of 8 (fnv1a64 (key_of s.layout mid n)) ++ bytes_of 8 (n + 1)))
      (place_same (table_of (grown s) mid) (table_of s mid) refl refl refl (key_of s.layout mid n))

  module _ (alive : word (part bytes 0 8) ≡ 1) where
    -- the table with a live slot more
    mid_table : clip (table_of (grown s) mid) ≡ clip (change.appended (table_of s image) key)
    unfolding table_of with_slots with_counters change.appended bucket_of bucket_at meta_of key_of key_at slot_at
    mid_table =
        agree_clip (table_of (grown s) mid) (change.appended (table_of s image) key) refl refl refl
        (λ b l. mid_bucket b)
        (λ m l. by_update (meta_of s.layout image) n 1 m (λ at v. ap (meta_of s.layout mid) at ∙ mid_new.meta ∙ alive ∙ sym v) (λ other v. (others m other).meta ∙ sym v))
        (λ m l. by_update (key_of s.layout image) n key m (λ at v. ap (key_of s.layout mid) at ∙ mid_new.key ∙ sym v) (λ other v. (others m other).key ∙ sym v))

    -- the table with the key inserted
    pub appended_table : clip (table_of (grown s) (appended s image bytes)) ≡ inserted (clip (table_of s image)) key
    unfolding appended inserted clip table_of with_slots with_counters
    appended_table =
        ap (λ (x : List ℕ). clip (table_of (grown s) x)) (sym grown_indexed)
        ∙ indexed_table (grown s) mid (grown_shaped s mid mid_fit room) n room (omega arith)
        ∙ ap (λ (t : Table). placed t n) (mid_table ∙ clip_appended (table_of s image) key)
