-- What an accepted commit leaves: an image that passes the header test and the full check, with few tombstones, whose live slots
-- and keys are those of the image and the batch.
-- Assumes nothing.
use Prim.Native.Nat.{ℕ, ◌+◌, ◌*◌, ◌^◌, ◌≤◌, ◌<◌}
use mathlib.Core.Bool.{true}
use mathlib.Core.Path.{◌≡◌, refl, sym, ◌∙◌}
use mathlib.Core.Logic.{◌↔◌}
use mathlib.Core.List.{List}
use native.Mathlib.Nat.{le_refl}
use native.Mathlib.Omega.{arith}
use lib.ListN.{length}
use Rattle.header.specs.declared.options.Options.{Options}
use Rattle.header.specs.declared.shape.Shape.{Shape}
use Rattle.image.specs.Lookup.{is_live}
use Rattle.header.specs.Fields as F
use Rattle.header.specs.Fields.{value}
use Rattle.header.specs.FirstOf.{first_of}
use Rattle.header.specs.State.{with_role}
use Rattle.header.specs.HeaderTest.{header_test, shape_of}
use Rattle.header.specs.Open.{user_fields}
use Rattle.image.specs.Table.{meta_of, key_of}
use Rattle.image.specs.Check.{passes}
use Rattle.image.proofs.FullCheck.{Whole, passes_whole}
use Rattle.numbers.specs.Bytes.{Bytes}
use Rattle.writing.proofs.Tests.{header_holds}
use Rattle.slots.proofs.Table.Around.{around_generation, around_shape, SameSlot, same_slot_then}
use Rattle.slots.proofs.Table.Appended.{Holds, holds_then}
use Rattle.slots.proofs.Table.Counted as write
use Rattle.batch.specs.Batch.{record_count, record_at}
use Rattle.batch.specs.NewKeys.{new_count, new_at}
use Rattle.header.specs.Counters.{with_counters, with_slots}
use Rattle.soundness.specs.Apply.{after_live, after_new, tidied, recounted, committed}
use Rattle.soundness.specs.Commit.{commit_tests, commit_of}
use Rattle.soundness.proofs.Live.{Spared, Kept, live_kept}
use Rattle.soundness.proofs.Grown.{Grown, new_grown}
use Rattle.soundness.proofs.Settled.{is_tidy, settled_length, settled_slot, settled_shape, settled_passes}
use Rattle.soundness.proofs.Lent.{new_lent, tidied_lent, committed_lent}
use Rattle.soundness.proofs.Header.{user_kept, header_passes}
use Rattle.soundness.proofs.Accepted.{Accepted, accepted_facts}

-- the shape that a commit leaves: the counters are those of the table, the generation has moved on by 2
unfoldable pub shape_after : List ℕ → List ℕ → Shape
shape_after image batch =
    let s = shape_of image in
    let n = new_count s.layout (is_live s image) batch in
    let given = with_slots s (s.slot_highwater + n) in
    write.counted_shape s (recounted given (tidied given (after_new s image batch n)))

-- What a commit leaves of an image.
pub record Committed (o : Options) (image batch image' : List ℕ) : Type 0 where
  pub size : length image' ≡ length image
  pub bytes : Bytes image'
  -- the header test and the full check pass, for this caller and, the header test, beside it
  pub whole : Whole o image'
  pub header : (role : ℕ) → role ≤ 2 → (role ≡ 0 → ⊥) → header_test (with_role o role) image' ≡ 0
  pub passes : passes (shape_of image') image' ≡ true
  pub shape : shape_of image' ≡ shape_after image batch
  pub user : user_fields image' ≡ user_fields image
  pub few : 4 * (shape_of image').bucket_tombstones ≤ (shape_of image).layout.bucket_count
  -- an old slot keeps its key, and is live if it was and its key is not deleted
  pub keys : (n : ℕ) → n < (shape_of image).slot_highwater → key_of (shape_of image).layout image' n ≡ key_of (shape_of image).layout image n
  pub lives : (n : ℕ) → n < (shape_of image).slot_highwater
      → (meta_of (shape_of image).layout image' n ≡ 1)
      ↔ ((meta_of (shape_of image).layout image n ≡ 1) × Spared (shape_of image) batch (record_count (shape_of image).layout batch) (key_of (shape_of image).layout image n))
  -- a new slot holds its record
  pub new : (q : ℕ) → q < new_count (shape_of image).layout (is_live (shape_of image) image) batch
      → Holds (shape_of image).layout image' ((shape_of image).slot_highwater + q)
      (record_at (shape_of image).layout batch (new_at (shape_of image).layout (is_live (shape_of image) image) batch q))

module _ (o : Options) (image batch : List ℕ) (lent : Bytes image) (lent-batch : Bytes batch) (facts : Accepted o image batch) where
  abbrev s : Shape
  s = shape_of image

  abbrev count : ℕ
  count = new_count s.layout (is_live s image) batch

  abbrev n : ℕ
  n = s.slot_highwater + count

  abbrev grown : List ℕ
  grown = after_new s image batch count

  abbrev image' : List ℕ
  image' = committed s image batch

  has_grown : Grown s image batch count grown
  has_grown = new_grown s image batch facts.ready count (le_refl _)

  kept : Kept s image batch (record_count s.layout batch) (after_live s image batch (record_count s.layout batch))
  kept = live_kept s image batch facts.ready.fit facts.ready.formed (record_count s.layout batch) (le_refl _)

  head : shape_of grown ≡ s
  head = around_shape has_grown.around

  header' : (role : ℕ) → role ≤ 2 → (role ≡ 0 → ⊥) → header_test (with_role o role) image' ≡ 0
  unfolding committed
  header' =
      header_passes o image (header_holds o image facts.header) n grown has_grown.around head has_grown.fit has_grown.formed
      facts.more (tidied_lent (with_slots s n) grown (new_lent s batch lent-batch image lent count)) facts.dirty

  user' : user_fields image' ≡ user_fields image
  unfolding committed
  user' = user_kept o image (header_holds o image facts.header) n grown has_grown.around head has_grown.fit has_grown.formed

  more : value grown F.generation + 2 < 2 ^ 64
  more = rw (around_generation has_grown.around) facts.more

  passes' : passes (shape_of image') image' ≡ true
  unfolding committed
  passes' = settled_passes s n grown head has_grown.fit has_grown.formed more

  shape' : shape_of image' ≡ shape_after image batch
  unfolding committed shape_after
  shape' = settled_shape s n grown head has_grown.fit has_grown.formed more

  few' : 4 * (shape_of image').bucket_tombstones ≤ s.layout.bucket_count
  unfolding shape_after recounted with_slots with_counters
  few' = rw shape' (is_tidy s n grown head has_grown.fit has_grown.formed).few

  -- a slot reads as it did before the end
  slot' : (m : ℕ) → m < s.layout.slot_capacity → SameSlot s.layout grown image' m
  unfolding committed
  slot' = settled_slot s n grown head has_grown.fit has_grown.formed

  old' : (m : ℕ) → m < s.slot_highwater → SameSlot s.layout (after_live s image batch (record_count s.layout batch)) image' m
  old' m l = same_slot_then (has_grown.old m l) (slot' m (omega (arith, facts.ready.fit.highwater)))

  new' : (q : ℕ) → q < count → Holds s.layout image' (s.slot_highwater + q) (record_at s.layout batch (new_at s.layout (is_live s image) batch q))
  new' q l = holds_then (has_grown.new q l) (slot' (s.slot_highwater + q) (omega (arith, facts.ready.room)))

  committed_image : Committed o image batch image'
  unfolding committed
  committed_image =
      let whole = header' o.role facts.role.0 facts.role.1 in
      record {
        size = settled_length s n grown head has_grown.fit has_grown.formed ∙ has_grown.around.size;
        bytes = committed_lent s image batch lent lent-batch;
        whole = passes_whole o image' whole passes';
        header = header';
        passes = passes';
        shape = shape';
        user = user';
        few = few';
        keys = λ m l. (old' m l).key ∙ kept.keys m (omega (arith, facts.ready.fit.highwater));
        lives = λ m l. (λ e. (kept.lives m l).0 (sym (old' m l).meta ∙ e), λ e. (old' m l).meta ∙ (kept.lives m l).1 e);
        new = new';
      }

-- An accepted commit leaves an image that is whole again, with few tombstones, and the slots that the batch asks for.
pub accepted_commit : (o : Options) (image batch : List ℕ) → Bytes image → Bytes batch → first_of (commit_tests o image batch) ≡ 0
    → ((commit_of o image batch).answer ≡ 0) × Committed o image batch (commit_of o image batch).image
unfolding commit_of
accepted_commit o image batch lent lent-batch e =
    rw e (refl, committed_image o image batch lent lent-batch (accepted_facts o image batch e lent))
