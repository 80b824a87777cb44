-- An accepted commit acts on the map that lookup reads as its puts and deletes do, one after the other.
-- Assumes nothing.
use Prim.Native.Nat.{ℕ, ◌+◌, ◌^◌, ◌<◌}
use mathlib.Core.Bool.{Bool, true, false, cond}
use mathlib.Core.Path.{◌≡◌, refl, sym, ap, ◌∙◌}
use mathlib.Core.Logic.{◌⊎◌, inl, inr}
use mathlib.Core.List.{List}
use mathlib.Core.Option.{Option, some, none}
use native.Mathlib.Nat.{le_refl}
use lib.Dec.{eqb}
use borrow.Author.Tests.{eqb-true, eq-eqb}
use Rattle.probing.proofs.Keys.{not_both}
use Rattle.header.specs.declared.options.Options.{Options}
use Rattle.header.specs.declared.shape.Shape.{Shape}
use Rattle.header.specs.Fields as F
use Rattle.header.specs.Fields.{value}
use Rattle.header.specs.FirstOf.{first_of}
use Rattle.header.specs.HeaderTest.{shape_of}
use Rattle.image.specs.Lookup.{is_live}
use Rattle.numbers.specs.Bytes.{Bytes}
use Rattle.slots.proofs.Table.Around.{around_generation, around_shape}
use Rattle.batch.specs.Batch.{record_count, record_at, meta_in, record_key}
use Rattle.batch.specs.NewKeys.{new_count, rank, new_at}
use Rattle.header.specs.Counters.{with_slots}
use Rattle.soundness.specs.Apply.{after_live, after_new, committed}
use Rattle.soundness.specs.Commit.{commit_tests, commit_of}
use Rattle.maps.specs.Map.{Entry, map_of, entry_in, applied}
use Rattle.batch.proofs.NewRanks.{is_new_lem, new_is, new_at_lem, rank_inside, new_placed}
use Rattle.soundness.proofs.Grown.{Ready, new_grown}
use Rattle.soundness.proofs.Accepted.{accepted_facts}
use Rattle.maps.proofs.Applied.{said, Deciding, Unnamed, deciding_one, deciding_or_unnamed, applied_unnamed, applied_deciding}
use Rattle.maps.proofs.MapSlots.{Has, Lacks, has_live, lacks_live, has_or_lacks, map_has, map_lacks}
use Rattle.maps.proofs.MapLive.{if_there, live_unnamed, live_decided}
use Rattle.maps.proofs.MapNew.{new_deciding, new_not, new_one}
use Rattle.maps.proofs.MapSettled.{settled_map}

module _ (s : Shape) (image batch : List ℕ) (ready : Ready s image batch) (k : List ℕ) where
  abbrev total : ℕ
  total = new_count s.layout (is_live s image) batch

  abbrev after : Option Entry
  after = map_of (with_slots s (s.slot_highwater + total)) (after_new s image batch total) k

  -- where k is not new, its deciding record did all
  not_new : ((q : ℕ) → q < total → record_key s.layout batch (new_at s.layout (is_live s image) batch q) ≡ k → ⊥) → after ≡ map_of s (after_live s image batch (record_count s.layout batch)) k
  not_new = new_not s image batch ready k

  module _ (i : ℕ) (d : Deciding s batch k i) where
    -- a key that the image has is not new
    on_there : (n : ℕ) → Has s image k n → after ≡ said s (record_at s.layout batch i)
    on_there n has = not_new old ∙ live_decided s image batch ready.fit ready.formed k i d ∙ ap (λ (x : Option Entry). if_there x (said s (record_at s.layout batch i))) (map_has s image ready.formed.sound k n has)
      where
        old : (q : ℕ) → q < total → record_key s.layout batch (new_at s.layout (is_live s image) batch q) ≡ k → ⊥
        old q l key =
            let new = (is_new_lem s.layout (is_live s image) batch _ (new_at_lem s.layout (is_live s image) batch q l).new).absent in
            not_both (has_live s image ready.formed.sound k n has) (sym (ap (is_live s image) key) ∙ new)

    -- a key that it has not is new if it is put, and else has nothing still
    on_lacking : Lacks s image k → after ≡ said s (record_at s.layout batch i)
    on_lacking lacks = go (eqb (meta_in (record_at s.layout batch i)) 1) refl
      where
        go : (put : Bool) → eqb (meta_in (record_at s.layout batch i)) 1 ≡ put → after ≡ cond put (some (entry_in s (record_at s.layout batch i))) none
        go true put =
            let absent = ap (is_live s image) d.key ∙ lacks_live s image ready.formed.sound k lacks in
            let new = new_is s.layout (is_live s image) batch i (record { decides = d.deciding; meta = eqb-true _ _ put; absent = absent }) in
            new_one s image batch ready k i d (rank s.layout (is_live s image) batch i) (rank_inside s.layout (is_live s image) batch i d.below new) (new_placed s.layout (is_live s image) batch i d.below new)
        go false put =
            not_new spared ∙ live_decided s image batch ready.fit ready.formed k i d ∙ ap (λ (x : Option Entry). if_there x (said s (record_at s.layout batch i))) (map_lacks s image ready.formed.sound k lacks)
          where
            spared : (q : ℕ) → q < total → record_key s.layout batch (new_at s.layout (is_live s image) batch q) ≡ k → ⊥
            spared q l key =
                let same = deciding_one s batch k _ i (new_deciding s image batch ready k q l key) d in
                let meta = (is_new_lem s.layout (is_live s image) batch _ (new_at_lem s.layout (is_live s image) batch q l).new).meta in
                not_both (eq-eqb _ _ (ap (λ (j : ℕ). meta_in (record_at s.layout batch j)) (sym same) ∙ meta)) put

  -- Before the header is written: key by key, the map is that of the batch applied.
  before_settling : after ≡ applied s batch (map_of s image) k
  before_settling = go (deciding_or_unnamed s batch k) (has_or_lacks s image ready.formed.sound k)
    where
      go : ((i : ℕ) × Deciding s batch k i) ⊎ Unnamed s batch k → ((n : ℕ) × Has s image k n) ⊎ Lacks s image k → after ≡ applied s batch (map_of s image) k
      go (inl d) (inl has) = on_there d.0 d.1 has.0 has.1 ∙ sym (applied_deciding s batch (map_of s image) k d.0 d.1)
      go (inl d) (inr lacks) = on_lacking d.0 d.1 lacks ∙ sym (applied_deciding s batch (map_of s image) k d.0 d.1)
      go (inr unnamed) r =
          not_new (λ q l key. unnamed _ (new_at_lem s.layout (is_live s image) batch q l).inside key)
          ∙ live_unnamed s image batch ready.fit ready.formed k (λ i d. unnamed i d.below d.key)
          ∙ sym (applied_unnamed s batch (map_of s image) k unnamed)

-- The map after a commit, read by the new header, is the batch applied to the map before.
pub map_law : (image batch : List ℕ) → Ready (shape_of image) image batch → value image F.generation + 2 < 2 ^ 64 → (k : List ℕ)
    → map_of (shape_of (committed (shape_of image) image batch)) (committed (shape_of image) image batch) k
    ≡ applied (shape_of image) batch (map_of (shape_of image) image) k
unfolding committed
map_law image batch ready more k =
    let s = shape_of image in
    let grown = new_grown s image batch ready (new_count s.layout (is_live s image) batch) (le_refl _) in
    settled_map s (s.slot_highwater + new_count s.layout (is_live s image) batch) (after_new s image batch (new_count s.layout (is_live s image) batch))
    (around_shape grown.around) grown.fit grown.formed (rw (around_generation grown.around) more) k
    ∙ before_settling s image batch ready k

-- A commit that no test refuses does so.
pub commit_map : (o : Options) (image batch : List ℕ) → Bytes image → first_of (commit_tests o image batch) ≡ 0 → (k : List ℕ)
    → map_of (shape_of (commit_of o image batch).image) (commit_of o image batch).image k
    ≡ applied (shape_of image) batch (map_of (shape_of image) image) k
unfolding commit_of
commit_map o image batch bytes z k =
    let facts = accepted_facts o image batch z bytes in
    rw z (map_law image batch facts.ready facts.more k)
