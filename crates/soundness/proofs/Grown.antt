-- What the new keys add: each is the next slot, live and in the index, and all else stays.
-- Assumes nothing.
use Prim.Native.Nat.{ℕ, zero, suc, ◌+◌, ◌-◌, ◌≤◌, ◌<◌}
use mathlib.Core.Bool.{Bool, true, false, not, ◌&&◌}
use mathlib.Core.Path.{◌≡◌, refl, sym, ap, subst, ◌∙◌}
use mathlib.Core.Logic.{◌⊎◌, inl, inr}
use mathlib.Core.List.{List}
use native.Mathlib.Nat.{le_refl, add-zero}
use native.Mathlib.Decide.{dec_lt, ℕ_discrete}
use native.Mathlib.Omega.{arith}
use lib.ListN.{length}
use borrow.Author.Tests.{lt-ltb, not-true}
use Rattle.numbers.specs.Bytes.{below}
use Rattle.probing.specs.Table.{Table, is_full}
use Rattle.probing.specs.Report.{Missing, Hint}
use Rattle.probing.specs.Change.{place, inserted}
use Rattle.probing.specs.Clip.{clip}
use Rattle.probing.specs.Counting.{all_to}
use Rattle.probing.proofs.Counting.{all_at, one_more}
use Rattle.probing.proofs.Keys.{not_both, not_true_false, both_and}
use Rattle.probing.proofs.Place.{place_stays}
use Rattle.probing.proofs.Reading.{absent_iff}
use Rattle.header.specs.declared.shape.Shape.{Shape}
use Rattle.header.specs.Shaped.{Shaped}
use Rattle.image.specs.Table.{meta_of, key_of, bucket_of, table_of}
use Rattle.image.specs.Lookup.{probe_of, is_live}
use Rattle.image.specs.Check.{passes}
use Rattle.slots.specs.Slots.{appended}
use Rattle.slots.proofs.Table.Around.{Around, around_then, around_shaped, SameSlot, same_slot_self, same_slot_then}
use Rattle.slots.proofs.Table.Appended.{Holds, holds_then, grown, grown_shaped, appended_around, appended_other, appended_new, appended_full, appended_table}
use Rattle.batch.specs.Batch.{record_count, record_at, meta_in, key_in, record_key}
use Rattle.batch.specs.NewKeys.{is_new, new_count, new_at}
use Rattle.header.specs.Counters.{with_counters, with_slots}
use Rattle.soundness.specs.Apply.{after_live, after_new}
use Rattle.soundness.specs.Commit.{falls_behind}
use Rattle.batch.proofs.Records.{record_length}
use Rattle.soundness.proofs.Formed.{Formed, formed_clip, clip_formed, inserted_formed, passes_formed}
use Rattle.soundness.proofs.Live.{Puts, Kept, live_kept}
use Rattle.image.proofs.Looked.{not_live}
use Rattle.batch.proofs.NewRanks.{is_new_lem, new_at_lem, keys_differ, keys_rise}

-- as many slots as it has, and one slot more
pub as_many : (s : Shape) → with_slots s (s.slot_highwater + 0) ≡ s
unfolding with_slots with_counters
as_many s = ap (with_slots s) (add-zero s.slot_highwater)

pub slot_more : (s : Shape) (r : ℕ) → with_slots s (s.slot_highwater + suc r) ≡ grown (with_slots s (s.slot_highwater + r))
unfolding with_slots with_counters
slot_more s r =
    let e : s.slot_highwater + suc r ≡ s.slot_highwater + r + 1 = omega arith in
    ap (with_slots s) e

-- A batch may be committed to an image: the table is well formed, and the new keys have room and do not fall behind.
pub record Ready (s : Shape) (image batch : List ℕ) : Type 0 where
  pub fit : Shaped s image
  pub formed : Formed s.layout.ordered (table_of s image)
  pub room : s.slot_highwater + new_count s.layout (is_live s image) batch ≤ s.layout.slot_capacity
  pub ahead : falls_behind s image batch ≡ false

-- it may, where the full check passes
pub may_commit : (s : Shape) (image batch : List ℕ) → Shaped s image → passes s image ≡ true
    → s.slot_highwater + new_count s.layout (is_live s image) batch ≤ s.layout.slot_capacity → falls_behind s image batch ≡ false → Ready s image batch
unfolding passes table_of
may_commit s image batch fit passed room ahead =
    record {
      fit = fit;
      formed =
          passes_formed (table_of s image) s.live_count s.bucket_tombstones passed fit.counters (omega (arith, fit.highwater, fit.laid.room));
      room = room;
      ahead = ahead;
    }

-- What the new keys of ranks below r leave, by slots given out.
pub record Grown (s : Shape) (image batch : List ℕ) (r : ℕ) (image' : List ℕ) : Type 0 where
  pub around : Around image image'
  pub fit : Shaped (with_slots s (s.slot_highwater + r)) image'
  pub formed : Formed s.layout.ordered (table_of (with_slots s (s.slot_highwater + r)) image')
  -- old slots are as the records left them
  pub old : (n : ℕ) → n < s.slot_highwater → SameSlot s.layout (after_live s image batch (record_count s.layout batch)) image' n
  -- a new slot holds its record
  pub new : (q : ℕ) → q < r → Holds s.layout image' (s.slot_highwater + q) (record_at s.layout batch (new_at s.layout (is_live s image) batch q))
  -- a bucket that the records left FULL is FULL still
  pub full : (b : ℕ) → is_full (bucket_of s.layout (after_live s image batch (record_count s.layout batch)) b) ≡ true → is_full (bucket_of s.layout image' b) ≡ true

-- if ordered, no new key is below that of the last slot
not_behind : (s : Shape) (image batch : List ℕ) → falls_behind s image batch ≡ false → s.layout.ordered ≡ true → 0 < s.slot_highwater
    → (i : ℕ) → i < record_count s.layout batch → is_new s.layout (is_live s image) batch i ≡ true → below (record_key s.layout batch i) (key_of s.layout image (s.slot_highwater - 1)) ≡ false
unfolding falls_behind
not_behind s image batch ahead ordered some i l new =
    not_true_false _ (λ b. not_both (both_and new b) (not-true _ (all_at (record_count s.layout batch) _ every i l)))
  where
    every : all_to (record_count s.layout batch) (λ i. not (is_new s.layout (is_live s image) batch i && below (record_key s.layout batch i) (key_of s.layout image (s.slot_highwater - 1)))) ≡ true
    every = go _ _ (both_and ordered (lt-ltb 0 s.slot_highwater some)) ahead
      where
        go : (a b : Bool) → a ≡ true → a && not b ≡ false → b ≡ true
        go true true e f = refl
        go true false e f = sym f
        go false true e f = refl
        go false false e f = e

-- a table without a key, or with a last key, is so within its ends
module _ (t : Table) (k : List ℕ) where
  clip_none : ((m : ℕ) → m < t.highwater → t.meta m ≡ 1 → t.key m ≡ k → ⊥) → (m : ℕ) → m < t.highwater → (clip t).meta m ≡ 1 → (clip t).key m ≡ k → ⊥
  unfolding clip
  clip_none none m l alive keyed = let in-it = lt-ltb m t.highwater l in none m l (rw in-it at alive) (rw in-it at keyed)

  clip_last : (t.highwater ≡ 0) ⊎ (below k (t.key (t.highwater - 1)) ≡ false)
      → (t.highwater ≡ 0) ⊎ (below k ((clip t).key (t.highwater - 1)) ≡ false)
  unfolding clip
  clip_last (inl e) = inl e
  clip_last (inr e) = go (ℕ_discrete t.highwater 0)
    where
      go : Dec (t.highwater ≡ 0) → (t.highwater ≡ 0) ⊎ (below k ((clip t).key (t.highwater - 1)) ≡ false)
      go (yes z) = inl z
      go (no some) = inr (rw (lt-ltb (t.highwater - 1) t.highwater (omega arith)) e)

module _ (s : Shape) (image batch : List ℕ) (ready : Ready s image batch) where
  abbrev live : List ℕ
  live = after_live s image batch (record_count s.layout batch)

  kept : Kept s image batch (record_count s.layout batch) live
  kept = live_kept s image batch ready.fit ready.formed (record_count s.layout batch) (le_refl _)

  module _ (r : ℕ) (l : r < new_count s.layout (is_live s image) batch) (before : List ℕ) (so : Grown s image batch r before) where
    abbrev t : Shape
    t = with_slots s (s.slot_highwater + r)

    abbrev i : ℕ
    i = new_at s.layout (is_live s image) batch r

    abbrev bytes : List ℕ
    bytes = record_at s.layout batch i

    abbrev after : List ℕ
    after = appended t before bytes

    room : s.slot_highwater + r < s.layout.slot_capacity
    room = omega (arith, ready.room)

    size : length bytes ≡ s.layout.slot_size
    size = record_length s.layout batch i (new_at_lem s.layout (is_live s image) batch r l).inside

    -- no live slot has the key
    old_none : (m : ℕ) → m < s.slot_highwater → meta_of s.layout before m ≡ 1 → key_of s.layout before m ≡ record_key s.layout batch i → ⊥
    unfolding table_of probe_of
    old_none m lm alive keyed =
        let same = so.old m lm in
        let was = (kept.lives m lm).0 (sym same.meta ∙ alive) in
        let absent = not_live s image ready.formed.sound (record_key s.layout batch i) (is_new_lem s.layout (is_live s image) batch i (new_at_lem s.layout (is_live s image) batch r l).new).absent in
        (absent_iff (table_of s image) ready.formed.sound (record_key s.layout batch i)).0 absent m lm was.0
        (sym (kept.keys m (omega (arith, ready.fit.highwater))) ∙ sym same.key ∙ keyed)

    new_none : (q : ℕ) → q < r → key_of s.layout before (s.slot_highwater + q) ≡ record_key s.layout batch i → ⊥
    unfolding record_key key_in
    new_none q lq keyed =
        let same = keys_differ s.layout (is_live s image) batch q r (omega arith) l (sym (so.new q lq).key ∙ keyed) in
        omega arith

    none : (m : ℕ) → m < s.slot_highwater + r → meta_of s.layout before m ≡ 1 → key_of s.layout before m ≡ record_key s.layout batch i → ⊥
    none m lm alive keyed = go (dec_lt m s.slot_highwater)
      where
        go : Dec (m < s.slot_highwater) → ⊥
        go (yes old) = old_none m old alive keyed
        go (no new) =
            let at : s.slot_highwater + (m - s.slot_highwater) ≡ m = omega arith in
            new_none (m - s.slot_highwater) (omega arith) (ap (key_of s.layout before) at ∙ keyed)

    -- if ordered, the key is not below the last one
    last : s.layout.ordered ≡ true → (s.slot_highwater + r ≡ 0) ⊎ (below (record_key s.layout batch i) (key_of s.layout before (s.slot_highwater + r - 1)) ≡ false)
    unfolding record_key key_in
    last ordered = go (ℕ_discrete r 0) (ℕ_discrete s.slot_highwater 0)
      where
        by_key : (m : ℕ) (k : List ℕ) → s.slot_highwater + r - 1 ≡ m → key_of s.layout before m ≡ k → below (record_key s.layout batch i) k ≡ false
            → below (record_key s.layout batch i) (key_of s.layout before (s.slot_highwater + r - 1)) ≡ false
        by_key m k at same b = ap (λ (n : ℕ). below (record_key s.layout batch i) (key_of s.layout before n)) at ∙ ap (below (record_key s.layout batch i)) same ∙ b

        go : Dec (r ≡ 0) → Dec (s.slot_highwater ≡ 0)
            → (s.slot_highwater + r ≡ 0) ⊎ (below (record_key s.layout batch i) (key_of s.layout before (s.slot_highwater + r - 1)) ≡ false)
        go (yes first) (yes bare) = inl (omega arith)
        go (yes first) (no some) =
            let m = s.slot_highwater - 1 in
            let new = new_at_lem s.layout (is_live s image) batch r l in
            inr (by_key m (key_of s.layout image m) (omega arith) ((so.old m (omega arith)).key ∙ kept.keys m (omega (arith, ready.fit.highwater)))
            (not_behind s image batch ready.ahead ordered (omega arith) i new.inside new.new))
        go (no later) z =
            let q = r - 1 in
            inr (by_key (s.slot_highwater + q) (record_key s.layout batch (new_at s.layout (is_live s image) batch q)) (omega arith) (so.new q (omega arith)).key
            (keys_rise s.layout (is_live s image) batch q r (omega arith) l ordered (omega arith)))

    grown_table : clip (table_of (grown t) after) ≡ inserted (clip (table_of t before)) (record_key s.layout batch i)
    unfolding with_slots with_counters record_key key_in meta_in
    grown_table = appended_table t before so.fit room bytes size (is_new_lem s.layout (is_live s image) batch i (new_at_lem s.layout (is_live s image) batch r l).new).meta

    grown_formed : Formed s.layout.ordered (table_of (grown t) after)
    unfolding table_of with_slots with_counters clip
    grown_formed =
        clip_formed _ (subst (Formed s.layout.ordered) (sym grown_table)
        (inserted_formed (clip (table_of t before)) (formed_clip _ so.formed) (record_key s.layout batch i)
        (clip_none (table_of t before) (record_key s.layout batch i) none) (omega (arith, room, ready.fit.laid.room))
        (λ o. clip_last (table_of t before) (record_key s.layout batch i) (last o))))

    -- slots lie where they lay
    grown_other : (m : ℕ) → m < s.slot_highwater + r → SameSlot s.layout before after m
    unfolding with_slots with_counters
    grown_other m lm = appended_other t before so.fit room bytes size m (omega (arith, room)) (λ e. absurd (omega arith))

    grown_new : Holds s.layout after (s.slot_highwater + r) bytes
    unfolding with_slots with_counters
    grown_new = appended_new t before so.fit room bytes size

    grown_around : Around before after
    unfolding with_slots with_counters
    grown_around = appended_around t before so.fit room bytes size

    grown_fit : Shaped (grown t) after
    unfolding with_slots with_counters
    grown_fit = grown_shaped t after (around_shaped (appended_around t before so.fit room bytes size) so.fit) room

    grown_full : (b : ℕ) → is_full (bucket_of s.layout before b) ≡ true → is_full (bucket_of s.layout after b) ≡ true
    unfolding with_slots with_counters
    grown_full = appended_full t before so.fit room bytes size

    pub appended_grown : Grown s image batch (suc r) after
    appended_grown =
        record {
          around = around_then so.around grown_around;
          fit = rw (slot_more s r) grown_fit;
          formed = rw (slot_more s r) grown_formed;
          old = λ n ln. same_slot_then (so.old n ln) (grown_other n (omega arith));
          new = one_more {P = λ q. Holds s.layout after (s.slot_highwater + q) (record_at s.layout batch (new_at s.layout (is_live s image) batch q))} r
              (λ q lq. holds_then (so.new q lq) (grown_other (s.slot_highwater + q) (omega arith))) grown_new;
          full = λ b f. grown_full b (so.full b f);
        }

  -- after the new keys of ranks below r
  pub new_grown : (r : ℕ) → r ≤ new_count s.layout (is_live s image) batch → Grown s image batch r (after_new s image batch r)
  unfolding after_new
  new_grown zero l =
      record {
        around = kept.around;
        fit = rw (as_many s) kept.fit;
        formed = rw (as_many s) kept.formed;
        old = λ n ln. same_slot_self;
        new = λ q lq. absurd (omega arith);
        full = λ b f. f;
      }
  new_grown (suc r) l = appended_grown r l (after_new s image batch r) (new_grown r (omega arith))

  -- the new key of rank r is not there when its turn comes
  pub new_missing : (r : ℕ) → r < new_count s.layout (is_live s image) batch
      → Missing (table_of (with_slots s (s.slot_highwater + r)) (after_new s image batch r)) (record_key s.layout batch (new_at s.layout (is_live s image) batch r))
  unfolding table_of with_slots with_counters
  new_missing r l = let so = new_grown r (omega arith) in (absent_iff _ so.formed.sound _).1 (none r l (after_new s image batch r) so)

  -- where every record is a put, the place that its key had at first is its place still, unless it is FULL by then
  pub new_hinted : Puts s batch (record_count s.layout batch) → (r : ℕ) → r < new_count s.layout (is_live s image) batch → (key : List ℕ)
      → Hint (table_of (with_slots s (s.slot_highwater + r)) (after_new s image batch r)) key (place (table_of s image) key)
  unfolding table_of with_slots with_counters
  new_hinted puts r l key inside free =
      let so = new_grown r (omega arith) in
      let vacant = ready.formed.sound.vacant in
      place_stays (table_of s image) (table_of (with_slots s (s.slot_highwater + r)) (after_new s image batch r)) refl refl key
      (λ b lb f. so.full b (ap is_full (kept.buckets puts b) ∙ f)) vacant.0 vacant.1 (ap is_full vacant.2) free
