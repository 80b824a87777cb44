-- What the records do to live keys: a put rewrites, a delete takes the key's slot out of the index, and all else stays.
-- Assumes nothing.
use Prim.Native.Nat.{ℕ, zero, suc, ◌≤◌, ◌<◌}
use mathlib.Core.Bool.{Bool, true, false, cond, not, ◌&&◌}
use mathlib.Core.Path.{◌≡◌, refl, sym, ap, subst, ◌∙◌}
use mathlib.Core.Logic.{◌↔◌}
use mathlib.Core.List.{List}
use native.Mathlib.Nat.{mod-lt}
use native.Mathlib.Omega.{arith}
use lib.Dec.{eqb}
use borrow.Author.Tests.{eq-eqb}
use Rattle.probing.specs.Probe.{Probed, found, absent, broken, last_of, probe}
use Rattle.probing.specs.Change.{deleted}
use Rattle.probing.specs.Clip.{clip}
use Rattle.probing.proofs.Counting.{one_more}
use Rattle.probing.proofs.Keys.{not_both}
use Rattle.probing.proofs.Reading.{never_broken, found_iff, absent_iff}
use Rattle.probing.proofs.Clip.{probe_clip}
use Rattle.header.specs.declared.shape.Shape.{Shape}
use Rattle.header.specs.Shaped.{Shaped}
use Rattle.image.specs.Table.{meta_of, key_of, bucket_of, table_of}
use Rattle.image.specs.Lookup.{probe_of, is_live}
use Rattle.slots.specs.Slots.{rewritten, removed}
use Rattle.slots.proofs.Table.Around.{Around, around_self, around_then, around_shaped}
use Rattle.slots.proofs.Table.Rewritten.{rewritten_around, rewritten_meta, rewritten_key, rewritten_bucket, rewritten_table}
use Rattle.slots.proofs.Table.Removed.{removed_around, removed_meta, removed_other, removed_body, removed_table}
use Rattle.batch.specs.Batch.{record_count, record_at, meta_in, record_key, decides}
use Rattle.batch.specs.NewKeys.{is_new}
use Rattle.soundness.specs.Apply.{on_live, acted, acted_to, after_live}
use Rattle.batch.proofs.Records.{record_length}
use Rattle.batch.proofs.NewRanks.{is_new_lem}
use Rattle.soundness.proofs.Formed.{Formed, formed_clip, clip_formed, deleted_formed}

-- Record i decides and deletes key k.
pub record Deletes (s : Shape) (batch : List ℕ) (k : List ℕ) (i : ℕ) : Type 0 where
  pub decides : decides s.layout batch i ≡ true
  pub meta : eqb (meta_in (record_at s.layout batch i)) 1 ≡ false
  pub key : record_key s.layout batch i ≡ k

-- no record below i deletes key k
abbrev pub Spared : Shape → List ℕ → ℕ → List ℕ → Type 0
Spared s batch i k = (j : ℕ) → j < i → Deletes s batch k j → ⊥

-- every record below i is a put
abbrev pub Puts : Shape → List ℕ → ℕ → Type 0
Puts s batch i = (j : ℕ) → j < i → eqb (meta_in (record_at s.layout batch j)) 1 ≡ true

-- What the records below i leave.
pub record Kept (s : Shape) (image batch : List ℕ) (i : ℕ) (image' : List ℕ) : Type 0 where
  pub around : Around image image'
  pub fit : Shaped s image'
  pub formed : Formed s.layout.ordered (table_of s image')
  pub keys : (n : ℕ) → n < s.layout.slot_capacity → key_of s.layout image' n ≡ key_of s.layout image n
  -- a slot is live if it was and its key is not deleted
  pub lives : (n : ℕ) → n < s.slot_highwater → (meta_of s.layout image' n ≡ 1) ↔ ((meta_of s.layout image n ≡ 1) × Spared s batch i (key_of s.layout image n))
  -- puts leave the buckets alone
  pub buckets : Puts s batch i → (b : ℕ) → bucket_of s.layout image' b ≡ bucket_of s.layout image b

module _ (s : Shape) (batch : List ℕ) where
  spared_more : (i : ℕ) (k : List ℕ) → Spared s batch i k → (Deletes s batch k i → ⊥) → Spared s batch (suc i) k
  spared_more i k h here = one_more {P = λ j. Deletes s batch k j → ⊥} i h here

  spared_less : (i : ℕ) (k : List ℕ) → Spared s batch (suc i) k → Spared s batch i k
  spared_less i k h j l = h j (omega arith)

module _ (s : Shape) (image batch : List ℕ) (i : ℕ) (before : List ℕ) (kept : Kept s image batch i before) where
  abbrev key : List ℕ
  key = record_key s.layout batch i

  highwater_inside : (n : ℕ) → n < s.slot_highwater → n < s.layout.slot_capacity
  highwater_inside n l = omega (arith, kept.fit.highwater)

  -- a record that deletes no live key leaves the image, or one with the same live slots, keys and buckets
  stays : (after : List ℕ) → Around before after → Formed s.layout.ordered (table_of s after)
      → ((n : ℕ) → meta_of s.layout after n ≡ meta_of s.layout before n) → ((n : ℕ) → key_of s.layout after n ≡ key_of s.layout before n)
      → ((b : ℕ) → bucket_of s.layout after b ≡ bucket_of s.layout before b)
      → ((n : ℕ) → n < s.slot_highwater → meta_of s.layout before n ≡ 1 → key_of s.layout before n ≡ key → Deletes s batch key i → ⊥)
      → Kept s image batch (suc i) after
  stays after around formed metas keys buckets none =
      record {
        around = around_then kept.around around;
        fit = around_shaped around kept.fit;
        formed = formed;
        keys = λ n l. keys n ∙ kept.keys n l;
        lives = λ n l. (
          λ e. let was = (kept.lives n l).0 (sym (metas n) ∙ e) in (was.0, spared_more s batch i _ was.1 (here n l (sym (metas n) ∙ e))),
          λ e. metas n ∙ (kept.lives n l).1 (e.0, spared_less s batch i _ e.1),
        );
        buckets = λ puts b. buckets b ∙ kept.buckets (λ j l. puts j (omega arith)) b;
      }
    where
      here : (n : ℕ) → n < s.slot_highwater → meta_of s.layout before n ≡ 1 → Deletes s batch (key_of s.layout image n) i → ⊥
      here n l alive d =
          let same = kept.keys n (highwater_inside n l) in
          none n l alive (same ∙ sym d.key) (record { decides = d.decides; meta = d.meta; key = refl })

  -- a record that does not decide
  undecided : decides s.layout batch i ≡ false → Kept s image batch (suc i) before
  undecided e =
      stays before around_self kept.formed (λ n. refl) (λ n. refl) (λ b. refl)
      (λ n l alive k d. not_both d.decides e)

  -- a record whose key is new waits
  waits : is_new s.layout (is_live s image) batch i ≡ true → Kept s image batch (suc i) before
  waits new =
      stays before around_self kept.formed (λ n. refl) (λ n. refl) (λ b. refl)
      (λ n l alive k d. not_both (eq-eqb _ 1 (is_new_lem s.layout (is_live s image) batch i new).meta) d.meta)

  -- a record whose key is absent
  on_absent : (count : ℕ) → probe (table_of s before) key ≡ absent count → Kept s image batch (suc i) before
  unfolding table_of
  on_absent count e =
      stays before around_self kept.formed (λ n. refl) (λ n. refl) (λ b. refl)
      (λ n l alive k d. (absent_iff (table_of s before) kept.formed.sound key).0 (count, e) n l alive k)

  module _ (inside : i < record_count s.layout batch) (n count : ℕ) (e : probe (table_of s before) key ≡ found n count) where
    hit : (n < s.slot_highwater) × (meta_of s.layout before n ≡ 1) × (key_of s.layout before n ≡ key)
    unfolding table_of
    hit = (found_iff (table_of s before) kept.formed.sound key n).0 (count, e)

    -- "Put on a live key"
    on_put : eqb (meta_in (record_at s.layout batch i)) 1 ≡ true → Kept s image batch (suc i) (rewritten s.layout before n (record_at s.layout batch i))
    on_put put =
        let bytes = record_at s.layout batch i in
        let size = record_length s.layout batch i inside in
        let l = highwater_inside n hit.0 in
        stays (rewritten s.layout before n bytes) (rewritten_around s before kept.fit n l bytes size)
        (clip_formed _ (subst (Formed s.layout.ordered) (sym (rewritten_table s before kept.fit n l bytes size)) (formed_clip _ kept.formed)))
        (rewritten_meta s before kept.fit n l bytes size) (rewritten_key s before kept.fit n l bytes size)
        (rewritten_bucket s before kept.fit n l bytes size)
        (λ m l alive k d. not_both put d.meta)

    -- "Delete on a live key"
    module _ (turn : decides s.layout batch i ≡ true) (delete : eqb (meta_in (record_at s.layout batch i)) 1 ≡ false) where
      abbrev bucket : ℕ
      bucket = last_of (table_of s before) key count

      abbrev after : List ℕ
      after = removed s.layout before n bucket

      inside_buckets : bucket < s.layout.bucket_count
      unfolding table_of
      inside_buckets = mod-lt _ (omega (arith, kept.fit.laid.room))

      inside_slots : n < s.layout.slot_capacity
      inside_slots = highwater_inside n hit.0

      delete_table : clip (table_of s after) ≡ deleted (clip (table_of s before)) key
      unfolding table_of
      delete_table = removed_table s before kept.fit n bucket inside_slots inside_buckets key count e refl

      delete_formed : Formed s.layout.ordered (table_of s after)
      unfolding table_of
      delete_formed =
          clip_formed _ (subst (Formed s.layout.ordered) (sym delete_table)
          (deleted_formed (clip (table_of s before)) (formed_clip _ kept.formed) key n count
          (probe_clip (table_of s before) (omega (arith, kept.fit.laid.room)) key ∙ e)))

      -- a slot is live if it was and is not the one
      left : (m : ℕ) → m < s.slot_highwater → (meta_of s.layout after m ≡ 1) ↔ ((meta_of s.layout before m ≡ 1) × (m ≡ n → ⊥))
      left m l = (λ a. (sym (other m l (gone m a)) ∙ a, gone m a), λ b. other m l b.1 ∙ b.0)
        where
          other : (m : ℕ) → m < s.slot_highwater → (m ≡ n → ⊥) → meta_of s.layout after m ≡ meta_of s.layout before m
          other m l = removed_other s before kept.fit n bucket inside_slots inside_buckets m (highwater_inside m l)

          gone : (m : ℕ) → meta_of s.layout after m ≡ 1 → m ≡ n → ⊥
          gone m a same =
              let z : meta_of s.layout after m ≡ 0 = ap (meta_of s.layout after) same ∙ removed_meta s before kept.fit n bucket inside_slots inside_buckets in
              omega arith

      -- the slot with the key is the one
      the_one : (m : ℕ) → m < s.slot_highwater → meta_of s.layout before m ≡ 1 → key_of s.layout image m ≡ key → m ≡ n
      unfolding table_of
      the_one m l alive k =
          kept.formed.sound.different m n l hit.0 alive hit.1 (kept.keys m (highwater_inside m l) ∙ k ∙ sym hit.2)

      on_delete : Kept s image batch (suc i) after
      on_delete =
          let around = removed_around s before kept.fit n bucket inside_slots inside_buckets in
          record {
            around = around_then kept.around around;
            fit = around_shaped around kept.fit;
            formed = delete_formed;
            keys = λ m l. (removed_body s before kept.fit n bucket inside_slots inside_buckets m l).key ∙ kept.keys m l;
            lives = λ m l. (λ a. gone m l ((left m l).0 a), λ b. (left m l).1 ((kept.lives m l).1 (b.0, spared_less s batch i _ b.1), apart m b));
            buckets = λ puts b. absurd (not_both (puts i (omega arith)) delete);
          }
        where
          gone : (m : ℕ) (l : m < s.slot_highwater) → (meta_of s.layout before m ≡ 1) × (m ≡ n → ⊥)
              → (meta_of s.layout image m ≡ 1) × Spared s batch (suc i) (key_of s.layout image m)
          gone m l b =
              let was = (kept.lives m l).0 b.0 in
              (was.0, spared_more s batch i _ was.1 (λ d. b.1 (the_one m l b.0 (sym d.key))))

          apart : (m : ℕ) → (meta_of s.layout image m ≡ 1) × Spared s batch (suc i) (key_of s.layout image m) → m ≡ n → ⊥
          apart m b same =
              let k = ap (key_of s.layout image) same ∙ sym (kept.keys n inside_slots) ∙ hit.2 in
              b.1 i (omega arith) (record { decides = turn; meta = delete; key = sym k })

  -- one record more
  pub acted_kept : i < record_count s.layout batch → Kept s image batch (suc i) (acted s (is_new s.layout (is_live s image) batch) batch i before)
  unfolding acted probe_of record_key
  acted_kept inside = turn (decides s.layout batch i) (is_new s.layout (is_live s image) batch i) refl refl
    where
      by_meta : decides s.layout batch i ≡ true → (n count : ℕ) → probe (table_of s before) key ≡ found n count → (put : Bool)
          → eqb (meta_in (record_at s.layout batch i)) 1 ≡ put
          → Kept s image batch (suc i) (cond put (rewritten s.layout before n (record_at s.layout batch i))
          (removed s.layout before n (last_of (table_of s before) key count)))
      by_meta d n count e true put = on_put inside n count e put
      by_meta d n count e false put = on_delete inside n count e d put

      by_probe : decides s.layout batch i ≡ true → (p : Probed) → probe (table_of s before) key ≡ p → Kept s image batch (suc i) (on_live s before (record_at s.layout batch i) p)
      by_probe d (found n count) e = by_meta d n count e (eqb (meta_in (record_at s.layout batch i)) 1) refl
      by_probe d (absent count) e = on_absent count e
      by_probe d broken e = absurd (never_broken (table_of s before) kept.formed.sound key e)

      turn : (d new : Bool) → decides s.layout batch i ≡ d → is_new s.layout (is_live s image) batch i ≡ new
          → Kept s image batch (suc i) (cond (d && not new) (on_live s before (record_at s.layout batch i) (probe (table_of s before) key)) before)
      turn true true d e = waits e
      turn true false d e = by_probe d (probe (table_of s before) key) refl
      turn false new d e = undecided d

-- after the records below i
pub live_kept : (s : Shape) (image batch : List ℕ) → Shaped s image → Formed s.layout.ordered (table_of s image)
    → (i : ℕ) → i ≤ record_count s.layout batch → Kept s image batch i (after_live s image batch i)
unfolding after_live acted_to
live_kept s image batch fit formed zero l =
    record {
      around = around_self;
      fit = fit;
      formed = formed;
      keys = λ n l. refl;
      lives = λ n l. (λ e. (e, λ j m. absurd (omega arith)), λ e. e.0);
      buckets = λ puts b. refl;
    }
live_kept s image batch fit formed (suc i) l =
    acted_kept s image batch i (after_live s image batch i) (live_kept s image batch fit formed i (omega arith)) (omega arith)
