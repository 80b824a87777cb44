-- The index over the records of a batch: what its entries say, and what one record more makes of it.
-- Assumes nothing.
use Prim.Native.Nat.{ℕ, zero, suc, ◌+◌, ◌-◌, ◌%◌, ◌≤◌, ◌<◌}
use mathlib.Core.Bool.{Bool, true, false, ◌&&◌}
use mathlib.Core.Path.{◌≡◌, refl, sym, ap, ◌∙◌}
use mathlib.Core.Logic.{◌⊎◌, inl, inr}
use mathlib.Core.List.{List, []}
use native.Mathlib.Nat.{mod-lt}
use native.Mathlib.Decide.{ℕ_discrete}
use native.Mathlib.Numerals.{add-one}
use native.Mathlib.Omega.{arith}
use lib.Dec.{eqb, ltb}
use lib.ListN.{set, get_or, length-set}
use lib.Seq.{get_or-set_same, get_or-set_other}
use borrow.Author.Tests.{ltb-true, eq-eqb, lt-leb}
use Rattle.numbers.specs.Bytes.{same}
use Rattle.digests.specs.Fnv.{fnv1a64}
use Rattle.probing.specs.Counting.{one}
use Rattle.probing.specs.Table.{Bucket, EMPTY, TOMBSTONE, FULL, Table, live, live_count, tombstone_count}
use Rattle.probing.specs.Change.{update, place, placed, rebuilt_to}
use Rattle.probing.specs.Probe as probe
use Rattle.probing.specs.Probe.{Probed, found, absent, last_of, count_of}
use Rattle.probing.specs.Report.{or_tombstone, Report, report}
use Rattle.probing.proofs.Counting.{count_le}
use Rattle.probing.proofs.Change.{by_update}
use Rattle.probing.proofs.Keys.{clash, not_both, not_true_false, and_both, same_eq}
use Rattle.probing.proofs.Place.{place_same}
use Rattle.probing.proofs.Placed.{up_to, probe_up_to}
use Rattle.probing.proofs.Rebuild.{over, rebuilt_over, Built, built}
use Rattle.probing.proofs.Agree.{probe_agree}
use Rattle.probing.proofs.Reading.{never_broken}
use Rattle.probing.proofs.Report.{OnWay, turned, goes_on, reports, Vacant, Held, stopped, clear_place}
use Rattle.header.specs.declared.shape.Layout.{Layout}
use Rattle.batch.specs.Batch.{most_records, record_count, record_key, decides}
use Rattle.batch.specs.Index.{index_buckets, following, entry_bucket, record_table, stops_at, Indexed}
use Rattle.batch.proofs.Deciding.{decides_last, last_decides, one_decides, deciding}
use Rattle.batch.proofs.Every.{flag_up}
use Rattle.batch.proofs.Noted.{zeros, zero_at}

-- what a bucket says to a probe, by whether it ends it, where a FULL one points at a live slot below highwater
module _ (t : Table) (k : List ℕ) (c : ℕ) (onward : Probed) where
  passes_on : (x : Bucket) → stops_at t k x ≡ false → ((h s : ℕ) → x ≡ FULL h s → (s < t.highwater) × (t.meta s ≡ 1)) → probe.examine t k c onward x ≡ onward
  unfolding probe.examine
  passes_on EMPTY e full = absurd (not_both refl e)
  passes_on TOMBSTONE e full = refl
  passes_on (FULL h s) e full = rw (lt-leb t.highwater s (full h s refl).0, e) refl

  ends_at : (x : Bucket) → stops_at t k x ≡ true → ((h s : ℕ) → x ≡ FULL h s → (s < t.highwater) × (t.meta s ≡ 1))
      → (end : Probed) × (probe.examine t k c onward x ≡ end) × (count_of end ≡ c)
  unfolding probe.examine
  ends_at EMPTY e full = (absent c, refl, refl)
  ends_at TOMBSTONE e full = absurd (not_both e refl)
  ends_at (FULL h s) e full =
      (found s c, rw (lt-leb t.highwater s (full h s refl).0, e, eq-eqb (t.meta s) 1 (full h s refl).1) refl, refl)

module _ (l : Layout) (batch : List ℕ) where
  -- the record of a record's slot
  following_twice : (i : ℕ) → i < record_count l batch → following l batch (following l batch i) ≡ i
  following_twice i h = omega arith

  module _ (index : List ℕ) (b : ℕ) (k : List ℕ) where
    -- an EMPTY entry stops a probe
    pub entry_stops : get_or index b 0 ≡ 0 → stops_at (record_table l batch index) k ((record_table l batch index).bucket b) ≡ true
    unfolding record_table entry_bucket
    entry_stops e = rw e

    -- and one of record j does if its key is the same
    pub entry_compares :
        (j : ℕ) → j < record_count l batch → get_or index b 0 ≡ suc j
        → stops_at (record_table l batch index) k ((record_table l batch index).bucket b) ≡ eqb (fnv1a64 (record_key l batch j)) (fnv1a64 k) && same (record_key l batch j) k
    unfolding record_table entry_bucket
    entry_compares j h e = rw (e, following_twice j h)

  -- only an entry 0 is EMPTY
  entry_empty : (e : ℕ) → entry_bucket l batch e ≡ EMPTY → e ≡ 0
  unfolding entry_bucket
  entry_empty zero q = refl
  entry_empty (suc i) q = clash cc

  empty_entry : (e : ℕ) → e ≡ 0 → entry_bucket l batch e ≡ EMPTY
  unfolding entry_bucket
  empty_entry e q = rw q

  -- no entry yet
  pub index_none : Indexed l batch (zeros index_buckets) 0
  unfolding record_table rebuilt_to
  index_none =
      record {
        entries = record { size = refl; inside = λ b. omega (arith, zero_at index_buckets b) };
        buckets = λ b h. empty_entry _ (zero_at index_buckets b);
      }

  -- the records as slots, without an index
  abbrev slots : Table
  slots = record_table l batch []

  -- live slots have different keys
  slots_different : (s s' : ℕ) → s < slots.highwater → s' < slots.highwater → slots.meta s ≡ 1 → slots.meta s' ≡ 1 → slots.key s ≡ slots.key s' → s ≡ s'
  unfolding record_table
  slots_different s s' h h' m m' e =
      let same = one_decides l batch (following l batch s) (following l batch s') (omega arith) (omega arith) (flag_up _ m) (flag_up _ m') e in
      omega arith

  module _ (few : record_count l batch ≤ most_records) where
    -- the index of the last n records is a sound one
    sound : (n : ℕ) → n ≤ record_count l batch → Built slots n (rebuilt_to slots n).bucket
    unfolding record_table live_count
    sound n h = built slots (omega (arith, count_le (record_count l batch) (λ s. eqb (slots.meta s) 1))) slots_different n h

    module _ (index : List ℕ) (i : ℕ) (inside : i < record_count l batch) (indexed : Indexed l batch index (following l batch i)) where
      abbrev n : ℕ
      n = following l batch i

      abbrev key : List ℕ
      key = record_key l batch i

      -- the last n records and their index, as they should be
      abbrev before : Table
      before = up_to (over slots (rebuilt_to slots n).bucket) n

      abbrev now : Table
      now = record_table l batch index

      -- a FULL bucket is of one of them, which decides
      full : (b : ℕ) → b < index_buckets → (h s : ℕ) → now.bucket b ≡ FULL h s → (s < now.highwater) × (now.meta s ≡ 1)
      unfolding record_table
      full b below h s q =
          let f = (sound n (omega arith)).sound.full b h s below (sym (indexed.buckets b below) ∙ q) in
          (omega (arith, f.0), f.1)

      -- the probe for the key of record i, bucket by bucket: a bucket that does not end it, and one that does
      pub probe_on : {b m p : ℕ} → b < index_buckets → m < index_buckets → OnWay now key b m p → stops_at now key (now.bucket b) ≡ false
          → OnWay now key ((b + 1) % index_buckets) (m + 1) (or_tombstone now p b)
      unfolding record_table
      probe_on {b} {m} below few way e =
          goes_on now key way few (turned now key way few ∙ passes_on now key (m + 1) _ (now.bucket b) e (full b below))

      pub probe_ends : {b m p : ℕ} → b < index_buckets → m < index_buckets → OnWay now key b m p → stops_at now key (now.bucket b) ≡ true
          → (report now key).bucket ≡ b
      unfolding record_table
      probe_ends {b} {m} below few way e =
          let end = ends_at now key (m + 1) _ (now.bucket b) e (full b below) in
          ap (λ (r : Report). r.bucket) (reports now key way end.0 (turned now key way few ∙ end.1) end.2)

      -- the bucket where it stops
      abbrev at : ℕ
      at = (report now key).bucket

      pub at_below : at < index_buckets
      unfolding record_table report
      at_below = mod-lt _ (omega arith)

      -- it ends as with the index that it should be
      same_probe : probe.probe now key ≡ probe.probe before key
      unfolding record_table
      same_probe =
          probe_agree (over slots (rebuilt_to slots n).bucket) (λ b. entry_bucket l batch (get_or index b 0)) slots.meta slots.key
          (λ b below. indexed.buckets b below) (λ s below. refl) (λ s below. refl) (omega arith) key
          ∙ probe_up_to (over slots (rebuilt_to slots n).bucket) n (omega arith) (omega arith)
          (λ b h s below q. ((sound n (omega arith)).sound.full b h s below q).0) key

      -- it does end
      pub probe_unbroken : probe.probe now key ≡ probe.broken → ⊥
      probe_unbroken e = never_broken before (sound n (omega arith)).sound key (sym same_probe ∙ e)

      at_before : (report before key).bucket ≡ at
      unfolding record_table report
      at_before = ap (λ (p : Probed). last_of before key (count_of p)) (sym same_probe)

      -- what stands there
      there : entry_bucket l batch (get_or index at 0) ≡ before.bucket (report before key).bucket
      unfolding record_table
      there = indexed.buckets at at_below ∙ ap (rebuilt_to slots n).bucket (sym at_before)

      what_stops : Vacant before key ⊎ Held before key
      what_stops = stopped before (sound n (omega arith)).sound key

      abbrev None : Type 0
      None = (s : ℕ) → s < n → slots.meta s ≡ 1 → slots.key s ≡ key → ⊥

      -- where no later record that decides has the key, record i decides
      none_decides : None → decides l batch i ≡ true
      unfolding record_table
      none_decides none = last_decides l batch i (λ j h. not_true_false _ (λ again. later j h (and_both (ltb i j) _ again)))
        where
          later : (j : ℕ) → j < record_count l batch → (ltb i j ≡ true) × (same (record_key l batch j) key ≡ true) → ⊥
          later j h again =
              let last = deciding l batch j h in
              let m = last.0 in
              let after = ltb-true i j again.0 in
              let back = following_twice m last.1.inside in
              none (following l batch m) (omega (arith, last.1.from, last.1.inside))
              (ap one (ap (decides l batch) back ∙ last.1.decides))
              (ap (record_key l batch) back ∙ last.1.key ∙ same_eq (record_key l batch j) key again.1)

      -- and where one has it, record i does not
      held_decides : (s : ℕ) → s < n → slots.key s ≡ key → decides l batch i ≡ false
      unfolding record_table
      held_decides s h e = not_true_false _ (λ d. decides_last l batch i (following l batch s) d (omega arith) (omega arith) e)

      -- an EMPTY bucket, or one that is taken
      pub vacant_decides : get_or index at 0 ≡ 0 → None × (decides l batch i ≡ true)
      vacant_decides e = go what_stops
        where
          go : Vacant before key ⊎ Held before key → None × (decides l batch i ≡ true)
          go (inl v) = (v.1, none_decides v.1)
          go (inr h) = clash (cc (empty_entry _ e, there, h.2))

      pub taken_decides : (get_or index at 0 ≡ 0 → ⊥) → decides l batch i ≡ false
      taken_decides other = go what_stops
        where
          go : Vacant before key ⊎ Held before key → decides l batch i ≡ false
          go (inl v) = absurd (other (entry_empty _ (there ∙ v.0)))
          go (inr h) = held_decides h.0 h.3 h.5

      -- slot n is that of record i
      slot_key : slots.key n ≡ key
      unfolding record_table
      slot_key = ap (record_key l batch) (following_twice i inside)

      slot_live : {b : Bool} → decides l batch i ≡ b → live slots n ≡ b
      unfolding record_table
      slot_live {b} e = rw (following_twice i inside, e) (back b)
        where
          back : (b : Bool) → eqb (one b) 1 ≡ b
          back true = refl
          back false = refl

      one_further : record_count l batch - i ≡ suc n
      one_further = omega arith

      -- a record that does not decide is passed over
      pub index_stays : decides l batch i ≡ false → Indexed l batch index (record_count l batch - i)
      unfolding rebuilt_to
      index_stays e = record { entries = indexed.entries; buckets = λ b h. rw (one_further, slot_live e) (indexed.buckets b h) }

      -- one that decides takes the bucket where its probe stops
      takes : None → place (rebuilt_to slots n) ((rebuilt_to slots n).key n) ≡ at
      unfolding record_table tombstone_count
      takes none =
          ap (λ (t : Table). place t (t.key n)) (rebuilt_over slots n)
          ∙ ap (place (over slots (rebuilt_to slots n).bucket)) slot_key
          ∙ place_same (over slots (rebuilt_to slots n).bucket) before refl refl refl key
          ∙ clear_place before (sound n (omega arith)).sound key (sound n (omega arith)).tombstones none
          ∙ at_before

      -- and stands there
      mark : FULL ((rebuilt_to slots n).hash ((rebuilt_to slots n).key n)) n ≡ entry_bucket l batch (i + 1)
      unfolding record_table entry_bucket
      mark =
          ap (λ (t : Table). FULL (t.hash (t.key n)) n) (rebuilt_over slots n)
          ∙ ap (λ (k : List ℕ). FULL (fnv1a64 k) n) slot_key
          ∙ rw (add-one i) refl

      -- the entries with the new one
      new_entry : (b : ℕ) → b ≡ at → get_or (set index at (i + 1)) b 0 ≡ i + 1
      new_entry b q = rw q (get_or-set_same index at (i + 1) 0 (omega (arith, at_below, indexed.entries.size)))

      old_entry : (b : ℕ) → (b ≡ at → ⊥) → get_or (set index at (i + 1)) b 0 ≡ get_or index b 0
      old_entry b other = get_or-set_other index at b (i + 1) 0 other

      entries_grow : (b : ℕ) → Dec (b ≡ at) → get_or (set index at (i + 1)) b 0 ≤ record_count l batch
      entries_grow b (yes q) = rw (new_entry b q) (omega arith)
      entries_grow b (no q) = rw (old_entry b q) (indexed.entries.inside b)

      buckets_grow : (b : ℕ) → b < index_buckets → entry_bucket l batch (get_or (set index at (i + 1)) b 0) ≡ update (rebuilt_to slots n).bucket at (entry_bucket l batch (i + 1)) b
      unfolding record_table
      buckets_grow b h =
          by_update (rebuilt_to slots n).bucket at (entry_bucket l batch (i + 1)) b
          (λ q v. ap (entry_bucket l batch) (new_entry b q) ∙ sym v)
          (λ q v. ap (entry_bucket l batch) (old_entry b q) ∙ indexed.buckets b h ∙ sym v)

      pub index_grows : None → decides l batch i ≡ true → Indexed l batch (set index at (i + 1)) (record_count l batch - i)
      unfolding rebuilt_to placed record_table
      index_grows none e =
          record {
            entries = record { size = length-set index at (i + 1) ∙ indexed.entries.size; inside = λ b. entries_grow b (ℕ_discrete b at) };
            buckets = λ b h. rw (one_further, slot_live e, takes none, mark) (buckets_grow b h);
          }
