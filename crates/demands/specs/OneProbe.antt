-- "CR 6. One probe instead of two.": what the inner probe reports, and that deletes and new keys go by it.
-- Assumes nothing.
use Rattle.std.specs.Prelude.{ℕ, ◌+◌, ◌-◌, ◌<◌, true, false, ◌≡◌, ◌⊎◌, List}
use Rattle.probing.specs.Table.{EMPTY, TOMBSTONE, FULL, Table, is_full, live_count}
use Rattle.probing.specs.Probe.{found, absent, broken, home, probe, count_of}
use Rattle.probing.specs.Report.{report, Missing, free_by, First, None}
use Rattle.probing.specs.Change.{update, deleted, place, rebuilt_to}
use Rattle.header.specs.declared.options.Options.{Options}
use Rattle.header.specs.Answer.{done}
use Rattle.header.specs.Counters.{with_slots}
use Rattle.header.specs.FirstOf.{first_of}
use Rattle.header.specs.HeaderTest.{shape_of}
use Rattle.image.specs.Table.{table_of}
use Rattle.image.specs.Lookup.{is_live}
use Rattle.batch.specs.Batch.{record_key}
use Rattle.batch.specs.NewKeys.{new_count, new_at}
use Rattle.soundness.specs.Apply.{after_new}
use Rattle.soundness.specs.Commit.{commit_tests}

-- the bucket that a report leaves for a key that is not there: the first TOMBSTONE, else the EMPTY where the probe stopped
abbrev pub left : Table → List ℕ → ℕ
left t k = free_by t.B (report t k).tombstone (report t k).bucket

pub record OneProbe : Type 0 where
  -- it ends as the probe rule says, with that count
  pub ended : (t : Table) (k : List ℕ) → (report t k).end ≡ probe t k
  -- "the bucket where it stopped": the slot found stands there, or it is the EMPTY that ended it
  pub stopped_found : (t : Table) (k : List ℕ) (s n : ℕ) → probe t k ≡ found s n → t.bucket (report t k).bucket ≡ FULL (t.hash k) s
  pub stopped_absent : (t : Table) (k : List ℕ) (n : ℕ) → probe t k ≡ absent n → t.bucket (report t k).bucket ≡ EMPTY
  pub inside : (t : Table) (k : List ℕ) → 0 < t.B → (report t k).bucket < t.B
  -- "and the first TOMBSTONE it passed, if any": of the buckets before; B, where none of them is one
  pub passed : (t : Table) (k : List ℕ) → 0 < t.B
      → First t (home t k) (count_of (probe t k) - 1) (report t k).tombstone
      ⊎ (((report t k).tombstone ≡ t.B) × None t (home t k) (count_of (probe t k) - 1))
  -- so it never is the bucket where the probe stopped
  pub apart : (t : Table) (k : List ℕ) → (probe t k ≡ broken → ⊥) → (report t k).tombstone ≡ (report t k).bucket → ⊥
  -- the bucket that a delete makes a TOMBSTONE is the one where the probe stopped
  pub deletes : (t : Table) (k : List ℕ) (s n : ℕ) → probe t k ≡ found s n → (deleted t k).bucket ≡ update t.bucket (report t k).bucket TOMBSTONE
  -- and a key that is not there takes the bucket that the report leaves
  pub places : (t : Table) (k : List ℕ) (n : ℕ) → probe t k ≡ absent n → place t k ≡ left t k
  -- A report made before serves on while no FULL bucket becomes free, as it does by a delete, and the one that it leaves is not taken.
  pub serves_on : (t u : Table) → t.B ≡ u.B → t.hash ≡ u.hash
      → ((b : ℕ) → b < t.B → is_full (t.bucket b) ≡ true → is_full (u.bucket b) ≡ true)
      → (k : List ℕ) (n : ℕ) → probe t k ≡ absent n → is_full (u.bucket (left t k)) ≡ false → place u k ≡ left t k
  -- In a commit, no new key is there when its turn comes, after the batch's deletes and the new keys before it; so the report of that
  -- moment says its place.
  pub in_turn : (o : Options) (image batch : List ℕ) → first_of (commit_tests o image batch) ≡ done
      → let s = shape_of image in
      (r : ℕ) → r < new_count s.layout (is_live s image) batch
      → Missing (table_of (with_slots s (s.slot_highwater + r)) (after_new s image batch r)) (record_key s.layout batch (new_at s.layout (is_live s image) batch r))
  -- Nor, in a rebuild, is a live slot's key.
  pub in_rebuild : (t : Table) → live_count t < t.B
      → ((s s' : ℕ) → s < t.highwater → s' < t.highwater → t.meta s ≡ 1 → t.meta s' ≡ 1 → t.key s ≡ t.key s' → s ≡ s')
      → (n : ℕ) → n < t.highwater → t.meta n ≡ 1 → Missing (rebuilt_to t n) (t.key n)
