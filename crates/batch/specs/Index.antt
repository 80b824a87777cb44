-- The index by which the code finds the records that decide: the records are the slots of a table, the last one first.
-- Assumes nothing.
use Rattle.std.specs.Prelude.{ℕ, zero, suc, ◌*◌, ◌-◌, ◌<◌, ◌≤◌, Bool, true, false, ◌&&◌, ◌≡◌, List, [], eqb, length, get_or}
use Rattle.numbers.specs.Bytes.{same}
use Rattle.digests.specs.Fnv.{fnv1a64}
use Rattle.probing.specs.Counting.{one}
use Rattle.probing.specs.Table.{Bucket, EMPTY, TOMBSTONE, FULL, Table}
use Rattle.probing.specs.Change.{rebuilt_to}
use Rattle.header.specs.declared.shape.Layout.{Layout}
use Rattle.batch.specs.Batch.{most_records, record_count, record_key, decides}

-- the number of buckets
abbrev pub index_buckets : ℕ
index_buckets = 2 * most_records

-- the slot of record i, and the record of slot i: so many others follow it
abbrev pub following : Layout → List ℕ → ℕ → ℕ
following l batch i = record_count l batch - 1 - i

-- what an entry of the index says: 0 EMPTY, else the number of a record plus 1
unfoldable pub entry_bucket : Layout → List ℕ → ℕ → Bucket
entry_bucket l batch zero = EMPTY
entry_bucket l batch (suc i) = FULL (fnv1a64 (record_key l batch i)) (following l batch i)

-- the records as slots, those live that decide, under an index
unfoldable pub record_table : Layout → List ℕ → List ℕ → Table
record_table l batch index =
    record {
      B = index_buckets;
      highwater = record_count l batch;
      bucket = λ b. entry_bucket l batch (get_or index b 0);
      meta = λ n. one (decides l batch (following l batch n));
      key = λ n. record_key l batch (following l batch n);
      hash = fnv1a64;
    }

-- an index whose entries are of records
pub record Entries (l : Layout) (batch index : List ℕ) : Type 0 where
  pub size : length index ≡ index_buckets
  pub inside : (b : ℕ) → get_or index b 0 ≤ record_count l batch

-- the index of the last n records
pub record Indexed (l : Layout) (batch index : List ℕ) (n : ℕ) : Type 0 where
  pub entries : Entries l batch index
  pub buckets : (b : ℕ) → b < index_buckets → (record_table l batch index).bucket b ≡ (rebuilt_to (record_table l batch []) n).bucket b

-- whether a bucket of the index ends a probe for a key: it is EMPTY, or has the key's hash and a slot with the key
abbrev pub stops_at : Table → List ℕ → Bucket → Bool
stops_at t k EMPTY = true
stops_at t k TOMBSTONE = false
stops_at t k (FULL h s) = eqb h (t.hash k) && same (t.key s) k
