-- What a commit does to a table. Rewriting a slot's revision and index changes nothing here.
-- Assumes nothing.
use Rattle.std.specs.Prelude.{ℕ, zero, suc, ◌+◌, cond, List, eqb}
use Rattle.probing.specs.Table.{Bucket, EMPTY, TOMBSTONE, FULL, Table, live}
use Rattle.probing.specs.Probe.{Probed, found, absent, broken, home, next, last_of, probe}

-- a function with one value changed
unfoldable pub update : {A : Type 0} → (ℕ → A) → ℕ → A → ℕ → A
update f i x j = cond (eqb j i) x (f j)

abbrev pub with_bucket : Table → ℕ → Bucket → Table
with_bucket t b x =
    record {
      B = t.B;
      highwater = t.highwater;
      bucket = update t.bucket b x;
      meta = t.meta;
      key = t.key;
      hash = t.hash;
    }

-- "Delete on a live key clears meta alone and makes its bucket a TOMBSTONE": the bucket is the last one that the probe
-- examined. "delete on an absent key does nothing"
abbrev pub deleted_at : Table → List ℕ → Probed → Table
deleted_at t k (found s n) =
    record {
      B = t.B;
      highwater = t.highwater;
      bucket = update t.bucket (last_of t k n) TOMBSTONE;
      meta = update t.meta s 0;
      key = t.key;
      hash = t.hash;
    }
deleted_at t k (absent n) = t
deleted_at t k broken = t

unfoldable pub deleted : Table → List ℕ → Table
deleted t k = deleted_at t k (probe t k)

-- "Each takes the first TOMBSTONE on its probe, else the EMPTY that ends it."
abbrev pub takes : ℕ → ℕ → Bucket → ℕ
takes b onward EMPTY = b
takes b onward TOMBSTONE = b
takes b onward (FULL h s) = onward

unfoldable pub place_from : Table → ℕ → ℕ → ℕ
place_from t zero b = b
place_from t (suc left) b = takes b (place_from t left (next t b)) (t.bucket b)

unfoldable pub place : Table → List ℕ → ℕ
place t k = place_from t t.B (home t k)

-- slot s put into the index by its key
unfoldable pub placed : Table → ℕ → Table
placed t s = with_bucket t (place t (t.key s)) (FULL (t.hash (t.key s)) s)

-- a live slot more, with key k, not yet in the index
unfoldable pub appended : Table → List ℕ → Table
appended t k =
    record {
      B = t.B;
      highwater = t.highwater + 1;
      bucket = t.bucket;
      meta = update t.meta t.highwater 1;
      key = update t.key t.highwater k;
      hash = t.hash;
    }

-- "new keys get the next slot numbers"
unfoldable pub inserted : Table → List ℕ → Table
inserted t k = placed (appended t k) t.highwater

-- "the index is rebuilt: all zero, then live slots in slot order": with the live slots below n placed
unfoldable pub rebuilt_to : Table → ℕ → Table
rebuilt_to t zero =
    record {
      B = t.B;
      highwater = t.highwater;
      bucket = λ b. EMPTY;
      meta = t.meta;
      key = t.key;
      hash = t.hash;
    }
rebuilt_to t (suc n) = cond (live t n) (placed (rebuilt_to t n) n) (rebuilt_to t n)

unfoldable pub rebuilt : Table → Table
rebuilt t = rebuilt_to t t.highwater
