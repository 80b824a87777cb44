-- The probe rule, as the lookup paragraph has it.
-- Assumes nothing.
use Rattle.std.specs.Prelude.{ℕ, zero, suc, ◌+◌, ◌-◌, ◌%◌, Bool, false, cond, ◌&&◌, List, eqb, leb}
use Rattle.numbers.specs.Bytes.{same}
use Rattle.probing.specs.Table.{Bucket, EMPTY, TOMBSTONE, FULL, Table, live}

-- "Home bucket: hash modulo B"
abbrev pub home : Table → List ℕ → ℕ
home t k = t.hash k % t.B

-- "a probe goes on by one, round the end"
abbrev pub next : Table → ℕ → ℕ
next t b = (b + 1) % t.B

-- the last of n buckets that the probe for a key examines
abbrev pub last_of : Table → List ℕ → ℕ → ℕ
last_of t k n = (home t k + (n - 1)) % t.B

-- What a probe ends in: the key's slot, or no such key, each with the number of buckets examined; or a broken table.
pub data Probed : Type 0 where
  found : ℕ → ℕ → Probed
  absent : ℕ → Probed
  broken : Probed

-- What one bucket says, the count with it, given what going on says:
-- "EMPTY: 9. A FULL bucket whose slot is at or past highwater: 1. Equal hash64 and equal key: meta 1 is found, else 1.
-- Anything else: go on."
unfoldable pub examine : Table → List ℕ → ℕ → Probed → Bucket → Probed
examine t k count onward EMPTY = absent count
examine t k count onward TOMBSTONE = onward
examine t k count onward (FULL h s) =
    cond (leb t.highwater s) broken
    (cond (eqb h (t.hash k) && same (t.key s) k) (cond (live t s) (found s count) broken) onward)

-- The probe from bucket b on, with so many buckets left, and so many passed: "B buckets without end: 1. The count includes
-- the last bucket."
unfoldable pub probe_from : Table → List ℕ → ℕ → ℕ → ℕ → Probed
probe_from t k zero b passed = broken
probe_from t k (suc left) b passed =
    examine t k (passed + 1) (probe_from t k left (next t b) (passed + 1)) (t.bucket b)

unfoldable pub probe : Table → List ℕ → Probed
probe t k = probe_from t k t.B (home t k) 0

-- the number of buckets that a probe examined; a broken table has none to tell
abbrev pub count_of : Probed → ℕ
count_of (found s n) = n
count_of (absent n) = n
count_of broken = 0

-- whether a probe found this slot
abbrev pub found_at : Probed → ℕ → Bool
found_at (found s n) s' = eqb s s'
found_at (absent n) s' = false
found_at broken s' = false
