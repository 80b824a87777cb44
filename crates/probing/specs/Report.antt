-- What a probe reports: the inner probe's whole promise (CR 6).
-- Assumes nothing.
use Rattle.std.specs.Prelude.{ℕ, zero, suc, ◌+◌, ◌-◌, ◌%◌, ◌<◌, true, false, cond, ◌&&◌, ◌≡◌, List, eqb}
use Rattle.probing.specs.Table.{Table, is_tombstone, is_full}
use Rattle.probing.specs.Probe.{Probed, absent, home, last_of, probe, count_of}
use Rattle.probing.specs.Change.{place}

-- B is no bucket, and stands for none: bucket p, or where that is none, bucket b if it is a TOMBSTONE
abbrev pub or_tombstone : Table → ℕ → ℕ → ℕ
or_tombstone t p b = cond (is_tombstone (t.bucket b) && eqb p t.B) b p

-- the first TOMBSTONE of the n buckets from bucket h on, round the end
unfoldable pub first_tombstone : Table → ℕ → ℕ → ℕ
first_tombstone t h zero = t.B
first_tombstone t h (suc n) = or_tombstone t (first_tombstone t h n) ((h + n) % t.B)

-- How the probe ended, with the count; "the bucket where it stopped", the last that the count includes; "the first TOMBSTONE it
-- passed, if any", of those before. A broken table has no count to tell, and the other two are nobody's then.
pub record Report : Type 0 where
  pub end : Probed
  pub bucket : ℕ
  pub tombstone : ℕ

unfoldable pub report : Table → List ℕ → Report
report t k =
    record {
      end = probe t k;
      bucket = last_of t k (count_of (probe t k));
      tombstone = first_tombstone t (home t k) (count_of (probe t k) - 1);
    }

-- a probe ends with no such key
abbrev pub Missing : Table → List ℕ → Type 0
Missing t k = (n : ℕ) × (probe t k ≡ absent n)

-- "the first TOMBSTONE on its probe, else the EMPTY that ends it": the bucket that a report leaves for a key that is not there
abbrev pub free_by : ℕ → ℕ → ℕ → ℕ
free_by B tombstone bucket = cond (eqb tombstone B) bucket tombstone

-- a bucket noted before: it is the key's place, unless it is FULL by now; B, which is no bucket, is no hint
abbrev pub Hint : Table → List ℕ → ℕ → Type 0
Hint t k b = b < t.B → is_full (t.bucket b) ≡ false → place t k ≡ b

-- Bucket p is the first TOMBSTONE of the n buckets from h on: it is one, and none before it is.
pub record First (t : Table) (h n p : ℕ) : Type 0 where
  pub distance : ℕ
  pub within : distance < n
  pub there : p ≡ (h + distance) % t.B
  pub is : is_tombstone (t.bucket p) ≡ true
  pub way : (i : ℕ) → i < distance → is_tombstone (t.bucket ((h + i) % t.B)) ≡ false

-- none of the n is one
abbrev pub None : Table → ℕ → ℕ → Type 0
None t h n = (i : ℕ) → i < n → is_tombstone (t.bucket ((h + i) % t.B)) ≡ false
