-- The finite map that lookup reads, and how a batch acts on it.
-- Assumes nothing.
use Rattle.std.specs.Prelude.{ℕ, zero, suc, ◌+◌, cond, List, eqb, ℤ}
use Rattle.std.proofs.Math.Option.{Option, some, none}
use Rattle.numbers.specs.Bytes.{part, word, same}
use Rattle.numbers.specs.Signed.{signed}
use Rattle.probing.specs.Probe.{Probed, found, absent, broken}
use Rattle.header.specs.declared.shape.Layout.{Layout}
use Rattle.header.specs.declared.shape.Shape.{Shape}
use Rattle.header.specs.Sizes.{align8}
use Rattle.image.specs.Table.{revision_of, index_of}
use Rattle.image.specs.Lookup.{probe_of}
use Rattle.batch.specs.Batch.{record_count, record_at, meta_in, key_in}

-- what a key has: its revision and its index bytes
pub record Entry : Type 0 where
  pub revision : ℤ
  pub index : List ℕ

abbrev pub Map : Type 0
Map = List ℕ → Option Entry

-- what a probe's end shows of the image
abbrev pub entry_at : Layout → List ℕ → Probed → Option Entry
entry_at l image (found n count) = some (record { revision = revision_of l image n; index = index_of l image n })
entry_at l image (absent count) = none
entry_at l image broken = none

-- the map that lookup reads
unfoldable pub map_of : Shape → List ℕ → Map
map_of s image key = entry_at s.layout image (probe_of s image key)

-- the revision and the index of a record
unfoldable pub entry_in : Shape → List ℕ → Entry
entry_in s r =
    record {
      revision = signed (word (part r (8 + align8 s.layout.key_size) 8));
      index = part r (16 + align8 s.layout.key_size) s.layout.index_size;
    }

-- a put gives its key the record's entry, a delete takes the key away
unfoldable pub acts_on : Shape → List ℕ → Map → Map
acts_on s r m key = cond (same key (key_in s.layout r)) (cond (eqb (meta_in r) 1) (some (entry_in s r)) none) (m key)

-- the first n records, one after the other: the last operation on a key decides
unfoldable pub applied_to : Shape → List ℕ → ℕ → Map → Map
applied_to s batch zero m = m
applied_to s batch (suc n) m = acts_on s (record_at s.layout batch n) (applied_to s batch n m)

unfoldable pub applied : Shape → List ℕ → Map → Map
applied s batch m = applied_to s batch (record_count s.layout batch) m
