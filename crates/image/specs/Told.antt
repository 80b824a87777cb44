-- What the code tells of a bucket, of a probe and of a key's hash.
-- Assumes nothing.
use Rattle.std.specs.Prelude.{ℕ, ◌≤◌, ◌≡◌, cond, List, length, eqb, Option, Some, None}
use Rattle.std.specs.Option.{unwrap_or}
use Rattle.digests.specs.Fnv.{fnv1a64}
use Rattle.probing.specs.Table.{Bucket, EMPTY, TOMBSTONE, FULL}
use Rattle.probing.specs.Probe.{Probed, found, absent, broken}
use Rattle.probing.specs.Report as probing
use Rattle.probing.specs.Report.{report}
use Rattle.header.specs.declared.shape.Shape.{Shape}
use Rattle.header.specs.Sizes.{most_key_size}
use Rattle.image.specs.declared.probe.Probe.{Probe}
use Rattle.image.specs.declared.probe.Probe.TheVariants.{Found, Absent, Broken}
use Rattle.image.specs.declared.probe.Report.{Report}
use Rattle.image.specs.declared.table.Bucket as read
use Rattle.image.specs.declared.table.Bucket.TheVariants.{Empty, Tombstone, Full}
use Rattle.image.specs.Table.{table_of}

-- the bucket that was read
abbrev pub bucket_read : read.Bucket → Bucket
bucket_read Empty = EMPTY
bucket_read Tombstone = TOMBSTONE
bucket_read (Full hash64 slot) = FULL hash64 slot

abbrev pub told : Probed → Probe
told (found s n) = Found s n
told (absent n) = Absent n
told broken = Broken

-- a TOMBSTONE, of which B stands for none
abbrev pub told_tombstone : ℕ → ℕ → Option ℕ
told_tombstone B p = cond (eqb p B) None (Some p)

abbrev pub told_report : ℕ → probing.Report → Report
told_report B r = record { end = told r.end; bucket = r.bucket; tombstone = told_tombstone B r.tombstone }

-- the report of a key's probe in an image
unfoldable pub report_of : Shape → List ℕ → List ℕ → Report
report_of s image key = told_report s.layout.bucket_count (report (table_of s image) key)

-- that of a broken table: no bucket was counted
abbrev pub told_broken : ℕ → Report
told_broken home = record { end = Broken; bucket = home; tombstone = None }

-- the bucket that a report leaves for a key that is not there
abbrev pub free_of : Report → ℕ
free_of r = unwrap_or r.tombstone r.bucket

-- a key's hash, where it is no longer than a key may be
abbrev pub Hashed : ℕ → List ℕ → Type 0
Hashed hash key = length key ≤ most_key_size → hash ≡ fnv1a64 key
