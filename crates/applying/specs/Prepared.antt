-- What the code goes by when it applies a batch: what was found out of it before, and its new keys appended in their order.
-- Assumes nothing.
use Rattle.std.specs.Prelude.{ℕ, zero, suc, ◌+◌, ◌≤◌, ◌<◌, Bool, true, false, cond, ◌≡◌, List, length, get_or}
use Rattle.header.specs.declared.shape.Shape.{Shape}
use Rattle.header.specs.Counters.{with_slots}
use Rattle.probing.specs.Report.{Missing, Hint}
use Rattle.image.specs.Table.{table_of}
use Rattle.image.specs.Lookup.{is_live}
use Rattle.image.specs.Told.{free_of, report_of}
use Rattle.image.specs.declared.probe.Report.{Report}
use Rattle.image.specs.Check.{passes}
use Rattle.slots.specs.Slots.{appended}
use Rattle.batch.specs.Batch.{record_count, record_at, record_key}
use Rattle.batch.specs.NewKeys.{is_new, new_count, new_at}
use Rattle.batch.specs.declared.new_keys.Turn.{Turn}
use Rattle.batch.specs.Notes.{Noted, TurnedBy, some_delete}
use Rattle.soundness.specs.Commit.{falls_behind}

-- the bucket that a report leaves for a new key, which may be taken when its turn comes, unless the batch deletes: B then, which is
-- no bucket
abbrev pub kept_place : ℕ → Report → Bool → ℕ
kept_place B r deletes = cond deletes B (free_of r)

-- that of record i, where its key is new
unfoldable pub noted_place : Shape → List ℕ → List ℕ → ℕ → ℕ
noted_place s image batch i =
    cond (is_new s.layout (is_live s image) batch i)
    (kept_place s.layout.bucket_count (report_of s image (record_key s.layout batch i)) (some_delete s.layout batch)) 0

-- an order is that of the new keys: it lists their records, each in its place
pub record InOrder (s : Shape) (image batch order : List ℕ) : Type 0 where
  pub each : (k : ℕ) → k < length order → get_or order k 0 ≡ new_at s.layout (is_live s image) batch k
  pub counted : length order ≡ new_count s.layout (is_live s image) batch

-- the turns of the records, the buckets noted for them, and the records of the new keys, which have room and do not fall
-- behind; and the full check passed
pub record Prepared (s : Shape) (image batch : List ℕ) (turns : List Turn) (places order : List ℕ) : Type 0 where
  pub turned : TurnedBy s.layout (is_live s image) batch turns
  pub placed : Noted (noted_place s image batch) (record_count s.layout batch) places
  pub ordered : InOrder s image batch order
  pub room : s.slot_highwater + length order ≤ s.layout.slot_capacity
  pub ahead : falls_behind s image batch ≡ false
  pub passed : passes s image ≡ true

-- one record of the order appended, and the first r
unfoldable pub one_appended : Shape → List ℕ → List ℕ → ℕ → List ℕ → List ℕ
one_appended s batch order r image =
    appended (with_slots s (s.slot_highwater + r)) image (record_at s.layout batch (get_or order r 0))

unfoldable pub appended_to : Shape → List ℕ → List ℕ → List ℕ → ℕ → List ℕ
appended_to s batch order image zero = image
appended_to s batch order image (suc r) = one_appended s batch order r (appended_to s batch order image r)

-- the keys of an order are not there, each when its turn comes
abbrev pub AllMissing : Shape → List ℕ → List ℕ → List ℕ → Type 0
AllMissing s batch order image =
    (r : ℕ) → r < length order
    → Missing (table_of (with_slots s (s.slot_highwater + r)) (appended_to s batch order image r)) (record_key s.layout batch (get_or order r 0))

-- and the buckets noted for them are hints then
abbrev pub AllHinted : Shape → List ℕ → List ℕ → List ℕ → List ℕ → Type 0
AllHinted s batch places order image =
    (r : ℕ) → r < length order
    → Hint (table_of (with_slots s (s.slot_highwater + r)) (appended_to s batch order image r)) (record_key s.layout batch (get_or order r 0))
    (get_or places (get_or order r 0) 0)
