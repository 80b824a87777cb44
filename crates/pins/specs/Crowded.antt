-- A crowded table: what its probes report, and why a report made before a delete is stale (CR 6).
-- Assumes nothing.
use Rattle.std.specs.Prelude.{◌≡◌, [], ◌∷◌, get_or}
use Rattle.numbers.specs.Bytes.{word}
use Rattle.probing.specs.Table.{EMPTY, TOMBSTONE, FULL, Table}
use Rattle.probing.specs.Probe.{found, absent}
use Rattle.probing.specs.Report.{report}
use Rattle.probing.specs.Change.{place, deleted}

-- Eight buckets and three live slots, whose one-byte keys have their home at bucket 7. It holds slot 0, and a probe goes on from there
-- past TOMBSTONE 0, slot 1, TOMBSTONE 2 and slot 2 to the EMPTY bucket 4; behind that is another TOMBSTONE.
abbrev pub crowded : Table
crowded =
    record {
      B = 8;
      highwater = 3;
      bucket = λ b. get_or (TOMBSTONE ∷ FULL 15 1 ∷ TOMBSTONE ∷ FULL 23 2 ∷ EMPTY ∷ TOMBSTONE ∷ EMPTY ∷ FULL 7 0 ∷ []) b EMPTY;
      meta = λ s. 1;
      key = λ s. get_or ((7 ∷ []) ∷ (15 ∷ []) ∷ (23 ∷ []) ∷ []) s [];
      hash = word;
    }

pub record Crowded : Type 0 where
  -- "the bucket where it stopped and the first TOMBSTONE it passed, if any": of a key that is not there, of one round the end of the
  -- table, and of one at home, which passes nothing
  pub lacking : report crowded (31 ∷ []) ≡ record { end = absent 6; bucket = 4; tombstone = 0 }
  pub round : report crowded (15 ∷ []) ≡ record { end = found 1 3; bucket = 1; tombstone = 0 }
  pub at_home : report crowded (7 ∷ []) ≡ record { end = found 0 1; bucket = 7; tombstone = 8 }
  -- a new key takes TOMBSTONE 0; after a delete of the key at home it takes that one's bucket, which no report of before says
  pub before_a_delete : place crowded (31 ∷ []) ≡ 0
  pub after_a_delete : place (deleted crowded (7 ∷ [])) (31 ∷ []) ≡ 7
