-- What the full check notes as it goes over buckets and slots.
-- Assumes nothing.
use Rattle.std.specs.Prelude.{ℕ, cond, not, ◌||◌, eqb}
use Rattle.probing.specs.Counting.{sum_to, count_to, all_to}
use Rattle.probing.specs.Table.{Table, live, is_full, is_tombstone}
use Rattle.probing.specs.Probe.{probe, count_of, found_at}
use Rattle.probing.specs.Check.{bucket_right}
use Rattle.image.specs.declared.check.BucketTally.{BucketTally}
use Rattle.image.specs.declared.check.SlotTally.{SlotTally}

-- what the buckets below n say
unfoldable pub buckets_to : Table → ℕ → BucketTally
buckets_to t n =
    record {
      right = all_to n (λ b. bucket_right t (t.bucket b));
      full = count_to n (λ b. is_full (t.bucket b));
      tombstones = count_to n (λ b. is_tombstone (t.bucket b));
    }

-- what the slots below n say
unfoldable pub slots_to : Table → ℕ → SlotTally
slots_to t n =
    record {
      metas = all_to n (λ s. eqb (t.meta s) 0 || eqb (t.meta s) 1);
      found = all_to n (λ s. not (live t s) || found_at (probe t (t.key s)) s);
      live = count_to n (live t);
      probes = sum_to n (λ s. cond (live t s) (count_of (probe t (t.key s))) 0);
    }
