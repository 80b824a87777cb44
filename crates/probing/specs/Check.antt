-- What the full check asks of a table, sentence by sentence, and the sum that it returns.
-- Assumes nothing.
use Rattle.std.specs.Prelude.{ℕ, ◌+◌, ◌-◌, Bool, true, cond, not, ◌&&◌, ◌||◌, eqb, ltb}
use Rattle.numbers.specs.Bytes.{below}
use Rattle.probing.specs.Counting.{sum_to, all_to}
use Rattle.probing.specs.Table.{Bucket, EMPTY, TOMBSTONE, FULL, Table, live, live_count, full_count, tombstone_count}
use Rattle.probing.specs.Probe.{probe, count_of, found_at}

-- "Every FULL bucket points below highwater at a slot with meta 1 and carries its key's hash"
abbrev pub bucket_right : Table → Bucket → Bool
bucket_right t EMPTY = true
bucket_right t TOMBSTONE = true
bucket_right t (FULL h s) = ltb s t.highwater && live t s && eqb h (t.hash (t.key s))

unfoldable pub buckets_right : Table → Bool
buckets_right t = all_to t.B (λ b. bucket_right t (t.bucket b))

-- "every slot below highwater has meta 0 or 1"
unfoldable pub metas_right : Table → Bool
metas_right t = all_to t.highwater (λ s. eqb (t.meta s) 0 || eqb (t.meta s) 1)

-- "probing each live slot's key finds that slot"
unfoldable pub each_found : Table → Bool
each_found t = all_to t.highwater (λ s. not (live t s) || found_at (probe t (t.key s)) s)

-- "live, FULL and TOMBSTONE counts equal the header's"
unfoldable pub counts_equal : Table → ℕ → ℕ → ℕ → Bool
counts_equal t live_count_field used tombstones =
    eqb (live_count t) live_count_field && eqb (full_count t) used && eqb (tombstone_count t) tombstones

-- "keys of all slots below highwater never fall"
unfoldable pub never_fall : Table → Bool
never_fall t = all_to (t.highwater - 1) (λ s. not (below (t.key (s + 1)) (t.key s)))

-- all of it; the last "if ordered"
unfoldable pub checks : Table → Bool → ℕ → ℕ → ℕ → Bool
checks t ordered live_count_field used tombstones =
    buckets_right t && metas_right t && each_found t && counts_equal t live_count_field used tombstones && (not ordered || never_fall t)

-- "the sum of lookup counts over live keys"
unfoldable pub probes : Table → ℕ
probes t = sum_to t.highwater (λ s. cond (live t s) (count_of (probe t (t.key s))) 0)
