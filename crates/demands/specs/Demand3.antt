-- "3. For any image that the full check passes, a lookup under the same options and role with a key of the right length
-- reports the number of buckets the probe rule examines, at most live keys plus tombstones plus one. With no tombstones, the
-- sum of these numbers over the live keys follows from their home buckets alone, whatever order they came in: it is the
-- number of live keys plus every bucket's overflow." For images of any capacity and B that the header test passes (CR 10): B is
-- the image's own, `(table_in image).B`.
-- Assumes nothing.
use Rattle.std.specs.Prelude.{ℕ, ◌+◌, ◌≤◌, ◌<◌, ◌≡◌, cond, ◌⊎◌, List, length}
use Rattle.probing.specs.Counting.{sum_to}
use Rattle.probing.specs.Table.{Table, live, live_count, tombstone_count}
use Rattle.probing.specs.Probe.{probe, count_of}
use Rattle.probing.specs.Overflow.{homes_of, overflow, sum_of_homes}
use Rattle.probing.specs.Homes.{live_homes}
use Rattle.header.specs.declared.options.Options.{Options}
use Rattle.header.specs.Answer.{done, not_present}
use Rattle.header.specs.HeaderTest.{shape_of}
use Rattle.image.specs.Table.{table_of}
use Rattle.image.specs.Lookup.{lookup_of}
use Rattle.image.specs.Check.{check_of}

-- the table that the image's own bytes hold
abbrev pub table_in : List ℕ → Table
table_in image = table_of (shape_of image) image

-- the sum of the numbers that lookup reports over the live keys
abbrev pub sum_of_lookups : Options → List ℕ → ℕ
sum_of_lookups o image =
    sum_to (table_in image).highwater
    (λ n. cond (live (table_in image) n) (lookup_of o image ((table_in image).key n)).buckets 0)

pub record Demand3 : Type 0 where
  -- "live keys", "tombstones": those of the image
  pub counts : (o : Options) (image : List ℕ) → (check_of o image).answer ≡ done
      → ((check_of o image).live ≡ live_count (table_in image)) × ((check_of o image).tombstones ≡ tombstone_count (table_in image))
  -- "a lookup ... with a key of the right length reports the number of buckets the probe rule examines"
  pub reports : (o : Options) (image key : List ℕ) → (check_of o image).answer ≡ done → length key ≡ o.key_size
      → (((lookup_of o image key).answer ≡ done) ⊎ ((lookup_of o image key).answer ≡ not_present))
      × ((lookup_of o image key).buckets ≡ count_of (probe (table_in image) key))
  -- "at most live keys plus tombstones plus one"
  pub bounds : (o : Options) (image key : List ℕ) → (check_of o image).answer ≡ done → length key ≡ o.key_size
      → (lookup_of o image key).buckets ≤ (check_of o image).live + (check_of o image).tombstones + 1
  -- "it is the number of live keys plus every bucket's overflow"
  pub sums : (o : Options) (image : List ℕ) → (check_of o image).answer ≡ done → (check_of o image).tombstones ≡ 0
      → sum_of_lookups o image
      ≡ (check_of o image).live + sum_to (table_in image).B (overflow (table_in image).B (homes_of (table_in image)))
  -- it is the number that the full check returns
  pub returned : (o : Options) (image : List ℕ) → (check_of o image).answer ≡ done
      → (check_of o image).probes ≡ sum_of_lookups o image
  -- "follows from their home buckets alone, whatever order they came in": as the sum for a list of homes, and the same for
  -- two images whose keys have the same homes
  pub from_homes : (o : Options) (image : List ℕ) → (check_of o image).answer ≡ done → (check_of o image).tombstones ≡ 0
      → sum_of_lookups o image ≡ sum_of_homes (table_in image).B (live_homes (table_in image))
  pub by_homes : (o o' : Options) (image image' : List ℕ) → (check_of o image).answer ≡ done → (check_of o' image').answer ≡ done
      → (check_of o image).tombstones ≡ 0 → (check_of o' image').tombstones ≡ 0 → (table_in image).B ≡ (table_in image').B
      → ((b : ℕ) → b < (table_in image).B → homes_of (table_in image) b ≡ homes_of (table_in image') b)
      → sum_of_lookups o image ≡ sum_of_lookups o' image'
