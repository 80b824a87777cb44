-- Two small tables that pass the full check, computed: what the laws of a sound table ask can be met.
-- Assumes nothing.
use Prim.Native.Nat.{ℕ}
use mathlib.Core.Path.{◌≡◌, refl}
use mathlib.Core.Bool.{true, false}
use mathlib.Core.List.{List, [], ◌∷◌}
use lib.Dec.{lit<}
use lib.ListN.{get_or}
use Rattle.numbers.specs.Bytes.{same, below}
use Rattle.probing.specs.Counting.{sum_to, count_to, all_to}
use Rattle.probing.specs.Table.{Bucket, EMPTY, TOMBSTONE, FULL, Table, live_count, full_count, tombstone_count}
use Rattle.probing.specs.Probe.{found, absent, examine, probe_from, probe}
use Rattle.probing.specs.Check.{buckets_right, metas_right, each_found, counts_equal, never_fall, checks}
use Rattle.probing.specs.Sound.{Sound}
use Rattle.probing.proofs.Checks.{checks_sound}

-- the first byte of a key, for a hash
unfoldable pub first_byte : List ℕ → ℕ
first_byte k = get_or k 0 0

-- a table of the buckets, metas and keys listed
unfoldable pub listed : ℕ → ℕ → List Bucket → List ℕ → List (List ℕ) → Table
listed B highwater buckets metas keys =
    record {
      B = B;
      highwater = highwater;
      bucket = λ b. get_or buckets b EMPTY;
      meta = λ s. get_or metas s 0;
      key = λ s. get_or keys s [];
      hash = first_byte;
    }

-- Two keys with home 3 of 4, the second past the end in bucket 0. Keys never fall.
unfoldable pub wrapped : Table
unfolding listed first_byte
wrapped = listed 4 3 (FULL 3 2 ∷ FULL 1 0 ∷ EMPTY ∷ FULL 3 1 ∷ []) (1 ∷ 1 ∷ 1 ∷ []) ((1 ∷ []) ∷ (3 ∷ []) ∷ (3 ∷ 1 ∷ []) ∷ [])

pub wrapped_checks : checks wrapped true 3 3 0 ≡ true
unfolding wrapped checks buckets_right metas_right each_found counts_equal never_fall live_count full_count tombstone_count sum_to count_to all_to probe probe_from examine same below
wrapped_checks = refl

pub wrapped_sound : Sound wrapped
unfolding wrapped
wrapped_sound = checks_sound wrapped true 3 3 0 wrapped_checks refl (lit< tt)

-- the second key is found round the end, in the second bucket examined
pub wrapped_finds : probe wrapped (3 ∷ 1 ∷ []) ≡ found 2 2
unfolding wrapped probe probe_from examine same
wrapped_finds = refl

-- another key with that home: three buckets that are not EMPTY, then the EMPTY one
pub wrapped_lacks : probe wrapped (3 ∷ 2 ∷ []) ≡ absent 4
unfolding wrapped probe probe_from examine same
wrapped_lacks = refl

-- Two keys with home 3 of 8, the first deleted and its bucket a TOMBSTONE, and a key moved on by the second. Keys fall.
unfoldable pub tombstoned : Table
unfolding listed first_byte
tombstoned =
    listed 8 3 (EMPTY ∷ EMPTY ∷ EMPTY ∷ TOMBSTONE ∷ FULL 11 1 ∷ FULL 4 2 ∷ []) (0 ∷ 1 ∷ 1 ∷ []) ((11 ∷ []) ∷ (11 ∷ 1 ∷ []) ∷ (4 ∷ []) ∷ [])

pub tombstoned_checks : checks tombstoned false 2 2 1 ≡ true
unfolding tombstoned checks buckets_right metas_right each_found counts_equal never_fall live_count full_count tombstone_count sum_to count_to all_to probe probe_from examine same below
tombstoned_checks = refl

pub tombstoned_sound : Sound tombstoned
unfolding tombstoned
tombstoned_sound = checks_sound tombstoned false 2 2 1 tombstoned_checks refl (lit< tt)

-- the probe passes the TOMBSTONE
pub tombstoned_finds : probe tombstoned (11 ∷ 1 ∷ []) ≡ found 1 2
unfolding tombstoned probe probe_from examine same
tombstoned_finds = refl

-- a deleted key is absent
pub tombstoned_lacks : probe tombstoned (11 ∷ []) ≡ absent 4
unfolding tombstoned probe probe_from examine same
tombstoned_lacks = refl
