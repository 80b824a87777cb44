-- How many buckets a probe examines at most, in any table.
-- Assumes nothing.
use Prim.Native.Nat.{ℕ, ◌+◌, ◌-◌, ◌≤◌, ◌<◌}
use mathlib.Core.Path.{◌≡◌, refl, ◌∙◌}
use mathlib.Core.Bool.{true, not}
use mathlib.Core.List.{List}
use native.Mathlib.Nat.{mod-lt}
use native.Mathlib.Omega.{arith}
use Rattle.probing.specs.Counting.{one, count_to}
use Rattle.probing.specs.Table.{Bucket, EMPTY, TOMBSTONE, FULL, Table, is_empty, is_full, is_tombstone, full_count, tombstone_count}
use Rattle.probing.specs.Probe.{Probed, found, absent, broken, home, probe, count_of}
use Rattle.probing.proofs.Round.{steps_differ}
use Rattle.probing.proofs.Counting.{sum_same, sum_add, sum_ones, count_into}
use Rattle.probing.proofs.Reading.Walk.{nth}
use Rattle.probing.proofs.Reading.Ends.{Hit, Ends, found_run, absent_run}

-- how many buckets are not EMPTY
unfoldable pub taken_count : Table → ℕ
taken_count t = count_to t.B (λ b. not (is_empty (t.bucket b)))

-- a bucket that is not EMPTY is FULL or TOMBSTONE
pub taken_count_lem : (t : Table) → taken_count t ≡ full_count t + tombstone_count t
unfolding taken_count full_count tombstone_count count_to
taken_count_lem t = sum_same t.B (λ b l. go (t.bucket b)) ∙ sum_add t.B (λ b. one (is_full (t.bucket b))) (λ b. one (is_tombstone (t.bucket b)))
  where
    go : (x : Bucket) → one (not (is_empty x)) ≡ one (is_full x) + one (is_tombstone x)
    go EMPTY = refl
    go TOMBSTONE = refl
    go (FULL h s) = refl

-- a bucket that is not EMPTY is taken
not_empty : (x : Bucket) → (x ≡ EMPTY → ⊥) → not (is_empty x) ≡ true
not_empty EMPTY h = absurd (h refl)
not_empty TOMBSTONE h = refl
not_empty (FULL h' s) h = refl

-- all the numbers below n
pub count_all : (n : ℕ) → count_to n (λ i. true) ≡ n
unfolding count_to
count_all n = sum_ones n

-- a run of buckets that are not EMPTY, at most a round long, is no longer than there are such buckets
run_bound : (t : Table) (k : List ℕ) (n : ℕ) → n ≤ t.B → ((i : ℕ) → i < n → t.bucket (nth t k i) ≡ EMPTY → ⊥) → n ≤ taken_count t
unfolding taken_count
run_bound t k n small run =
    let into = count_into n t.B (λ i. true) (λ b. not (is_empty (t.bucket b))) (nth t k)
    (λ i l e. (mod-lt _ (omega arith), not_empty _ (run i l)))
    (λ i j l m e e'. steps_differ (home t k) i j t.B (omega arith) (omega arith)) in
    omega (arith, count_all n)

-- what ends a probe bounds its count
ends_bound : (t : Table) (k : List ℕ) (Last : Bucket → Type 0) (n : ℕ) → Ends t k Last n → n ≤ full_count t + tombstone_count t + 1
ends_bound t k Last n e = omega (arith, run_bound t k (n - 1) (omega arith) e.run, taken_count_lem t)

-- A probe examines at most the buckets that are FULL or TOMBSTONE, and one.
pub count_bound : (t : Table) (k : List ℕ) → count_of (probe t k) ≤ full_count t + tombstone_count t + 1
count_bound t k = go (probe t k) refl
  where
    go : (p : Probed) → probe t k ≡ p → count_of p ≤ full_count t + tombstone_count t + 1
    go (found s n) e = ends_bound t k (Hit t k s) n (found_run t k s n e)
    go (absent n) e = ends_bound t k (λ x. x ≡ EMPTY) n (absent_run t k n e)
    go broken e = omega arith
