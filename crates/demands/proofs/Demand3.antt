-- The third demand: of an image that the full check passes, lookup's counts are the probe rule's, bounded and summed.
-- Assumes nothing.
use Prim.Native.Nat.{ℕ, ◌+◌, ◌≤◌, ◌<◌}
use mathlib.Core.Path.{◌≡◌, refl, sym, ap, ◌∙◌}
use mathlib.Core.Bool.{cond}
use mathlib.Core.Logic.{◌⊎◌, inl, inr}
use mathlib.Core.List.{List}
use native.Mathlib.Omega.{arith}
use lib.ListN.{length}
use Rattle.probing.specs.Table.{live, live_count, tombstone_count}
use Rattle.probing.specs.Probe.{Probed, found, absent, broken, probe, count_of}
use Rattle.probing.specs.Check.{probes}
use Rattle.probing.specs.Overflow.{lawful}
use Rattle.probing.proofs.Counting.{sum_same}
use Rattle.probing.proofs.Reading.{never_broken}
use Rattle.probing.proofs.Reading.Bound.{count_bound}
use Rattle.probing.proofs.SumLaw.{sum_by_homes}
use Rattle.probing.proofs.Homes.{sum_of_homes_lem}
use Rattle.header.specs.declared.options.Options.{Options}
use Rattle.header.specs.Answer.{done, not_present}
use Rattle.header.specs.HeaderTest.{shape_of}
use Rattle.header.proofs.Fit.{fit_shaped, fit_key_size}
use Rattle.image.specs.Table.{table_of}
use Rattle.image.specs.Lookup.{probe_of, lookup_by, lookup_of}
use Rattle.image.specs.Check.{Checked, check_of}
use Rattle.image.proofs.Places.{key_length}
use Rattle.image.proofs.Looked.{looked_by, looked_fit}
use Rattle.image.proofs.FullCheck.{Whole, full_check_law, whole_told, full_check_sum}
use Rattle.demands.specs.Demand3.{table_in, sum_of_lookups, Demand3}

-- lookup reports this count, with 0 or 9
abbrev Reports : Options → List ℕ → List ℕ → ℕ → Type 0
Reports o image key count =
    (((lookup_of o image key).answer ≡ done) ⊎ ((lookup_of o image key).answer ≡ not_present)) × ((lookup_of o image key).buckets ≡ count)

-- An image that the full check passes.
module _ (o : Options) (image : List ℕ) (passed : (check_of o image).answer ≡ done) where
  whole : Whole o image
  whole = (full_check_law o image).0 passed

  size : (shape_of image).layout.key_size ≡ o.key_size
  size = fit_key_size o image whole.header

  -- lookup of a key of the right length reports what the probe rule counts
  reports : (key : List ℕ) → length key ≡ o.key_size → Reports o image key (count_of (probe (table_in image) key))
  unfolding probe_of
  reports key e = go (probe (table_in image) key) refl
    where
      looked : (p : Probed) → probe (table_in image) key ≡ p → lookup_of o image key ≡ lookup_by (shape_of image) image p
      looked p q = sym (looked_by (shape_of image) image key (e ∙ sym size) p q ∙ looked_fit o image key (sym whole.header))

      go : (p : Probed) → probe (table_in image) key ≡ p → Reports o image key (count_of p)
      go (found n count) q = rw (looked _ q) (inl refl, refl)
      go (absent count) q = rw (looked _ q) (inr refl, refl)
      go broken q = absurd (never_broken (table_in image) whole.sound key q)

  -- at most live keys plus tombstones plus one
  bounds :
      (key : List ℕ) → length key ≡ o.key_size
      → (lookup_of o image key).buckets ≤ (check_of o image).live + (check_of o image).tombstones + 1
  bounds key e =
      rw ((reports key e).1, whole_told o image whole, whole.lives ∙ sym whole.fulls) (count_bound (table_in image) key)

  -- the slots' keys are of the right length, so their lookups' counts are those that the full check sums
  summed : sum_of_lookups o image ≡ probes (table_in image)
  unfolding probes table_of
  summed =
      sum_same (table_in image).highwater
      (λ n below. ap (λ (x : ℕ). cond (live (table_in image) n) x 0) (reports ((table_in image).key n) (sized n below)).1)
    where
      sized : (n : ℕ) → n < (shape_of image).slot_highwater → length ((table_in image).key n) ≡ o.key_size
      sized n below =
          let shaped = fit_shaped o image whole.header in
          key_length (shape_of image).layout image shaped.laid n (omega (arith, shaped.highwater)) ∙ size

  -- the full check returns that sum
  returned : (check_of o image).probes ≡ sum_of_lookups o image
  returned = ap (λ (c : Checked). c.probes) (whole_told o image whole) ∙ sym summed

  counts : ((check_of o image).live ≡ live_count (table_in image)) × ((check_of o image).tombstones ≡ tombstone_count (table_in image))
  counts = let told = whole_told o image whole in (ap (λ (c : Checked). c.live) told, ap (λ (c : Checked). c.tombstones) told)

  -- where the full check tells no tombstones, the table has none
  clear : (check_of o image).tombstones ≡ 0 → tombstone_count (table_in image) ≡ 0
  clear none = sym counts.1 ∙ none

pub demand3 : Demand3
unfolding lawful
demand3 =
    record {
      counts = counts;
      reports = λ o image key passed. reports o image passed key;
      bounds = λ o image key passed. bounds o image passed key;
      sums = λ o image passed none. sym (returned o image passed) ∙ full_check_sum o image passed none;
      returned = returned;
      from_homes = λ o image passed none.
          summed o image passed ∙ sum_of_homes_lem (table_in image) (whole o image passed).sound (clear o image passed none);
      by_homes = λ o o' image image' passed passed' none none' equal homes.
          summed o image passed
          ∙ sum_by_homes (table_in image) (table_in image') (whole o image passed).sound (whole o' image' passed').sound equal homes
          (clear o image passed none) (clear o' image' passed' none')
          ∙ sym (summed o' image' passed');
    }
