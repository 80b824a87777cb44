-- What the inner probe reports.
-- Assumes nothing.
use Prim.Native.Nat.{ℕ, ◌-◌, ◌<◌}
use mathlib.Core.Bool.{true, false}
use mathlib.Core.Path.{◌≡◌, refl, sym, ap, ◌∙◌}
use mathlib.Core.Logic.{◌⊎◌, inl, inr}
use mathlib.Core.List.{List}
use native.Mathlib.Nat.{mod-lt}
use native.Mathlib.Omega.{arith}
use Rattle.probing.specs.Table.{EMPTY, TOMBSTONE, FULL, Table, is_tombstone, is_full}
use Rattle.probing.specs.Probe.{found, absent, broken, home, probe, count_of}
use Rattle.probing.specs.Report.{First, None, report}
use Rattle.probing.specs.Change.{update, deleted, place}
use Rattle.probing.proofs.Keys.{not_both}
use Rattle.probing.proofs.Reading.{answers}
use Rattle.probing.proofs.Reading.Ends.{found_run, absent_run}
use Rattle.probing.proofs.Rebuild.{unbuilt}
use Rattle.probing.proofs.Place.{place_stays}
use Rattle.probing.proofs.Report.{first_or_none, place_reported}
use Rattle.soundness.proofs.Accepted.{accepted_ready}
use Rattle.soundness.proofs.Grown.{new_missing}
use Rattle.demands.specs.OneProbe.{left, OneProbe}

module _ (t : Table) (k : List ℕ) where
  stopped_found : (s n : ℕ) → probe t k ≡ found s n → t.bucket (report t k).bucket ≡ FULL (t.hash k) s
  unfolding report
  stopped_found s n e = rw e (found_run t k s n e).last.stands

  stopped_absent : (n : ℕ) → probe t k ≡ absent n → t.bucket (report t k).bucket ≡ EMPTY
  unfolding report
  stopped_absent n e = rw e (absent_run t k n e).last

  inside : 0 < t.B → (report t k).bucket < t.B
  unfolding report
  inside some = mod-lt _ some

  passed : 0 < t.B
      → First t (home t k) (count_of (probe t k) - 1) (report t k).tombstone ⊎ (((report t k).tombstone ≡ t.B) × None t (home t k) (count_of (probe t k) - 1))
  unfolding report
  passed some = first_or_none t some (home t k) (count_of (probe t k) - 1)

  -- what stands where it stopped is no TOMBSTONE
  apart : (probe t k ≡ broken → ⊥) → (report t k).tombstone ≡ (report t k).bucket → ⊥
  apart whole same = go (answers (probe t k) whole)
    where
      by : 0 < t.B → is_tombstone (t.bucket (report t k).bucket) ≡ false
          → First t (home t k) (count_of (probe t k) - 1) (report t k).tombstone ⊎ (((report t k).tombstone ≡ t.B) × None t (home t k) (count_of (probe t k) - 1)) → ⊥
      by some other (inl f) = not_both f.is (ap (λ (b : ℕ). is_tombstone (t.bucket b)) same ∙ other)
      by some other (inr n) = omega (arith, n.0, same, inside some)

      go : ((s : ℕ) × (n : ℕ) × (probe t k ≡ found s n)) ⊎ ((n : ℕ) × (probe t k ≡ absent n)) → ⊥
      go (inl f) =
          let run = found_run t k f.0 f.1 f.2 in
          let some : 0 < t.B = omega (arith, run.some, run.bounded) in
          by some (ap is_tombstone (stopped_found f.0 f.1 f.2)) (passed some)
      go (inr a) =
          let run = absent_run t k a.0 a.1 in
          let some : 0 < t.B = omega (arith, run.some, run.bounded) in
          by some (ap is_tombstone (stopped_absent a.0 a.1)) (passed some)

  deletes : (s n : ℕ) → probe t k ≡ found s n → (deleted t k).bucket ≡ update t.bucket (report t k).bucket TOMBSTONE
  unfolding deleted report
  deletes s n e = rw e refl

serves_on : (t u : Table) → t.B ≡ u.B → t.hash ≡ u.hash → ((b : ℕ) → b < t.B → is_full (t.bucket b) ≡ true → is_full (u.bucket b) ≡ true)
    → (k : List ℕ) (n : ℕ) → probe t k ≡ absent n → is_full (u.bucket (left t k)) ≡ false → place u k ≡ left t k
serves_on t u same_b same_hash full k n e free =
    let run = absent_run t k n e in
    let placed = place_reported t k n e in
    place_stays t u same_b same_hash k full (report t k).bucket (inside t k (omega (arith, run.some, run.bounded)))
    (ap is_full (stopped_absent t k n e)) (ap (λ (b : ℕ). is_full (u.bucket b)) (sym placed) ∙ free)
    ∙ sym placed

pub one_probe : OneProbe
unfolding report
one_probe =
    record {
      ended = λ t k. refl;
      stopped_found = stopped_found;
      stopped_absent = stopped_absent;
      inside = inside;
      passed = passed;
      apart = apart;
      deletes = deletes;
      places = λ t k n e. sym (place_reported t k n e);
      serves_on = serves_on;
      in_turn = λ o image batch accepted. new_missing _ image batch (accepted_ready o image batch accepted);
      in_rebuild = unbuilt;
    }
