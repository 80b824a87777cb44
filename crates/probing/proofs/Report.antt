-- What a probe reports, in any table: how a walk comes to it, what stands in the buckets that it names, and that a new key takes the
-- one that it leaves.
-- Assumes nothing.
use Prim.Native.Nat.{ℕ, zero, suc, ◌+◌, ◌-◌, ◌%◌, ◌≤◌, ◌<◌}
use mathlib.Core.Bool.{true, false, and-false}
use mathlib.Core.Path.{◌≡◌, refl, sym, ap, ap₂, ◌∙◌}
use mathlib.Core.Logic.{◌⊎◌, inl, inr}
use mathlib.Core.List.{List}
use native.Mathlib.Nat.{mod-lt, add-sub_cancel}
use native.Mathlib.Numerals.{add-one}
use native.Mathlib.Omega.{arith}
use borrow.Author.Tests.{eq-eqb, ne_eqb}
use Rattle.probing.specs.Table.{Bucket, EMPTY, TOMBSTONE, FULL, Table, is_tombstone, is_full, tombstone_count}
use Rattle.probing.specs.Probe.{Probed, found, absent, broken, home, next, examine, probe, count_of}
use Rattle.probing.specs.Sound.{Sound}
use Rattle.probing.specs.Change.{place}
use Rattle.probing.specs.Report.{or_tombstone, first_tombstone, First, None, report, free_by}
use Rattle.probing.proofs.Counting.{one_more, count_positive}
use Rattle.probing.proofs.Keys.{either, not_both}
use Rattle.probing.proofs.Round.{no_step, suc_step}
use Rattle.probing.proofs.Place.{FirstFree, place_first, first_free_same}
use Rattle.probing.proofs.Reading.Walk.{nth, walk, walk_end, walk_step, probe_walk}
use Rattle.probing.proofs.Reading.{roomy, answers, never_broken, probe_none, absent_iff}
use Rattle.probing.proofs.Reading.Ends.{Ends, found_run, absent_run}

-- A probe on its way: n buckets are passed, p is the first TOMBSTONE among them, and bucket b comes next.
pub record OnWay (t : Table) (k : List ℕ) (b n p : ℕ) : Type 0 where
  pub here : b ≡ nth t k n
  pub rest : probe t k ≡ walk t k (t.B - n) n
  pub passed : p ≡ first_tombstone t (home t k) n

module _ (t : Table) (k : List ℕ) where
  -- it starts at home
  pub starts : OnWay t k (home t k) 0 t.B
  unfolding first_tombstone
  starts =
      let all : t.B ≡ t.B - 0 = omega arith in
      record { here = sym (no_step (t.hash k) t.B); rest = probe_walk t k ∙ ap (λ (left : ℕ). walk t k left 0) all; passed = refl }

  -- a broken table's report
  pub reports_broken : probe t k ≡ broken → report t k ≡ record { end = broken; bucket = home t k; tombstone = t.B }
  unfolding report first_tombstone
  reports_broken e = rw e (ap (λ (b : ℕ). record { end = broken; bucket = b; tombstone = t.B }) (no_step (t.hash k) t.B))

  module _ {b n p : ℕ} (way : OnWay t k b n p) where
    -- no bucket is left
    pub runs_out : t.B ≤ n → probe t k ≡ broken
    runs_out l =
        let none : t.B - n ≡ 0 = omega arith in
        way.rest ∙ ap (λ (left : ℕ). walk t k left n) none ∙ walk_end t k n

    module _ (l : n < t.B) where
      -- what is left of the probe, by what bucket b says
      abbrev onward : Probed
      onward = walk t k (t.B - (n + 1)) (n + 1)

      pub turned : probe t k ≡ examine t k (n + 1) onward (t.bucket b)
      turned =
          let left : t.B - n ≡ suc (t.B - (n + 1)) = omega arith in
          way.rest
          ∙ ap (λ (x : ℕ). walk t k x n) left
          ∙ walk_step t k (t.B - (n + 1)) n
          ∙ ap₂ (λ (c x : ℕ). examine t k c (walk t k (t.B - (n + 1)) c) (t.bucket x)) (sym (add-one n)) (sym way.here)

      -- it goes on, with bucket b passed
      pub goes_on : probe t k ≡ onward → OnWay t k (next t b) (n + 1) (or_tombstone t p b)
      unfolding first_tombstone
      goes_on e =
          record {
            here = ap (next t) way.here ∙ suc_step (home t k) n t.B ∙ ap (nth t k) (sym (add-one n));
            rest = e;
            passed = ap₂ (or_tombstone t) way.passed way.here ∙ ap (first_tombstone t (home t k)) (sym (add-one n));
          }

    -- it ends at bucket b
    pub reports : (end : Probed) → probe t k ≡ end → count_of end ≡ n + 1 → report t k ≡ record { end = end; bucket = b; tombstone = p }
    unfolding report
    reports end e counted =
        let last : count_of (probe t k) - 1 ≡ n = ap (λ (q : Probed). count_of q - 1) e ∙ ap (λ (c : ℕ). c - 1) counted ∙ add-sub_cancel n 1 in
        λ i.
        record {
          end = e i;
          bucket = (ap (nth t k) last ∙ sym way.here) i;
          tombstone = (ap (first_tombstone t (home t k)) last ∙ sym way.passed) i;
        }

module _ (t : Table) (some : 0 < t.B) (h : ℕ) where
  pub first_or_none : (n : ℕ) → First t h n (first_tombstone t h n) ⊎ ((first_tombstone t h n ≡ t.B) × None t h n)
  unfolding first_tombstone
  first_or_none zero = inr (refl, λ i l. absurd (omega arith))
  first_or_none (suc n) = go (first_or_none n)
    where
      at : ℕ
      at = (h + n) % t.B

      here : (p : ℕ) → p ≡ t.B → None t h n → (is_tombstone (t.bucket at) ≡ true) ⊎ (is_tombstone (t.bucket at) ≡ false)
          → First t h (suc n) (or_tombstone t p at) ⊎ ((or_tombstone t p at ≡ t.B) × None t h (suc n))
      here p e none (inl is) =
          let taken : or_tombstone t p at ≡ at = rw (is, eq-eqb p t.B e) refl in
          inl (record { distance = n; within = omega arith; there = taken; is = ap (λ (b : ℕ). is_tombstone (t.bucket b)) taken ∙ is; way = none })
      here p e none (inr not) =
          inr (rw not e, one_more {P = λ i. is_tombstone (t.bucket ((h + i) % t.B)) ≡ false} n none not)

      go : First t h n (first_tombstone t h n) ⊎ ((first_tombstone t h n ≡ t.B) × None t h n)
          → First t h (suc n) (or_tombstone t (first_tombstone t h n) at) ⊎ ((or_tombstone t (first_tombstone t h n) at ≡ t.B) × None t h (suc n))
      go (inl f) =
          let bucket : first_tombstone t h n < t.B = rw f.there (mod-lt _ some) in
          let stays : or_tombstone t (first_tombstone t h n) at ≡ first_tombstone t h n = rw (ne_eqb (first_tombstone t h n) t.B (λ e. omega arith), and-false (is_tombstone (t.bucket at))) refl in
          inl
          (record {
            distance = f.distance;
            within = omega (arith, f.within);
            there = stays ∙ f.there;
            is = ap (λ (b : ℕ). is_tombstone (t.bucket b)) stays ∙ f.is;
            way = f.way;
          })
      go (inr none) = here (first_tombstone t h n) none.0 none.1 (either _)

-- what a report leaves for a key is a bucket
pub left_inside : (t : Table) → 0 < t.B → (k : List ℕ) → free_by t.B (report t k).tombstone (report t k).bucket < t.B
unfolding report
left_inside t some k = go (first_or_none t some (home t k) (count_of (probe t k) - 1))
  where
    go : {p : ℕ} → First t (home t k) (count_of (probe t k) - 1) p ⊎ ((p ≡ t.B) × None t (home t k) (count_of (probe t k) - 1))
        → free_by t.B p (nth t k (count_of (probe t k) - 1)) < t.B
    go {p} (inl f) =
        let bucket : p < t.B = rw f.there (mod-lt _ some) in
        rw (ne_eqb p t.B (λ e. omega arith)) bucket
    go {p} (inr none) = rw (eq-eqb p t.B none.0) (mod-lt _ some)

-- a bucket that is neither EMPTY nor a TOMBSTONE is FULL, and a TOMBSTONE is not
neither : (x : Bucket) → (x ≡ EMPTY → ⊥) → is_tombstone x ≡ false → is_full x ≡ true
neither EMPTY taken not = absurd (taken refl)
neither TOMBSTONE taken not = absurd (not_both refl not)
neither (FULL h s) taken not = refl

not_full : (x : Bucket) → is_tombstone x ≡ true → is_full x ≡ false
not_full EMPTY is = refl
not_full TOMBSTONE is = refl
not_full (FULL h s) is = absurd (not_both is refl)

-- Where a probe finds no key, the key's place is the bucket that the report leaves.
module _ (t : Table) (k : List ℕ) (n : ℕ) (e : probe t k ≡ absent n) where
  abbrev last : ℕ
  last = nth t k (n - 1)

  abbrev first : ℕ
  first = first_tombstone t (home t k) (n - 1)

  run : Ends t k (λ x. x ≡ EMPTY) n
  run = absent_run t k n e

  some : 0 < t.B
  some = omega (arith, run.some, run.bounded)

  free : First t (home t k) (n - 1) first ⊎ ((first ≡ t.B) × None t (home t k) (n - 1)) → FirstFree t (home t k) (free_by t.B first last)
  free (inl f) =
      let bucket : first < t.B = rw f.there (mod-lt _ some) in
      let taken : free_by t.B first last ≡ first = rw (ne_eqb first t.B (λ e. omega arith)) refl in
      record {
        distance = f.distance;
        within = omega (arith, f.within, run.bounded);
        there = taken ∙ f.there;
        free = ap (λ (b : ℕ). is_full (t.bucket b)) taken ∙ not_full (t.bucket first) f.is;
        way = λ i l. neither (t.bucket (nth t k i)) (run.run i (omega (arith, f.within))) (f.way i l);
      }
  free (inr none) =
      let taken : free_by t.B first last ≡ last = rw (eq-eqb first t.B none.0) refl in
      record {
        distance = n - 1;
        within = omega (arith, run.some, run.bounded);
        there = taken;
        free = ap (λ (b : ℕ). is_full (t.bucket b)) taken ∙ ap is_full run.last;
        way = λ i l. neither (t.bucket (nth t k i)) (run.run i l) (none.1 i l);
      }

  pub place_reported : free_by t.B (report t k).tombstone (report t k).bucket ≡ place t k
  unfolding report
  place_reported =
      rw e
      (first_free_same t (home t k) (free (first_or_none t some (home t k) (n - 1)))
      (place_first t k last (mod-lt _ some) (ap is_full run.last)))

-- What stands where the probe for k stopped: nothing, and no live slot has the key; or a live slot that has it.
abbrev pub Vacant : Table → List ℕ → Type 0
Vacant t k = (t.bucket (report t k).bucket ≡ EMPTY) × ((s : ℕ) → s < t.highwater → t.meta s ≡ 1 → t.key s ≡ k → ⊥)

abbrev pub Held : Table → List ℕ → Type 0
Held t k = (s : ℕ) × (h : ℕ) × (t.bucket (report t k).bucket ≡ FULL h s) × (s < t.highwater) × (t.meta s ≡ 1) × (t.key s ≡ k)

module _ (t : Table) (sound : Sound t) (k : List ℕ) where
  pub stopped : Vacant t k ⊎ Held t k
  unfolding report
  stopped = go (answers (probe t k) (never_broken t sound k))
    where
      go : ((s : ℕ) × (n : ℕ) × (probe t k ≡ found s n)) ⊎ ((n : ℕ) × (probe t k ≡ absent n)) → Vacant t k ⊎ Held t k
      go (inl f) =
          let hit = (found_run t k f.0 f.1 f.2).last in
          inr (f.0, t.hash k, rw f.2 hit.stands, hit.below, hit.alive, hit.keyed)
      go (inr a) = inl (rw a.1 (absent_run t k a.0 a.1).last, (absent_iff t sound k).0 a)

  -- with no TOMBSTONE, a key that no live slot has takes the bucket where its probe stopped
  pub clear_place : tombstone_count t ≡ 0 → ((s : ℕ) → s < t.highwater → t.meta s ≡ 1 → t.key s ≡ k → ⊥) → place t k ≡ (report t k).bucket
  unfolding report tombstone_count
  clear_place clear none =
      let a = probe_none t sound k none in
      sym (place_reported t k a.0 a.1) ∙ go (first_or_none t (roomy t sound) (home t k) (count_of (probe t k) - 1))
    where
      go : First t (home t k) (count_of (probe t k) - 1) (report t k).tombstone ⊎ (((report t k).tombstone ≡ t.B) × None t (home t k) (count_of (probe t k) - 1))
          → free_by t.B (report t k).tombstone (report t k).bucket ≡ (report t k).bucket
      go (inl f) = absurd (omega (arith, count_positive t.B (λ b. is_tombstone (t.bucket b)) _ (rw f.there (mod-lt _ (roomy t sound))) f.is, clear))
      go (inr none) = rw (eq-eqb _ _ none.0) refl
