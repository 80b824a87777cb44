-- Tables that agree within their ends: buckets below B, slots below highwater. Nothing else is ever looked at.
-- Assumes nothing.
use Prim.Native.Nat.{ℕ, zero, suc, ◌+◌, ◌-◌, ◌<◌}
use mathlib.Core.Bool.{Bool, true, false, cond, not, ◌&&◌, ◌||◌}
use mathlib.Core.Path.{◌≡◌, refl, sym, ap, ap₂, ◌∙◌}
use mathlib.Core.List.{List}
use native.Mathlib.Nat.{mod-lt}
use native.Mathlib.Omega.{arith}
use lib.Dec.{eqb, ltb, leb}
use borrow.Author.Tests.{ltb-true, leb-false}
use Rattle.numbers.specs.Bytes.{same, below}
use Rattle.probing.specs.Counting.{all_to}
use Rattle.probing.specs.Table.{Bucket, EMPTY, TOMBSTONE, FULL, Table, is_full, is_tombstone, live, live_count, full_count, tombstone_count}
use Rattle.probing.specs.Probe.{Probed, found, broken, home, next, examine, probe_from, probe, found_at, count_of}
use Rattle.probing.specs.Check.{bucket_right, buckets_right, metas_right, each_found, counts_equal, never_fall, checks, probes}
use Rattle.probing.specs.Sound.{Sound}
use Rattle.probing.specs.Change.{takes, place_from, place}
use Rattle.probing.specs.Overflow.{homes_of}
use Rattle.probing.proofs.Counting.{sum_same, count_same}

-- tests that are equal below n pass together
all_same : (n : ℕ) {p q : ℕ → Bool} → ((i : ℕ) → i < n → p i ≡ q i) → all_to n p ≡ all_to n q
unfolding all_to
all_same zero h = refl
all_same (suc n) h = ap₂ ◌&&◌ (all_same n (λ i l. h i (omega arith))) (h n (omega arith))

-- the table with other buckets, metas and keys
abbrev pub holding : Table → (ℕ → Bucket) → (ℕ → ℕ) → (ℕ → List ℕ) → Table
holding t f m g = record { B = t.B; highwater = t.highwater; bucket = f; meta = m; key = g; hash = t.hash }

module _ (t : Table) (f : ℕ → Bucket) (m : ℕ → ℕ) (g : ℕ → List ℕ)
    (buckets : (b : ℕ) → b < t.B → f b ≡ t.bucket b) (metas : (s : ℕ) → s < t.highwater → m s ≡ t.meta s)
    (keys : (s : ℕ) → s < t.highwater → g s ≡ t.key s) where
  abbrev u : Table
  u = holding t f m g

  -- one bucket's word to a probe
  examine_agree : (k : List ℕ) (c : ℕ) (onward : Probed) (x : Bucket) → examine u k c onward x ≡ examine t k c onward x
  unfolding examine
  examine_agree k c onward EMPTY = refl
  examine_agree k c onward TOMBSTONE = refl
  examine_agree k c onward (FULL h s) = go (leb t.highwater s) refl
    where
      tested : (ℕ → ℕ) → (ℕ → List ℕ) → Probed
      tested meta key = cond (eqb h (t.hash k) && same (key s) k) (cond (eqb (meta s) 1) (found s c) broken) onward

      go : (past : Bool) → leb t.highwater s ≡ past → cond past broken (tested m g) ≡ cond past broken (tested t.meta t.key)
      go true p = refl
      go false p = rw (metas s (leb-false _ _ p), keys s (leb-false _ _ p))

  -- a probe never looks past the ends
  probe_from_agree : (k : List ℕ) (left b passed : ℕ) → b < t.B → probe_from u k left b passed ≡ probe_from t k left b passed
  unfolding probe_from
  probe_from_agree k zero b passed l = refl
  probe_from_agree k (suc left) b passed l =
      examine_agree k (passed + 1) (probe_from u k left (next t b) (passed + 1)) (f b)
      ∙ ap₂ (examine t k (passed + 1)) (probe_from_agree k left (next t b) (passed + 1) (mod-lt _ (omega arith))) (buckets b l)

  pub probe_agree : 0 < t.B → (k : List ℕ) → probe u k ≡ probe t k
  unfolding probe
  probe_agree some k = probe_from_agree k t.B (home t k) 0 (mod-lt _ some)

  -- nor does the search for a key's place
  place_from_agree : (left b : ℕ) → b < t.B → place_from u left b ≡ place_from t left b
  unfolding place_from
  place_from_agree zero b l = refl
  place_from_agree (suc left) b l = ap₂ (takes b) (place_from_agree left (next t b) (mod-lt _ (omega arith))) (buckets b l)

  pub place_agree : 0 < t.B → (k : List ℕ) → place u k ≡ place t k
  unfolding place
  place_agree some k = place_from_agree t.B (home t k) (mod-lt _ some)

  live_agree : (s : ℕ) → s < t.highwater → live u s ≡ live t s
  live_agree s l = ap (λ (x : ℕ). eqb x 1) (metas s l)

  pub live_count_agree : live_count u ≡ live_count t
  unfolding live_count
  live_count_agree = count_same t.highwater live_agree

  pub full_count_agree : full_count u ≡ full_count t
  unfolding full_count
  full_count_agree = count_same t.B (λ b l. ap is_full (buckets b l))

  pub tombstone_count_agree : tombstone_count u ≡ tombstone_count t
  unfolding tombstone_count
  tombstone_count_agree = count_same t.B (λ b l. ap is_tombstone (buckets b l))

  pub homes_of_agree : (b : ℕ) → homes_of u b ≡ homes_of t b
  unfolding homes_of
  homes_of_agree b = count_same t.highwater (λ s l. rw (metas s l, keys s l))

  -- the sentences of the full check
  bucket_right_agree : (x : Bucket) → bucket_right u x ≡ bucket_right t x
  bucket_right_agree EMPTY = refl
  bucket_right_agree TOMBSTONE = refl
  bucket_right_agree (FULL h s) = go (ltb s t.highwater) refl
    where
      go : (inside : Bool) → ltb s t.highwater ≡ inside
          → inside && live u s && eqb h (t.hash (g s)) ≡ inside && live t s && eqb h (t.hash (t.key s))
      go true p = rw (metas s (ltb-true _ _ p), keys s (ltb-true _ _ p))
      go false p = refl

  buckets_right_agree : buckets_right u ≡ buckets_right t
  unfolding buckets_right
  buckets_right_agree = all_same t.B (λ b l. bucket_right_agree (f b) ∙ ap (bucket_right t) (buckets b l))

  pub metas_right_agree : metas_right u ≡ metas_right t
  unfolding metas_right
  metas_right_agree = all_same t.highwater (λ s l. ap (λ (x : ℕ). eqb x 0 || eqb x 1) (metas s l))

  -- the probe for a slot's key
  each_probe : 0 < t.B → (s : ℕ) → s < t.highwater → probe u (g s) ≡ probe t (t.key s)
  each_probe some s l = probe_agree some (g s) ∙ ap (probe t) (keys s l)

  each_found_agree : 0 < t.B → each_found u ≡ each_found t
  unfolding each_found
  each_found_agree some =
      all_same t.highwater (λ s l. ap₂ (λ (alive : Bool) (p : Probed). not alive || found_at p s) (live_agree s l) (each_probe some s l))

  pub never_fall_agree : never_fall u ≡ never_fall t
  unfolding never_fall
  never_fall_agree =
      all_same (t.highwater - 1) (λ s l. ap₂ (λ (x y : List ℕ). not (below x y)) (keys (s + 1) (omega arith)) (keys s (omega arith)))

  pub checks_agree : 0 < t.B → (ordered : Bool) (live_count_field used tombstones : ℕ)
      → checks u ordered live_count_field used tombstones ≡ checks t ordered live_count_field used tombstones
  unfolding checks counts_equal
  checks_agree some ordered live_count_field used tombstones =
      rw (buckets_right_agree, metas_right_agree, each_found_agree some, live_count_agree, full_count_agree, tombstone_count_agree, never_fall_agree)

  pub probes_agree : 0 < t.B → probes u ≡ probes t
  unfolding probes
  probes_agree some =
      sum_same t.highwater (λ s l. ap₂ (λ (alive : Bool) (p : Probed). cond alive (count_of p) 0) (live_agree s l) (each_probe some s l))

  -- what is sound stays so
  pub sound_agree : Sound t → Sound u
  sound_agree sound =
      record {
        full = λ b h s l q.
            let old = sound.full b h s l (sym (buckets b l) ∙ q) in
            (old.0, metas s old.0 ∙ old.1, old.2 ∙ ap t.hash (sym (keys s old.0)));
        different = λ s s' l l' e e' same.
            sound.different s s' l l' (sym (metas s l) ∙ e) (sym (metas s' l') ∙ e') (sym (keys s l) ∙ same ∙ keys s' l');
        reached = λ s l e.
            let r = sound.reached s l (sym (metas s l) ∙ e) in
            record {
              distance = r.distance;
              within = r.within;
              stands = rw (keys s l) (buckets _ (mod-lt _ (omega (arith, r.within))) ∙ r.stands);
              way = λ i less q.
                  let q' = rw (keys s l) at q in
                  r.way i less (sym (buckets _ (mod-lt _ (omega (arith, r.within)))) ∙ q');
            };
        single = λ b b' h h' s l l' q q'. sound.single b b' h h' s l l' (sym (buckets b l) ∙ q) (sym (buckets b' l') ∙ q');
        vacant = let v = sound.vacant in (v.0, v.1, buckets v.0 v.1 ∙ v.2);
      }
