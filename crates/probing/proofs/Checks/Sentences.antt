-- The full check's sentences, as facts.
-- Assumes nothing.
use Prim.Native.Nat.{ℕ, ◌<◌}
use mathlib.Core.Path.{◌≡◌, refl, sym, ap, ◌∙◌}
use mathlib.Core.Bool.{Bool, true, ◌&&◌, ◌||◌, false≢true}
use mathlib.Core.Logic.{◌⊎◌, inl, inr}
use lib.Dec.{eqb, ltb}
use borrow.Author.Tests.{eqb-true, eq-eqb, ltb-true, lt-ltb}
use Rattle.probing.specs.Table.{Bucket, EMPTY, TOMBSTONE, FULL, Table, live, live_count, full_count, tombstone_count}
use Rattle.probing.specs.Probe.{Probed, found, absent, broken, probe, found_at}
use Rattle.probing.specs.Check.{bucket_right, buckets_right, metas_right, each_found, counts_equal, never_fall, checks}
use Rattle.probing.proofs.Keys.{and_both, both_and, or_either, left_or, right_or, implied, imply}
use Rattle.probing.proofs.Counting.{all_at, all_of}

-- "Every FULL bucket points below highwater at a slot with meta 1 and carries its key's hash": what bucket x says
abbrev pub PointsRight : Table → Bucket → Type 0
PointsRight t x = (h s : ℕ) → x ≡ FULL h s → (s < t.highwater) × (t.meta s ≡ 1) × (h ≡ t.hash (t.key s))

point_right : (t : Table) (x : Bucket) → bucket_right t x ≡ true → PointsRight t x
point_right t x e h s q =
    let tests : ltb s t.highwater && live t s && eqb h (t.hash (t.key s)) ≡ true = ap (bucket_right t) (sym q) ∙ e in
    let two = and_both (ltb s t.highwater && live t s) _ tests in
    let one = and_both (ltb s t.highwater) _ two.0 in
    (ltb-true _ _ one.0, eqb-true _ _ one.1, eqb-true _ _ two.1)

right_point : (t : Table) (x : Bucket) → PointsRight t x → bucket_right t x ≡ true
right_point t EMPTY f = refl
right_point t TOMBSTONE f = refl
right_point t (FULL h s) f = let p = f h s refl in both_and (both_and (lt-ltb _ _ p.0) (eq-eqb _ _ p.1)) (eq-eqb _ _ p.2)

-- "every slot below highwater has meta 0 or 1": what slot s says
abbrev pub ZeroOrOne : Table → ℕ → Type 0
ZeroOrOne t s = (t.meta s ≡ 0) ⊎ (t.meta s ≡ 1)

zero_or_one : (t : Table) (s : ℕ) → (eqb (t.meta s) 0 ≡ true) ⊎ (eqb (t.meta s) 1 ≡ true) → ZeroOrOne t s
zero_or_one t s (inl e) = inl (eqb-true _ _ e)
zero_or_one t s (inr e) = inr (eqb-true _ _ e)

one_or_zero : (t : Table) (s : ℕ) → ZeroOrOne t s → eqb (t.meta s) 0 || eqb (t.meta s) 1 ≡ true
one_or_zero t s (inl e) = left_or (eqb (t.meta s) 1) (eq-eqb _ _ e)
one_or_zero t s (inr e) = right_or (eqb (t.meta s) 0) (eq-eqb _ _ e)

-- "probing each live slot's key finds that slot": what a probe p says of slot s
abbrev pub Finds : Probed → ℕ → Type 0
Finds p s = (n : ℕ) × (p ≡ found s n)

found_there : (p : Probed) (s : ℕ) → found_at p s ≡ true → Finds p s
found_there (found s' n) s e = (n, ap (λ (x : ℕ). found x n) (eqb-true s' s e))
found_there (absent n) s e = absurd (false≢true e)
found_there broken s e = absurd (false≢true e)

there_found : (p : Probed) (s : ℕ) → Finds p s → found_at p s ≡ true
there_found p s f = ap (λ (x : Probed). found_at x s) f.1 ∙ eq-eqb s s refl

-- What the full check's sentences say, with the header's counts.
pub record Passed (t : Table) (ordered : Bool) (live_count_field used tombstones : ℕ) : Type 0 where
  pub full : (b : ℕ) → b < t.B → PointsRight t (t.bucket b)
  pub metas : (s : ℕ) → s < t.highwater → ZeroOrOne t s
  pub each : (s : ℕ) → s < t.highwater → t.meta s ≡ 1 → Finds (probe t (t.key s)) s
  pub lives : live_count t ≡ live_count_field
  pub fulls : full_count t ≡ used
  pub tombs : tombstone_count t ≡ tombstones
  pub order : ordered ≡ true → never_fall t ≡ true

module _ (t : Table) (ordered : Bool) (live_count_field used tombstones : ℕ) where
  -- where the check passes its sentences hold
  pub checks_passed : checks t ordered live_count_field used tombstones ≡ true → Passed t ordered live_count_field used tombstones
  unfolding checks buckets_right metas_right each_found counts_equal
  checks_passed e =
      let four = and_both (buckets_right t && metas_right t && each_found t && counts_equal t live_count_field used tombstones) _ e in
      let three = and_both (buckets_right t && metas_right t && each_found t) _ four.0 in
      let two = and_both (buckets_right t && metas_right t) _ three.0 in
      let one = and_both (buckets_right t) _ two.0 in
      let counts = and_both (eqb (live_count t) live_count_field && eqb (full_count t) used) _ three.1 in
      let lives-fulls = and_both (eqb (live_count t) live_count_field) _ counts.0 in
      record {
        full = λ b l. point_right t (t.bucket b) (all_at t.B _ one.0 b l);
        metas = λ s l. zero_or_one t s (or_either _ _ (all_at t.highwater _ one.1 s l));
        each = λ s l a. found_there _ s (implied (live t s) _ (all_at t.highwater _ two.1 s l) (eq-eqb _ _ a));
        lives = eqb-true _ _ lives-fulls.0;
        fulls = eqb-true _ _ lives-fulls.1;
        tombs = eqb-true _ _ counts.1;
        order = implied ordered _ four.1;
      }

  -- and the other way
  pub passed_checks : Passed t ordered live_count_field used tombstones → checks t ordered live_count_field used tombstones ≡ true
  unfolding checks buckets_right metas_right each_found counts_equal
  passed_checks p =
      let buckets : buckets_right t ≡ true = all_of t.B _ (λ b l. right_point t (t.bucket b) (p.full b l)) in
      let metas : metas_right t ≡ true = all_of t.highwater _ (λ s l. one_or_zero t s (p.metas s l)) in
      let each : each_found t ≡ true =
      all_of t.highwater _ (λ s l. imply (live t s) _ (λ a. there_found _ s (p.each s l (eqb-true _ _ a)))) in
      let counts = both_and (both_and (eq-eqb _ _ p.lives) (eq-eqb _ _ p.fulls)) (eq-eqb _ _ p.tombs) in
      both_and (both_and (both_and (both_and buckets metas) each) counts) (imply ordered _ p.order)
