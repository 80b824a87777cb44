-- What a probe has seen when it ends, in any table.
-- Assumes nothing.
use Prim.Native.Nat.{ℕ, zero, suc, ◌+◌, ◌-◌, ◌≤◌, ◌<◌}
use mathlib.Core.Path.{◌≡◌, refl, sym, ap, subst, ◌∙◌}
use mathlib.Core.Bool.{Bool, true, false, cond, ◌&&◌}
use mathlib.Core.Logic.{◌⊎◌, inl, inr}
use mathlib.Core.List.{List}
use native.Mathlib.Nat.{eq-or-lt_of_le}
use native.Mathlib.Omega.{arith}
use lib.Dec.{eqb, leb}
use borrow.Author.Tests.{eqb-true, leb-false}
use Rattle.numbers.specs.Bytes.{same}
use Rattle.probing.specs.Table.{Bucket, EMPTY, TOMBSTONE, FULL, Table, live}
use Rattle.probing.specs.Probe.{Probed, found, absent, broken, examine, probe}
use Rattle.probing.proofs.Keys.{clash, and_both, same_eq}
use Rattle.probing.proofs.Reading.Walk.{nth, walk, walk_end, walk_step, probe_walk}

-- what a bucket and the slot in it are where the probe for k finds slot s there
pub record Hit (t : Table) (k : List ℕ) (s : ℕ) (x : Bucket) : Type 0 where
  pub below : s < t.highwater
  pub alive : t.meta s ≡ 1
  pub keyed : t.key s ≡ k
  pub stands : x ≡ FULL (t.hash k) s

-- what one bucket says, that the probe found slot s: it is there, or it is further on and the bucket is not EMPTY
examine_found :
    (t : Table) (k : List ℕ) (c : ℕ) (onward : Probed) (x : Bucket) (s n : ℕ) → examine t k c onward x ≡ found s n
    → (Hit t k s x × (n ≡ c)) ⊎ ((x ≡ EMPTY → ⊥) × (onward ≡ found s n))
unfolding examine
examine_found t k c onward EMPTY s n e = clash cc
examine_found t k c onward TOMBSTONE s n e = inr (λ q. clash cc, e)
examine_found t k c onward (FULL h s') s n e = go (leb t.highwater s') (eqb h (t.hash k) && same (t.key s') k) (live t s') refl refl refl e
  where
    go : (past equal alive : Bool) → leb t.highwater s' ≡ past → eqb h (t.hash k) && same (t.key s') k ≡ equal → live t s' ≡ alive
        → cond past broken (cond equal (cond alive (found s' c) broken) onward) ≡ found s n
        → (Hit t k s (FULL h s') × (n ≡ c)) ⊎ ((FULL h s' ≡ EMPTY → ⊥) × (onward ≡ found s n))
    go true equal alive p q r e = clash cc
    go false true true p q r e =
        let both = and_both _ _ q in
        let here : s' ≡ s = cc in
        let hit : Hit t k s (FULL h s') =
        record {
          below = omega (arith, leb-false t.highwater s' p);
          alive = ap t.meta (sym here) ∙ eqb-true _ _ r;
          keyed = ap t.key (sym here) ∙ same_eq _ _ both.1;
          stands = cc (eqb-true h (t.hash k) both.0);
        } in
        inl (hit, cc)
    go false true false p q r e = clash cc
    go false false alive p q r e = inr (λ f. clash cc, e)

-- what one bucket says, that the probe found nothing: it is EMPTY, or the probe went on
examine_absent :
    (t : Table) (k : List ℕ) (c : ℕ) (onward : Probed) (x : Bucket) (n : ℕ) → examine t k c onward x ≡ absent n
    → ((x ≡ EMPTY) × (n ≡ c)) ⊎ ((x ≡ EMPTY → ⊥) × (onward ≡ absent n))
unfolding examine
examine_absent t k c onward EMPTY n e = inl (refl, cc)
examine_absent t k c onward TOMBSTONE n e = inr (λ q. clash cc, e)
examine_absent t k c onward (FULL h s') n e = go (leb t.highwater s') (eqb h (t.hash k) && same (t.key s') k) (live t s') e
  where
    go : (past equal alive : Bool) → cond past broken (cond equal (cond alive (found s' c) broken) onward) ≡ absent n
        → ((FULL h s' ≡ EMPTY) × (n ≡ c)) ⊎ ((FULL h s' ≡ EMPTY → ⊥) × (onward ≡ absent n))
    go true equal alive e = clash cc
    go false true true e = clash cc
    go false true false e = clash cc
    go false false alive e = inr (λ f. clash cc, e)

-- A probe for k that ends at count n, where the last bucket is as Last says: the count is 1 to B, and no bucket before is EMPTY.
pub record Ends (t : Table) (k : List ℕ) (Last : Bucket → Type 0) (n : ℕ) : Type 0 where
  pub some : 1 ≤ n
  pub bounded : n ≤ t.B
  pub last : Last (t.bucket (nth t k (n - 1)))
  pub run : (i : ℕ) → i < n - 1 → t.bucket (nth t k i) ≡ EMPTY → ⊥

-- the same from step i on, with so many buckets left
record EndsFrom (t : Table) (k : List ℕ) (Last : Bucket → Type 0) (n left i : ℕ) : Type 0 where
  after : i < n
  bounded : n ≤ i + left
  last : Last (t.bucket (nth t k (n - 1)))
  run : (j : ℕ) → i ≤ j → j < n - 1 → t.bucket (nth t k j) ≡ EMPTY → ⊥

-- one bucket's part in an answer with count n: it is the last and as Last says, or it is not EMPTY and the answer is further on
abbrev Told : Table → List ℕ → Probed → (Bucket → Type 0) → ℕ → Type 0
Told t k answer Last n =
    (c : ℕ) (onward : Probed) (x : Bucket) → examine t k c onward x ≡ answer → (Last x × (n ≡ c)) ⊎ ((x ≡ EMPTY → ⊥) × (onward ≡ answer))

module _
    (t : Table) (k : List ℕ) (answer : Probed) (Last : Bucket → Type 0) (n : ℕ)
    (whole : broken ≡ answer → ⊥) (told : Told t k answer Last n)
  where
    ends_from : (left i : ℕ) → walk t k left i ≡ answer → EndsFrom t k Last n left i
    ends_from zero i e = absurd (whole (sym (walk_end t k i) ∙ e))
    ends_from (suc left) i e =
        go (told (suc i) (walk t k left (suc i)) (t.bucket (nth t k i)) (sym (walk_step t k left i) ∙ e)) (ends_from left (suc i))
      where
        go : (Last (t.bucket (nth t k i)) × (n ≡ suc i)) ⊎ ((t.bucket (nth t k i) ≡ EMPTY → ⊥) × (walk t k left (suc i) ≡ answer))
            → (walk t k left (suc i) ≡ answer → EndsFrom t k Last n left (suc i)) → EndsFrom t k Last n (suc left) i
        go (inl p) r =
            let here : i ≡ n - 1 = omega arith in
            record {
              after = omega arith;
              bounded = omega arith;
              last = subst (λ (j : ℕ). Last (t.bucket (nth t k j))) here p.0;
              run = λ j l m. absurd (omega arith);
            }
        go (inr p) r = let f = r p.1 in
            record {
              after = omega (arith, f.after);
              bounded = omega (arith, f.bounded);
              last = f.last;
              run = λ j l m. at_or_past j m (eq-or-lt_of_le l);
            }
          where
            at_or_past : (j : ℕ) → j < n - 1 → (i ≡ j) ⊎ (i < j) → t.bucket (nth t k j) ≡ EMPTY → ⊥
            at_or_past j m (inl q) = subst (λ (x : ℕ). t.bucket (nth t k x) ≡ EMPTY → ⊥) q p.0
            at_or_past j m (inr q) = (r p.1).run j q m

    ends : probe t k ≡ answer → Ends t k Last n
    ends e = let f = ends_from t.B 0 (sym (probe_walk t k) ∙ e) in
        record {
          some = f.after;
          bounded = omega (arith, f.bounded);
          last = f.last;
          run = λ i l. f.run i (omega arith) l;
        }

-- A probe that found slot s: 1 to B buckets, a live slot below highwater with that key in the last one, and no EMPTY before.
pub found_run : (t : Table) (k : List ℕ) (s n : ℕ) → probe t k ≡ found s n → Ends t k (Hit t k s) n
found_run t k s n =
    ends t k (found s n) (Hit t k s) n (λ e. clash cc) (λ c onward x. examine_found t k c onward x s n)

-- A probe that found nothing: 1 to B buckets, and count − 1 is the length of the unbroken run of buckets that are not EMPTY from
-- the key's home, since the last bucket is EMPTY and none before is.
pub absent_run : (t : Table) (k : List ℕ) (n : ℕ) → probe t k ≡ absent n → Ends t k (λ x. x ≡ EMPTY) n
absent_run t k n =
    ends t k (absent n) (λ x. x ≡ EMPTY) n (λ e. clash cc) (λ c onward x. examine_absent t k c onward x n)
