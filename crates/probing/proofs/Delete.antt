-- A deleted key: its slot is live no more, its bucket is a TOMBSTONE, and all else stays.
-- Assumes nothing.
use Prim.Native.Nat.{ℕ, ◌+◌, ◌-◌, ◌%◌, ◌<◌}
use mathlib.Core.Bool.{true, ◌||◌}
use mathlib.Core.Path.{◌≡◌, refl, sym, ap, ◌∙◌}
use mathlib.Core.Logic.{◌↔◌}
use mathlib.Core.List.{List}
use native.Mathlib.Nat.{mod-lt}
use native.Mathlib.Omega.{arith}
use lib.Dec.{eqb}
use Rattle.probing.specs.Counting.{one}
use Rattle.probing.specs.Table.{Bucket, EMPTY, TOMBSTONE, FULL, Table, is_tombstone, is_full, live_count, full_count, tombstone_count}
use Rattle.probing.specs.Probe.{found, absent, broken, home, probe}
use Rattle.probing.specs.Check.{metas_right, never_fall}
use Rattle.probing.specs.Sound.{Reached, Sound}
use Rattle.probing.specs.Change.{update, deleted_at, deleted}
use Rattle.probing.proofs.Counting.{all_at}
use Rattle.probing.proofs.Change.{update_same, update_other, by_update, all_update, count_update}
use Rattle.probing.proofs.Reading.Ends.{found_run}

-- What a delete of the key of the live slot s makes of a table.
pub record Deleted (t : Table) (s : ℕ) (t' : Table) : Type 0 where
  pub sound : Sound t'
  pub same_b : t'.B ≡ t.B
  pub same_highwater : t'.highwater ≡ t.highwater
  pub same_keys : t'.key ≡ t.key
  pub same_hash : t'.hash ≡ t.hash
  pub gone : t'.meta s ≡ 0
  pub others : (j : ℕ) → (j ≡ s → ⊥) → t'.meta j ≡ t.meta j
  pub alive : (j : ℕ) → (t'.meta j ≡ 1) ↔ ((t.meta j ≡ 1) × (j ≡ s → ⊥))
  pub metas : metas_right t ≡ true → metas_right t' ≡ true
  pub lives : live_count t' + 1 ≡ live_count t
  pub fulls : full_count t' + 1 ≡ full_count t
  pub tombstones : tombstone_count t' ≡ tombstone_count t + 1
  pub order : never_fall t' ≡ never_fall t

-- the table with bucket q a TOMBSTONE and slot s not live
abbrev pub cleared : Table → ℕ → ℕ → Table
cleared t q s =
    record {
      B = t.B;
      highwater = t.highwater;
      bucket = update t.bucket q TOMBSTONE;
      meta = update t.meta s 0;
      key = t.key;
      hash = t.hash;
    }

module _ (t : Table) (q s h : ℕ) (sound : Sound t) (inside : q < t.B) (held : t.bucket q ≡ FULL h s) where
  -- a FULL bucket was FULL
  full_was : (b h' s' : ℕ) → (cleared t q s).bucket b ≡ FULL h' s' → t.bucket b ≡ FULL h' s'
  full_was b h' s' e = by_update t.bucket q TOMBSTONE b (λ at v. cc) (λ other v. cc)

  -- bucket q is FULL no more
  not_there : (b h' s' : ℕ) → (cleared t q s).bucket b ≡ FULL h' s' → b ≡ q → ⊥
  not_there b h' s' e at = let v = update_same t.bucket q TOMBSTONE b at in let z : ◌≡◌ {A = ℕ} 0 1 = cc in omega arith

  -- an EMPTY bucket was EMPTY
  empty_was : (b : ℕ) → (cleared t q s).bucket b ≡ EMPTY → t.bucket b ≡ EMPTY
  empty_was b e = by_update t.bucket q TOMBSTONE b (λ at v. cc) (λ other v. cc)

  -- the slots that are live
  still_alive : (j : ℕ) → ((cleared t q s).meta j ≡ 1) ↔ ((t.meta j ≡ 1) × (j ≡ s → ⊥))
  still_alive j = (
    λ e. by_update t.meta s 0 j (λ at v. absurd (omega arith)) (λ other v. (sym v ∙ e, other)),
    λ r. update_other t.meta s 0 j r.1 ∙ r.0,
  )

  cleared_full : (b h' s' : ℕ) → b < t.B → (cleared t q s).bucket b ≡ FULL h' s'
      → (s' < t.highwater) × ((cleared t q s).meta s' ≡ 1) × (h' ≡ t.hash (t.key s'))
  cleared_full b h' s' l e =
      let was = full_was b h' s' e in
      let old = sound.full b h' s' l was in
      (old.0, (still_alive s').1 (old.1, λ same. not_there b h' s' e (sound.single b q h' h s' l inside was (held ∙ ap (FULL h) (sym same)))), old.2)

  cleared_reached : (s' : ℕ) → s' < t.highwater → (cleared t q s).meta s' ≡ 1 → Reached (cleared t q s) s'
  cleared_reached s' l m =
      let was = (still_alive s').0 m in
      let r = sound.reached s' l was.0 in
      record {
        distance = r.distance;
        within = r.within;
        stands = update_other t.bucket q TOMBSTONE _ (λ at. was.1 (cc r.stands)) ∙ r.stands;
        way = λ i l e. r.way i l (empty_was _ e);
      }

  cleared_sound : Sound (cleared t q s)
  cleared_sound =
      record {
        full = cleared_full;
        different = λ a b l l' m m'. sound.different a b l l' ((still_alive a).0 m).0 ((still_alive b).0 m').0;
        reached = cleared_reached;
        single = λ b b' h h' s l l' e e'. sound.single b b' h h' s l l' (full_was b h s e) (full_was b' h' s e');
        vacant = let v = sound.vacant in (v.0, v.1, update_other t.bucket q TOMBSTONE v.0 (λ at. let z : ◌≡◌ {A = ℕ} 0 1 = cc v.2 in omega arith) ∙ v.2);
      }

  cleared_deleted : s < t.highwater → t.meta s ≡ 1 → Deleted t s (cleared t q s)
  unfolding metas_right live_count full_count tombstone_count never_fall
  cleared_deleted l alive =
      let lives = count_update (λ m. eqb m 1) t.highwater t.meta s 0 l in
      let lived = ap (λ (m : ℕ). one (eqb m 1)) alive in
      let fulls = count_update is_full t.B t.bucket q TOMBSTONE inside in
      let filled = ap (λ (x : Bucket). one (is_full x)) held in
      let tombstones = count_update is_tombstone t.B t.bucket q TOMBSTONE inside in
      let unburied = ap (λ (x : Bucket). one (is_tombstone x)) held in
      record {
        sound = cleared_sound;
        same_b = refl;
        same_highwater = refl;
        same_keys = refl;
        same_hash = refl;
        gone = update_same t.meta s 0 s refl;
        others = update_other t.meta s 0;
        alive = still_alive;
        metas = λ right. all_update (λ m. eqb m 0 || eqb m 1) t.highwater t.meta s 0 refl (λ j m other. all_at _ _ right j m);
        lives = omega arith;
        fulls = omega arith;
        tombstones = omega arith;
        order = refl;
      }

-- Where the probe finds slot s, a delete deletes it.
pub deleting : (t : Table) (k : List ℕ) (s n : ℕ) → Sound t → probe t k ≡ found s n → Deleted t s (deleted t k)
unfolding deleted
deleting t k s n sound e =
    let run = found_run t k s n e in
    let hit = run.last in
    rw e (cleared_deleted t ((home t k + (n - 1)) % t.B) s (t.hash k) sound (mod-lt _ (omega (arith, run.some, run.bounded))) hit.stands hit.below hit.alive)

-- Where it finds none, a delete does nothing.
pub deleting_absent : (t : Table) (k : List ℕ) (n : ℕ) → probe t k ≡ absent n → deleted t k ≡ t
unfolding deleted
deleting_absent t k n e = ap (deleted_at t k) e

pub deleting_broken : (t : Table) (k : List ℕ) → probe t k ≡ broken → deleted t k ≡ t
unfolding deleted
deleting_broken t k e = ap (deleted_at t k) e
