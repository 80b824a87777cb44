-- An inserted key: it gets the next slot, a live one, and its place in the index, and all else stays.
-- Assumes nothing.
use Prim.Native.Nat.{ℕ, ◌+◌, ◌-◌, ◌≤◌, ◌<◌}
use mathlib.Core.Bool.{true, false, not, ◌||◌}
use mathlib.Core.Path.{◌≡◌, refl, sym, ap, ap₂, ◌∙◌}
use mathlib.Core.Logic.{◌↔◌, ◌⊎◌, inl, inr}
use mathlib.Core.List.{List}
use native.Mathlib.Nat.{add-sub_cancel}
use native.Mathlib.Omega.{arith}
use lib.Dec.{eqb}
use Rattle.numbers.specs.Bytes.{below}
use Rattle.probing.specs.Counting.{one}
use Rattle.probing.specs.Table.{Table, is_tombstone, live_count, full_count, tombstone_count}
use Rattle.probing.specs.Check.{metas_right, never_fall}
use Rattle.probing.specs.Sound.{Sound}
use Rattle.probing.specs.Change.{update, place, placed, appended, inserted}
use Rattle.probing.proofs.Counting.{all_at, all_of}
use Rattle.probing.proofs.Agree.{sound_agree}
use Rattle.probing.proofs.Change.{update_same, update_other, by_update, all_update, count_more, count_update}
use Rattle.probing.proofs.Place.{place_same}
use Rattle.probing.proofs.Placed.{up_to, Placed, placing}

-- What an insert of key k makes of a table.
pub record Inserted (t : Table) (k : List ℕ) (t' : Table) : Type 0 where
  pub sound : Sound t'
  pub same_b : t'.B ≡ t.B
  pub same_hash : t'.hash ≡ t.hash
  pub one_slot_more : t'.highwater ≡ t.highwater + 1
  pub new_key : t'.key t.highwater ≡ k
  pub new_meta : t'.meta t.highwater ≡ 1
  pub other_keys : (j : ℕ) → (j ≡ t.highwater → ⊥) → t'.key j ≡ t.key j
  pub other_metas : (j : ℕ) → (j ≡ t.highwater → ⊥) → t'.meta j ≡ t.meta j
  pub alive : (j : ℕ) → (t'.meta j ≡ 1) ↔ ((j ≡ t.highwater) ⊎ (t.meta j ≡ 1))
  pub metas : metas_right t ≡ true → metas_right t' ≡ true
  pub lives : live_count t' ≡ live_count t + 1
  pub fulls : full_count t' ≡ full_count t + 1
  pub tombstones : tombstone_count t' + one (is_tombstone (t.bucket (place t k))) ≡ tombstone_count t
  pub used : full_count t' + tombstone_count t' ≤ full_count t + tombstone_count t + 1
  pub order : never_fall t ≡ true → (t.highwater ≡ 0) ⊎ (below k (t.key (t.highwater - 1)) ≡ false) → never_fall t' ≡ true

-- a slot that is not in the index changes no key's place
pub place_appended : (t : Table) (x k : List ℕ) → place (appended t x) k ≡ place t k
unfolding appended
place_appended t x k = place_same (appended t x) t refl refl refl k

module _ (t : Table) (k : List ℕ) where
  -- a slot below highwater is not the new one
  old_slot : {s : ℕ} → s < t.highwater → s ≡ t.highwater → ⊥
  old_slot l e = omega arith

  -- the new slot's key is k, and its place is that of k
  new_key_lem : update t.key t.highwater k t.highwater ≡ k
  new_key_lem = update_same t.key t.highwater k t.highwater refl

  place_new : place (appended t k) ((appended t k).key t.highwater) ≡ place t k
  unfolding appended
  place_new = ap (place (appended t k)) new_key_lem ∙ place_appended t k k

  new_meta_lem : update t.meta t.highwater 1 t.highwater ≡ 1
  new_meta_lem = update_same t.meta t.highwater 1 t.highwater refl

  -- the other slots have their metas and keys
  old_meta : (s : ℕ) → s < t.highwater → update t.meta t.highwater 1 s ≡ t.meta s
  old_meta s l = update_other t.meta t.highwater 1 s (old_slot l)

  old_key : (s : ℕ) → s < t.highwater → update t.key t.highwater k s ≡ t.key s
  old_key s l = update_other t.key t.highwater k s (old_slot l)

  -- the slots below, with the new one not yet counted
  appended_sound : Sound t → Sound (up_to (appended t k) t.highwater)
  unfolding appended
  appended_sound =
      sound_agree t t.bucket (update t.meta t.highwater 1) (update t.key t.highwater k) (λ b l. refl) old_meta old_key

  -- the new slot placed
  appended_placed : Sound t → ((s : ℕ) → s < t.highwater → t.meta s ≡ 1 → t.key s ≡ k → ⊥)
      → full_count t + tombstone_count t + 1 < t.B → Placed (appended t k) t.highwater
  unfolding appended full_count tombstone_count
  appended_placed sound none room =
      placing (appended t k) t.highwater (appended_sound sound) new_meta_lem (λ s l m e. none s l (sym (old_meta s l) ∙ m) (sym (old_key s l) ∙ e ∙ new_key_lem)) room

  -- the new slot is live, and the others stay
  appended_alive : (j : ℕ) → (update t.meta t.highwater 1 j ≡ 1) ↔ ((j ≡ t.highwater) ⊎ (t.meta j ≡ 1))
  appended_alive j = (
    λ e. by_update t.meta t.highwater 1 j (λ at v. inl at) (λ other v. inr (sym v ∙ e)),
    λ r. by_update t.meta t.highwater 1 j (λ at v. v) (λ other v. v ∙ was other r),
  )
    where
      was : (j ≡ t.highwater → ⊥) → (j ≡ t.highwater) ⊎ (t.meta j ≡ 1) → t.meta j ≡ 1
      was other (inl at) = absurd (other at)
      was other (inr m) = m

  -- metas that are right stay right
  appended_metas : metas_right t ≡ true → metas_right (appended t k) ≡ true
  unfolding metas_right appended
  appended_metas right =
      all_update (λ m. eqb m 0 || eqb m 1) (t.highwater + 1) t.meta t.highwater 1 refl (λ j l other. all_at _ _ right j (omega arith))

  -- one slot more is live
  appended_lives : live_count (appended t k) ≡ live_count t + 1
  unfolding live_count appended
  appended_lives =
      let changed = count_update (λ m. eqb m 1) (t.highwater + 1) t.meta t.highwater 1 (omega arith) in
      let more = count_more t.highwater (λ j. eqb (t.meta j) 1) in
      omega arith

  -- keys that never fall do not fall at the new slot
  appended_order : never_fall t ≡ true → (t.highwater ≡ 0) ⊎ (below k (t.key (t.highwater - 1)) ≡ false) → never_fall (appended t k) ≡ true
  unfolding never_fall appended
  appended_order rising last = rw add-sub_cancel (all_of t.highwater _ step)
    where
      at_end : (s : ℕ) → s + 1 ≡ t.highwater → (t.highwater ≡ 0) ⊎ (below k (t.key (t.highwater - 1)) ≡ false) → below k (t.key s) ≡ false
      at_end s at (inl none) = absurd (omega arith)
      at_end s at (inr e) = let same : s ≡ t.highwater - 1 = omega arith in ap (λ (j : ℕ). below k (t.key j)) same ∙ e

      step : (s : ℕ) → s < t.highwater → not (below (update t.key t.highwater k (s + 1)) (update t.key t.highwater k s)) ≡ true
      step s l =
          by_update t.key t.highwater k (s + 1)
          (λ at v. ap not (ap₂ below v (old_key s l) ∙ at_end s at last))
          (λ other v. ap not (ap₂ below v (old_key s l)) ∙ all_at (t.highwater - 1) _ rising s (omega arith))

-- A key that no live slot has is inserted, where two buckets are EMPTY.
pub inserting : (t : Table) (k : List ℕ) → Sound t → ((s : ℕ) → s < t.highwater → t.meta s ≡ 1 → t.key s ≡ k → ⊥)
    → full_count t + tombstone_count t + 1 < t.B → Inserted t k (inserted t k)
unfolding inserted placed appended metas_right live_count full_count tombstone_count never_fall
inserting t k sound none room =
    let made = appended_placed t k sound none room in
    let fulls = made.fulls in
    let tombstones = made.tombstones in
    record {
      sound = made.sound;
      same_b = refl;
      same_hash = refl;
      one_slot_more = refl;
      new_key = new_key_lem t k;
      new_meta = new_meta_lem t k;
      other_keys = update_other t.key t.highwater k;
      other_metas = update_other t.meta t.highwater 1;
      alive = appended_alive t k;
      metas = appended_metas t k;
      lives = appended_lives t k;
      fulls = made.fulls;
      tombstones = ap (λ (p : ℕ). tombstone_count (inserted t k) + one (is_tombstone (t.bucket p))) (sym (place_new t k)) ∙ made.tombstones;
      used = omega arith;
      order = appended_order t k;
    }
