-- A well-formed table, whatever counters its header has, and that the changes of a commit keep it so.
-- Assumes nothing.
use Prim.Native.Nat.{ℕ, ◌+◌, ◌-◌, ◌≤◌, ◌<◌}
use mathlib.Core.Bool.{Bool, true, false, ◌||◌}
use mathlib.Core.Path.{◌≡◌, refl, sym, ◌∙◌}
use mathlib.Core.Logic.{◌⊎◌, inl, inr}
use mathlib.Core.List.{List}
use native.Mathlib.Omega.{arith}
use lib.Dec.{eqb}
use borrow.Author.Tests.{eqb-true, eq-eqb}
use Rattle.numbers.specs.Bytes.{below}
use Rattle.probing.specs.Table.{Table, live_count, full_count, tombstone_count}
use Rattle.probing.specs.Probe.{found, probe}
use Rattle.probing.specs.Check.{metas_right, never_fall, checks}
use Rattle.probing.specs.Sound.{Sound}
use Rattle.probing.specs.Change.{deleted, inserted, rebuilt}
use Rattle.probing.specs.Clip.{clip}
use Rattle.probing.proofs.Counting.{all_at, all_of}
use Rattle.probing.proofs.Keys.{or_either, left_or, right_or}
use Rattle.probing.proofs.Checks.{checks_sound, sound_checks}
use Rattle.probing.proofs.Checks.Sentences.{ZeroOrOne, checks_passed}
use Rattle.probing.proofs.Delete.{deleting}
use Rattle.probing.proofs.Insert.{inserting}
use Rattle.probing.proofs.Rebuild.{rebuilding}
use Rattle.probing.proofs.Clip.{metas_right_clip, never_fall_clip, live_count_clip, full_count_clip, tombstone_count_clip, sound_clip}

pub record Formed (ordered : Bool) (t : Table) : Type 0 where
  pub sound : Sound t
  pub metas : metas_right t ≡ true
  -- as many live slots as FULL buckets
  pub balanced : live_count t ≡ full_count t
  -- "each non-EMPTY bucket was taken for a slot of its own"
  pub used : full_count t + tombstone_count t ≤ t.highwater
  pub order : ordered ≡ true → never_fall t ≡ true

module _ {ordered : Bool} (t : Table) where
  -- what lies past the ends does not matter
  pub formed_clip : Formed ordered t → Formed ordered (clip t)
  unfolding clip
  formed_clip f =
      record {
        sound = (sound_clip t).1 f.sound;
        metas = metas_right_clip t ∙ f.metas;
        balanced = live_count_clip t ∙ f.balanced ∙ sym (full_count_clip t);
        used = omega (arith, f.used, full_count_clip t, tombstone_count_clip t);
        order = λ o. never_fall_clip t ∙ f.order o;
      }

  pub clip_formed : Formed ordered (clip t) → Formed ordered t
  unfolding clip
  clip_formed f =
      record {
        sound = (sound_clip t).0 f.sound;
        metas = sym (metas_right_clip t) ∙ f.metas;
        balanced = sym (live_count_clip t) ∙ f.balanced ∙ full_count_clip t;
        used = omega (arith, f.used, full_count_clip t, tombstone_count_clip t);
        order = λ o. sym (never_fall_clip t) ∙ f.order o;
      }

  -- a key deleted
  pub deleted_formed : Formed ordered t → (k : List ℕ) (s n : ℕ) → probe t k ≡ found s n → Formed ordered (deleted t k)
  deleted_formed f k s n e =
      let d = deleting t k s n f.sound e in
      record {
        sound = d.sound;
        metas = d.metas f.metas;
        balanced = omega (arith, d.lives, d.fulls, f.balanced);
        used = omega (arith, d.fulls, d.tombstones, d.same_highwater, f.used);
        order = λ o. d.order ∙ f.order o;
      }

  -- a key inserted that no live slot has
  pub inserted_formed : Formed ordered t → (k : List ℕ) → ((s : ℕ) → s < t.highwater → t.meta s ≡ 1 → t.key s ≡ k → ⊥)
      → t.highwater + 1 < t.B → (ordered ≡ true → (t.highwater ≡ 0) ⊎ (below k (t.key (t.highwater - 1)) ≡ false))
      → Formed ordered (inserted t k)
  inserted_formed f k none room last =
      let d = inserting t k f.sound none (omega (arith, f.used)) in
      record {
        sound = d.sound;
        metas = d.metas f.metas;
        balanced = omega (arith, d.lives, d.fulls, f.balanced);
        used = omega (arith, d.used, d.one_slot_more, f.used);
        order = λ o. d.order (f.order o) (last o);
      }

  -- the index rebuilt: no TOMBSTONE is left
  pub rebuilt_clear : Formed ordered t → t.highwater < t.B → tombstone_count (rebuilt t) ≡ 0
  rebuilt_clear f room = (rebuilding t (omega (arith, f.used, f.balanced)) f.sound.different).tombstones

  pub rebuilt_formed : Formed ordered t → t.highwater < t.B → Formed ordered (rebuilt t)
  rebuilt_formed f room =
      let d = rebuilding t (omega (arith, f.used, f.balanced)) f.sound.different in
      record {
        sound = d.sound;
        metas = d.metas ∙ f.metas;
        balanced = d.lives ∙ sym d.fulls;
        used = omega (arith, d.fulls, d.tombstones, d.same_highwater, f.used, f.balanced);
        order = λ o. d.order ∙ f.order o;
      }

  -- the full check passes with the counts that the table has
  pub formed_passes : Formed ordered t → checks t ordered (live_count t) (live_count t) (tombstone_count t) ≡ true
  unfolding metas_right
  formed_passes f =
      sound_checks t ordered (live_count t) (live_count t) (tombstone_count t) f.sound
      (λ s l. zero_or_one s (or_either _ _ (all_at t.highwater _ f.metas s l))) refl (sym f.balanced) refl f.order
    where
      zero_or_one : (s : ℕ) → (eqb (t.meta s) 0 ≡ true) ⊎ (eqb (t.meta s) 1 ≡ true) → ZeroOrOne t s
      zero_or_one s (inl e) = inl (eqb-true _ _ e)
      zero_or_one s (inr e) = inr (eqb-true _ _ e)

  -- and the other way, where the counts leave an EMPTY bucket
  pub passes_formed : (live_count_field tombstones : ℕ) → checks t ordered live_count_field live_count_field tombstones ≡ true
      → live_count_field + tombstones ≤ t.highwater → t.highwater < t.B → Formed ordered t
  unfolding metas_right
  passes_formed live_count_field tombstones e few room =
      let p = checks_passed t ordered live_count_field live_count_field tombstones e in
      record {
        sound = checks_sound t ordered live_count_field live_count_field tombstones e refl (omega arith);
        metas = all_of t.highwater _ (λ s l. right s (p.metas s l));
        balanced = p.lives ∙ sym p.fulls;
        used = omega (arith, p.fulls, p.tombs);
        order = p.order;
      }
    where
      right : (s : ℕ) → ZeroOrOne t s → eqb (t.meta s) 0 || eqb (t.meta s) 1 ≡ true
      right s (inl e) = left_or (eqb (t.meta s) 1) (eq-eqb _ _ e)
      right s (inr e) = right_or (eqb (t.meta s) 0) (eq-eqb _ _ e)
