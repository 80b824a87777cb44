-- The table with nothing past its ends: it reads as the table does, and changes with it.
-- Assumes nothing.
use Prim.Native.Nat.{ℕ, zero, suc, ◌+◌, ◌<◌}
use mathlib.Core.Bool.{Bool, true, false, cond}
use mathlib.Core.Path.{◌≡◌, refl, sym, ap, ap₂, fun_ext, ◌∙◌}
use mathlib.Core.Logic.{◌↔◌}
use mathlib.Core.List.{List, []}
use native.Mathlib.Nat.{mod-lt}
use native.Mathlib.Decide.{dec_lt}
use native.Mathlib.Omega.{arith}
use lib.Dec.{eqb, ltb}
use borrow.Author.Tests.{ltb-true, lt-ltb, le-ltb}
use Rattle.probing.specs.Table.{Bucket, EMPTY, TOMBSTONE, FULL, Table, live, live_count, full_count, tombstone_count}
use Rattle.probing.specs.Probe.{Probed, found, absent, broken, home, next, probe}
use Rattle.probing.specs.Check.{metas_right, never_fall, checks, probes}
use Rattle.probing.specs.Sound.{Sound}
use Rattle.probing.specs.Change.{update, with_bucket, takes, place_from, place, placed, deleted_at, deleted, appended, rebuilt_to}
use Rattle.probing.specs.Overflow.{homes_of}
use Rattle.probing.specs.Clip.{clip}
use Rattle.probing.proofs.Change.{update_same, update_other, by_update}
use Rattle.probing.proofs.Reading.Ends.{found_run}
use Rattle.probing.proofs.Delete.{cleared}
use Rattle.probing.proofs.Agree as agree

-- a function below n, and d from n on
abbrev pub within : {A : Type 0} → ℕ → A → (ℕ → A) → ℕ → A
within n d f i = cond (ltb i n) (f i) d

module _ {A : Type 0} (n : ℕ) (d : A) (f : ℕ → A) where
  within_below : (i : ℕ) → i < n → within n d f i ≡ f i
  within_below i l = rw (lt-ltb i n l)

  -- functions that are equal below n
  within_same : (g : ℕ → A) → ((i : ℕ) → i < n → f i ≡ g i) → within n d f ≡ within n d g
  within_same g h = fun_ext (λ i. go i (ltb i n) refl)
    where
      go : (i : ℕ) (r : Bool) → ltb i n ≡ r → cond r (f i) d ≡ cond r (g i) d
      go i true e = h i (ltb-true _ _ e)
      go i false e = refl

  -- a value changed below m, where every other number is below m as it is below n
  within_change : (m j : ℕ) (x : A) → j < m → ((i : ℕ) → (i ≡ j → ⊥) → ltb i m ≡ ltb i n)
      → within m d (update f j x) ≡ update (within n d f) j x
  within_change m j x l h = fun_ext (λ i. by_update f j x i (λ at v. there i at v) (λ other v. elsewhere i other v))
    where
      there : (i : ℕ) → i ≡ j → update f j x i ≡ x → within m d (update f j x) i ≡ update (within n d f) j x i
      there i at v = rw (lt-ltb i m (omega arith)) (v ∙ sym (update_same (within n d f) j x i at))

      elsewhere : (i : ℕ) → (i ≡ j → ⊥) → update f j x i ≡ f i → within m d (update f j x) i ≡ update (within n d f) j x i
      elsewhere i other v = rw (v, h i other) (sym (update_other (within n d f) j x i other))

  -- a value changed below n
  within_update : (j : ℕ) (x : A) → j < n → within n d (update f j x) ≡ update (within n d f) j x
  within_update j x l = within_change n j x l (λ i other. refl)

  -- a value more
  within_more : (x : A) → within (n + 1) d (update f n x) ≡ update (within n d f) n x
  within_more x = within_change (n + 1) n x (omega arith) (λ i other. go i other (dec_lt i n))
    where
      go : (i : ℕ) → (i ≡ n → ⊥) → Dec (i < n) → ltb i (n + 1) ≡ ltb i n
      go i other (yes l) = lt-ltb i (n + 1) (omega arith) ∙ sym (lt-ltb i n l)
      go i other (no l) = le-ltb i (n + 1) (omega arith) ∙ sym (le-ltb i n (omega arith))

-- Tables that agree within their ends have equal clips.
pub agree_clip : (t u : Table) → t.B ≡ u.B → t.highwater ≡ u.highwater → t.hash ≡ u.hash
    → ((b : ℕ) → b < t.B → t.bucket b ≡ u.bucket b) → ((s : ℕ) → s < t.highwater → t.meta s ≡ u.meta s)
    → ((s : ℕ) → s < t.highwater → t.key s ≡ u.key s) → clip t ≡ clip u
unfolding clip
agree_clip t u same_b same_highwater same_hash buckets metas keys = λ i.
    record {
      B = same_b i;
      highwater = same_highwater i;
      bucket = (within_same t.B EMPTY t.bucket u.bucket buckets ∙ ap (λ (n : ℕ). within n EMPTY u.bucket) same_b) i;
      meta = (within_same t.highwater 0 t.meta u.meta metas ∙ ap (λ (n : ℕ). within n 0 u.meta) same_highwater) i;
      key = (within_same t.highwater [] t.key u.key keys ∙ ap (λ (n : ℕ). within n [] u.key) same_highwater) i;
      hash = same_hash i;
    }

module _ (t : Table) where
  bucket_below : (b : ℕ) → b < t.B → within t.B EMPTY t.bucket b ≡ t.bucket b
  bucket_below = within_below t.B EMPTY t.bucket

  meta_below : (s : ℕ) → s < t.highwater → within t.highwater 0 t.meta s ≡ t.meta s
  meta_below = within_below t.highwater 0 t.meta

  key_below : (s : ℕ) → s < t.highwater → within t.highwater [] t.key s ≡ t.key s
  key_below = within_below t.highwater [] t.key

  -- It reads as the table does.
  pub live_clip : (s : ℕ) → s < t.highwater → live (clip t) s ≡ live t s
  unfolding clip
  live_clip s l = ap (λ (x : ℕ). eqb x 1) (meta_below s l)

  pub probe_clip : 0 < t.B → (k : List ℕ) → probe (clip t) k ≡ probe t k
  unfolding clip
  probe_clip = agree.probe_agree t _ _ _ bucket_below meta_below key_below

  pub place_clip : 0 < t.B → (k : List ℕ) → place (clip t) k ≡ place t k
  unfolding clip
  place_clip = agree.place_agree t _ _ _ bucket_below meta_below key_below

  pub checks_clip : 0 < t.B → (ordered : Bool) (live_count_field used tombstones : ℕ)
      → checks (clip t) ordered live_count_field used tombstones ≡ checks t ordered live_count_field used tombstones
  unfolding clip
  checks_clip = agree.checks_agree t _ _ _ bucket_below meta_below key_below

  pub metas_right_clip : metas_right (clip t) ≡ metas_right t
  unfolding clip
  metas_right_clip = agree.metas_right_agree t _ _ _ bucket_below meta_below key_below

  pub never_fall_clip : never_fall (clip t) ≡ never_fall t
  unfolding clip
  never_fall_clip = agree.never_fall_agree t _ _ _ bucket_below meta_below key_below

  pub probes_clip : 0 < t.B → probes (clip t) ≡ probes t
  unfolding clip
  probes_clip = agree.probes_agree t _ _ _ bucket_below meta_below key_below

  pub live_count_clip : live_count (clip t) ≡ live_count t
  unfolding clip
  live_count_clip = agree.live_count_agree t _ _ _ bucket_below meta_below key_below

  pub full_count_clip : full_count (clip t) ≡ full_count t
  unfolding clip
  full_count_clip = agree.full_count_agree t _ _ _ bucket_below meta_below key_below

  pub tombstone_count_clip : tombstone_count (clip t) ≡ tombstone_count t
  unfolding clip
  tombstone_count_clip = agree.tombstone_count_agree t _ _ _ bucket_below meta_below key_below

  pub homes_of_clip : (b : ℕ) → homes_of (clip t) b ≡ homes_of t b
  unfolding clip
  homes_of_clip = agree.homes_of_agree t _ _ _ bucket_below meta_below key_below

  pub sound_clip : Sound (clip t) ↔ Sound t
  unfolding clip
  sound_clip = (
    agree.sound_agree (clip t) t.bucket t.meta t.key
        (λ b l. sym (bucket_below b l)) (λ s l. sym (meta_below s l)) (λ s l. sym (key_below s l)),
    agree.sound_agree t _ _ _ bucket_below meta_below key_below,
  )

  -- the place of a key is a bucket of the table
  place_from_inside : (left b : ℕ) → b < t.B → place_from t left b < t.B
  unfolding place_from
  place_from_inside zero b l = l
  place_from_inside (suc left) b l = go (t.bucket b) (place_from_inside left (next t b) (mod-lt _ (omega arith)))
    where
      go : {onward : ℕ} (x : Bucket) → onward < t.B → takes b onward x < t.B
      go EMPTY on = search
      go TOMBSTONE on = search
      go (FULL h s) on = search

  pub place_inside : 0 < t.B → (k : List ℕ) → place t k < t.B
  unfolding place
  place_inside some k = place_from_inside t.B (home t k) (mod-lt _ some)

-- It changes with the table: a bucket made a TOMBSTONE and a slot's meta cleared
pub clip_cleared : (t : Table) (b s : ℕ) → b < t.B → s < t.highwater → clip (cleared t b s) ≡ cleared (clip t) b s
unfolding clip
clip_cleared t b s inside below = λ i.
    record {
      B = t.B;
      highwater = t.highwater;
      bucket = within_update t.B EMPTY t.bucket b TOMBSTONE inside i;
      meta = within_update t.highwater 0 t.meta s 0 below i;
      key = within t.highwater [] t.key;
      hash = t.hash;
    }

-- a key deleted
pub clip_deleted : (t : Table) (k : List ℕ) → 0 < t.B → clip (deleted t k) ≡ deleted (clip t) k
unfolding deleted clip
clip_deleted t k some = go (probe t k) refl ∙ ap (deleted_at (clip t) k) (sym (probe_clip t some k))
  where
    go : (p : Probed) → probe t k ≡ p → clip (deleted_at t k p) ≡ deleted_at (clip t) k p
    go (found s n) e = clip_cleared t _ s (mod-lt _ some) (found_run t k s n e).last.below
    go (absent n) e = refl
    go broken e = refl

-- a slot put into the index
pub clip_placed : (t : Table) (s : ℕ) → 0 < t.B → s < t.highwater → clip (placed t s) ≡ placed (clip t) s
unfolding placed clip
clip_placed t s some below =
    (λ i.
    record {
      B = t.B;
      highwater = t.highwater;
      bucket = within_update t.B EMPTY t.bucket (place t (t.key s)) (FULL (t.hash (t.key s)) s) (place_inside t some (t.key s)) i;
      meta = within t.highwater 0 t.meta;
      key = within t.highwater [] t.key;
      hash = t.hash;
    })
    ∙ ap₂ (λ (p : ℕ) (k : List ℕ). with_bucket (clip t) p (FULL (t.hash k) s)) (sym (place_clip t some (t.key s))) (sym key_same)
    ∙ ap (λ (k : List ℕ). with_bucket (clip t) (place (clip t) k) (FULL (t.hash ((clip t).key s)) s)) (sym key_same)
  where
    key_same : (clip t).key s ≡ t.key s
    key_same = key_below t s below

-- a live slot more, not yet in the index
pub clip_appended : (t : Table) (k : List ℕ) → clip (appended t k) ≡ appended (clip t) k
unfolding clip appended
clip_appended t k = λ i.
    record {
      B = t.B;
      highwater = t.highwater + 1;
      bucket = within t.B EMPTY t.bucket;
      meta = within_more t.highwater 0 t.meta 1 i;
      key = within_more t.highwater [] t.key k i;
      hash = t.hash;
    }

-- the index emptied
pub clip_emptied : (t : Table) → clip (rebuilt_to t 0) ≡ rebuilt_to (clip t) 0
unfolding clip rebuilt_to
clip_emptied t = λ i.
    record {
      B = t.B;
      highwater = t.highwater;
      bucket = fun_ext {f = within t.B EMPTY (λ b. EMPTY)} {g = λ b. EMPTY} (λ b. go (ltb b t.B)) i;
      meta = within t.highwater 0 t.meta;
      key = within t.highwater [] t.key;
      hash = t.hash;
    }
  where
    go : (r : Bool) → cond r EMPTY EMPTY ≡ EMPTY
    go true = refl
    go false = refl
