-- The probe by steps from the key's home, and what one bucket says.
-- Assumes nothing.
use Prim.Native.Nat.{ℕ, zero, suc, ◌+◌, ◌%◌, ◌≤◌, ◌<◌}
use mathlib.Core.Path.{◌≡◌, refl, sym, ap, ap₂, ◌∙◌}
use mathlib.Core.Bool.{false, ◌&&◌}
use mathlib.Core.List.{List}
use native.Mathlib.Nat.{add-zero, add-suc}
use native.Mathlib.Numerals.{add-one}
use native.Mathlib.Omega.{arith}
use lib.Dec.{eqb}
use borrow.Author.Tests.{eqb-true, eq-eqb, lt-leb}
use Rattle.numbers.specs.Bytes.{same}
use Rattle.probing.specs.Table.{Bucket, EMPTY, TOMBSTONE, FULL, Table}
use Rattle.probing.specs.Probe.{Probed, found, broken, home, examine, probe_from, probe}
use Rattle.probing.proofs.Keys.{and_both, same_eq, eq_same, not_true_false}
use Rattle.probing.proofs.Round.{no_step, suc_step}

-- the bucket that is i steps from the home of k
abbrev pub nth : Table → List ℕ → ℕ → ℕ
nth t k i = (home t k + i) % t.B

-- the probe from step i on, with so many buckets left, and the whole probe as such
unfoldable pub walk : Table → List ℕ → ℕ → ℕ → Probed
walk t k left i = probe_from t k left (nth t k i) i

pub probe_walk : (t : Table) (k : List ℕ) → probe t k ≡ walk t k t.B 0
unfolding probe walk
probe_walk t k = ap (λ (b : ℕ). probe_from t k t.B b 0) (sym (no_step (t.hash k) t.B))

-- no buckets left
pub walk_end : (t : Table) (k : List ℕ) (i : ℕ) → walk t k zero i ≡ broken
unfolding walk probe_from
walk_end t k i = refl

-- one bucket, then the rest
pub walk_step :
    (t : Table) (k : List ℕ) (left i : ℕ)
    → walk t k (suc left) i ≡ examine t k (suc i) (walk t k left (suc i)) (t.bucket (nth t k i))
unfolding walk probe_from
walk_step t k left i =
    ap₂ (λ (b c : ℕ). examine t k c (probe_from t k left b c) (t.bucket (nth t k i))) (suc_step (home t k) i t.B) (add-one i)

-- A bucket that lets a probe for k go on.
pub record Passes (t : Table) (k : List ℕ) (x : Bucket) : Type 0 where
  pub taken : x ≡ EMPTY → ⊥
  pub other : (h s : ℕ) → x ≡ FULL h s → (s < t.highwater) × (h ≡ t.hash k → t.key s ≡ k → ⊥)

pub examine_passes : (t : Table) (k : List ℕ) (n : ℕ) (onward : Probed) (x : Bucket) → Passes t k x → examine t k n onward x ≡ onward
unfolding examine
examine_passes t k n onward EMPTY p = absurd (p.taken refl)
examine_passes t k n onward TOMBSTONE p = refl
examine_passes t k n onward (FULL h s) p =
    let o = p.other h s refl in
    let differs : eqb h (t.hash k) && same (t.key s) k ≡ false =
    not_true_false _ (λ e. let both = and_both _ _ e in o.1 (eqb-true h (t.hash k) both.0) (same_eq _ _ both.1)) in
    rw (lt-leb t.highwater s o.0, differs)

-- A bucket that holds a live slot with key k ends the probe for k.
pub examine_finds :
    (t : Table) (k : List ℕ) (n : ℕ) (onward : Probed) (s : ℕ)
    → s < t.highwater → t.meta s ≡ 1 → t.key s ≡ k → examine t k n onward (FULL (t.hash k) s) ≡ found s n
unfolding examine
examine_finds t k n onward s below alive keyed =
    rw (lt-leb t.highwater s below, eq-eqb (t.hash k) (t.hash k) refl, eq_same (t.key s) k keyed, eq-eqb (t.meta s) 1 alive)

-- Over buckets that let it go on the probe goes on.
pub walk_on :
    (t : Table) (k : List ℕ) (left i gap : ℕ)
    → ((j : ℕ) → i ≤ j → j < i + gap → Passes t k (t.bucket (nth t k j))) → walk t k (left + gap) i ≡ walk t k left (i + gap)
walk_on t k left i zero pass = ap₂ (walk t k) (add-zero left) (sym (add-zero i))
walk_on t k left i (suc gap) pass =
    ap (λ (x : ℕ). walk t k x i) (add-suc left gap)
    ∙ walk_step t k (left + gap) i
    ∙ examine_passes t k (suc i) (walk t k (left + gap) (suc i)) (t.bucket (nth t k i)) (pass i (omega arith) (omega arith))
    ∙ walk_on t k left (suc i) gap (λ j l m. pass j (omega arith) (omega arith))
    ∙ ap (walk t k left) (omega arith)
