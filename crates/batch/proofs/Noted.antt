-- What is noted for each record, one after the other.
-- Assumes nothing.
use Prim.Native.Nat.{ℕ, suc, ◌+◌, ◌<◌, ◌≤◌}
use mathlib.Core.Bool.{Bool, false}
use mathlib.Core.Path.{◌≡◌, ◌∙◌, sym}
use mathlib.Core.Logic.{◌⊎◌, inl, inr}
use mathlib.Core.List.{List}
use native.Mathlib.Nat.{eq-or-lt_of_le}
use native.Mathlib.Numerals.{add-one}
use native.Mathlib.Omega.{arith}
use lib.ListN.{length, set, get_or, replicate, length-set, length-replicate, get_or-replicate, get_or-eq_default}
use lib.Seq.{get_or-set_same, get_or-set_other, ext_get_or}
use Rattle.probing.proofs.Counting.{one_more}
use Rattle.probing.proofs.Order.{lower_or_not}
use Rattle.batch.specs.Batch.{most_records}
use Rattle.batch.specs.Notes.{NotedAs, Flagged}

abbrev pub zeros : ℕ → List ℕ
zeros m = replicate m 0

-- a list of one thing has no other
same_at : {X : Type 0} (x : X) (m i : ℕ) → get_or (replicate m x) i x ≡ x
same_at {X} x m i = go (lower_or_not i m)
  where
    go : (i < m) ⊎ (m ≤ i) → get_or (replicate m x) i x ≡ x
    go (inl h) = get_or-replicate m i x x h
    go (inr h) = get_or-eq_default (replicate m x) x (omega (arith, h, length-replicate {A = X} m x))

pub zero_at : (m i : ℕ) → get_or (zeros m) i 0 ≡ 0
zero_at = same_at 0

module _ {X : Type 0} {none : X} where
  -- none yet
  pub noted_none : (f : ℕ → X) → NotedAs none f 0 (replicate most_records none)
  noted_none f =
      record {
        size = length-replicate {A = X} most_records none;
        fits = omega arith;
        each = λ i l. absurd (omega arith);
        rest = λ i l. same_at none most_records i;
      }

  -- one more
  pub noted_one : {f : ℕ → X} {n : ℕ} {xs : List X} (x : X) → NotedAs none f n xs → n < most_records → x ≡ f n → NotedAs none f (n + 1) (set xs n x)
  noted_one {f} {n} {xs} x noted l e =
      let front =
      one_more {P = λ i. get_or (set xs n x) i none ≡ f i} n
      (λ i h. get_or-set_other xs n i x none (omega arith) ∙ noted.each i h)
      (get_or-set_same xs n x none (omega (arith, noted.size)) ∙ e) in
      record {
        size = length-set xs n x ∙ noted.size;
        fits = omega arith;
        each = rw (add-one n) front;
        rest = λ i h. get_or-set_other xs n i x none (omega arith) ∙ noted.rest i (omega arith);
      }

  -- what is noted is noted of a function with the same values
  pub noted_as : {f g : ℕ → X} {n : ℕ} {xs : List X} → NotedAs none f n xs → ((i : ℕ) → i < n → f i ≡ g i) → NotedAs none g n xs
  noted_as noted e = record { size = noted.size; fits = noted.fits; each = λ i l. noted.each i l ∙ e i l; rest = noted.rest }

  -- and in one list alone
  pub noted_same : {f : ℕ → X} {n : ℕ} {xs ys : List X} → NotedAs none f n xs → NotedAs none f n ys → xs ≡ ys
  noted_same {f} {n} {xs} {ys} p q = ext_get_or none xs ys (p.size ∙ sym q.size) (λ i l. go i (lower_or_not i n))
    where
      go : (i : ℕ) → (i < n) ⊎ (n ≤ i) → get_or xs i none ≡ get_or ys i none
      go i (inl h) = p.each i h ∙ sym (q.each i h)
      go i (inr h) = p.rest i h ∙ sym (q.rest i h)

-- What is flagged of the records from i on, where the last one comes first.
pub record FlaggedFrom (f : ℕ → Bool) (n : ℕ) (xs : List Bool) (i : ℕ) : Type 0 where
  pub size : length xs ≡ most_records
  pub fits : n ≤ most_records
  pub each : (j : ℕ) → i ≤ j → j < n → get_or xs j false ≡ f j
  pub rest : (j : ℕ) → n ≤ j → get_or xs j false ≡ false

-- none yet
pub from_none : (f : ℕ → Bool) (n : ℕ) → n ≤ most_records → FlaggedFrom f n (replicate most_records false) n
from_none f n l =
    record {
      size = length-replicate {A = Bool} most_records false;
      fits = l;
      each = λ j h m. absurd (omega arith);
      rest = λ j h. same_at false most_records j;
    }

-- one more
pub from_one : {f : ℕ → Bool} {n : ℕ} {xs : List Bool} (i : ℕ) (x : Bool) → FlaggedFrom f n xs (suc i) → i < n → x ≡ f i → FlaggedFrom f n (set xs i x) i
from_one {f} {n} {xs} i x flagged l e =
    record {
      size = length-set xs i x ∙ flagged.size;
      fits = flagged.fits;
      each = λ j h m. go j m (eq-or-lt_of_le h);
      rest = λ j h. get_or-set_other xs i j x false (omega arith) ∙ flagged.rest j h;
    }
  where
    go : (j : ℕ) → j < n → (i ≡ j) ⊎ (i < j) → get_or (set xs i x) j false ≡ f j
    go j m (inl q) = rw (← q) (get_or-set_same xs i x false (omega (arith, flagged.size, flagged.fits)) ∙ e)
    go j m (inr q) = get_or-set_other xs i j x false (omega arith) ∙ flagged.each j q m

-- all of them
pub from_all : {f : ℕ → Bool} {n : ℕ} {xs : List Bool} → FlaggedFrom f n xs 0 → Flagged f n xs
from_all flagged = record { size = flagged.size; fits = flagged.fits; each = λ j m. flagged.each j (omega arith) m; rest = flagged.rest }
