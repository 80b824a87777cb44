-- The sum law over lists of home buckets, and document 01's sums.
-- Assumes nothing.
use Prim.Native.Nat.{ℕ, zero, suc, ◌+◌, ◌<◌}
use mathlib.Core.Bool.{Bool, true, false, cond, ◌&&◌}
use mathlib.Core.List.{List, [], ◌∷◌, map}
use mathlib.Core.Path.{◌≡◌, refl, sym, ◌∙◌, ap}
use native.Mathlib.Omega.{arith}
use lib.Dec.{eqb}
use lib.ListN.{length}
use Rattle.probing.specs.Counting.{sum_to, one, count_to}
use Rattle.probing.specs.Table.{Table, live, live_count, tombstone_count}
use Rattle.probing.specs.Probe.{home}
use Rattle.probing.specs.Check.{probes}
use Rattle.probing.specs.Sound.{Sound}
use Rattle.probing.specs.Overflow.{homes_of, stretch, largest, overflow, lawful, homes_in, sum_of_homes}
use Rattle.probing.specs.Homes.{homes_to, live_homes}
use Rattle.probing.proofs.Reading.{roomy}
use Rattle.probing.proofs.SumLaw.{lawful_same, sum_law}

-- A list of homes with as many at each bucket as a table has gives the table's sum.
pub sum_of_list :
    (t : Table) (homes : List ℕ) → Sound t → tombstone_count t ≡ 0 → ((b : ℕ) → b < t.B → homes_in homes b ≡ homes_of t b)
    → length homes ≡ live_count t → probes t ≡ sum_of_homes t.B homes
unfolding sum_of_homes
sum_of_list t homes sound clear agree e =
    sum_law t sound clear
    ∙ sym (lawful_same t.B (homes_in homes) (homes_of t) (roomy t sound) agree (live_count t))
    ∙ ap (λ (n : ℕ). lawful t.B n (homes_in homes)) (sym e)

module _ (t : Table) where
  -- the list of the live keys' homes has as many at each bucket as the table
  homes_at : (n b : ℕ) → homes_in (homes_to t n) b ≡ count_to n (λ s. live t s && eqb (home t (t.key s)) b)
  unfolding homes_in homes_to count_to sum_to
  homes_at zero b = refl
  homes_at (suc n) b = go (live t n) (homes_at n b)
    where
      go :
          (p : Bool) → homes_in (homes_to t n) b ≡ count_to n (λ s. live t s && eqb (home t (t.key s)) b)
          → homes_in (cond p (home t (t.key n) ∷ homes_to t n) (homes_to t n)) b
          ≡ count_to n (λ s. live t s && eqb (home t (t.key s)) b) + one (p && eqb (home t (t.key n)) b)
      go true e = omega arith
      go false e = omega arith

  -- and one for each live key
  homes_length : (n : ℕ) → length (homes_to t n) ≡ count_to n (live t)
  unfolding homes_to count_to sum_to length
  homes_length zero = refl
  homes_length (suc n) = go (live t n) (homes_length n)
    where
      go :
          (p : Bool) → length (homes_to t n) ≡ count_to n (live t)
          → length (cond p (home t (t.key n) ∷ homes_to t n) (homes_to t n)) ≡ count_to n (live t) + one p
      go true e = omega arith
      go false e = omega arith

  -- The sum follows from the live keys' home buckets alone.
  pub sum_of_homes_lem : Sound t → tombstone_count t ≡ 0 → probes t ≡ sum_of_homes t.B (live_homes t)
  unfolding live_homes homes_of live_count
  sum_of_homes_lem sound clear = sum_of_list t (live_homes t) sound clear (λ b l. homes_at t.highwater b) (homes_length t.highwater)

-- "Sums for B 8 and no tombstones, by homes"
abbrev pub sums : List (List ℕ × ℕ)
sums = ([], 0) ∷ (3 ∷ 3 ∷ [], 3) ∷ (7 ∷ 7 ∷ [], 3) ∷ (2 ∷ 2 ∷ 3 ∷ [], 5) ∷ (7 ∷ 7 ∷ 0 ∷ 0 ∷ [], 8) ∷ []

pub sums_hold : map (λ e. sum_of_homes 8 e.0) sums ≡ map (λ e. e.1) sums
unfolding map sum_of_homes lawful overflow largest stretch sum_to homes_in length
sums_hold = refl
