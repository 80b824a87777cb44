-- Overflow, in the third demand's words.
-- Assumes nothing.
use Rattle.std.specs.Prelude.{ℕ, zero, suc, ◌+◌, ◌-◌, ◌%◌, max, ◌&&◌, List, [], ◌∷◌, eqb, length}
use Rattle.probing.specs.Counting.{sum_to, one, count_to}
use Rattle.probing.specs.Table.{Table, live}
use Rattle.probing.specs.Probe.{home}

-- how many live keys have their home at bucket b
unfoldable pub homes_of : Table → ℕ → ℕ
homes_of t b = count_to t.highwater (λ s. live t s && eqb (home t (t.key s)) b)

-- the bucket i before b, taken round, for i below B
abbrev pub back : ℕ → ℕ → ℕ → ℕ
back B b i = (b + (B - i)) % B

-- the homes in the stretch of n buckets, taken round, that ends at b, where h says how many homes a bucket has
unfoldable pub stretch : ℕ → (ℕ → ℕ) → ℕ → ℕ → ℕ
stretch B h b n = sum_to n (λ i. h (back B b i))

-- "the largest excess of homes over buckets in any stretch of one bucket up to" n "that ends there, or zero if none is
-- positive"
unfoldable pub largest : ℕ → (ℕ → ℕ) → ℕ → ℕ → ℕ
largest B h b zero = 0
largest B h b (suc n) = max (largest B h b n) (stretch B h b (suc n) - suc n)

-- "up to the whole table"
unfoldable pub overflow : ℕ → (ℕ → ℕ) → ℕ → ℕ
overflow B h b = largest B h b B

-- "the number of live keys plus every bucket's overflow"
unfoldable pub lawful : ℕ → ℕ → (ℕ → ℕ) → ℕ
lawful B n h = n + sum_to B (overflow B h)

-- how many of the homes in a list are at bucket b
unfoldable pub homes_in : List ℕ → ℕ → ℕ
homes_in [] b = 0
homes_in (x ∷ xs) b = one (eqb x b) + homes_in xs b

-- the sum that a list of home buckets gives
unfoldable pub sum_of_homes : ℕ → List ℕ → ℕ
sum_of_homes B homes = lawful B (length homes) (homes_in homes)
