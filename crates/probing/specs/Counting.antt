-- Sums, counts and tests over the numbers below a bound.
-- Assumes nothing.
use Rattle.std.specs.Prelude.{ℕ, zero, suc, ◌+◌, Bool, true, cond, ◌&&◌}

-- f 0 + … + f (n − 1)
unfoldable pub sum_to : ℕ → (ℕ → ℕ) → ℕ
sum_to zero f = 0
sum_to (suc n) f = sum_to n f + f n

-- 1 where the test passes, else 0
abbrev pub one : Bool → ℕ
one b = cond b 1 0

-- how many of the numbers below n pass the test
unfoldable pub count_to : ℕ → (ℕ → Bool) → ℕ
count_to n p = sum_to n (λ i. one (p i))

-- whether each number below n passes the test
unfoldable pub all_to : ℕ → (ℕ → Bool) → Bool
all_to zero p = true
all_to (suc n) p = all_to n p && p n
