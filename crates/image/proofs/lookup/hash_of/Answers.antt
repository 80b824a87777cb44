-- `image::lookup::hash_of` meets its contract.
-- Assumes nothing.
use native.Mathlib.Omega.{arith}
use Rattle.image.proofs.lookup.hash_of.Goals as goal

pub returns-then-key-gt-MOST_KEY_SIZE : goal.returns-then-key-gt-MOST_KEY_SIZE
returns-then-key-gt-MOST_KEY_SIZE c = λ short. absurd (omega (arith, c.if-key-gt-MOST_KEY_SIZE.true, short))

pub returns : goal.returns
returns c = λ short. c.fnv1a64_of.ensures
