-- `image::table::next_bucket` meets its contract.
-- Assumes nothing.
use mathlib.Core.Path.{sym}
use native.Mathlib.Nat.{mod-eq_of_lt}
use native.Mathlib.Omega.{arith}
use Rattle.image.proofs.table.next_bucket.Goals as goal

pub returns-then-b-count : goal.returns-then-b-count
returns-then-b-count c = sym (mod-eq_of_lt (omega arith))
