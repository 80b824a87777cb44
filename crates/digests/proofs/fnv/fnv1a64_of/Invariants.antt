-- `fnv::fnv1a64_of` meets its contract. The loop's invariant: the hash goes on from h with the bytes that are left.
-- Assumes nothing.
use Rattle.std.proofs.Common.{◌≡◌, drop}
use Rattle.digests.specs.Fnv.{fnv_from, fnv1a64}
use Rattle.digests.proofs.fnv.fnv1a64_of.Given as goal

abbrev pub invariant-loop-b : goal.invariant-loop-b
invariant-loop-b l = fnv1a64 l.s ≡ fnv_from l.h (drop l.b-index l.s)
