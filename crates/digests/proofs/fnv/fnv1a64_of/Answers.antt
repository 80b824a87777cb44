-- `fnv::fnv1a64_of` meets its contract. The loop's invariant: the hash goes on from h with the bytes that are left.
-- Assumes nothing.
use Rattle.std.proofs.Common.{sym, refl, ◌∙◌, rules}
use Rattle.digests.specs.Fnv.{fnv1a64}
use Rattle.digests.proofs.Pieces.{fnv_next, fnv_end}
use Rattle.digests.proofs.fnv.fnv1a64_of.Goals as goal

pub loop-b-init : goal.loop-b-init
unfolding fnv1a64
loop-b-init c = refl

pub loop-b-preserved : goal.loop-b-preserved
loop-b-preserved c =
    let l = c.loop-b in
    l.invariant ∙ fnv_next l.h c.args.s.now l.b-index c.loop-b-test.true c.from.ensures refl

pub returns : goal.returns
returns c =
    let l = c.loop-b in
    sym (l.invariant ∙ fnv_end l.h c.args.s.now l.b-index (search rules))
