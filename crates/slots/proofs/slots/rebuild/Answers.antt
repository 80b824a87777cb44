-- `slots::slots::rebuild` meets its contract. The loop's invariant: the index holds the live slots below n.
-- Assumes nothing.
use mathlib.Core.Path.{◌≡◌, ap, ◌∙◌}
use native.Mathlib.Omega.{arith}
use Rattle.slots.specs.Slots.{rebuilt_to, rebuilt}
use Rattle.slots.proofs.Table.Rebuilt.{rebuilt_more, rebuilt_missing}
use Rattle.slots.proofs.slots.rebuild.Goals as goal

pub loop-n-init : goal.loop-n-init
unfolding rebuilt_to
loop-n-init c = c.clear.ensures

pub index_live-requires-clause-missing : goal.index_live-requires-clause-missing
index_live-requires-clause-missing c =
    let l = c.loop-n in
    rebuilt_missing c.args.s c.args.image.now c.requires.shaped c.requires.sound l.n l.image (omega arith) l.invariant

pub loop-n-preserved : goal.loop-n-preserved
loop-n-preserved c =
    let l = c.loop-n in
    c.index_live.ensures ∙ rebuilt_more c.args.s c.args.image.now c.requires.shaped l.n l.image (omega arith) l.invariant

pub returns : goal.returns
unfolding rebuilt
returns c =
    let all : c.loop-n.n ≡ c.args.s.slot_highwater = omega arith in
    c.loop-n.invariant ∙ ap (rebuilt_to c.args.s c.args.image.now) all
