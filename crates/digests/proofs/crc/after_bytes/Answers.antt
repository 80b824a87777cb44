-- `crc::after_bytes` meets its contract. The loop's invariant: the bytes that are left make the same of the state.
-- Assumes nothing.
use Rattle.std.proofs.Common.{sym, refl, ◌∙◌, rules}
use Rattle.digests.proofs.Pieces.{crc_next, crc_end}
use Rattle.digests.proofs.crc.after_bytes.Goals as goal

pub loop-b-init : goal.loop-b-init
loop-b-init c = refl

pub loop-b-preserved : goal.loop-b-preserved
loop-b-preserved c =
    let l = c.loop-b in
    l.invariant ∙ crc_next l.state c.args.s.now l.b-index (search rules) c.step-state.ensures

pub returns : goal.returns
returns c =
    let l = c.loop-b in
    sym (l.invariant ∙ crc_end l.state c.args.s.now l.b-index (search rules))
