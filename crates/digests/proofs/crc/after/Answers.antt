-- `crc::after` meets its contract. The loop's invariant: the bytes behind the first n words make the same of the state.
-- Assumes nothing.
use Rattle.std.proofs.Common.{◌≡◌, ℕ, ◌+◌, ◌*◌, ◌≤◌, length, drop, ap, ◌∙◌, arith}
use Rattle.digests.specs.Crc.{crc_from}
use Rattle.digests.proofs.Pieces.{crc_word}
use Rattle.digests.proofs.crc.after.Goals as goal

pub loop-n-preserved : goal.loop-n-preserved
loop-n-preserved c =
    let l = c.loop-n in
    let s = c.args.s.now in
    let word = rw (c.from.ensures, c.u64_at.ensures) at c.bits_64-state.ensures in
    let one_more : 8 * l.n + 8 ≡ 8 * (l.n + 1) = omega arith in
    let in_list : 8 * l.n + 8 ≤ length s = omega (arith, c.loop-n-test.true) in
    l.invariant ∙ crc_word l.state s (8 * l.n) (λ k. (c.shared_slice_known-1.given k).fits) in_list word ∙ ap (λ (k : ℕ). crc_from c.bits_64-state.result (drop k s)) one_more
