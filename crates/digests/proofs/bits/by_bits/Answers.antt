-- `bits::by_bits` meets its contract. The loop's invariant: the state is what the bits that are done make of x.
-- Assumes nothing.
use Rattle.std.proofs.Common.{◌≡◌, ℕ, sym, refl, ap, ◌∙◌, add-one, rules}
use Rattle.digests.specs.Crc.{crc_bit, crc_bits}
use Rattle.digests.proofs.Linear.{bits_last, bits_below}
use Rattle.digests.proofs.bits.by_bits.Goals as goal

pub loop-init : goal.loop-init
unfolding crc_bits
loop-init c = refl

pub loop-preserved : goal.loop-preserved
loop-preserved c =
    let l = c.loop in
    c.one_bit-state.ensures ∙ ap crc_bit l.invariant ∙ rw add-one (sym (bits_last l.counter c.args.x))

pub overflow_cast-result : goal.overflow_cast-result
overflow_cast-result c =
    let l = c.loop in
    record { fits = rw l.invariant (bits_below 32 l.counter c.args.x c.ranges.x.fits (search rules)) }

pub returns : goal.returns
returns c =
    let l = c.loop in
    let a = c.args in
    let e : l.counter ≡ a.n = search rules in
    l.invariant ∙ ap (λ (k : ℕ). crc_bits k a.x) e
