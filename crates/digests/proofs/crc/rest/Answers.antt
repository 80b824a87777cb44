-- `crc::rest` meets its contract: zeros are bits alone.
-- Assumes nothing.
use Rattle.std.proofs.Common.{◌≡◌, sym, ◌∙◌}
use Rattle.numbers.specs.Bytes.{part}
use Rattle.digests.specs.Crc.{crc_from}
use Rattle.digests.proofs.Header.{rest_zero, rest_on, rest_user}
use Rattle.digests.proofs.crc.rest.Goals as goal

pub returns-then-all_zero : goal.returns-then-all_zero
unfolding part
returns-then-all_zero c =
    rest_zero c.args.image.now c.requires (sym c.all_zero.ensures ∙ c.if-all_zero.true)

pub returns-then-all_zero-2 : goal.returns-then-all_zero-2
unfolding part
returns-then-all_zero-2 c =
    rest_user c.args.image.now c.requires c.after-state.ensures (sym c.all_zero-2.ensures ∙ c.if-all_zero-2.true) (rw c.from.ensures at c.bits_512.ensures)

pub returns : goal.returns
unfolding part
returns c =
    let s = c.args.image.now in
    let last : c.after.result ≡ crc_from c.after-state.result (part s 0xC0 64) = c.after.ensures in
    last ∙ rest_on s c.requires c.after-state.ensures
