-- `writing::create::make` meets its contract: zeros, the header's fields in three groups, the CRC.
-- Assumes nothing.
use Rattle.header.proofs.Allowed.{sized}
use Rattle.writing.proofs.Making.{made}
use borrow.Author.Rules.{rules}
use Rattle.writing.proofs.create.make.Goals as goal

pub write_sizes-requires : goal.write_sizes-requires
write_sizes-requires c =
    let h = (sized c.args.o c.requires.3).sizes in
    (search rules, h.key_high, h.index_high)

pub returns : goal.returns
returns c =
    made c.args.o c.args.buffer.now c.requires.0 c.clear.ensures c.write_sizes.ensures c.write_options.ensures c.write_layout.ensures c.seal.ensures
