-- `header::fields::Header::agreement_test` meets its contract.
-- Assumes nothing.
use Rattle.header.proofs.Allowed.{allowed}
use Rattle.header.proofs.fields.Header.agreement_test.Goals as goal

pub slot_size-requires : goal.slot_size-requires
slot_size-requires c =
    let h = allowed c.args.o c.requires in
    (h.key_high, h.index_high)
