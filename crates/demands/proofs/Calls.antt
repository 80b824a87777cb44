-- Each call meets its contract, and its contract is the equation.
-- Assumes nothing.
use Rattle.writing.proofs.create.create as create
use Rattle.header.proofs.open.open_check as open_check
use Rattle.header.proofs.extent.extent_of as extent_of_call
use Rattle.writing.proofs.state.begin as begin
use Rattle.commit.proofs.commit.commit_batch as commit_batch
use Rattle.writing.proofs.state.checkpoint as checkpoint
use Rattle.writing.proofs.state.invalidate as invalidate
use Rattle.writing.proofs.state.set_user_fields as set_user_fields
use Rattle.image.proofs.lookup.look_up as look_up
use Rattle.image.proofs.lookup.index_part as index_part_call
use Rattle.listing.proofs.scan.scan as scan
use Rattle.listing.proofs.matching.match_bits as match_bits
use Rattle.image.proofs.check.full_check as full_check
use Rattle.numbers.proofs.age.revision_age as revision_age
use Rattle.demands.specs.Calls.{Calls}
use Rattle.demands.proofs.Owing.{owing}

pub calls : Calls
calls =
    record {
      create = owing create.Reads.Post (λ M. create.Met.met) (λ κ a x e p. λ i. record { answer = p.0 i; image = p.1 i });
      open_check = owing open_check.Reads.Post (λ M. open_check.Met.met) (λ κ a x e p. p);
      extent_of_call = owing extent_of_call.Reads.Post (λ M. extent_of_call.Met.met) (λ κ a x e p. p);
      begin = owing begin.Reads.Post (λ M. begin.Met.met) (λ κ a x e p. λ i. record { answer = p.0 i; image = p.1 i });
      commit = owing commit_batch.Reads.Post (λ M. commit_batch.Met.met) (λ κ a x e p. λ i. record { answer = p.0 i; image = p.1 i });
      checkpoint = owing checkpoint.Reads.Post (λ M. checkpoint.Met.met) (λ κ a x e p. λ i. record { answer = p.0 i; image = p.1 i });
      invalidate = owing invalidate.Reads.Post (λ M. invalidate.Met.met) (λ κ a x e p. λ i. record { answer = p.0 i; image = p.1 i });
      set_user_fields = owing set_user_fields.Reads.Post (λ M. set_user_fields.Met.met) (λ κ a x e p. λ i. record { answer = p.0 i; image = p.1 i });
      lookup = owing look_up.Reads.Post (λ M. look_up.Met.met) (λ κ a x e p. p);
      index_part_call = owing index_part_call.Reads.Post (λ M. index_part_call.Met.met) (λ κ a x e p. p);
      scan = owing scan.Reads.Post (λ M. scan.Met.met) (λ κ a x e p. λ i. record { listed = p.0 i; numbers = p.1 i });
      match = owing match_bits.Reads.Post (λ M. match_bits.Met.met) (λ κ a x e p. λ i. record { listed = p.0 i; numbers = p.1 i });
      full_check = owing full_check.Reads.Post (λ M. full_check.Met.met) (λ κ a x e p. p);
      revision_age = owing revision_age.Reads.Post (λ M. revision_age.Met.met) (λ κ a x e p. p);
    }
