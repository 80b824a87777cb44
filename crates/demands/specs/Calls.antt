-- The library's calls: of each, the definition that its result and every lent byte afterwards follow from.
-- Assumes nothing.
use Rattle.numbers.specs.Age.{age_of}
use Rattle.header.specs.Answer.{answer}
use Rattle.header.specs.Open.{opened, open_of}
use Rattle.header.specs.Extent.{extent_of}
use Rattle.image.specs.Lookup.{looked, lookup_of, index_part}
use Rattle.image.specs.Check.{checked, check_of}
use Rattle.listing.specs.Scan.{told, scan_of}
use Rattle.listing.specs.Match.{match_of}
use Rattle.writing.specs.Create.{create_of}
use Rattle.writing.specs.State.{begin_of, checkpoint_of, invalidate_of, set_user_fields_of}
use Rattle.soundness.specs.Commit.{commit_of}
use Rattle.writing.proofs.create.create.Symbol as create
use Rattle.writing.specs.contracts.create.create.{ended as create_ended}
use Rattle.header.proofs.open.open_check.Symbol as open_check
use Rattle.header.specs.contracts.open.open_check.{ended as open_check_ended}
use Rattle.header.proofs.extent.extent_of.Symbol as extent_of_call
use Rattle.header.specs.contracts.extent.extent_of.{ended as extent_of_call_ended}
use Rattle.writing.proofs.state.begin.Symbol as begin
use Rattle.writing.specs.contracts.state.begin.{ended as begin_ended}
use Rattle.commit.proofs.commit.commit_batch.Symbol as commit_batch
use Rattle.commit.specs.contracts.commit.commit_batch.{ended as commit_batch_ended}
use Rattle.writing.proofs.state.checkpoint.Symbol as checkpoint
use Rattle.writing.specs.contracts.state.checkpoint.{ended as checkpoint_ended}
use Rattle.writing.proofs.state.invalidate.Symbol as invalidate
use Rattle.writing.specs.contracts.state.invalidate.{ended as invalidate_ended}
use Rattle.writing.proofs.state.set_user_fields.Symbol as set_user_fields
use Rattle.writing.specs.contracts.state.set_user_fields.{ended as set_user_fields_ended}
use Rattle.image.proofs.lookup.look_up.Symbol as look_up
use Rattle.image.specs.contracts.lookup.look_up.{ended as look_up_ended}
use Rattle.image.proofs.lookup.index_part.Symbol as index_part_call
use Rattle.image.specs.contracts.lookup.index_part.{ended as index_part_call_ended}
use Rattle.listing.proofs.scan.scan.Symbol as scan
use Rattle.listing.specs.contracts.scan.scan.{ended as scan_ended}
use Rattle.listing.proofs.matching.match_bits.Symbol as match_bits
use Rattle.listing.specs.contracts.matching.match_bits.{ended as match_bits_ended}
use Rattle.image.proofs.check.full_check.Symbol as full_check
use Rattle.image.specs.contracts.check.full_check.{ended as full_check_ended}
use Rattle.numbers.proofs.age.revision_age.Symbol as revision_age
use Rattle.numbers.specs.contracts.age.revision_age.{ended as revision_age_ended}
use Rattle.demands.specs.Owes.{Owes, written, outcome, arg1, arg2, arg3, arg4, arg5, arg6, arg7, arg8}

pub record Calls : Type 2 where
  -- "Create."
  pub create :
      Owes create_ended create.name create.code
      (λ κ x e. written (answer x) (arg1 e).now)
      (λ κ a. create_of (arg2 a) (arg1 a).now)
  -- "Open check is this test alone; with 0 it hands out the user fields."
  pub open_check :
      Owes open_check_ended open_check.name open_check.code
      (λ κ x e. opened x)
      (λ κ a. open_of (arg2 a) (arg1 a).now)
  -- "The judged header therefore carries capacity, B and offsets to every later call." (CR 10)
  pub extent_of_call :
      Owes extent_of_call_ended extent_of_call.name extent_of_call.code
      (λ κ x e. x)
      (λ κ a. extent_of (arg2 a) (arg1 a).now)
  -- "Begin"
  pub begin :
      Owes begin_ended begin.name begin.code
      (λ κ x e. written (answer x) (arg1 e).now)
      (λ κ a. begin_of (arg2 a) (arg1 a).now)
  -- "Commit"
  pub commit :
      Owes commit_batch_ended commit_batch.name commit_batch.code
      (λ κ x e. written (answer x) (arg1 e).now)
      (λ κ a. commit_of (arg2 a) (arg1 a).now (arg3 a).now)
  -- "Checkpoint"
  pub checkpoint :
      Owes checkpoint_ended checkpoint.name checkpoint.code
      (λ κ x e. written (answer x) (arg1 e).now)
      (λ κ a. checkpoint_of (arg2 a) (arg1 a).now)
  -- "Invalidate"
  pub invalidate :
      Owes invalidate_ended invalidate.name invalidate.code
      (λ κ x e. written (answer x) (arg1 e).now)
      (λ κ a. invalidate_of (arg2 a) (arg1 a).now)
  -- "Set user fields"
  pub set_user_fields :
      Owes set_user_fields_ended set_user_fields.name set_user_fields.code
      (λ κ x e. written (answer x) (arg1 e).now)
      (λ κ a. set_user_fields_of (arg2 a) (arg1 a).now (arg3 a))
  -- "Lookup."
  pub lookup :
      Owes look_up_ended look_up.name look_up.code
      (λ κ x e. looked x)
      (λ κ a. lookup_of (arg2 a) (arg1 a).now (arg3 a).now)
  -- "the index bytes, which are the caller's own bytes in the image and no copy"
  pub index_part_call :
      Owes index_part_call_ended index_part_call.name index_part_call.code
      (λ κ x e. x.now)
      (λ κ a. index_part (arg2 a) (arg1 a).now (arg3 a).now)
  -- "Scan"
  pub scan :
      Owes scan_ended scan.name scan.code
      (λ κ x e. outcome (told x) (arg5 e).now)
      (λ κ a. scan_of (arg2 a) (arg1 a).now (arg3 a) (arg4 a) (arg5 a).now)
  -- "Match"
  pub match :
      Owes match_bits_ended match_bits.name match_bits.code
      (λ κ x e. outcome (told x) (arg8 e).now)
      (λ κ a. match_of (arg2 a) (arg1 a).now (arg3 a) (arg4 a) (arg5 a).now (arg6 a) (arg7 a) (arg8 a).now)
  -- "Full check."
  pub full_check :
      Owes full_check_ended full_check.name full_check.code
      (λ κ x e. checked x)
      (λ κ a. check_of (arg2 a) (arg1 a).now)
  -- "Revision age."
  pub revision_age :
      Owes revision_age_ended revision_age.name revision_age.code
      (λ κ x e. x)
      (λ κ a. age_of (arg1 a) (arg2 a))
