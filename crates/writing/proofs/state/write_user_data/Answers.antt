-- `writing::state::write_user_data` meets its contract.
-- Assumes nothing.
use mathlib.Core.Path.{◌≡◌, ap, ◌∙◌}
use native.Mathlib.Omega.{arith}
use lib.ListN.{length}
use Rattle.numbers.specs.Bytes.{put}
use Rattle.header.specs.declared.fields.Field.{Field}
use Rattle.writing.specs.State.{with_user_data}
use borrow.Author.Rules.{rules}
use Rattle.writing.proofs.state.write_user_data.Goals as goal

pub copy_to-requires : goal.copy_to-requires
copy_to-requires c =
    let n : length c.args.bytes ≡ 64 = search rules in
    let e = ap (λ (f : Field). f.offset) c.field_of-field.ensures in
    omega arith

pub returns : goal.returns
unfolding with_user_data
returns c =
    c.copy_to.ensures ∙ ap (λ (f : Field). put c.args.image.now f.offset c.args.bytes) c.field_of-field.ensures
