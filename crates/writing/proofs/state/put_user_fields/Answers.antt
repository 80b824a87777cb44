-- `writing::state::put_user_fields` meets its contract.
-- Assumes nothing.
use Prim.Native.Nat.{ℕ, ◌+◌}
use mathlib.Core.Path.{◌≡◌, sym, ap, ◌∙◌}
use mathlib.Core.List.{List}
use lib.ListN.{length}
use Rattle.header.specs.Fields as F
use Rattle.writing.specs.Write.{with_field}
use Rattle.writing.specs.State.{with_user_data}
use Rattle.writing.proofs.StateCode.{wrote_last, publishes, user_data_generation}
use borrow.Author.Rules.{rules}
use Rattle.writing.proofs.state.put_user_fields.Goals as goal
use Rattle.writing.proofs.state.put_user_fields.Goals.{Start}

-- the user data are as many bytes as their field has
sized : (c : Start) → length c.args.fields.user_data ≡ 64
sized c = search rules

pub returns : goal.returns
returns c =
    let image = c.args.image.now in
    let bytes = c.args.fields.user_data in
    publishes (with_user_data image bytes) _
    (c.requires.1 ∙ sym (user_data_generation image bytes c.requires.0 (sized (goal.at.returns c).Start)))
    (c.write.ensures ∙ ap (λ (l : List ℕ). with_field l F.generation (c.args.generation + 2)) c.write_user_data.ensures)
    (wrote_last F.user_flags c.args.fields.user_flags _ c.write-2.ensures)
    c.seal.ensures
