-- `host::write::slc1_set_user_fields` meets its contract.
-- Assumes nothing.
use mathlib.Core.Path.{◌∙◌}
use Rattle.host.proofs.UserDataLaws.{from_wrong, from_right}
use Rattle.host.proofs.write.slc1_set_user_fields.Goals as goal

pub returns-then-user_data-ne-USER_DATA_SIZE : goal.returns-then-user_data-ne-USER_DATA_SIZE
returns-then-user_data-ne-USER_DATA_SIZE c =
    let a = c.args in
    from_wrong _ a.image.now a.user_flags a.user_data.now c.if-user_data-ne-USER_DATA_SIZE.true (c.number_of.ensures ∙ c.other_length.ensures)

pub returns : goal.returns
returns c =
    let a = c.args in
    let told = c.set_user_fields.ensures in
    from_right _ a.image.now a.user_flags a.user_data.now (c.number_of-2.ensures ∙ told.0, told.1) c.copy_from_slice.ensures.after c.if-user_data-ne-USER_DATA_SIZE.false
