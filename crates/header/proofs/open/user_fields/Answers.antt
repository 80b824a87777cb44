-- `header::open::user_fields` meets its contract: the copy is the whole user data.
-- Assumes nothing.
use mathlib.Core.Path.{◌∙◌}
use Rattle.header.specs.Open.{user_fields}
use Rattle.header.proofs.open.user_fields.Goals as goal

pub returns : goal.returns
unfolding user_fields
returns c =
    let whole = c.copy_from_slice.ensures.after ∙ c.bytes_in.ensures.bytes in
    λ i. record { user_flags = c.read.ensures i; user_data = whole i }
