-- `header::open::open_check` meets its contract.
-- Assumes nothing.
use mathlib.Core.Path.{ap, ◌∙◌}
use Rattle.std.specs.Prelude.{Ok}
use Rattle.header.specs.declared.open.UserFields.{UserFields}
use Rattle.header.specs.HeaderTest.{header_test}
use Rattle.header.specs.Open.{user_fields, opened, open_of}
use Rattle.header.proofs.After.{after_done}
use Rattle.header.proofs.Opening.{opened_refused}
use Rattle.header.proofs.open.open_check.Goals as goal

pub returns-in_err-header : goal.returns-in_err-header
returns-in_err-header c = opened_refused c.args.o c.args.image.now _ _ c.from_residual.ensures.1 c.in_err-header.ensures.numbered

pub returns : goal.returns
unfolding open_of
returns c =
    ap (λ (f : UserFields). opened (Ok f)) (c.user_fields.ensures ∙ ap user_fields c.in_ok-header.ensures.bytes)
    ∙ after_done (header_test c.args.o c.args.image.now) _ _ c.in_ok-header.ensures.numbered
