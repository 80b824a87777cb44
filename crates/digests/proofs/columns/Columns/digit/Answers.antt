-- `columns::Columns::digit` meets its contract.
-- Assumes nothing.
use Rattle.std.proofs.Common.{rules}
use Rattle.digests.proofs.Mixed.{no_digit}
use Rattle.digests.proofs.columns.Columns.digit.Goals as goal

pub returns-then-place : goal.returns-then-place
returns-then-place g c = no_digit c.args.self.now.digits c.args.place _ (search rules)

pub returns : goal.returns
returns g c = c.mix.ensures
