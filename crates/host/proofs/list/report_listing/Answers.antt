-- `host::list::report_listing` meets its contract.
-- Assumes nothing.
use Rattle.host.proofs.ResultLaws.{listed_written}
use Rattle.host.proofs.list.report_listing.Goals as goal

pub returns : goal.returns
returns c =
    let a = c.args in
    listed_written a.results.now a.listed c.number_of-answer.ensures c.from.ensures c.unwrap_or-listing.ensures c.requires c.copy_to.ensures
