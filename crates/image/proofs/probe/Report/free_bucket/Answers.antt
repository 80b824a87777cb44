-- `image::probe::Report::free_bucket` meets its contract.
-- Assumes nothing.
use Rattle.image.proofs.probe.Report.free_bucket.Goals as goal

pub returns : goal.returns
returns c = c.unwrap_or.ensures
