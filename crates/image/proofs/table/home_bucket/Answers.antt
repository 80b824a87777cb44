-- `image::table::home_bucket` meets its contract.
-- Assumes nothing.
use Rattle.header.proofs.PowerBits.{power_positive, power_mask}
use Rattle.image.proofs.table.home_bucket.Goals as goal

pub overflow_sub-result : goal.overflow_sub-result
overflow_sub-result c = power_positive c.args.count c.requires

pub returns : goal.returns
returns c = power_mask c.args.hash c.args.count c.requires
