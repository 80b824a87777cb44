-- `listing::matching::bits_compared` meets its contract.
-- Assumes nothing.
use Rattle.listing.proofs.Pattern.{compared_all, compared_asked}
use Rattle.listing.proofs.matching.bits_compared.Goals as goal

pub returns-then-bits-eq0 : goal.returns-then-bits-eq0
returns-then-bits-eq0 c = let a = c.args in compared_all a.bits a.pattern.now c.if-bits-eq0.true

pub returns-else-bits-eq0 : goal.returns-else-bits-eq0
returns-else-bits-eq0 c = let a = c.args in compared_asked a.bits a.pattern.now c.if-bits-eq0.false
