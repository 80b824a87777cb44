-- `host::write::other_length` meets its contract.
-- Assumes nothing.
use Rattle.header.specs.Answer.{invalid_input}
use Rattle.header.proofs.After.{after_done}
use Rattle.host.proofs.write.other_length.Goals as goal

pub returns : goal.returns
returns c = after_done _ invalid_input (λ n. n) c.in_ok-judge.ensures.numbered
