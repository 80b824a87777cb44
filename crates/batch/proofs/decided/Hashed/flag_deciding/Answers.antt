-- `batch::decided::Hashed::flag_deciding` meets its contract. The loop's invariant: the records from i on are flagged and indexed.
-- Assumes nothing.
use Prim.Native.Nat.{◌-◌}
use mathlib.Core.Path.{◌≡◌, sym, subst}
use native.Mathlib.Omega.{arith}
use Rattle.batch.specs.Batch.{record_count, decides}
use Rattle.batch.specs.Index.{Indexed}
use Rattle.batch.proofs.Noted.{FlaggedFrom, from_none}
use Rattle.batch.proofs.Indexing.{index_none}
use Rattle.batch.proofs.decided.Hashed.flag_deciding.Goals as goal

pub loop-i-init : goal.loop-i-init
loop-i-init c =
    let b = c.args.self.now.batch in
    let n = record_count b.layout b.bytes.now in
    let all = c.record_count-i.ensures in
    let none : 0 ≡ n - c.record_count-i.result = omega (arith, all) in (
      subst (FlaggedFrom (decides b.layout b.bytes.now) n _) (sym all) (from_none _ _ c.args.self.now.noted.fits),
      subst (Indexed b.layout b.bytes.now _) none (index_none b.layout b.bytes.now),
    )
