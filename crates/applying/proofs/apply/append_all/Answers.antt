-- `applying::apply::append_all` meets its contract. The loop's invariant: the new keys so far have their slots.
-- Assumes nothing.
use Prim.Native.Nat.{ℕ, ◌+◌}
use lib.ListN.{get_or}
use mathlib.Core.List.{List}
use mathlib.Core.Path.{refl, sym, ap, subst, ◌∙◌}
use native.Mathlib.Numerals.{add-one}
use native.Mathlib.Omega.{arith}
use Rattle.applying.specs.Prepared.{one_appended, appended_to}
use Rattle.probing.specs.Report.{Missing}
use Rattle.header.specs.Counters.{with_slots}
use Rattle.image.specs.Table.{table_of}
use Rattle.batch.specs.Batch.{record_key}
use Rattle.applying.proofs.apply.append_all.Goals as goal

pub loop-k-init : goal.loop-k-init
unfolding appended_to
loop-k-init c = refl

pub append_one-requires-clause-missing : goal.append_one-requires-clause-missing
append_one-requires-clause-missing c =
    let a = c.args in
    let l = c.loop-k in
    let i = get_or a.plan.now.order.now l.k 0 in
    rw c.from.ensures
    (subst (λ (x : List ℕ). Missing (table_of (with_slots a.s (a.s.slot_highwater + l.k)) x) (record_key a.s.layout a.plan.now.hashed.batch.bytes.now i)) (sym l.invariant) (c.requires.all_missing l.k (omega arith)))

pub loop-k-preserved : goal.loop-k-preserved
unfolding appended_to one_appended
loop-k-preserved c =
    let a = c.args in
    let l = c.loop-k in
    c.append_one.ensures ∙ rw (c.from.ensures, add-one) (ap (one_appended a.s a.plan.now.hashed.batch.bytes.now a.plan.now.order.now l.k) l.invariant)
