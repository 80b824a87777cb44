-- `slots::slots::place_for` meets its contract: a bucket that is not FULL is the place, if it was noted; else the report leaves it.
-- Assumes nothing.
use mathlib.Core.Path.{◌≡◌, sym, ap, ◌∙◌}
use mathlib.Core.Bool.{false}
use mathlib.Core.Logic.{inl, inr}
use native.Mathlib.Omega.{arith}
use Rattle.probing.specs.Report.{Hint}
use Rattle.probing.specs.Table.{is_full}
use Rattle.image.specs.Table.{bucket_of, table_of}
use Rattle.image.specs.Told.{bucket_read}
use Rattle.slots.proofs.Table.Indexed.{reported_place}
use Rattle.slots.proofs.slots.place_for.Goals as goal
use Rattle.slots.proofs.slots.place_for.Goals.{In-Some}

-- what is noted is a hint
hinted : (c : In-Some) → let a = c.args in Hint (table_of a.image.now.shape a.image.now.bytes.now) a.key.now c.in-Some.noted
hinted c = rw c.in-Some.is at c.requires.hint

pub returns-in-Empty : goal.returns-in-Empty
unfolding table_of
returns-in-Empty c =
    let a = c.args in
    let says = sym c.bucket_of.ensures in
    let free : is_full (bucket_of a.image.now.shape.layout a.image.now.bytes.now c.in-Some.noted) ≡ false = elim c.in-Empty.is [
      | inl e ↦ ap is_full (says ∙ ap bucket_read e)
      | inr e ↦ ap is_full (says ∙ ap bucket_read e)
    ] in
    let hint = hinted (goal.at.returns-in-Empty c).In-Some in
    sym (hint (omega arith) free)

pub returns : goal.returns
returns c =
    let a = c.args in
    c.free_bucket.ensures ∙ reported_place a.image.now.shape a.image.now.bytes.now a.key.now _ c.probe_hashed.ensures c.requires.missing
