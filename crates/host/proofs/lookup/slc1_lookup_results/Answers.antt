-- `host::lookup::slc1_lookup_results` meets its contract.
-- Assumes nothing.
use native.Mathlib.Omega.{arith}
use mathlib.Core.Path.{ap, ◌∙◌}
use mir.Facts.{to_z-of_z}
use mir.Val.{SFits}
use mir.Syntax.{w64}
use borrow.Author.Rules.{rules, sfits_of}
use Rattle.host.specs.Results.{word_of}
use Rattle.host.proofs.ResultLaws.{lookup_short, lookup_written}
use Rattle.host.proofs.lookup.slc1_lookup_results.Goals as goal

pub returns-then-results-lt-LOOKUP_RESULTS : goal.returns-then-results-lt-LOOKUP_RESULTS
returns-then-results-lt-LOOKUP_RESULTS c =
    let a = c.args in
    lookup_short a.results.now _ c.number.ensures (omega (arith, c.if-results-lt-LOOKUP_RESULTS.true))

pub returns : goal.returns
returns c =
    let a = c.args in
    let fits : SFits w64 c.entry_in-entry.result.revision = search (rules, sfits_of) in
    let word = c.word_of-revision.ensures ∙ ap word_of (to_z-of_z {w = w64} {z = c.entry_in-entry.result.revision} fits) in
    lookup_written a.results.now c.look_up-looked_up.result c.look_up-looked_up.ensures c.number_in-answer.ensures c.from.ensures c.entry_in-entry.ensures word c.buckets_in-buckets.ensures c.if-results-lt-LOOKUP_RESULTS.false c.copy_to.ensures
