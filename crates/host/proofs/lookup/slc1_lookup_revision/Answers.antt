-- `host::lookup::slc1_lookup_revision` meets its contract.
-- Assumes nothing.
use mathlib.Core.Path.{ap, ◌∙◌}
use mir.Facts.{to_z-of_z}
use mir.Val.{SFits}
use mir.Syntax.{w64}
use borrow.Author.Rules.{rules, sfits_of}
use Rattle.image.specs.declared.lookup.Entry.{Entry}
use Rattle.image.specs.Lookup.{Lookup}
use Rattle.host.proofs.lookup.slc1_lookup_revision.Goals as goal

pub returns : goal.returns
returns c =
    let fits : SFits w64 c.entry_in.result.revision = search (rules, sfits_of) in
    to_z-of_z {w = w64} {z = c.entry_in.result.revision} fits
    ∙ ap (λ (e : Entry). e.revision) c.entry_in.ensures ∙ ap (λ (x : Lookup). x.revision) c.look_up-looked.ensures
