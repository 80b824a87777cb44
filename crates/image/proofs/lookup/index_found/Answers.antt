-- `image::lookup::index_found` meets its contract.
-- Assumes nothing.
use mathlib.Core.Path.{◌≡◌, refl, sym, ap, ◌∙◌}
use native.Mathlib.Omega.{arith}
use Rattle.std.specs.Prelude.{Option, Some, None}
use Rattle.header.specs.HeaderTest.{header_test}
use Rattle.header.proofs.After.{after_refusal}
use Rattle.header.proofs.Firsts.{number_not_done}
use Rattle.image.specs.declared.lookup.Entry.{Entry}
use Rattle.image.specs.Lookup.{nothing, entered, lookup_in, lookup_of}
use Rattle.image.proofs.Judging.{after_open}
use Rattle.image.proofs.Looked.{looked_below, index_found, no_index}
use Rattle.image.proofs.lookup.index_found.Goals as goal
use Rattle.image.proofs.lookup.index_found.Goals.{After-lookup_in, After-ok_or}

-- lookup goes on after the header test
passed : (c : After-lookup_in)
    → let a = c.args in
    lookup_in c.in_ok-fit.fit.shape c.in_ok-fit.fit.bytes.now a.key.now ≡ lookup_of a.o a.image.now a.key.now
unfolding lookup_of
passed c =
    let a = c.args in
    let i = c.in_ok-fit.ensures in
    after_open (λ s image. lookup_in s image a.key.now) nothing a.o a.image.now _ _ i.numbered i.bytes i.shape

-- what lookup answers with an entry, or with none
found : (c : After-ok_or) (entry : Option Entry) → c.in_ok-found.found.entry ≡ entry
    → let fit = c.in_ok-fit.fit in
    entered entry c.in_ok-found.found.buckets ≡ lookup_in fit.shape fit.bytes.now c.args.key.now
found c entry is =
    ap (λ (x : Option Entry). entered x c.in_ok-found.found.buckets) (sym is) ∙ c.in_ok-found.ensures

pub returns-in_err-fit-clause-none : goal.returns-in_err-fit-clause-none
unfolding lookup_of
returns-in_err-fit-clause-none c =
    let a = c.args in
    no_index a.o a.image.now a.key.now c.from_residual.result _
    (after_refusal (header_test a.o a.image.now) _ nothing _ c.in_err-fit.ensures.numbered) (number_not_done _)

pub returns-in_err-found-clause-none : goal.returns-in_err-found-clause-none
returns-in_err-found-clause-none c =
    let a = c.args in
    no_index a.o a.image.now a.key.now c.from_residual-in_err-found.result _
    (c.in_err-found.ensures ∙ passed (goal.at.returns-in_err-found-clause-none c).After-lookup_in) (number_not_done _)

pub returns-in_err-entry-clause-none : goal.returns-in_err-entry-clause-none
returns-in_err-entry-clause-none c =
    let a = c.args in
    no_index a.o a.image.now a.key.now c.from_residual-in_err-entry.result _
    (found (goal.at.returns-in_err-entry-clause-none c).After-ok_or None c.in_err-entry.ensures.ok_part ∙ passed (goal.at.returns-in_err-entry-clause-none c).After-lookup_in)
    (λ e. absurd (omega (arith, e)))

pub index_of-requires : goal.index_of-requires
index_of-requires c =
    let fit = c.in_ok-fit.fit in
    let told = found (goal.at.index_of-requires c).After-ok_or (Some c.in_ok-entry.entry) c.in_ok-entry.ensures.ok_part in
    omega (arith, looked_below fit.shape fit.bytes.now c.args.key.now _ told refl, fit.shaped.highwater)

pub returns-clause-found : goal.returns-clause-found
returns-clause-found c =
    let a = c.args in
    let i = c.in_ok-fit.ensures in
    let told = found (goal.at.returns-clause-found c).After-ok_or (Some c.in_ok-entry.entry) c.in_ok-entry.ensures.ok_part ∙ passed (goal.at.returns-clause-found c).After-lookup_in in
    rw (c.index_of.ensures, i.bytes, i.shape) (index_found a.o a.image.now a.key.now _ told refl)
