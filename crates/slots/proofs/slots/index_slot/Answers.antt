-- `slots::slots::index_slot` meets its contract.
-- Assumes nothing.
use mathlib.Core.Path.{◌≡◌, sym, ap, subst, ◌∙◌}
use native.Mathlib.Omega.{arith}
use Prim.Native.Nat.{ℕ, ◌+◌, ◌≤◌}
use mathlib.Core.List.{List}
use lib.ListN.{length}
use Rattle.probing.specs.Change.{place}
use Rattle.image.specs.Table.{bucket_at, key_of, table_of}
use Rattle.image.proofs.Places.{bucket_inside}
use Rattle.slots.specs.Slots.{Hinted}
use Rattle.slots.proofs.Table.Indexed.{bucket_below, indexes}
use Rattle.slots.proofs.slots.index_slot.Goals as goal
use Rattle.slots.proofs.slots.index_slot.Goals.{After-place_for-place}

-- the bucket is the key's place
found : (c : After-place_for-place) → let a = c.args in
    c.place_for-place.result ≡ place (table_of a.s a.image.now) (key_of a.s.layout a.image.now a.n)
found c = c.place_for-place.ensures ∙ ap (place (table_of c.args.s c.args.image.now)) c.key_of.ensures

inside : (c : After-place_for-place) → bucket_at c.args.s.layout c.place_for-place.result + 16 ≤ length c.args.image.now
inside c =
    let a = c.args in
    let pre = c.requires in
    subst (λ (b : ℕ). bucket_at a.s.layout b + 16 ≤ length a.image.now) (sym (found c))
    (bucket_inside a.s.layout a.image.now pre.shaped.laid _ (bucket_below a.s a.image.now pre.shaped a.n pre.n_bound))

pub bucket_at-at-requires : goal.bucket_at-at-requires
bucket_at-at-requires c = omega (arith, inside (goal.at.bucket_at-at-requires c).After-place_for-place)

pub place_for-place-requires-clause-hint : goal.place_for-place-requires-clause-hint
place_for-place-requires-clause-hint c =
    let a = c.args in
    subst (λ (k : List ℕ). Hinted (table_of a.s a.image.now) k a.hint) (sym c.key_of.ensures) c.requires.hint

pub put_u64-requires : goal.put_u64-requires
put_u64-requires c = omega (arith, c.bucket_at-at.ensures, inside (goal.at.put_u64-requires c).After-place_for-place)

pub overflow_add-at : goal.overflow_add-at
overflow_add-at c = omega (arith, c.bucket_at-at.ensures, inside (goal.at.overflow_add-at c).After-place_for-place)

pub put_u64-requires-2 : goal.put_u64-requires-2
put_u64-requires-2 c =
    omega (arith, c.bucket_at-at.ensures, inside (goal.at.put_u64-requires-2 c).After-place_for-place)

pub returns : goal.returns
returns c =
    let a = c.args in
    let pre = c.requires in
    let there = c.bucket_at-at.ensures ∙ ap (bucket_at a.s.layout) (found (goal.at.returns c).After-place_for-place) in
    indexes a.s a.image.now pre.shaped a.n pre.n_bound there pre.hash_value c.put_u64.ensures c.put_u64-2.ensures
