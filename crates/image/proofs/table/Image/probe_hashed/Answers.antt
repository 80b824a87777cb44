-- `image::table::Image::probe_hashed` meets its contract: each bucket read is a case of the probe rule.
-- Assumes nothing.
use borrow.Author.Rules.{rules}
use mathlib.Core.Path.{◌≡◌, refl, sym, ◌∙◌}
use mathlib.Core.Bool.{true}
use native.Mathlib.Omega.{arith}
use Prim.Native.Nat.{◌+◌}
use Rattle.numbers.specs.Bytes.{same}
use Rattle.header.proofs.PowerBits.{power_positive}
use Rattle.probing.specs.Table.{EMPTY, TOMBSTONE}
use Rattle.probing.specs.Probe.{absent, found, examine}
use Rattle.image.specs.Table.{key_of, table_of}
use Rattle.image.proofs.BucketSays.{full_past, full_other_hash, full_other_key, full_live, full_dead}
use Rattle.image.proofs.Way.{at_home, starts, broke, runs_out, ended, turned, goes_on, goes_past}
use Rattle.image.proofs.table.Image.probe_hashed.Goals as goal
use Rattle.image.proofs.table.Image.probe_hashed.Goals.{in-Tombstone, in-Full+else-slot-self+else-hash64-hash, else-hash64-hash-via-then-hash64-hash+else-same_bytes, else-hash64-hash-via-else-hash64-hash}

pub loop-passed-init : goal.loop-passed-init
loop-passed-init c =
    let a = c.args in
    let i = a.self.now in
    starts i.shape i.bytes.now a.key.now _ (at_home _ _ _ _ _ c.home_bucket-home.ensures c.requires) (power_positive _ i.shaped.laid.power)

pub bucket_of-requires : goal.bucket_of-requires
bucket_of-requires c = c.loop-passed.invariant.inside

pub returns-in-Empty : goal.returns-in-Empty
unfolding examine
returns-in-Empty c =
    let a = c.args in
    let i = a.self.now in
    let l = c.loop-passed in
    ended i.shape i.bytes.now a.key.now l.invariant (absent (l.passed + 1))
    (turned i.shape i.bytes.now a.key.now l.invariant c.loop-passed-test.true EMPTY (rw c.in-Empty.is at c.bucket_of.ensures) _ refl) refl

pub returns-then-slot-self : goal.returns-then-slot-self
returns-then-slot-self c =
    let a = c.args in
    let i = a.self.now in
    let l = c.loop-passed in
    let past = full_past i.shape i.bytes.now a.key.now _ _ _ _ c.if-slot-self.true in
    c.broken.ensures
    ∙ broke i.shape i.bytes.now a.key.now _ (at_home _ _ _ _ _ c.home_bucket-home.ensures c.requires)
    (turned i.shape i.bytes.now a.key.now l.invariant c.loop-passed-test.true _ (rw c.in-Full.is at c.bucket_of.ensures) _ past)

pub returns-then-meta_of-ne1 : goal.returns-then-meta_of-ne1
returns-then-meta_of-ne1 c =
    let a = c.args in
    let i = a.self.now in
    let l = c.loop-passed in
    let equal : same (key_of i.shape.layout i.bytes.now c.in-Full.slot) a.key.now ≡ true = rw c.key_of.ensures at (sym c.same_bytes.ensures ∙ c.if-same_bytes.true) in
    let dead = full_dead i.shape i.bytes.now a.key.now _ _ _ _ (search rules) (c.if-hash64-hash.true ∙ c.requires) equal (λ e. c.if-meta_of-ne1.true (c.meta_of.ensures ∙ e)) in
    c.broken-then-meta_of-ne1.ensures
    ∙ broke i.shape i.bytes.now a.key.now _ (at_home _ _ _ _ _ c.home_bucket-home.ensures c.requires)
    (turned i.shape i.bytes.now a.key.now l.invariant c.loop-passed-test.true _ (rw c.in-Full.is at c.bucket_of.ensures) _ dead)

pub returns-then-same_bytes : goal.returns-then-same_bytes
returns-then-same_bytes c =
    let a = c.args in
    let i = a.self.now in
    let l = c.loop-passed in
    let equal : same (key_of i.shape.layout i.bytes.now c.in-Full.slot) a.key.now ≡ true = rw c.key_of.ensures at (sym c.same_bytes.ensures ∙ c.if-same_bytes.true) in
    let live = full_live i.shape i.bytes.now a.key.now _ _ _ _ (search rules) (c.if-hash64-hash.true ∙ c.requires) equal (sym c.meta_of.ensures ∙ c.if-meta_of-ne1.false) in
    ended i.shape i.bytes.now a.key.now l.invariant (found c.in-Full.slot (l.passed + 1))
    (turned i.shape i.bytes.now a.key.now l.invariant c.loop-passed-test.true _ (rw c.in-Full.is at c.bucket_of.ensures) _ live) refl

pub next_bucket-bucket-requires : goal.next_bucket-bucket-requires
next_bucket-bucket-requires c = c.loop-passed.invariant.inside

pub loop-passed-preserved : goal.loop-passed-preserved
unfolding examine table_of
loop-passed-preserved c =
    let a = c.args in
    let i = a.self.now in
    let l = c.loop-passed in
    rw c.next_bucket-bucket.ensures
    (elim c.match-bucket_of.branch [
      | in-Tombstone w ↦ rw (w.tombstone-is, w.or-tombstone.ensures) (goes_past i.shape i.bytes.now a.key.now l.invariant c.loop-passed-test.true TOMBSTONE (rw w.in-Tombstone.is at c.bucket_of.ensures) refl refl)
      | in-Full+else-slot-self+else-hash64-hash w ↦
          rw w.tombstone-is
          (elim w.else-hash64-hash.branch [
            | else-hash64-hash-via-then-hash64-hash+else-same_bytes w' ↦
                goes_on i.shape i.bytes.now a.key.now l.invariant c.loop-passed-test.true _ (rw w.in-Full.is at c.bucket_of.ensures)
                (full_other_key i.shape i.bytes.now a.key.now _ _ _ _ (search rules) (w'.if-hash64-hash.true ∙ c.requires) (rw w'.key_of.ensures at (sym w'.same_bytes.ensures ∙ w'.if-same_bytes.false))) refl
            | else-hash64-hash-via-else-hash64-hash w' ↦
                goes_on i.shape i.bytes.now a.key.now l.invariant c.loop-passed-test.true _ (rw w.in-Full.is at c.bucket_of.ensures)
                (full_other_hash i.shape i.bytes.now a.key.now _ _ _ _ (search rules) (λ e. w'.if-hash64-hash.false (e ∙ sym c.requires))) refl
          ])
    ])

pub returns : goal.returns
returns c =
    let a = c.args in
    let i = a.self.now in
    let l = c.loop-passed in
    c.broken-2.ensures
    ∙ broke i.shape i.bytes.now a.key.now _ (at_home _ _ _ _ _ c.home_bucket-home.ensures c.requires)
    (runs_out i.shape i.bytes.now a.key.now l.invariant (omega (arith, c.loop-passed-test.false)))
