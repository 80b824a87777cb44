-- What lookup answers, by the key's length and by what the probe ends in.
-- Assumes nothing.
use Prim.Native.Nat.{ℕ, ◌<◌}
use mathlib.Core.Path.{◌≡◌, refl, sym, ap, ◌∙◌}
use mathlib.Core.Bool.{Bool, true, false, cond}
use mathlib.Core.List.{List, []}
use native.Mathlib.Omega.{arith}
use lib.Dec.{eqb}
use lib.ListN.{length}
use borrow.Author.Tests.{eq-eqb, ne_eqb}
use Rattle.std.specs.Prelude.{Result, Ok, Err, IsErrAnd, IfErr}
use Rattle.probing.specs.Probe.{Probed, found, absent, broken}
use Rattle.probing.specs.Report.{report}
use Rattle.probing.specs.Sound.{Sound}
use Rattle.probing.proofs.Keys.{not_both}
use Rattle.probing.proofs.Reading.{never_broken}
use Rattle.probing.proofs.Reading.Ends.{found_run}
use Rattle.header.specs.declared.shape.Shape.{Shape}
use Rattle.header.specs.declared.refusal.Refusal.{Refusal}
use Rattle.header.specs.declared.options.Options.{Options}
use Rattle.header.specs.Answer.{done, invalid_input, number}
use Rattle.header.specs.HeaderTest.{header_test, shape_of}
use Rattle.header.proofs.After.{after_done, after_refusal}
use Rattle.image.specs.declared.lookup.Found as code
use Rattle.image.specs.declared.probe.Probe.{Probe}
use Rattle.image.specs.declared.probe.Report.{Report}
use Rattle.image.specs.declared.probe.Probe.TheVariants.{Found, Absent, Broken}
use Rattle.image.specs.Table.{table_of, index_of}
use Rattle.image.specs.Lookup.{Lookup, probe_of, is_found, is_live, nothing, looked, lookup_by, lookup_in, lookup_of, index_part}
use Rattle.image.specs.Told.{told, report_of}

-- what the code tells of a probe's end is that end
abbrev pub heard : Probe → Probed
heard (Found slot buckets) = found slot buckets
heard (Absent buckets) = absent buckets
heard Broken = broken

heard_told : (p : Probed) → p ≡ heard (told p)
heard_told (found s n) = refl
heard_told (absent n) = refl
heard_told broken = refl

pub told_end : (r : Probe) (p : Probed) → r ≡ told p → p ≡ heard r
told_end r p e = heard_told p ∙ ap heard (sym e)

-- what the probe ended in, by its report
pub reported_end : (s : Shape) (image key : List ℕ) (r : Report) → r ≡ report_of s image key → (end : Probe) → r.end ≡ end → probe_of s image key ≡ heard end
unfolding report_of report probe_of
reported_end s image key r e end is = told_end end _ (sym is ∙ ap (λ (x : Report). x.end) e)

module _ (s : Shape) (image key : List ℕ) where
  -- a slot that the probe found is below highwater
  pub found_below : (n count : ℕ) → probe_of s image key ≡ found n count → n < s.slot_highwater
  unfolding probe_of table_of
  found_below n count e = (found_run (table_of s image) key n count e).last.below

  -- a key of another length
  pub looked_other : (length key ≡ s.layout.key_size → ⊥) → nothing invalid_input ≡ lookup_in s image key
  unfolding lookup_in
  looked_other differs = rw (ne_eqb (length key) s.layout.key_size differs)

  -- a key of that length, by what the probe ends in
  pub looked_by : length key ≡ s.layout.key_size → (p : Probed) → probe_of s image key ≡ p → lookup_by s image p ≡ lookup_in s image key
  unfolding lookup_in
  looked_by e p q = rw (eq-eqb (length key) s.layout.key_size e, q)

  -- the slot that lookup gives with 0 is below highwater
  pub looked_below : (l : Lookup) → l ≡ lookup_in s image key → l.answer ≡ done → l.slot < s.slot_highwater
  unfolding lookup_in
  looked_below l q e = rw q (go (eqb (length key) s.layout.key_size) (probe_of s image key) refl (rw q at e))
    where
      go : (equal : Bool) (p : Probed) → probe_of s image key ≡ p → (cond equal (lookup_by s image p) (nothing invalid_input)).answer ≡ done
          → (cond equal (lookup_by s image p) (nothing invalid_input)).slot < s.slot_highwater
      go false p q e = absurd (omega arith)
      go true (found n count) q e = found_below n count q
      go true (absent n) q e = absurd (omega arith)
      go true broken q e = absurd (omega arith)

module _ (o : Options) (image key : List ℕ) where
  -- lookup after the header test
  pub looked_fit : done ≡ header_test o image → lookup_in (shape_of image) image key ≡ lookup_of o image key
  unfolding lookup_of
  looked_fit passing = after_done (header_test o image) (lookup_in (shape_of image) image key) nothing passing

  pub looked_refused :
      (x : Result code.Found Refusal) (r : Refusal) → IsErrAnd x (λ y. y ≡ r) → number r ≡ header_test o image
      → looked x ≡ lookup_of o image key
  unfolding lookup_of
  looked_refused (Ok f) r same refused = elim same [ ]
  looked_refused (Err e) r same refused =
      ap (λ (r : Refusal). nothing (number r)) same ∙ after_refusal (header_test o image) _ nothing r refused

  -- the index of the slot found, or none
  pub index_found :
      (l : Lookup) → l ≡ lookup_of o image key → l.answer ≡ done
      → index_of (shape_of image).layout image l.slot ≡ index_part o image key
  unfolding index_part
  index_found l q z = rw (← q, eq-eqb l.answer done z)

  pub index_none : (l : Lookup) → l ≡ lookup_of o image key → (l.answer ≡ done → ⊥) → [] ≡ index_part o image key
  unfolding index_part
  index_none l q other = rw (← q, ne_eqb l.answer done other)

  -- and so where the code returns why there is none
  pub no_index :
      {A : Type 0} (x : Result A Refusal) (l : Lookup) → l ≡ lookup_of o image key → (l.answer ≡ done → ⊥)
      → IfErr x (λ r. [] ≡ index_part o image key)
  no_index (Ok a) l q other = tt
  no_index (Err r) l q other = index_none l q other

-- a key that is not live in a sound table is absent
pub not_live : (s : Shape) (image : List ℕ) → Sound (table_of s image) → (key : List ℕ) → is_live s image key ≡ false
    → (count : ℕ) × (probe_of s image key ≡ absent count)
unfolding is_live probe_of
not_live s image sound key e = go (probe_of s image key) e refl
  where
    go : (p : Probed) → is_found p ≡ false → probe_of s image key ≡ p → (count : ℕ) × (probe_of s image key ≡ absent count)
    go (found n count) f q = absurd (not_both refl f)
    go (absent count) f q = (count, q)
    go broken f q = absurd (never_broken (table_of s image) sound key q)
