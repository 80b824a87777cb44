-- Whether an image passes the full check, by what its buckets and slots say, and the answer for it.
-- Assumes nothing.
use Prim.Native.Nat.{ℕ}
use mathlib.Core.Path.{◌≡◌, refl, sym, ap, ◌∙◌}
use mathlib.Core.Bool.{Bool, true, false, cond, not, ◌&&◌, ◌||◌}
use mathlib.Core.List.{List}
use borrow.Author.Tests.{eq-eqb, ne_eqb}
use lib.Dec.{eqb}
use Rattle.std.specs.Prelude.{Result, Ok, Err, IsErrAnd}
use Rattle.std.specs.Result.{is_ok}
use Rattle.probing.specs.Table.{live_count, full_count, tombstone_count}
use Rattle.probing.specs.Check.{buckets_right, metas_right, each_found, counts_equal, never_fall, checks, probes}
use Rattle.header.specs.declared.options.Options.{Options}
use Rattle.header.specs.declared.refusal.Refusal.{Refusal}
use Rattle.header.specs.declared.shape.Shape.{Shape}
use Rattle.header.specs.Answer.{needs_rebuild, number}
use Rattle.header.specs.HeaderTest.{header_test}
use Rattle.header.proofs.After.{after_refusal}
use Rattle.header.proofs.Firsts.{number_not_done}
use Rattle.image.specs.declared.check.Counts.{Counts}
use Rattle.image.specs.declared.check.BucketTally.{BucketTally}
use Rattle.image.specs.declared.check.SlotTally.{SlotTally}
use Rattle.image.specs.Table.{table_of}
use Rattle.image.specs.Tally.{buckets_to, slots_to}
use Rattle.image.specs.Check.{Checked, failed, checked, passes, check_in, check_of}

-- one of two answers, of which the first is 0 and the second is not
chosen : (p : Bool) (y : Checked) → y.answer ≡ 0 → eqb (cond p y (failed needs_rebuild)).answer 0 ≡ p
chosen true y e = eq-eqb _ _ e
chosen false y e = refl

module _ (s : Shape) (image : List ℕ) where
  module _ (y : BucketTally) (z : SlotTally) (ey : y ≡ buckets_to (table_of s image) s.layout.bucket_count) (ez : z ≡ slots_to (table_of s image) s.slot_highwater) where
    -- the tests that the code makes are those of the full check
    pub tests_passes :
        (order : Bool) → order ≡ not s.layout.ordered || never_fall (table_of s image)
        → y.right && z.metas && z.found
        && (eqb z.live s.live_count && eqb y.full s.live_count && eqb y.tombstones s.bucket_tombstones)
        && order
        ≡ passes s image
    unfolding passes checks buckets_right metas_right each_found counts_equal live_count full_count tombstone_count buckets_to slots_to table_of
    tests_passes order eo = rw (ey, ez, eo)

    -- the sum is that of the lookup counts over live keys
    pub tally_probes : z.probes ≡ probes (table_of s image)
    unfolding probes slots_to table_of
    tally_probes = rw ez

  -- the answer for an image that passes, and for one that does not
  pub check_passed :
      passes s image ≡ true
      → record { answer = 0; live = s.live_count; tombstones = s.bucket_tombstones; probes = probes (table_of s image) }
      ≡ check_in s image
  unfolding check_in
  check_passed e = rw e

  pub check_failed : passes s image ≡ false → failed needs_rebuild ≡ check_in s image
  unfolding check_in
  check_failed e = rw e

  -- the answer is 0 just where it passes
  pub answer_passes : eqb (check_in s image).answer 0 ≡ passes s image
  unfolding check_in
  answer_passes = chosen (passes s image) _ refl

  -- and the code's is Ok
  pub ok_passes : (r : Result Counts Refusal) → checked r ≡ check_in s image → is_ok r ≡ passes s image
  ok_passes (Ok c) e = ap (λ (x : Checked). eqb x.answer 0) e ∙ answer_passes
  ok_passes (Err r) e = sym (ne_eqb (number r) 0 (number_not_done r)) ∙ ap (λ (x : Checked). eqb x.answer 0) e ∙ answer_passes

-- the full check of an image that the header test refuses
pub checked_refused :
    (o : Options) (image : List ℕ) (x : Result Counts Refusal) (r : Refusal) → IsErrAnd x (λ y. y ≡ r) → number r ≡ header_test o image
    → checked x ≡ check_of o image
unfolding check_of
checked_refused o image (Ok c) r same refused = elim same [ ]
checked_refused o image (Err e) r same refused =
    ap (λ (r : Refusal). failed (number r)) same ∙ after_refusal (header_test o image) _ failed r refused
