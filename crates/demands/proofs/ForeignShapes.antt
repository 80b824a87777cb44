-- Images of any shape: capacity 0 gives what the header's capacity gives, test 9 admits every such B, and commits act on them.
-- Assumes nothing.
use Prim.Native.Nat.{ℕ, zero, suc, ◌+◌, ◌^◌, ◌≤◌, ◌<◌}
use mathlib.Core.Bool.{Bool, true, false, ◌&&◌, and-false}
use mathlib.Core.Path.{◌≡◌, refl, sym, ap, ◌∙◌}
use mathlib.Core.List.{List, ◌++◌, append_assoc}
use native.Mathlib.Decide.{dec_le}
use native.Mathlib.Omega.{arith}
use borrow.Author.Tests.{le-leb, lt-leb, lt-ltb, le-ltb, eq-eqb, ne_eqb}
use lib.Dec.{leb}
use lib.ListN.{length}
use Rattle.numbers.specs.Bytes.{Bytes}
use Rattle.header.specs.declared.options.Options.{Options}
use Rattle.header.specs.declared.shape.Shape.{Shape}
use Rattle.header.specs.Answer.{needs_rebuild, incompatible, invalid_input}
use Rattle.header.specs.Extent.{no_extent, extent_of}
use Rattle.header.specs.Fields as F
use Rattle.header.specs.Fields.{value}
use Rattle.header.specs.FirstOf.{first_of}
use Rattle.header.specs.HeaderTest.{power_of_two, test1, create_test1, test2, test3, test4, test5, test6, test7, test8, test9, image_total, test10, test11, test12, header_tests, header_test, layout_of, shape_of}
use Rattle.header.specs.Open.{open_of}
use Rattle.header.specs.Sizes.{most_slot_capacity, most_bucket_count, sizes_to_open, sizes_to_create, capacity_fits, bucket_count, total_size}
use Rattle.header.proofs.Firsts.{first_none}
use Rattle.header.proofs.Fit.{fit_capacity, fit_given, fit_powered, fit_total}
use Rattle.header.proofs.PassedTests.{length_passed, counters_passed, create_role}
use Rattle.header.proofs.Power.{power_true, true_power}
use Rattle.header.proofs.Stages.{passes}
use Rattle.image.specs.Lookup.{lookup_of, index_part}
use Rattle.image.specs.Check.{check_of}
use Rattle.image.specs.Table.{table_of}
use Rattle.image.proofs.FullCheck.{passes_whole, full_check_law}
use Rattle.listing.specs.Scan.{scan_of}
use Rattle.listing.specs.Match.{match_of}
use Rattle.writing.specs.Write.{Written}
use Rattle.writing.specs.Create.{create_tests, fresh_fields, fresh, create_of}
use Rattle.writing.specs.State.{writing_tests, user_tests, invalidate_tests, begin_of, checkpoint_of, invalidate_of, set_user_fields_of}
use Rattle.writing.proofs.Answers.{answers}
use Rattle.writing.proofs.Values.{value_bound}
use Rattle.writing.proofs.Fresh.{fresh_header, fresh_length, fresh_value}
use Rattle.writing.proofs.Lasting.{Kept}
use Rattle.writing.proofs.LastingTable.{kept_shape}
use Rattle.writing.proofs.StateLaws.{begin_became, checkpoint_became, invalidate_became}
use Rattle.writing.proofs.Tests.{past}
use Rattle.writing.proofs.UserLaws.{user_became}
use Rattle.soundness.specs.Apply.{committed}
use Rattle.soundness.specs.Commit.{commit_tests, commit_of}
use Rattle.soundness.proofs.Accepted.{accepted_facts}
use Rattle.soundness.proofs.Committed.{shape_after, accepted_commit}
use Rattle.host.specs.UserData.{user_data_of, set_user_fields_from}
use Rattle.header.proofs.After.{after_failed}
use Rattle.maps.specs.Map.{applied}
use Rattle.maps.proofs.MapLaw.{commit_map}
use Rattle.demands.specs.Before.{seven, eight}
use Rattle.demands.specs.Demand1.{LeavesAlone}
use Rattle.demands.specs.ForeignShapes.{with_capacity, capacity_in, buckets_in, Within, PowerOfTwo, Commits, ForeignShapes}
use Rattle.demands.specs.History.{Word, fresh_in}
use Rattle.demands.specs.Owes.{written}
use Rattle.demands.proofs.Created.{create_allowed, fresh_in_lem}
use Rattle.demands.proofs.Demand1.{demand1}
use Rattle.demands.proofs.ReadMap.{read_map}

-- capacity 0 against the header's capacity
module _ (o : Options) (image : List ℕ) (w : Within image) where
  abbrev zeroed : Options
  zeroed = with_capacity o 0

  abbrev named : Options
  named = with_capacity o (capacity_in image)

  same_tests : header_tests zeroed image ≡ header_tests named image
  unfolding header_tests test1 test4 test8 test12 sizes_to_open capacity_fits
  same_tests =
      rw (le-leb (capacity_in image) most_slot_capacity w.1, le-leb 1 (capacity_in image) w.0, ne_eqb (capacity_in image) 0 (λ e. omega (arith, w.0)), eq-eqb (capacity_in image) (capacity_in image) refl) refl

  header_test_lem : header_test zeroed image ≡ header_test named image
  unfolding header_test
  header_test_lem = rw same_tests refl

-- a header that says no capacity that an image may have
outside : (image : List ℕ) → (Within image → ⊥) → leb 1 (capacity_in image) && leb (capacity_in image) most_slot_capacity ≡ false
outside image none = go (dec_le 1 (capacity_in image)) (dec_le (capacity_in image) most_slot_capacity)
  where
    go : Dec (1 ≤ capacity_in image) → Dec (capacity_in image ≤ most_slot_capacity)
        → leb 1 (capacity_in image) && leb (capacity_in image) most_slot_capacity ≡ false
    go (no low) high = rw (lt-leb 1 (capacity_in image) (omega arith)) refl
    go (yes low) (no high) = rw (lt-leb (capacity_in image) most_slot_capacity (omega arith), and-false) refl
    go (yes low) (yes high) = absurd (none (low, high))

-- the header test behind the tests that give nothing
module _ (o : Options) (image : List ℕ) where
  abbrev from9 : List (Bool × ℕ)
  from9 = test9 image ++ (test10 image ++ (test11 image ++ test12 o image))

  apart_seven : header_test o image ≡ first_of (seven o image ++ (test8 o image ++ from9))
  unfolding header_test header_tests
  apart_seven = simp append_assoc

  behind_seven : first_of (seven o image) ≡ 0 → header_test o image ≡ first_of (test8 o image ++ from9)
  unfolding test1 test2 test3 test4 test5 test6 test7
  behind_seven none = apart_seven ∙ past (seven o image) (test8 o image ++ from9) tt none

  -- they say that there is a header
  eight_long : first_of (eight o image) ≡ 0 → 256 ≤ length image
  unfolding test1 test2 test3 test4 test5 test6 test7 test8
  eight_long none =
      let second = (first_none (test2 image) _ tt (first_none (test1 o) _ tt (sym assoc ∙ none)).1).0 in
      length_passed image second
    where
      assoc : first_of (eight o image) ≡ first_of (test1 o ++ (test2 image ++ (test3 image ++ (test4 o image ++ (test5 image ++ (test6 image ++ (test7 image ++ test8 o image)))))))
      assoc = simp append_assoc

  apart_eight : header_test o image ≡ first_of (eight o image ++ from9)
  unfolding header_test header_tests
  apart_eight = simp append_assoc

  behind_eight : first_of (eight o image) ≡ 0 → header_test o image ≡ first_of from9
  unfolding test1 test2 test3 test4 test5 test6 test7 test8
  behind_eight none = apart_eight ∙ past (eight o image) from9 tt none

otherwise : (o : Options) (image : List ℕ) → (Within image → ⊥) → first_of (seven (with_capacity o 0) image) ≡ 0
    → header_test (with_capacity o 0) image ≡ incompatible
unfolding test8 capacity_fits first_of
otherwise o image none z = behind_seven (with_capacity o 0) image z ∙ rw (outside image none, and-false) refl

-- test 9
module _ (image : List ℕ) where
  abbrev B : ℕ
  B = buckets_in image

  any_power : PowerOfTwo B → capacity_in image < B → B ≤ most_bucket_count → first_of (test9 image) ≡ 0
  unfolding test9 first_of
  any_power p above most =
      rw (true_power B p.0 p.1 (omega arith), le-ltb most_bucket_count B most, lt-ltb (capacity_in image) B above) refl

  module _ (o : Options) (none : first_of (eight o image) ≡ 0) where
    larger : B < 2 ^ 64 → PowerOfTwo B → most_bucket_count < B → header_test o image ≡ incompatible
    unfolding test9 first_of
    larger bits p more =
        behind_eight o image none ∙ rw (true_power B p.0 p.1 (omega arith), lt-ltb most_bucket_count B more) refl

    any_other : (PowerOfTwo B → capacity_in image < B → ⊥) → (PowerOfTwo B → most_bucket_count < B → ⊥) → header_test o image ≡ needs_rebuild
    unfolding test9 first_of
    any_other low high = behind_eight o image none ∙ go (power_of_two B) refl
      where
        go : (power : Bool) → power_of_two B ≡ power → first_of (from9 o image) ≡ needs_rebuild
        go false e = rw e refl
        go true e =
            let p = power_true B e in
            rw (e, le-ltb most_bucket_count B (omega (arith, high p)), le-ltb (capacity_in image) B (omega (arith, low p))) refl

-- what create makes
sizing : (o : Options) (buffer : List ℕ) → Word o.user_version → (create_of o buffer).answer ≡ 0
    → extent_of o (fresh_in o buffer)
    ≡ record { capacity = o.slot_capacity; buckets = bucket_count o.slot_capacity; total = total_size o }
unfolding extent_of fresh_fields
sizing o buffer version a =
    let first = create_allowed o buffer a in
    let z = fresh_header o first version o.role (create_role o first) in
    let total : image_total (fresh o) ≡ total_size o =
    sym (fit_total o (fresh o) z) ∙ fresh_length o in
    rw (fresh_in_lem o buffer a, z, fresh_value o first version F.slot_capacity_field tt, fresh_value o first version F.bucket_count_field tt, total) refl

create_zero : (o : Options) (buffer : List ℕ) → create_of (with_capacity o 0) buffer ≡ written invalid_input buffer
unfolding create_of create_tests create_test1 sizes_to_create first_of
create_zero o buffer = rw and-false refl

-- an accepted commit
same_layout : (image batch image' : List ℕ) → shape_of image' ≡ shape_after image batch → layout_of image' ≡ layout_of image
unfolding shape_of shape_after
same_layout image batch image' e = ap (λ (s : Shape). s.layout) e

commits : (o : Options) (image batch : List ℕ) → Bytes image → Bytes batch → (commit_of o image batch).answer ≡ 0
    → ((check_of o image).answer ≡ 0) × Commits o image batch (commit_of o image batch).image
unfolding commit_of
commits o image batch bytes records a =
    let z = sym (answers image (committed (shape_of image) image batch) (first_of (commit_tests o image batch))) ∙ a in
    let facts = accepted_facts o image batch z bytes in
    let before = passes_whole o image facts.header facts.passed in
    let c = (accepted_commit o image batch bytes records z).1 in
    let image' = (commit_of o image batch).image in
    let after = c.whole in (
      (full_check_law o image).1 before,
      record {
        map =
            read_map o image' after.header after.sound
            ∙ (λ i k. commit_map o image batch bytes z k i)
            ∙ ap (applied (shape_of image) batch) (sym (read_map o image facts.header before.sound));
        header = after.header;
        checks = (full_check_law o image').1 after;
        layout = same_layout image batch image' c.shape;
      },
    )

-- a call that writes no field of the layout
module _ (image : List ℕ) where
  kept_layout : {image' : List ℕ} → Kept image image' → layout_of image' ≡ layout_of image
  unfolding shape_of
  kept_layout {image'} kept = ap (λ (s : Shape). s.layout) (kept_shape image image' kept)

  keeps : (w : Written) → LeavesAlone image w → (w.answer ≡ 0 → Kept image w.image) → layout_of w.image ≡ layout_of image
  keeps w leaves kept = go w.answer refl
    where
      go : (n : ℕ) → w.answer ≡ n → layout_of w.image ≡ layout_of image
      go zero e = kept_layout (kept e)
      go (suc n) e = ap layout_of (leaves (λ z. omega arith))

-- what the header test passes
module _ (o : Options) (image : List ℕ) (z : header_test o image ≡ 0) where
  within : Within image
  unfolding shape_of layout_of
  within = fit_capacity o image z

  given : (o.slot_capacity ≡ 0 → ⊥) → capacity_in image ≡ o.slot_capacity
  unfolding shape_of layout_of
  given = fit_given o image z

  power : PowerOfTwo (buckets_in image) × (capacity_in image < buckets_in image) × (buckets_in image ≤ most_bucket_count)
  power =
      let p = fit_powered o image z in
      (power_true (buckets_in image) p.power, p.above, p.most)

  never_exceed : (value image F.bucket_used + value image F.bucket_tombstones ≤ value image F.slot_highwater)
      × (value image F.slot_highwater ≤ capacity_in image) × (capacity_in image < buckets_in image)
  never_exceed =
      let c = counters_passed image (passes o image z).eleventh in
      (rw (← c.2) c.0, c.1, power.1)

pub foreign_shapes : ForeignShapes
unfolding open_of no_extent extent_of lookup_of index_part check_of scan_of match_of begin_of checkpoint_of invalidate_of set_user_fields_of commit_of commit_tests user_tests invalidate_tests writing_tests user_data_of set_user_fields_from table_of shape_of layout_of
foreign_shapes =
    record {
      header_test_lem = header_test_lem;
      open_check = λ o image w. rw (header_test_lem o image w) refl;
      extent = λ o image w. rw (header_test_lem o image w) refl;
      lookup = λ key o image w. rw (header_test_lem o image w) refl;
      index = λ key o image w. rw (header_test_lem o image w) refl;
      check = λ o image w. rw (header_test_lem o image w) refl;
      scan = λ skip limit numbers o image w. rw (header_test_lem o image w) refl;
      match = λ offset bits pattern skip limit numbers o image w. rw (header_test_lem o image w) refl;
      begin = λ o image w. rw (same_tests o image w) refl;
      checkpoint = λ o image w. rw (same_tests o image w) refl;
      invalidate = λ o image w. rw (same_tests o image w) refl;
      set_user_fields = λ fields o image w. rw (same_tests o image w) refl;
      commit = λ batch o image w. rw (same_tests o image w) refl;
      user_data = λ out o image w. rw (header_test_lem o image w) refl;
      user_slice = λ flags bytes o image w. rw (same_tests o image w, header_test_lem o image w) refl;
      otherwise = otherwise;
      within = within;
      given = given;
      told = λ o image z. rw z refl;
      not_told = λ o image refuses. after_failed _ (λ n. no_extent) (header_test o image) refuses;
      any_power = any_power;
      power = power;
      larger = λ o image bytes none. larger image o none (value_bound image bytes (eight_long o image none) F.bucket_count_field);
      any_other = λ o image none. any_other image o none;
      sizing = sizing;
      create_zero = create_zero;
      never_exceed = never_exceed;
      empty = λ o image passed. ((full_check_law o image).0 passed).sound.vacant;
      commits = commits;
      begin_keeps = λ o image bytes. keeps image _ (demand1.begin_leaves o image) (λ a. (begin_became o image bytes a).kept);
      checkpoint_keeps = λ o image bytes. keeps image _ (demand1.checkpoint_leaves o image) (λ a. (checkpoint_became o image bytes a).kept);
      invalidate_keeps = λ o image bytes. keeps image _ (demand1.invalidate_leaves o image) (λ a. (invalidate_became o image bytes a).kept);
      user_keeps = λ o image fields bytes h.
          keeps image _ (demand1.user_leaves o image fields) (λ a. (user_became o image bytes fields h.size h.bytes h.flags a).kept);
    }
