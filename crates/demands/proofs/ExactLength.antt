-- Images of exact length: what passes has the total's, and any other is refused.
-- Assumes nothing.
use Prim.Native.Nat.{ℕ, zero, suc, ◌≤◌, ◌<◌}
use mathlib.Core.Bool.{true, or-true}
use mathlib.Core.Path.{◌≡◌, refl, sym, ap, ◌∙◌, fun_ext}
use mathlib.Core.List.{List, [], ◌∷◌, ◌++◌, append_assoc}
use native.Mathlib.Omega.{arith}
use native.Mathlib.Decide.{dec_lt}
use borrow.Author.Tests.{ne_eqb, lt-ltb, le-ltb}
use lib.ListN.{length, take, drop, length-append, length-drop, take-append-drop}
use lib.Seq.{length-take-le, take-append-le, drop-append-le}
use Rattle.numbers.proofs.Put.{part_append}
use Rattle.digests.specs.Crc.{header_crc}
use Rattle.header.specs.declared.options.Options.{Options}
use Rattle.header.specs.Answer.{needs_rebuild}
use Rattle.header.specs.Fields.{field_of, bytes_in, value}
use Rattle.header.specs.FirstOf.{first_of}
use Rattle.header.specs.HeaderTest.{test1, create_test1, test2, test3, test4, test5, test6, test7, test8, test9, image_total, test10, test11, test12, header_tests, header_test, shape_of, after_test}
use Rattle.header.specs.Open.{open_of}
use Rattle.header.specs.Sizes.{total_size}
use Rattle.header.proofs.Firsts.{first_none, first_stops}
use Rattle.header.proofs.Fit.{fit_total}
use Rattle.header.proofs.PassedTests.{length_passed, create_role}
use Rattle.header.proofs.Stages.{staged, passes}
use Rattle.image.specs.Lookup.{Lookup, nothing, lookup_in, lookup_of, index_part}
use Rattle.image.specs.Check.{check_of}
use Rattle.listing.specs.Scan.{scan_of}
use Rattle.listing.specs.Match.{match_of}
use Rattle.writing.specs.Write.{Written, unless}
use Rattle.writing.specs.Create.{create_tests, fresh, create_of}
use Rattle.writing.specs.State.{begin_of, checkpoint_of, invalidate_of}
use Rattle.writing.proofs.Answers.{answers}
use Rattle.writing.proofs.Fresh.{fresh_header}
use Rattle.writing.proofs.Making.{by_length}
use Rattle.writing.proofs.OneField.{in_header}
use Rattle.writing.proofs.Tests.{past}
use Rattle.writing.proofs.Tests as tests
use Rattle.host.specs.UserData.{user_data_of}
use Rattle.header.proofs.After.{after_failed}
use Rattle.demands.specs.Demand1.{Judges, LeavesAlone}
use Rattle.demands.specs.Before.{nine}
use Rattle.demands.specs.ExactLength.{number, OtherLength, unchanged, ExactLength}
use Rattle.demands.specs.History.{Word, writer, fresh_in}
use Rattle.demands.specs.Owes.{written}
use Rattle.demands.proofs.Created.{create_allowed, create_left, fresh_in_lem}
use Rattle.demands.proofs.Demand1.{demand1}
use Rattle.demands.proofs.HistoryInvariant.{writer_header, held}

exact : (o : Options) (image : List ℕ) → header_test o image ≡ 0 → length image ≡ image_total image
exact o image z = fit_total o image z

-- the header test, with the tests from the tenth on apart
apart : (o : Options) (image : List ℕ) → header_test o image ≡ first_of (nine o image ++ (test10 image ++ (test11 image ++ test12 o image)))
unfolding header_test header_tests
apart o image = simp append_assoc

module _ (o : Options) (image : List ℕ) where
  module _ (other : length image ≡ image_total image → ⊥) where
    tenth : first_of (test10 image ++ (test11 image ++ test12 o image)) ≡ needs_rebuild
    unfolding test10 first_of
    tenth = rw (ne_eqb (length image) (image_total image) other, or-true) refl

    header : header_test o image ≡ number o image
    unfolding first_of
    header = apart o image ∙ tests.behind (nine o image) (test10 image ++ (test11 image ++ test12 o image)) ((true, needs_rebuild) ∷ []) (λ none. tenth)

    some_number : number o image ≡ 0 → ⊥
    unfolding first_of test1 test2 test3 test4 test5 test6 test7 test8 test9
    some_number z = let one = (first_none (nine o image) ((true, needs_rebuild) ∷ []) tt z).1 in omega (arith, one)

    -- a call that goes on behind the header test does not
    read : {A : Type 0} (go : A) (refuse : ℕ → A) → after_test (header_test o image) go refuse ≡ refuse (number o image)
    read go refuse = rw header (after_failed go refuse (number o image) some_number)

  lookup : (key : List ℕ) → (length image ≡ image_total image → ⊥) → lookup_of o image key ≡ nothing (number o image)
  unfolding lookup_of
  lookup key other = read other (lookup_in (shape_of image) image key) nothing

  index : (key : List ℕ) → (length image ≡ image_total image → ⊥) → index_part o image key ≡ []
  index key other =
      (demand1.lookup_empty o image key (λ z. some_number other (sym (ap (λ (l : Lookup). l.answer) (lookup key other)) ∙ z))).2

-- a call that writes answers the number, and changes nothing
writes : {numbers : List ℕ} (call : Options → List ℕ → Written) → Judges numbers (λ o image. (call o image).answer)
    → ((o : Options) (image : List ℕ) → LeavesAlone image (call o image)) → OtherLength call unchanged
writes call judges leaves o image other =
    let refuses : header_test o image ≡ 0 → ⊥ = λ z. some_number o image other (sym (header o image other) ∙ z) in
    let answer = judges.header o image refuses ∙ header o image other in
    let left = leaves o image (λ z. some_number o image other (sym answer ∙ z)) in
    λ i. written (answer i) (left i)

-- bytes behind an image that has a header
module _ (o : Options) (image more : List ℕ) (long : 256 ≤ length image) where
  same_fields : bytes_in (image ++ more) ≡ bytes_in image
  unfolding bytes_in
  same_fields = fun_ext (λ m. part_append image more (field_of m).offset (field_of m).width (omega (arith, in_header m)))

  same_crc : header_crc (image ++ more) ≡ header_crc image
  unfolding header_crc
  same_crc = rw (take-append-le 256 image more long) refl

  still_long : 256 ≤ length (image ++ more)
  still_long = omega (arith, length-append image more)

  same_second : test2 (image ++ more) ≡ test2 image
  unfolding test2
  same_second =
      let long' = still_long in
      rw (ne_eqb (length (image ++ more)) 0 (λ e. omega arith), le-ltb (length (image ++ more)) 256 long', ne_eqb (length image) 0 (λ e. omega arith), le-ltb (length image) 256 long) refl

  -- the tests before the tenth don't see them
  same_nine : nine o (image ++ more) ≡ nine o image
  unfolding test3 test4 test5 test6 test7 test8 test9 value
  same_nine = rw (same_second, same_fields, same_crc) refl

  same_total : image_total (image ++ more) ≡ image_total image
  unfolding image_total value
  same_total = rw same_fields refl

-- where the header test passes, none of the tests before the tenth holds
none_of_nine : (o : Options) (image : List ℕ) → header_test o image ≡ 0 → first_of (nine o image) ≡ 0
unfolding test1 test2 test3 test4 test5 test6 test7 test8 test9
none_of_nine o image z = (first_none (nine o image) _ tt (sym (apart o image) ∙ z)).0

-- and where none of them holds, another length is 1
is_one : (o : Options) (image : List ℕ) → (length image ≡ image_total image → ⊥) → first_of (nine o image) ≡ 0 → header_test o image ≡ needs_rebuild
unfolding first_of test1 test2 test3 test4 test5 test6 test7 test8 test9
is_one o image other none = header o image other ∙ past (nine o image) ((true, needs_rebuild) ∷ []) tt none

behind : (o : Options) (image more : List ℕ) → header_test o image ≡ 0 → 1 ≤ length more → header_test o (image ++ more) ≡ needs_rebuild
behind o image more z some =
    let size = exact o image z in
    let long = length_passed image (passes o image z).second in
    is_one o (image ++ more) (λ e. omega (arith, length-append image more, same_total o image more long))
    (ap first_of (same_nine o image more long) ∙ none_of_nine o image z)

-- an image without its end: it may have lost a part of the header too
module _ (o : Options) (image : List ℕ) (n : ℕ) (z : header_test o image ≡ 0) (some : 1 ≤ n) (fewer : n < image_total image) where
  abbrev short : List ℕ
  short = take n image

  short_length : length short ≡ n
  short_length = length-take-le n image (omega (arith, exact o image z))

  second_holds : n < 256 → needs_rebuild ≡ first_of (test2 short)
  unfolding test2 first_of
  second_holds l = rw (short_length, ne_eqb n 0 (λ e. omega arith), lt-ltb n 256 l) refl

  cut : header_test o short ≡ needs_rebuild
  unfolding test1
  cut = go (dec_lt n 256)
    where
      go : Dec (n < 256) → header_test o short ≡ needs_rebuild
      go (yes l) =
          staged o short
          ∙ past (test1 o) _ tt (passes o image z).first
          ∙ sym (first_stops (test2 short) _ (second_holds l) (λ e. omega arith))
      go (no l) =
          let long : 256 ≤ length short = omega (arith, short_length) in
          let whole = sym (same_total o short (drop n image) long) ∙ ap image_total (take-append-drop n image) in
          is_one o short (λ e. omega (arith, short_length, whole))
          (sym (ap first_of (same_nine o short (drop n image) long))
          ∙ ap (λ (i : List ℕ). first_of (nine o i)) (take-append-drop n image)
          ∙ none_of_nine o image z)

accepts : (o : Options) (buffer : List ℕ) → first_of (create_test1 o) ≡ 0 → total_size o ≤ length buffer → (create_of o buffer).answer ≡ 0
unfolding create_of first_of
accepts o buffer first long =
    answers buffer (fresh o ++ drop (total_size o) buffer) (first_of (create_tests o buffer))
    ∙ by_length o buffer (sym first) refl
    ∙ rw (le-ltb (length buffer) (total_size o) long) refl

-- a longer buffer
module _ (o : Options) (buffer more : List ℕ) (size : length buffer ≡ total_size o) where
  same_tests : create_tests o (buffer ++ more) ≡ create_tests o buffer
  unfolding create_tests
  same_tests =
      rw (le-ltb (length (buffer ++ more)) (total_size o) (omega (arith, length-append buffer more)), le-ltb (length buffer) (total_size o) (omega arith)) refl

  same_left : fresh o ++ drop (total_size o) (buffer ++ more) ≡ fresh o ++ drop (total_size o) buffer ++ more
  same_left =
      ap (λ (l : List ℕ). fresh o ++ l) (drop-append-le (total_size o) buffer more (omega arith))
      ∙ sym (append_assoc (fresh o) (drop (total_size o) buffer) more)

  create : create_of o (buffer ++ more) ≡ written (create_of o buffer).answer ((create_of o buffer).image ++ more)
  unfolding create_of
  create = rw (same_tests, same_left) (go (first_of (create_tests o buffer)))
    where
      left : List ℕ
      left = fresh o ++ drop (total_size o) buffer

      go : (n : ℕ) → unless n (buffer ++ more) (left ++ more) ≡ written (unless n buffer left).answer ((unless n buffer left).image ++ more)
      go zero = refl
      go (suc n) = refl

-- what create wrote, lent alone and with all of the buffer
module _ (o : Options) (buffer : List ℕ) (version : Word o.user_version) (a : (create_of o buffer).answer ≡ 0) where
  fresh_opens : header_test o (fresh o) ≡ 0
  fresh_opens = let first = create_allowed o buffer a in fresh_header o first version o.role (create_role o first)

  lent : header_test o (fresh_in o buffer) ≡ 0
  lent = rw (fresh_in_lem o buffer a) fresh_opens

  not_lent : total_size o < length buffer → header_test o (create_of o buffer).image ≡ needs_rebuild
  not_lent longer =
      rw (create_left o buffer a)
      (behind o (fresh o) (drop (total_size o) buffer) fresh_opens (omega (arith, length-drop (total_size o) buffer)))

pub exact_length : ExactLength
unfolding open_of check_of scan_of match_of user_data_of total_size
exact_length =
    record {
      exact = exact;
      header = header;
      open_check = λ o image other. read o image other _ _;
      lookup = λ key o image. lookup o image key;
      index = λ key o image. index o image key;
      check = λ o image other. read o image other _ _;
      scan = λ skip limit numbers o image other. read o image other _ _;
      match = λ offset bits pattern skip limit numbers o image other. read o image other _ _;
      begin = writes begin_of demand1.begin_judges demand1.begin_leaves;
      checkpoint = writes checkpoint_of demand1.checkpoint_judges demand1.checkpoint_leaves;
      invalidate = writes invalidate_of demand1.invalidate_judges demand1.invalidate_leaves;
      set_user_fields = λ fields. writes _ (demand1.user_judges fields) (λ o image. demand1.user_leaves o image fields);
      commit = λ batch. writes _ (demand1.commit_judges batch) (λ o image. demand1.commit_leaves o image batch);
      user_data = λ out o image other. read o image other _ _;
      user_slice = λ flags bytes.
          writes _ (demand1.user_slice_judges flags bytes) (λ o image. demand1.user_slice_leaves o image flags bytes);
      behind = behind;
      cut = cut;
      accepts = accepts;
      create = create;
      lent = lent;
      not_lent = not_lent;
      histories = λ {o} {image} h. exact (writer o) image (writer_header (held h));
    }
