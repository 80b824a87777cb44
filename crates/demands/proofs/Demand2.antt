-- The second demand.
-- Assumes nothing.
use Prim.Native.Nat.{ℕ, zero, suc}
use mathlib.Core.Path.{◌≡◌, refl, sym, ap, ◌∙◌}
use mathlib.Core.Bool.{Bool, true, false}
use mathlib.Core.Logic.{◌↔◌}
use mathlib.Core.List.{List, [], ◌∷◌}
use mathlib.Core.Option.{some}
use native.Mathlib.Omega.{arith}
use lib.Dec.{T}
use Rattle.header.specs.declared.options.Options.{Options}
use Rattle.header.specs.declared.open.UserFields.{UserFields}
use Rattle.header.specs.Fields as F
use Rattle.header.specs.Fields.{value}
use Rattle.header.specs.FirstOf.{first_of}
use Rattle.header.specs.State.{CLEAN, with_role}
use Rattle.header.specs.HeaderTest.{header_tests, header_test, shape_of, test1, test2, test3, test4, test5, test6, test7, test8, test9, test10, test11, test12}
use Rattle.header.specs.Answer.{done}
use Rattle.header.specs.Open.{open_of}
use Rattle.header.proofs.Firsts.{named}
use Rattle.header.proofs.Fit.{fit_key_size}
use Rattle.image.specs.Lookup.{lookup_of, index_part}
use Rattle.image.proofs.FullCheck.{Whole, passes_whole, whole_passes, full_check_law}
use Rattle.listing.specs.Scan.{matches, list, scan_of}
use Rattle.listing.specs.Match.{agrees, bits_compared, match_of}
use Rattle.probing.proofs.Keys.{clash}
use Rattle.writing.specs.Create.{fresh_fields, create_of}
use Rattle.writing.specs.State.{writing_tests, clean_test, generation_test, user_tests}
use Rattle.writing.proofs.Answers.{answers, accepted}
use Rattle.writing.proofs.Became.{invalidated_header}
use Rattle.writing.proofs.Fresh.{fresh_value}
use Rattle.writing.proofs.StateLaws.{checkpoint_became, invalidate_became}
use Rattle.soundness.specs.Apply.{committed}
use Rattle.soundness.specs.Commit.{sound_tests, room_tests, further_tests, commit_tests, commit_of}
use Rattle.maps.specs.Map.{Entry, Map, map_of}
use Rattle.maps.proofs.ReadsMap.{lookup_some, lookup_none}
use Rattle.demands.specs.History.{Word, writer, fresh_in}
use Rattle.demands.specs.Demand2.{ReadsBack, NoneHolds, Demand2}
use Rattle.demands.specs.Listings.{RightPattern, Roomy, Lists, Piece}
use Rattle.demands.specs.Shows.{Shows}
use Rattle.demands.proofs.Belongs.{belongs}
use Rattle.demands.proofs.Created.{create_allowed, create_left, fresh_in_lem}
use Rattle.demands.proofs.HistoryInvariant.{Held, writer_header, checkpoint_done, begin_done, held}
use Rattle.demands.proofs.Patterns.{match_list}
use Rattle.demands.proofs.Pieces.{pieces}
use Rattle.demands.proofs.ReadMap.{key_sized}
use Rattle.demands.proofs.Scanned.{few, lists_map}

-- scan and match where the header test passes
module _ (o : Options) (image : List ℕ) (z : header_test o image ≡ 0) where
  scan_list : (skip limit : ℕ) (numbers : List ℕ)
      → scan_of o image skip limit numbers ≡ list (matches (shape_of image) image (λ key. true)) skip limit numbers
  unfolding scan_of
  scan_list skip limit numbers = rw z refl

  -- a listing against one that leaves none out
  listed_piece : (wanted : List ℕ → Bool) (most : ℕ) (room : List ℕ) → Roomy image most room → (skip limit : ℕ) (numbers : List ℕ)
      → Piece (list (matches (shape_of image) image wanted) 0 most room) skip limit numbers
      (list (matches (shape_of image) image wanted) skip limit numbers)
  listed_piece wanted most room roomy =
      let fits = few o image z wanted in
      pieces (matches (shape_of image) image wanted) most room (omega (arith, fits, roomy.high)) (omega (arith, fits, roomy.long))

  scanned_piece : (most : ℕ) (room : List ℕ) → Roomy image most room → (skip limit : ℕ) (numbers : List ℕ)
      → Piece (scan_of o image 0 most room) skip limit numbers (scan_of o image skip limit numbers)
  scanned_piece most room roomy skip limit numbers =
      rw (scan_list 0 most room, scan_list skip limit numbers) (listed_piece (λ key. true) most room roomy skip limit numbers)

  matched_piece : (offset bits : ℕ) (pattern : List ℕ) → RightPattern o offset bits pattern
      → (most : ℕ) (room : List ℕ) → Roomy image most room → (skip limit : ℕ) (numbers : List ℕ)
      → Piece (match_of o image offset bits pattern 0 most room) skip limit numbers
      (match_of o image offset bits pattern skip limit numbers)
  matched_piece offset bits pattern right most room roomy skip limit numbers =
      rw (match_list o image z offset bits pattern right 0 most room, match_list o image z offset bits pattern right skip limit numbers)
      (listed_piece (agrees offset (bits_compared bits pattern) pattern) most room roomy skip limit numbers)

module _ {o : Options} {image : List ℕ} {m : Map} {fields : UserFields} (h : Held o image m fields) where
  pub writer_whole : Whole (writer o) image
  writer_whole = passes_whole (writer o) image (writer_header h) h.passed

  module _ (role : ℕ) (z : header_test (with_role o role) image ≡ 0) where
    abbrev o' : Options
    o' = with_role o role

    whole : Whole o' image
    whole = passes_whole o' image z h.passed

    mapped : (key : List ℕ) → map_of (shape_of image) image key ≡ m key
    mapped key = ap (λ (f : Map). f key) h.map

    -- a key of the map is looked up, and the slot that is then given shows it
    looked : (key : List ℕ) (e : Entry) → m key ≡ some e
        → ((lookup_of o' image key).answer ≡ done) × ((lookup_of o' image key).revision ≡ e.revision) × (index_part o' image key ≡ e.index)
        × Shows o' image (lookup_of o' image key).slot key e
    looked key e q =
        let there = mapped key ∙ q in
        let l = lookup_some o' image key z (key_sized o' image z whole.sound key e there) whole.sound e there in
        let same : record { revision = (lookup_of o' image key).revision; index = index_part o' image key } ≡ e =
        λ i. record { revision = l.1 i; index = l.2 i } in
        (l.0, l.1, l.2, rw same at (belongs o' image key l.0))

    listed : (wanted : List ℕ → Bool) (limit : ℕ) (numbers : List ℕ) → Roomy image limit numbers
        → Lists o' image m wanted (list (matches (shape_of image) image wanted) 0 limit numbers)
    listed wanted limit numbers roomy = rw (sym h.map) (lists_map o' image z wanted whole.sound limit numbers roomy)

    pub reads_back : ReadsBack o' image m fields
    unfolding open_of
    reads_back =
        record {
          has = looked;
          lacks =
              λ key size q. (lookup_none o' image key z (size ∙ sym (fit_key_size o' image z)) whole.sound (mapped key ∙ q)).0;
          scans = λ limit numbers roomy. rw (scan_list o' image z 0 limit numbers) (listed (λ key. true) limit numbers roomy);
          matches = λ offset bits pattern right limit numbers roomy.
              rw (match_list o' image z offset bits pattern right 0 limit numbers) (listed (agrees offset (bits_compared bits pattern) pattern) limit numbers roomy);
          opens = rw (z, h.user) refl;
        }

-- tests none of which gives 0 give 0 just where none holds
none_holds : (ts : List (Bool × ℕ)) → T (named ts) → (first_of ts ≡ 0) ↔ NoneHolds ts
unfolding first_of
none_holds [] t = (λ e. tt, λ h. refl)
none_holds ((true, zero) ∷ ts) t = absurd t
none_holds ((true, suc n) ∷ ts) t = (λ e. absurd (omega arith), λ h. clash (cc h.0))
none_holds ((false, zero) ∷ ts) t = absurd t
none_holds ((false, suc n) ∷ ts) t = (λ e. (refl, (none_holds ts t).0 e), λ h. (none_holds ts t).1 h.1)

module _ (o : Options) (image batch : List ℕ) where
  commit_answers : (commit_of o image batch).answer ≡ first_of (commit_tests o image batch)
  unfolding commit_of
  commit_answers = answers image (committed (shape_of image) image batch) (first_of (commit_tests o image batch))

  commit_left : (commit_of o image batch).answer ≡ 0 → (commit_of o image batch).image ≡ committed (shape_of image) image batch
  unfolding commit_of
  commit_left a =
      accepted image (committed (shape_of image) image batch) (first_of (commit_tests o image batch)) (sym commit_answers ∙ a)

  commit_named : T (named (commit_tests o image batch))
  unfolding commit_tests user_tests writing_tests header_tests test1 test2 test3 test4 test5 test6 test7 test8 test9 test10 test11 test12 clean_test generation_test further_tests sound_tests room_tests
  commit_named = tt

fresh_is_clean : (o : Options) (buffer : List ℕ) → Word o.user_version → (create_of o buffer).answer ≡ 0 → value (fresh_in o buffer) F.state ≡ CLEAN
unfolding fresh_fields
fresh_is_clean o buffer version a =
    rw (fresh_in_lem o buffer a) (fresh_value o (create_allowed o buffer a) version F.state tt)

pub demand2 : Demand2
demand2 =
    record {
      reads = λ h role z. reads_back (held h) role z;
      scan_pieces = scanned_piece;
      match_pieces = matched_piece;
      passes_dirty = λ h. (held h).dirty;
      passes_clean = λ h. (held h).clean;
      fresh_clean = fresh_is_clean;
      fresh_bytes = create_left;
      bytes = commit_left;
      refusals = commit_answers;
      only_then =
          λ o image batch.
          let iff = none_holds (commit_tests o image batch) (commit_named o image batch) in
          (λ a. iff.0 (sym (commit_answers o image batch) ∙ a), λ n. commit_answers o image batch ∙ iff.1 n);
      checks = λ {o} {image} h. (full_check_law (writer o) image).1 (writer_whole (held h));
      check_passes =
          λ o image.
          let law = full_check_law o image in
          (λ a. let w = law.0 a in (w.header, whole_passes o image w), λ p. law.1 (passes_whole o image p.0 p.1));
      begins = λ h. begin_done (held h);
      checkpoints =
          λ {o} {image} h.
          let done = checkpoint_done (held h) in
          (done, (checkpoint_became (writer o) image (held h).bytes done).in_state_lem);
      invalidates = λ {o} {image} h a role low. invalidated_header (invalidate_became (writer o) image (held h).bytes a) role low;
    }
