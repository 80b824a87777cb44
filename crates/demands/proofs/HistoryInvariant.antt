-- What every image of a history has, and that each call keeps it.
-- Assumes nothing.
use Prim.Native.Nat.{ℕ, ◌≤◌}
use mathlib.Core.Path.{◌≡◌, refl, sym, ap, ◌∙◌}
use mathlib.Core.Bool.{true, and-false}
use mathlib.Core.List.{List}
use native.Mathlib.Omega.{arith}
use borrow.Author.Tests.{ne_eqb}
use lib.Dec.{lit≤}
use lib.ListN.{length}
use Rattle.numbers.specs.Bytes.{Bytes}
use Rattle.header.specs.declared.options.Options.{Options}
use Rattle.header.specs.declared.open.UserFields.{UserFields}
use Rattle.header.specs.declared.shape.Shape.{Shape}
use Rattle.header.specs.Answer.{done}
use Rattle.header.specs.Fields as F
use Rattle.header.specs.Fields.{value}
use Rattle.header.specs.FirstOf.{first_of}
use Rattle.header.specs.State.{CLEAN, INVALIDATED, DIRTY, with_role}
use Rattle.header.specs.HeaderTest.{header_tests, header_test, shape_of}
use Rattle.header.specs.Open.{user_fields, no_fields}
use Rattle.header.proofs.Firsts.{first_after}
use Rattle.header.proofs.PassedTests.{length_passed}
use Rattle.header.proofs.Stages.{header_named}
use Rattle.image.specs.Check.{passes, check_of}
use Rattle.image.proofs.FullCheck.{whole_passes, full_check_law}
use Rattle.writing.specs.Create.{create_of}
use Rattle.writing.specs.State.{in_state, writing_tests, begin_of, checkpoint_of, set_user_fields_of}
use Rattle.writing.proofs.Answers as W
use Rattle.writing.proofs.Answers.{answers}
use Rattle.writing.proofs.Refused.{user_refused}
use Rattle.writing.proofs.Roles.{passed_long}
use Rattle.writing.proofs.Became.{Became, became_same, dirty_header, clean_header}
use Rattle.writing.proofs.Fresh.{fresh_bytes, fresh_header, fresh_user}
use Rattle.writing.proofs.FreshTable.{fresh_passes}
use Rattle.writing.proofs.Lasting.{Kept}
use Rattle.writing.proofs.LastingTable.{same_passes}
use Rattle.writing.proofs.StateLaws.{begin_became, checkpoint_became}
use Rattle.writing.proofs.Tests.{header_holds, not_invalidated}
use Rattle.writing.proofs.UserLaws.{user_became, user_set, begin_user, checkpoint_user}
use Rattle.maps.specs.Map.{Map, map_of, applied}
use Rattle.maps.proofs.MapFresh.{fresh_map}
use Rattle.soundness.proofs.Accepted.{accepted_facts}
use Rattle.soundness.proofs.Committed.{Committed, shape_after, accepted_commit}
use Rattle.maps.proofs.MapLasting.{kept_map}
use Rattle.maps.proofs.MapLaw.{commit_map}
use Rattle.soundness.specs.Apply as A
use Rattle.soundness.specs.Commit.{commit_tests, commit_of}
use Rattle.demands.specs.History.{Word, writer, Handed, empty_map, read_by, fresh_in, History, created, adopted, begun, checkpointed, marked, marking_refused, committed, commit_refused}
use Rattle.demands.proofs.Created.{create_allowed, fresh_in_lem}
use Rattle.demands.proofs.ReadMap.{read_map}

pub record Held (o : Options) (image : List ℕ) (m : Map) (fields : UserFields) : Type 0 where
  pub bytes : Bytes image
  pub dirty : (role : ℕ) → role ≤ 2 → (role ≡ 0 → ⊥) → header_test (with_role o role) image ≡ done
  pub clean : value image F.state ≡ CLEAN → (role : ℕ) → role ≤ 2 → header_test (with_role o role) image ≡ done
  pub passed : passes (shape_of image) image ≡ true
  pub map : map_of (shape_of image) image ≡ m
  pub user : user_fields image ≡ fields

pub held_created : (o : Options) (role : ℕ) (buffer : List ℕ) → Word o.user_version → (create_of (with_role o role) buffer).answer ≡ 0
    → Held o (fresh_in (with_role o role) buffer) empty_map no_fields
held_created o role buffer version a =
    let o' = with_role o role in
    let first = create_allowed o' buffer a in
    rw (fresh_in_lem o' buffer a)
    (record {
      bytes = fresh_bytes o';
      dirty = λ r low other. fresh_header o' first version r low;
      clean = λ s r low. fresh_header o' first version r low;
      passed = fresh_passes o' first version;
      map = λ i k. fresh_map o' first version k i;
      user = fresh_user o' first version;
    })

pub held_adopted : (o : Options) (role : ℕ) (image : List ℕ) → Bytes image → (check_of (with_role o role) image).answer ≡ 0
    → Held o image (read_by (with_role o role) image) (user_fields image)
unfolding first_of
held_adopted o role image bytes a =
    let o' = with_role o role in
    let whole = (full_check_law o' image).0 a in
    let z = whole.header in
    let same = became_same o' image z (length_passed image (header_holds o' image z).second) bytes in
    record {
      bytes = bytes;
      dirty = λ r low other.
          same.header r low ∙ rw (ne_eqb (value image F.state) INVALIDATED (not_invalidated o' image z), ne_eqb r 0 other, and-false) refl;
      clean = λ s r low. same.header r low ∙ rw s refl;
      passed = whole_passes o' image whole;
      map = sym (read_map o' image z whole.sound);
      user = refl;
    }

module _ {o : Options} {image : List ℕ} {m : Map} {fields : UserFields} (held : Held o image m fields) where
  pub writer_header : header_test (writer o) image ≡ 0
  writer_header = held.dirty 2 (lit≤ tt) (λ e. omega arith)

  -- the writer's tests give no number
  pub writing_none : first_of (writing_tests (writer o) image) ≡ 0
  unfolding writing_tests header_test first_of
  writing_none = sym (first_after (header_tests (writer o) image) _ (header_named (writer o) image) refl writer_header refl)

  long : 256 ≤ length image
  long = passed_long (writer o) image writing_none

  kept_held : {image' : List ℕ} {fields' : UserFields} → Kept image image' → Bytes image'
      → ((role : ℕ) → role ≤ 2 → (role ≡ 0 → ⊥) → header_test (with_role o role) image' ≡ 0)
      → (value image' F.state ≡ CLEAN → (role : ℕ) → role ≤ 2 → header_test (with_role o role) image' ≡ 0)
      → user_fields image' ≡ fields' → Held o image' m fields'
  kept_held {image'} kept bytes dirty clean user =
      record {
        bytes = bytes;
        dirty = dirty;
        clean = clean;
        passed = same_passes (writer o) image image' writer_header kept ∙ held.passed;
        map = (λ i k. kept_map (writer o) image image' writer_header kept k i) ∙ held.map;
        user = user;
      }

  dirty_held : {image' : List ℕ} {fields' : UserFields} {generation : ℕ} → Became (writer o) image image' DIRTY generation
      → user_fields image' ≡ fields' → Held o image' m fields'
  dirty_held b =
      kept_held b.kept b.bytes (dirty_header b) (λ s. let d = b.in_state_lem in absurd (omega arith))

  clean_held : {image' : List ℕ} {fields' : UserFields} {generation : ℕ} → Became (writer o) image image' CLEAN generation
      → user_fields image' ≡ fields' → Held o image' m fields'
  clean_held b = kept_held b.kept b.bytes (λ role low other. clean_header b role low) (λ s. clean_header b)

  pub begin_done : (begin_of (writer o) image).answer ≡ 0
  unfolding begin_of
  begin_done = answers image (in_state image DIRTY) (first_of (writing_tests (writer o) image)) ∙ writing_none

  pub checkpoint_done : (checkpoint_of (writer o) image).answer ≡ 0
  unfolding checkpoint_of
  checkpoint_done = answers image (in_state image CLEAN) (first_of (writing_tests (writer o) image)) ∙ writing_none

  pub held_begun : Held o (begin_of (writer o) image).image m fields
  held_begun = dirty_held (begin_became (writer o) image held.bytes begin_done) (begin_user (writer o) image long ∙ held.user)

  pub held_checkpointed : Held o (checkpoint_of (writer o) image).image m fields
  held_checkpointed =
      clean_held (checkpoint_became (writer o) image held.bytes checkpoint_done) (checkpoint_user (writer o) image long ∙ held.user)

  pub held_marked : (others : UserFields) → Handed others → (set_user_fields_of (writer o) image others).answer ≡ 0
      → Held o (set_user_fields_of (writer o) image others).image m others
  held_marked others h a =
      dirty_held (user_became (writer o) image held.bytes others h.size h.bytes h.flags a)
      (user_set (writer o) image held.bytes others h.size h.bytes h.flags a)

  pub held_marking_refused : (others : UserFields) → ((set_user_fields_of (writer o) image others).answer ≡ 0 → ⊥)
      → Held o (set_user_fields_of (writer o) image others).image m fields
  held_marking_refused others h = rw (user_refused (writer o) image others h) held

  pub held_commit_refused : (batch : List ℕ) → ((commit_of (writer o) image batch).answer ≡ 0 → ⊥)
      → Held o (commit_of (writer o) image batch).image m fields
  unfolding commit_of
  held_commit_refused batch h =
      rw (W.refused image (A.committed (shape_of image) image batch) (first_of (commit_tests (writer o) image batch)) h) held

  -- an accepted commit leaves the image DIRTY
  still_dirty : (batch : List ℕ) {image' : List ℕ} → value image F.state ≡ DIRTY → Committed (writer o) image batch image' → value image' F.state ≡ DIRTY
  unfolding shape_after shape_of
  still_dirty batch d c = ap (λ (s : Shape). s.state) c.shape ∙ d

  pub held_committed : (batch : List ℕ) → Bytes batch → (commit_of (writer o) image batch).answer ≡ 0
      → Held o (commit_of (writer o) image batch).image (applied (shape_of image) batch m) fields
  unfolding commit_of
  held_committed batch bytes a =
      let z = sym (answers image (A.committed (shape_of image) image batch) (first_of (commit_tests (writer o) image batch))) ∙ a in
      let c = (accepted_commit (writer o) image batch held.bytes bytes z).1 in
      let d = still_dirty batch (accepted_facts (writer o) image batch z held.bytes).dirty c in
      record {
        bytes = c.bytes;
        dirty = c.header;
        clean = λ s. absurd (omega arith);
        passed = c.passes;
        map = (λ i k. commit_map (writer o) image batch held.bytes z k i) ∙ ap (applied (shape_of image) batch) held.map;
        user = c.user ∙ held.user;
      }

pub held : {o : Options} {image : List ℕ} {m : Map} {fields : UserFields} → History o image m fields → Held o image m fields
held {o} (created role buffer version a) = held_created o role buffer version a
held {o} (adopted role image bytes a) = held_adopted o role image bytes a
held (begun h) = held_begun (held h)
held (checkpointed h) = held_checkpointed (held h)
held (marked others handed h a) = held_marked (held h) others handed a
held (marking_refused others h r) = held_marking_refused (held h) others r
held (committed batch bytes h a) = held_committed (held h) batch bytes a
held (commit_refused batch h r) = held_commit_refused (held h) batch r
