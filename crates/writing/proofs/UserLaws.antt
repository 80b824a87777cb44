-- What set user fields makes of an image, where it answers 0, and that begin and checkpoint keep the user fields.
-- Assumes nothing.
use Prim.Native.Nat.{ℕ, zero, suc, ◌+◌, ◌≤◌}
use mathlib.Core.Bool.{Bool, true, false, cond}
use mathlib.Core.Path.{◌≡◌, refl, sym, ap, ◌∙◌}
use mathlib.Core.List.{List, [], ◌∷◌}
use native.Mathlib.Omega.{arith}
use borrow.Author.Tests.{eqb-false}
use lib.Dec.{T, eqb, lit≤}
use lib.ListN.{length}
use Rattle.numbers.specs.Bytes.{Bytes, word, bytes_of, put}
use Rattle.header.specs.declared.options.Options.{Options}
use Rattle.header.specs.declared.open.UserFields.{UserFields}
use Rattle.header.specs.Fields as F
use Rattle.header.specs.Fields.{bytes_in, value}
use Rattle.header.specs.FirstOf.{first_of}
use Rattle.header.specs.State.{CLEAN, DIRTY}
use Rattle.header.specs.HeaderTest.{header_test}
use Rattle.header.specs.Open.{user_fields}
use Rattle.header.proofs.Firsts.{fails}
use Rattle.writing.specs.Write.{with_field, with_fields, sealed, unless}
use Rattle.writing.specs.State.{writing_tests, clean_test, user_tests, published, in_state, begin_of, checkpoint_of, with_user_data, set_user_fields_of}
use Rattle.writing.proofs.OneField.{Fits, apart, field_length, field_bytes}
use Rattle.writing.proofs.FieldList.{Fitting, after, fields_length, fields_value}
use Rattle.numbers.proofs.Bytes.{word_bound, bytes_word}
use Rattle.writing.proofs.Values.{value_bytes}
use Rattle.writing.proofs.Seal.{seal_bytes, seal_other}
use Rattle.writing.proofs.Tests.{state_passed, header_holds, not_invalidated}
use Rattle.writing.proofs.Answers.{answers, accepted}
use Rattle.writing.proofs.Roles.{passed_header, passed_long, passed_even}
use Rattle.writing.proofs.MoreTests.{change_writing, change_clean, change_generation}
use Rattle.writing.proofs.StateCode.{user_data_generation}
use Rattle.writing.proofs.Became.{Became, became_written}
use Rattle.writing.proofs.StateLaws.{next_fits}

-- user data are a field
user_data_field : (image data' : List ℕ) → length data' ≡ 64 → Bytes data' → with_user_data image data' ≡ with_field image F.user_data (word data')
unfolding with_user_data with_field
user_data_field image data' n h = ap (put image 0x80) (sym (rw n at (bytes_word data' h)))

-- an image that passes the header test and is not CLEAN is DIRTY
dirty : (o : Options) (image : List ℕ) → header_test o image ≡ 0 → first_of (clean_test image) ≡ 0 → value image F.state ≡ DIRTY
unfolding clean_test
dirty o image z c =
    let s : ℕ = value image F.state in
    let unclean = eqb-false s CLEAN (fails (eqb s CLEAN) 6 c) in
    omega (arith, not_invalidated o image z, state_passed image (header_holds o image z).sixth)

module _ (o : Options) (image : List ℕ) (bytes : Bytes image) (fields : UserFields) (size : length fields.user_data ≡ 64) (user-bytes : Bytes fields.user_data) (flags : Fits F.user_flags fields.user_flags) where
  -- the fields that the call writes
  fs : List (ℕ × ℕ)
  fs = (F.user_data, word fields.user_data) ∷ (F.generation, value image F.generation + 2) ∷ (F.user_flags, fields.user_flags) ∷ []

  module _ (a : (set_user_fields_of o image fields).answer ≡ 0) where
    changed : List ℕ
    changed = published (with_user_data image fields.user_data) ((F.user_flags, fields.user_flags) ∷ [])

    none : first_of (user_tests o image) ≡ 0
    unfolding set_user_fields_of changed
    none = sym (answers image changed (first_of (user_tests o image))) ∙ a

    writing : first_of (writing_tests o image) ≡ 0
    writing = change_writing o image none

    long : 256 ≤ length image
    long = passed_long o image writing

    left : (set_user_fields_of o image fields).image ≡ sealed (with_fields image fs)
    unfolding set_user_fields_of changed published with_fields fs
    left =
        accepted image changed (first_of (user_tests o image)) none
        ∙ rw (user_data_generation image fields.user_data long size, user_data_field image fields.user_data size user-bytes) refl

    fitting : Fitting fs
    unfolding fs
    fitting = (rw size at (word_bound fields.user_data user-bytes), (next_fits image bytes long (change_generation o image none) (passed_even o image writing), (flags, tt)))

    pub user_became : Became o image (set_user_fields_of o image fields).image DIRTY (value image F.generation + 2)
    unfolding fs
    user_became =
        let even = passed_even o image writing in
        rw left
        (became_written o image (passed_header o image writing) long bytes fs tt fitting (dirty o image (passed_header o image writing) (change_clean o image none)) refl (lit≤ tt) (omega arith))

    valued : (m : ℕ) → T (apart m F.header_crc32c) → value (sealed (with_fields image fs)) m ≡ after fs m (value image m)
    valued m t =
        seal_other (with_fields image fs) (omega (arith, long, fields_length fs image long)) m t ∙ fields_value fs image long fitting m

    -- "replaces user_flags and user_data"
    pub user_set : user_fields (set_user_fields_of o image fields).image ≡ fields
    unfolding user_fields fs
    user_set =
        let image' : List ℕ = sealed (with_fields image fs) in
        let b = rw left at user_became in
        let data_bytes : bytes_in image' F.user_data ≡ fields.user_data =
        sym (value_bytes image' b.bytes (omega (arith, long, b.kept.same_length)) F.user_data)
        ∙ ap (bytes_of 64) (valued F.user_data tt)
        ∙ rw size at (bytes_word fields.user_data user-bytes) in
        rw (left, valued F.user_flags tt, data_bytes) refl

-- user fields are their bytes
pub same_user : (image image' : List ℕ) → bytes_in image' F.user_flags ≡ bytes_in image F.user_flags
    → bytes_in image' F.user_data ≡ bytes_in image F.user_data → user_fields image' ≡ user_fields image
unfolding user_fields value
same_user image image' p q = λ i. record { user_flags = word (p i); user_data = q i }

module _ (o : Options) (image : List ℕ) (long : 256 ≤ length image) where
  -- a change of state alone
  in_state_user : (state : ℕ) → user_fields (in_state image state) ≡ user_fields image
  unfolding in_state
  in_state_user state = go (eqb (value image F.state) state)
    where
      kept : (m : ℕ) → T (apart m F.header_crc32c) → T (apart m F.state) → bytes_in (sealed (with_field image F.state state)) m ≡ bytes_in image m
      kept m crc other =
          seal_bytes (with_field image F.state state) (rw (field_length image long F.state state) long) m crc
          ∙ field_bytes image long F.state state m other

      go : (t : Bool) → user_fields (cond t image (sealed (with_field image F.state state))) ≡ user_fields image
      go true = refl
      go false = same_user image (sealed (with_field image F.state state)) (kept F.user_flags tt tt) (kept F.user_data tt tt)

  changed_user : (n state : ℕ) → user_fields (unless n image (in_state image state)).image ≡ user_fields image
  changed_user zero state = in_state_user state
  changed_user (suc n) state = refl

  pub begin_user : user_fields (begin_of o image).image ≡ user_fields image
  unfolding begin_of
  begin_user = changed_user (first_of (writing_tests o image)) DIRTY

  pub checkpoint_user : user_fields (checkpoint_of o image).image ≡ user_fields image
  unfolding checkpoint_of
  checkpoint_user = changed_user (first_of (writing_tests o image)) CLEAN
