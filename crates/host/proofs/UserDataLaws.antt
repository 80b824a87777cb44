-- The user data written to a lent buffer, by what the open check returned, and taken from a lent slice.
-- Assumes nothing.
use Prim.Native.Nat.{ℕ, zero, suc, ◌≤◌, ◌<◌}
use mathlib.Core.Path.{◌≡◌, refl, sym, ap, ◌∙◌}
use mathlib.Core.List.{List}
use borrow.Author.Tests.{lt-ltb, le-ltb, eq-eqb, ne_eqb}
use lib.ListN.{length}
use Rattle.numbers.specs.Bytes.{put}
use Rattle.std.specs.Prelude.{Result, Ok, Err}
use Rattle.header.specs.declared.open.UserFields.{UserFields}
use Rattle.header.specs.declared.refusal.Refusal.{Refusal}
use Rattle.header.specs.declared.options.Options.{Options}
use Rattle.header.specs.Answer.{answer, done, invalid_input, number, too_short}
use Rattle.header.specs.HeaderTest.{header_test, after_test}
use Rattle.header.specs.Open.{Opened, opened, open_of, user_fields}
use Rattle.writing.specs.State.{set_user_fields_of}
use Rattle.host.specs.UserData.{filled, user_data_of, set_user_fields_from}
use Rattle.header.proofs.After.{after_refusal}

-- the number that C is given of the open check
pub opened_answer : (r : Result UserFields Refusal) → answer r ≡ (opened r).answer
opened_answer (Ok f) = refl
opened_answer (Err e) = refl

module _ (o : Options) (image out : List ℕ) where
  -- the open check answers the header test's number
  answers : (open_of o image).answer ≡ header_test o image
  unfolding open_of
  answers = answer_of (header_test o image) _ _ refl (λ m. refl)
    where
      answer_of : (n : ℕ) (go : Opened) (refuse : ℕ → Opened) → go.answer ≡ 0 → ((m : ℕ) → (refuse m).answer ≡ m) → (after_test n go refuse).answer ≡ n
      answer_of zero go refuse z h = z
      answer_of (suc n) go refuse z h = h (suc n)

  pub data_refused : (r : Refusal) → opened (Err r) ≡ open_of o image → {n : ℕ} → n ≡ number r
      → (n ≡ (user_data_of o image out).answer) × (out ≡ (user_data_of o image out).bytes)
  unfolding user_data_of
  data_refused r returned e =
      let numbered : number r ≡ header_test o image = ap (λ (x : Opened). x.answer) returned ∙ answers in
      rw (← after_refusal (header_test o image) _ (λ n. filled n out) r numbered) (e, refl)

  module _ (f : UserFields) (returned : opened (Ok f) ≡ open_of o image) where
    passed : header_test o image ≡ 0
    passed = sym (ap (λ (x : Opened). x.answer) returned ∙ answers)

    pub data_short : length out < 64 → {n : ℕ} → n ≡ too_short → (n ≡ (user_data_of o image out).answer) × (out ≡ (user_data_of o image out).bytes)
    unfolding user_data_of
    data_short h e = rw (passed, lt-ltb (length out) 64 h) (e, refl)

    fields : f ≡ user_fields image
    unfolding open_of
    fields =
        let of : open_of o image ≡ record { answer = done; fields = user_fields image } = rw passed refl in
        ap (λ (x : Opened). x.fields) (returned ∙ of)

    pub data_written : 64 ≤ length out → {written : List ℕ} → written ≡ put out 0 f.user_data → (done ≡ (user_data_of o image out).answer) × (written ≡ (user_data_of o image out).bytes)
    unfolding user_data_of
    data_written h e = rw (e, fields, passed, le-ltb (length out) 64 h) (refl, refl)

module _ (o : Options) (image : List ℕ) (flags : ℕ) (bytes : List ℕ) where
  -- user data of another length
  pub from_wrong : (length bytes ≡ 64 → ⊥) → {r : ℕ} → r ≡ after_test (header_test o image) invalid_input (λ n. n)
      → (r ≡ (set_user_fields_from o image flags bytes).answer) × (image ≡ (set_user_fields_from o image flags bytes).image)
  unfolding set_user_fields_from
  from_wrong ne e = rw (ne_eqb (length bytes) 64 ne) (e, refl)

  -- and user data of 64 bytes, copied first
  pub from_right : {bytes' : List ℕ} {r : ℕ} {image' : List ℕ}
      → (r ≡ (set_user_fields_of o image (record { user_flags = flags; user_data = bytes' })).answer) × (image' ≡ (set_user_fields_of o image (record { user_flags = flags; user_data = bytes' })).image)
      → bytes' ≡ bytes → length bytes ≡ 64
      → (r ≡ (set_user_fields_from o image flags bytes).answer) × (image' ≡ (set_user_fields_from o image flags bytes).image)
  unfolding set_user_fields_from
  from_right told copied e = rw (eq-eqb (length bytes) 64 e, ← copied) told
