-- What an image has become that a writing call changed: what lasts, its state and generation, and what the header test says.
-- Assumes nothing.
use Prim.Native.Nat.{ℕ, ◌%◌, ◌≤◌}
use mathlib.Core.Path.{◌≡◌, refl, ap, ◌∙◌}
use mathlib.Core.List.{List, [], ◌∷◌}
use native.Mathlib.Omega.{arith}
use borrow.Author.Tests.{ne_eqb}
use lib.Dec.{T}
use lib.ListN.{length}
use Rattle.numbers.specs.Bytes.{Bytes, bytes_of}
use Rattle.digests.specs.Crc.{header_crc}
use Rattle.header.specs.declared.options.Options.{Options}
use Rattle.header.specs.Fields as F
use Rattle.header.specs.Fields.{field_of, value}
use Rattle.header.specs.FirstOf.{first_of}
use Rattle.header.specs.State.{CLEAN, INVALIDATED, DIRTY, with_role}
use Rattle.header.specs.HeaderTest.{header_test}
use Rattle.writing.specs.Write.{with_field, with_fields, sealed}
use Rattle.numbers.proofs.Bytes.{put_bytes, bytes_of_bytes}
use Rattle.writing.proofs.FieldList.{Fitting, after, fields_length, fields_value}
use Rattle.writing.proofs.Seal.{seal_other, seal_crc}
use Rattle.writing.proofs.Tests.{even_passed, crc_passed, state_passed, header_holds, state_tests}
use Rattle.writing.proofs.Lasting.{Kept, passing, kept_written, header_kept}

pub record Became (o : Options) (image image' : List ℕ) (state generation : ℕ) : Type 0 where
  pub kept : Kept image image'
  pub bytes : Bytes image'
  pub in_state_lem : value image' F.state ≡ state
  pub in_generation : value image' F.generation ≡ generation
  -- the header test under any role
  pub header : (role : ℕ) → role ≤ 2 → header_test (with_role o role) image' ≡ first_of (state_tests role state)

-- fields and the CRC written are bytes
pub fields_are_bytes : (fs : List (ℕ × ℕ)) (image : List ℕ) → Bytes image → Bytes (with_fields image fs)
unfolding with_fields with_field
fields_are_bytes [] image h = h
fields_are_bytes (f ∷ fs) image h =
    fields_are_bytes fs (with_field image f.0 f.1) (put_bytes image (field_of f.0).offset (bytes_of (field_of f.0).width f.1) h (bytes_of_bytes (field_of f.0).width f.1))

pub sealed_is_bytes : (image : List ℕ) → Bytes image → Bytes (sealed image)
unfolding sealed with_field
sealed_is_bytes image h = put_bytes image 0x70 (bytes_of 4 (header_crc image)) h (bytes_of_bytes 4 (header_crc image))

module _ (o : Options) (image : List ℕ) (z : header_test o image ≡ 0) (long : 256 ≤ length image) (bytes : Bytes image) where
  -- fields that do not last written, and the CRC renewed
  module _ (fs : List (ℕ × ℕ)) (p : T (passing fs)) (fit : Fitting fs) where
    long' : 256 ≤ length (with_fields image fs)
    long' = omega (arith, fields_length fs image long)

    pub written_state : value (sealed (with_fields image fs)) F.state ≡ after fs F.state (value image F.state)
    written_state = seal_other (with_fields image fs) long' F.state tt ∙ fields_value fs image long fit F.state

    pub written_generation : value (sealed (with_fields image fs)) F.generation ≡ after fs F.generation (value image F.generation)
    written_generation = seal_other (with_fields image fs) long' F.generation tt ∙ fields_value fs image long fit F.generation

    pub became_written : {state generation : ℕ} → after fs F.state (value image F.state) ≡ state → after fs F.generation (value image F.generation) ≡ generation
        → state ≤ 2 → generation % 2 ≡ 0 → Became o image (sealed (with_fields image fs)) state generation
    became_written {state} {generation} es eg low even =
        let kept = kept_written fs image long p in
        let vs = written_state ∙ es in
        let vg = written_generation ∙ eg in
        let crc = seal_crc (with_fields image fs) long' (fields_are_bytes fs image bytes) in
        record {
          kept = kept;
          bytes = sealed_is_bytes (with_fields image fs) (fields_are_bytes fs image bytes);
          in_state_lem = vs;
          in_generation = vg;
          header = λ role h. header_kept o image (sealed (with_fields image fs)) kept (header_holds o image z) role h (rw vg even) crc (rw vs low) ∙ ap (λ (s : ℕ). first_of (state_tests role s)) vs;
        }

  -- nothing changed
  pub became_same : Became o image image (value image F.state) (value image F.generation)
  became_same =
      let h = header_holds o image z in
      let kept : Kept image image = record { same_length = refl; same_bytes = λ m t. refl; behind = λ a n l. refl } in
      record {
        kept = kept;
        bytes = bytes;
        in_state_lem = refl;
        in_generation = refl;
        header = λ role l. header_kept o image image kept h role l (even_passed o image h.fourth) (crc_passed image h.fifth) (state_passed image h.sixth);
      }

-- the header test of an image that became DIRTY, CLEAN or INVALIDATED
module _ {o : Options} {image image' : List ℕ} {generation : ℕ} where
  pub dirty_header : Became o image image' DIRTY generation → (role : ℕ) → role ≤ 2 → (role ≡ 0 → ⊥) → header_test (with_role o role) image' ≡ 0
  unfolding first_of
  dirty_header b role low known = b.header role low ∙ rw (ne_eqb role 0 known) refl

  pub clean_header : Became o image image' CLEAN generation → (role : ℕ) → role ≤ 2 → header_test (with_role o role) image' ≡ 0
  unfolding first_of
  clean_header b role low = b.header role low

  pub invalidated_header : Became o image image' INVALIDATED generation → (role : ℕ) → role ≤ 2 → header_test (with_role o role) image' ≡ 3
  unfolding first_of
  invalidated_header b role low = b.header role low
