-- A fresh image: what its header says, that the header test passes under every role, and what lies behind the header.
-- Assumes nothing.
use Prim.Native.Nat.{ℕ, ◌+◌, ◌≤◌}
use mathlib.Core.Path.{◌≡◌, refl, ap, ◌∙◌}
use mathlib.Core.List.{List}
use native.Mathlib.Omega.{arith}
use lib.Dec.{T, lit<}
use lib.ListN.{length, replicate, length-replicate}
use Rattle.numbers.specs.Bytes.{Bytes, part, word}
use Rattle.digests.specs.Crc.{header_crc}
use Rattle.header.specs.declared.options.Options.{Options}
use Rattle.header.specs.Fields as F
use Rattle.header.specs.Fields.{field_of, bytes_in, value}
use Rattle.header.specs.FirstOf.{first_of}
use Rattle.header.specs.State.{with_role}
use Rattle.header.specs.HeaderTest.{create_test1, header_test}
use Rattle.header.specs.Open.{user_fields, no_fields}
use Rattle.header.specs.Sizes.{total_size}
use Rattle.header.proofs.Allowed.{Allowed, offset_fits}
use Rattle.header.proofs.PassedTests.{create_sized, create_ordered}
use Rattle.header.proofs.SizeLaws.{slot_size_limit, bucket_count_high}
use Rattle.writing.specs.Write.{with_fields}
use Rattle.writing.specs.Create.{fresh_fields, fresh}
use Rattle.writing.proofs.OneField.{Fits, apart, in_header}
use Rattle.writing.proofs.FieldList.{Fitting, after, misses, fields_length, fields_value, fields_bytes, fields_behind}
use Rattle.numbers.proofs.Bytes.{replicate_bytes}
use Rattle.writing.proofs.Seal.{seal_length, seal_bytes, seal_other, seal_behind, seal_crc}
use Rattle.writing.proofs.Tests.{header_by_state}
use Rattle.writing.proofs.Became.{fields_are_bytes, sealed_is_bytes}
use Rattle.numbers.proofs.Zeros.{word_zeros, part_zeros}
use Rattle.writing.proofs.FreshTests.{fresh_holds}
use Rattle.writing.proofs.Making.{total_low}

-- the header is written on zeros, and then sealed
abbrev zeros : Options → List ℕ
zeros o = replicate (total_size o) 0

abbrev unsealed : Options → List ℕ
unsealed o = with_fields (zeros o) (fresh_fields o)

module _ (o : Options) where
  size : length (zeros o) ≡ total_size o
  size = length-replicate (total_size o) 0

  long : 256 ≤ length (zeros o)
  long = omega (arith, size, total_low o)

  same_length : length (unsealed o) ≡ length (zeros o)
  same_length = fields_length (fresh_fields o) (zeros o) long

  unsealed_long : 256 ≤ length (unsealed o)
  unsealed_long = omega (arith, same_length, long)

  zero_bytes : (m : ℕ) → bytes_in (zeros o) m ≡ replicate (field_of m).width 0
  unfolding bytes_in
  zero_bytes m =
      part_zeros (total_size o) (field_of m).offset (field_of m).width (omega (arith, in_header m, total_low o))

  zero_value : (m : ℕ) → value (zeros o) m ≡ 0
  unfolding value
  zero_value m = ap word (zero_bytes m) ∙ word_zeros (field_of m).width

  -- "Writes exactly the total"
  pub fresh_length : length (fresh o) ≡ total_size o
  unfolding fresh
  fresh_length = seal_length (unsealed o) unsealed_long ∙ same_length ∙ size

  unsealed_bytes : Bytes (unsealed o)
  unsealed_bytes = fields_are_bytes (fresh_fields o) (zeros o) (replicate_bytes (total_size o))

  pub fresh_bytes : Bytes (fresh o)
  unfolding fresh
  fresh_bytes = sealed_is_bytes (unsealed o) unsealed_bytes

  -- everything from byte 256 on is zero
  pub fresh_behind : (at n : ℕ) → 256 ≤ at → at + n ≤ total_size o → part (fresh o) at n ≡ replicate n 0
  unfolding fresh
  fresh_behind at n low high =
      seal_behind (unsealed o) unsealed_long at n low
      ∙ fields_behind (fresh_fields o) (zeros o) long at n low
      ∙ part_zeros (total_size o) at n high

  -- a field that is not written is zero
  unwritten : (m : ℕ) → T (misses (fresh_fields o) m) → T (apart m F.header_crc32c)
      → bytes_in (fresh o) m ≡ replicate (field_of m).width 0
  unfolding fresh
  unwritten m t crc =
      seal_bytes (unsealed o) unsealed_long m crc ∙ fields_bytes (fresh_fields o) (zeros o) long m t ∙ zero_bytes m

  reserved : bytes_in (fresh o) F.reserved ≡ replicate 64 0
  unfolding fresh_fields
  reserved = unwritten F.reserved tt tt

  fresh_crc : value (fresh o) F.header_crc32c ≡ header_crc (fresh o)
  unfolding fresh
  fresh_crc = seal_crc (unsealed o) unsealed_long unsealed_bytes

  module _ (first : first_of (create_test1 o) ≡ 0) (version : Fits F.user_version o.user_version) where
    fitting : Fitting (fresh_fields o)
    unfolding fresh_fields
    fitting =
        let created = create_sized o first in
        let h : Allowed o = created.sizes in
        let slot = slot_size_limit o.key_size o.index_size h.key_high h.index_high in
        (lit< tt, (lit< tt, (lit< tt, (omega arith, (omega arith, (omega arith, (lit< tt, (omega (arith, create_ordered o first), (omega arith, (version, (omega (arith, bucket_count_high o.slot_capacity created.capacity_low), (lit< tt, (omega (arith, offset_fits o h), tt)))))))))))))

    -- what a fresh header says
    pub fresh_value : (m : ℕ) → T (apart m F.header_crc32c) → value (fresh o) m ≡ after (fresh_fields o) m 0
    unfolding fresh
    fresh_value m t =
        seal_other (unsealed o) unsealed_long m t
        ∙ fields_value (fresh_fields o) (zeros o) long fitting m
        ∙ ap (after (fresh_fields o) m) (zero_value m)

    -- "user fields 0"
    pub fresh_user : user_fields (fresh o) ≡ no_fields
    unfolding user_fields no_fields fresh_fields
    fresh_user = rw (fresh_value F.user_flags tt, unwritten F.user_data tt tt) refl

    -- "header CLEAN": every role passes
    pub fresh_header : (role : ℕ) → role ≤ 2 → header_test (with_role o role) (fresh o) ≡ 0
    unfolding first_of fresh_fields
    fresh_header role low =
        header_by_state (with_role o role) (fresh o) (fresh_holds o (fresh o) first fresh_value fresh_length fresh_crc reserved role low)
        ∙ rw (fresh_value F.state tt) refl
