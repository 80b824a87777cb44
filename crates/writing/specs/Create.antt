-- "Create."
-- Assumes nothing.
use Rattle.std.specs.Prelude.{ℕ, Bool, List, [], ◌∷◌, ◌++◌, ltb, length, drop, replicate}
use Rattle.header.specs.declared.options.Options.{Options}
use Rattle.header.specs.Answer.{too_short}
use Rattle.header.specs.Fields as F
use Rattle.header.specs.Fields.{SLC1}
use Rattle.header.specs.FirstOf.{first_of}
use Rattle.header.specs.HeaderTest.{create_test1}
use Rattle.header.specs.Sizes.{slot_size, bucket_count, buckets_offset, total_size}
use Rattle.writing.specs.Write.{with_fields, sealed, Written, unless}

-- "Test 1; lent buffer shorter than the total: 11.", and capacity 0: 7 (CR 10)
unfoldable pub create_tests : Options → List ℕ → List (Bool × ℕ)
create_tests o buffer = create_test1 o ++ (ltb (length buffer) (total_size o), too_short) ∷ []

-- what a fresh header says; every other field is zero, and zero is CLEAN
unfoldable pub fresh_fields : Options → List (ℕ × ℕ)
fresh_fields o =
    (F.magic, SLC1)
    ∷ (F.version, 1)
    ∷ (F.header_size, 256)
    ∷ (F.key_size_field, o.key_size)
    ∷ (F.index_size_field, o.index_size)
    ∷ (F.slot_size_field, slot_size o.key_size o.index_size)
    ∷ (F.hash_alg, 1)
    ∷ (F.flags, o.ordered)
    ∷ (F.slot_capacity_field, o.slot_capacity)
    ∷ (F.user_version, o.user_version)
    ∷ (F.bucket_count_field, bucket_count o.slot_capacity)
    ∷ (F.slots_offset, 256)
    ∷ (F.buckets_offset_field, buckets_offset o.slot_capacity (slot_size o.key_size o.index_size))
    ∷ []

-- "header CLEAN, generation and counters 0, user fields 0, all else 0"
unfoldable pub fresh : Options → List ℕ
fresh o = sealed (with_fields (replicate (total_size o) 0) (fresh_fields o))

-- "Writes exactly the total"
unfoldable pub create_of : Options → List ℕ → Written
create_of o buffer = unless (first_of (create_tests o buffer)) buffer (fresh o ++ drop (total_size o) buffer)
