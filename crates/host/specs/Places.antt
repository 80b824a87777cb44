-- Sizes and places by the options alone: 0 where the options are outside the sizes, or there can be no such slot.
-- Assumes nothing.
use Rattle.std.specs.Prelude.{ℕ, cond, eqb, ltb, Option, Some, None}
use Rattle.header.specs.declared.options.Options.{Options}
use Rattle.header.specs.FirstOf.{first_of}
use Rattle.header.specs.HeaderTest.{test1, create_test1, after_test}
use Rattle.header.specs.Sizes.{most_slot_capacity, slot_size, total_size}
use Rattle.image.specs.Places.{slot_start, key_start, index_start}

-- "Total size: 256 + capacity x slot_size + 16 x B.", of an image that create makes
unfoldable pub total_of : Options → ℕ
total_of o = after_test (first_of (create_test1 o)) (total_size o) (λ n. 0)

-- the slots that there can be under an option: "capacity 0 now means 'as the header says', within 1 to 1,048,576" (CR 10)
unfoldable pub slots_for : ℕ → ℕ
slots_for option = cond (eqb option 0) most_slot_capacity option

-- a place in a slot, where there can be such a slot
unfoldable pub place_in : Options → ℕ → ℕ → ℕ
place_in o slot place = after_test (first_of (test1 o)) (cond (ltb slot (slots_for o.slot_capacity)) place 0) (λ n. 0)

-- where a slot starts in an image under these options
abbrev pub slot_place : Options → ℕ → ℕ
slot_place o slot = slot_start (slot_size o.key_size o.index_size) slot

-- the same, none where there can be no such slot
unfoldable pub place_of : Options → ℕ → Option ℕ
place_of o slot =
    after_test (first_of (test1 o)) (cond (ltb slot (slots_for o.slot_capacity)) (Some (slot_place o slot)) None) (λ n. None)

-- where its key and its index start
unfoldable pub key_place : Options → ℕ → ℕ
key_place o slot = place_in o slot (key_start (slot_place o slot))

unfoldable pub index_place : Options → ℕ → ℕ
index_place o slot = place_in o slot (index_start o.key_size (slot_place o slot))
