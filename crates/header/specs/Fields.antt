-- "The header is 256 bytes; its fields are one table of name, offset and width". A field's name is its place in the table.
-- Assumes nothing.
use Rattle.std.specs.Prelude.{ℕ, List, [], ◌∷◌, get_or}
use Rattle.numbers.specs.Bytes.{part, word}
use Rattle.header.specs.declared.fields.Field.{Field}
use Rattle.header.specs.declared.fields.Name.{Name}
use Rattle.header.specs.declared.fields.Name.TheVariants.{Magic, Version, HeaderSize, KeySize, IndexSize, SlotSize, HashAlg, Flags, SlotCapacity, SlotHighwater, LiveCount, UserVersion, Generation, BucketCount, BucketUsed, BucketTombstones, SlotsOffset, BucketsOffset, HeaderCrc32c, State, UserFlags, UserData, Reserved}

abbrev pub field : ℕ → ℕ → Field
field at n = record { offset = at; width = n }

abbrev pub fields : List Field
fields =
    field 0x00 4
    ∷ field 0x04 4
    ∷ field 0x08 4
    ∷ field 0x0C 4
    ∷ field 0x10 4
    ∷ field 0x14 4
    ∷ field 0x18 4
    ∷ field 0x1C 4
    ∷ field 0x20 8
    ∷ field 0x28 8
    ∷ field 0x30 8
    ∷ field 0x38 8
    ∷ field 0x40 8
    ∷ field 0x48 8
    ∷ field 0x50 8
    ∷ field 0x58 8
    ∷ field 0x60 8
    ∷ field 0x68 8
    ∷ field 0x70 4
    ∷ field 0x74 4
    ∷ field 0x78 8
    ∷ field 0x80 64
    ∷ field 0xC0 64
    ∷ []

abbrev pub magic : ℕ
magic = 0

abbrev pub version : ℕ
version = 1

abbrev pub header_size : ℕ
header_size = 2

abbrev pub key_size_field : ℕ
key_size_field = 3

abbrev pub index_size_field : ℕ
index_size_field = 4

abbrev pub slot_size_field : ℕ
slot_size_field = 5

abbrev pub hash_alg : ℕ
hash_alg = 6

abbrev pub flags : ℕ
flags = 7

abbrev pub slot_capacity_field : ℕ
slot_capacity_field = 8

abbrev pub slot_highwater : ℕ
slot_highwater = 9

abbrev pub live_count_field : ℕ
live_count_field = 10

abbrev pub user_version : ℕ
user_version = 11

abbrev pub generation : ℕ
generation = 12

abbrev pub bucket_count_field : ℕ
bucket_count_field = 13

abbrev pub bucket_used : ℕ
bucket_used = 14

abbrev pub bucket_tombstones : ℕ
bucket_tombstones = 15

abbrev pub slots_offset : ℕ
slots_offset = 16

abbrev pub buckets_offset_field : ℕ
buckets_offset_field = 17

abbrev pub header_crc32c : ℕ
header_crc32c = 18

abbrev pub state : ℕ
state = 19

abbrev pub user_flags : ℕ
user_flags = 20

abbrev pub user_data : ℕ
user_data = 21

abbrev pub reserved : ℕ
reserved = 22

-- the place of a name that the program writes
abbrev pub place : Name → ℕ
place Magic = magic
place Version = version
place HeaderSize = header_size
place KeySize = key_size_field
place IndexSize = index_size_field
place SlotSize = slot_size_field
place HashAlg = hash_alg
place Flags = flags
place SlotCapacity = slot_capacity_field
place SlotHighwater = slot_highwater
place LiveCount = live_count_field
place UserVersion = user_version
place Generation = generation
place BucketCount = bucket_count_field
place BucketUsed = bucket_used
place BucketTombstones = bucket_tombstones
place SlotsOffset = slots_offset
place BucketsOffset = buckets_offset_field
place HeaderCrc32c = header_crc32c
place State = state
place UserFlags = user_flags
place UserData = user_data
place Reserved = reserved

abbrev pub field_of : ℕ → Field
field_of name = get_or fields name (field 0 0)

-- the bytes of a field, and the number that they are, little-endian
unfoldable pub bytes_in : List ℕ → ℕ → List ℕ
bytes_in image name = part image (field_of name).offset (field_of name).width

unfoldable pub value : List ℕ → ℕ → ℕ
value image name = word (bytes_in image name)

-- what the magic of every image is: the bytes "SLC1" as a little-endian word
abbrev pub SLC1 : ℕ
SLC1 = 0x31434C53
