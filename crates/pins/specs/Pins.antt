-- Definitions that contracts and demands share, each pinned by values that would differ if it were another: a demand alone
-- can't tell, since a wrong definition stands on both sides of it.
-- Assumes nothing.
use Rattle.std.specs.Prelude.{ℕ, ◌*◌, ◌-◌, ◌^◌, ◌≤◌, ◌≡◌, true, false, [], ◌∷◌, pos, negsuc}
use Rattle.numbers.specs.Bytes.{word, bytes_of, below}
use Rattle.numbers.specs.Signed.{signed}
use Rattle.digests.specs.Fnv.{fnv1a64}
use Rattle.digests.specs.Crc.{crc32c}
use Rattle.header.specs.Fields.{SLC1}
use Rattle.header.specs.Sizes.{most_slot_capacity, bucket_count}
use Rattle.listing.specs.Match.{agrees}
use Rattle.host.specs.Options.{options_of}
use Rattle.host.specs.Places.{total_of, key_place, index_place}
use Rattle.host.specs.Results.{reported, lookup_report, check_report, reported_listing, listing_report}
use Rattle.image.specs.Check.{Checked}
use Rattle.image.specs.Lookup.{Lookup}
use Rattle.listing.specs.Scan.{Outcome}
use Rattle.demands.specs.Examples.{bench}

-- a key of slot 3, with revision -7, found in the second bucket; one that is not there; a full check; a listing
abbrev pub third : Lookup
third = record { answer = 0; slot = 3; revision = negsuc 6; buckets = 2 }

abbrev pub absent : Lookup
absent = record { answer = 9; slot = 0; revision = pos 0; buckets = 4 }

abbrev pub checked : Checked
checked = record { answer = 0; live = 6; tombstones = 1; probes = 9 }

abbrev pub listed : Outcome
listed = record { listed = record { answer = 0; total = 6; written = 2 }; numbers = 1 ∷ 4 ∷ 7 ∷ [] }

pub record Pins : Type 0 where
  -- "little-endian": the first byte is the lowest
  pub word_of_stands : word (0x01 ∷ 0x02 ∷ 0x03 ∷ 0x04 ∷ []) ≡ 0x04030201
  pub bytes_of_lem : bytes_of 4 0x04030201 ≡ 0x01 ∷ 0x02 ∷ 0x03 ∷ 0x04 ∷ []
  -- "magic "SLC1"": the bytes of S, L, C and 1
  pub magic : bytes_of 4 SLC1 ≡ 0x53 ∷ 0x4C ∷ 0x43 ∷ 0x31 ∷ []
  -- "revision i64": two's complement
  pub signed_most : signed (2 ^ 63 - 1) ≡ pos (2 ^ 63 - 1)
  pub signed_least : signed (2 ^ 63) ≡ negsuc (2 ^ 63 - 1)
  pub signed_ones : signed (2 ^ 64 - 1) ≡ negsuc 0
  -- "key order": the first byte that differs decides, bytes being unsigned; a key is not below itself
  pub unsigned : below (0x7F ∷ 0xFF ∷ []) (0x80 ∷ 0x00 ∷ []) ≡ true
  pub unsigned_not : below (0x80 ∷ 0x00 ∷ []) (0x7F ∷ 0xFF ∷ []) ≡ false
  pub second_byte : below (0x41 ∷ 0x01 ∷ 0x09 ∷ []) (0x41 ∷ 0x02 ∷ 0x00 ∷ []) ≡ true
  pub first_byte : below (0x42 ∷ 0x00 ∷ []) (0x41 ∷ 0xFF ∷ []) ≡ false
  pub itself : below (0x41 ∷ 0x02 ∷ []) (0x41 ∷ 0x02 ∷ []) ≡ false
  -- the published vectors: FNV-1a of "foobar", CRC32-C of "123456789"
  pub fnv_foobar : fnv1a64 (0x66 ∷ 0x6F ∷ 0x6F ∷ 0x62 ∷ 0x61 ∷ 0x72 ∷ []) ≡ 0x85944171F73967E8
  pub crc_digits : crc32c (0x31 ∷ 0x32 ∷ 0x33 ∷ 0x34 ∷ 0x35 ∷ 0x36 ∷ 0x37 ∷ 0x38 ∷ 0x39 ∷ []) ≡ 0xE3069283
  -- "bucket_count B is the smallest power of two not below twice slot_capacity."
  pub power : (capacity : ℕ) → (k : ℕ) × (bucket_count capacity ≡ 2 ^ k)
  pub not_below : (capacity : ℕ) → capacity ≤ most_slot_capacity → 2 * capacity ≤ bucket_count capacity
  pub smallest : (capacity k : ℕ) → 2 * capacity ≤ 2 ^ k → bucket_count capacity ≤ 2 ^ k
  -- slot 1 of the bench's image starts at 312: its key 8 bytes on, its index behind meta, 12 bytes of key, 4 of padding and the
  -- revision
  pub key_place_stands : key_place bench 1 ≡ 320
  pub index_place_stands : index_place bench 1 ≡ 344
  -- with capacity 0, for any slot that an image may have; the total is not known (CR 10)
  pub last_place : key_place (options_of 12 20 0 1 0 0) 1048575 ≡ 58720464
  pub place_past : key_place (options_of 12 20 0 1 0 0) 1048576 ≡ 0
  pub total_0 : total_of (options_of 12 20 0 1 0 0) ≡ 0
  -- "a number of bits, most significant first, from a byte offset in the key"
  pub offset_bits : agrees 1 3 (0xA0 ∷ []) (0xFF ∷ 0xBF ∷ []) ≡ true
  pub offset_bits_not : agrees 1 3 (0xA0 ∷ []) (0xA0 ∷ 0x1F ∷ []) ≡ false
  -- all numbers of a call in one list: answer, slot, revision as two's complement, buckets; with 9 too; answer, live, tombstones,
  -- probes; answer, total, written beside the slots listed. The entry behind them stays, and a list that is too short is left
  -- alone, that of the slots too
  pub results_found : lookup_report third (5 ∷ 5 ∷ 5 ∷ 5 ∷ 5 ∷ []) ≡ reported 0 (0 ∷ 3 ∷ (2 ^ 64 - 7) ∷ 2 ∷ 5 ∷ [])
  pub results_absent : lookup_report absent (5 ∷ 5 ∷ 5 ∷ 5 ∷ []) ≡ reported 9 (9 ∷ 0 ∷ 0 ∷ 4 ∷ [])
  pub results_short : lookup_report third (5 ∷ 5 ∷ 5 ∷ []) ≡ reported 11 (5 ∷ 5 ∷ 5 ∷ [])
  pub results_checked : check_report checked (5 ∷ 5 ∷ 5 ∷ 5 ∷ []) ≡ reported 0 (0 ∷ 6 ∷ 1 ∷ 9 ∷ [])
  pub results_listed :
      listing_report listed (7 ∷ 7 ∷ 7 ∷ []) (5 ∷ 5 ∷ 5 ∷ []) ≡ reported_listing (reported 0 (0 ∷ 6 ∷ 2 ∷ [])) (1 ∷ 4 ∷ 7 ∷ [])
  pub results_unlisted :
      listing_report listed (7 ∷ 7 ∷ 7 ∷ []) (5 ∷ 5 ∷ []) ≡ reported_listing (reported 11 (5 ∷ 5 ∷ [])) (7 ∷ 7 ∷ 7 ∷ [])
