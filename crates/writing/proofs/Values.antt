-- The value of a field in an image of bytes.
-- Assumes nothing.
use Prim.Native.Nat.{ℕ, ◌≤◌}
use mathlib.Core.Path.{◌≡◌}
use mathlib.Core.List.{List}
use native.Mathlib.Omega.{arith}
use lib.ListN.{length, drop}
use Rattle.numbers.specs.Bytes.{Bytes, part, bytes_of}
use Rattle.numbers.proofs.Bytes.{take_bytes, drop_bytes, word_bound, bytes_word}
use Rattle.numbers.proofs.Put.{length_part}
use Rattle.header.specs.Fields.{bytes_in, value, field_of}
use Rattle.writing.proofs.OneField.{Fits, in_header}

module _ (image : List ℕ) (h : Bytes image) (long : 256 ≤ length image) (name : ℕ) where
  field_size : length (bytes_in image name) ≡ (field_of name).width
  unfolding bytes_in
  field_size = length_part image (field_of name).offset (field_of name).width (omega (arith, in_header name))

  field_holds : Bytes (bytes_in image name)
  unfolding bytes_in part
  field_holds =
      take_bytes (field_of name).width (drop (field_of name).offset image) (drop_bytes (field_of name).offset image h)

  -- the value of a field is one that it can hold
  pub value_bound : Fits name (value image name)
  unfolding value
  value_bound = rw field_size at (word_bound (bytes_in image name) field_holds)

  -- and says which bytes the field has
  pub value_bytes : bytes_of (field_of name).width (value image name) ≡ bytes_in image name
  unfolding value
  value_bytes = rw field_size at (bytes_word (bytes_in image name) field_holds)
