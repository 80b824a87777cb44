-- Header fields written, and what a call that writes leaves behind.
-- Assumes nothing.
use Rattle.std.specs.Prelude.{ℕ, zero, suc, ◌≡◌, List, [], ◌∷◌}
use Rattle.numbers.specs.Bytes.{bytes_of, put}
use Rattle.digests.specs.Crc.{header_crc}
use Rattle.header.specs.Fields as F
use Rattle.header.specs.Fields.{field_of}

-- an image with the value of one field replaced, and with several
unfoldable pub with_field : List ℕ → ℕ → ℕ → List ℕ
with_field image name x = put image (field_of name).offset (bytes_of (field_of name).width x)

unfoldable pub with_fields : List ℕ → List (ℕ × ℕ) → List ℕ
with_fields image [] = image
with_fields image (f ∷ fs) = with_fields (with_field image f.0 f.1) fs

-- "Every change of state or fields renews the CRC."
unfoldable pub sealed : List ℕ → List ℕ
sealed image = with_field image F.header_crc32c (header_crc image)

-- What a writing call answers, and the image that it leaves.
pub record Written : Type 0 where
  pub answer : ℕ
  pub image : List ℕ

-- the call answers what is written there, and leaves that image
abbrev pub Leaves : Written → ℕ → List ℕ → Type 0
Leaves w answer image = (answer ≡ w.answer) × (image ≡ w.image)

-- by the number of the first test that holds: done, or "Any number but 0 leaves every lent byte alone"
abbrev pub unless : ℕ → List ℕ → List ℕ → Written
unless zero image changed = record { answer = 0; image = changed }
unless (suc n) image changed = record { answer = suc n; image = image }
