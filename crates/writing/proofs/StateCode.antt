-- What the steps of the state calls leave, one after the other.
-- Assumes nothing.
use Prim.Native.Nat.{ℕ, ◌+◌, ◌≤◌}
use mathlib.Core.Path.{◌≡◌, refl, ap, ◌∙◌}
use mathlib.Core.List.{List, [], ◌∷◌}
use native.Mathlib.Omega.{arith}
use borrow.Author.Tests.{eq-eqb, ne_eqb}
use lib.ListN.{length}
use Rattle.numbers.specs.Bytes.{word}
use Rattle.numbers.proofs.PutPart.{part_put_before}
use Rattle.header.specs.Fields as F
use Rattle.header.specs.Fields.{value, bytes_in}
use Rattle.writing.specs.Write.{with_field, with_fields, sealed}
use Rattle.writing.specs.State.{in_state, published, with_user_data}

-- the state changed, or left as it is
module _ (image : List ℕ) (from to : ℕ) (e : from ≡ value image F.state) where
  pub turned : {a b : List ℕ} → (from ≡ to → ⊥) → a ≡ with_field image F.state to → b ≡ sealed a → b ≡ in_state image to
  unfolding in_state
  turned other ea eb = rw (← e, ne_eqb from to other) (eb ∙ ap sealed ea)

  pub stayed : from ≡ to → image ≡ in_state image to
  unfolding in_state
  stayed same = rw (← e, eq-eqb from to same) refl

-- a field written, the last one or before others
module _ (n x : ℕ) (a : List ℕ) {b : List ℕ} (e : b ≡ with_field a n x) where
  pub wrote_last : b ≡ with_fields a ((n, x) ∷ [])
  unfolding with_fields
  wrote_last = e

  pub wrote_before : (fs : List (ℕ × ℕ)) → with_fields b fs ≡ with_fields a ((n, x) ∷ fs)
  unfolding with_fields
  wrote_before fs = ap (λ (l : List ℕ). with_fields l fs) e

-- the generation moved on, fields written, and the CRC renewed
pub publishes : (image : List ℕ) (fs : List (ℕ × ℕ)) {g : ℕ} {a b c : List ℕ}
    → g ≡ value image F.generation → a ≡ with_field image F.generation (g + 2) → b ≡ with_fields a fs → c ≡ sealed b → c ≡ published image fs
unfolding published
publishes image fs eg ea eb ec =
    let moved = ap (λ (g : ℕ). with_field image F.generation (g + 2)) eg in
    ec ∙ ap sealed (eb ∙ wrote_before F.generation (value image F.generation + 2) image (ea ∙ moved) fs)

-- user data leave the generation alone
pub user_data_generation : (image bytes : List ℕ) → 256 ≤ length image → length bytes ≡ 64
    → value (with_user_data image bytes) F.generation ≡ value image F.generation
unfolding value bytes_in with_user_data
user_data_generation image bytes long n = ap word (part_put_before image 0x80 bytes (omega arith) 0x40 8 (omega arith))
