-- What one field written leaves: its value, every other field, and every byte behind the header.
-- Assumes nothing.
use Prim.Native.Nat.{ℕ, zero, suc, ◌+◌, ◌/◌, ◌%◌, ◌^◌, ◌≤◌, ◌<◌}
use mathlib.Core.Bool.{Bool, true, false, ◌||◌}
use mathlib.Core.Path.{◌≡◌, refl, sym, ap, ap₂, ◌∙◌}
use mathlib.Core.List.{List, ◌∷◌, ◌++◌, append_assoc}
use native.Mathlib.Decide.{dec_lt}
use native.Mathlib.Nat.{add-zero, div-one, mod-eq_of_lt}
use native.Mathlib.Omega.{arith}
use lib.Dec.{T, eqb, leb, leb→le}
use borrow.Author.Tests.{eqb-true, eqb-false}
use Rattle.std.specs.Int.{byte_at, bytes_low_first}
use Rattle.std.proofs.Math.Nat.{pow-suc, div-div-eq-div-mul}
use lib.ListN.{length, take, drop, get_or-eq_default}
use lib.Seq.{take-append-le, drop-append-le, take_all}
use Rattle.numbers.specs.Bytes.{part, word, bytes_of, put}
use Rattle.numbers.proofs.Put.{length_put}
use Rattle.numbers.proofs.PutPart.{part_put_before, part_put_after, part_put_in, length_bytes, word_bytes}
use Rattle.header.specs.Fields.{fields, field, field_of, bytes_in, value}
use Rattle.header.specs.declared.fields.Field.{Field}
use Rattle.header.proofs.Table.{inside, four_or_eight}
use Rattle.writing.specs.Write.{with_field}

-- where a field begins and ends
abbrev pub start : ℕ → ℕ
start name = (field_of name).offset

abbrev pub end : ℕ → ℕ
end name = (field_of name).offset + (field_of name).width

-- whether two fields have no byte in common
abbrev pub apart : ℕ → ℕ → Bool
apart m n = leb (end m) (start n) || leb (end n) (start m)

-- a number that a field can hold
abbrev pub Fits : ℕ → ℕ → Type 0
Fits name x = x < 256 ^ (field_of name).width

-- every field lies in the header; what is no field has no bytes
pub in_header : (name : ℕ) → end name ≤ 256
in_header name =
    elim (dec_lt name 23) [
      | yes h ↦ inside name h refl
      | no h ↦ rw (get_or-eq_default fields (field 0 0) {n = name} (omega arith)) (omega arith)
    ]

either : (a b : Bool) → T (a || b) → {P : Type 0} → (T a → P) → (T b → P) → P
either true b t f g = f tt
either false b t f g = g t

-- a put on a list with others behind it is a put on that list
pub put_append : (a b : List ℕ) (at : ℕ) (bs : List ℕ) → at + length bs ≤ length a → put (a ++ b) at bs ≡ put a at bs ++ b
unfolding put
put_append a b at bs h =
    let low : at ≤ length a = omega arith in
    rw (take-append-le at a b low, drop-append-le (at + length bs) a b h)
    (sym (append_assoc (take at a ++ bs) (drop (at + length bs) a) b))

module _ (image : List ℕ) (long : 256 ≤ length image) (name x : ℕ) where
  size : length (bytes_of (field_of name).width x) ≡ (field_of name).width
  size = length_bytes (field_of name).width x

  fits : start name + length (bytes_of (field_of name).width x) ≤ length image
  fits = rw size (omega (arith, in_header name))

  pub field_length : length (with_field image name x) ≡ length image
  unfolding with_field
  field_length = length_put image (start name) (bytes_of (field_of name).width x) fits

  -- a part that the field has no byte of
  pub field_before : (a n : ℕ) → a + n ≤ start name → part (with_field image name x) a n ≡ part image a n
  unfolding with_field
  field_before = part_put_before image (start name) (bytes_of (field_of name).width x) fits

  pub field_after : (a n : ℕ) → end name ≤ a → part (with_field image name x) a n ≡ part image a n
  unfolding with_field
  field_after a n h = part_put_after image (start name) (bytes_of (field_of name).width x) fits a n (rw size h)

  -- the bytes behind the header stay
  pub field_behind : (a n : ℕ) → 256 ≤ a → part (with_field image name x) a n ≡ part image a n
  field_behind a n h = field_after a n (omega (arith, in_header name))

  -- the bytes and the value of another field stay
  pub field_bytes : (m : ℕ) → T (apart m name) → bytes_in (with_field image name x) m ≡ bytes_in image m
  unfolding bytes_in
  field_bytes m t =
      either (leb (end m) (start name)) (leb (end name) (start m)) t
      (λ h. field_before (start m) (field_of m).width (leb→le (end m) (start name) h))
      (λ h. field_after (start m) (field_of m).width (leb→le (end name) (start m) h))

  pub field_other : (m : ℕ) → T (apart m name) → value (with_field image name x) m ≡ value image m
  unfolding value
  field_other m t = ap word (field_bytes m t)

  -- the value written is read back
  pub field_same : Fits name x → value (with_field image name x) name ≡ x
  unfolding value bytes_in with_field part
  field_same h =
      let n : ℕ = (field_of name).width in
      let b : List ℕ = bytes_of n x in
      let e : part (put image (start name) b) (start name) n ≡ b =
      rw add-zero at (part_put_in image (start name) b fits 0 n (rw size (omega arith)))
      ∙ take_all n b (rw size (omega arith)) in
      ap word e ∙ word_bytes n x ∙ mod-eq_of_lt h

  -- a list with other bytes behind it
  pub field_append : (b : List ℕ) → with_field (image ++ b) name x ≡ with_field image name x ++ b
  unfolding with_field
  field_append b = put_append image b (start name) (bytes_of (field_of name).width x) fits

-- a byte of a number, and what is left of it behind that byte
byte : (i x : ℕ) → byte_at i x ≡ x / 256 ^ i % 256
byte zero x = ap (λ (n : ℕ). n % 256) (sym (div-one x))
byte (suc i) x = refl

-- the lowest bytes of a number, which a word of eight shows
low_bytes : (n k i x : ℕ) → n ≤ k → take n (bytes_low_first i k x) ≡ bytes_of n (x / 256 ^ i)
unfolding bytes_of
low_bytes zero k i x h = refl
low_bytes (suc n) zero i x h = absurd (omega arith)
low_bytes (suc n) (suc k) i x h =
    ap₂ (λ (b : ℕ) (bs : List ℕ). b ∷ bs) (byte i x)
    (low_bytes n k (suc i) x (omega arith)
    ∙ ap (bytes_of n) (ap (λ (p : ℕ). x / p) (pow-suc 256 i) ∙ sym (div-div-eq-div-mul x (256 ^ i) 256)))

-- a field that holds a number has at most eight bytes
pub number_width : (name : ℕ) {f : Field} → name < 21 → f ≡ field_of name → f.width ≤ 8
number_width name {f} h e = go (eqb f.width 4) refl
  where
    go : (t : Bool) → eqb f.width 4 ≡ t → f.width ≤ 8
    go true four = omega (arith, eqb-true f.width 4 four)
    go false other = omega (arith, four_or_eight name h e (eqb-false f.width 4 other))

-- the lowest bytes of a number, put where the table has the field
pub number_written : (image : List ℕ) (name x : ℕ) {f : Field} {r bs : List ℕ} → f ≡ field_of name → f.width ≤ 8
    → bs ≡ bytes_low_first 0 8 x → r ≡ put image f.offset (take f.width bs) → r ≡ with_field image name x
unfolding with_field
number_written image name x {f} e h b p =
    p ∙ ap (λ (l : List ℕ). put image f.offset (take f.width l)) b
    ∙ ap (put image f.offset) (low_bytes f.width 8 0 x h ∙ ap (bytes_of f.width) (div-one x))
    ∙ ap (λ (g : Field). put image g.offset (bytes_of g.width x)) e
