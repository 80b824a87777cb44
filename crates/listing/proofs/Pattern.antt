-- When a pattern is wrong, and what is known of one that is not.
-- Assumes nothing.
use Prim.Native.Nat.{ℕ, ◌+◌, ◌*◌, ◌-◌, ◌/◌, ◌≤◌}
use mathlib.Core.Bool.{Bool, true, false, not, ◌||◌}
use mathlib.Core.Path.{◌≡◌, refl, sym}
use mathlib.Core.List.{List}
use native.Mathlib.Omega.{arith}
use borrow.Author.Tests.{eqb-true, eqb-false, eq-eqb, ne_eqb, ltb-true, ltb-false, lt-ltb, le-ltb, not-false}
use lib.Dec.{eqb, ltb}
use lib.ListN.{length}
use Rattle.header.specs.declared.shape.Shape.{Shape}
use Rattle.header.proofs.Firsts.{neither}
use Rattle.listing.specs.Match.{bits_compared, pattern_wrong}
use Rattle.listing.specs.Select.{RightPattern}

-- the bits that are compared: with 0 the whole pattern's, else those asked for
pub compared_all : (bits : ℕ) (pattern : List ℕ) → bits ≡ 0 → 8 * length pattern ≡ bits_compared bits pattern
unfolding bits_compared
compared_all bits pattern z = rw (eq-eqb bits 0 z) refl

pub compared_asked : (bits : ℕ) (pattern : List ℕ) → (bits ≡ 0 → ⊥) → bits ≡ bits_compared bits pattern
unfolding bits_compared
compared_asked bits pattern some = rw (ne_eqb bits 0 some) refl

-- no sum is needed to see that a part ends past k
pub past : (k l o : ℕ) → l ≤ k → ltb (k - l) o ≡ ltb k (o + l)
past k l o h = go (ltb (k - l) o) refl
  where
    go : (t : Bool) → ltb (k - l) o ≡ t → t ≡ ltb k (o + l)
    go true e = let m = ltb-true (k - l) o e in sym (lt-ltb k (o + l) (omega arith))
    go false e = let m = ltb-false (k - l) o e in sym (le-ltb k (o + l) (omega arith))

or_true : (t : Bool) → (t || true) ≡ true
or_true true = refl
or_true false = refl

module _ (s : Shape) (offset bits : ℕ) (pattern : List ℕ) where
  -- "the pattern's length differs, or it runs past the key"
  pub wrong_past : ltb s.layout.key_size (offset + length pattern) ≡ true → pattern_wrong s offset bits pattern ≡ true
  unfolding pattern_wrong
  wrong_past e = rw e (or_true (eqb bits 0 || not (eqb (length pattern) ((bits + 7) / 8))))

  pub wrong_length : (eqb bits 0 || not (eqb (length pattern) ((bits + 7) / 8))) ≡ true → pattern_wrong s offset bits pattern ≡ true
  unfolding pattern_wrong
  wrong_length e = rw e refl

  -- neither: the pattern is not wrong
  pub right :
      ltb s.layout.key_size (offset + length pattern) ≡ false
      → (eqb bits 0 || not (eqb (length pattern) ((bits + 7) / 8))) ≡ false
      → pattern_wrong s offset bits pattern ≡ false
  unfolding pattern_wrong
  right e f = rw (e, f) refl

  -- a pattern that is not wrong has bits to compare, and fits the keys
  module _ (e : pattern_wrong s offset bits pattern ≡ false) where
    bytes : Bool
    bytes = eqb (length pattern) ((bits + 7) / 8)

    tests : (eqb bits 0 ≡ false) × (not bytes ≡ false) × (ltb s.layout.key_size (offset + length pattern) ≡ false)
    unfolding pattern_wrong bytes
    tests =
        let n = neither (eqb bits 0 || not bytes) (ltb s.layout.key_size (offset + length pattern)) e in
        let m = neither (eqb bits 0) (not bytes) n.0 in
        (m.0, m.1, n.1)

    pub not_none : bits ≡ 0 → ⊥
    not_none = eqb-false bits 0 tests.0

    pub not_wrong : RightPattern s.layout.key_size offset bits pattern
    unfolding bytes
    not_wrong =
        record {
          bytes = eqb-true (length pattern) ((bits + 7) / 8) (not-false _ tests.1);
          inside = ltb-false s.layout.key_size (offset + length pattern) tests.2;
        }
