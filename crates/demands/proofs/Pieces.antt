-- A listing with a skip, a limit and a list is a piece of the listing that leaves none out.
-- Assumes nothing.
use Prim.Native.Nat.{ℕ, ◌+◌, ◌-◌, ◌≤◌, ◌<◌}
use mathlib.Core.Path.{◌≡◌, refl, sym, ap, ◌∙◌}
use mathlib.Core.List.{List}
use native.Mathlib.Decide.{dec_lt}
use native.Mathlib.Omega.{arith}
use lib.ListN.{length, get_or, take, drop, length-append, length-take, length-drop, get_or-append}
use lib.Seq.{get_or-append-add, get_or-take, get_or-drop}
use Rattle.listing.specs.Scan.{Outcome, list}
use Rattle.listing.proofs.Listing.{accepted, list_short, list_fits}
use Rattle.demands.specs.Listings.{entry, to_write, Piece}

-- the entries that an accepted listing leaves: those after the skip, and then those that were there
module _ (all : List ℕ) (skip : ℕ) (numbers : List ℕ) (count : ℕ) (few : count ≤ length all - skip) (room : count ≤ length numbers) where
  abbrev left : Outcome
  left = accepted all skip numbers (length all) count

  abbrev front : List ℕ
  front = take count (drop skip all)

  front_length : length front ≡ count
  front_length = length-take count (drop skip all) ∙ omega (arith, length-drop skip all)

  pub entry_written : (i : ℕ) → i < count → entry left i ≡ get_or all (skip + i) 0
  entry_written i h =
      get_or-append front (drop count numbers) 0 i (rw front_length h) ∙ get_or-take count (drop skip all) i 0 h ∙ get_or-drop skip all i 0

  entry_past : (i : ℕ) → count ≤ i → entry left i ≡ get_or numbers i 0
  entry_past i h =
      let from : i ≡ length front + (i - count) = omega (arith, front_length) in
      let to : count + (i - count) ≡ i = omega arith in
      ap (entry left) from ∙ get_or-append-add front (drop count numbers) (i - count) 0 ∙ get_or-drop count numbers (i - count) 0
      ∙ ap (λ (k : ℕ). get_or numbers k 0) to

  same_size : length left.numbers ≡ length numbers
  same_size = rw (length-append, front_length, length-drop) (omega arith)

-- the listing that leaves none out, where limit and list have room for it
abbrev pub whole_list : List ℕ → List ℕ → Outcome
whole_list all numbers = accepted all 0 numbers (length all) (length all)

pub whole_list_lem : (all : List ℕ) (limit : ℕ) (numbers : List ℕ) → length all ≤ limit → length all ≤ length numbers
    → list all 0 limit numbers ≡ whole_list all numbers
whole_list_lem all limit numbers high long = sym (list_fits all 0 limit numbers (length all) (length all) refl (omega arith) long)

pub whole_entry : (all numbers : List ℕ) → length all ≤ length numbers → (i : ℕ) → i < length all
    → entry (whole_list all numbers) i ≡ get_or all i 0
whole_entry all numbers long i h =
    let e : 0 + i ≡ i = omega arith in
    entry_written all 0 numbers (length all) (omega arith) long i h ∙ ap (λ (k : ℕ). get_or all k 0) e

module _ (all : List ℕ) (most : ℕ) (room : List ℕ) (high : length all ≤ most) (long : length all ≤ length room) (skip limit : ℕ) (numbers : List ℕ) where
  abbrev count : ℕ
  count = to_write (length all) skip limit

  piece : Piece (whole_list all room) skip limit numbers (list all skip limit numbers)
  piece = go (dec_lt (length numbers) count)
    where
      go : Dec (length numbers < count) → Piece (whole_list all room) skip limit numbers (list all skip limit numbers)
      go (yes short) =
          rw (← list_short all skip limit numbers (length all) count refl refl short)
          (record {
            short = (λ a. short, λ l. refl);
            answers = (λ a. absurd (omega (arith, a)), λ l. absurd (omega arith));
            total = λ a. absurd (omega (arith, a));
            written = λ a. absurd (omega (arith, a));
            entries = λ a. absurd (omega (arith, a));
            rest = λ a. absurd (omega (arith, a));
            size = refl;
          })
      go (no enough) =
          let fits : count ≤ length numbers = omega arith in
          let few : count ≤ length all - skip = omega arith in
          rw (← list_fits all skip limit numbers (length all) count refl refl fits)
          (record {
            short = (λ a. absurd (omega (arith, a)), λ l. absurd (omega arith));
            answers = (λ a. fits, λ l. refl);
            total = λ a. refl;
            written = λ a. refl;
            entries = λ a i h. entry_written all skip numbers count few fits i h ∙ sym (whole_entry all room long (skip + i) (omega arith));
            rest = λ a. entry_past all skip numbers count few fits;
            size = same_size all skip numbers count few fits;
          })

  pub pieces : Piece (list all 0 most room) skip limit numbers (list all skip limit numbers)
  pieces = rw (whole_list_lem all most room high long) piece
