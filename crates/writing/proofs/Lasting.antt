-- What lasts through a change of state and of user fields, and that the header test passes as before but for the state.
-- Assumes nothing.
use Prim.Native.Nat.{ℕ, ◌%◌, ◌≤◌}
use mathlib.Core.Bool.{Bool, true, not, ◌&&◌, ◌||◌}
use mathlib.Core.Path.{◌≡◌, refl, ap, ◌∙◌}
use mathlib.Core.List.{List, [], ◌∷◌}
use native.Mathlib.Omega.{arith}
use borrow.Author.Tests.{eq-eqb, le-ltb}
use lib.Dec.{T, T_not, eqb, ltb}
use lib.ListN.{length}
use Rattle.numbers.specs.Bytes.{part, word, all_zero}
use Rattle.digests.specs.Crc.{header_crc}
use Rattle.header.specs.declared.options.Options.{Options}
use Rattle.header.specs.Fields as F
use Rattle.header.specs.Fields.{bytes_in, value}
use Rattle.header.specs.FirstOf.{first_of}
use Rattle.header.specs.State.{with_role}
use Rattle.header.specs.HeaderTest.{test1, test2, test3, test4, test5, test6, test8, test9, image_total, test10, test11, header_test}
use Rattle.header.specs.Sizes.{sizes_to_open}
use Rattle.header.proofs.Firsts.{fails, neither}
use Rattle.writing.specs.Write.{with_fields, sealed}
use Rattle.writing.proofs.OneField.{apart}
use Rattle.writing.proofs.FieldList.{together, both, misses, fields_apart, fields_length, fields_bytes, fields_behind}
use Rattle.writing.proofs.Seal.{seal_length, seal_bytes, seal_behind}
use Rattle.writing.proofs.Tests.{Holds, state_tests, header_by_state}

-- test 1 does not ask which of the three roles it is
pub any_role : (o : Options) (role : ℕ) → role ≤ 2 → first_of (test1 o) ≡ 0 → first_of (test1 (with_role o role)) ≡ 0
unfolding test1 sizes_to_open first_of
any_role o role low z =
    let other : Bool = not (sizes_to_open o) || ltb 1 o.ordered in
    let p = (neither other (ltb 2 o.role) (fails (other || ltb 2 o.role) 6 z)).0 in
    rw (p, le-ltb 2 role low) refl

-- whether a field is none of generation, CRC, state and the user fields
abbrev pub lasting : ℕ → Bool
lasting m = not (eqb m F.generation || eqb m F.header_crc32c || eqb m F.state || eqb m F.user_flags || eqb m F.user_data)

pub record Kept (image image' : List ℕ) : Type 0 where
  pub same_length : length image' ≡ length image
  pub same_bytes : (m : ℕ) → T (lasting m) → bytes_in image' m ≡ bytes_in image m
  pub behind : (a n : ℕ) → 256 ≤ a → part image' a n ≡ part image a n

pub kept_value : {image image' : List ℕ} → Kept image image' → (m : ℕ) → T (lasting m) → value image' m ≡ value image m
unfolding value
kept_value k m t = ap word (k.same_bytes m t)

-- whether a list writes only fields that do not last
abbrev pub passing : List (ℕ × ℕ) → Bool
passing [] = true
passing (f ∷ fs) = not (lasting f.0) && passing fs

differs : (m n : ℕ) → T (lasting m) → T (not (lasting n)) → m ≡ n → ⊥
differs m n t f e = T_not (lasting n) f (rw e at t)

passed_by : (fs : List (ℕ × ℕ)) (m : ℕ) → T (passing fs) → T (lasting m) → T (misses fs m)
passed_by [] m p t = tt
passed_by (f ∷ fs) m p t =
    let q = both (not (lasting f.0)) (passing fs) p in
    together (apart m f.0) (misses fs m) (fields_apart m f.0 (differs m f.0 t q.0)) (passed_by fs m q.1 t)

pub kept_written : (fs : List (ℕ × ℕ)) (image : List ℕ) → 256 ≤ length image → T (passing fs) → Kept image (sealed (with_fields image fs))
kept_written fs image long p =
    let e = fields_length fs image long in
    let long' : 256 ≤ length (with_fields image fs) = omega arith in
    record {
      same_length = seal_length (with_fields image fs) long' ∙ e;
      same_bytes = λ m t.
          seal_bytes (with_fields image fs) long' m (fields_apart m F.header_crc32c (differs m F.header_crc32c t tt))
          ∙ fields_bytes fs image long m (passed_by fs m p t);
      behind = λ a n h. seal_behind (with_fields image fs) long' a n h ∙ fields_behind fs image long a n h;
    }

module _ (o : Options) (image image' : List ℕ) (kept : Kept image image') (holds : Holds o image) where
  v : (m : ℕ) → T (lasting m) → value image' m ≡ value image m
  v = kept_value kept

  second' : first_of (test2 image') ≡ 0
  unfolding test2
  second' = rw kept.same_length holds.second

  third' : first_of (test3 image') ≡ 0
  unfolding test3
  third' = rw (v F.magic tt, v F.version tt, v F.header_size tt, v F.hash_alg tt) holds.third

  fourth' : (role : ℕ) → value image' F.generation % 2 ≡ 0 → first_of (test4 (with_role o role) image') ≡ 0
  unfolding test4 first_of
  fourth' role e = rw e refl

  fifth' : value image' F.header_crc32c ≡ header_crc image' → first_of (test5 image') ≡ 0
  unfolding test5 first_of
  fifth' e = rw (eq-eqb (value image' F.header_crc32c) (header_crc image') e) refl

  sixth' : value image' F.state ≤ 2 → first_of (test6 image') ≡ 0
  unfolding test6 first_of
  sixth' low =
      let fs : Bool = ltb 1 (value image F.flags) || not (all_zero (bytes_in image F.reserved)) in
      let p = (neither fs (ltb 2 (value image F.state)) (fails (fs || ltb 2 (value image F.state)) 1 holds.sixth)).0 in
      rw (v F.flags tt, kept.same_bytes F.reserved tt, p, le-ltb 2 (value image' F.state) low) refl

  eighth' : (role : ℕ) → first_of (test8 (with_role o role) image') ≡ 0
  unfolding test8
  eighth' role =
      rw (v F.key_size_field tt, v F.index_size_field tt, v F.slot_size_field tt, v F.slot_capacity_field tt, v F.user_version tt, v F.flags tt) holds.eighth

  ninth' : first_of (test9 image') ≡ 0
  unfolding test9
  ninth' = rw (v F.bucket_count_field tt, v F.slot_capacity_field tt) holds.ninth

  tenth' : first_of (test10 image') ≡ 0
  unfolding test10 image_total
  tenth' =
      rw (v F.slots_offset tt, v F.buckets_offset_field tt, v F.slot_capacity_field tt, v F.slot_size_field tt, v F.bucket_count_field tt, kept.same_length) holds.tenth

  eleventh' : first_of (test11 image') ≡ 0
  unfolding test11
  eleventh' =
      rw (v F.live_count_field tt, v F.bucket_used tt, v F.bucket_tombstones tt, v F.slot_highwater tt, v F.slot_capacity_field tt) holds.eleventh

  -- the header test of the changed image, under any role
  pub header_kept : (role : ℕ) → role ≤ 2 → value image' F.generation % 2 ≡ 0 → value image' F.header_crc32c ≡ header_crc image'
      → value image' F.state ≤ 2 → header_test (with_role o role) image' ≡ first_of (state_tests role (value image' F.state))
  header_kept role low even crc state =
      header_by_state (with_role o role) image'
      (record {
        first = any_role o role low holds.first;
        second = second';
        third = third';
        fourth = fourth' role even;
        fifth = fifth' crc;
        sixth = sixth' state;
        eighth = eighth' role;
        ninth = ninth';
        tenth = tenth';
        eleventh = eleventh';
      })
