-- What it says of an image that a test of the header test passed.
-- Assumes nothing.
use Prim.Native.Nat.{ℕ, ◌+◌, ◌^◌, ◌≤◌, ◌<◌}
use mathlib.Core.Bool.{Bool, true, false, not, ◌&&◌, ◌||◌, and-eq-true_iff}
use mathlib.Core.Path.{◌≡◌, refl}
use mathlib.Core.List.{List, [], ◌∷◌}
use native.Mathlib.Omega.{arith}
use borrow.Author.Tests.{eqb-true, leb-true, ltb-true, ltb-false, le-ltb, not-false}
use lib.Dec.{eqb, leb, ltb}
use lib.ListN.{length}
use Rattle.header.specs.declared.options.Options.{Options}
use Rattle.header.specs.Fields as F
use Rattle.header.specs.Fields.{value}
use Rattle.header.specs.FirstOf.{first_of}
use Rattle.header.specs.State.{with_role}
use Rattle.header.specs.Sizes.{most_bucket_count, sizes_to_open, sizes_to_create, capacity_fits, slot_size, buckets_offset, total}
use Rattle.header.specs.HeaderTest.{power_of_two, options_test, test1, create_test1, test2, test8, test9, image_total, test10, test11}
use Rattle.header.proofs.Firsts.{first_none, fails, neither}
use Rattle.header.proofs.Allowed.{Allowed, Sized, sized, capacity_within}
use Rattle.header.proofs.SizeLaws.{slot_size_limit, offset_limit}

-- "Options outside the sizes, ordered above 1, or role above 2": none of these
module _ (inside : Bool) (o : Options) (z : first_of (options_test inside o) ≡ 0) where
  in_range : (not inside || ltb 1 o.ordered ≡ false) × (ltb 2 o.role ≡ false)
  in_range =
      neither (not inside || ltb 1 o.ordered) (ltb 2 o.role) (fails (not inside || ltb 1 o.ordered || ltb 2 o.role) 6 z)

  inside_passed : inside ≡ true
  inside_passed = not-false inside (neither (not inside) (ltb 1 o.ordered) in_range.0).0

  ordered_in_range : o.ordered ≤ 1
  ordered_in_range = ltb-false 1 o.ordered (neither (not inside) (ltb 1 o.ordered) in_range.0).1

  role_in_range : o.role ≤ 2
  role_in_range = ltb-false 2 o.role in_range.1

-- for the calls that open an image
module _ (o : Options) (z : first_of (test1 o) ≡ 0) where
  pub allowed_passed : sizes_to_open o ≡ true
  unfolding test1
  allowed_passed = inside_passed (sizes_to_open o) o z

  pub role_passed : o.role ≤ 2
  unfolding test1
  role_passed = role_in_range (sizes_to_open o) o z

-- and for create
module _ (o : Options) (z : first_of (create_test1 o) ≡ 0) where
  pub create_allowed : sizes_to_create o ≡ true
  unfolding create_test1
  create_allowed = inside_passed (sizes_to_create o) o z

  pub create_sized : Sized o
  create_sized = sized o create_allowed

  pub create_ordered : o.ordered ≤ 1
  unfolding create_test1
  create_ordered = ordered_in_range (sizes_to_create o) o z

  pub create_role : o.role ≤ 2
  unfolding create_test1
  create_role = role_in_range (sizes_to_create o) o z

  -- what passes here passes there, under any role
  pub create_opens : (role : ℕ) → role ≤ 2 → first_of (test1 (with_role o role)) ≡ 0
  unfolding test1 first_of sizes_to_open
  create_opens role low = rw (create_sized.opens, le-ltb 1 o.ordered create_ordered, le-ltb 2 role low) refl

-- "Length 0", "Length 1 to 255": neither
pub length_passed : (image : List ℕ) → first_of (test2 image) ≡ 0 → 256 ≤ length image
unfolding test2
length_passed image z =
    let short : Bool = ltb (length image) 256 in
    ltb-false (length image) 256 (fails short 0 (first_none ((eqb (length image) 0, 10) ∷ []) ((short, 1) ∷ []) tt z).1)

-- "An offset wrong, or a length other than the total" (CR 8): neither
pub extent_passed : (image : List ℕ) → first_of (test10 image) ≡ 0
    → (value image F.buckets_offset_field ≡ buckets_offset (value image F.slot_capacity_field) (value image F.slot_size_field))
    × (length image ≡ image_total image)
unfolding test10
extent_passed image z =
    let s : Bool = eqb (value image F.slots_offset) 256 in
    let b : Bool = eqb (value image F.buckets_offset_field) (buckets_offset (value image F.slot_capacity_field) (value image F.slot_size_field)) in
    let l : Bool = eqb (length image) (image_total image) in
    let p = neither (not (s && b)) (not l) (fails (not (s && b) || not l) 0 z) in
    (eqb-true _ _ ((and-eq-true_iff s b).0 (not-false (s && b) p.0)).1, eqb-true _ _ (not-false l p.1))

-- "live_count = bucket_used, and bucket_used + bucket_tombstones <= slot_highwater <= slot_capacity"
pub counters_passed : (image : List ℕ) → first_of (test11 image) ≡ 0
    → (value image F.live_count_field + value image F.bucket_tombstones ≤ value image F.slot_highwater)
    × (value image F.slot_highwater ≤ value image F.slot_capacity_field) × (value image F.live_count_field ≡ value image F.bucket_used)
unfolding test11
counters_passed image z =
    let l : Bool = eqb (value image F.live_count_field) (value image F.bucket_used) in
    let u : Bool = leb (value image F.bucket_used + value image F.bucket_tombstones) (value image F.slot_highwater) in
    let h : Bool = leb (value image F.slot_highwater) (value image F.slot_capacity_field) in
    let p = (and-eq-true_iff (l && u) h).0 (not-false (l && u && h) (fails (not (l && u && h)) 0 z)) in
    let q = (and-eq-true_iff l u).0 p.0 in
    let e : value image F.live_count_field ≡ value image F.bucket_used = eqb-true _ _ q.0 in
    (rw e (leb-true _ _ q.1), leb-true _ _ p.1, e)

module _ (o : Options) (image : List ℕ) where
  -- "key_size, index_size, slot_size, slot_capacity, user_version or ordered flag not as the options say" (CR 10): none of these
  pub record Agreed : Type 0 where
    pub key : value image F.key_size_field ≡ o.key_size
    pub index : value image F.index_size_field ≡ o.index_size
    pub slot : value image F.slot_size_field ≡ slot_size o.key_size o.index_size
    pub capacity : capacity_fits o.slot_capacity (value image F.slot_capacity_field) ≡ true
    pub version : value image F.user_version ≡ o.user_version
    pub flag : value image F.flags ≡ o.ordered

  pub agreed : first_of (test8 o image) ≡ 0 → Agreed
  unfolding test8
  agreed z =
      let k : Bool = eqb (value image F.key_size_field) o.key_size in
      let i : Bool = eqb (value image F.index_size_field) o.index_size in
      let s : Bool = eqb (value image F.slot_size_field) (slot_size o.key_size o.index_size) in
      let c : Bool = capacity_fits o.slot_capacity (value image F.slot_capacity_field) in
      let v : Bool = eqb (value image F.user_version) o.user_version in
      let f : Bool = eqb (value image F.flags) o.ordered in
      let t = not-false (k && i && s && c && v && f) (fails (not (k && i && s && c && v && f)) 1 z) in
      let p₅ = (and-eq-true_iff (k && i && s && c && v) f).0 t in
      let p₄ = (and-eq-true_iff (k && i && s && c) v).0 p₅.0 in
      let p₃ = (and-eq-true_iff (k && i && s) c).0 p₄.0 in
      let p₂ = (and-eq-true_iff (k && i) s).0 p₃.0 in
      let p₁ = (and-eq-true_iff k i).0 p₂.0 in
      record {
        key = eqb-true _ _ p₁.0;
        index = eqb-true _ _ p₁.1;
        slot = eqb-true _ _ p₂.1;
        capacity = p₃.1;
        version = eqb-true _ _ p₄.1;
        flag = eqb-true _ _ p₅.1;
      }

-- "B may be any power of two above slot_capacity, up to 4,194,304" (CR 10)
pub record Powered (image : List ℕ) : Type 0 where
  pub power : power_of_two (value image F.bucket_count_field) ≡ true
  pub above : value image F.slot_capacity_field < value image F.bucket_count_field
  pub most : value image F.bucket_count_field ≤ most_bucket_count

pub powered : (image : List ℕ) → first_of (test9 image) ≡ 0 → Powered image
unfolding test9
powered image z =
    let p : Bool = power_of_two (value image F.bucket_count_field) in
    let larger : Bool = ltb most_bucket_count (value image F.bucket_count_field) in
    let higher : Bool = ltb (value image F.slot_capacity_field) (value image F.bucket_count_field) in
    let both = first_none ((p && larger, 2) ∷ []) ((not (p && higher), 1) ∷ []) tt z in
    let good = (and-eq-true_iff p higher).0 (not-false (p && higher) (fails (not (p && higher)) 0 both.1)) in
    record {
      power = good.0;
      above = ltb-true _ _ good.1;
      most = ltb-false most_bucket_count _ (rw good.0 at (fails (p && larger) 1 both.0));
    }

-- where tests 8 and 9 passed, the total is far below 64 bits
pub total_fits : (o : Options) (image : List ℕ) → Allowed o → first_of (test8 o image) ≡ 0 → first_of (test9 image) ≡ 0 → image_total image < 2 ^ 64
unfolding image_total total
total_fits o image h eighth ninth =
    let a = agreed o image eighth in
    let offset =
    offset_limit (value image F.slot_capacity_field) (value image F.slot_size_field) (capacity_within o.slot_capacity (value image F.slot_capacity_field) h.capacity_high a.capacity).1
    (rw a.slot (slot_size_limit o.key_size o.index_size h.key_high h.index_high))
    in
    omega (arith, offset, (powered image ninth).most)
