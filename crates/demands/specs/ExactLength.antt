-- "CR 8. Exact length.": what passes the header test has its total's length, and what an image of any other length is answered.
-- Assumes nothing.
use Rattle.std.specs.Prelude.{ℕ, ◌≤◌, ◌<◌, ◌≡◌, true, List, [], ◌∷◌, ◌++◌, length, take}
use Rattle.header.specs.declared.options.Options.{Options}
use Rattle.header.specs.declared.open.UserFields.{UserFields}
use Rattle.header.specs.Answer.{done, needs_rebuild}
use Rattle.header.specs.FirstOf.{first_of}
use Rattle.header.specs.HeaderTest.{create_test1, image_total, header_test}
use Rattle.header.specs.Open.{no_fields, open_of}
use Rattle.header.specs.Sizes.{total_size}
use Rattle.image.specs.Lookup.{nothing, lookup_of, index_part}
use Rattle.image.specs.Check.{failed, check_of}
use Rattle.listing.specs.Scan.{refused, scan_of}
use Rattle.listing.specs.Match.{match_of}
use Rattle.writing.specs.Write.{Written}
use Rattle.writing.specs.Create.{create_of}
use Rattle.writing.specs.State.{begin_of, checkpoint_of, invalidate_of, set_user_fields_of}
use Rattle.soundness.specs.Commit.{commit_of}
use Rattle.host.specs.UserData.{filled, user_data_of, set_user_fields_from}
use Rattle.maps.specs.Map.{Map}
use Rattle.demands.specs.Before.{nine}
use Rattle.demands.specs.History.{Word, fresh_in, History}
use Rattle.demands.specs.Owes.{written}

-- "a length other than the total is 1", unless one of the tests before the tenth gives another number
abbrev pub number : Options → List ℕ → ℕ
number o image = first_of (nine o image ++ (true, needs_rebuild) ∷ [])

-- what a call gives on every image of another length than the total: its refusal, with that number
abbrev pub OtherLength : {A : Type 0} → (Options → List ℕ → A) → (List ℕ → ℕ → A) → Type 0
OtherLength call refusal =
    (o : Options) (image : List ℕ) → (length image ≡ image_total image → ⊥) → call o image ≡ refusal image (number o image)

-- "Any number but 0 leaves every lent byte alone"
abbrev pub unchanged : List ℕ → ℕ → Written
unchanged image n = written n image

pub record ExactLength : Type 0 where
  -- "From now on a length other than the total is 1.": what passes has the total's length, and any other is refused
  pub exact : (o : Options) (image : List ℕ) → header_test o image ≡ done → length image ≡ image_total image
  pub header : OtherLength header_test (λ image n. n)
  -- by every call that reads
  pub open_check : OtherLength open_of (λ image n. record { answer = n; fields = no_fields })
  pub lookup : (key : List ℕ) → OtherLength (λ o image. lookup_of o image key) (λ image. nothing)
  pub index : (key : List ℕ) → OtherLength (λ o image. index_part o image key) (λ image n. [])
  pub check : OtherLength check_of (λ image. failed)
  pub scan : (skip limit : ℕ) (numbers : List ℕ)
      → OtherLength (λ o image. scan_of o image skip limit numbers) (λ image. refused numbers)
  pub match : (offset bits : ℕ) (pattern : List ℕ) (skip limit : ℕ) (numbers : List ℕ)
      → OtherLength (λ o image. match_of o image offset bits pattern skip limit numbers) (λ image. refused numbers)
  -- and by every call that writes
  pub begin : OtherLength begin_of unchanged
  pub checkpoint : OtherLength checkpoint_of unchanged
  pub invalidate : OtherLength invalidate_of unchanged
  pub set_user_fields : (fields : UserFields) → OtherLength (λ o image. set_user_fields_of o image fields) unchanged
  pub commit : (batch : List ℕ) → OtherLength (λ o image. commit_of o image batch) unchanged
  -- and by the calls for C that hand out or take user data as a slice
  pub user_data : (out : List ℕ) → OtherLength (λ o image. user_data_of o image out) (λ image n. filled n out)
  pub user_slice : (flags : ℕ) (bytes : List ℕ) → OtherLength (λ o image. set_user_fields_from o image flags bytes) unchanged
  -- "A bench loaded an image with half of another behind it.": an image that passes is 1 with even one byte behind it, and
  -- without its end
  pub behind : (o : Options) (image more : List ℕ) → header_test o image ≡ done → 1 ≤ length more
      → header_test o (image ++ more) ≡ needs_rebuild
  pub cut : (o : Options) (image : List ℕ) (n : ℕ) → header_test o image ≡ done → 1 ≤ n → n < image_total image
      → header_test o (take n image) ≡ needs_rebuild
  -- "create still accepts a longer buffer": it makes of the total's bytes what it makes of them alone, and leaves the rest
  pub accepts : (o : Options) (buffer : List ℕ) → first_of (create_test1 o) ≡ 0 → total_size o ≤ length buffer
      → (create_of o buffer).answer ≡ done
  pub create : (o : Options) (buffer more : List ℕ) → length buffer ≡ total_size o
      → create_of o (buffer ++ more) ≡ written (create_of o buffer).answer ((create_of o buffer).image ++ more)
  -- "but the caller must lend exactly the total afterwards": that passes, and with all of a longer buffer it is 1
  pub lent : (o : Options) (buffer : List ℕ) → Word o.user_version → (create_of o buffer).answer ≡ done
      → header_test o (fresh_in o buffer) ≡ done
  pub not_lent : (o : Options) (buffer : List ℕ) → Word o.user_version → (create_of o buffer).answer ≡ done
      → total_size o < length buffer → header_test o (create_of o buffer).image ≡ needs_rebuild
  -- "Demand 2 then reads for images of exact length."
  pub histories : {o : Options} {image : List ℕ} {m : Map} {fields : UserFields} → History o image m fields
      → length image ≡ image_total image
