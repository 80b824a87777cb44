-- "Open check is this test alone; with 0 it hands out the user fields."
-- Assumes nothing.
use Rattle.std.specs.Prelude.{ℕ, List, replicate, Result, Ok, Err}
use Rattle.header.specs.declared.open.UserFields.{UserFields}
use Rattle.header.specs.declared.options.Options.{Options}
use Rattle.header.specs.declared.refusal.Refusal.{Refusal}
use Rattle.header.specs.Answer.{done, number}
use Rattle.header.specs.Fields as F
use Rattle.header.specs.Fields.{value, bytes_in}
use Rattle.header.specs.HeaderTest.{header_test, after_test}

-- "user_flags u64" and "user_data, 64 bytes"
unfoldable pub user_fields : List ℕ → UserFields
user_fields image = record { user_flags = value image F.user_flags; user_data = bytes_in image F.user_data }

-- "all else returned is 0 or empty"
unfoldable pub no_fields : UserFields
no_fields = record { user_flags = 0; user_data = replicate 64 0 }

-- the number given back, and the fields beside it
pub record Opened : Type 0 where
  pub answer : ℕ
  pub fields : UserFields

-- the same of what the code returns
abbrev pub opened : Result UserFields Refusal → Opened
opened (Ok f) = record { answer = done; fields = f }
opened (Err r) = record { answer = number r; fields = no_fields }

unfoldable pub open_of : Options → List ℕ → Opened
open_of o image =
    after_test
    (header_test o image)
    (record { answer = done; fields = user_fields image })
    (λ n. record { answer = n; fields = no_fields })
