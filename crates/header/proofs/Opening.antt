-- What the open check returns where the header test refuses.
-- Assumes nothing.
use Prim.Native.Nat.{ℕ}
use mathlib.Core.Path.{◌≡◌}
use mathlib.Core.List.{List}
use Rattle.std.specs.Prelude.{Result, Ok, Err, IsErrAnd}
use Rattle.header.specs.declared.open.UserFields.{UserFields}
use Rattle.header.specs.declared.options.Options.{Options}
use Rattle.header.specs.declared.refusal.Refusal.{Refusal}
use Rattle.header.specs.Answer.{number}
use Rattle.header.specs.HeaderTest.{header_test}
use Rattle.header.specs.Open.{opened, open_of}
use Rattle.header.proofs.After.{after_refusal}

pub opened_refused : (o : Options) (image : List ℕ) (x : Result UserFields Refusal) (r : Refusal) → IsErrAnd x (λ y. y ≡ r)
    → number r ≡ header_test o image → opened x ≡ open_of o image
unfolding open_of
opened_refused o image (Ok f) r is h = absurd is
opened_refused o image (Err y) r is h = rw is (after_refusal (header_test o image) _ _ r h)
