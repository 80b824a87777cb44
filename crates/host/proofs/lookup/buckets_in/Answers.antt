-- `host::lookup::buckets_in` meets its contract.
-- Assumes nothing.
use Prim.Native.Nat.{ℕ}
use mathlib.Core.Path.{◌≡◌, refl, sym, ap, ◌∙◌}
use Rattle.std.specs.Prelude.{Result, Option, Some, None}
use Rattle.header.specs.declared.refusal.Refusal.{Refusal}
use Rattle.image.specs.declared.lookup.Entry.{Entry}
use Rattle.image.specs.declared.lookup.Found.{Found}
use Rattle.image.specs.Lookup.{entered, looked}
use Rattle.host.proofs.lookup.buckets_in.Goals as goal

-- found or not
counted : (e : Option Entry) (count : ℕ) → (entered e count).buckets ≡ count
counted (Some e) count = refl
counted None count = refl

pub returns-in-Ok : goal.returns-in-Ok
returns-in-Ok c =
    let found = c.in-Ok.field-0 in
    sym (ap (λ (x : Result Found Refusal). (looked x).buckets) c.in-Ok.is ∙ counted found.entry found.buckets)
