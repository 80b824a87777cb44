-- "The judged header therefore carries capacity, B and offsets to every later call." (CR 10): capacity, B and total, for a host.
-- Assumes nothing.
use Rattle.std.specs.Prelude.{ℕ, List}
use Rattle.header.specs.declared.extent.Extent.{Extent}
use Rattle.header.specs.declared.options.Options.{Options}
use Rattle.header.specs.Fields as F
use Rattle.header.specs.Fields.{value}
use Rattle.header.specs.HeaderTest.{image_total, header_test, after_test}

unfoldable pub no_extent : Extent
no_extent = record { capacity = 0; buckets = 0; total = 0 }

unfoldable pub extent_of : Options → List ℕ → Extent
extent_of o image =
    after_test
    (header_test o image)
    (record { capacity = value image F.slot_capacity_field; buckets = value image F.bucket_count_field; total = image_total image })
    (λ n. no_extent)
