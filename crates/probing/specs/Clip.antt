-- A table with nothing past its ends. What lies past them is never looked at, so tables that agree within them can be
-- joined by an equation.
-- Assumes nothing.
use Rattle.std.specs.Prelude.{cond, [], ltb}
use Rattle.probing.specs.Table.{EMPTY, Table}

unfoldable pub clip : Table → Table
clip t =
    record {
      B = t.B;
      highwater = t.highwater;
      bucket = λ b. cond (ltb b t.B) (t.bucket b) EMPTY;
      meta = λ s. cond (ltb s t.highwater) (t.meta s) 0;
      key = λ s. cond (ltb s t.highwater) (t.key s) [];
      hash = t.hash;
    }
