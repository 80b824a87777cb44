-- `image::table::Image::open` meets its contract: the shape of an image that passes the header test is right.
-- Assumes nothing.
use Rattle.header.proofs.Fit.{judged_shaped}
use Rattle.image.proofs.table.Image.open.Goals as goal

pub invariant_of-result : goal.invariant_of-result
invariant_of-result c =
    let a = c.args in
    record { shaped = judged_shaped a.o a.bytes.now c.in_ok-shape.ensures.numbered c.in_ok-shape.ensures.shape }
