-- `columns::Columns::mix` meets its contract: the digits, one behind the other, choose of the numbers what the number does.
-- Assumes nothing.
use Rattle.std.proofs.Common.{ℕ, ◌≡◌, List, length, ap, sym, ◌∙◌, arith, rules, take_all}
use Rattle.std.specs.List.{concat}
use Rattle.digests.specs.Mixed.{mixed}
use Rattle.digests.proofs.Images.{fives, looked_up}
use Rattle.digests.proofs.Mixed.{mixed_nothing, next_digit}
use Rattle.digests.proofs.columns.Columns.mix.Goals as goal

pub returns : goal.returns
returns g c =
    let ds = c.args.self.now.digits in
    let x = c.args.x in
    let size : length ds ≡ g.row.DIGITS = search rules in
    let each = fives g.row.BITS g.row.DIGITS ds c.args.self.now.images in
    let one = next_digit ds x 0 each (sym (mixed_nothing x)) c.digit.ensures in
    let two = next_digit ds x 1 each one c.digit-2.ensures in
    let three = next_digit ds x 2 each two c.digit-3.ensures in
    let four = next_digit ds x 3 each three c.digit-4.ensures in
    let five = next_digit ds x 4 each four c.digit-5.ensures in
    let six = next_digit ds x 5 each five c.digit-6.ensures in
    let seven = next_digit ds x 6 each six c.digit-7.ensures in
    let all = take_all 7 ds (omega (arith, size, c.args.self.now.few)) in
    looked_up g.row.BITS g.row.DIGITS ds x c.args.self.now.images (seven ∙ ap (λ (ys : List (List ℕ)). mixed 0 (concat ys) x) all)
