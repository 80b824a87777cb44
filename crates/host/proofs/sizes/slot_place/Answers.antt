-- `host::sizes::slot_place` meets its contract.
-- Assumes nothing.
use mathlib.Core.Path.{sym}
use native.Mathlib.Omega.{arith}
use Rattle.host.proofs.PlaceLaws.{sizes, slot_fits}
use Rattle.host.proofs.sizes.slot_place.Goals as goal

pub slot_size-requires : goal.slot_size-requires
slot_size-requires c =
    let a = c.args in
    let h = sizes a.o a.slot (sym c.in-Ok.ensures) in
    (h.key_high, h.index_high)

pub overflow_mul-result : goal.overflow_mul-result
overflow_mul-result c =
    let a = c.args in
    omega (arith, slot_fits a.o a.slot (sym c.in-Ok.ensures) (rw (← c.slots_for.ensures) c.if-slots_for-slot.false) c.slot_size.ensures)

pub overflow_add-result : goal.overflow_add-result
overflow_add-result c =
    let a = c.args in
    omega (arith, slot_fits a.o a.slot (sym c.in-Ok.ensures) (rw (← c.slots_for.ensures) c.if-slots_for-slot.false) c.slot_size.ensures)
