-- Words as signed numbers of 64 bits.
-- Assumes nothing.
use Prim.Native.Nat.{ℕ, suc, ◌-◌, ◌<◌, ◌^◌}
use mathlib.Core.Path.{◌≡◌, refl}
use native.Mathlib.Omega.{arith}
use lib.IntN.{ℤ}
use mir.Syntax.{w64}
use mir.Val.{to_z, of_z}
use Rattle.std.proofs.lemmas.Int.{of_z-to_z}
use Rattle.numbers.specs.Signed.{signed}

-- a number of 64 bits, as the code reads it
abbrev pub read : ℤ → ℤ
read x = to_z w64 (of_z w64 x)

-- a word as the code casts it
pub cast : (x : ℕ) (y : ℤ) → x < 2 ^ 64 → y ≡ to_z w64 x → read y ≡ signed x
unfolding signed
cast x y l e =
    let rest : 2 ^ 64 - suc x ≡ 18446744073709551615 - x = omega arith in
    rw (e, of_z-to_z w64 x l, rest) refl
