-- `numbers::parts::copy_to` meets its contract. The loop's invariant: the first i items of src are copied.
-- Assumes nothing.
use Prim.Native.Nat.{◌+◌}
use mathlib.Core.Path.{◌≡◌, refl, ap₂, ◌∙◌}
use native.Mathlib.Numerals.{add-one}
use native.Mathlib.Omega.{arith}
use lib.ListN.{length, get_or, set}
use lib.Seq.{paste-zero, paste-suc, take_all}
use Rattle.numbers.specs.Bytes.{put}
use Rattle.numbers.proofs.parts.copy_to.Goals as goal

pub loop-i-init : goal.loop-i-init
loop-i-init g c = paste-zero c.args.dst.now c.args.at c.args.src.now

pub loop-i-preserved : goal.loop-i-preserved
loop-i-preserved g c =
    let l = c.loop-i in
    let a = c.args in
    let x = c.index-src-i in
    let read : x.result ≡ get_or a.src.now l.i x.result = x.is in
    rw add-one (ap₂ (λ d y. set d (a.at + l.i) y) l.invariant read ∙ paste-suc a.dst.now a.at a.src.now l.i x.result (omega arith) c.loop-i-test.true)

pub returns : goal.returns
unfolding put
returns g c =
    let l = c.loop-i in
    let a = c.args in
    let whole : l.i ≡ length a.src.now = omega (arith, l.auto.i-end, c.loop-i-test.false) in
    rw (l.invariant, whole, take_all (length a.src.now) a.src.now (omega arith)) refl
