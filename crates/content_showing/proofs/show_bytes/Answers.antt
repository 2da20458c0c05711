-- `content_showing::show_bytes` meets its contract: before each turn the first k bytes are put, a space behind each, in at most four bytes each.
use Prim.Native.Nat.{◌<◌}
use mathlib.Core.Path.{refl}
use Rattle.content_showing.proofs.Words.{byte_more, bytes-moved, bytes-start, integers-some}
use Rattle.moving.proofs.Puts.{puts_none}
use native.Mathlib.Omega.{arith}
use Rattle.content_showing.proofs.show_bytes.Goals as goal

pub returns-then-row-o : goal.returns-then-row-o
returns-then-row-o c = puts_none _ _ c.requires.3

pub loop-k-init : goal.loop-k-init
loop-k-init c = (omega arith, bytes-start _ _ _ _ c.requires.3)

pub put_byte-e-requires : goal.put_byte-e-requires
put_byte-e-requires c =
    let i = c.loop-k.invariant in
    omega (arith, c.if-row-o.false, i.0, i.1.puts.long, c.requires.3)

pub loop-k-preserved : goal.loop-k-preserved
loop-k-preserved c =
    let a = c.args in
    let l = c.loop-k in
    let p = c.put_byte-e.ensures in
    let more : l.k < a.n = omega arith in
    (omega (arith, p.1, l.invariant.0), byte_more a.s.now a.at l.k _ (omega (arith, c.requires.2)) refl p.0 l.invariant.1)

pub overflow_sub-result : goal.overflow_sub-result
overflow_sub-result c = integers-some _ _ _ c.loop-k.invariant.1 (omega (arith, c.requires.0))

pub returns : goal.returns
returns c =
    let l = c.loop-k in
    bytes-moved _ _ c.args.n l.k c.requires.0 (omega (arith, l.invariant.0)) l.invariant.1

pub shape_of-row : goal.shape_of-row
shape_of-row c = c.loop-k.invariant.1.puts.long
