-- `content_showing::show_integers` meets its contract, once over the width: before each turn the first k integers are put, a space behind each.
use Prim.Native.Nat.{◌*◌, ◌+◌, ◌-◌, ◌≤◌, ℕ}
use mathlib.Core.Path.{◌∙◌}
use lib.ListN.{length}
use mir.Facts.{to_z-of_z}
use mir.Syntax.{w64}
use Rattle.binary.proofs.Loops.{place-fits}
use Rattle.content_showing.proofs.Words.{integer-more, integers-moved, integers-some, integers-start}
use Rattle.moving.proofs.Puts.{puts-before}
use Rattle.number.specs.Clauses.{size}
use native.Mathlib.Omega.{arith}
use Rattle.content_showing.proofs.show_integers.Goals as goal

pub loop-init : goal.loop-init
loop-init c = integers-start _ _ _ _ _ c.requires.2

pub overflow_sub-row : goal.overflow_sub-row
overflow_sub-row c = omega (arith, c.loop.invariant.puts.room, c.loop.invariant.puts.long)

pub shape_of-row-then-row-e-lt40 : goal.shape_of-row-then-row-e-lt40
shape_of-row-then-row-e-lt40 c = c.loop.invariant.puts.long

pub returns-then-row-e-lt40 : goal.returns-then-row-e-lt40
returns-then-row-e-lt40 c = puts-before c.loop.invariant.puts

pub read_integer-requires : goal.read_integer-requires
read_integer-requires c =
    let there : c.loop.from + size c.args.integer ≤ length c.args.s.now = (let a = c.args in
    let w : ℕ = size a.integer in
    let h : a.n * w ≤ length a.s.now - a.at = omega (arith, c.requires.1) in
    omega (arith, place-fits c.loop.counter a.n w _ (omega arith) h, c.loop.invariant.from_is, c.requires.1)) in
    there

pub put_word-e-requires : goal.put_word-e-requires
put_word-e-requires c = omega (arith, c.if-row-e-lt40.false)

pub overflow_add-from : goal.overflow_add-from
overflow_add-from c =
    let there : c.loop.from + size c.args.integer ≤ length c.args.s.now = (let a = c.args in
    let w : ℕ = size a.integer in
    let h : a.n * w ≤ length a.s.now - a.at = omega (arith, c.requires.1) in
    omega (arith, place-fits c.loop.counter a.n w _ (omega arith) h, c.loop.invariant.from_is, c.requires.1)) in
    record { fits = omega (arith, there, c.integer_bytes-width.ensures.0) }

pub loop-preserved : goal.loop-preserved
loop-preserved c =
    let read = c.read_integer in
    integer-more _ _ _ _ _ c.integer_bytes-width.ensures.0 (to_z-of_z {w = w64} (record { sfits = read.type_inv }) ∙ read.ensures)
    c.put_word-e.ensures c.loop.invariant

pub overflow_sub-result : goal.overflow_sub-result
overflow_sub-result c = integers-some _ _ _ c.loop.invariant (omega (arith, c.requires.0))

pub shape_of-row : goal.shape_of-row
shape_of-row c = c.loop.invariant.puts.long

pub returns : goal.returns
returns c =
    integers-moved _ _ _ c.args.n c.requires.0 (omega arith) c.loop.invariant
