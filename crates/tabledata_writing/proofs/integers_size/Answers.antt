-- `tabledata_writing::integers_size` meets its contract. The invariant: the size so far and that of what is left are the whole's.
use Prim.Native.Nat.{◌+◌}
use native.Mathlib.Omega.{arith}
use mathlib.Core.List.{◌∷◌}
use mathlib.Core.Path.{◌≡◌, ap}
use lib.IntN.{pos}
use lib.ListN.{drop, get_or, length, length-append}
use borrow.Author.Rules.{rules}
use mir.Syntax.{w64}
use mir.Val.{of_z, to_z}
use Rattle.number.specs.Number.{shortest}
use Rattle.number.proofs.Decimal.{shortest-most}
use Rattle.tabledata_writing.proofs.Writing.{joined_end, joined-more}
use Rattle.tabledata_writing.proofs.integers_size.Invariants.{words}
use Rattle.tabledata_writing.proofs.integers_size.Goals as goal

pub overflow_add-size : goal.overflow_add-size
overflow_add-size c = let z = to_z w64 (of_z w64 (get_or c.args.integers.now c.loop-z.z-index (pos 0))) in omega (arith, shortest-most z)

pub overflow_add-size-in-loop-z : goal.overflow_add-size-in-loop-z
overflow_add-size-in-loop-z c =
    let z = to_z w64 (of_z w64 (get_or c.args.integers.now c.loop-z.z-index (pos 0))) in
    omega (arith, shortest-most z, c.loop-z.invariant.0, c.requires)

pub loop-z-preserved : goal.loop-z-preserved
loop-z-preserved c =
    let es = c.args.integers.now in let k = c.loop-z.z-index in let z = get_or es k (pos 0) in
    let held : to_z w64 (of_z w64 z) ≡ z = search rules in
    let word : c.shortest_length.result ≡ length (shortest z) = rw (← held) c.shortest_length.ensures in
    let more = joined-more (λ z. 32 ∷ shortest z) es k c.loop-z-test.true in
    let both = length-append (shortest z) (words (drop (k + 1) es)) in
    (omega (arith, shortest-most z, word, c.loop-z.invariant.0), omega (arith, c.loop-z.invariant.1, word, ap length more, both))

pub returns : goal.returns
returns c =
    let ended = joined_end (λ z. 32 ∷ shortest z) c.args.integers.now c.loop-z.z-index c.loop-z-test.false in
    omega (arith, c.loop-z.invariant.1, ap length ended)
