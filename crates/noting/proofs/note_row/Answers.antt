-- comparing::note_row: the loop over columns. The row's places are those noted and those of the bits from i on; where no bit is set there are none.
use Prim.Native.Nat.{ℕ}
use mathlib.Core.List.{[]}
use mathlib.Core.Path.{◌∙◌, ◌≡◌, ap}
use Rattle.noting.proofs.Noting.{none-marked, noted-all, noted-next, noted-start, notes-none}
use Rattle.noting.specs.Places.{marked}
use Rattle.number.proofs.Laws.{length_to}
use Rattle.number.specs.Number.{to_digits}
use native.Mathlib.Omega.{arith}
use Rattle.noting.proofs.note_row.Goals as goal

pub returns-then-differing-eq0 : goal.returns-then-differing-eq0
returns-then-differing-eq0 c =
    let none : marked c.args.row 0 (to_digits 2 c.args.count c.args.differing) ≡ [] =
    ap (λ (word : ℕ). marked c.args.row 0 (to_digits 2 c.args.count word)) c.if-differing-eq0.true ∙ none-marked c.args.row 0 c.args.count in
    rw none (notes-none c.args.noted c.args.places.now)

pub loop-i-init : goal.loop-i-init
loop-i-init c =
    (noted-start c.args.row (to_digits 2 c.args.count c.args.differing) c.args.noted c.args.places.now, omega arith)

pub is_flagged-differs-requires : goal.is_flagged-differs-requires
is_flagged-differs-requires c = (c.loop-i-test.true, c.requires.0)

pub overflow_cast-i : goal.overflow_cast-i
overflow_cast-i c = omega (arith, c.loop-i-test.true, c.requires.0)

pub note_column-n-requires : goal.note_column-n-requires
note_column-n-requires c =
    omega (arith, c.loop-i.invariant.0.few, c.loop-i-test.true, c.requires.1)

pub loop-i-preserved : goal.loop-i-preserved
loop-i-preserved c =
    let bits = to_digits 2 c.args.count c.args.differing in
    let t = c.loop-i-test.true in
    let f = c.is_flagged-differs in
    let n = c.note_column-n in (
      noted-next c.args.row bits c.args.noted c.args.places.now _ c.loop-i.n c.loop-i.i c.loop-i.invariant.0 (omega (arith, length_to 2 c.args.count c.args.differing, t))
          f.result f.ensures _ _ n.ensures,
      omega (arith, t),
    )

pub returns : goal.returns
returns c =
    let bits = to_digits 2 c.args.count c.args.differing in
    noted-all c.args.row bits c.args.noted c.args.places.now _ c.loop-i.n c.loop-i.i c.loop-i.invariant.0
    (omega (arith, length_to 2 c.args.count c.args.differing, c.loop-i-test.false))
