-- `row_moving::put_few` meets its contract: before each turn the first k bytes are put.
use Prim.Native.Nat.{◌+◌, ℕ}
use native.Mathlib.Omega.{arith}
use mathlib.Core.List.{◌∷◌, []}
use mathlib.Core.Path.{◌∙◌, ◌≡◌, ap, refl, sym}
use lib.ListN.{drop, get_or, length-set, take}
use lib.Seq.{length-take-le, sets}
use Rattle.row_moving.proofs.Copying.{sets_more}
use Rattle.table.proofs.Places.{next1}
use Rattle.row_moving.proofs.put_few.Goals as goal

pub loop-k-init : goal.loop-k-init
loop-k-init c = (refl, refl)

pub bounds-out-at : goal.bounds-out-at
bounds-out-at c = omega (arith, c.loop-k.invariant.0)

pub loop-k-preserved : goal.loop-k-preserved
loop-k-preserved c =
    let l = c.loop-k in
    let a = c.args in
    let row = a.row.now in
    let one : take 1 (drop l.k row) ≡ get_or row l.k 0 ∷ [] = ap (take 1) (next1 row l.k (omega arith)) in (
      length-set l.out (a.at + l.k) (get_or row l.k 0) ∙ l.invariant.0,
      ap (sets l.out (a.at + l.k)) (sym one) ∙ sets_more row a.out.now l.out a.at l.k 1 (omega arith) l.invariant.1,
    )

pub shape_of-out : goal.shape_of-out
shape_of-out c = c.loop-k.invariant.0

pub returns : goal.returns
returns c =
    let l = c.loop-k in
    let a = c.args in
    let all : l.k ≡ a.size = omega arith in
    record {
      now-is = l.invariant.1 ∙ ap (λ (j : ℕ). sets a.out.now a.at (take j a.row.now)) all;
      next-is = ap (λ (j : ℕ). a.at + j) (sym (length-take-le a.size a.row.now (omega arith)));
    }
