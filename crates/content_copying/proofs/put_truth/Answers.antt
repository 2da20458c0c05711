-- `content_copying::put_truth` meets its contract: the letter is put, and a space behind it.
use native.Mathlib.Omega.{arith}
use mathlib.Core.List.{[], ◌++◌, ◌∷◌}
use mathlib.Core.Path.{ap}
use lib.IntN.{ℤ}
use mir.Facts.{to_z-of_z}
use Rattle.content_showing.proofs.Stores.{puts-byte}
use Rattle.moving.proofs.Puts.{puts-as, puts_then}
use Rattle.tabledata.specs.TableData.{truth_text}
use Rattle.content_copying.proofs.put_truth.Goals as goal

pub bounds-row-next : goal.bounds-row-next
bounds-row-next c = let p = c.show_truth-next.ensures in omega (arith, p.next-is, p.long)

pub returns : goal.returns
unfolding truth_text
returns c =
    let p = c.show_truth-next.ensures in
    puts-as (ap (λ (z : ℤ). truth_text z ++ (32 ∷ [])) (to_z-of_z c.ranges.z))
    (puts_then p (puts-byte _ _ 32 (omega (arith, p.next-is, p.long))))
