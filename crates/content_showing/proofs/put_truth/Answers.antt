-- `content_showing::put_truth` meets its contract: two bytes are stored.
use mathlib.Core.List.{List, [], ◌∷◌}
use mathlib.Core.Path.{◌∙◌, ap}
use Prim.Native.Nat.{ℕ}
use lib.ListN.{length-set}
use Rattle.content_showing.proofs.Truths.{letter-shown}
use Rattle.content_showing.proofs.Stores.{puts-two}
use Rattle.moving.proofs.Puts.{puts-as}
use native.Mathlib.Omega.{arith}
use Rattle.content_showing.proofs.put_truth.Goals as goal

pub bounds-row-o-2 : goal.bounds-row-o-2
bounds-row-o-2 c = simp length-set (omega (arith, c.requires))

pub returns : goal.returns
returns c =
    let shown = c.truth_letter-letter.ensures ∙ letter-shown c.args.b in
    (shown, puts-as (ap {B = List ℕ} (λ (x : ℕ). x ∷ 32 ∷ []) shown) (puts-two _ _ _ 32 c.requires))
