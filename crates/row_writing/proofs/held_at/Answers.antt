-- row_writing::held_at: by the test, what stands at the place is a count, or below zero.
use Prim.Native.Nat.{◌+◌, suc, ℕ}
use mathlib.Core.List.{◌∷◌}
use mathlib.Core.Path.{◌∙◌, ◌≡◌, ap, ap₂, sym}
use lib.IntN.{nat_abs, pos, ℤ}
use lib.ListN.{drop, get_or}
use lib.Seq.{drop-cons}
use lib.Signed.{mag}
use mir.Syntax.{w64}
use native.Mathlib.Omega.{arith}
use Rattle.number.proofs.Signed.{down, up, up-cast, up-held}
use borrow.Author.Rules.{sfits_of}
use Rattle.row_writing.proofs.held_at.Goals as goal

pub overflow_cast-result : goal.overflow_cast-result
overflow_cast-result c = up-cast w64 (get_or c.args.scratch.now c.args.at (pos 0)) (sfits_of c.n-1.given) c.if-n-ge0.true

pub returns-then-n-ge0 : goal.returns-then-n-ge0
returns-then-n-ge0 c =
    let l = c.args.scratch.now in
    let i = c.args.at in
    let z = get_or l i (pos 0) in
    let f = sfits_of {w = w64} c.n-1.given in
    let e : suc i ≡ i + 1 = omega arith in
    drop-cons l i (pos 0) c.requires
    ∙ ap₂ (λ (y : ℤ) (n : ℕ). y ∷ drop n l) (up w64 z f c.if-n-ge0.true ∙ ap (λ (y : ℤ). pos (nat_abs y)) (sym (up-held w64 z f c.if-n-ge0.true))) e

pub returns : goal.returns
returns c =
    let l = c.args.scratch.now in
    let i = c.args.at in
    let z = get_or l i (pos 0) in
    let e : suc i ≡ i + 1 = omega arith in
    (mag z, drop-cons l i (pos 0) c.requires ∙ ap₂ (λ (y : ℤ) (n : ℕ). y ∷ drop n l) (down w64 z (sfits_of c.n-1.given) c.if-n-ge0.false) e)
