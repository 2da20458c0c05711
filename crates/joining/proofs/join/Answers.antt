-- joining::join: the loop over parts. What is joined of all of them is what is joined so far, and then those from here on.
use Prim.Native.Nat.{◌*◌, ◌/◌, ℕ}
use native.Mathlib.Omega.{arith}
use mathlib.Core.List.{List, []}
use mathlib.Core.Path.{◌∙◌, ◌≡◌, ap, sym}
use lib.ListN.{drop, get_or, length}
use Rattle.parts.proofs.Laws.{is-used, joined-all, joined-no-further, joined-one-more, parts_first}
use Rattle.parts.specs.Join.{join, first_part, parts_of}
use Rattle.joining.proofs.Nines.{part_at}
use Rattle.joining.proofs.join.Goals as goal

pub loop-numbers-init : goal.loop-numbers-init
loop-numbers-init c = ap (join _ _ _) (parts_first _ _)

pub returns-then-not-is_used : goal.returns-then-not-is_used
unfolding parts_of
returns-then-not-is_used c =
    let the-part : c.part_of-p.result ≡ first_part (drop (c.loop-numbers.numbers-index * 9) c.args.parts.now) =
    c.part_of-p.ensures ∙ ap (λ (l : List (List ℕ)). first_part (get_or l c.loop-numbers.numbers-index [])) c.as_chunks.ensures.front
    ∙ part_at (length c.args.parts.now / 9) c.loop-numbers.numbers-index c.args.parts.now (omega arith) in
    sym (joined-no-further _ _ _ _ _ _ _ c.loop-numbers.invariant (omega arith) _ the-part (sym c.is_used.ensures ∙ c.if-not-is_used.true))

pub joined_with-j-requires : goal.joined_with-j-requires
joined_with-j-requires c =
    let u = is-used _ _ _ (sym c.is_used.ensures ∙ c.if-not-is_used.false) in
    (u.counted, u.fits)

pub loop-numbers-preserved : goal.loop-numbers-preserved
loop-numbers-preserved c =
    let the-part : c.part_of-p.result ≡ first_part (drop (c.loop-numbers.numbers-index * 9) c.args.parts.now) =
    c.part_of-p.ensures ∙ ap (λ (l : List (List ℕ)). first_part (get_or l c.loop-numbers.numbers-index [])) c.as_chunks.ensures.front
    ∙ part_at (length c.args.parts.now / 9) c.loop-numbers.numbers-index c.args.parts.now (omega arith) in
    joined-one-more _ _ _ _ _ _ _ c.loop-numbers.invariant (omega arith) _ the-part (sym c.is_used.ensures ∙ c.if-not-is_used.false) _ c.joined_with-j.ensures

pub returns : goal.returns
unfolding parts_of
returns c = sym (joined-all _ _ _ _ _ _ _ c.loop-numbers.invariant (omega arith))
