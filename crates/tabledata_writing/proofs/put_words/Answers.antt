-- `tabledata_writing::put_words` meets its contract: nothing, or the first word and then each behind a space.
use Prim.Native.Nat.{ℕ}
use native.Mathlib.Omega.{arith}
use mathlib.Core.List.{List, ◌++◌, ◌∷◌}
use mathlib.Core.Path.{◌∙◌, ◌≡◌, ap, sym}
use lib.ListN.{length, length-append}
use borrow.Author.Rules.{rules}
use mir.Syntax.{w64}
use mir.Val.{of_z, to_z}
use Rattle.table.proofs.Wrote.{wrote_as, wrote-long, wrote_none, wrote_then_lem}
use Rattle.tabledata_writing.proofs.Writing.{spaced-first, spaced-none}
use Rattle.tabledata.specs.TableData.{joined}
use Rattle.tabledata_writing.proofs.put_words.Goals as goal

pub returns-in_default : goal.returns-in_default
returns-in_default g c = wrote_as (sym (spaced-none g.W.Word.text c.args.elements.now c.in_default.ensures.cases)) (wrote_none c.args.out.now c.args.at)

pub put-next-requires : goal.put-next-requires
put-next-requires g c =
    let word = g.W.Word.text in let first = c.in-Some.field-0-0.now in
    let held : to_z w64 (of_z w64 first) ≡ first = search rules in
    let whole = spaced-first word c.args.elements.now first c.in-Some.rest.now c.in-Some.ensures.cases.0 in
    let both = length-append (word first) (joined (λ z. 32 ∷ word z) c.in-Some.rest.now) in
    omega (arith, c.requires, ap length whole, both, ap (λ z. length (word z)) held)

pub more_words-requires : goal.more_words-requires
more_words-requires g c =
    let word = g.W.Word.text in let first = c.in-Some.field-0-0.now in
    let held : to_z w64 (of_z w64 first) ≡ first = search rules in
    let whole = spaced-first word c.args.elements.now first c.in-Some.rest.now c.in-Some.ensures.cases.0 in
    let both = length-append (word first) (joined (λ z. 32 ∷ word z) c.in-Some.rest.now) in
    let w = c.put-next.ensures in
    omega (arith, c.requires, ap length whole, both, ap (λ z. length (word z)) held, w.next-is, wrote-long w)

pub returns : goal.returns
returns g c =
    let word = g.W.Word.text in let first = c.in-Some.field-0-0.now in
    let held : to_z w64 (of_z w64 first) ≡ first = search rules in
    let whole = spaced-first word c.args.elements.now first c.in-Some.rest.now c.in-Some.ensures.cases.0 in
    let told = whole ∙ ap (λ (b : List ℕ). b ++ joined (λ z. 32 ∷ word z) c.in-Some.rest.now) (sym (ap word held)) in
    wrote_as (sym told) (wrote_then_lem c.put-next.ensures c.more_words.ensures)
