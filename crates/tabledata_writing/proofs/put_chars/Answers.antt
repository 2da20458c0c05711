-- `tabledata_writing::put_chars` meets its contract. The invariant: what is left of the characters is still to be written here.
use Prim.Native.Nat.{◌+◌, ℕ}
use mathlib.Core.List.{List, ◌++◌}
use mathlib.Core.Path.{◌∙◌, ◌≡◌, ap}
use lib.IntN.{pos}
use lib.ListN.{drop, get_or}
use borrow.Author.Rules.{rules}
use mir.Syntax.{w64}
use mir.Val.{of_z, to_z}
use Rattle.table.proofs.Wrote.{left-all, left-none, left-room, left_step}
use Rattle.tabledata_writing.proofs.Writing.{char-code, char_form, joined_end, joined-more}
use Rattle.tabledata.specs.TableData.{element_bytes, joined}
use Rattle.tabledata_writing.proofs.put_chars.Goals as goal

pub loop-z-init : goal.loop-z-init
unfolding element_bytes
loop-z-init c = left-all c.args.out.now c.args.at _

pub put_char-i-requires : goal.put_char-i-requires
put_char-i-requires c =
    let es = c.args.chars.now in let k = c.loop-z.z-index in let z = get_or es k (pos 0) in
    let held : to_z w64 (of_z w64 z) ≡ z = search rules in
    let code : char_form z ≡ char_form (pos c.code_of.result) = char-code _ z c.code_of.result held c.code_of.ensures.0 in
    let more = joined-more char_form es k c.loop-z-test.true ∙ ap (λ (b : List ℕ). b ++ joined char_form (drop (k + 1) es)) code in
    left-room c.loop-z.invariant (char_form (pos c.code_of.result)) _ more c.requires

pub loop-z-preserved : goal.loop-z-preserved
loop-z-preserved c =
    let es = c.args.chars.now in let k = c.loop-z.z-index in let z = get_or es k (pos 0) in
    let held : to_z w64 (of_z w64 z) ≡ z = search rules in
    let code : char_form z ≡ char_form (pos c.code_of.result) = char-code _ z c.code_of.result held c.code_of.ensures.0 in
    let more = joined-more char_form es k c.loop-z-test.true ∙ ap (λ (b : List ℕ). b ++ joined char_form (drop (k + 1) es)) code in
    left_step c.loop-z.invariant more c.put_char-i.ensures

pub returns : goal.returns
returns c = left-none c.loop-z.invariant (joined_end char_form c.args.chars.now c.loop-z.z-index c.loop-z-test.false)
