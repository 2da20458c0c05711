-- `tabledata_writing`, a truth as a word: its letter.
use native.Mathlib.Omega.{arith}
use mathlib.Core.Path.{◌∙◌, ◌≡◌, ap, sym}
use borrow.Author.Rules.{rules}
use mir.Syntax.{w64}
use mir.Val.{of_z, to_z}
use Rattle.table.proofs.Wrote.{wrote_as, wrote_one}
use Rattle.tabledata.specs.TableData.{truth_text}
use Rattle.tabledata_writing.proofs.Writing.{truth-long, truth-text}
use Rattle.tabledata_writing.proofs.TruthWord.put.Goals as goal

pub bounds-out-at : goal.bounds-out-at
bounds-out-at c = omega (arith, c.requires, truth-long c.args.z)

pub returns : goal.returns
returns c =
    let held : to_z w64 (of_z w64 c.args.z) ≡ c.args.z = search rules in
    wrote_as (sym (sym (ap truth_text held) ∙ truth-text _ _ c.truth_byte.ensures)) (wrote_one c.args.out.now c.args.at c.truth_byte.result)
