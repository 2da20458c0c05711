-- comparing::refuse_second: the first input's refusal, if it has one, and else the second's.
use mathlib.Core.List.{List}
use mathlib.Core.Path.{◌∙◌, ap, sym}
use Rattle.compare.specs.Compare.{before_rows, refused_in}
use Rattle.compare.specs.declared.Comparison.{Comparison}
use Rattle.comparing.proofs.Calls.{refused_as, walk-read, walk_refused}
use Rattle.comparing.specs.Clauses.{behind_first}
use Rattle.table.specs.Cell.{Cell}
use Rattle.table.specs.ColumnList.{listed}
use Rattle.table.specs.Outcome.{answer_of, at}
use Rattle.table.specs.Reasons.{refusal_of}
use Rattle.table.specs.Result.{Result}
use Rattle.table.specs.declared.Answer.{Answer}
use borrow.Author.Rules.{rules}
use Rattle.comparing.proofs.refuse_second.Goals as goal

pub returns-then-p-ne0 : goal.returns-then-p-ne0
returns-then-p-ne0 c =
    let answered : Result Answer (List (List Cell)) → Comparison = λ x. behind_first x (refused_in 1 (before_rows (refusal_of c.args.late))) in
    let p = c.pass_rows-p in
    c.refuse.ensures ∙ refused_as 0 p.result
    ∙ sym (ap answered (walk_refused c.args.from (listed c.args.cols) c.args.first.now p.result p.ensures.value c.if-p-ne0.true))

pub returns : goal.returns
unfolding before_rows answer_of at
returns c =
    let answered : Result Answer (List (List Cell)) → Comparison = λ x. behind_first x (refused_in 1 (before_rows (refusal_of c.args.late))) in
    let p = c.pass_rows-p in
    rw c.number.ensures at c.refuse-2.ensures ∙ sym (ap answered (walk-read c.args.from (listed c.args.cols) c.args.first.now p.result p.ensures.value c.if-p-ne0.false).0)
