-- comparing::fill: both inputs in step from the first row that differs, and as many places asked for as fit (fills).
use Rattle.comparing.proofs.Stepping.{fills}
use Rattle.table.specs.ColumnList.{listed}
use borrow.Author.Rules.{rules}
use Rattle.comparing.proofs.fill.Goals as goal

pub returns : goal.returns
returns c =
    let stepped = c.step_rows in
    λ counted.
    fills c.args.from (listed c.args.cols) c.args.first.now c.args.kind c.args.second.now c.args.places.now _ c.args.s stepped.result _
    c.filled-most.ensures counted stepped.ensures.steps
