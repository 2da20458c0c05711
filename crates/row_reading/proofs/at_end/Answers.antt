-- row_reading::at_end: the end of the input, by the kind of rows: a place at the end leaves nothing.
use mathlib.Core.Path.{sym, ap, ◌∙◌}
use lib.ListN.{drop}
use Rattle.table.specs.declared.Rows.{Rows}
use Rattle.rows.specs.Stream.{at_end, is_empty}
use Rattle.row_reading.proofs.Ways.{empty-drop}
use Rattle.row_reading.proofs.at_end.Goals as goal

pub returns-in-TableData : goal.returns-in-TableData
unfolding at_end
returns-in-TableData c =
    let k = c.skip_white in
    empty-drop c.args.s.now k.result k.ensures.high ∙ ap is_empty (sym k.ensures.rest)
    ∙ ap (λ (f : Rows). at_end f (drop c.args.at c.args.s.now)) (sym c.in-TableData.is)

pub returns-in-Binary : goal.returns-in-Binary
unfolding at_end
returns-in-Binary c =
    empty-drop c.args.s.now c.args.at c.requires ∙ ap (λ (f : Rows). at_end f (drop c.args.at c.args.s.now)) (sym c.in-Binary.is)

pub returns-in-Binary2 : goal.returns-in-Binary2
unfolding at_end
returns-in-Binary2 c =
    empty-drop c.args.s.now c.args.at c.requires ∙ ap (λ (f : Rows). at_end f (drop c.args.at c.args.s.now)) (sym c.in-Binary2.is)
