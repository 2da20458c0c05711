-- comparing::count_differing: both inputs in step from the start, and more places asked for than there can be (counts_all).
use Rattle.comparing.proofs.Stepping.{counts_all}
use Rattle.table.specs.ColumnList.{listed}
use borrow.Author.Rules.{rules}
use Rattle.comparing.proofs.count_differing.Goals as goal

pub returns : goal.returns
returns c =
    let stepped = c.step_rows in
    record {
      counts = counts_all c.args.from (listed c.args.cols) c.args.first.now c.args.kind c.args.second.now c.requires.1 _ _ stepped.result
          stepped.ensures.steps;
      a_len_unchanged = stepped.ensures.a_len_unchanged;
      b_len_unchanged = stepped.ensures.b_len_unchanged;
    }
