-- row_reading::flag_of: by the kind of rows: only BINARY2 has any.
use mathlib.Core.Path.{◌∙◌}
use Rattle.row_reading.specs.Clauses.{flags_in}
use Rattle.row_reading.proofs.Ways.{flag-binary2, no_flag}
use Rattle.row_reading.proofs.flag_of.Goals as goal

pub returns-in-TableData : goal.returns-in-TableData
unfolding flags_in
returns-in-TableData c = rw c.in-TableData.is (no_flag c.args.i)

pub returns-in-Binary : goal.returns-in-Binary
unfolding flags_in
returns-in-Binary c = rw c.in-Binary.is (no_flag c.args.i)

pub returns-in-Binary2 : goal.returns-in-Binary2
returns-in-Binary2 c =
    rw c.in-Binary2.is (c.is_flagged.ensures ∙ flag-binary2 c.args.count c.args.flags c.args.i c.requires.0)
