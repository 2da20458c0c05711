-- `tabledata::is_plain` meets its contract: `&` and `<` are keys of `match`, 32 to 127 a range.
use native.Mathlib.Omega.{arith}
use mathlib.Core.Logic.{⊎_elim}
use mathlib.Core.Path.{ap, sym}
use Rattle.tabledata.proofs.Characters.{plain-high, plain-low, plain-yes}
use Rattle.tabledata.specs.Clauses.{is_plain}
use Rattle.tabledata.proofs.is_plain.Goals as goal

pub returns-in-38 : goal.returns-in-38
unfolding is_plain
returns-in-38 c = ⊎_elim (λ e. sym (ap is_plain e)) (λ e. sym (ap is_plain e)) c.in-38.is

pub returns-in-32-to-127 : goal.returns-in-32-to-127
returns-in-32-to-127 c = sym (plain-yes c.args.c (grind arith) (grind arith) (omega arith) (omega arith))

pub returns-in_default : goal.returns-in_default
returns-in_default c = sym (plain-low c.args.c (omega arith))

pub returns-in_default-2 : goal.returns-in_default-2
returns-in_default-2 c = sym (plain-high c.args.c (omega arith))
