-- convert::Measured::after: by what the cell takes, each way is one law of Measuring.
use mathlib.Core.Bool.{Bool}
use mathlib.Core.List.{[], ◌++◌, ◌∷◌}
use Rattle.binary.specs.Binary.{flag_bit}
use Rattle.convert.proofs.Holding.{told-none}
use Rattle.number.specs.Number.{to_digits}
use mathlib.Core.Path.{◌∙◌, ap, sym}
use Rattle.convert.proofs.Measuring.{measured-refused}
use Rattle.convert.specs.Clauses.{added_to, held_with, measured_as}
use Rattle.table.specs.Clauses.{size_as}
use Rattle.table.specs.Outcome.{at}
use Rattle.table.specs.Result.{refused_as}
use Rattle.table.specs.declared.Reason.{Reason}
use Rattle.std.specs.Prelude.{Result as Returned, ℕ}
use native.Mathlib.Omega.{arith}
use Rattle.convert.proofs.Measured.after.Goals as goal

pub returns-in-Err : goal.returns-in-Err
returns-in-Err c = record {
  nulls = c.add_flag-nulls.ensures ∙ ap (λ (b : Bool). to_digits 2 c.args.i c.args.self.nulls ++ (flag_bit b ∷ [])) (told-none c.args.shown c.is_none.result c.is_none.ensures);
  form = rw c.or.ensures (measured-refused c.args.self (record { reason = c.in-Err.reason; column = c.args.i }))
      ∙ ap (λ (r : Returned ℕ Reason). added_to (measured_as c.args.self) (refused_as (at c.args.i) (size_as r))) (sym c.in-Err.is);
  short = omega (arith, c.requires.0);
  holds = c.held_with-held.ensures ∙ ap (held_with c.args.self.held) c.unwrap_or.ensures;
}
