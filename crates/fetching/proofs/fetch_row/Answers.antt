-- fetching::fetch_row: a refusal on the way, or the part of the stream that is the row, converted as a stream of its own.
use mathlib.Core.Path.{◌∙◌, ap, refl, subst, sym}
use lib.ListN.{length}
use Rattle.index.specs.Fetch.{asked_for}
use Rattle.finding.specs.Clauses.{Finds}
use Rattle.table.specs.Outcome.{Outcome, answer_of, at, buffer_of, written}
use borrow.Author.Rules.{rules}
use native.Mathlib.Omega.{arith}
use Rattle.fetching.proofs.fetch_row.Goals as goal

pub slice_bounds-line-count : goal.slice_bounds-line-count
slice_bounds-line-count c = omega (arith, c.in-Ok.ensures.1)

pub returns-in-Err : goal.returns-in-Err
unfolding answer_of buffer_of written at
returns-in-Err c =
    let f = c.in-Err.ensures (length c.args.out.now) in
    record { value = rw (f, c.asked_for.ensures, c.before_rows.ensures); out_after = rw f }

pub returns-in-Ok : goal.returns-in-Ok
returns-in-Ok c =
    let f = c.in-Ok.ensures.0 (length c.args.out.now) in
    let r = c.convert_columns-a.ensures in
    record {
      value = c.asked_for-in-Ok.ensures ∙ ap (asked_for c.args.row) (r.value ∙ ap answer_of (sym f));
      out_after = r.out_after ∙ ap (λ (o : Outcome). buffer_of o c.args.out.now) (sym f);
    }
