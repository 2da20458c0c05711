-- declaring::attributes::read_value: `=` and the value behind it, with white space around the `=`.
use Rattle.declaring.proofs.spans.Scan.{assigned-at, assigned-none, assigned-not}
use Rattle.declaring.specs.Readers.{QuotedIs}
use mathlib.Core.Path.{subst, sym}
use Rattle.declaring.proofs.attributes.read_value.Goals as goal

pub returns-in_err-ends : goal.returns-in_err-ends
returns-in_err-ends c = subst (QuotedIs _ _ _) (sym c.from_residual.ensures) (assigned-not _ _ c.in_err-ends.ensures)

pub returns-then-from-s : goal.returns-then-from-s
returns-then-from-s c = assigned-at _ _ _ c.in_ok-ends.ensures _ c.skip_white-from.ensures _ c.read_quoted.ensures

pub returns : goal.returns
returns c = assigned-none _ _ _ c.in_ok-ends.ensures _ c.skip_white-from.ensures c.if-from-s.false
