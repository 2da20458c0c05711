-- `binary::read_binary` meets its contract: what `read_binary2` finds unflagged, with an empty cell null.
use Rattle.binary_reading.proofs.Cells.{binary-bad, binary-empty, binary-null, binary-shown}
use Rattle.table.proofs.Failures.{handed-on}
use Rattle.table.specs.Clauses.{Reads, ShownWithin, shown_as}
use Rattle.std.specs.Prelude.{Option, ℕ}
use Rattle.table.specs.Result.{good}
use lib.ListN.{drop}
use lib.Seq.{length-take-le}
use mathlib.Core.Path.{◌∙◌, ap, subst, sym}
use Rattle.binary_reading.proofs.read_binary.Goals as goal

pub returns-in_err-found : goal.returns-in_err-found
returns-in_err-found c =
    let t = drop c.args.at c.args.s.now in
    let e = c.in_err-found.ensures in
    subst (Reads _ _ _ _ _) (sym (handed-on c.from_residual.ensures.1)) (record { found = binary-bad c.args.column t t _ e.found; within = tt; long = e.long })

pub returns-in_default : goal.returns-in_default
returns-in_default c =
    let t = drop c.args.at c.args.s.now in
    let f = c.in_ok-found.ensures in
    let x = c.read_binary2.new.scratch in
    record {
      found = binary-null c.args.column t _ (f.found ∙ ap (λ (o : Option ℕ). good (shown_as x o, drop c.in_ok-found.found.next c.args.s.now)) c.in_default.is)
          ∙ sym (ap (λ (o : Option ℕ). good (shown_as x o, drop c.in_ok-found.found.next c.args.s.now)) c.in_default.is);
      within = f.within;
      long = f.long;
    }

pub returns-then-count-eq0 : goal.returns-then-count-eq0
returns-then-count-eq0 c =
    let t = drop c.args.at c.args.s.now in
    let f = c.in_ok-found.ensures in
    let x = c.read_binary2.new.scratch in
    let w = subst (ShownWithin x) c.in-Some.is f.within.2 in
    record {
      found = binary-empty c.args.column t _ _ (f.found ∙ ap (λ (o : Option ℕ). good (shown_as x o, drop c.in_ok-found.found.next c.args.s.now)) c.in-Some.is)
          (length-take-le _ x w ∙ c.if-count-eq0.true);
      within = (f.within.0, f.within.1, tt);
      long = f.long;
    }

pub returns-else-count-eq0 : goal.returns-else-count-eq0
returns-else-count-eq0 c =
    let t = drop c.args.at c.args.s.now in
    let f = c.in_ok-found.ensures in
    let x = c.read_binary2.new.scratch in
    let w = subst (ShownWithin x) c.in-Some.is f.within.2 in
    let shown-is = ap (λ (o : Option ℕ). good (shown_as x o, drop c.in_ok-found.found.next c.args.s.now)) c.in-Some.is in
    record {
      found = binary-shown c.args.column t _ _ (f.found ∙ shown-is) (λ e. c.if-count-eq0.false (sym (length-take-le _ x w) ∙ e)) ∙ sym shown-is;
      within = f.within;
      long = f.long;
    }
