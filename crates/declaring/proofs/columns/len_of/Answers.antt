-- declaring::columns::len_of: the length of a column as its arraysize says: by whether a `*` stands last.
use Rattle.declaring.proofs.columns.Numerals.{length_none, star-no, star-none, star-yes}
use Rattle.declaring.specs.Readers.{fixed_len}
use Rattle.fields.specs.Fields.{before_star, len_before}
use Rattle.std.specs.Prelude.{None, Some}
use mathlib.Core.Path.{◌∙◌, ◌≡◌, ap}
use Rattle.declaring.proofs.columns.len_of.Goals as goal

pub returns-in_err-last : goal.returns-in_err-last
unfolding len_before
returns-in_err-last c =
    let none = c.in_err-last.ensures.cases in
    rw (c.from_residual.ensures, star-none _ none) (rw (length_none _ none))

pub returns-then-last-eq42 : goal.returns-then-last-eq42
unfolding len_before
returns-then-last-eq42 c =
    let star : before_star c.args.t.now ≡ Some c.in_ok-last.before.now = ap before_star c.in_ok-last.ensures.cases.0 ∙ star-yes c.in_ok-last.before.now _ c.if-last-eq42.true in
    rw star c.bounded_len.ensures

pub returns : goal.returns
unfolding len_before fixed_len
returns c =
    let star : before_star c.args.t.now ≡ None = ap before_star c.in_ok-last.ensures.cases.0 ∙ star-no c.in_ok-last.before.now _ c.if-last-eq42.false in
    rw star c.fixed_len.ensures
