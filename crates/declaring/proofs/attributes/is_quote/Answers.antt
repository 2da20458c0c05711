-- declaring::attributes::is_quote: a quote is one of two bytes.
use Rattle.declaring.specs.Readers.{is_quote}
use borrow.Author.Tests.{ne_eqb}
use mathlib.Core.Logic.{inl, inr, ⊎_elim}
use mathlib.Core.Path.{ap, sym}
use Rattle.declaring.proofs.attributes.is_quote.Goals as goal

pub returns-in-34 : goal.returns-in-34
unfolding is_quote
returns-in-34 c = ⊎_elim (λ e. sym (ap is_quote e)) (λ e. sym (ap is_quote e)) c.in-34.is

pub returns-in_default : goal.returns-in_default
unfolding is_quote
returns-in_default c = rw (ne_eqb _ 34 (λ e. c.in_default.in_default-own.rest.1 (inl e)), ne_eqb _ 39 (λ e. c.in_default.in_default-own.rest.1 (inr e)))
