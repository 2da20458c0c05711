-- declaring::spans::belongs: by the cases of the class.
use Rattle.declaring.proofs.spans.NameBytes.{class-is, quote-no, quote-other}
use mathlib.Core.Path.{◌∙◌}
use Rattle.declaring.proofs.spans.belongs.Goals as goal

pub returns-then-c-quote : goal.returns-then-c-quote
returns-then-c-quote c = quote-no _ _ c.if-c-quote.true ∙ class-is _ _ _ c.in-Quoted.is

pub returns-in-Name : goal.returns-in-Name
returns-in-Name c = c.is_name_byte.ensures ∙ class-is _ _ _ c.in-Name.is

pub returns-else-c-quote : goal.returns-else-c-quote
returns-else-c-quote c = quote-other _ _ c.if-c-quote.false ∙ class-is _ _ _ c.in-Quoted.is
