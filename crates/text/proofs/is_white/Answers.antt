-- `text::is_white` meets its contract: 9 and 10 are a range of `match`, 13 and 32 its keys.
use native.Mathlib.Omega.{arith}
use mathlib.Core.Logic.{⊎_elim}
use mathlib.Core.Path.{ap, sym}
use Rattle.table.proofs.Bytes.{white-no, white-yes}
use Rattle.table.specs.Bytes.{is_white}
use Rattle.text.proofs.is_white.Goals as goal

pub returns-in-9 : goal.returns-in-9
unfolding is_white
returns-in-9 c = ⊎_elim (λ e. sym (ap is_white e)) (λ e. sym (ap is_white e)) c.in-9.is

pub returns-in-9-2 : goal.returns-in-9-2
returns-in-9-2 c = sym (white-yes _ (omega arith) (omega arith))

pub returns-in_default : goal.returns-in_default
returns-in_default c = sym (white-no _ (grind arith) (grind arith) (grind arith) (grind arith))

pub returns-in_default-2 : goal.returns-in_default-2
returns-in_default-2 c = sym (white-no _ (grind arith) (grind arith) (grind arith) (grind arith))
