-- `tabledata::is_text` meets its contract: 9 and 10, 32 to 127 are ranges of `match`, 13 a key.
use native.Mathlib.Omega.{arith}
use mathlib.Core.Path.{◌≡◌, ap, sym}
use Rattle.tabledata.proofs.Characters.{text-low, text-not, text-yes}
use Rattle.tabledata.specs.TableData.{is_text}
use Rattle.tabledata.proofs.is_text.Goals as goal

pub returns-in_default : goal.returns-in_default
returns-in_default c = sym (text-not c.args.c (λ e. omega arith) (λ e. omega arith) (grind arith) (λ e. omega arith))

pub returns-in_default-2 : goal.returns-in_default-2
returns-in_default-2 c = sym (text-not c.args.c (λ e. omega arith) (λ e. omega arith) (grind arith) (λ e. omega arith))

pub returns-in_default-3 : goal.returns-in_default-3
returns-in_default-3 c = sym (text-not c.args.c (λ e. omega arith) (λ e. omega arith) (grind arith) (λ e. omega arith))

pub returns-in-9 : goal.returns-in-9
unfolding is_text
returns-in-9 c =
    let is : c.args.c ≡ 13 = grind arith in
    sym (ap is_text is)

pub returns-in-9-2 : goal.returns-in-9-2
returns-in-9-2 c = sym (text-low c.args.c (omega arith) (omega arith))

pub returns-in-9-3 : goal.returns-in-9-3
returns-in-9-3 c = sym (text-yes c.args.c (omega arith) (omega arith))
