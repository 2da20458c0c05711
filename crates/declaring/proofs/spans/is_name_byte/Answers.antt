-- declaring::spans::is_name_byte: a byte is of a name: each arm's tests say so, or not.
use Rattle.declaring.proofs.spans.NameBytes.{name-digit, name-lower, name-mark, name-no, name-upper}
use Rattle.fields.specs.Fields.{is_name_byte}
use Rattle.table.specs.Bytes.{between}
use mathlib.Core.Logic.{⊎_elim}
use mathlib.Core.Path.{ap, sym}
use native.Mathlib.Omega.{arith}
use Rattle.declaring.proofs.spans.is_name_byte.Goals as goal

pub returns-in-48-to-57 : goal.returns-in-48-to-57
returns-in-48-to-57 c = sym (name-digit _ (omega arith) (omega arith))

pub returns-in-48-to-57-2 : goal.returns-in-48-to-57-2
returns-in-48-to-57-2 c = sym (name-upper _ (omega arith) (omega arith))

pub returns-in-48-to-57-3 : goal.returns-in-48-to-57-3
returns-in-48-to-57-3 c = sym (name-lower _ (omega arith) (omega arith))

pub returns-in_default : goal.returns-in_default
returns-in_default c = sym (name-no _ (grind arith) (omega arith) (omega arith) (omega arith) (omega arith))

pub returns-in_default-2 : goal.returns-in_default-2
returns-in_default-2 c = sym (name-no _ (grind arith) (omega arith) (omega arith) (omega arith) (omega arith))

pub returns-in_default-3 : goal.returns-in_default-3
returns-in_default-3 c = sym (name-no _ (grind arith) (omega arith) (omega arith) (omega arith) (omega arith))

pub returns-in_default-4 : goal.returns-in_default-4
returns-in_default-4 c = sym (name-no _ (grind arith) (omega arith) (omega arith) (omega arith) (omega arith))

pub returns-in_default-5 : goal.returns-in_default-5
returns-in_default-5 c = sym (name-no _ (grind arith) (omega arith) (omega arith) (omega arith) (omega arith))

pub returns-in-45 : goal.returns-in-45
unfolding is_name_byte between
returns-in-45 c = ⊎_elim (λ e. sym (ap is_name_byte e)) (λ e. sym (ap is_name_byte e)) c.in-45.is

pub returns-in-45-2 : goal.returns-in-45-2
returns-in-45-2 c = sym (name-mark _ (omega arith) (omega arith))
