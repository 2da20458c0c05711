-- `tabledata_writing::form_size` meets its contract: the escaped are keys of `match`, 9 and 10, 32 to 127 ranges.
use Prim.Native.Nat.{ℕ}
use native.Mathlib.Omega.{arith}
use mathlib.Core.Logic.{⊎_elim}
use mathlib.Core.Path.{ap}
use lib.Dec.{lit≤}
use lib.IntN.{pos}
use Rattle.table.specs.Bytes.{between}
use Rattle.table.specs.Clauses.{size_of}
use Rattle.tabledata.proofs.Characters.{text-low, text-not, text-yes}
use Rattle.tabledata_writing.proofs.Writing.{size-itself, size-no}
use Rattle.tabledata_writing.specs.Clauses.{form_size}
use Rattle.tabledata.specs.TableData.{escaped, form_of, is_text}
use Rattle.tabledata_writing.proofs.form_size.Goals as goal

pub returns-in-60 : goal.returns-in-60
unfolding form_of is_text between escaped form_size
returns-in-60 c = (⊎_elim (λ e. ap (λ (n : ℕ). size_of (form_of (pos n))) e) (λ e. ap (λ (n : ℕ). size_of (form_of (pos n))) e) c.in-60.is, lit≤ tt)

pub returns-in-9 : goal.returns-in-9
returns-in-9 c = (size-itself _ (text-low _ (omega arith) (omega arith)) (λ e. omega arith) (λ e. omega arith) (λ e. omega arith) (λ e. omega arith), lit≤ tt)

pub returns-in_default : goal.returns-in_default
returns-in_default c = (size-no _ (text-not _ (λ e. omega arith) (λ e. omega arith) (grind arith) (λ e. omega arith)), tt)

pub returns-in_default-2 : goal.returns-in_default-2
returns-in_default-2 c = (size-no _ (text-not _ (λ e. omega arith) (λ e. omega arith) (grind arith) (λ e. omega arith)), tt)

pub returns-in_default-3 : goal.returns-in_default-3
returns-in_default-3 c = (size-no _ (text-not _ (λ e. omega arith) (λ e. omega arith) (grind arith) (λ e. omega arith)), tt)

pub returns-in-32-to-127 : goal.returns-in-32-to-127
unfolding form_of is_text between escaped form_size
returns-in-32-to-127 c =
    (ap (λ (n : ℕ). size_of (form_of (pos n))) c.in-32-to-127.in-32-to-127-own.keys4, lit≤ tt)

pub returns-in-32-to-127-2 : goal.returns-in-32-to-127-2
returns-in-32-to-127-2 c =
    (size-itself _ (text-yes _ (omega arith) (omega arith)) (grind arith) (grind arith) (grind arith) (λ e. omega arith), lit≤ tt)

pub returns-in-13 : goal.returns-in-13
unfolding form_of is_text between escaped form_size
returns-in-13 c = (ap (λ (n : ℕ). size_of (form_of (pos n))) c.in-13.is, lit≤ tt)

pub returns-in-13-2 : goal.returns-in-13-2
unfolding form_of is_text between escaped form_size
returns-in-13-2 c = (ap (λ (n : ℕ). size_of (form_of (pos n))) c.in-13.is, lit≤ tt)
