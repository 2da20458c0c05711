-- `binary_writing::size_binary` meets its contract: null by its form, nothing for an empty cell, or the elements.
use Rattle.binary_writing.proofs.Sizes.{held-length}
use Rattle.binary_writing.proofs.Writing.{write-none, write-some}
use Rattle.binary.specs.Binary.{write_binary}
use Prim.Native.Nat.{◌≤◌}
use Rattle.table.specs.Cell.{bound}
use Rattle.table.specs.Clauses.{size_of}
use Rattle.table.specs.Result.{good}
use lib.ListN.{length, take}
use lib.Seq.{length-take-le}
use mathlib.Core.Path.{◌∙◌, ◌≡◌, ap, refl, sym}
use Rattle.binary_writing.proofs.size_binary.Goals as goal

pub returns-in-None : goal.returns-in-None
unfolding write_binary
returns-in-None c = rw c.in-None.is c.null_size.ensures

pub returns-in-Some-eq0 : goal.returns-in-Some-eq0
returns-in-Some-eq0 c =
    let none = sym c.in-Some-eq0.field-0-is ∙ c.in-Some-eq0.field-0-test in
    rw (c.in-Some-eq0.is, none) (sym (ap size_of (write-none c.args.column (take 0 c.args.scratch.now) refl)))

pub returns-in-Some : goal.returns-in-Some
returns-in-Some c =
    let few : c.in-Some.count ≤ bound c.args.column.len = rw c.in-Some.is at c.requires.1 in
    let within : c.in-Some.count ≤ length c.args.scratch.now = rw c.in-Some.is at c.requires.2 in
    let es = take c.in-Some.count c.args.scratch.now in
    let shows : c.in-Some.count ≡ 0 → ⊥ = rw c.in-Some.is at c.in-Some.count-test.1 in
    let some = write-some c.args.column es (λ e. shows (sym (length-take-le c.in-Some.count c.args.scratch.now within) ∙ e)) in
    rw c.in-Some.is (ap good (c.elements_size.ensures ∙ sym (held-length c.args.column c.in-Some.count c.args.scratch.now few within)) ∙ sym (ap size_of some))
