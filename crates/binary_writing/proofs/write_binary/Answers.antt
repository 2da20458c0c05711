-- `binary_writing::write_binary` meets its contract: null by its form, nothing for an empty cell, or the elements.
use Rattle.binary_writing.proofs.Writing.{write-none, write-some}
use Rattle.binary.specs.Binary.{null_form, write_binary}
use Rattle.table.proofs.Wrote.{wrote_as, wrote_none}
use Rattle.table.specs.Cell.{null_element, shown}
use Rattle.table.specs.Clauses.{form_bytes}
use Prim.Native.Nat.{◌+◌, ◌≤◌}
use lib.ListN.{length, take}
use lib.Seq.{length-take-le}
use mathlib.Core.Path.{◌∙◌, ◌≡◌, ap, refl, sym}
use Rattle.binary_writing.proofs.write_binary.Goals as goal

pub put_binary_null-requires : goal.put_binary_null-requires
unfolding write_binary
put_binary_null-requires c =
    let a = c.args in
    let room : a.at + length (form_bytes (null_form a.column (null_element a.column))) ≤ length a.out.now = rw c.in-None.is at c.requires.scratch_in_bounds in
    (c.requires.len_bound.0, room)

pub returns-in-None : goal.returns-in-None
unfolding write_binary
returns-in-None c = rw c.in-None.is c.put_binary_null.ensures

pub returns-in-Some-eq0 : goal.returns-in-Some-eq0
returns-in-Some-eq0 c =
    let none = sym c.in-Some-eq0.field-0-is ∙ c.in-Some-eq0.field-0-test in
    rw (c.in-Some-eq0.is, none) (wrote_as (sym (ap form_bytes (write-none c.args.column (take 0 c.args.scratch.now) refl))) (wrote_none c.args.out.now c.args.at))

pub put_elements-requires-clause-scratch_in_bounds : goal.put_elements-requires-clause-scratch_in_bounds
put_elements-requires-clause-scratch_in_bounds c =
    let a = c.args in let es = take c.in-Some.count a.scratch.now in
    let within : c.in-Some.count ≤ length a.scratch.now = rw c.in-Some.is at c.requires.len_bound.2 in
    let shows : c.in-Some.count ≡ 0 → ⊥ = rw c.in-Some.is at c.in-Some.count-test.1 in
    let some = write-some a.column es (λ e. shows (sym (length-take-le c.in-Some.count a.scratch.now within) ∙ e)) in
    let room : a.at + length (form_bytes (write_binary a.column (shown es))) ≤ length a.out.now = rw c.in-Some.is at c.requires.scratch_in_bounds in
    rw some at room

pub returns-in-Some : goal.returns-in-Some
returns-in-Some c =
    let a = c.args in let es = take c.in-Some.count a.scratch.now in
    let within : c.in-Some.count ≤ length a.scratch.now = rw c.in-Some.is at c.requires.len_bound.2 in
    let shows : c.in-Some.count ≡ 0 → ⊥ = rw c.in-Some.is at c.in-Some.count-test.1 in
    let some = write-some a.column es (λ e. shows (sym (length-take-le c.in-Some.count a.scratch.now within) ∙ e)) in
    rw c.in-Some.is (wrote_as (sym (ap form_bytes some)) c.put_elements.ensures)
