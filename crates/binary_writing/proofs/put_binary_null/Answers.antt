-- `binary_writing::put_binary_null` meets its contract: an element that stands for null has a scalar column; an empty cell is zeros.
use Prim.Native.Nat.{ℕ}
use Rattle.binary_writing.proofs.Writing.{empty-zeros, null-content, null-empty, null-none}
use Rattle.binary.proofs.Laws.{filled-length}
use Rattle.binary.specs.Binary.{bytes_of, number}
use Rattle.table.proofs.Wrote.{wrote_as, wrote_none}
use Rattle.table.specs.Clauses.{form_bytes}
use Rattle.table.specs.Result.{Result}
use Rattle.table.specs.Shape.{shape}
use borrow.Author.Rules.{rules}
use lib.Dec.{lit≤}
use lib.IntN.{ℤ}
use lib.ListN.{length}
use mathlib.Core.List.{List, [], ◌∷◌, map}
use mathlib.Core.Path.{◌∙◌, ◌≡◌, ap, sym}
use mir.Syntax.{w64}
use mir.Val.{of_z, to_z}
use native.Mathlib.Omega.{arith}
use Rattle.binary_writing.proofs.put_binary_null.Goals as goal

pub put_content-requires : goal.put_content-requires
put_content-requires c =
    let a = c.args in let z = c.in-Some.z in let k = shape a.column.kind in
    let q = sym c.null_element.ensures ∙ c.in-Some.is in
    (lit≤ tt, omega (arith, c.requires.1, ap length (null-content a.column z q), filled-length 1 (map (number k) (z ∷ [])) k (lit≤ tt)))

pub put_null-requires : goal.put_null-requires
put_null-requires c =
    let a = c.args in
    let q = sym c.null_element.ensures ∙ c.in-None.is in
    let e = sym c.can_be_empty.ensures ∙ c.if-can_be_empty.true in
    (c.requires.0, omega (arith, c.requires.1, ap (λ (r : Result ℕ (List ℕ)). length (form_bytes r)) (null-empty a.column q e), ap length (empty-zeros a.column e)))

pub returns-in-Some : goal.returns-in-Some
returns-in-Some c =
    let a = c.args in let z = c.in-Some.z in let k = shape a.column.kind in
    let q = sym c.null_element.ensures ∙ c.in-Some.is in
    let e : to_z w64 (of_z w64 z) ≡ z = search rules in
    wrote_as (ap (λ (x : ℤ). bytes_of k 1 (map (number k) (x ∷ []))) e ∙ sym (null-content a.column z q)) c.put_content.ensures

pub returns-in-None : goal.returns-in-None
returns-in-None c =
    let a = c.args in
    let q = sym c.null_element.ensures ∙ c.in-None.is in
    let e = sym c.can_be_empty.ensures ∙ c.if-can_be_empty.true in
    wrote_as (sym (ap form_bytes (null-empty a.column q e) ∙ empty-zeros a.column e)) c.put_null.ensures

pub returns-in-None-2 : goal.returns-in-None-2
returns-in-None-2 c =
    let a = c.args in
    let q = sym c.null_element.ensures ∙ c.in-None-2.is in
    wrote_as (sym (ap form_bytes (null-none a.column q (sym c.can_be_empty.ensures ∙ c.if-can_be_empty.false)))) (wrote_none a.out.now a.at)
