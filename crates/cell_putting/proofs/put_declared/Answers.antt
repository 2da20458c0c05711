-- cell_putting::put_declared: a null of BINARY that has a size has a form.
use Prim.Native.Nat.{ℕ}
use lib.ListN.{length}
use mathlib.Core.List.{List}
use mathlib.Core.Path.{◌∙◌, ◌≡◌, ap, refl, sym}
use Rattle.binary.specs.Binary.{null_form, write_binary}
use Rattle.cell_putting.proofs.Cells.{has-form}
use Rattle.moving.proofs.Puts.{puts-as, puts_none, puts-wrote}
use Rattle.rows.specs.Stream.{write_cell}
use Rattle.table.specs.Cell.{is_null, null_element}
use Rattle.table.specs.Clauses.{form_bytes, size_as, size_of}
use Rattle.table.specs.Result.{Result, good}
use native.Mathlib.Omega.{arith}
use Rattle.cell_putting.proofs.put_declared.Goals as goal

pub returns-then-row-o : goal.returns-then-row-o
returns-then-row-o c = puts_none _ _ c.requires.1

pub put_binary_null-end-requires : goal.put_binary_null-end-requires
put_binary_null-end-requires c =
    let takes : good c.in-Ok.size ≡ size_of (null_form c.args.column (null_element c.args.column)) = sym (ap size_as c.in-Ok.is) ∙ c.null_size.ensures in
    let f = has-form (null_form c.args.column (null_element c.args.column)) _ takes in
    (c.requires.0, omega (arith, ap (λ (w : Result ℕ (List ℕ)). length (form_bytes w)) f.1, f.2, c.if-row-o.false, c.requires.1))

pub returns-in_default : goal.returns-in_default
returns-in_default c = puts_none _ _ c.requires.1

pub returns : goal.returns
unfolding write_cell write_binary is_null
returns c =
    let takes : good c.in-Ok.size ≡ size_of (null_form c.args.column (null_element c.args.column)) = sym (ap size_as c.in-Ok.is) ∙ c.null_size.ensures in
    let f = has-form (null_form c.args.column (null_element c.args.column)) _ takes in
    let n = ap (λ (w : Result ℕ (List ℕ)). length (form_bytes w)) f.1 in
    record {
      bytes = f.0;
      writes = f.1;
      puts = puts-as (ap form_bytes f.1) (puts-wrote c.put_binary_null-end.ensures (omega (arith, n, f.2, c.if-row-o.false, c.requires.1)));
      same_next = refl;
      null_is = refl;
    }
