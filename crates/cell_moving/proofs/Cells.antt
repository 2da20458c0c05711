-- A cell that has a size has a form, and what was written of it is put; one with no size, or one that is longer than the room, cannot be put.
use Rattle.std.specs.Prelude.{None, Option, Some, is_some, not}
use Prim.Native.Nat.{◌+◌, ◌<◌, ◌≤◌, ℕ}
use native.Mathlib.Omega.{arith}
use mathlib.Core.Bool.{Bool, false, false≢true, true}
use mathlib.Core.List.{List}
use mathlib.Core.Path.{◌∙◌, ◌≡◌, ap, refl, subst, sym}
use lib.IntN.{ℤ}
use lib.ListN.{length}
use Rattle.cell_putting.proofs.Cells.{has-form}
use Rattle.moving.proofs.Puts.{puts-wrote}
use Rattle.moving.specs.Cells.{CellPut, CellUnfit}
use Rattle.row_writing.proofs.RowForm.{form-bytes}
use Rattle.row_writing.specs.Clauses.{cell_bytes}
use Rattle.rows.specs.Stream.{write_cell}
use Rattle.table.proofs.Laws.{bad-good}
use Rattle.table.specs.Cell.{Cell, is_null}
use Rattle.table.specs.Clauses.{shown_as, size_of}
use Rattle.table.specs.Result.{Result, bad, good}
use Rattle.table.specs.Wrote.{Wrote}
use Rattle.table.specs.declared.Column.{Column}
use Rattle.table.specs.declared.Rows.{Rows}

-- what is written of a cell that has a form takes its size
pub form-length : (to : Rows) (c : Column) (x : Cell) (n : ℕ) → good n ≡ size_of (write_cell to c x) → length (cell_bytes to c x) ≡ n
form-length to c x n e =
    let f = has-form (write_cell to c x) n e in
    ap length (form-bytes to c x f.0 f.1) ∙ sym f.2

pub cell-put : (to : Rows) (c : Column) (x : Cell) (null : Bool) (next n : ℕ) (old : List ℕ) (o : ℕ) (new : List ℕ) (e : ℕ) → null ≡ is_null x → good n ≡ size_of (write_cell to c x)
    → o + n ≤ length old → Wrote old o (cell_bytes to c x) new e → CellPut to c x next old o new next e null
cell-put to c x null next n old o new e z q h w =
    let f = has-form (write_cell to c x) n q in
    let b = form-bytes to c x f.0 f.1 in
    record {
      bytes = f.0;
      writes = f.1;
      puts = puts-wrote (subst (λ (l : List ℕ). Wrote old o l new e) b w) (omega (arith, f.2));
      same_next = refl;
      null_is = z;
    }

-- ---- a cell that cannot be put

module _ (to : Rows) (c : Column) (x : Cell) (old : List ℕ) (o : ℕ) where
  pub no-form : (n : ℕ) → bad n ≡ size_of (write_cell to c x) → CellUnfit to c x old o
  no-form n e b w = absurd (bad-good (e ∙ ap size_of w))

  pub no_room : (n : ℕ) → good n ≡ size_of (write_cell to c x) → length old < o + n → CellUnfit to c x old o
  no_room n e h b w =
      let k : n ≡ length b = let q : ◌≡◌ {A = Result ℕ ℕ} (good n) (good (length b)) = e ∙ ap size_of w in cc in
      omega (arith, k)

-- what is found is null where it shows nothing
pub shown-null : (b : Bool) (o : Option ℕ) (l : List ℤ) → is_some o ≡ not b → b ≡ is_null (shown_as l o)
unfolding is_null
shown-null true None l e = refl
shown-null false None l e = absurd (false≢true e)
shown-null true (Some n) l e = absurd (false≢true (sym e))
shown-null false (Some n) l e = refl
