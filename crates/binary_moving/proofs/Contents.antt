-- A content that was moved, with what stands around it, is a cell: as bytes, as text.
use Rattle.std.specs.Prelude.{Option, Some}
use Prim.Native.Nat.{◌+◌, ◌≤◌, ℕ}
use native.Mathlib.Omega.{arith}
use mathlib.Core.Bool.{false}
use mathlib.Core.List.{List}
use mathlib.Core.Path.{◌≡◌, subst}
use lib.IntN.{ℤ}
use lib.ListN.{length}
use Rattle.binary.specs.Binary.{count_bytes, elements_bytes}
use Rattle.cell_putting.proofs.Cells.{tagged-put}
use Rattle.cell_putting.proofs.Elements.{elements-put, text-put}
use Rattle.cell_putting.specs.Clauses.{FillsUp}
use Rattle.moving.proofs.Puts.{puts-as}
use Rattle.moving.specs.Cells.{MovesRead, NeverNull}
use Rattle.moving.specs.Contents.{AsBinary, AsText, ContentMoved, content_form}
use Rattle.moving.specs.Puts.{Puts}
use Rattle.moving.specs.declared.Moved.{Moved}
use Rattle.rows.specs.Stream.{write_cell}
use Rattle.table.specs.Bytes.{bytes}
use Rattle.table.specs.Cell.{shown}
use Rattle.table.specs.Result.{good}
use Rattle.table.specs.Shape.{shape}
use Rattle.table.specs.declared.Column.{Column}
use Rattle.table.specs.declared.Rows.{Rows}
use Rattle.table.specs.declared.Rows.TheVariants.{TableData}

module _ (Reads : ℕ → List ℤ → Type 0) (from : Rows) (c : Column) (never : NeverNull c) (old : List ℕ) (o inner : ℕ) where
  pub bytes-moved : (to : Rows) (mid new : List ℕ) (count next end size : ℕ) (r : Option Moved) → ((es : List ℤ) → 1 ≤ length es → write_cell to c (shown es) ≡ good (elements_bytes c es))
      → ContentMoved Reads (AsBinary (shape c.kind)) old inner mid count next end → inner ≡ o + size → length (count_bytes c.len count) ≡ size → 1 ≤ count
      → FillsUp c count next mid o end new r → MovesRead Reads from to c old o new r
  bytes-moved to mid new count next end size r writes x q n some f =
      let m : 1 ≤ length x.es = omega (arith, x.count-is) in
      let at_inner : inner ≡ o + length (count_bytes c.len count) = omega (arith, q, n) in
      let p : Puts old (o + length (count_bytes c.len count)) (content_form (shape c.kind) x.es) mid end =
      subst (λ (k : ℕ). Puts old k (content_form (shape c.kind) x.es) mid end) at_inner (puts-as x.writes x.puts) in
      elements-put Reads from c never old o new next x.es x.reads m to (writes x.es m) r (f.filled old x.es x.count-is p)

  pub text-moved : (one mid new : List ℕ) (count next end e : ℕ) → Puts old o (bytes "<TD>") one inner → ContentMoved Reads (AsText (shape c.kind)) one inner mid count next end → 1 ≤ count
      → Puts mid end (bytes "</TD>") new e → MovesRead Reads from TableData c old o new (Some (record { next = next; end = e; null = false }))
  text-moved one mid new count next end e u x some w =
      text-put Reads from c never old o new next x.es x.reads (omega (arith, x.count-is)) x.bytes e x.writes (tagged-put u x.puts w)
