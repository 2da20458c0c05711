-- A cell of any kind of rows: what the grammar has at the front of the input is what is read, and where it has none, the number that it gives
-- is the reader's. Both by the laws of the kind.
use Prim.Native.Nat.{ℕ}
use mathlib.Core.Bool.{Bool, false}
use mathlib.Core.List.{List}
use mathlib.Core.Path.{◌≡◌, subst⁻¹}
use Rattle.binary.specs.Binary.{read_binary}
use Rattle.grammar.proofs.BinariesRead.{binary-is, binary-read, binary2-is, binary2-read}
use Rattle.grammar.proofs.BinariesRefused.{no-binary2-is, no-binary2-read}
use Rattle.grammar.proofs.TextRead.{cell-is, cell-read}
use Rattle.grammar.proofs.TextRefused.{no-text-is, no-text-read}
use Rattle.grammar.specs.CellRefusals.{CellAt, NoCell, binary-at, binary2-at, text_at}
use Rattle.rows.specs.Stream.{read_cell}
use Rattle.table.proofs.Laws.{fails-bind, holds-weaken}
use Rattle.table.specs.All.{AreBytes}
use Rattle.table.specs.Cell.{Cell}
use Rattle.table.specs.Result.{Fails, Holds, bad, gives, good}
use Rattle.table.specs.declared.Column.{Column}
use Rattle.table.specs.declared.Rows.{Rows}
use Rattle.table.specs.declared.Rows.TheVariants.{Binary, Binary2, TableData}

-- ---- a cell that stands there

pub cell-at-read : {from : Rows} {c : Column} {f : Bool} {s : List ℕ} {x : Cell} {rest : List ℕ} → CellAt c f from s x rest → read_cell from c f s ≡ good (x, rest)
unfolding read_cell
cell-at-read (text_at {rest = rest} w t) = cell-read w t rest
cell-at-read (binary-at {rest = rest} b) = binary-read b rest
cell-at-read (binary2-at {rest = rest} b) = binary2-read b rest

pub cell-at-is : (from : Rows) (c : Column) (f : Bool) (s : List ℕ) → AreBytes s → Holds (λ (p : Cell × List ℕ). CellAt c f from s p.0 p.1) (read_cell from c f s)
unfolding read_cell
cell-at-is TableData c f s a =
    holds-weaken (cell-is c s) (λ p r. subst⁻¹ (λ (t : List ℕ). CellAt c f TableData t p.0 p.1) r.whole (text_at r.is_white r.spelled))
cell-at-is Binary c f s a = holds-weaken (binary-is c s a) (λ p r. subst⁻¹ (λ (t : List ℕ). CellAt c f Binary t p.0 p.1) r.whole (binary-at r.spelled))
cell-at-is Binary2 c f s a = holds-weaken (binary2-is c f s a) (λ p r. subst⁻¹ (λ (t : List ℕ). CellAt c f Binary2 t p.0 p.1) r.whole (binary2-at r.spelled))

-- ---- none stands there

pub no-cell-read : (from : Rows) (c : Column) (f : Bool) (s : List ℕ) (n : ℕ) → AreBytes s → NoCell from c f s n → read_cell from c f s ≡ bad n
unfolding read_cell read_binary
no-cell-read TableData c f s n a h = no-text-read h
no-cell-read Binary c f s n a h = rw (no-binary2-read a h)
no-cell-read Binary2 c f s n a h = no-binary2-read a h

pub no-cell-is : (from : Rows) (c : Column) (f : Bool) (s : List ℕ) → AreBytes s → Fails (NoCell from c f s) (read_cell from c f s)
unfolding read_cell read_binary
no-cell-is TableData c f s a = no-text-is c s
no-cell-is Binary c f s a = fails-bind (no-binary2-is c false s a) (λ p. gives)
no-cell-is Binary2 c f s a = no-binary2-is c f s a
