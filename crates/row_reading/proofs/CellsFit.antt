-- What is read fits its column, in all kinds of rows: so it has at most as many elements as its column bounds.
use Rattle.std.specs.Prelude.{None, Option, Some}
use Rattle.table.specs.Clauses.{ShownUpTo, ShownWithin, shown_as}
use Prim.Native.Nat.{◌<◌, ◌≤◌, suc, ℕ}
use native.Mathlib.Omega.{arith}
use mathlib.Core.Bool.{Bool, false}
use mathlib.Core.List.{List, [], ◌∷◌}
use mathlib.Core.Path.{◌≡◌}
use lib.IntN.{ℤ}
use lib.ListN.{drop, get_or, length, take}
use lib.Seq.{length-take-le}
use Rattle.binary.proofs.Laws.{binary2-fits}
use Rattle.binary.specs.Binary.{read_binary}
use Rattle.rows.specs.Stream.{read_cell}
use Rattle.table.proofs.Laws.{all_drop, empty-fits, holds_at, holds-bind, holds-weaken}
use Rattle.table.specs.All.{AreBytes}
use Rattle.table.specs.Cell.{Cell, Fits, bound, fits-shown, shown}
use Rattle.table.specs.Result.{Holds, good, holds}
use Rattle.table.specs.declared.Column.{Column}
use Rattle.table.specs.declared.Rows.{Rows}
use Rattle.table.specs.declared.Rows.TheVariants.{Binary, Binary2, TableData}
use Rattle.tabledata.proofs.Laws.{text-fits}

pub bytes-of : (s : List ℕ) → ((i : ℕ) → i < length s → get_or s i 0 < 256) → AreBytes s
bytes-of [] h = tt
bytes-of (b ∷ s) h = (h 0 (omega arith), bytes-of s (λ i k. h (suc i) (omega arith)))

pub cell-fits : (from : Rows) (c : Column) (flagged : Bool) (s : List ℕ) → AreBytes s → Holds (λ (p : Cell × List ℕ). Fits c p.0) (read_cell from c flagged s)
unfolding read_cell read_binary
cell-fits TableData c flagged s a = holds-weaken (text-fits c s) (λ p h. h.fits)
cell-fits Binary c flagged s a = holds-bind (binary2-fits c false s a) (λ p h. holds (empty-fits c p.0 h.0))
cell-fits Binary2 c flagged s a = holds-weaken (binary2-fits c flagged s a) (λ p h. h.0)

pub found-fits : (from : Rows) (c : Column) (flagged : Bool) (s : List ℕ) (place : ℕ) (x : Cell) (rest : List ℕ) → AreBytes s → read_cell from c flagged (drop place s) ≡ good (x, rest) → Fits c x
found-fits from c flagged s place x rest a e = holds_at (cell-fits from c flagged (drop place s) (all_drop _ place s a)) e

-- a cell has at most as many elements as its column's bound
pub found-few : (from : Rows) (c : Column) (flagged : Bool) (s : List ℕ) (place count : ℕ) (scratch : List ℤ) (rest : List ℕ) → AreBytes s → count ≤ length scratch
    → read_cell from c flagged (drop place s) ≡ good (shown (take count scratch), rest) → count ≤ bound c.len
found-few from c flagged s place count scratch rest a h e = few (found-fits from c flagged s place (shown (take count scratch)) rest a e)
  where
    few : Fits c (shown (take count scratch)) → count ≤ bound c.len
    few (fits-shown k n) = rw (length-take-le count scratch h) at k.few

-- what is found is within the column's bound
pub found-up-to : (from : Rows) (c : Column) (flagged : Bool) (s : List ℕ) (place : ℕ) (o : Option ℕ) (scratch : List ℤ) (rest : List ℕ) → AreBytes s → ShownWithin scratch o
    → read_cell from c flagged (drop place s) ≡ good (shown_as scratch o, rest) → ShownUpTo (bound c.len) o
found-up-to from c flagged s place None scratch rest a h e = tt
found-up-to from c flagged s place (Some count) scratch rest a h e = found-few from c flagged s place count scratch rest a h e
