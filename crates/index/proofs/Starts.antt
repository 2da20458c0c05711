-- The starts of a stream's rows: each row takes at least a byte, so they are that of the first row and those of the rest.
use Prim.Native.Nat.{◌<◌, ℕ}
use mathlib.Core.Bool.{cond}
use mathlib.Core.List.{List}
use mathlib.Core.Path.{◌≡◌}
use lib.ListN.{length}
use Rattle.index.specs.Index.{row_start, starts_of}
use Rattle.rows.proofs.Laws.{within-less}
use Rattle.rows.proofs.Sequences.{sequence-step}
use Rattle.rows.specs.Bounds.{Within}
use Rattle.rows.specs.Sequence.{finished, row_then}
use Rattle.rows.specs.Stream.{at_end}
use Rattle.table.proofs.Laws.{holds-bind}
use Rattle.table.specs.Result.{Holds, holds}
use Rattle.table.specs.declared.Column.{Column}
use Rattle.table.specs.declared.Rows.{Rows}

module _ (size : ℕ) (from : Rows) (cs : List Column) (are : Within cs) where
  start-less : (s : List ℕ) → Holds (λ (p : ℕ × List ℕ). length p.1 < length s) (row_start size from cs s)
  unfolding row_start
  start-less s = holds-bind (within-less from cs s are) (λ p h. holds h)

  pub starts-step : (s : List ℕ) → starts_of size from cs s ≡ cond (at_end from s) finished (row_then (row_start size from cs s) (starts_of size from cs))
  unfolding starts_of
  starts-step = sequence-step (at_end from) (row_start size from cs) start-less
