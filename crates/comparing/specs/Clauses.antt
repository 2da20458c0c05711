-- What the functions that compare two inputs promise: places in a buffer, and how far both were read in step.
use Rattle.std.specs.Prelude.{◌*◌, ◌≤◌, ℕ, Bool, ◌&&◌, not, List, [], ◌++◌, ◌⊎◌, ◌≡◌, ltb, drop, length}
use Rattle.compare.specs.Compare.{Place, differences, placed, refused_in, rows_shown}
use Rattle.compare.specs.declared.Comparison.{Comparison}
use Rattle.comparing.specs.declared.Abreast.{Abreast}
use Rattle.comparing.specs.declared.Stepped.{Stepped}
use Rattle.row_reading.specs.Clauses.{RowsPassed}
use Rattle.rows.specs.Sequence.{in_order}
use Rattle.rows.specs.Stream.{at_end, read}
use Rattle.table.specs.Cell.{Cell}
use Rattle.table.specs.Result.{Result, ◌>>=◌, bad, good, refused_as}
use Rattle.table.specs.declared.Answer.{Answer}
use Rattle.table.specs.declared.Column.{Column}
use Rattle.table.specs.declared.Rows.{Rows}

-- ---- both inputs in step

-- both stand inside their inputs, behind no more rows than bytes
abbrev pub StandIn : List ℕ → List ℕ → Abreast → Type 0
StandIn s t p = (p.rows ≤ p.first) × (p.first ≤ length s) × (p.rows ≤ p.second) × (p.second ≤ length t)

abbrev pub have_rows : Rows → List ℕ → Rows → List ℕ → Abreast → Bool
have_rows from s kind t p = not (at_end from (drop p.first s)) && not (at_end kind (drop p.second t))

-- a row is left of both, and fewer places are known than are asked for
abbrev pub steps_on : ℕ → ℕ → Rows → List ℕ → Rows → List ℕ → Abreast → Bool
steps_on differing most from s kind t p = ltb differing most && have_rows from s kind t p

-- the places that differ from where both stand on, in the rows which both have before either ends or does not read
abbrev pub differ_from : Rows → List Column → List ℕ → Rows → List ℕ → Abreast → List Place
differ_from from cs s kind t p = differences p.rows (in_order (read from cs (drop p.first s))) (in_order (read kind cs (drop p.second t)))

abbrev pub at_start : Abreast
at_start = record { rows = 0; first = 0; second = 0 }

-- all of them
abbrev pub in_step : Rows → List Column → List ℕ → Rows → List ℕ → List Place
in_step from cs s kind t = differ_from from cs s kind t at_start

-- from a start on the first places that differ are in the buffer, all of them or as many as are asked for; each input is passed over so far; and before
-- where both stood last with nothing noted no cell differs
pub record Steps (from : Rows) (cs : List Column) (s : List ℕ) (kind : Rows) (t : List ℕ) (start : Abreast) (most : ℕ) (entry exit : List ℕ) (r : Stepped) : Type 0 where
  pub noted : List Place
  pub left : List Place
  pub all : differ_from from cs s kind t start ≡ noted ++ left
  pub enough : (left ≡ []) ⊎ (most ≤ length noted)
  pub counts : r.differing ≡ length noted
  pub few : r.differing ≤ 64 * length s
  pub leaves : exit ≡ placed noted entry
  pub first-passed : RowsPassed from cs s start.first start.rows r.end.first r.end.rows
  pub second-passed : RowsPassed kind cs t start.second start.rows r.end.second r.end.rows
  pub within : StandIn s t r.same
  pub same : differ_from from cs s kind t r.same ≡ differ_from from cs s kind t start

-- all that differs is counted
pub record Counts (from : Rows) (cs : List Column) (s : List ℕ) (kind : Rows) (t : List ℕ) (r : Stepped) : Type 0 where
  pub counts : r.differing ≡ length (in_step from cs s kind t)
  pub first-passed : RowsPassed from cs s 0 0 r.end.first r.end.rows
  pub second-passed : RowsPassed kind cs t 0 0 r.end.second r.end.rows
  pub within : StandIn s t r.same
  pub same : differ_from from cs s kind t r.same ≡ in_step from cs s kind t

-- ---- the rows of two inputs

-- "The first input's refusal is answered first, then the second's"
abbrev pub rows_both : List Column → Rows → List ℕ → Rows → List ℕ → Result Comparison (List (List Cell) × List (List Cell))
rows_both cs from s kind t = do
  xs ← refused_as (refused_in 0) (rows_shown 0 (read from cs s))
  ys ← refused_as (refused_in 1) (rows_shown 0 (read kind cs t))
  good (xs, ys)

-- a refusal of the second input that stands before its rows
abbrev pub behind_first : Result Answer (List (List Cell)) → Comparison → Comparison
behind_first (bad a) late = refused_in 0 a
behind_first (good xs) late = late
