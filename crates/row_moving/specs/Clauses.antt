-- What the functions that move rows promise of a row in its buffer.
use Rattle.std.specs.Prelude.{◌+◌, ◌<◌, ◌≤◌, ℕ, List, ◌++◌, ◌≡◌, length, take, Option, Some, None}
use Rattle.moving.specs.Rows.{most_frame_bytes}
use Rattle.row_writing.specs.Clauses.{start_bytes}
use Rattle.rows.specs.Stream.{write_end}
use Rattle.table.specs.declared.Rows.{Rows}

-- the cells that stand behind room for what begins the row are a row; there is none only where the buffer has no room for what ends it
abbrev pub FramedAs : Rows → ℕ → ℕ → List ℕ → ℕ → List ℕ → Option ℕ → Type 0
FramedAs to count nulls old end new (Some size) =
    (size ≤ length new)
    × ((cells before : List ℕ) → take end old ≡ before ++ cells → length before ≡ length (start_bytes to count nulls)
    → take size new ≡ start_bytes to count nulls ++ (cells ++ write_end to))
FramedAs to count nulls old end new None = length new < end + most_frame_bytes

pub record FramesRow (to : Rows) (count nulls : ℕ) (old : List ℕ) (end : ℕ) (new : List ℕ) (r : Option ℕ) : Type 0 where
  pub framed : FramedAs to count nulls old end new r
  pub long : length new ≡ length old
