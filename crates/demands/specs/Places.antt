-- Which places of a BINARY2 stream show something: all but those "under a null flag, counts excepted, or after the first NUL of a text".
-- A place is marked true where it shows something.
use Rattle.std.specs.Prelude.{◌-◌, ℕ, Bool, cond, false, true, List, [], ◌++◌, ◌∷◌, map, eqb, get_or, length, replicate}
use Rattle.binary.specs.Binary.{bit_bytes, content_bytes, count_in, first_bytes, read_flags}
use Rattle.rows.specs.Sequence.{Sequence, finished, row, sequence, stopped}
use Rattle.rows.specs.Stream.{flag, flags_left, is_empty, is_set}
use Rattle.table.specs.Outcome.{at}
use Rattle.table.specs.Result.{Result, ◌>>=◌, good, refused_as}
use Rattle.table.specs.Shape.{Bits, Shape, Text, Truths, Whole, shape}
use Rattle.table.specs.declared.Column.{Column}

-- a text up to its first NUL, that NUL among it
unfoldable pub through_nul : List ℕ → List Bool
through_nul [] = []
through_nul (b ∷ s) = true ∷ cond (eqb b 0) (replicate (length s) false) (through_nul s)

-- a cell's content, under a null flag or not
unfoldable pub content_shows : Shape → Bool → List ℕ → List Bool
content_shows k true p = replicate (length p) false
content_shows Truths false p = replicate (length p) true
content_shows Bits false p = replicate (length p) true
content_shows (Whole g v) false p = replicate (length p) true
content_shows Text false p = through_nul p

-- the cells of a row: counts show, whatever the flags are
unfoldable pub cells_show : List Column → List Bool → List ℕ → Result ℕ (List Bool × List ℕ)
cells_show [] fs s = good ([], s)
cells_show (c ∷ cs) fs s = do
  (n, t) ← count_in c.len s
  (p, u) ← first_bytes (content_bytes (shape c.kind) n) t
  (marks, rest) ← cells_show cs (flags_left fs) u
  good (replicate (length s - length t) true ++ (content_shows (shape c.kind) (flag fs) p ++ marks), rest)

-- a row: its flags show
unfoldable pub row_shows : List Column → List ℕ → Result ℕ (List Bool × List ℕ)
row_shows cs s = do
  (bits, t) ← read_flags (length cs) s
  (marks, rest) ← cells_show cs (map is_set bits) t
  good (replicate (bit_bytes (length cs)) true ++ marks, rest)

-- row after row, up to the first that cannot be told apart
unfoldable pub stream_shows : List Column → List ℕ → Sequence (List Bool)
stream_shows cs s = sequence is_empty (λ t. refused_as (at 0) (row_shows cs t)) s

unfoldable pub marks_of : Sequence (List Bool) → List Bool
marks_of finished = []
marks_of (stopped e) = []
marks_of (row marks more) = marks ++ marks_of more

-- does place i show something? Past the rows that can be told apart all shows.
unfoldable pub shows_at : List Column → List ℕ → ℕ → Bool
shows_at cs s i = get_or (marks_of (stream_shows cs s)) i true
