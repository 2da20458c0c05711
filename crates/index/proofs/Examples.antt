-- Sentences of 02 that compute: which rows have an entry, that all are counted, and the numbers of a row that has no place or is past the end.
use mathlib.Core.List.{[], ◌∷◌}
use mathlib.Core.Path.{◌≡◌, refl}
use Rattle.index.specs.Fetch.{fetch_indexed, is_indexed}
use Rattle.index.specs.Index.{enter, entry_of}
use Rattle.rows.specs.Sequence.{finished, row}
use Rattle.rows.specs.Stream.{fitted, wrote_then}
use Rattle.table.specs.Outcome.{accepted, at, refused}
use Rattle.table.specs.declared.Rows.TheVariants.{Binary2}

-- "place k holds the start of row 64k": of rows 63, 64 and 65, which start at 7, 8 and 9, the second
pub second-place : enter 2 63 (0 ∷ []) (row 7 (row 8 (row 9 finished))) ≡ accepted 66 (0 ∷ 8 ∷ [])
unfolding enter entry_of fitted wrote_then
second-place = refl

-- "17, at column 0, for a row that reads well but whose start has no place left"
pub no-second-place : enter 1 63 (0 ∷ []) (row 7 (row 8 (row 9 finished))) ≡ refused (at 0 17) 64 (0 ∷ [])
unfolding enter entry_of fitted wrote_then
no-second-place = refl

-- "20 .. past the end": row 2 of two rows
pub no-third-row : fetch_indexed Binary2 [] 100 [] (0 ∷ []) 2 2 ≡ refused (at 0 20) 0 []
unfolding fetch_indexed is_indexed
no-third-row = refl
