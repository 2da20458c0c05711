-- What is promised of an index and of one row by it.
use Rattle.std.specs.Prelude.{ℕ, List, [], ◌∷◌, ◌≡◌, None, Some}
use Rattle.demands.specs.OneRow.{FetchEnded, FetchesAlike, IndexEnded, StopsAsConverted}
use Rattle.fields.specs.Fields.{declare}
use Rattle.sailmortar.specs.Face.{binary_of}
use Rattle.table.specs.Outcome.{Call}
use Rattle.table.specs.declared.Rows.{Rows}

-- ---- one row by an index

-- what holds of BINARY or BINARY2, as a number names them
abbrev pub OfBinary : ℕ → (Rows → Type 0) → Type 0
OfBinary from P = (source : Rows) → binary_of from ≡ Some source → P source

-- a number that names neither: 255 and zeros, and what was lent is untouched
abbrev pub NotBinary : ℕ → List ℕ → List ℕ → List ℕ → Type 0
NotBinary from lent numbers exit = binary_of from ≡ None → (numbers ≡ 255 ∷ 0 ∷ 0 ∷ 0 ∷ 0 ∷ []) × (exit ≡ lent)

-- 02, #101: "keep, beside a BINARY or BINARY2 stream, an index in a lent buffer of 32-bit numbers: place k holds the start of row 64k"
pub record Indexed (decls input entry : List ℕ) (c : Call) (from : Rows) : Type 0 where
  -- which rows are counted, which places are filled, and why it ended there
  pub ended : IndexEnded (declare decls) from input entry c
  -- "A stream that is refused in reading gets the same refusal while indexing."
  pub stops : StopsAsConverted decls from input entry c

-- "Fetching a row with the index that was built from that stream and those declarations"
abbrev pub FetchedRow : List ℕ → List ℕ → ℕ → ℕ → List ℕ → Call → Rows → Type 0
FetchedRow decls input rows row out d from = FetchEnded (declare decls) decls from input rows row out d

-- two fetches that look at the same
abbrev pub SameFetched : List ℕ → List ℕ → List ℕ → List ℕ → List ℕ → ℕ → List ℕ → List ℕ → Call → Call → Rows → Type 0
SameFetched decls input other index others row out room c d from = FetchesAlike decls from input other index others row out room c d
