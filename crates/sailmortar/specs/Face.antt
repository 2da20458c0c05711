-- The public face: what each function for C answers, in numbers, and what it leaves in the buffer that it was lent.
use Rattle.std.specs.Prelude.{ℕ, List, [], ◌∷◌, length, replicate, Option, None, Some}
use Rattle.base64_rules.specs.Base64.{decode_call, encode_call}
use Rattle.compare.specs.Compare.{Compared, compare}
use Rattle.fields.specs.Fields.{declare}
use Rattle.index.specs.Fetch.{fetch}
use Rattle.index.specs.Index.{index}
use Rattle.parts.specs.Join.{join, parts_of}
use Rattle.rows.specs.Convert.{convert}
use Rattle.rows.specs.Pieces.{PieceCall, convert_piece}
use Rattle.table.specs.Outcome.{Call, Refusal}
use Rattle.table.specs.Result.{Result, bad, good}
use Rattle.table.specs.declared.Column.{Column}
use Rattle.table.specs.declared.Rows.{Rows}
unfoldable pub use Rattle.numbering.specs.Numbering.{binary_of, eight, five, joined_numbers, joined_of, rows_of, six}

-- the numbers, and every byte of the buffer
pub record Faced : Type 0 where
  pub numbers : List ℕ
  pub buffer : List ℕ

unfoldable pub faced : Call → Faced
faced c = record { numbers = five c.answer; buffer = c.buffer }

-- ---- conversion

-- a kind's number that is none of the three: 255, all other numbers 0 and nothing touched, before anything else is judged
unfoldable pub no_such_kind : ℕ → List ℕ → Faced
no_such_kind others out = record { numbers = 255 ∷ replicate others 0; buffer = out }

unfoldable pub between_kinds : Option Rows → Option Rows → Faced → (Rows → Rows → Faced) → Faced
between_kinds (Some from) (Some to) otherwise call = call from to
between_kinds (Some from) None otherwise call = otherwise
between_kinds None to otherwise call = otherwise

unfoldable pub convert_face : List ℕ → ℕ → ℕ → List ℕ → List ℕ → Faced
convert_face decls from to input out =
    between_kinds (rows_of from) (rows_of to) (no_such_kind 4 out) (λ source target. faced (convert decls source target input out))

-- ---- conversion of a piece: the five numbers, and sixth the place where the rows done end

unfoldable pub piece_faced : PieceCall → Faced
piece_faced p = record { numbers = six p.call.answer p.place; buffer = p.call.buffer }

unfoldable pub piece_face : List ℕ → ℕ → ℕ → List ℕ → List ℕ → Faced
piece_face decls from to input out =
    between_kinds (rows_of from) (rows_of to) (no_such_kind 5 out) (λ source target. piece_faced (convert_piece decls source target input out))

-- ---- an index and one row by it, of BINARY and BINARY2: "beside a BINARY or BINARY2 stream"

unfoldable pub of_kind : Option Rows → Faced → (Rows → Faced) → Faced
of_kind (Some from) otherwise call = call from
of_kind None otherwise call = otherwise

unfoldable pub index_face : List ℕ → ℕ → List ℕ → List ℕ → Faced
index_face decls from input entries = of_kind (binary_of from) (no_such_kind 4 entries) (λ source. faced (index decls source input entries))

unfoldable pub fetch_face : List ℕ → ℕ → List ℕ → List ℕ → ℕ → ℕ → List ℕ → Faced
fetch_face decls from input entries rows row out =
    of_kind (binary_of from) (no_such_kind 4 out) (λ source. faced (fetch decls source input entries rows row out))

-- ---- two inputs compared: number, row, column, input, cells that differ, rows that the first has beyond, rows that the second has beyond, places filled

unfoldable pub compared_faced : Compared → Faced
compared_faced c = record { numbers = eight c.answer; buffer = c.buffer }

unfoldable pub compare_face : List ℕ → ℕ → List ℕ → ℕ → List ℕ → List ℕ → Faced
compare_face decls from_First first from_Second second places =
    between_kinds (rows_of from_First) (rows_of from_Second) (no_such_kind 7 places) (λ source other. compared_faced (compare decls source first other second places))

-- ---- parts joined: number, row, column, rows, bytes, place, parts used, and whether it has ended; at entry how far it has come, at exit how far with
-- these parts, nine numbers each

unfoldable pub join_face : ℕ → ℕ → List ℕ → List ℕ → List ℕ
join_face length room parts joined = joined_numbers (join length room (joined_of joined) (parts_of parts))

-- ---- base64

unfoldable pub decode_face : List ℕ → List ℕ → Faced
decode_face input out = faced (decode_call input out)

unfoldable pub encode_face : List ℕ → List ℕ → Faced
encode_face input out = faced (encode_call input out)

-- ---- declarations: number, 0, place, columns, 0

unfoldable pub declared_numbers : Result Refusal (List Column) → List ℕ
declared_numbers (good cs) = 0 ∷ 0 ∷ 0 ∷ length cs ∷ 0 ∷ []
declared_numbers (bad e) = e.number ∷ 0 ∷ e.column ∷ 0 ∷ 0 ∷ []

unfoldable pub declare_face : List ℕ → List ℕ
declare_face decls = declared_numbers (declare decls)
