-- The demands of calls of the face: what holds between the slices and the numbers that a caller has in hand.
use Rattle.std.specs.Prelude.{◌<◌, ◌≤◌, ℕ, true, List, [], ◌++◌, ◌∷◌, ◌↔◌, ◌≡◌, get_or, length, None, Some}
use Rattle.demands.specs.Demands.{Accepted, Comes, Ended, SameFate, Stream, output}
use Rattle.demands.specs.Places.{shows_at}
use Rattle.demands.specs.Tables.{lines, up_to}
use Rattle.fields.specs.Fields.{declare}
use Rattle.grammar.specs.Declarations.{Declares}
use Rattle.grammar.specs.Exact.{Answers, CutFile, InGrammar, Refuses, table_of}
use Rattle.grammar.specs.Valid.{Spells}
use Rattle.rows.specs.Stream.{read}
use Rattle.sailmortar.specs.Face.{rows_of}
use Rattle.table.specs.All.{AreBytes}
use Rattle.table.specs.Cell.{Cell}
use Rattle.table.specs.LineEnds.{line_ends}
use Rattle.table.specs.Outcome.{Call, accepted, most_input, most_number}
use Rattle.table.specs.Result.{good}
use Rattle.table.specs.declared.Column.{Column}
use Rattle.table.specs.declared.Rows.{Rows}
use Rattle.table.specs.declared.Rows.TheVariants.{Binary2, TableData}

-- a call of the face as the demands speak of one: its five numbers, and the buffer at exit
unfoldable pub call_of : List ℕ → List ℕ → Call
call_of numbers exit =
    record {
      answer = record { number = get_or numbers 0 0; row = get_or numbers 1 0; column = get_or numbers 2 0; rows = get_or numbers 3 0; bytes = get_or numbers 4 0 };
      buffer = exit;
    }

-- ---- one call

-- what holds of the kinds of rows that two numbers name
abbrev pub Between : ℕ → ℕ → (Rows → Rows → Type 0) → Type 0
Between from to P = (source target : Rows) → rows_of from ≡ Some source → rows_of to ≡ Some target → P source target

-- a number that names no kind of rows: 255 and zeros, and nothing is touched
pub record Unnamed (from to : ℕ) (out numbers exit : List ℕ) : Type 0 where
  pub no_source : rows_of from ≡ None → (numbers ≡ 255 ∷ 0 ∷ 0 ∷ 0 ∷ 0 ∷ []) × (exit ≡ out)
  pub no_target : rows_of to ≡ None → (numbers ≡ 255 ∷ 0 ∷ 0 ∷ 0 ∷ 0 ∷ []) × (exit ≡ out)

-- demand 1: "Whatever bytes come in, as column declarations, as rows .., the software ends with rows or with one numbered refusal and the row and
-- column where it stopped. .. Rows before the bad one stand whole in the output; every byte after them is untouched."
pub record RowsOrRefusal (decls input out : List ℕ) (c : Call) (from to : Rows) : Type 0 where
  -- the number is 0 or one of 01's refusals
  pub numbered : c.answer.number ≤ most_number
  -- which rows stand, and why it ended there
  pub ended : Ended (declare decls) from to input out c
  -- "the row and column where it stopped": this number there, exactly when the grammar says so
  pub refused-exactly : (n row column : ℕ) → Refuses decls from to input (length out) n row column ↔ (Answers c.answer n row column × (0 < n))
  -- "a cut file at that hour has no one awake to mend it. I need the good rows and the spot where it went wrong.": whatever bytes were cut off
  pub cut : (more : List ℕ) → AreBytes more → (g : InGrammar decls from to (input ++ more) (length out)) → CutFile from to g.columns input g.rows c

-- demand 2: "It accepts exactly what VOTable 1.4, as narrowed in document 01, calls valid, 01's writing refusals apart, and each row it writes
-- means what the row it read means, cell by cell, nulls included."
pub record MeansWhatWasRead (decls input out : List ℕ) (c : Call) (from to : Rows) : Type 0 where
  -- "accepts exactly": what the grammar has
  pub exactly : Accepted c ↔ InGrammar decls from to input (length out)
  -- "means what the row it read means": what is written reads back as the rows that were read, accepted or refused later
  pub means : (cs : List Column) → declare decls ≡ good cs → read to cs (output c) ≡ up_to c.answer.rows (read from cs input)
  -- 02, #105: "what we wrote reads as before": an XML processor hands on what is written as TABLEDATA as it stands
  pub handed-on : to ≡ TableData → line_ends (output c) ≡ output c
  -- accepted: the output spells, in the target's grammar, the rows that the input spells, all of them
  pub spelled : (g : InGrammar decls from to input (length out)) → Spells to g.columns (output c) g.rows
  pub all-rows : (g : InGrammar decls from to input (length out)) → c.answer.rows ≡ length g.rows

-- ---- two calls

-- a call as its caller has it: the number of the kind of rows, the input and the buffer at entry; the five numbers and the buffer at exit
pub record Made : Type 0 where
  pub from : ℕ
  pub input : List ℕ
  pub entry : List ℕ
  pub numbers : List ℕ
  pub exit : List ℕ

abbrev pub made : ℕ → List ℕ → List ℕ → List ℕ → List ℕ → Made
made from input entry numbers exit = record { from = from; input = input; entry = entry; numbers = numbers; exit = exit }

-- its stream, and one of its rows
abbrev pub row_of : Rows → Made → ℕ → Stream
row_of source m row = record { from = source; input = m.input; out = m.entry; row = row }

-- demand 3: "A row's output depends on the declarations, the target and what that row shows, and, room and earlier refusals apart, on nothing
-- else."
pub record NothingElse (decls : List ℕ) (to : ℕ) (first second : Made) : Type 0 where
  -- "Two rows that show the same under the same declarations, in any two streams, get for the same target, if nothing earlier is refused and
  -- there is room enough, the same bytes or the same refusal number and column, whatever stands around them."
  pub same_rows : (target source other : Rows) → rows_of to ≡ Some target → rows_of first.from ≡ Some source → rows_of second.from ≡ Some other
      → (cs : List Column) → declare decls ≡ good cs → (xs : List Cell) (j k : ℕ)
      → (c : Comes target cs xs (row_of source first j)) (d : Comes target cs xs (row_of other second k))
      → SameFate target cs xs (row_of source first j) (row_of other second k) c.before d.before
      (call_of first.numbers first.exit) (call_of second.numbers second.exit)
  -- "And if an accepted BINARY2 stream has changed only in bytes that show nothing (under a null flag, counts excepted, or after the first NUL
  -- of a text), it is accepted again, for the same target and room, and written as the same bytes.": every number and every byte written is
  -- the same, whatever the two buffers held, and a refused stream is refused the same
  pub unseen-bytes : first.from ≡ 2 → second.from ≡ 2 → length second.entry ≡ length first.entry → (cs : List Column) → declare decls ≡ good cs
      → length second.input ≡ length first.input
      → ((i : ℕ) → i < length first.input → shows_at cs first.input i ≡ true → get_or second.input i 0 ≡ get_or first.input i 0)
      → (second.numbers ≡ first.numbers) × (output (call_of second.numbers second.exit) ≡ output (call_of first.numbers first.exit))
  -- 02, #105: "a literal 13 10, or a 13 alone, is handed on as one 10": TABLEDATA, and what an XML processor in front hands on of it
  pub line-ends : first.from ≡ 0 → second.from ≡ 0 → length second.entry ≡ length first.entry → length first.input ≤ most_input
      → second.input ≡ line_ends first.input
      → (second.numbers ≡ first.numbers) × (output (call_of second.numbers second.exit) ≡ output (call_of first.numbers first.exit))

-- ---- there and back

-- room enough, said of the rows: their lines have room, and those of BINARY2 are within the size of an input
pub record RoomEnough (cs : List Column) (rows : List (List Cell)) (binary text : List ℕ) : Type 0 where
  pub binary-room : (b : List ℕ) → lines Binary2 cs (table_of rows) ≡ good b → length b ≤ length binary
  pub binary-size : (b : List ℕ) → lines Binary2 cs (table_of rows) ≡ good b → length b ≤ 1073741824
  pub text-room : (t : List ℕ) → lines TableData cs (table_of rows) ≡ good t → length t ≤ length text

-- an accepted call that did all these rows, and whose output spells them
pub record Carried (cs : List Column) (to : Rows) (rows : List (List Cell)) (c : Call) : Type 0 where
  pub accepted : Accepted c
  pub all-rows : c.answer.rows ≡ length rows
  pub spelled : Spells to cs (output c) rows

-- demand 2: "With room enough and 01's sizes kept, any valid TABLEDATA goes to BINARY2 and back with every value and null the same."
abbrev pub ThereAndBack : (decls input binary text : List ℕ) (there back : Call) → Type 0
ThereAndBack decls input binary text there back =
    (cs : List Column) (rows : List (List Cell)) → Declares decls cs → length input ≤ 1073741824 → Spells TableData cs input rows
    → RoomEnough cs rows binary text → Carried cs Binary2 rows there × Carried cs TableData rows back
