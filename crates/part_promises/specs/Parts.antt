-- What is promised of calls on pieces and on parts of an input: together they are one call on the whole.
use Rattle.std.specs.Prelude.{◌+◌, ◌≤◌, ℕ, cond, List, [], ◌++◌, ◌∷◌, ◌≡◌, eqb, drop, get_or, length, take}
use Rattle.demands.specs.Demands.{output}
use Rattle.grammar.specs.Declarations.{Declares}
use Rattle.grammar.specs.Exact.{InGrammar}
use Rattle.grammar.specs.Parts.{first_of}
use Rattle.table.specs.Outcome.{Call}
use Rattle.table.specs.declared.Answer.{Answer}
use Rattle.table.specs.declared.Column.{Column}
use Rattle.table.specs.declared.Rows.{Rows}
use Rattle.promises.specs.Promises.{call_of}

-- ---- in pieces

-- one answer from two: rows and bytes are added, and a refusal is at the second's row behind the first's rows
unfoldable pub joined_answer : Answer → Answer → Answer
joined_answer a b =
    record {
      number = b.number;
      row = cond (eqb b.number 0) 0 (a.rows + b.row);
      column = b.column;
      rows = a.rows + b.rows;
      bytes = a.bytes + b.bytes;
    }

-- a call, and behind it another into the same buffer
unfoldable pub joined_call : Call → Call → List ℕ → Call
joined_call c d out =
    record { answer = joined_answer c.answer d.answer; buffer = (output c ++ output d) ++ drop (length (output c ++ output d)) out }

-- demand 3: "whatever stands around them": a piece of the input, and then what stands behind the place that it answers, are together one call on the
-- whole, in a buffer that has the room of both
abbrev pub OneByTwo : (decls input : List ℕ) (first : Call) (rest : List ℕ) (second : Call) (out : List ℕ) (whole : Call) → Rows → Rows → Type 0
OneByTwo decls input first rest second out whole from to =
    (cs : List Column) → Declares decls cs → length input ≤ 1073741824 → length out ≡ first.answer.bytes + length rest → whole ≡ joined_call first second out

-- ---- in parts

-- the nine numbers of a part that its call answered with these six
abbrev pub part_numbers : ℕ → ℕ → ℕ → List ℕ → List ℕ
part_numbers start size room answer =
    start ∷ size ∷ room ∷ get_or answer 0 0 ∷ get_or answer 1 0 ∷ get_or answer 2 0 ∷ get_or answer 3 0 ∷ get_or answer 4 0 ∷ get_or answer 5 0 ∷ []

-- two parts, the input up to a cut and from there on, each by a call of its own, and their numbers joined; and one call on the whole
pub record JoinedAsOne (decls input : List ℕ) (cut : ℕ) (first second : Call) (joined out1 out2 out3 : List ℕ) (whole : Call) (from to : Rows) : Type 0 where
  -- where joining has ended it is that call: each of its numbers, and every byte of its buffer
  pub one-call : get_or joined 7 0 ≡ 1 → length input ≤ 1073741824
      → whole ≡ call_of joined (first_of (get_or joined 6 0) (output first ∷ output second ∷ []) ++ drop (length (first_of (get_or joined 6 0) (output first ∷ output second ∷ []))) out3)
  -- and it has ended where the cut stands behind whole rows, and the second part had the room that the first leaves
  pub ends : InGrammar decls from to (take cut input) (length out1) → length input ≤ 1073741824 → length out3 ≡ first.answer.bytes + length out2
      → get_or joined 7 0 ≡ 1
