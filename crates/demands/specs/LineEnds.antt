-- Line ends, stated of any converter. 02, #105: "XML 1.0 section 2.11 says a literal 13 10, or a 13 alone, is handed on as one 10."
use Rattle.std.specs.Prelude.{◌≤◌, ℕ, List, ◌≡◌, length}
use Rattle.demands.specs.Demands.{Converter, SameOutput, output}
use Rattle.table.specs.LineEnds.{line_ends}
use Rattle.table.specs.Outcome.{most_input}
use Rattle.table.specs.declared.Rows.{Rows}
use Rattle.table.specs.declared.Rows.TheVariants.{TableData}

-- an XML processor in front of the converter, or behind it, changes nothing
pub record ProcessorUnseen (convert : Converter) : Type 0 where
  -- TABLEDATA within its size, and what the processor hands on of it: all five numbers are the same, and what is written, for any target, whatever
  -- the two buffers of one room held
  pub in-front : (decls : List ℕ) (to : Rows) (input p q : List ℕ) → length input ≤ most_input → length q ≡ length p
      → SameOutput (convert decls TableData to input p) (convert decls TableData to (line_ends input) q)
  -- "Our writer already writes `&#xD;`, so what we wrote reads as before.": what is written as TABLEDATA is handed on as it stands
  pub behind : (decls : List ℕ) (from : Rows) (input out : List ℕ)
      → line_ends (output (convert decls from TableData input out)) ≡ output (convert decls from TableData input out)
