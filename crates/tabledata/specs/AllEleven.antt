-- A cell's elements with one number for all that is no value, as 01 had them, and the number there of each refusal of now.
use Rattle.std.specs.Prelude.{suc, ℕ, Bool, cond, List, map, eqb, pos, ℤ, length}
use Rattle.number.specs.Number.{read_integer}
use Rattle.table.specs.Bytes.{words}
use Rattle.table.specs.Cell.{Cell, empty_is_null, show}
use Rattle.table.specs.Result.{Result, ◌>>=◌, bad, every, good, refused_as}
use Rattle.table.specs.Shape.{Bits, Shape, Text, Truths, Whole, last, shape}
use Rattle.table.specs.declared.Column.{Column}
use Rattle.tabledata.specs.TableData.{all_text, bit_words, cell_text, count_fits, truth_word}

-- 11: "a byte or text that is no value of its kind", whichever fault it has
unfoldable pub integer_all_eleven : Bool → ℕ → List ℕ → Result ℕ ℤ
integer_all_eleven signed w s = refused_as (λ f. 11) (read_integer signed w s)

unfoldable pub words_all_eleven : Shape → List ℕ → Result ℕ (List ℤ)
words_all_eleven Truths cs = every truth_word (words cs)
words_all_eleven Bits cs = bit_words (words cs)
words_all_eleven (Whole g v) cs = every (integer_all_eleven g (suc (last v))) (words cs)
words_all_eleven Text cs = good (map pos cs)

-- "After expansion each character must be 9, 10, 13 or 32 to 127, else 11.": in every kind, before its elements
unfoldable pub elements_all_eleven : Shape → List ℕ → Result ℕ (List ℤ)
elements_all_eleven k cs = cond (all_text cs) (words_all_eleven k cs) (bad 11)

-- "a text cell 10, 11, 12"
unfoldable pub read_all_eleven : Column → List ℕ → Result ℕ (Cell × List ℕ)
read_all_eleven c s = do
  (cs, rest) ← cell_text s
  es ← elements_all_eleven (shape c.kind) cs
  cond (count_fits c (length es)) (good (empty_is_null (show c es), rest)) (bad 12)

-- 02, #104: "Split 11 for integer cells"
unfoldable pub unsplit : Shape → ℕ → ℕ
unsplit Truths n = n
unsplit Bits n = n
unsplit (Whole g v) n = cond (eqb n 18) 11 n
unsplit Text n = n
