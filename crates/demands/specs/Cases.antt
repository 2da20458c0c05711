-- The P cases of 01, and of 02's requests the sentences that a case can say; one table. Each names the whole answer and every byte of the buffer.
use Rattle.std.specs.Prelude.{ℕ, Bool, ◌&&◌, true, List, [], ◌++◌, ◌∷◌, eqb, drop, length, replicate}
use Prim.Native.String.{String}
use Rattle.base64_rules.specs.Base64.{decode_call}
use Rattle.rows.specs.Convert.{convert}
use Rattle.table.specs.Bytes.{bytes, same}
use Rattle.table.specs.Outcome.{Call}
use Rattle.table.specs.declared.Answer.{Answer}
use Rattle.table.specs.declared.Rows.{Rows}
use Rattle.table.specs.declared.Rows.TheVariants.{Binary, Binary2, TableData}

-- a call of the converter, or of base64's decoding, and what must come of it
pub data Case : Type 0 where
  converts : (decls : List ℕ) → Rows → Rows → (input : List ℕ) → Answer → (written : List ℕ) → Case
  decodes : (input : List ℕ) → Answer → (written : List ℕ) → Case

abbrev done : ℕ → List ℕ → Answer
done rows written = record { number = 0; row = 0; column = 0; rows = rows; bytes = length written }

abbrev stops : ℕ → Answer
stops number = record { number = number; row = 0; column = 0; rows = 0; bytes = 0 }

-- accepted with so many rows; refused at row 0, column 0
abbrev gives-rows : String → Rows → Rows → List ℕ → ℕ → List ℕ → Case
gives-rows decls from to input rows written = converts (bytes decls) from to input (done rows written) written

abbrev refuses-it : String → Rows → Rows → List ℕ → ℕ → Case
refuses-it decls from to input number = converts (bytes decls) from to input (stops number) []

-- ---- the sample night

abbrev pub night_declared : String
night_declared = "<FIELD datatype='short'><VALUES null='-99'/></FIELD><FIELD datatype='char' arraysize='4'/><FIELD datatype='boolean'/>"

abbrev pub night_text : List ℕ
night_text = bytes "<TR><TD>7</TD><TD>a&amp;b</TD><TD>T</TD></TR>\n<TR><TD/><TD>dusk</TD><TD/></TR>\n"

abbrev pub night_binary2 : List ℕ
night_binary2 = 0x00 ∷ 0x00 ∷ 0x07 ∷ 0x61 ∷ 0x26 ∷ 0x62 ∷ 0x00 ∷ 0x54 ∷ 0xA0 ∷ 0x00 ∷ 0x00 ∷ 0x64 ∷ 0x75 ∷ 0x73 ∷ 0x6B ∷ 0x00 ∷ []

abbrev pub night_binary : List ℕ
night_binary = 0x00 ∷ 0x07 ∷ 0x61 ∷ 0x26 ∷ 0x62 ∷ 0x00 ∷ 0x54 ∷ 0xFF ∷ 0x9D ∷ 0x64 ∷ 0x75 ∷ 0x73 ∷ 0x6B ∷ 0x3F ∷ []

abbrev night : Rows → List ℕ → Rows → List ℕ → Case
night from input to written = gives-rows night_declared from to input 2 written

-- ---- the table

-- a table of one column and one row: what the cell is read from, and its line
abbrev cell : String → String
cell text = Prim.Native.String.◌++◌ "<TR><TD>" (Prim.Native.String.◌++◌ text "</TD></TR>\n")

abbrev column : String → String
column kind = Prim.Native.String.◌++◌ "<FIELD datatype='" (Prim.Native.String.◌++◌ kind "'/>")

abbrev reads : String → String → String → Case
reads kind text line = gives-rows (column kind) TableData TableData (bytes (cell text)) 1 (bytes (cell line))

abbrev refuses-text : String → String → ℕ → Case
refuses-text kind text number = refuses-it (column kind) TableData TableData (bytes (cell text)) number

abbrev refuses-texts : String → String → String → ℕ → Case
refuses-texts kind size text number =
    refuses-it (Prim.Native.String.◌++◌ "<FIELD datatype='" (Prim.Native.String.◌++◌ kind (Prim.Native.String.◌++◌ "' arraysize='" (Prim.Native.String.◌++◌ size "'/>"))))
    TableData TableData (bytes (cell text)) number

unfoldable pub cases : List Case
cases =
    -- "P the sample night, all ways"
    night TableData night_text TableData night_text
    ∷ night TableData night_text Binary night_binary
    ∷ night TableData night_text Binary2 night_binary2
    ∷ night Binary night_binary TableData night_text
    ∷ night Binary night_binary Binary night_binary
    ∷ night Binary night_binary Binary2 night_binary2
    ∷ night Binary2 night_binary2 TableData night_text
    ∷ night Binary2 night_binary2 Binary night_binary
    ∷ night Binary2 night_binary2 Binary2 night_binary2
    -- "P short `0xffff` is -1; P short .. `-32768` good"; #104: "P cases `32768` and `256` become 18"
    ∷ reads "short" "0xffff" "-1"
    ∷ refuses-text "short" "32768" 18
    ∷ reads "short" "-32768" "-32768"
    -- "P long `-9223372036854775808` good"
    ∷ reads "long" "-9223372036854775808" "-9223372036854775808"
    -- "P unsignedByte .. `0xff` 255"; #104: "`256`" 18
    ∷ refuses-text "unsignedByte" "256" 18
    ∷ reads "unsignedByte" "0xff" "255"
    -- "P `+5` good for int, 11 for unsignedByte"
    ∷ reads "int" "+5" "5"
    ∷ refuses-text "unsignedByte" "+5" 11
    -- #104: "11 stays for text that isn't written as an integer", "in one cell the first bad element decides", "Both come before 12"
    ∷ refuses-text "short" "1.5" 11
    ∷ refuses-texts "short" "2" "99999 x" 18
    ∷ refuses-texts "short" "2" "x 99999" 11
    ∷ refuses-texts "short" "2" "1 99999 &#1;" 18
    ∷ refuses-texts "short" "2" "1 &#1; 99999" 11
    -- "More than 20 digits stays 11, and so do too many hexadigits"
    ∷ refuses-text "long" "99999999999999999999" 18
    ∷ refuses-text "long" "000000000000000000001" 11
    ∷ refuses-text "short" "0x12345" 11
    -- "A declared null of either sort is still 4"
    ∷ refuses-it "<FIELD datatype='short'><VALUES null='99999'/></FIELD>" TableData TableData [] 4
    ∷ refuses-it "<FIELD datatype='short'><VALUES null='1.5'/></FIELD>" TableData TableData [] 4
    -- "P nine bits `FF 80` good, `FF 81` 13"
    ∷ gives-rows "<FIELD datatype='bit' arraysize='9'/>" Binary TableData (0xFF ∷ 0x80 ∷ []) 1 (bytes (cell "111111111"))
    ∷ refuses-it "<FIELD datatype='bit' arraysize='9'/>" Binary TableData (0xFF ∷ 0x81 ∷ []) 13
    -- "P `4*` with count 4 good, 5 is 9"
    ∷ gives-rows "<FIELD datatype='unsignedByte' arraysize='4*'/>" Binary TableData (0 ∷ 0 ∷ 0 ∷ 4 ∷ 1 ∷ 2 ∷ 3 ∷ 4 ∷ []) 1 (bytes (cell "1 2 3 4"))
    ∷ refuses-it "<FIELD datatype='unsignedByte' arraysize='4*'/>" Binary TableData (0 ∷ 0 ∷ 0 ∷ 5 ∷ 1 ∷ 2 ∷ 3 ∷ 4 ∷ 5 ∷ []) 9
    -- "P null int without declared null to BINARY 15"
    ∷ refuses-it "<FIELD datatype='int'/>" TableData Binary (bytes "<TR><TD/></TR>") 15
    -- "P empty char `*` unflagged, BINARY2 to TABLEDATA 14"
    ∷ refuses-it "<FIELD datatype='char' arraysize='*'/>" Binary2 TableData (0 ∷ 0 ∷ 0 ∷ 0 ∷ 0 ∷ []) 14
    -- #105: "a literal 13 10, or a 13 alone, is handed on as one 10", "so a cell may now fit that got 12"
    ∷ gives-rows "<FIELD datatype='char' arraysize='3'/>" TableData Binary2 (bytes (cell "a\r\nb")) 1 (0 ∷ 97 ∷ 10 ∷ 98 ∷ [])
    ∷ gives-rows "<FIELD datatype='char' arraysize='2'/>" TableData Binary2 (bytes (cell "\r\r\n")) 1 (0 ∷ 10 ∷ 10 ∷ [])
    -- "only a numeric reference gives 13", and "what we wrote reads as before"
    ∷ gives-rows "<FIELD datatype='char' arraysize='4'/>" TableData Binary2 (bytes (cell "\r&#10;&#13;\n")) 1 (0 ∷ 10 ∷ 10 ∷ 13 ∷ 10 ∷ [])
    ∷ gives-rows "<FIELD datatype='char' arraysize='2'/>" Binary2 TableData (0 ∷ 13 ∷ 10 ∷ []) 1 (bytes (cell "&#xD;\n"))
    ∷ gives-rows "<FIELD datatype='char' arraysize='2'/>" TableData Binary2 (bytes (cell "&#xD;\n")) 1 (0 ∷ 13 ∷ 10 ∷ [])
    -- "P `Zm9vYmFy` is \"foobar\"; P `Zg==` is \"f\", `Zh==` 7"
    ∷ decodes (bytes "Zm9vYmFy") (done 0 (bytes "foobar")) (bytes "foobar")
    ∷ decodes (bytes "Zg==") (done 0 (bytes "f")) (bytes "f")
    ∷ decodes (bytes "Zh==") (stops 7) []
    ∷ []

-- ---- the test of a case, in a buffer of 100 bytes that each hold 7

abbrev before : List ℕ
before = replicate 100 7

unfoldable pub same_answer : Answer → Answer → Bool
same_answer a b = eqb a.number b.number && eqb a.row b.row && eqb a.column b.column && eqb a.rows b.rows && eqb a.bytes b.bytes

unfoldable pub came_out : Call → Answer → List ℕ → Bool
came_out c a written = same_answer c.answer a && same c.buffer (written ++ drop (length written) before)

unfoldable pub passes : Case → Bool
passes (converts decls from to input a written) = came_out (convert decls from to input before) a written
passes (decodes input a written) = came_out (decode_call input before) a written

unfoldable pub all_pass : List Case → Bool
all_pass [] = true
all_pass (c ∷ cs) = passes c && all_pass cs
