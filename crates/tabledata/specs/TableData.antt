-- A cell of TABLEDATA.
use Rattle.std.specs.Prelude.{◌+◌, ◌-◌, suc, zero, ℕ, Bool, ◌&&◌, ◌||◌, cond, true, List, [], ◌++◌, ◌∷◌, map, eqb, leb, negsuc, pos, ℤ, length}
use Rattle.number.specs.Number.{Fault, Outside, Unwritten, digit, hexadigit, read_integer, shortest, sized}
use Rattle.table.specs.Bytes.{after, between, byte, bytes, ends, same, skip_white, tag, words}
use Rattle.table.specs.Cell.{Cell, bound, empty_is_null, null, room_fits, room_in, show, shown, truth_byte}
use Rattle.table.specs.Clauses.{form_bytes}
use Rattle.table.specs.LineEnds.{feed_first}
use Rattle.table.specs.Result.{Result, ◌>>=◌, bad, every, good, or_else, refused_as}
use Rattle.table.specs.Shape.{Bits, Shape, Text, Truths, Whole, last, shape}
use Rattle.table.specs.declared.Column.{Column}

-- ---- tags, without their `>`

unfoldable pub open-TD : List ℕ
open-TD = bytes "<TD"

unfoldable pub close-TD : List ℕ
close-TD = bytes "</TD"

unfoldable pub open-TR : List ℕ
open-TR = bytes "<TR"

unfoldable pub close-TR : List ℕ
close-TR = bytes "</TR"

-- ---- a cell's characters, references expanded

-- in the text, or after `&` and what has come of the reference
pub data Where : Type 0 where
  plain : Where
  reference : List ℕ → Where

-- what a byte does there
pub data Step : Type 0 where
  emit : ℕ → Step
  goes : Where → Step
  tag_begins : Step
  broken : Step

-- "References: amp, lt, gt, quot, apos"
unfoldable pub names : List (List ℕ × ℕ)
names =
    (bytes "amp", byte "&") ∷ (bytes "lt", byte "<") ∷ (bytes "gt", byte ">")
    ∷ (bytes "quot", byte "\"") ∷ (bytes "apos", byte "'") ∷ []

-- "others are 10"
unfoldable pub named : List (List ℕ × ℕ) → List ℕ → Result ℕ ℕ
named [] s = bad 10
named (n ∷ more) s = cond (same n.0 s) (good n.1) (named more s)

-- "numeric (`&#` or `&#x`) with 1 to 8 digits"
unfoldable pub numeric : (ℕ → Result Fault ℕ) → ℕ → List ℕ → Result ℕ ℕ
numeric value base s = refused_as (λ f. 10) (sized 8 value base s)

-- what stands between `&` and `;`
unfoldable pub expanded : List ℕ → Result ℕ ℕ
expanded s =
    or_else (after 10 (bytes "#x") s >>= λ t. numeric hexadigit 16 t)
    (or_else (after 10 (bytes "#") s >>= λ t. numeric digit 10 t) (named names s))

unfoldable pub emitted : Result ℕ ℕ → Step
emitted (good c) = emit c
emitted (bad n) = broken

-- XML 1.0, 2.11: "translating both the two-character sequence #xD #xA and any #xD that is not followed by #xA to a single #xA character".
-- A literal 13 with s behind it: before a 10 it goes, and any other is a 10. "only a numeric reference gives 13"
unfoldable pub line_end : List ℕ → Step
line_end s = cond (feed_first s) (goes plain) (emit 10)

-- a byte with s behind it: "In a cell `<` may only begin `</TD`; `>` is itself."
unfoldable pub step : Where → ℕ → List ℕ → Step
step plain b s = cond (eqb b (byte "<")) tag_begins (cond (eqb b (byte "&")) (goes (reference [])) (cond (eqb b 13) (line_end s) (emit b)))
step (reference name) b s = cond (eqb b (byte ";")) (emitted (expanded name)) (goes (reference (name ++ (b ∷ []))))

unfoldable pub cons_text : ℕ → Result ℕ (List ℕ × List ℕ) → Result ℕ (List ℕ × List ℕ)
cons_text c r = r >>= λ p. good (c ∷ p.0, p.1)

-- a byte's step, at s: what follows it is read by `more`
unfoldable pub follow : Step → List ℕ → (Where → Result ℕ (List ℕ × List ℕ)) → Result ℕ (List ℕ × List ℕ)
follow (emit c) s more = cons_text c (more plain)
follow (goes w) s more = more w
follow tag_begins s more = tag 10 close-TD s >>= λ rest. good ([], rest)
follow broken s more = bad 10

-- characters up to the end tag, and what follows that
unfoldable pub characters : Where → List ℕ → Result ℕ (List ℕ × List ℕ)
characters w [] = bad 10
characters w (b ∷ s) = follow (step w b s) (b ∷ s) (λ v. characters v s)

-- a cell after white space; "`<TD/>` is empty."
unfoldable pub cell_text : List ℕ → Result ℕ (List ℕ × List ℕ)
cell_text s =
    after 10 open-TD (skip_white s) >>= λ t.
    or_else (ends 10 (bytes "/>") t >>= λ rest. good ([], rest)) (ends 10 (bytes ">") t >>= λ u. characters plain u)

-- ---- a cell's elements

-- "After expansion each character must be 9, 10, 13 or 32 to 127, else 11."
unfoldable pub is_text : ℕ → Bool
is_text c = eqb c 9 || eqb c 10 || eqb c 13 || between 32 127 c

unfoldable pub all_text : List ℕ → Bool
all_text [] = true
all_text (c ∷ cs) = is_text c && all_text cs

unfoldable pub lower : ℕ → ℕ
lower c = cond (between (byte "A") (byte "Z") c) (c + 32) c

unfoldable pub truth_letter : ℕ → Result ℕ ℤ
truth_letter b =
    cond (eqb b (byte "T") || eqb b (byte "t") || eqb b (byte "1")) (good (pos 1))
    (cond (eqb b (byte "F") || eqb b (byte "f") || eqb b (byte "0")) (good (pos 0))
    (cond (eqb b (byte "?")) (good (pos 2)) (bad 11)))

-- "boolean: `T t 1 F f 0 ?`, or true or false in any capitals."
unfoldable pub truth_word : List ℕ → Result ℕ ℤ
truth_word [] = bad 11
truth_word (b ∷ []) = truth_letter b
truth_word (b ∷ c ∷ w) =
    cond (same (map lower (b ∷ c ∷ w)) (bytes "true")) (good (pos 1))
    (cond (same (map lower (b ∷ c ∷ w)) (bytes "false")) (good (pos 0)) (bad 11))

-- "bit: `0` and `1` only, nothing between."
unfoldable pub bit_letter : ℕ → Result ℕ ℤ
bit_letter b = cond (between (byte "0") (byte "1") b) (good (pos (b - 48))) (bad 11)

unfoldable pub bit_words : List (List ℕ) → Result ℕ (List ℤ)
bit_words [] = good []
bit_words (w ∷ []) = every bit_letter w
bit_words (w ∷ v ∷ ws) = bad 11

-- 02, #104: "11 stays for text that isn't written as an integer, 18 is for one that is but lies outside its kind's range."
unfoldable pub fault_number : Fault → ℕ
fault_number Unwritten = 11
fault_number Outside = 18

unfoldable pub integer_word : Bool → ℕ → List ℕ → Result ℕ ℤ
integer_word signed w s = refused_as fault_number (read_integer signed w s)

-- "After expansion char cells are taken untrimmed; other cells lose white space at both ends and, except bit, are split at white space." 02,
-- #104: "in one cell the first bad element decides". The rule on characters is seen in char alone: elements of the other kinds are written in
-- characters that a cell may have (law `elements-text`).
unfoldable pub text_elements : Shape → List ℕ → Result ℕ (List ℤ)
text_elements Truths cs = every truth_word (words cs)
text_elements Bits cs = bit_words (words cs)
text_elements (Whole g v) cs = every (integer_word g (suc (last v))) (words cs)
text_elements Text cs = cond (all_text cs) (good (map pos cs)) (bad 11)

-- 12: "text cell with elements, but not n of them in a fixed column, or over the bound in another; fixed char may be shorter, not longer"
unfoldable pub count_fits : Column → ℕ → Bool
count_fits c m = eqb m 0 || (room_fits (shape c.kind) (room_in c.len m) m && leb m (bound c.len))

-- "In TABLEDATA and BINARY an empty cell is null: no characters are left (after trimming, but for char)"
unfoldable pub text_cell : Column → List ℕ → Result ℕ Cell
text_cell c cs = text_elements (shape c.kind) cs >>= λ es. cond (count_fits c (length es)) (good (empty_is_null (show c es))) (bad 12)

-- "a text cell 10, 11, 12"; 02, #104, of 11 and 18: "Both come before 12"
unfoldable pub read_text : Column → List ℕ → Result ℕ (Cell × List ℕ)
read_text c s = do
  (cs, rest) ← cell_text s
  x ← text_cell c cs
  good (x, rest)

-- ---- a cell is written

-- "Char writes `&amp;`, `&lt;`, `&gt;` and `&#xD;`"
unfoldable pub escaped : ℕ → List ℕ
escaped c =
    cond (eqb c (byte "&")) (bytes "&amp;")
    (cond (eqb c (byte "<")) (bytes "&lt;")
    (cond (eqb c (byte ">")) (bytes "&gt;")
    (cond (eqb c 13) (bytes "&#xD;") (c ∷ []))))

-- "a code with no XML form is 16"
unfoldable pub form_of : ℤ → Result ℕ (List ℕ)
form_of (pos c) = cond (is_text c) (good (escaped c)) (bad 16)
form_of (negsuc c) = bad 16

unfoldable pub forms : List ℤ → Result ℕ (List ℕ)
forms [] = good []
forms (e ∷ es) = form_of e >>= λ b. forms es >>= λ r. good (b ++ r)

-- "Booleans are `T`, `F`, `?`"
unfoldable pub truth_text : ℤ → List ℕ
truth_text z = truth_byte z ∷ []

unfoldable pub bit_text : ℤ → ℕ
bit_text (pos zero) = byte "0"
bit_text (pos (suc zero)) = byte "1"
bit_text (pos (suc (suc n))) = byte "0"
bit_text (negsuc n) = byte "0"

-- "one space between"
unfoldable pub spaced : List (List ℕ) → List ℕ
spaced [] = []
spaced (w ∷ []) = w
spaced (w ∷ v ∷ ws) = w ++ (byte " " ∷ spaced (v ∷ ws))

-- each element's bytes in turn
unfoldable pub joined : (ℤ → List ℕ) → List ℤ → List ℕ
joined f [] = []
joined f (e ∷ es) = f e ++ joined f es

-- "integers shortest decimal, no `+`; one space between, none between bits"; a char that has no form is left out here
unfoldable pub element_bytes : Shape → List ℤ → List ℕ
element_bytes Truths es = spaced (map truth_text es)
element_bytes Bits es = map bit_text es
element_bytes (Whole g v) es = spaced (map shortest es)
element_bytes Text es = joined (λ e. form_bytes (form_of e)) es

-- the same where each char has a form, or 16
unfoldable pub element_text : Shape → List ℤ → Result ℕ (List ℕ)
element_text Truths es = good (element_bytes Truths es)
element_text Bits es = good (element_bytes Bits es)
element_text (Whole g v) es = good (element_bytes (Whole g v) es)
element_text Text es = forms es

unfoldable pub tagged : List ℕ → List ℕ
tagged t = open-TD ++ (bytes ">" ++ (t ++ (close-TD ++ bytes ">")))

-- "Null is `<TD/>`." 14: "empty but not null, target has no form for it"
unfoldable pub write_text : Column → Cell → Result ℕ (List ℕ)
write_text c null = good (bytes "<TD/>")
write_text c (shown []) = bad 14
write_text c (shown (e ∷ es)) = element_text (shape c.kind) (e ∷ es) >>= λ t. good (tagged t)

-- `write_text`'s bytes, and bytes for what 14 and 16 refuse too, so that a writer has a promise for every cell. Where there is a form they
-- are the form: law `text-bytes`.
unfoldable pub text_bytes : Column → Cell → List ℕ
text_bytes c null = bytes "<TD/>"
text_bytes c (shown es) = tagged (element_bytes (shape c.kind) es)
