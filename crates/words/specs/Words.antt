-- A word met a character at a time: the state that the code keeps, what a character makes of it, and what it reads as.
-- That a word fed to it reads as `read_integer` says is a law (proofs/WordLaws.antt, fed-reads); this is only how.
use Rattle.std.specs.Prelude.{◌%◌, ◌*◌, ◌+◌, ◌^◌, ℕ, Bool, cond, false, true, List, [], ◌∷◌, eqb, ltb, pos, ℤ}
use Rattle.number.specs.Clauses.{is_signed, size}
use Rattle.number.specs.Number.{Fault, Unwritten, digit, hexadigit, of_pattern, ranged, with_sign}
use Rattle.words.specs.declared.Form.{Form}
use Rattle.words.specs.declared.Form.TheVariants.{Broken, Decimal, Hexadecimal, Minus, Plus, Start, Zero}
use Rattle.number.specs.declared.Integer.{Integer}
use Rattle.words.specs.declared.Word.{Word}
use Rattle.table.specs.Bytes.{byte}
use Rattle.table.specs.Result.{Result, bad, good}

abbrev pub word : Form → ℕ → ℕ → Word
word f n v = record { form = f; count = n; value = v }

-- ---- before the first character, and where no integer can come of it any more

abbrev pub fresh : Word
fresh = word Start 0 0

abbrev pub broken_word : Word
broken_word = word Broken 0 0

-- ---- a character more

-- the number with a decimal digit more; one that has reached 10 ^ 19 is outside every kind, and stays there
unfoldable pub capped : ℕ → ℕ → ℕ
capped v d = cond (ltb v (10 ^ 18)) (v * 10 + d) (10 ^ 19)

abbrev pub add_decimal : Form → ℕ → ℕ → Result Fault ℕ → Word
add_decimal f n v (good d) = cond (ltb n 20) (word f (n + 1) (capped v d)) broken_word
add_decimal f n v (bad e) = broken_word

unfoldable pub decimal_next : Form → ℕ → ℕ → ℕ → Word
decimal_next f n v c = add_decimal f n v (digit c)

-- 16 hexadigits are below 16 ^ 16, so that the remainder is no loss
abbrev pub add_hexadecimal : ℕ → ℕ → Result Fault ℕ → Word
add_hexadecimal n v (good d) = cond (ltb n 16) (word Hexadecimal (n + 1) (v % 16 ^ 15 * 16 + d)) broken_word
add_hexadecimal n v (bad e) = broken_word

unfoldable pub hexadecimal_next : ℕ → ℕ → ℕ → Word
hexadecimal_next n v c = add_hexadecimal n v (hexadigit c)

unfoldable pub first_next : ℕ → Word
first_next c =
    cond (eqb c (byte "+")) (word Plus 0 0)
    (cond (eqb c (byte "-")) (word Minus 0 0)
    (cond (eqb c (byte "0")) (word Zero 1 0) (decimal_next Decimal 0 0 c)))

unfoldable pub zero_next : ℕ → Word
zero_next c = cond (eqb c (byte "x")) (word Hexadecimal 0 0) (decimal_next Decimal 1 0 c)

abbrev pub next_from : Form → ℕ → ℕ → ℕ → Word
next_from Start n v c = first_next c
next_from Zero n v c = zero_next c
next_from Decimal n v c = decimal_next Decimal n v c
next_from Plus n v c = decimal_next Plus n v c
next_from Minus n v c = decimal_next Minus n v c
next_from Hexadecimal n v c = hexadecimal_next n v c
next_from Broken n v c = word Broken n v

unfoldable pub next_word : Word → ℕ → Word
next_word w c = next_from w.form w.count w.value c

-- the characters one after the other
unfoldable pub feed : Word → List ℕ → Word
feed w [] = w
feed w (c ∷ s) = feed (next_word w c) s

-- ---- what the word reads as

unfoldable pub decimal_reading : Integer → Bool → ℕ → ℕ → Result Fault ℤ
decimal_reading k negative n v = cond (eqb n 0) (bad Unwritten) (ranged (is_signed k) (size k) (with_sign negative v))

-- after a sign, which only the signed kinds have
abbrev pub signed_reading : Integer → Bool → ℕ → ℕ → Result Fault ℤ
signed_reading k negative n v = cond (is_signed k) (decimal_reading k negative n v) (bad Unwritten)

unfoldable pub hexadecimal_reading : Integer → ℕ → ℕ → Result Fault ℤ
hexadecimal_reading k n v =
    cond (eqb n 0) (bad Unwritten)
    (cond (ltb (2 * size k) n) (bad Unwritten) (good (of_pattern (is_signed k) (size k) (v % 256 ^ size k))))

abbrev pub reading_from : Form → Integer → ℕ → ℕ → Result Fault ℤ
reading_from Start k n v = bad Unwritten
reading_from Zero k n v = good (pos 0)
reading_from Decimal k n v = decimal_reading k false n v
reading_from Plus k n v = signed_reading k false n v
reading_from Minus k n v = signed_reading k true n v
reading_from Hexadecimal k n v = hexadecimal_reading k n v
reading_from Broken k n v = bad Unwritten

unfoldable pub reading : Integer → Word → Result Fault ℤ
reading k w = reading_from w.form k w.count w.value
