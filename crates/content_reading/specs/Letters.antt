-- What the contracts of the functions on letters say.
use Rattle.std.specs.Prelude.{◌<◌, ℕ, ◌||◌, cond, true, List, [], ◌∷◌, ◌≡◌, eqb, Option, Some, None}
use Rattle.content_reading.specs.declared.Letter.{Letter}
use Rattle.moving.specs.Contents.{Spells}
use Rattle.table.specs.Bytes.{byte}
use Rattle.tabledata.specs.TableData.{is_text}

-- "`T t 1` true, `F f 0` false", `?` unknown; 3 for any other letter
unfoldable pub truth_number : ℕ → ℕ
truth_number c =
    cond (eqb c (byte "T") || eqb c (byte "t") || eqb c (byte "1")) 1
    (cond (eqb c (byte "F") || eqb c (byte "f") || eqb c (byte "0")) 0
    (cond (eqb c (byte "?")) 2 3))

-- a character that a cell may have, and the place after it
abbrev pub LetterIs : List ℕ → ℕ → Option Letter → Type 0
LetterIs s place (Some r) = Spells s place r.next (r.byte ∷ []) × (is_text r.byte ≡ true) × (place < r.next)
LetterIs s place None = Unit {0}
