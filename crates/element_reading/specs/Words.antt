-- What the contracts of the functions on a text's words say: how a word ends, what it is held as, and what it adds.
use Rattle.std.specs.Prelude.{Err, None, Ok, Option, Result as Outcome, Some}
use Rattle.std.specs.Prelude.{◌*◌, ◌+◌, ◌<◌, ◌≤◌, ℕ, Bool, ◌&&◌, ◌||◌, cond, false, true, List, [], ◌++◌, ◌∷◌, ◌≡◌, eqb, leb, ltb, ℤ, drop, get_or, length}
use Rattle.number.specs.Clauses.{is_signed, size}
use Rattle.number.specs.declared.Integer.{Integer}
use Rattle.table.specs.All.{All}
use Rattle.table.specs.Bytes.{is_white, not_empty}
use Rattle.table.specs.Result.{Result, ◌>>=◌, bad, every, good}
use Rattle.tabledata.specs.TableData.{integer_word, lower}
use Rattle.character_reading.specs.Characters.{characters_of}
use Rattle.element_reading.specs.Elements.{Passed, Stored, onward}
use Rattle.character_reading.specs.declared.characters.Source.{Source}
use Rattle.element_reading.specs.declared.elements.Held.{Held}
use Rattle.element_reading.specs.declared.pieces.Piece.TheVariants.{Cut, Last}
use Rattle.element_reading.specs.declared.pieces.Piece.{Piece}
use Rattle.std.specs.Option.{option_or}
use Rattle.table.specs.Reasons.{number_of}
use Rattle.table.specs.declared.Reason.{Reason}
use Rattle.words.specs.declared.Form.TheVariants.{Decimal, Hexadecimal, Minus, Plus, Start, Zero}
use Rattle.words.specs.declared.Form.{Form}

-- one letter more of a word that is spelled as a number; a letter that is not ASCII spells what no word does
unfoldable pub spell : ℕ → ℕ → ℕ
spell q c = cond (leb 281474976710656 q || leb 128 c) 281474976710656 (q * 256 + lower c)

unfoldable pub spelled : ℕ → List ℕ → ℕ
spelled q [] = q
spelled q (c ∷ w) = spelled (spell q c) w

abbrev pub spelling : List ℕ → ℕ
spelling w = spelled 1 w

-- 1 for true, 0 for false, 2 for unknown, none for no word
unfoldable pub truth_number : ℕ → Option ℕ
truth_number q =
    cond (eqb q 0x174) (Some 1) (cond (eqb q 0x131) (Some 1) (cond (eqb q 0x174727565) (Some 1)
    (cond (eqb q 0x166) (Some 0) (cond (eqb q 0x130) (Some 0) (cond (eqb q 0x166616c7365) (Some 0)
    (cond (eqb q 0x13f) (Some 2) None))))))

-- a character as a letter of an integer: one that is no byte is none, and neither is 255
unfoldable pub letter_of : ℕ → ℕ
letter_of c = cond (ltb c 256) c 255

-- the text from a place has a word w before white space, or up to the end of the cell; what `Stands` for it was read
pub record CutAt (Stands : List ℕ → Type 0) (source : Source) (s : List ℕ) (from next : ℕ) : Type 0 where
  pub w : List ℕ
  pub stands : Stands w
  pub word : All (λ (c : ℕ). is_white c ≡ false) w
  pub white : ℕ
  pub is_white : is_white white ≡ true
  pub passed : Passed source s from next (w ++ (white ∷ []))
  pub low : from < next
  pub high : next ≤ length s

pub record LastAt (Stands : List ℕ → Type 0) (source : Source) (s : List ℕ) (from next : ℕ) : Type 0 where
  pub w : List ℕ
  pub stands : Stands w
  pub word : All (λ (c : ℕ). is_white c ≡ false) w
  pub ends : (g : List ℕ → Result ℕ (List ℤ)) → onward g (characters_of source (drop from s)) ≡ (g w >>= λ es. good (es, drop next s))
  pub low : from ≤ next
  pub high : next ≤ length s

module _ {W : Type 0} (Stands : W → List ℕ → Type 0) (source : Source) (s : List ℕ) (from : ℕ) where
  abbrev pub PieceAs : Outcome (Piece W) Reason → Type 0
  PieceAs (Ok (Cut x next)) = CutAt (Stands x) source s from next
  PieceAs (Ok (Last x next)) = LastAt (Stands x) source s from next
  PieceAs (Err e) = characters_of source (drop from s) ≡ bad (number_of e)

  pub record PieceIs (r : Outcome (Piece W) Reason) : Type 0 where
    pub found : PieceAs r

-- what a word's elements are in the code: they follow those that are stored and are counted with them, or there is a reason
pub data AddedAs (count : ℕ) (entry exit : List ℤ) (r : Outcome ℕ Reason) : Result ℕ (List ℤ) → Type 0 where
  is-added : {fs : List ℤ} {more : ℕ} → r ≡ Ok more → ((es : List ℤ) → Stored es count entry → Stored (es ++ fs) more exit) → AddedAs count entry exit r (good fs)
  is-refused : {e : Reason} → r ≡ Err e → AddedAs count entry exit r (bad (number_of e))

-- how many elements there are with it
abbrev pub added_count : ℕ → Outcome ℕ Reason → ℕ
added_count count (Ok more) = more
added_count count (Err e) = count

-- why it was refused, if it was
abbrev pub added_bad : Outcome ℕ Reason → Option Reason
added_bad (Ok more) = None
added_bad (Err e) = Some e

-- the element of each word that `Stands` for what was read
pub record Adds (f : List ℕ → Result ℕ ℤ) (Stands : List ℕ → Type 0) (count : ℕ) (entry exit : List ℤ) (r : Outcome ℕ Reason) : Type 0 where
  pub found : (w : List ℕ) → Stands w → AddedAs count entry exit r (every f (not_empty (w ∷ [])))
  pub most : added_count count r ≤ count + 1
  pub long : length exit ≡ length entry

-- 02, #104: "in one cell the first bad element decides": the first of two refusals
abbrev pub first_bad : Option Reason → Option Reason → Option Reason
first_bad first later = option_or first later

-- so many elements and what follows them, where none was refused, nor the last
abbrev pub judged_as : Option Reason → Outcome ℕ Reason → ℕ → Outcome Held Reason
judged_as (Some e) added next = Err e
judged_as None (Ok count) next = Ok (record { count = count; next = next })
judged_as None (Err e) next = Err e

-- is a place that of a space?
abbrev pub space_at : List ℕ → ℕ → Bool
space_at s place = ltb place (length s) && eqb (get_or s place 0) 32

-- a word that means z
abbrev pub WordOf : Integer → ℤ → List ℕ → Type 0
WordOf kind z w = (1 ≤ length w) × (integer_word (is_signed kind) (size kind) w ≡ good z)

-- the quick way reads a word that ends before a space or with the cell, or leaves it to the careful way
abbrev pub QuickWordAs : Integer → Source → List ℕ → ℕ → Option (Piece ℤ) → Type 0
QuickWordAs kind source s from (Some (Cut z next)) = CutAt (WordOf kind z) source s from next
QuickWordAs kind source s from (Some (Last z next)) = LastAt (WordOf kind z) source s from next
QuickWordAs kind source s from None = Unit {0}

pub record QuickWordIs (kind : Integer) (source : Source) (s : List ℕ) (from : ℕ) (r : Option (Piece ℤ)) : Type 0 where
  pub found : QuickWordAs kind source s from r

-- has a word begun?
abbrev pub begun_form : Form → Bool
begun_form Start = false
begun_form Zero = true
begun_form Decimal = true
begun_form Plus = true
begun_form Minus = true
begun_form Hexadecimal = true
begun_form Form.Broken = true
