-- What the contracts of the functions on a text's characters say: which character comes next.
use Rattle.std.specs.Prelude.{Err, None, Ok, Option, Result as Outcome, Some, ◌+◌, ◌-◌, ◌<◌, ◌≤◌, ℕ, List, [], ◌≡◌, drop, length, take}
use Rattle.table.specs.Bytes.{tag}
use Rattle.table.specs.Result.{Result, ◌>>=◌, bad, good}
use Rattle.tabledata.specs.TableData.{characters, close-TD, cons_text, expanded, plain, reference}
use Rattle.character_reading.specs.declared.characters.Item.TheVariants.{Code, End}
use Rattle.character_reading.specs.declared.characters.Item.{Item}
use Rattle.character_reading.specs.declared.characters.Source.TheVariants.{Markup, Plain}
use Rattle.character_reading.specs.declared.characters.Source.{Source}
use Rattle.table.specs.Reasons.{number_of}
use Rattle.table.specs.declared.Reason.{Reason}

-- a text's characters and what follows it: in the markup of a cell up to the end tag, references expanded; a plain part is its own characters
abbrev pub characters_of : Source → List ℕ → Result ℕ (List ℕ × List ℕ)
characters_of Markup s = characters plain s
characters_of Plain s = good (s, [])

-- a reference that is known stands for its character
unfoldable pub referred : Result ℕ ℕ → Result ℕ (List ℕ × List ℕ) → Result ℕ (List ℕ × List ℕ)
referred (good c) more = cons_text c more
referred (bad n) more = bad 10

-- a reference's name from a place on: it ends at its `;`
abbrev pub name_as : List ℕ → ℕ → Option ℕ → Result ℕ (List ℕ × List ℕ)
name_as s from (Some end) = referred (expanded (take (end - from) (drop from s))) (characters plain (drop (end + 1) s))
name_as s from None = bad 10

abbrev pub NameWithin : List ℕ → ℕ → Option ℕ → Type 0
NameWithin s from (Some end) = (from ≤ end) × (end < length s)
NameWithin s from None = Unit {0}

pub record NameIs (s : List ℕ) (from : ℕ) (r : Option ℕ) : Type 0 where
  pub found : characters (reference []) (drop from s) ≡ name_as s from r
  pub within : NameWithin s from r

-- the end tag where a cell's text ends
unfoldable pub ended : List ℕ → Result ℕ (List ℕ × List ℕ)
ended s = tag 10 close-TD s >>= λ rest. good ([], rest)

-- the next character and the text behind it, or the end of the text
abbrev pub item_as : Source → List ℕ → Outcome Item Reason → Result ℕ (List ℕ × List ℕ)
item_as source s (Ok (Code c next)) = cons_text c (characters_of source (drop next s))
item_as source s (Ok (End next)) = good ([], drop next s)
item_as source s (Err e) = bad (number_of e)

abbrev pub ItemWithin : List ℕ → ℕ → Outcome Item Reason → Type 0
ItemWithin s place (Ok (Code c next)) = (place < next) × (next ≤ length s)
ItemWithin s place (Ok (End next)) = (place ≤ next) × (next ≤ length s)
ItemWithin s place (Err e) = Unit {0}

pub record ItemIs (source : Source) (definition : Result ℕ (List ℕ × List ℕ)) (s : List ℕ) (place : ℕ) (r : Outcome Item Reason) : Type 0 where
  pub found : definition ≡ item_as source s r
  pub within : ItemWithin s place r

-- where the text was seen to end just at a place, it does
abbrev pub TextEndsAs : Source → List ℕ → ℕ → Option ℕ → Type 0
TextEndsAs source s place (Some next) = ItemIs source (characters_of source (drop place s)) s place (Ok (End next))
TextEndsAs source s place None = Unit {0}

pub record TextEnds (source : Source) (s : List ℕ) (place : ℕ) (r : Option ℕ) : Type 0 where
  pub found : TextEndsAs source s place r

-- "a text cell 10, 11, 12": 10 where its text is broken, or else 11
unfoldable pub spoiled_number : Result ℕ (List ℕ × List ℕ) → ℕ
spoiled_number (good p) = 11
spoiled_number (bad n) = n
