-- The elements of a cell, moved from the input into a row's buffer: which elements stand in the input, and which bytes they are put as.
use Rattle.std.specs.Prelude.{◌+◌, ◌≤◌, ℕ, List, [], ◌++◌, ◌∷◌, map, ◌≡◌, ℤ, drop, length, take, Option, Some, None}
use Rattle.binary.specs.Binary.{bytes_of, content, content_bytes, number}
use Rattle.moving.specs.Puts.{Puts}
use Rattle.moving.specs.declared.Content.{Content}
use Rattle.moving.specs.declared.One.{One}
use Rattle.table.specs.Result.{Result, ◌>>=◌, good}
use Rattle.table.specs.Shape.{Shape}
use Rattle.tabledata.specs.TableData.{characters, element_text, plain, text_elements}

-- ---- which elements stand in the input from one place to another

-- characters before those of a text
unfoldable pub before : List ℕ → Result ℕ (List ℕ × List ℕ) → Result ℕ (List ℕ × List ℕ)
before w r = r >>= λ p. good (w ++ p.0, p.1)

-- the text of a cell from one place to another has the characters w
pub record Spells (s : List ℕ) (from next : ℕ) (w : List ℕ) : Type 0 where
  pub spelled : characters plain (drop from s) ≡ before w (characters plain (drop next s))
  pub onward : from ≤ next
  pub inside : next ≤ length s

-- in the text of a cell
pub record InText (k : Shape) (s : List ℕ) (from next : ℕ) (es : List ℤ) : Type 0 where
  pub word : List ℕ
  pub spells : Spells s from next word
  pub elements : text_elements k word ≡ good es

-- in the content of a cell of BINARY or BINARY2, which has n elements
pub record InBinary (k : Shape) (n : ℕ) (s : List ℕ) (from next : ℕ) (es : List ℤ) : Type 0 where
  pub elements : content k n (take (content_bytes k n) (drop from s)) ≡ good es
  pub next-is : next ≡ from + content_bytes k n

-- ---- which bytes they are put as

-- in a cell of TABLEDATA, between its tags
abbrev pub AsText : Shape → List ℤ → List ℕ → Type 0
AsText k es b = element_text k es ≡ good b

-- in a cell of BINARY or BINARY2, after its count and before what it is filled up with
unfoldable pub content_form : Shape → List ℤ → List ℕ
content_form k es = bytes_of k (length es) (map (number k) es)

abbrev pub AsBinary : Shape → List ℤ → List ℕ → Type 0
AsBinary k es b = b ≡ content_form k es

-- ---- elements moved

-- from the input, where Reads says which stand up to a place, to a buffer, where Writes says as which bytes
pub record ContentMoved (Reads : ℕ → List ℤ → Type 0) (Writes : List ℤ → List ℕ → Type 0) (old : List ℕ) (o : ℕ) (new : List ℕ) (count next e : ℕ) : Type 0 where
  pub es : List ℤ
  pub bytes : List ℕ
  pub reads : Reads next es
  pub writes : Writes es bytes
  pub puts : Puts old o bytes new e
  pub count-is : count ≡ length es

-- what is not moved leaves what stands before its place
abbrev pub MovesContent : (ℕ → List ℤ → Type 0) → (List ℤ → List ℕ → Type 0) → List ℕ → ℕ → List ℕ → Option Content → Type 0
MovesContent Reads Writes old o new (Some r) = ContentMoved Reads Writes old o new r.count r.next r.end
MovesContent Reads Writes old o new None = Puts old o [] new o

-- one element by its value
abbrev pub FindsOne : (ℕ → List ℤ → Type 0) → Option One → Type 0
FindsOne Reads (Some r) = Reads r.next (r.value ∷ [])
FindsOne Reads None = Unit {0}
