-- What is promised of base64 and of declarations alone: calls of the face that convert no rows.
use Rattle.std.specs.Prelude.{◌*◌, ◌+◌, ◌/◌, ◌<◌, ◌≤◌, ℕ, List, [], ◌∷◌, ◌↔◌, ◌≡◌, get_or, length}
use Rattle.demands.specs.Demands.{Accepted, output}
use Rattle.grammar.specs.Base64Text.{Base64Text}
use Rattle.grammar.specs.DeclarationRefusals.{NotDeclared}
use Rattle.grammar.specs.Declarations.{Declares}
use Rattle.grammar.specs.Exact.{NotDecoded}
use Rattle.table.specs.Outcome.{Call, accepted, at, ending, most_number, refused}
use Rattle.table.specs.declared.Column.{Column}

-- ---- base64

-- demand 1: "Whatever bytes come in, .. as base64, the software ends with rows or with one numbered refusal": with all the bytes that the text
-- spells, or with a number, and then nothing is touched
pub data DecodedOrRefused (input out : List ℕ) : Call → Type 0 where
  all-decoded : {b : List ℕ} → Base64Text input b → length b ≤ length out → DecodedOrRefused input out (ending (accepted 0 b) out)
  not-decoded : {n : ℕ} → NotDecoded input (length out) n → DecodedOrRefused input out (ending (refused (at 0 n) 0 []) out)

-- demand 2 of a decoding step: "It accepts exactly what .. 01 calls valid"
pub record DecodesExactly (input out : List ℕ) (c : Call) : Type 0 where
  pub ended : DecodedOrRefused input out c
  -- accepted with these bytes exactly when the text spells them, within its size, and they have room
  pub exactly : (b : List ℕ) → ((length input ≤ 1073741824) × Base64Text input b × (length b ≤ length out)) ↔ (c ≡ ending (accepted 0 b) out)
  -- refused with this number exactly when the grammar says so
  pub refused-exactly : (n : ℕ) → NotDecoded input (length out) n ↔ ((c ≡ ending (refused (at 0 n) 0 []) out) × (0 < n))

-- and so of encoding: with all the letters of the bytes and nothing among them, or with a number, and then nothing is touched
pub data EncodedOrRefused (input out : List ℕ) : Call → Type 0 where
  -- "Written without line breaks.": four letters for every three bytes, or what is left of three
  all-encoded : {b : List ℕ} → Base64Text b input → length b ≡ (length input + 2) / 3 * 4 → length b ≤ length out → EncodedOrRefused input out (ending (accepted 0 b) out)
  -- 6: "an input over its size"
  bytes-too-long : 1073741824 < length input → EncodedOrRefused input out (ending (refused (at 0 6) 0 []) out)
  -- 17: "the base64 result is longer than the room left"
  no-room-for-letters : length input ≤ 1073741824 → length out < (length input + 2) / 3 * 4 → EncodedOrRefused input out (ending (refused (at 0 17) 0 []) out)

-- both steps are accepted, the first writes a text that spells the input, and the second the input
pub record ComesBack (input : List ℕ) (encoding decoding : Call) : Type 0 where
  pub encoded : Accepted encoding
  pub spelled : Base64Text (output encoding) input
  pub decoded : Accepted decoding
  pub same : output decoding ≡ input

-- bytes to base64 and back: four letters for every three bytes, or what is left of three, are within the size of an input and have room
abbrev pub EncodedAndDecoded : (input text bytes : List ℕ) (encoding decoding : Call) → Type 0
EncodedAndDecoded input text bytes encoding decoding =
    (length input + 2) / 3 * 4 ≤ 1073741824 → (length input + 2) / 3 * 4 ≤ length text → length input ≤ length bytes → ComesBack input encoding decoding

-- ---- declarations

-- demand 1: "Whatever bytes come in, as column declarations, .. the software ends .. with one numbered refusal and the .. column where it
-- stopped", or with the number of columns
pub data DeclaredOrRefused (decls : List ℕ) : List ℕ → Type 0 where
  all-declared : {cs : List Column} → Declares decls cs → DeclaredOrRefused decls (0 ∷ 0 ∷ 0 ∷ length cs ∷ 0 ∷ [])
  not-declared : {n place : ℕ} → NotDeclared decls n place → 0 < n → n ≤ most_number → DeclaredOrRefused decls (n ∷ 0 ∷ place ∷ 0 ∷ 0 ∷ [])

-- demand 2 of declarations alone: "It accepts exactly what .. 01 calls valid"
pub record DeclaresExactly (decls numbers : List ℕ) : Type 0 where
  pub ended : DeclaredOrRefused decls numbers
  -- accepted exactly when columns are declared
  pub exactly : (get_or numbers 0 0 ≡ 0) ↔ ((cs : List Column) × Declares decls cs)
  pub columns : (cs : List Column) → Declares decls cs → numbers ≡ 0 ∷ 0 ∷ 0 ∷ length cs ∷ 0 ∷ []
  -- refused with this number at this place exactly when the grammar says so
  pub refused-exactly : (n place : ℕ) → NotDeclared decls n place ↔ (numbers ≡ n ∷ 0 ∷ place ∷ 0 ∷ 0 ∷ [])
