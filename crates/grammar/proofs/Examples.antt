-- Some of 01's P cases in the grammar, and of 02's line ends, derived by its constructors alone or through the theorems.
use Rattle.std.specs.Prelude.{Option}
use Prim.Native.Nat.{◌<◌, ◌≤◌, ℕ}
use native.Mathlib.Omega.{arith}
use mathlib.Core.Bool.{Bool, false, true}
use mathlib.Core.List.{List, [], ◌++◌, ◌∷◌}
use mathlib.Core.Path.{◌≡◌, ap, refl}
use lib.Dec.{lit<, lit≤}
use lib.IntN.{negsuc, ℤ}
use lib.ListN.{length}
use Rattle.demands.proofs.Everything.{everything}
use Rattle.demands.proofs.Night.{first_row, night-declared, night_columns, night_decls, room, second_row, small_bytes}
use Rattle.demands.specs.Cases.{night_binary, night_binary2, night_text}
use Rattle.grammar.proofs.Base64Read.{undecoded-exactly}
use Rattle.grammar.proofs.ColumnsRead.{datatype-read, declares-is}
use Rattle.grammar.proofs.DeclarationsRefused.{not-declared-exactly}
use Rattle.grammar.proofs.Exactly.{accepts-exactly, declares-columns, spells-is}
use Rattle.grammar.proofs.TextRead.{characters-read, outside-elements}
use Rattle.grammar.proofs.WordsRead.{integer-read}
use Rattle.grammar.specs.Binaries.{Packed, big_endian, counted-fixed, packed-end, packed-then}
use Rattle.grammar.specs.CellRefusals.{NoCell, OutsideFirst, first-outside, has-bounded, out_of_range, over-bound, padding-not-0, padding-set}
use Rattle.grammar.specs.DeclarationRefusals.{NotDeclared, no-column, not-declared}
use Rattle.grammar.specs.Declarations.{Datatype, Declares}
use Rattle.grammar.specs.Exact.{InGrammar, NotDecoded, table_of}
use Rattle.grammar.specs.Text.{Characters, Marked, char-amp, char-decimal, char-itself, char-line-end, chars-end, chars-return, chars-then, marked-text}
use Rattle.grammar.specs.Valid.{Spells}
use Rattle.grammar.specs.Words.{Digit, Hexadigit, IntegerWord, Itself, OutsideWord, a-tag, bad_last, bad-then, decimal-plain, figure, hex-small, itself, one-digit, one_more}
use Rattle.grammar.specs.Words.{stands-negative, white-end, word-hexadecimal, word-outside}
use Rattle.table.proofs.Laws.{bad-good}
use Rattle.table.specs.Bytes.{bytes}
use Rattle.table.specs.Cell.{AreColumns, Cell, column_of}
use Rattle.table.specs.Result.{Result, bad, good}
use Rattle.table.specs.Shape.{W2, Whole, half}
use Rattle.table.specs.declared.Kind.{Kind}
use Rattle.table.specs.declared.Kind.TheVariants.{Bit, UnsignedByte}
use Rattle.table.specs.declared.Len.TheVariants.{Bounded, Fixed}
use Rattle.table.specs.declared.Rows.TheVariants.{Binary, Binary2, TableData}

-- "P short `0xffff` is -1"
pub short-ffff : IntegerWord true 2 (bytes "0xffff") (negsuc 0)
unfolding half
short-ffff = word-hexadecimal (one_more (one_more (one_more (one-digit f) f) f) f) (lit≤ tt) (stands-negative {n = 65535} (lit≤ tt) refl)
  where
    f : Hexadigit 102 15
    f = hex-small {d = 5} (lit< tt)

-- the sample night's `a&amp;b`
pub night-characters : Characters (bytes "a&amp;b") (bytes "a&b")
night-characters =
    chars-then (char-itself {b = 97} (λ e. omega arith) (λ e. omega arith) (λ e. omega arith))
    (chars-then char-amp (chars-then (char-itself {b = 98} (λ e. omega arith) (λ e. omega arith) (λ e. omega arith)) chars-end))

-- 13 13 10 `&#13;` 10: two line ends, a reference, and a line end; "only a numeric reference gives 13"
pub line-ends-spelled : Characters (13 ∷ 13 ∷ 10 ∷ (bytes "&#13;" ++ (10 ∷ []))) (10 ∷ 10 ∷ 13 ∷ 10 ∷ [])
line-ends-spelled =
    chars-return {s = 13 ∷ 10 ∷ (bytes "&#13;" ++ (10 ∷ []))} (λ t e. let z : ◌≡◌ {A = ℕ} 13 10 = cc in omega arith)
    (chars-then char-line-end
    (chars-then (char-decimal {s = bytes "13"} (one_more (one-digit (figure {d = 1} (lit< tt))) (figure {d = 3} (lit< tt))) (lit≤ tt))
    (chars-then (char-itself {b = 10} (λ e. omega arith) (λ e. omega arith) (λ e. omega arith)) chars-end)))

-- 13 10 is one character
pub not-two : Characters (13 ∷ 10 ∷ []) (10 ∷ 10 ∷ []) → ⊥
unfolding everything
not-two h = let z : ◌≡◌ {A = ℕ} 1 2 = ap read_count (characters-read h (a-tag white-end) []) in omega arith
  where
    read_count : Result ℕ (List ℕ × List ℕ) → ℕ
    read_count (good p) = length p.0
    read_count (bad n) = 0

-- "`+5` good for int, 11 for unsignedByte"
pub no_sign : (z : ℤ) → IntegerWord false 1 (bytes "+5") z → ⊥
unfolding everything
no_sign z h = bad-good (integer-read h)

-- "the sample night": its text, under its declarations, goes to BINARY2, since it is accepted in a buffer of a hundred bytes
pub night-in-grammar : InGrammar night_decls TableData Binary2 night_text (length room)
unfolding everything
night-in-grammar = (accepts-exactly night_decls TableData Binary2 night_text room (small_bytes night_text refl)).0 refl

-- ---- the sample night declares these columns, and its three forms spell the same two rows

abbrev night_rows : List (List Cell)
night_rows = first_row ∷ second_row ∷ []

pub night-declares : Declares night_decls night_columns
night-declares = declares-is night_decls night_columns night-declared

pub night-spelled : Spells TableData night_columns night_text night_rows × Spells Binary night_columns night_binary night_rows × Spells Binary2 night_columns night_binary2 night_rows
unfolding everything table_of
night-spelled =
    let i : AreColumns night_columns = declares-columns night_decls night_columns night-declares in (
      spells-is night_columns i TableData night_text night_rows (small_bytes night_text refl) refl,
      spells-is night_columns i Binary night_binary night_rows (small_bytes night_binary refl) refl,
      spells-is night_columns i Binary2 night_binary2 night_rows (small_bytes night_binary2 refl) refl,
    )

-- ---- what is refused

-- "no column at the end", at place 0
pub empty-refused : NotDeclared [] 5 0
empty-refused = not-declared (lit≤ tt) (no-column white-end)

-- ` int` names no kind: "datatype not carried"
pub int-trimmed : (k : Kind) → Datatype (bytes " int") k → ⊥
unfolding everything
int-trimmed k h = bad-good (datatype-read h)

pub int-refused : NotDeclared (bytes "<FIELD datatype=\" int\"/>") 2 0
unfolding everything
int-refused = (not-declared-exactly (bytes "<FIELD datatype=\" int\"/>") 2 0).1 refl

-- "`Zh==` 7", whatever the room
pub zh-refused : (out : List ℕ) → NotDecoded (bytes "Zh==") (length out) 7
unfolding everything
zh-refused out = (undecoded-exactly (bytes "Zh==") out 7).1 (refl, lit< tt)

-- a digit that is its own value
digit : (n : ℕ) → Itself n n
digit n = itself

-- "P nine bits .. `FF 81` 13": nine of 1, and a padding whose last bit is 1
pub nine-bits : (n : Option ℤ) (flagged : Bool) → NoCell Binary (column_of Bit (Fixed 9) n) flagged (0xFF ∷ 0x81 ∷ []) 13
nine-bits n flagged = padding-not-0 {a = []} [] refl refl counted-fixed refl
    (padding-set (1 ∷ 1 ∷ 1 ∷ 1 ∷ 1 ∷ 1 ∷ 1 ∷ 1 ∷ 1 ∷ []) (0 ∷ 0 ∷ 0 ∷ 0 ∷ 0 ∷ 0 ∷ 1 ∷ []) refl refl packed (λ z. omega (arith, z.1.1.1.1.1.1.0)))
  where
    set : 1 < 2
    set = lit< tt

    unset : 0 < 2
    unset = lit< tt

    packed : Packed (1 ∷ 1 ∷ 1 ∷ 1 ∷ 1 ∷ 1 ∷ 1 ∷ 1 ∷ 1 ∷ 0 ∷ 0 ∷ 0 ∷ 0 ∷ 0 ∷ 0 ∷ 1 ∷ []) (0xFF ∷ 0x81 ∷ [])
    packed =
        let i = digit 1 in
        let o = digit 0 in
        packed-then {bits = 1 ∷ 1 ∷ 1 ∷ 1 ∷ 1 ∷ 1 ∷ 1 ∷ 1 ∷ []} refl (set, (set, (set, (set, (set, (set, (set, (set, tt))))))))
        (one_more (one_more (one_more (one_more (one_more (one_more (one_more (one-digit i) i) i) i) i) i) i) i)
        (packed-then {bits = 1 ∷ 0 ∷ 0 ∷ 0 ∷ 0 ∷ 0 ∷ 0 ∷ 1 ∷ []} refl (set, (unset, (unset, (unset, (unset, (unset, (unset, (set, tt))))))))
        (one_more (one_more (one_more (one_more (one_more (one_more (one_more (one-digit i) o) o) o) o) o) o) i) packed-end)

-- "P `4*` with count .. 5 is 9": of any kind, under a flag or not, whatever follows
pub five-of-four : (k : Kind) (n : Option ℤ) (flagged : Bool) (rest : List ℕ) → NoCell Binary2 (column_of k (Bounded 4) n) flagged (0 ∷ 0 ∷ 0 ∷ 5 ∷ rest) 9
five-of-four k n flagged rest =
    let o = digit 0 in
    over-bound {b = 0 ∷ 0 ∷ 0 ∷ 5 ∷ []} rest has-bounded refl (big_endian refl (one_more (one_more (one_more (one-digit o) o) o) (digit 5))) (lit< tt)

-- "in one cell the first bad element decides": 99999 in a short array, and then a character that no cell may have
pub first-decides : OutsideFirst (Whole true W2) (bytes "99999 " ++ (1 ∷ []))
unfolding everything
first-decides = first-outside (bad-then {v = bytes "99999"} 32 (1 ∷ []) white-end too_large refl)
  where
    nine : Digit 57 9
    nine = figure {d = 9} (lit< tt)

    too_large : OutsideWord true 2 (bytes "99999")
    too_large = word-outside (decimal-plain (one_more (one_more (one_more (one_more (one-digit nine) nine) nine) nine) nine) (lit≤ tt)) refl

-- and the other way round
pub first-decides-11 : OutsideFirst (Whole true W2) (1 ∷ bytes " 99999") → ⊥
unfolding everything
first-decides-11 h = let z : ◌≡◌ {A = Result ℕ (List ℤ)} (bad 11) (bad 18) = outside-elements h in let n : ◌≡◌ {A = ℕ} 11 18 = cc in omega arith

-- "P cases .. `256` become 18": its tags and characters are there, and they spell a number that no byte holds
pub no-byte-256 : (n : Option ℤ) (flagged : Bool) → NoCell TableData (column_of UnsignedByte (Fixed 1) n) flagged (bytes "<TD>256</TD>") 18
unfolding everything
no-byte-256 n flagged = out_of_range {cs = bytes "256"} {rest = []}
    (record { white = []; taken = bytes "<TD>256</TD>"; is_white = white-end; whole = refl; marked = marked })
    (first-outside (bad_last white-end too_large))
  where
    too_large : OutsideWord false 1 (bytes "256")
    too_large =
        word-outside (decimal-plain (one_more (one_more (one-digit (figure {d = 2} (lit< tt))) (figure {d = 5} (lit< tt))) (figure {d = 6} (lit< tt))) (lit≤ tt)) refl

    plain : {b : ℕ} → 48 ≤ b → b ≤ 57 → {s cs : List ℕ} → Characters s cs → Characters (b ∷ s) (b ∷ cs)
    plain {b} l m r = chars-then (char-itself {b = b} (λ e. omega arith) (λ e. omega arith) (λ e. omega arith)) r

    marked : Marked (bytes "<TD>256</TD>") (bytes "256")
    marked = marked-text (a-tag white-end) (plain (lit≤ tt) (lit≤ tt) (plain (lit≤ tt) (lit≤ tt) (plain (lit≤ tt) (lit≤ tt) chars-end))) (a-tag white-end)
