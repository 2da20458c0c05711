-- What the texts share: white space, tags, digits and words. Each relation says which bytes spell what, and nothing here reads. Quotations
-- are 01's; those of VOTable 1.4 say "000" and the section.
use Rattle.std.specs.Prelude.{◌*◌, ◌+◌, ◌<◌, ◌^◌, ◌≤◌, suc, ℕ, Bool, false, true, List, [], ◌++◌, ◌∷◌, ◌≡◌, negsuc, neg_ℤ, pos, ℤ, length}
use Rattle.table.specs.Bytes.{byte, bytes, is_white}
use Rattle.table.specs.Shape.{half, in_range}

-- white space, as much as one likes
pub data White : List ℕ → Type 0 where
  -- "White space may stand": there need be none
  white-end : White []
  -- "White space is bytes 9, 10, 13, 32."
  white-then : {b : ℕ} {w : List ℕ} → is_white b ≡ true → White w → White (b ∷ w)

-- a tag without attributes, from its `<` to its `>` or `/>`
pub data Tag (opening closing : List ℕ) : List ℕ → Type 0 where
  -- "White space may stand before `>` or `/>`. No attributes, comments or CDATA."
  a-tag : {w : List ℕ} → White w → Tag opening closing (opening ++ (w ++ closing))

-- ---- digits

-- a decimal digit and its value
pub data Digit : ℕ → ℕ → Type 0 where
  -- "decimal, one to 20 digits": `0` to `9`
  figure : {d : ℕ} → d < 10 → Digit (byte "0" + d) d

-- a hexadigit and its value: 000, 6: "the term “hexadigit” designates the ASCII numbers "0" to "9", or the ASCII lower- or upper-case letters
-- "a" to "f""
pub data Hexadigit : ℕ → ℕ → Type 0 where
  -- "the ASCII numbers"
  hex-figure : {d : ℕ} → d < 10 → Hexadigit (byte "0" + d) d
  -- "upper-case letters"
  hex-capital : {d : ℕ} → d < 6 → Hexadigit (byte "A" + d) (10 + d)
  -- "lower-"case letters
  hex-small : {d : ℕ} → d < 6 → Hexadigit (byte "a" + d) (10 + d)

-- a number that is its own digit: a byte in base 256, a bit in base 2
pub data Itself : ℕ → ℕ → Type 0 where
  -- "Integers are big-endian", "first bit highest": bytes and bits are digits
  itself : {n : ℕ} → Itself n n

-- digits of a base, one or more, and the number that they spell; 000, 5.3: "Most Significant Byte first"; so are digits written. Leading
-- zeros are digits.
pub data Numeral (Figure : ℕ → ℕ → Type 0) (base : ℕ) : List ℕ → ℕ → Type 0 where
  -- one digit spells its value
  one-digit : {b d : ℕ} → Figure b d → Numeral Figure base (b ∷ []) d
  -- one more behind those of n spells n times the base and its value
  one_more : {s : List ℕ} {n b d : ℕ} → Numeral Figure base s n → Figure b d → Numeral Figure base (s ++ (b ∷ [])) (n * base + d)

-- ---- integers

-- "two's complement for the signed: 1, 2, 4, 8 bytes": the integer z that the number n of w bytes stands for
pub data Stands : Bool → ℕ → ℕ → ℤ → Type 0 where
  -- 000, 6: "a byte (8-bits) representing a number in the range 0 to 255"
  stands-unsigned : {w n : ℕ} → Stands false w n (pos n)
  -- "two's complement for the signed": itself in the lower half
  stands-positive : {w n : ℕ} → n < half w → Stands true w n (pos n)
  -- and in the upper half the negative that is 256 ^ w less: `negsuc m` is -(m + 1)
  stands-negative : {w n m : ℕ} → half w ≤ n → n + suc m ≡ 256 ^ w → Stands true w n (negsuc m)

-- "decimal, one to 20 digits, for the signed kinds with an optional `+` or `-`": a number that is written as an integer of such a kind, whatever its
-- size
pub data DecimalWord (signed : Bool) : List ℕ → ℤ → Type 0 where
  -- "decimal, one to 20 digits"
  decimal-plain : {s : List ℕ} {n : ℕ} → Numeral Digit 10 s n → length s ≤ 20 → DecimalWord signed s (pos n)
  -- "for the signed kinds with an optional `+`"
  decimal-plus : {s : List ℕ} {n : ℕ} → signed ≡ true → Numeral Digit 10 s n → length s ≤ 20 → DecimalWord signed (byte "+" ∷ s) (pos n)
  -- "or `-`"
  decimal-minus : {s : List ℕ} {n : ℕ} → signed ≡ true → Numeral Digit 10 s n → length s ≤ 20 → DecimalWord signed (byte "-" ∷ s) (neg_ℤ (pos n))

-- "integers: decimal, one to 20 digits, for the signed kinds with an optional `+` or `-`; or `0x` and 1 to 2, 4, 8, 16 hexadigits, no
-- sign, read as that width's two's complement."
pub data IntegerWord (signed : Bool) (w : ℕ) : List ℕ → ℤ → Type 0 where
  -- a value lies in the range of its w bytes: 000, 6: "decimal representation between -32768 and 32767", and so on
  word-decimal : {s : List ℕ} {z : ℤ} → DecimalWord signed s z → in_range signed w z ≡ true → IntegerWord signed w s z
  -- "or `0x` and 1 to 2, 4, 8, 16 hexadigits, no sign, read as that width's two's complement"
  word-hexadecimal : {s : List ℕ} {n : ℕ} {z : ℤ} → Numeral Hexadigit 16 s n → length s ≤ 2 * w → Stands signed w n z
      → IntegerWord signed w (byte "0" ∷ byte "x" ∷ s) z

-- 02, #104: "text that isn't written as an integer", and "one that is but lies outside its kind's range"
pub data OutsideWord (signed : Bool) (w : ℕ) : List ℕ → Type 0 where
  -- "one that is but lies outside its kind's range"
  word-outside : {s : List ℕ} {z : ℤ} → DecimalWord signed s z → in_range signed w z ≡ false → OutsideWord signed w s

-- ---- booleans: 0 is false, 1 true, 2 unknown

-- "`T t 1` true, `F f 0` false", in text and in binary
pub data TruthLetter : ℕ → ℤ → Type 0 where
  -- 000, 6: "ASCII "T", "t", or "1" indicating true"
  letter-T : TruthLetter (byte "T") (pos 1)
  letter-t : TruthLetter (byte "t") (pos 1)
  letter-1 : TruthLetter (byte "1") (pos 1)
  -- 000, 6: "and ASCII "F", "f", or "0" indicating false"
  letter-F : TruthLetter (byte "F") (pos 0)
  letter-f : TruthLetter (byte "f") (pos 0)
  letter-0 : TruthLetter (byte "0") (pos 0)

-- a small letter, and how it may be written: 000, 6: "any capitalisation variation of the strings "true" and "false" (e.g. "tRUE" or "FalsE")"
pub data AnyCase : ℕ → ℕ → Type 0 where
  -- as it is
  as-small : {b : ℕ} → AnyCase b b
  -- as its capital
  as-capital : {d : ℕ} → d < 26 → AnyCase (byte "a" + d) (byte "A" + d)

-- "in any capitals": a word of small letters, and how it may be written
pub data AnyCapitals : List ℕ → List ℕ → Type 0 where
  -- the word ends
  capitals-end : AnyCapitals [] []
  -- "in any capitals": each letter by itself
  capitals-then : {b c : ℕ} {s t : List ℕ} → AnyCase b c → AnyCapitals s t → AnyCapitals (b ∷ s) (c ∷ t)

-- "boolean: `T t 1 F f 0 ?`, or true or false in any capitals."
pub data TruthWord : List ℕ → ℤ → Type 0 where
  -- "`T t 1 F f 0"
  truth-letter : {b : ℕ} {e : ℤ} → TruthLetter b e → TruthWord (b ∷ []) e
  -- "`?`"; 000, 6: "The null value is indicated by .. a question mark"
  truth-unknown : TruthWord (bytes "?") (pos 2)
  -- "or true or false in any capitals"
  truth-true : {s : List ℕ} → AnyCapitals (bytes "true") s → TruthWord s (pos 1)
  truth-false : {s : List ℕ} → AnyCapitals (bytes "false") s → TruthWord s (pos 0)

-- ---- bits

-- "bit: `0` and `1` only, nothing between."
pub data BitLetters : List ℕ → List ℤ → Type 0 where
  -- "nothing between": one letter directly behind another
  bits-end : BitLetters [] []
  -- "`0`"; 000, 6: "a sequence of ASCII "0" and "1" characters"
  bits-0 : {s : List ℕ} {es : List ℤ} → BitLetters s es → BitLetters (byte "0" ∷ s) (pos 0 ∷ es)
  -- "and `1` only"
  bits-1 : {s : List ℕ} {es : List ℤ} → BitLetters s es → BitLetters (byte "1" ∷ s) (pos 1 ∷ es)

-- ---- words in a text

-- "other cells lose white space at both ends and, except bit, are split at white space"; 000, 5.1: "multiple numbers separated by
-- whitespace", "the amount of white spaces does not matter"
module _ {A : Type 0} where
  pub data Spaced (Word : List ℕ → A → Type 0) : List ℕ → List A → Type 0 where
    -- no word: white space alone
    words-none : {w : List ℕ} → White w → Spaced Word w []
    -- a word that ends where the text does
    words_last : {w v : List ℕ} {e : A} → White w → Word v e → Spaced Word (w ++ v) (e ∷ [])
    -- a word that ends at white space, and what follows
    words-then : {w v : List ℕ} {e : A} (b : ℕ) {s : List ℕ} {es : List A} → White w → Word v e → is_white b ≡ true → Spaced Word s es
        → Spaced Word (w ++ (v ++ (b ∷ s))) (e ∷ es)

-- 02, #104: "in one cell the first bad element decides": a bad word, good ones before it, and whatever follows
module _ {A : Type 0} where
  pub data FirstBad (Word : List ℕ → A → Type 0) (Bad : List ℕ → Type 0) : List ℕ → Type 0 where
    -- the bad word ends where the text does
    bad_last : {w v : List ℕ} → White w → Bad v → FirstBad Word Bad (w ++ v)
    -- it ends at white space
    bad-then : {w v : List ℕ} (b : ℕ) (s : List ℕ) → White w → Bad v → is_white b ≡ true → FirstBad Word Bad (w ++ (v ++ (b ∷ s)))
    -- a good word comes before it
    bad-later : {w v : List ℕ} {e : A} (b : ℕ) {s : List ℕ} → White w → Word v e → is_white b ≡ true → FirstBad Word Bad s
        → FirstBad Word Bad (w ++ (v ++ (b ∷ s)))

-- one word, not split
pub data Trimmed {A : Type 0} (Word : List ℕ → A → Type 0) : List ℕ → A → Type 0 where
  -- "other cells lose white space at both ends"
  trimmed : {w v u : List ℕ} {x : A} → White w → Word v x → White u → Trimmed Word (w ++ (v ++ u)) x
