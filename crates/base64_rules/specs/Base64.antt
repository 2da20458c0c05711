-- Base64 (RFC 4648), a step of its own over bytes.
use Rattle.std.specs.Prelude.{◌%◌, ◌*◌, ◌+◌, ◌-◌, ◌/◌, ℕ, Bool, cond, List, [], ◌++◌, ◌∷◌, eqb, ltb, length}
use Rattle.table.specs.Bytes.{between, byte, is_white}
use Rattle.table.specs.Outcome.{Call, Outcome, accepted, at, ending, most_input, refused}
use Rattle.table.specs.Result.{Result, ◌>>=◌, bad, good}

-- ---- letters

-- RFC 4648, table 1: `A`..`Z` 0..25, `a`..`z` 26..51, `0`..`9` 52..61, `+` 62, `/` 63
unfoldable pub sextet : ℕ → Result ℕ ℕ
sextet b =
    cond (between (byte "A") (byte "Z") b) (good (b - 65))
    (cond (between (byte "a") (byte "z") b) (good (b - 71))
    (cond (between (byte "0") (byte "9") b) (good (b + 4))
    (cond (eqb b (byte "+")) (good 62) (cond (eqb b (byte "/")) (good 63) (bad 7)))))

unfoldable pub letter : ℕ → ℕ
letter n =
    cond (ltb n 26) (n + 65)
    (cond (ltb n 52) (n + 71) (cond (ltb n 62) (n - 4) (cond (eqb n 62) (byte "+") (byte "/"))))

unfoldable pub is_pad : ℕ → Bool
is_pad b = eqb b (byte "=")

-- ---- decoding

-- "White space is skipped anywhere."
unfoldable pub dense : List ℕ → List ℕ
dense [] = []
dense (b ∷ s) = cond (is_white b) (dense s) (b ∷ dense s)

-- the bytes of two, three and four letters; "unused bits 0"
unfoldable pub one_byte : ℕ → ℕ → Result ℕ (List ℕ)
one_byte a b = do
  w ← sextet a
  x ← sextet b
  cond (eqb (x % 16) 0) (good ((w * 4 + x / 16) ∷ [])) (bad 7)

unfoldable pub two_bytes : ℕ → ℕ → ℕ → Result ℕ (List ℕ)
two_bytes a b c = do
  w ← sextet a
  x ← sextet b
  y ← sextet c
  cond (eqb (y % 4) 0) (good ((w * 4 + x / 16) ∷ (x % 16 * 16 + y / 4) ∷ [])) (bad 7)

unfoldable pub three_bytes : ℕ → ℕ → ℕ → ℕ → Result ℕ (List ℕ)
three_bytes a b c d = do
  w ← sextet a
  x ← sextet b
  y ← sextet c
  z ← sextet d
  good ((w * 4 + x / 16) ∷ (x % 16 * 16 + y / 4) ∷ (y % 4 * 64 + z) ∷ [])

-- "`=` only as the last one or two"
unfoldable pub last_four : ℕ → ℕ → ℕ → ℕ → Result ℕ (List ℕ)
last_four a b c d = cond (is_pad d) (cond (is_pad c) (one_byte a b) (two_bytes a b c)) (three_bytes a b c d)

-- "The rest is a multiple of four characters"
unfoldable pub fours : List ℕ → Result ℕ (List ℕ)
fours [] = good []
fours (a ∷ []) = bad 7
fours (a ∷ b ∷ []) = bad 7
fours (a ∷ b ∷ c ∷ []) = bad 7
fours (a ∷ b ∷ c ∷ d ∷ []) = last_four a b c d
fours (a ∷ b ∷ c ∷ d ∷ e ∷ s) = three_bytes a b c d >>= λ p. fours (e ∷ s) >>= λ q. good (p ++ q)

unfoldable pub decode : List ℕ → Result ℕ (List ℕ)
decode s = fours (dense s)

-- ---- encoding: "Written without line breaks."

unfoldable pub encode : List ℕ → List ℕ
encode [] = []
encode (a ∷ []) = letter (a / 4) ∷ letter (a % 4 * 16) ∷ byte "=" ∷ byte "=" ∷ []
encode (a ∷ b ∷ []) = letter (a / 4) ∷ letter (a % 4 * 16 + b / 16) ∷ letter (b % 16 * 4) ∷ byte "=" ∷ []
encode (a ∷ b ∷ c ∷ s) =
    letter (a / 4) ∷ letter (a % 4 * 16 + b / 16) ∷ letter (b % 16 * 4 + c / 64) ∷ letter (c % 64) ∷ encode s

-- ---- the two calls

-- "the base64 result is longer than the room left"
unfoldable pub in_room : ℕ → List ℕ → Result ℕ (List ℕ)
in_room room b = cond (ltb room (length b)) (bad 17) (good b)

-- "For each input size comes first"
unfoldable pub sized_input : List ℕ → Result ℕ (List ℕ)
sized_input s = cond (ltb most_input (length s)) (bad 6) (good s)

-- "Base64 refusals (6, 7, then 17) write nothing at all; row, column and both counts are 0."
unfoldable pub step_outcome : Result ℕ (List ℕ) → Outcome
step_outcome (good b) = accepted 0 b
step_outcome (bad n) = refused (at 0 n) 0 []

unfoldable pub decoding : List ℕ → ℕ → Outcome
decoding s room = step_outcome (sized_input s >>= λ t. decode t >>= λ b. in_room room b)

unfoldable pub encoding : List ℕ → ℕ → Outcome
encoding s room = step_outcome (sized_input s >>= λ t. in_room room (encode t))

-- the answer and the buffer at exit, from the input and the buffer at entry
unfoldable pub decode_call : List ℕ → List ℕ → Call
decode_call input out = ending (decoding input (length out)) out

unfoldable pub encode_call : List ℕ → List ℕ → Call
encode_call input out = ending (encoding input (length out)) out
