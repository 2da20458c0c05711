-- Laws of base64. Letters and their values are each other's inverse, tested once over all 64 values. From that: what is encoded decodes to
-- itself; a text is accepted exactly when, white space aside, it is what some bytes are encoded as; and what each of the two calls does.
use Prim.Native.Nat.{◌%◌, ◌*◌, ◌+◌, ◌-◌, ◌/◌, ◌<◌, ◌≤◌, ℕ}
use native.Mathlib.Decide.{dec_le}
use native.Mathlib.Nat.{lt_of_not-le}
use native.Mathlib.Omega.{arith}
use mathlib.Core.Bool.{Bool, cond, false, false≢true, not, true}
use mathlib.Core.List.{List, [], ◌++◌, ◌∷◌, append-nil}
use mathlib.Core.Logic.{◌↔◌, ◌⊎◌, inl, inr}
use mathlib.Core.Path.{◌∙◌, ◌≡◌, ap, ap₂, refl, sym}
use lib.Dec.{eqb, lit<, ltb}
use lib.ListN.{drop, length}
use borrow.Author.Tests.{eq-eqb, eqb-true, le-ltb, lt-ltb, ltb-true, not-true}
use Rattle.base64_rules.specs.Base64.{decode, decode_call, decoding, dense, encode, encode_call, encoding, fours, in_room, is_pad}
use Rattle.base64_rules.specs.Base64.{last_four, letter, one_byte, sextet, sized_input, step_outcome, three_bytes, two_bytes}
use Rattle.table.proofs.Laws.{NoWhite, bad-good, between_is, each_below, holds_at, holds-bind, holds-cond, holds-weaken}
use Rattle.table.specs.All.{All, AreBytes}
use Rattle.table.specs.Bytes.{between, is_white}
use Rattle.table.specs.Outcome.{Call, answer_of, at, buffer_of, ending, most_input, written}
use Rattle.table.specs.Result.{Holds, Result, ◌>>=◌, bad, good, holds, refuses}

split : {X : Type 0} (a b : ℕ) → (a < b → X) → (b ≤ a → X) → X
split a b f g = elim (dec_le b a) [ yes h ↦ g h | no h ↦ f (lt_of_not-le h) ]

-- ---- letters and their values

is_good : ℕ → Result ℕ ℕ → Bool
is_good n (good m) = eqb m n
is_good n (bad e) = false

good-is : (n : ℕ) (r : Result ℕ ℕ) → is_good n r ≡ true → r ≡ good n
unfolding is_good
good-is n (good m) h = ap good (eqb-true m n h)
good-is n (bad e) h = absurd (false≢true h)

-- each computed over all the values there are
module _ (n : ℕ) (h : n < 64) where
  pub sextet-letter : sextet (letter n) ≡ good n
  unfolding is_good sextet letter between
  sextet-letter = good-is n _ (each_below (λ (m : ℕ). is_good m (sextet (letter m))) 64 refl n h)

  pub letter-not-white : is_white (letter n) ≡ false
  unfolding letter is_white
  letter-not-white = not-true _ (each_below (λ (m : ℕ). not (is_white (letter m))) 64 refl n h)

  pub letter-not-pad : is_pad (letter n) ≡ false
  unfolding letter is_pad
  letter-not-pad = not-true _ (each_below (λ (m : ℕ). not (is_pad (letter m))) 64 refl n h)

  pub letter-small : letter n < 128
  unfolding letter
  letter-small = ltb-true _ _ (each_below (λ (m : ℕ). ltb (letter m) 128) 64 refl n h)

-- a byte that has a value is that value's letter
pub record LetterOf (c v : ℕ) : Type 0 where
  pub small : v < 64
  pub letter-is : letter v ≡ c

upper : (c : ℕ) → 65 ≤ c → c ≤ 90 → LetterOf c (c - 65)
unfolding letter
upper c h k = record { small = omega arith; letter-is = rw (lt-ltb (c - 65) 26 (omega arith)) (omega arith) }

lower : (c : ℕ) → 97 ≤ c → c ≤ 122 → LetterOf c (c - 71)
unfolding letter
lower c h k = record { small = omega arith; letter-is = rw (le-ltb (c - 71) 26 (omega arith), lt-ltb (c - 71) 52 (omega arith)) (omega arith) }

digit : (c : ℕ) → 48 ≤ c → c ≤ 57 → LetterOf c (c + 4)
unfolding letter
digit c h k =
    record { small = omega arith; letter-is = rw (le-ltb (c + 4) 26 (omega arith), le-ltb (c + 4) 52 (omega arith), lt-ltb (c + 4) 62 (omega arith)) (omega arith) }

plus-or-slash : (c v : ℕ) → v < 64 → letter v ≡ c → LetterOf c v
plus-or-slash c v h e = record { small = h; letter-is = e }

pub sextet-is : (c : ℕ) → Holds (LetterOf c) (sextet c)
unfolding sextet letter
sextet-is c =
    holds-cond (between 65 90 c) (λ h. let k = between_is 65 90 c h in holds (upper c k.0 k.1))
    (λ _. holds-cond (between 97 122 c) (λ h. let k = between_is 97 122 c h in holds (lower c k.0 k.1))
    (λ _. holds-cond (between 48 57 c) (λ h. let k = between_is 48 57 c h in holds (digit c k.0 k.1))
    (λ _. holds-cond (eqb c 43) (λ h. holds (plus-or-slash c 62 (lit< tt) (sym (eqb-true c 43 h))))
    (λ _. holds-cond (eqb c 47) (λ h. holds (plus-or-slash c 63 (lit< tt) (sym (eqb-true c 47 h)))) (λ _. refuses)))))

-- ---- what decodes is what was encoded

-- the text is what the bytes are encoded as
abbrev pub Spells : List ℕ → List ℕ → Type 0
Spells text b = (text ≡ encode b) × AreBytes b

cons4 : {a b c d v w x y : ℕ} {s t : List ℕ} → v ≡ a → w ≡ b → x ≡ c → y ≡ d → s ≡ t → ◌≡◌ {A = List ℕ} (a ∷ b ∷ c ∷ d ∷ s) (v ∷ w ∷ x ∷ y ∷ t)
cons4 p q r u e = cc

-- the letter of a number that is the byte's value
letter_at : {c v n : ℕ} → LetterOf c v → n ≡ v → letter n ≡ c
letter_at l e = ap letter e ∙ l.letter-is

-- with unused bits 0 the last letter's value comes back out of the bytes
last-of-two : (w x : ℕ) → x < 64 → x % 16 ≡ 0 → (w * 4 + x / 16) % 4 * 16 ≡ x
last-of-two w x h e = omega arith

last-of-three : (x y : ℕ) → y < 64 → y % 4 ≡ 0 → (x % 16 * 16 + y / 4) % 16 * 4 ≡ y
last-of-three x y h e = omega arith

one-is : (a b : ℕ) → Holds (Spells (a ∷ b ∷ 61 ∷ 61 ∷ [])) (one_byte a b)
unfolding one_byte encode
one-is a b =
    holds-bind (sextet-is a)
    (λ w p. holds-bind (sextet-is b)
    (λ x q. let k = p.small in let l = q.small in
    holds-cond (eqb (x % 16) 0)
    (λ e. holds (cons4 (letter_at p (omega arith)) (letter_at q (last-of-two w x l (eqb-true _ _ e))) refl refl refl, (omega arith, tt)))
    (λ _. refuses)))

two_is : (a b c : ℕ) → Holds (Spells (a ∷ b ∷ c ∷ 61 ∷ [])) (two_bytes a b c)
unfolding two_bytes encode
two_is a b c =
    holds-bind (sextet-is a)
    (λ w p. holds-bind (sextet-is b)
    (λ x q. holds-bind (sextet-is c)
    (λ y r. let k = p.small in let l = q.small in let m = r.small in
    holds-cond (eqb (y % 4) 0)
    (λ e. holds (
      cons4 (letter_at p (omega arith)) (letter_at q (omega arith)) (letter_at r (last-of-three x y m (eqb-true _ _ e))) refl refl,
      (omega arith, (omega arith, tt)),
    ))
    (λ _. refuses))))

-- four letters, and whatever follows
three-is : (a b c d : ℕ) → Holds (λ (p : List ℕ). (s t : List ℕ) → Spells s t → Spells (a ∷ b ∷ c ∷ d ∷ s) (p ++ t)) (three_bytes a b c d)
unfolding three_bytes encode
three-is a b c d =
    holds-bind (sextet-is a)
    (λ w p. holds-bind (sextet-is b)
    (λ x q. holds-bind (sextet-is c)
    (λ y r. holds-bind (sextet-is d)
    (λ z u. let k = p.small in let l = q.small in let m = r.small in let n = u.small in
    holds (λ s t e. (
      cons4 (letter_at p (omega arith)) (letter_at q (omega arith)) (letter_at r (omega arith)) (letter_at u (omega arith)) e.0,
      (omega arith, (omega arith, (omega arith, e.1))),
    ))))))

nothing : Spells [] []
unfolding encode
nothing = (refl, tt)

fours_is : (s : List ℕ) → Holds (Spells s) (fours s)
unfolding fours last_four is_pad encode
fours_is [] = holds nothing
fours_is (a ∷ []) = refuses
fours_is (a ∷ b ∷ []) = refuses
fours_is (a ∷ b ∷ c ∷ []) = refuses
fours_is (a ∷ b ∷ c ∷ d ∷ []) =
    holds-cond (eqb d 61)
    (λ h. let e = eqb-true d 61 h in holds-cond (eqb c 61) (λ k. let f = eqb-true c 61 k in rw (e, f) (one-is a b)) (λ _. rw e (two_is a b c)))
    (λ _. holds-weaken (three-is a b c d) (λ p h. rw append-nil at (h [] [] nothing)))
fours_is (a ∷ b ∷ c ∷ d ∷ e ∷ s) =
    holds-bind (three-is a b c d) (λ p h. holds-bind (fours_is (e ∷ s)) (λ q k. holds (h (e ∷ s) q k)))

-- ---- what is encoded decodes to itself

dense-self : (s : List ℕ) → NoWhite s → dense s ≡ s
unfolding dense
dense-self [] a = refl
dense-self (b ∷ s) a = rw (a.0, dense-self s a.1)

-- a property of every letter and of `=` holds of all that is encoded
all-encode : (P : ℕ → Type 0) → ((n : ℕ) → n < 64 → P (letter n)) → P 61 → (s : List ℕ) → AreBytes s → All P (encode s)
unfolding encode
all-encode P f p [] h = tt
all-encode P f p (a ∷ []) h = (f (a / 4) (omega arith), (f (a % 4 * 16) (omega arith), (p, (p, tt))))
all-encode P f p (a ∷ b ∷ []) h = (f (a / 4) (omega arith), (f (a % 4 * 16 + b / 16) (omega arith), (f (b % 16 * 4) (omega arith), (p, tt))))
all-encode P f p (a ∷ b ∷ c ∷ s) h = (
  f (a / 4) (omega arith),
  (
    f (a % 4 * 16 + b / 16) (omega arith),
    (f (b % 16 * 4 + c / 64) (omega arith), (f (c % 64) (omega arith), all-encode P f p s h.1.1.1)),
  ),
)

encode-white : (s : List ℕ) → AreBytes s → NoWhite (encode s)
unfolding is_white
encode-white s h = all-encode (λ (c : ℕ). is_white c ≡ false) letter-not-white refl s h

-- what is encoded are bytes, below 128 all of them
pub encode-bytes : (s : List ℕ) → AreBytes s → All (λ (c : ℕ). c < 128) (encode s)
encode-bytes s h = all-encode (λ (c : ℕ). c < 128) letter-small (lit< tt) s h

pub length-encode : (s : List ℕ) → length (encode s) ≡ (length s + 2) / 3 * 4
unfolding encode
length-encode [] = refl
length-encode (a ∷ []) = refl
length-encode (a ∷ b ∷ []) = refl
length-encode (a ∷ b ∷ c ∷ s) = let l = length-encode s in omega arith

three_back : (a b c : ℕ) → a < 256 → b < 256 → c < 256
    → three_bytes (letter (a / 4)) (letter (a % 4 * 16 + b / 16)) (letter (b % 16 * 4 + c / 64)) (letter (c % 64)) ≡ good (a ∷ b ∷ c ∷ [])
unfolding three_bytes
three_back a b c h k l =
    rw (sextet-letter (a / 4) (omega arith), sextet-letter (a % 4 * 16 + b / 16) (omega arith), sextet-letter (b % 16 * 4 + c / 64) (omega arith), sextet-letter (c % 64) (omega arith))
    (ap good (these (omega arith) (omega arith) (omega arith)))
  where
    these : {x y z : ℕ} → x ≡ a → y ≡ b → z ≡ c → ◌≡◌ {A = List ℕ} (x ∷ y ∷ z ∷ []) (a ∷ b ∷ c ∷ [])
    these p q r = cc

-- what comes before the last four are letters
pub fours-more : (a b c d : ℕ) (s : List ℕ) → 1 ≤ length s → fours (a ∷ b ∷ c ∷ d ∷ s) ≡ (three_bytes a b c d >>= λ p. fours s >>= λ q. good (p ++ q))
unfolding fours
fours-more a b c d [] h = absurd (omega arith)
fours-more a b c d (e ∷ s) h = refl

fours-encode : (s : List ℕ) → AreBytes s → fours (encode s) ≡ good s
unfolding encode fours last_four one_byte two_bytes is_pad
fours-encode [] h = refl
fours-encode (a ∷ []) h =
    rw (sextet-letter (a / 4) (omega arith), sextet-letter (a % 4 * 16) (omega arith), eq-eqb (a % 4 * 16 % 16) 0 (omega arith)) (ap (λ (x : ℕ). good (x ∷ [])) (omega arith))
fours-encode (a ∷ b ∷ []) h =
    rw (
      letter-not-pad (b % 16 * 4) (omega arith),
      sextet-letter (a / 4) (omega arith),
      sextet-letter (a % 4 * 16 + b / 16) (omega arith),
      sextet-letter (b % 16 * 4) (omega arith),
      eq-eqb (b % 16 * 4 % 4) 0 (omega arith),
    )
    (ap₂ (λ (x y : ℕ). good (x ∷ y ∷ [])) (omega arith) (omega arith))
fours-encode (a ∷ b ∷ c ∷ []) h = rw (letter-not-pad (c % 64) (omega arith)) (three_back a b c h.0 h.1.0 h.1.1.0)
fours-encode (a ∷ b ∷ c ∷ d ∷ s) h =
    fours-more (letter (a / 4)) (letter (a % 4 * 16 + b / 16)) (letter (b % 16 * 4 + c / 64)) (letter (c % 64)) (encode (d ∷ s)) (let l = length-encode (d ∷ s) in omega arith)
    ∙ rw (three_back a b c h.0 h.1.0 h.1.1.0, fours-encode (d ∷ s) h.1.1.1)

-- THE ROUND TRIP: what is encoded decodes to itself
pub decode-encode : (s : List ℕ) → AreBytes s → decode (encode s) ≡ good s
unfolding decode
decode-encode s h = rw (dense-self (encode s) (encode-white s h)) (fours-encode s h)

-- EXACTNESS: a text is accepted exactly when, white space aside, it is what some bytes are encoded as, and then it decodes to those bytes
pub exact : (s b : List ℕ) → decode s ≡ good b ↔ ((dense s ≡ encode b) × AreBytes b)
unfolding decode
exact s b = (λ e. holds_at (fours_is (dense s)) e, λ w. ap fours w.0 ∙ fours-encode b w.1)

-- ---- what is not accepted is refused with 7

-- no other refusal than this one
pub data Only (n : ℕ) {A : Type 0} : Result ℕ A → Type 0 where
  fine : {a : A} → Only n (good a)
  only : Only n (bad n)

pub only-bind : {n : ℕ} {A B : Type 0} {r : Result ℕ A} {f : A → Result ℕ B} → Only n r → ((a : A) → Only n (f a)) → Only n (r >>= f)
only-bind (fine {a = a}) g = g a
only-bind only g = only

pub only-cond : {n : ℕ} {A : Type 0} {x y : Result ℕ A} (b : Bool) → Only n x → Only n y → Only n (cond b x y)
only-cond true p q = p
only-cond false p q = q

pub sextet-7 : (c : ℕ) → Only 7 (sextet c)
unfolding sextet
sextet-7 c =
    only-cond (between 65 90 c) fine
    (only-cond (between 97 122 c) fine (only-cond (between 48 57 c) fine (only-cond (eqb c 43) fine (only-cond (eqb c 47) fine only))))

pub three-7 : (a b c d : ℕ) → Only 7 (three_bytes a b c d)
unfolding three_bytes
three-7 a b c d = only-bind (sextet-7 a) (λ _. only-bind (sextet-7 b) (λ _. only-bind (sextet-7 c) (λ _. only-bind (sextet-7 d) (λ _. fine))))

pub two-7 : (a b c : ℕ) → Only 7 (two_bytes a b c)
unfolding two_bytes
two-7 a b c = only-bind (sextet-7 a) (λ _. only-bind (sextet-7 b) (λ _. only-bind (sextet-7 c) (λ y. only-cond (eqb (y % 4) 0) fine only)))

pub one-7 : (a b : ℕ) → Only 7 (one_byte a b)
unfolding one_byte
one-7 a b = only-bind (sextet-7 a) (λ _. only-bind (sextet-7 b) (λ x. only-cond (eqb (x % 16) 0) fine only))

last-7 : (a b c d : ℕ) → Only 7 (last_four a b c d)
unfolding last_four
last-7 a b c d = only-cond (is_pad d) (only-cond (is_pad c) (one-7 a b) (two-7 a b c)) (three-7 a b c d)

fours-7 : (s : List ℕ) → Only 7 (fours s)
unfolding fours
fours-7 [] = fine
fours-7 (a ∷ []) = only
fours-7 (a ∷ b ∷ []) = only
fours-7 (a ∷ b ∷ c ∷ []) = only
fours-7 (a ∷ b ∷ c ∷ d ∷ []) = last-7 a b c d
fours-7 (a ∷ b ∷ c ∷ d ∷ e ∷ s) = only-bind (three-7 a b c d) (λ _. only-bind (fours-7 (e ∷ s)) (λ _. fine))

pub decode-only : (s : List ℕ) → Only 7 (decode s)
unfolding decode
decode-only s = fours-7 (dense s)

-- ---- what the two calls do

-- "Base64 refusals (6, 7, then 17) write nothing at all; row, column and both counts are 0."
unfoldable pub refusal : ℕ → List ℕ → Call
refusal n out = record { answer = record { number = n; row = 0; column = 0; rows = 0; bytes = 0 }; buffer = out }

-- "Acceptance has number, row and column 0 and rows done .. 0 for base64"; the bytes, and then what stood there
unfoldable pub acceptance : List ℕ → List ℕ → Call
acceptance b out = record { answer = record { number = 0; row = 0; column = 0; rows = 0; bytes = length b }; buffer = b ++ drop (length b) out }

module _ (input out : List ℕ) where
  pub decode-refused-6 : most_input < length input → decode_call input out ≡ refusal 6 out
  unfolding decode_call decoding sized_input step_outcome ending answer_of buffer_of written at refusal
  decode-refused-6 h = rw (lt-ltb most_input (length input) h)

  pub decode-refused-7 : length input ≤ most_input → decode input ≡ bad 7 → decode_call input out ≡ refusal 7 out
  unfolding decode_call decoding sized_input step_outcome ending answer_of buffer_of written at refusal
  decode-refused-7 h e = rw (le-ltb most_input (length input) h, e)

  pub decode-refused-17 : (b : List ℕ) → length input ≤ most_input → decode input ≡ good b → length out < length b → decode_call input out ≡ refusal 17 out
  unfolding decode_call decoding sized_input in_room step_outcome ending answer_of buffer_of written at refusal
  decode-refused-17 b h e k = rw (le-ltb most_input (length input) h, e, lt-ltb (length out) (length b) k)

  pub decode-accepted : (b : List ℕ) → length input ≤ most_input → decode input ≡ good b → length b ≤ length out → decode_call input out ≡ acceptance b out
  unfolding decode_call decoding sized_input in_room step_outcome ending answer_of buffer_of written at acceptance
  decode-accepted b h e k = rw (le-ltb most_input (length input) h, e, le-ltb (length out) (length b) k)

  pub encode-refused-6 : most_input < length input → encode_call input out ≡ refusal 6 out
  unfolding encode_call encoding sized_input step_outcome ending answer_of buffer_of written at refusal
  encode-refused-6 h = rw (lt-ltb most_input (length input) h)

  pub encode-refused-17 : length input ≤ most_input → length out < length (encode input) → encode_call input out ≡ refusal 17 out
  unfolding encode_call encoding sized_input in_room step_outcome ending answer_of buffer_of written at refusal
  encode-refused-17 h k = rw (le-ltb most_input (length input) h, lt-ltb (length out) (length (encode input)) k)

  pub encode-accepted : length input ≤ most_input → length (encode input) ≤ length out → encode_call input out ≡ acceptance (encode input) out
  unfolding encode_call encoding sized_input in_room step_outcome ending answer_of buffer_of written at acceptance
  encode-accepted h k = rw (le-ltb most_input (length input) h, le-ltb (length out) (length (encode input)) k)

-- each refusal exactly then, and the earliest wins; acceptance where there is none
pub data Decodes (input out : List ℕ) : Call → Type 0 where
  decode-6 : most_input < length input → Decodes input out (refusal 6 out)
  decode-7 : length input ≤ most_input → ((b : List ℕ) → Spells (dense input) b → ⊥) → Decodes input out (refusal 7 out)
  decode-17 : (b : List ℕ) → length input ≤ most_input → Spells (dense input) b → length out < length b → Decodes input out (refusal 17 out)
  decode-0 : (b : List ℕ) → length input ≤ most_input → Spells (dense input) b → length b ≤ length out → Decodes input out (acceptance b out)

pub data Encodes (input out : List ℕ) : Call → Type 0 where
  encode-6 : most_input < length input → Encodes input out (refusal 6 out)
  encode-17 : length input ≤ most_input → length out < length (encode input) → Encodes input out (refusal 17 out)
  encode-0 : length input ≤ most_input → length (encode input) ≤ length out → Encodes input out (acceptance (encode input) out)

-- THE CALLS: how each ends, for every input and every buffer
pub decode_call_lem : (input out : List ℕ) → Decodes input out (decode_call input out)
decode_call_lem input out =
    split most_input (length input) (λ h. rw (decode-refused-6 input out h) (decode-6 h)) (λ h. go h (decode input) refl (decode-only input))
  where
    go : length input ≤ most_input → (r : Result ℕ (List ℕ)) → decode input ≡ r → Only 7 r → Decodes input out (decode_call input out)
    go h (bad n) e only = rw (decode-refused-7 input out h e) (decode-7 h (λ b w. bad-good (sym e ∙ (exact input b).1 w)))
    go h (good b) e fine =
        let w = (exact input b).0 e in
        split (length out) (length b) (λ k. rw (decode-refused-17 input out b h e k) (decode-17 b h w k)) (λ k. rw (decode-accepted input out b h e k) (decode-0 b h w k))

pub encode-call : (input out : List ℕ) → Encodes input out (encode_call input out)
encode-call input out =
    split most_input (length input) (λ h. rw (encode-refused-6 input out h) (encode-6 h))
    (λ h. split (length out) (length (encode input)) (λ k. rw (encode-refused-17 input out h k) (encode-17 h k)) (λ k. rw (encode-accepted input out h k) (encode-0 h k)))

-- ---- the same, as answers to three questions of each call

-- the number is one of those in the list
abbrev pub OneOf : List ℕ → ℕ → Type 0
OneOf [] n = ⊥
OneOf (m ∷ ms) n = (n ≡ m) ⊎ OneOf ms n

-- every call answers with one of these numbers; where it is no 0 the call is that refusal and nothing more
pub record Answers (numbers : List ℕ) (out : List ℕ) (c : Call) : Type 0 where
  pub among : OneOf numbers c.answer.number
  pub as-refusal : (c.answer.number ≡ 0 → ⊥) → c ≡ refusal c.answer.number out

-- where it is 0 these bytes stand in the buffer, for which there was room, and then what stood there
pub record Gives (b out : List ℕ) (c : Call) : Type 0 where
  pub in-room : length b ≤ length out
  pub as-acceptance : c ≡ acceptance b out

module _ {input out : List ℕ} where
  decodes-answers : {c : Call} → Decodes input out c → Answers (0 ∷ 6 ∷ 7 ∷ 17 ∷ []) out c
  unfolding refusal acceptance
  decodes-answers (decode-6 h) = record { among = inr (inl refl); as-refusal = λ _. refl }
  decodes-answers (decode-7 h k) = record { among = inr (inr (inl refl)); as-refusal = λ _. refl }
  decodes-answers (decode-17 b h k l) = record { among = inr (inr (inr (inl refl))); as-refusal = λ _. refl }
  decodes-answers (decode-0 b h k l) = record { among = inl refl; as-refusal = λ z. absurd (z refl) }

  decodes-gives : {c : Call} → Decodes input out c → c.answer.number ≡ 0 → (b : List ℕ) × Spells (dense input) b × Gives b out c
  unfolding refusal acceptance
  decodes-gives (decode-6 h) z = absurd (omega arith)
  decodes-gives (decode-7 h k) z = absurd (omega arith)
  decodes-gives (decode-17 b h k l) z = absurd (omega arith)
  decodes-gives (decode-0 b h k l) z = (b, k, record { in-room = l; as-acceptance = refl })

  encodes-answers : {c : Call} → Encodes input out c → Answers (0 ∷ 6 ∷ 17 ∷ []) out c
  unfolding refusal acceptance
  encodes-answers (encode-6 h) = record { among = inr (inl refl); as-refusal = λ _. refl }
  encodes-answers (encode-17 h k) = record { among = inr (inr (inl refl)); as-refusal = λ _. refl }
  encodes-answers (encode-0 h k) = record { among = inl refl; as-refusal = λ z. absurd (z refl) }

  encodes-gives : {c : Call} → Encodes input out c → c.answer.number ≡ 0 → Gives (encode input) out c
  unfolding refusal acceptance
  encodes-gives (encode-6 h) z = absurd (omega arith)
  encodes-gives (encode-17 h k) z = absurd (omega arith)
  encodes-gives (encode-0 h k) z = record { in-room = k; as-acceptance = refl }

pub decode-answers : (input out : List ℕ) → Answers (0 ∷ 6 ∷ 7 ∷ 17 ∷ []) out (decode_call input out)
decode-answers input out = decodes-answers (decode_call_lem input out)

pub decode-gives : (input out : List ℕ) → (decode_call input out).answer.number ≡ 0 → (b : List ℕ) × Spells (dense input) b × Gives b out (decode_call input out)
decode-gives input out z = decodes-gives (decode_call_lem input out) z

pub encode-answers : (input out : List ℕ) → Answers (0 ∷ 6 ∷ 17 ∷ []) out (encode_call input out)
encode-answers input out = encodes-answers (encode-call input out)

pub encode-gives : (input out : List ℕ) → (encode_call input out).answer.number ≡ 0 → Gives (encode input) out (encode_call input out)
encode-gives input out z = encodes-gives (encode-call input out) z
