-- Laws of TABLEDATA cells: a cell that is written is read back; a cell takes at least a byte; what is read fits its column and has a text;
-- what is written is the form, where there is one.
use Prim.Native.Nat.{◌-◌, ◌<◌, ◌≤◌, suc, zero, ℕ}
use native.Mathlib.Omega.{arith}
use mathlib.Core.Bool.{Bool, ◌&&◌, ◌||◌, cond, false, false≢true, or-true, true}
use mathlib.Core.List.{List, [], ◌++◌, ◌∷◌, append_assoc, map}
use mathlib.Core.Path.{◌∙◌, ◌≡◌, ap, refl}
use lib.Dec.{eqb, leb, lit≤}
use lib.IntN.{negsuc, pos, ℤ}
use lib.ListN.{length}
use borrow.Author.Tests.{eqb-true, le-leb, le-ltb, leb-true, lt-ltb, ltb-true, ne_eqb}
use Rattle.number.proofs.Laws.{IsDigit, digits_are, digits-some, integer-is, read-shortest}
use Rattle.number.specs.Number.{Fault, Outside, Unwritten, digits, hexadigit, numeral, read_integer, shortest, sized}
use Rattle.table.proofs.Laws.{IsWord, Numbered, after-fails, after-le, all_append, all_map, all-weaken, and_both, bad-good, between_is, cond_cases, every_back}
use Rattle.table.proofs.Laws.{fails-always, fails-bind, fails-cond, fails-else, fails-every, good-bind, holds-any, holds_as, holds_at, holds-bind, holds-cond}
use Rattle.table.proofs.Laws.{holds-else, holds-every, holds-weaken, last-le, nil-not-null, no-white, not-empty, or-either, pieces-space, pieces-word, skip-le}
use Rattle.table.proofs.Laws.{tag-fails, tag-le}
use Rattle.table.specs.All.{All}
use Rattle.table.specs.Bytes.{after, between, byte, bytes, ends, is_white, not_empty, pieces, same, skip_white, tag, words}
use Rattle.table.specs.Cell.{Cell, Fits, below, bound, empty_is_null, fits-null, fits-shown, is_element, is_null_list, null, room_fits, room_in, show, shown, stands_for_null, truth_byte}
use Rattle.table.specs.Clauses.{form_bytes}
use Rattle.table.specs.Outcome.{most_number}
use Rattle.table.specs.Result.{Fails, Holds, IsGood, Result, bad, every, fails, gives, good, holds, refuses}
use Rattle.table.specs.Shape.{Bits, Shape, Text, Truths, Whole, Width, last, shape}
use Rattle.table.specs.declared.Column.{Column}
use Rattle.tabledata.specs.TableData.{Step, Where, all_text, bit_letter, bit_text, bit_words, broken, cell_text, characters, close-TD, cons_text, count_fits}
use Rattle.tabledata.specs.TableData.{element_bytes, element_text, emit, emitted, escaped, expanded, follow, form_of, forms, goes, integer_word, is_text, joined}
use Rattle.tabledata.specs.TableData.{lower, named, names, numeric, open-TD, plain, read_text, spaced, step, tag_begins, tagged, text_bytes, text_cell, text_elements}
use Rattle.tabledata.specs.TableData.{fault_number, truth_letter, truth_text, truth_word, write_text}

-- ---- words

pub words-spaced : (ws : List (List ℕ)) → All IsWord ws → words (spaced ws) ≡ ws
unfolding words spaced pieces not_empty
words-spaced [] a = refl
words-spaced (w ∷ []) a = rw (pieces-word w a.0.1) (not-empty w [] a.0.0)
words-spaced (w ∷ v ∷ ws) a =
    rw (pieces-space w (spaced (v ∷ ws)) a.0.1, not-empty w (pieces (spaced (v ∷ ws))) a.0.0)
    (ap (λ (t : List (List ℕ)). w ∷ t) (words-spaced (v ∷ ws) a.1))

-- ---- characters that stand for themselves

pub record Plain (b : ℕ) : Type 0 where
  pub itself : (s : List ℕ) → step plain b s ≡ emit b

plain_of : (b : ℕ) → 32 ≤ b → (b ≡ 60 → ⊥) → (b ≡ 38 → ⊥) → Plain b
unfolding step
plain_of b h x y = record { itself = λ s. rw (ne_eqb b 60 x, ne_eqb b 38 y, ne_eqb b 13 (λ e. omega arith)) }

-- the end tag, and what follows it
abbrev closed : List ℕ → List ℕ
closed rest = close-TD ++ (bytes ">" ++ rest)

closed-read : (rest : List ℕ) → characters plain (closed rest) ≡ good ([], rest)
unfolding characters step follow tag ends after skip_white is_white close-TD
closed-read rest = refl

pub plain-read : (s rest : List ℕ) → All Plain s → characters plain (s ++ closed rest) ≡ good (s, rest)
unfolding characters follow cons_text
plain-read [] rest a = closed-read rest
plain-read (b ∷ s) rest a = rw (a.0.itself (s ++ closed rest), plain-read s rest a.1)

-- ---- the words of elements

-- a word of characters that stand for themselves
abbrev pub PlainWord : List ℕ → Type 0
PlainWord w = IsWord w × All Plain w

pub plain-digit : (b : ℕ) → IsDigit b → Plain b
plain-digit b h = plain_of b (omega arith) (λ e. omega arith) (λ e. omega arith)

digits-word : (n : ℕ) → PlainWord (digits 20 n)
digits-word n = (
  (digits-some 19 n, all-weaken _ _ (digits 20 n) (λ b h. no-white b (omega arith)) (digits_are 20 n).0),
  all-weaken _ _ (digits 20 n) plain-digit (digits_are 20 n).0,
)

pub shortest-word : (z : ℤ) → PlainWord (shortest z)
unfolding shortest
shortest-word (pos n) = digits-word n
shortest-word (negsuc n) = (
  (omega arith, (no-white 45 (lit≤ tt), (digits-word (suc n)).0.1)),
  (plain_of 45 (lit≤ tt) (λ e. omega arith) (λ e. omega arith), (digits-word (suc n)).1),
)

letter-word : (b : ℕ) → 33 ≤ b → (b ≡ 60 → ⊥) → (b ≡ 38 → ⊥) → PlainWord (b ∷ [])
letter-word b h x y = ((lit≤ tt, (no-white b h, tt)), (plain_of b (omega arith) x y, tt))

pub truth-word : (z : ℤ) → PlainWord (truth_text z)
unfolding truth_text truth_byte
truth-word (pos zero) = letter-word 70 (lit≤ tt) (λ e. omega arith) (λ e. omega arith)
truth-word (pos (suc zero)) = letter-word 84 (lit≤ tt) (λ e. omega arith) (λ e. omega arith)
truth-word (pos (suc (suc n))) = letter-word 63 (lit≤ tt) (λ e. omega arith) (λ e. omega arith)
truth-word (negsuc n) = letter-word 63 (lit≤ tt) (λ e. omega arith) (λ e. omega arith)

pub spaced-plain : (ws : List (List ℕ)) → All PlainWord ws → All Plain (spaced ws)
unfolding spaced
spaced-plain [] a = tt
spaced-plain (w ∷ []) a = a.0.1
spaced-plain (w ∷ v ∷ ws) a =
    all_append Plain w (32 ∷ spaced (v ∷ ws)) a.0.1
    (plain_of 32 (lit≤ tt) (λ e. omega arith) (λ e. omega arith), spaced-plain (v ∷ ws) a.1)

-- ---- a cell's text

-- the text is read as characters that give the elements
pub record Says (k : Shape) (es : List ℤ) (t : List ℕ) : Type 0 where
  pub raw : List ℕ
  pub read : (rest : List ℕ) → characters plain (t ++ closed rest) ≡ good (raw, rest)
  pub elements : text_elements k raw ≡ good es

says : (k : Shape) (es : List ℤ) (t : List ℕ) → All Plain t → text_elements k t ≡ good es → Says k es t
says k es t a e = record { raw = t; read = λ rest. plain-read t rest a; elements = e }

truth-read : (e : ℤ) → is_element Truths e ≡ true → truth_word (truth_text e) ≡ good e
unfolding truth_word truth_letter truth_text truth_byte is_element below
truth-read (pos zero) h = refl
truth-read (pos (suc zero)) h = refl
truth-read (pos (suc (suc zero))) h = refl
truth-read (pos (suc (suc (suc n)))) h = absurd (omega (arith, ltb-true (suc (suc (suc n))) 3 h))
truth-read (negsuc n) h = absurd (false≢true h)

integer-read : (g : Bool) (v : Width) (e : ℤ) → is_element (Whole g v) e ≡ true → integer_word g (suc (last v)) (shortest e) ≡ good e
unfolding integer_word is_element
integer-read g v e h = rw (read-shortest g (last v) e (last-le v) h)

bit-read : (e : ℤ) → is_element Bits e ≡ true → bit_letter (bit_text e) ≡ good e
unfolding bit_letter bit_text is_element below between
bit-read (pos zero) h = refl
bit-read (pos (suc zero)) h = refl
bit-read (pos (suc (suc n))) h = absurd (omega (arith, ltb-true (suc (suc n)) 2 h))
bit-read (negsuc n) h = absurd (false≢true h)

pub bit_is : (e : ℤ) → IsDigit (bit_text e)
unfolding bit_text
bit_is (pos zero) = (lit≤ tt, lit≤ tt)
bit_is (pos (suc zero)) = (lit≤ tt, lit≤ tt)
bit_is (pos (suc (suc n))) = (lit≤ tt, lit≤ tt)
bit_is (negsuc n) = (lit≤ tt, lit≤ tt)

spaced-says : (k : Shape) (f : List ℕ → Result ℕ ℤ) (g : ℤ → List ℕ) (es : List ℤ) → ((z : ℤ) → PlainWord (g z))
    → ((s : List ℕ) → text_elements k s ≡ every f (words s)) → ((e : ℤ) → is_element k e ≡ true → f (g e) ≡ good e)
    → All (λ (e : ℤ). is_element k e ≡ true) es → Says k es (spaced (map g es))
spaced-says k f g es p q r a =
    says k es (spaced (map g es)) (spaced-plain (map g es) (all_map PlainWord g p es))
    (q (spaced (map g es)) ∙ ap (every f) (words-spaced (map g es) (all_map IsWord g (λ z. (p z).0) es)) ∙ every_back f g es (all-weaken _ _ es r a))

bits-says : (e : ℤ) (es : List ℤ) → All (λ (e : ℤ). is_element Bits e ≡ true) (e ∷ es) → Says Bits (e ∷ es) (map bit_text (e ∷ es))
unfolding text_elements words bit_words not_empty
bits-says e es a =
    let d : All IsDigit (map bit_text (e ∷ es)) = all_map IsDigit bit_text bit_is (e ∷ es) in
    says Bits (e ∷ es) (map bit_text (e ∷ es)) (all-weaken _ _ (map bit_text (e ∷ es)) plain-digit d)
    (rw (pieces-word (map bit_text (e ∷ es)) (all-weaken _ _ (map bit_text (e ∷ es)) (λ b h. no-white b (omega arith)) d))
    (every_back bit_letter bit_text (e ∷ es) (all-weaken _ _ (e ∷ es) bit-read a)))

-- ---- char

escape-read : (c : ℕ) (t : List ℕ) → characters plain (escaped c ++ t) ≡ cons_text c (characters plain t)
unfolding escaped characters step follow emitted expanded numeric named names same sized numeral hexadigit between after
escape-read c t =
    cond_cases P (eqb c 38) _ _ (λ e. rw (eqb-true c 38 e)) (λ amp.
    cond_cases P (eqb c 60) _ _ (λ e. rw (eqb-true c 60 e)) (λ lt.
    cond_cases P (eqb c 62) _ _ (λ e. rw (eqb-true c 62 e)) (λ _.
    cond_cases P (eqb c 13) _ _ (λ e. rw (eqb-true c 13 e)) (λ return. rw (lt, amp, return)))))
  where
    P : List ℕ → Type 0
    P s = characters plain (s ++ t) ≡ cons_text c (characters plain t)

-- a character more before characters that are elements as they stand
char-first : (c : ℕ) (cs : List ℕ) (es : List ℤ) → is_text c ≡ true → text_elements Text cs ≡ good es → text_elements Text (c ∷ cs) ≡ good (pos c ∷ es)
unfolding text_elements all_text
char-first c cs es t e = rw t (go (all_text cs) e)
  where
    go : (b : Bool) → cond {A = Result ℕ (List ℤ)} b (good (map pos cs)) (bad 11) ≡ good es → cond {A = Result ℕ (List ℤ)} b (good (pos c ∷ map pos cs)) (bad 11) ≡ good (pos c ∷ es)
    go true e = cc e
    go false e = absurd (bad-good e)

chars-say : (es : List ℤ) → All (λ (e : ℤ). is_element Text e ≡ true) es → Holds (Says Text es) (forms es)
unfolding forms form_of cons_text skip_white
chars-say [] a = holds (record { raw = []; read = closed-read; elements = unfold text_elements all_text in refl })
chars-say (pos c ∷ es) a =
    let f : Holds {E = ℕ} (λ (b : List ℕ). (b ≡ escaped c) × (is_text c ≡ true)) (cond (is_text c) (good (escaped c)) (bad 16))
    = holds-cond (is_text c) (λ t. holds (refl, t)) (λ _. refuses) in
    holds-bind f (λ b hb. holds-bind (chars-say es a.1) (λ r h. holds (add b r hb.0 hb.1 h)))
  where
    add : (b r : List ℕ) → b ≡ escaped c → is_text c ≡ true → Says Text es r → Says Text (pos c ∷ es) (b ++ r)
    add b r q t h = record {
      raw = c ∷ h.raw;
      read = λ rest. rw (append_assoc, q, escape-read c (r ++ closed rest), h.read rest);
      elements = char-first c h.raw es t h.elements;
    }
chars-say (negsuc c ∷ es) a = refuses

pub text-back : (k : Shape) (e : ℤ) (es : List ℤ) → All (λ (e : ℤ). is_element k e ≡ true) (e ∷ es) → Holds (Says k (e ∷ es)) (element_text k (e ∷ es))
unfolding element_bytes element_text text_elements is_element
text-back Truths e es a = holds (spaced-says Truths truth_word truth_text (e ∷ es) truth-word (λ s. refl) truth-read a)
text-back Bits e es a = holds (bits-says e es a)
text-back (Whole g v) e es a = holds (spaced-says (Whole g v) (integer_word g (suc (last v))) shortest (e ∷ es) shortest-word (λ s. refl) (integer-read g v) a)
text-back Text e es a = chars-say (e ∷ es) a

-- ---- a cell

pub nil-elements : (k : Shape) → text_elements k [] ≡ good []
unfolding text_elements words pieces not_empty every bit_words all_text
nil-elements Truths = refl
nil-elements Bits = refl
nil-elements (Whole g v) = refl
nil-elements Text = refl

pub text-cell-back : (c : Column) (x : Cell) → Fits c x → Holds (λ (b : List ℕ). (rest : List ℕ) → read_text c (b ++ rest) ≡ good (x, rest)) (write_text c x)
unfolding write_text read_text cell_text after ends skip_white is_white open-TD close-TD tagged text_cell count_fits show empty_is_null
text-cell-back c null f = holds {a = bytes "<TD/>"} (λ rest. rw (nil-elements, nil-not-null))
text-cell-back c (shown []) f = refuses
text-cell-back c (shown (e ∷ es)) (fits-shown x n) =
    holds-bind (text-back (shape c.kind) e es x.each) (λ t h.
    holds (λ rest. rw (append_assoc, h.read rest, h.elements, x.room, le-leb (suc (length es)) (bound c.len) x.few, n, or-true)))

-- ---- a cell takes at least a byte

abbrev AtMost : ℕ → Result ℕ (List ℕ × List ℕ) → Type 0
AtMost n r = Holds (λ (p : List ℕ × List ℕ). length p.1 ≤ n) r

follow-le : (x : Step) (b : ℕ) (s : List ℕ) (more : Where → Result ℕ (List ℕ × List ℕ)) → ((v : Where) → AtMost (length s) (more v)) → AtMost (suc (length s)) (follow x (b ∷ s) more)
unfolding follow cons_text
follow-le (emit c) b s more h = holds-bind (h plain) (λ p g. holds (omega arith))
follow-le (goes w) b s more h = holds-weaken (h w) (λ p g. omega arith)
follow-le tag_begins b s more h = holds-bind (tag-le 10 close-TD (b ∷ s)) (λ t g. holds g)
follow-le broken b s more h = refuses

characters-le : (w : Where) (s : List ℕ) → AtMost (length s) (characters w s)
unfolding characters
characters-le w [] = refuses
characters-le w (b ∷ s) = follow-le (step w b s) b s (λ v. characters v s) (λ v. characters-le v s)

cell-less : (s : List ℕ) → Holds (λ (p : List ℕ × List ℕ). length p.1 < length s) (cell_text s)
unfolding cell_text open-TD ends
cell-less s =
    holds-bind (after-le 10 (bytes "<TD") (skip_white s)) (λ t h.
    holds-else
    (holds-bind (after-le 10 (bytes "/>") (skip_white t)) (λ r g. holds (omega (arith, skip-le s, skip-le t))))
    (holds-bind (after-le 10 (bytes ">") (skip_white t)) (λ u g. holds-weaken (characters-le plain u) (λ p k. omega (arith, skip-le s, skip-le t)))))

pub text-less : (c : Column) (s : List ℕ) → Holds (λ (p : Cell × List ℕ). length p.1 < length s) (read_text c s)
unfolding read_text
text-less c s = holds-bind (cell-less s) (λ p h. holds-bind (holds-any (text_cell c p.0)) (λ x _. holds h))

-- ---- elements

truth-is : (w : List ℕ) → Holds (λ (e : ℤ). is_element Truths e ≡ true) (truth_word w)
unfolding truth_word truth_letter is_element below
truth-is [] = refuses
truth-is (b ∷ []) =
    holds-cond (eqb b 84 || eqb b 116 || eqb b 49) (λ _. holds refl) (λ _.
    holds-cond (eqb b 70 || eqb b 102 || eqb b 48) (λ _. holds refl) (λ _.
    holds-cond (eqb b 63) (λ _. holds refl) (λ _. refuses)))
truth-is (b ∷ c ∷ w) =
    holds-cond (same (map lower (b ∷ c ∷ w)) (116 ∷ 114 ∷ 117 ∷ 101 ∷ [])) (λ _. holds refl) (λ _.
    holds-cond (same (map lower (b ∷ c ∷ w)) (102 ∷ 97 ∷ 108 ∷ 115 ∷ 101 ∷ [])) (λ _. holds refl) (λ _. refuses))

word-is : (g : Bool) (v : Width) (w : List ℕ) → Holds (λ (e : ℤ). is_element (Whole g v) e ≡ true) (integer_word g (suc (last v)) w)
unfolding integer_word is_element
word-is g v w = holds_as fault_number (integer-is g (last v) w)

letter-is : (b : ℕ) → Holds (λ (e : ℤ). is_element Bits e ≡ true) (bit_letter b)
unfolding bit_letter is_element below
letter-is b = holds-cond (between 48 49 b) (λ e. holds (lt-ltb (b - 48) 2 (omega (arith, between_is 48 49 b e)))) (λ _. refuses)

-- an element that has a text
unfoldable pub has_text : Shape → ℤ → Bool
has_text Truths e = true
has_text Bits e = true
has_text (Whole g v) e = true
has_text Text (pos c) = is_text c
has_text Text (negsuc c) = false

abbrev TextElement : Shape → ℤ → Type 0
TextElement k e = (is_element k e ≡ true) × (has_text k e ≡ true)

pub text-lt : (c : ℕ) → is_text c ≡ true → (1 ≤ c) × (c < 128)
unfolding is_text
text-lt c h =
    or-either (eqb c 9 || eqb c 10 || eqb c 13) (between 32 127 c) h
    (λ h. or-either (eqb c 9 || eqb c 10) (eqb c 13) h
    (λ h. or-either (eqb c 9) (eqb c 10) h (λ e. omega (arith, eqb-true c 9 e)) (λ e. omega (arith, eqb-true c 10 e)))
    (λ e. omega (arith, eqb-true c 13 e)))
    (λ e. omega (arith, between_is 32 127 c e))

chars-are : (cs : List ℕ) → all_text cs ≡ true → All (TextElement Text) (map pos cs)
unfolding all_text has_text is_element below
chars-are [] h = tt
chars-are (c ∷ cs) h =
    let b : (is_text c ≡ true) × (all_text cs ≡ true) = and_both (is_text c) (all_text cs) h in
    let l : (1 ≤ c) × (c < 128) = text-lt c b.0 in
    ((rw (lt-ltb c 128 l.1, le-ltb c 1 l.0), b.0), chars-are cs b.1)

words_are : (ws : List (List ℕ)) → Holds (All (λ (e : ℤ). is_element Bits e ≡ true)) (bit_words ws)
unfolding bit_words
words_are [] = holds tt
words_are (w ∷ []) = holds-every bit_letter letter-is w
words_are (w ∷ v ∷ ws) = refuses

elements-are : (k : Shape) (cs : List ℕ) → Holds (All (TextElement k)) (text_elements k cs)
unfolding text_elements has_text is_element
elements-are Truths cs = holds-every truth_word (λ w. holds-weaken (truth-is w) (λ e h. (h, refl))) (words cs)
elements-are Bits cs = holds-weaken (words_are (words cs)) (λ es a. all-weaken _ _ es (λ e h. (h, refl)) a)
elements-are (Whole g v) cs = holds-every (integer_word g (suc (last v))) (λ w. holds-weaken (word-is g v w) (λ e h. (h, refl))) (words cs)
elements-are Text cs = holds-cond (all_text cs) (λ t. holds (chars-are cs t)) (λ _. refuses)

-- ---- a cell that a text shows has a text again

forms-good : (es : List ℤ) → All (TextElement Text) es → IsGood (forms es)
unfolding forms form_of has_text
forms-good [] a = tt
forms-good (pos c ∷ es) a = rw a.0.1 (good-bind (forms es) _ (forms-good es a.1) (λ r. tt))
forms-good (negsuc c ∷ es) a = absurd (false≢true a.0.1)

text-good : (k : Shape) (es : List ℤ) → All (TextElement k) es → IsGood (element_text k es)
unfolding element_text
text-good Truths es a = tt
text-good Bits es a = tt
text-good (Whole g v) es a = tt
text-good Text es a = forms-good es a

pub record TextFits (c : Column) (x : Cell) : Type 0 where
  pub fits : Fits c x
  pub writes : IsGood (write_text c x)

null-fits : (c : Column) → TextFits c null
unfolding write_text
null-fits c = record { fits = fits-null; writes = tt }

cell-fits : (c : Column) (es : List ℤ) → All (TextElement (shape c.kind)) es → count_fits c (length es) ≡ true → TextFits c (empty_is_null (show c es))
unfolding show empty_is_null count_fits write_text
cell-fits c [] a h = rw nil-not-null (null-fits c)
cell-fits c (e ∷ es) a h =
    or-either (eqb (suc (length es)) 0) (room_fits (shape c.kind) (room_in c.len (suc (length es))) (suc (length es)) && leb (suc (length es)) (bound c.len)) h
    (λ z. absurd (omega (arith, eqb-true (suc (length es)) 0 z)))
    (λ z. let b : (room_fits (shape c.kind) (room_in c.len (suc (length es))) (suc (length es)) ≡ true) × (leb (suc (length es)) (bound c.len) ≡ true) = and_both _ _ z in
    cond_cases (λ (x : Cell). TextFits c (empty_is_null x)) (is_null_list (stands_for_null c) (e ∷ es)) null (shown (e ∷ es))
    (λ _. null-fits c)
    (λ f. record {
      fits = fits-shown (record { each = all-weaken _ _ (e ∷ es) (λ e h. h.0) a; room = b.0; few = leb-true _ _ b.1 }) f;
      writes = good-bind (element_text (shape c.kind) (e ∷ es)) _ (text-good (shape c.kind) (e ∷ es) a) (λ t. tt);
    }))

pub text-fits : (c : Column) (s : List ℕ) → Holds (λ (p : Cell × List ℕ). TextFits c p.0) (read_text c s)
unfolding read_text text_cell
text-fits c s =
    holds-bind (holds-any (cell_text s)) (λ p _.
    holds-bind (holds-bind (elements-are (shape c.kind) p.0)
    (λ es a. holds-cond (count_fits c (length es)) (λ e. holds (cell-fits c es a e)) (λ _. refuses)))
    (λ x h. holds h))

-- ---- the numbers of its refusals

-- what is no text is 10
module _ {P : ℕ → Type 0} (ten : P 10) where
  follow-fails : (x : Step) (s : List ℕ) (more : Where → Result ℕ (List ℕ × List ℕ)) → ((v : Where) → Fails P (more v)) → Fails P (follow x s more)
  unfolding follow cons_text
  follow-fails (emit c) s more h = fails-bind (h plain) (λ p. gives)
  follow-fails (goes w) s more h = h w
  follow-fails tag_begins s more h = fails-bind (tag-fails 10 close-TD s ten) (λ t. gives)
  follow-fails broken s more h = fails ten

  characters-fails : (w : Where) (s : List ℕ) → Fails P (characters w s)
  unfolding characters
  characters-fails w [] = fails ten
  characters-fails w (b ∷ s) = follow-fails (step w b s) (b ∷ s) (λ v. characters v s) (λ v. characters-fails v s)

  pub cell-fails : (s : List ℕ) → Fails P (cell_text s)
  unfolding cell_text ends
  cell-fails s =
      fails-bind (after-fails 10 open-TD (skip_white s) ten) (λ t.
      fails-else (fails-bind (after-fails 10 (bytes "/>") (skip_white t) ten) (λ r. gives))
      (fails-bind (after-fails 10 (bytes ">") (skip_white t) ten) (λ u. characters-fails plain u)))

-- what is said of integers alone
abbrev pub OfIntegers : Shape → Type 0 → Type 0
OfIntegers Truths X = Unit {0}
OfIntegers Bits X = Unit {0}
OfIntegers (Whole g v) X = X
OfIntegers Text X = Unit {0}

pub of-integers : {X : Type 0} (k : Shape) → X → OfIntegers k X
of-integers Truths x = tt
of-integers Bits x = tt
of-integers (Whole g v) x = x
of-integers Text x = tt

-- what is no element is 11, or 18 of integers
module _ {P : ℕ → Type 0} (eleven : P 11) where
  truth-fails : (w : List ℕ) → Fails P (truth_word w)
  unfolding truth_word truth_letter
  truth-fails [] = fails eleven
  truth-fails (b ∷ []) =
      fails-cond (eqb b (byte "T") || eqb b (byte "t") || eqb b (byte "1")) gives
      (fails-cond (eqb b (byte "F") || eqb b (byte "f") || eqb b (byte "0")) gives
      (fails-cond (eqb b (byte "?")) gives (fails eleven)))
  truth-fails (b ∷ c ∷ w) =
      fails-cond (same (map lower (b ∷ c ∷ w)) (bytes "true")) gives
      (fails-cond (same (map lower (b ∷ c ∷ w)) (bytes "false")) gives (fails eleven))

  bits-fails : (ws : List (List ℕ)) → Fails P (bit_words ws)
  unfolding bit_words bit_letter
  bits-fails [] = gives
  bits-fails (w ∷ []) = fails-every bit_letter (λ b. fails-cond (between (byte "0") (byte "1") b) gives (fails eleven)) w
  bits-fails (w ∷ v ∷ ws) = fails eleven

  integers-fails : P 18 → (g : Bool) (w : ℕ) (ws : List (List ℕ)) → Fails P (every (integer_word g w) ws)
  unfolding integer_word fault_number
  integers-fails eighteen g w ws = fails-every (integer_word g w) (λ s. fails-always fault_number (read_integer g w s) number) ws
    where
      number : (f : Fault) → P (fault_number f)
      number Unwritten = eleven
      number Outside = eighteen

  pub elements-fails : (k : Shape) (cs : List ℕ) → OfIntegers k (P 18) → Fails P (text_elements k cs)
  unfolding text_elements
  elements-fails Truths cs e = fails-every truth_word truth-fails (words cs)
  elements-fails Bits cs e = bits-fails (words cs)
  elements-fails (Whole g v) cs e = integers-fails e g (suc (last v)) (words cs)
  elements-fails Text cs e = fails-cond (all_text cs) gives (fails eleven)

pub text-fails : (c : Column) (s : List ℕ) → Fails (Numbered 8 most_number) (read_text c s)
unfolding read_text text_cell
text-fails c s =
    fails-bind (cell-fails (lit≤ tt, lit≤ tt) s) (λ p.
    fails-bind (fails-bind (elements-fails (lit≤ tt, lit≤ tt) (shape c.kind) p.0 (of-integers (shape c.kind) (lit≤ tt, lit≤ tt)))
    (λ es. fails-cond (count_fits c (length es)) gives (fails (lit≤ tt, lit≤ tt)))) (λ x. gives))

-- a character without a form is 16
module _ {P : ℕ → Type 0} (sixteen : P 16) where
  form-fails : (e : ℤ) → Fails P (form_of e)
  unfolding form_of
  form-fails (pos c) = fails-cond (is_text c) gives (fails sixteen)
  form-fails (negsuc c) = fails sixteen

  forms-fails : (es : List ℤ) → Fails P (forms es)
  unfolding forms
  forms-fails [] = gives
  forms-fails (e ∷ es) = fails-bind (form-fails e) (λ b. fails-bind (forms-fails es) (λ r. gives))

  pub element-text-fails : (k : Shape) (es : List ℤ) → Fails P (element_text k es)
  unfolding element_text
  element-text-fails Truths es = gives
  element-text-fails Bits es = gives
  element-text-fails (Whole g v) es = gives
  element-text-fails Text es = forms-fails es

pub write-text-fails : (c : Column) (x : Cell) → Fails (Numbered 14 16) (write_text c x)
unfolding write_text
write-text-fails c null = gives
write-text-fails c (shown []) = fails (lit≤ tt, lit≤ tt)
write-text-fails c (shown (e ∷ es)) = fails-bind (element-text-fails (lit≤ tt, lit≤ tt) (shape c.kind) (e ∷ es)) (λ t. gives)

-- ---- what is written is the form, where there is one

bytes-form : (r : Result ℕ (List ℕ)) → Holds (λ (b : List ℕ). form_bytes r ≡ b) r
bytes-form (good b) = holds refl
bytes-form (bad n) = refuses

bytes-forms : (es : List ℤ) → Holds (λ (b : List ℕ). joined (λ e. form_bytes (form_of e)) es ≡ b) (forms es)
unfolding forms joined
bytes-forms [] = holds refl
bytes-forms (e ∷ es) = holds-bind (bytes-form (form_of e)) (λ b h. holds-bind (bytes-forms es) (λ r i. holds (rw (h, i))))

bytes-elements : (k : Shape) (es : List ℤ) → Holds (λ (b : List ℕ). element_bytes k es ≡ b) (element_text k es)
unfolding element_bytes element_text
bytes-elements Truths es = holds refl
bytes-elements Bits es = holds refl
bytes-elements (Whole g v) es = holds refl
bytes-elements Text es = bytes-forms es

bytes-cell : (c : Column) (x : Cell) → Holds (λ (b : List ℕ). text_bytes c x ≡ b) (write_text c x)
unfolding text_bytes write_text
bytes-cell c null = holds refl
bytes-cell c (shown []) = refuses
bytes-cell c (shown (e ∷ es)) = holds-bind (bytes-elements (shape c.kind) (e ∷ es)) (λ t h. holds (ap tagged h))

pub text-bytes : (c : Column) (x : Cell) (b : List ℕ) → write_text c x ≡ good b → text_bytes c x ≡ b
text-bytes c x b e = holds_at (bytes-cell c x) e
