-- An element is written in characters that a cell may have: an integer in digits, hexadigits, a sign, `x`; a boolean in letters, figures, `?`; a
-- bit in figures. So a text with another character has no elements, of any kind (`elements-text`), and 01's rule on characters need be said of
-- char alone.
use Prim.Native.Nat.{◌*◌, ◌+◌, ◌≤◌, suc, ℕ}
use native.Mathlib.Omega.{arith}
use mathlib.Core.Bool.{Bool, ◌&&◌, ◌||◌, cond, false, true}
use mathlib.Core.List.{List, [], ◌∷◌, map}
use mathlib.Core.Path.{◌≡◌, refl, subst, sym}
use lib.Dec.{eqb, lit≤}
use lib.IntN.{ℤ}
use borrow.Author.Tests.{eqb-true}
use Rattle.number.proofs.Laws.{IsFigure, digit-figure, hexadigit-figure, sized-figures}
use Rattle.number.specs.Number.{decimal, digit, hexadecimal, hexadigit, ranged, read_integer, with_sign}
use Rattle.table.proofs.Bytes.{same-is}
use Rattle.table.proofs.Laws.{all-weaken, and_both, between_is, holds-any, holds_as, holds-bind, holds-cond, holds-weaken, or-either}
use Rattle.table.specs.All.{All}
use Rattle.table.specs.Bytes.{attach, between, bytes, is_white, not_empty, pieces, same, words}
use Rattle.table.specs.Result.{Holds, Result, every, holds, refuses}
use Rattle.table.specs.Shape.{Bits, Shape, Text, Truths, Whole, last}
use Rattle.tabledata.proofs.Characters.{text-yes, white-text}
use Rattle.tabledata.specs.TableData.{all_text, bit_letter, bit_words, fault_number, integer_word, is_text, lower, text_elements, truth_letter, truth_word}

-- where each is good, each has the property
each-has : {A B : Type 0} {P : A → Type 0} (f : A → Result ℕ B) → ((a : A) → Holds (λ (b : B). P a) (f a)) → (l : List A) → Holds (λ (bs : List B). All P l) (every f l)
unfolding every
each-has f h [] = holds tt
each-has f h (a ∷ l) = holds-bind (h a) (λ b k. holds-bind (each-has f h l) (λ bs ks. holds (k, ks)))

all-text : (s : List ℕ) → All (λ (c : ℕ). is_text c ≡ true) s → all_text s ≡ true
unfolding all_text
all-text [] a = refl
all-text (c ∷ s) a = rw a.0 (all-text s a.1)

-- ---- an integer's letters

figures-text : (s : List ℕ) → All IsFigure s → all_text s ≡ true
figures-text s a = all-text s (all-weaken _ _ s (λ b h. text-yes b (omega (arith, h)) (omega (arith, h))) a)

decimal-text : (signed : Bool) (w : ℕ) (negative : Bool) (s : List ℕ) → Holds (λ (z : ℤ). all_text s ≡ true) (decimal signed w negative s)
unfolding decimal
decimal-text signed w negative s =
    holds-bind (sized-figures digit 10 digit-figure 20 s) (λ n k. holds-weaken (holds-any (ranged signed w (with_sign negative n))) (λ _ _. figures-text s k))

-- a first letter that is known is text
known-text : (signed : Bool) (b m : ℕ) (s : List ℕ) → is_text m ≡ true → (signed && eqb b m) ≡ true → all_text s ≡ true → all_text (b ∷ s) ≡ true
unfolding all_text
known-text signed b m s t e h = rw (eqb-true b m (and_both signed (eqb b m) e).1, t, h)

integer-text : (signed : Bool) (w : ℕ) (s : List ℕ) → Holds (λ (z : ℤ). all_text s ≡ true) (read_integer signed w s)
unfolding read_integer hexadecimal
integer-text signed w [] = refuses
integer-text signed w (b ∷ []) = decimal-text signed w false (b ∷ [])
integer-text signed w (b ∷ c ∷ s) =
    holds-cond (eqb b 48 && eqb c 120) (λ e. holds-bind (sized-figures hexadigit 16 hexadigit-figure (2 * w) s) (λ n k.
    holds (known-text true b 48 (c ∷ s) (text-yes 48 (omega arith) (omega arith)) (and_both (eqb b 48) (eqb c 120) e).0
    (known-text (eqb b 48) c 120 s (text-yes 120 (omega arith) (omega arith)) e (figures-text s k))))) (λ _.
    holds-cond (signed && eqb b 45) (λ e.
    holds-weaken (decimal-text signed w true (c ∷ s)) (λ z k. known-text signed b 45 (c ∷ s) (text-yes 45 (omega arith) (omega arith)) e k)) (λ _.
    holds-cond (signed && eqb b 43) (λ e.
    holds-weaken (decimal-text signed w false (c ∷ s)) (λ z k. known-text signed b 43 (c ∷ s) (text-yes 43 (omega arith) (omega arith)) e k)) (λ _.
    decimal-text signed w false (b ∷ c ∷ s))))

-- ---- a text whose words are text is text, since white space is

abbrev TextAll : List (List ℕ) → Type 0
TextAll ws = All (λ (w : List ℕ). all_text w ≡ true) ws

text-pieces : (t : List ℕ) → TextAll (pieces t) → all_text t ≡ true
unfolding pieces attach all_text
text-pieces [] a = refl
text-pieces (c ∷ t) a = go (is_white c) refl (text-pieces t) a
  where
    attached : (ps : List (List ℕ)) → (TextAll ps → all_text t ≡ true) → TextAll (attach c ps) → (is_text c && all_text t) ≡ true
    attached [] ih b = rw (and_both (is_text c) true b.0).0 (ih tt)
    attached (p ∷ ps) ih b = rw (and_both (is_text c) (all_text p) b.0).0 (ih ((and_both (is_text c) (all_text p) b.0).1, b.1))

    go : (x : Bool) → is_white c ≡ x → (TextAll (pieces t) → all_text t ≡ true) → TextAll (cond x ([] ∷ pieces t) (attach c (pieces t))) → (is_text c && all_text t) ≡ true
    go true e ih b = rw (white-text c e) (ih b.1)
    go false e ih b = attached (pieces t) ih b

with-empty : (ws : List (List ℕ)) → TextAll (not_empty ws) → TextAll ws
unfolding not_empty all_text
with-empty [] a = tt
with-empty ([] ∷ ws) a = (refl, with-empty ws a)
with-empty ((b ∷ w) ∷ ws) a = (a.0, with-empty ws a.1)

-- ---- a boolean's letters

one_of_three : (b x y z : ℕ) → (eqb b x || eqb b y || eqb b z) ≡ true → is_text x ≡ true → is_text y ≡ true → is_text z ≡ true → is_text b ≡ true
one_of_three b x y z h p q r =
    or-either (eqb b x || eqb b y) (eqb b z) h
    (λ h. or-either (eqb b x) (eqb b y) h (λ e. rw (eqb-true b x e) p) (λ e. rw (eqb-true b y e) q))
    (λ e. rw (eqb-true b z e) r)

letter-text : (b : ℕ) → Holds (λ (z : ℤ). is_text b ≡ true) (truth_letter b)
unfolding truth_letter is_text between
letter-text b =
    holds-cond (eqb b 84 || eqb b 116 || eqb b 49) (λ e. holds (one_of_three b 84 116 49 e refl refl refl)) (λ _.
    holds-cond (eqb b 70 || eqb b 102 || eqb b 48) (λ e. holds (one_of_three b 70 102 48 e refl refl refl)) (λ _.
    holds-cond (eqb b 63) (λ e. holds (rw (eqb-true b 63 e))) (λ _. refuses)))

abbrev IsSmall : ℕ → Type 0
IsSmall b = (97 ≤ b) × (b ≤ 122)

small-text : (c : ℕ) → IsSmall (lower c) → is_text c ≡ true
unfolding lower
small-text c h = go (between 65 90 c) refl h
  where
    go : (t : Bool) → between 65 90 c ≡ t → IsSmall (cond t (c + 32) c) → is_text c ≡ true
    go true e k = text-yes c (omega (arith, k)) (omega (arith, k))
    go false e k = text-yes c (omega (arith, k)) (omega (arith, k))

smalls-text : (s : List ℕ) → All IsSmall (map lower s) → all_text s ≡ true
unfolding all_text
smalls-text [] a = refl
smalls-text (c ∷ s) a = rw (small-text c a.0) (smalls-text s a.1)

truth-text : (w : List ℕ) → Holds (λ (z : ℤ). all_text w ≡ true) (truth_word w)
unfolding truth_word
truth-text [] = refuses
truth-text (b ∷ []) = holds-weaken (letter-text b) (λ z k. all-text (b ∷ []) (k, tt))
truth-text (b ∷ c ∷ w) =
    holds-cond (same small (bytes "true")) (λ e. holds (spelled (bytes "true") e
    ((lit≤ tt, lit≤ tt), ((lit≤ tt, lit≤ tt), ((lit≤ tt, lit≤ tt), ((lit≤ tt, lit≤ tt), tt)))))) (λ _.
    holds-cond (same small (bytes "false")) (λ e. holds (spelled (bytes "false") e
    ((lit≤ tt, lit≤ tt), ((lit≤ tt, lit≤ tt), ((lit≤ tt, lit≤ tt), ((lit≤ tt, lit≤ tt), ((lit≤ tt, lit≤ tt), tt))))))) (λ _. refuses))
  where
    small : List ℕ
    small = map lower (b ∷ c ∷ w)

    spelled : (v : List ℕ) → same small v ≡ true → All IsSmall v → all_text (b ∷ c ∷ w) ≡ true
    spelled v e a = smalls-text (b ∷ c ∷ w) (subst (All IsSmall) (sym (same-is small v e)) a)

-- ---- the elements of a text

bit-text : (c : ℕ) → Holds (λ (z : ℤ). is_text c ≡ true) (bit_letter c)
unfolding bit_letter
bit-text c = holds-cond (between 48 49 c) (λ e. holds (text-yes c (omega (arith, between_is 48 49 c e)) (omega (arith, between_is 48 49 c e)))) (λ _. refuses)

bits-text : (ws : List (List ℕ)) → Holds (λ (es : List ℤ). TextAll ws) (bit_words ws)
unfolding bit_words
bits-text [] = holds tt
bits-text (w ∷ []) = holds-weaken (each-has bit_letter bit-text w) (λ es a. (all-text w a, tt))
bits-text (w ∷ v ∷ ws) = refuses

words-text : (cs : List ℕ) → TextAll (words cs) → all_text cs ≡ true
unfolding words
words-text cs a = text-pieces cs (with-empty (pieces cs) a)

pub elements-text : (k : Shape) (cs : List ℕ) → Holds (λ (es : List ℤ). all_text cs ≡ true) (text_elements k cs)
unfolding text_elements integer_word
elements-text Truths cs = holds-weaken (each-has truth_word truth-text (words cs)) (λ es a. words-text cs a)
elements-text Bits cs = holds-weaken (bits-text (words cs)) (λ es a. words-text cs a)
elements-text (Whole g v) cs =
    holds-weaken (each-has (integer_word g (suc (last v))) (λ w. holds_as fault_number (integer-text g (suc (last v)) w)) (words cs)) (λ es a. words-text cs a)
elements-text Text cs = holds-cond (all_text cs) (λ e. holds e) (λ _. refuses)
