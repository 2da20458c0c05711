-- A bit cell: one word of bits with white space around it. `BitsAt w u ..` says that of what was passed over, w, the word so far is u, and
-- whether it is closed by white space.
use Prim.Native.Nat.{◌+◌, ◌-◌, ◌≤◌, ℕ}
use native.Mathlib.Omega.{arith}
use mathlib.Core.Bool.{Bool, cond, false, false≢true, true}
use mathlib.Core.List.{List, [], ◌++◌, ◌∷◌, append_assoc, append-nil}
use mathlib.Core.Path.{◌∙◌, ◌≡◌, ap, refl, sym}
use lib.Dec.{ltb}
use lib.IntN.{pos, ℤ}
use lib.ListN.{drop, length, length-append, set}
use borrow.Author.Tests.{le-ltb, lt-ltb}
use Rattle.table.proofs.Bytes.{between-no}
use Rattle.table.proofs.Laws.{NoWhite, bad-good, between_is, no-white, not-empty}
use Rattle.table.proofs.Words.{no-white-more, words-cut, words_last, words-none, words-white}
use Rattle.table.specs.Bytes.{attach, between, is_white, not_empty, pieces, words}
use Rattle.table.specs.Result.{Result, bad, every, good}
use Rattle.table.specs.Shape.{Bits}
use Rattle.tabledata.specs.TableData.{bit_letter, bit_words, text_elements}
use Rattle.element_reading.proofs.Words.{every_append}
use Rattle.element_reading.proofs.Passing.{passed-code, passed_then}
use Rattle.element_reading.proofs.elements.Laws.{ReadTo, read_more, read-spoilt}
use Rattle.character_reading.specs.Characters.{ItemIs, characters_of, spoiled_number}
use Rattle.element_reading.specs.Elements.{BitIs, TakesElements, bit_as, elements_from}
use Rattle.character_reading.specs.declared.characters.Item.TheVariants.{Code}
use Rattle.std.specs.Prelude.{Err, None, Ok, Some}
use Rattle.table.specs.Reasons.{number_of}
use Rattle.table.specs.declared.Reason.{Reason}
use Rattle.character_reading.specs.declared.characters.Source.{Source}

bit-none : (c : ℕ) → (c ≡ 48 → ⊥) → (c ≡ 49 → ⊥) → bit_as None ≡ bit_letter c
unfolding bit_letter
bit-none c x y = rw (between-no 48 49 c (λ h k. y (omega arith)))

pub none-of : (closed : Bool) (c : ℕ) → (c ≡ 48 → ⊥) → (c ≡ 49 → ⊥) → BitIs closed c None
none-of true c x y = refl
none-of false c x y = bit-none c x y

pub record BitsAt (w u : List ℕ) (es : List ℤ) (closed : Bool) (n : ℕ) : Type 0 where
  pub shape_is : (v : List ℕ) → words (w ++ v) ≡ cond closed (u ∷ words v) (words (u ++ v))
  pub word : NoWhite u
  pub elements : every bit_letter u ≡ good es
  pub some : closed ≡ true → 1 ≤ length u
  pub count : length u ≡ n

pub bits-start : BitsAt [] [] [] false 0
unfolding every
bits-start = record { shape_is = λ v. refl; word = tt; elements = refl; some = λ e. absurd (false≢true e); count = refl }

words-closed : (b : ℕ) (u : List ℕ) (c : ℕ) (v : List ℕ) → NoWhite (b ∷ u) → is_white c ≡ true → words (b ∷ u ++ (c ∷ v)) ≡ (b ∷ u) ∷ words v
unfolding not_empty
words-closed b u c v a h = words-cut (b ∷ u) c v a h

-- white space closes a word that has begun
bits-white : (w u : List ℕ) (es : List ℤ) (closed : Bool) (n c : ℕ) → BitsAt w u es closed n → is_white c ≡ true → BitsAt (w ++ (c ∷ [])) u es (ltb 0 n) n
bits-white w [] es true n c p h = absurd (omega (arith, p.some refl))
bits-white w [] es false n c p h = record {
  shape_is = λ v. ap words (append_assoc w (c ∷ []) v) ∙ p.shape_is (c ∷ v) ∙ words-white c v h ∙ rw (le-ltb 0 n (omega (arith, p.count)));
  word = tt;
  elements = p.elements;
  some = λ e. absurd (false≢true (sym (le-ltb 0 n (omega (arith, p.count))) ∙ e));
  count = p.count;
}
bits-white w (b ∷ u) es closed n c p h = record {
  shape_is = λ v. ap words (append_assoc w (c ∷ []) v) ∙ p.shape_is (c ∷ v) ∙ go closed v ∙ rw (lt-ltb 0 n (omega (arith, p.count)));
  word = p.word;
  elements = p.elements;
  some = λ e. omega arith;
  count = p.count;
}
  where
    go : (t : Bool) (v : List ℕ) → cond t ((b ∷ u) ∷ words (c ∷ v)) (words (b ∷ u ++ (c ∷ v))) ≡ (b ∷ u) ∷ words v
    go true v = ap (λ (ws : List (List ℕ)). (b ∷ u) ∷ ws) (words-white c v h)
    go false v = words-closed b u c v p.word h

bit-white : (c : ℕ) (e : ℤ) → bit_letter c ≡ good e → (48 ≤ c) × (c ≤ 49)
unfolding bit_letter
bit-white c e h = go (between 48 49 c) refl h
  where
    go : (t : Bool) → between 48 49 c ≡ t → cond {A = Result ℕ ℤ} t (good (pos (c - 48))) (bad 11) ≡ good e → (48 ≤ c) × (c ≤ 49)
    go true q r = between_is 48 49 c q
    go false q r = absurd (bad-good r)

-- what the code takes a character for
bit-known : (closed : Bool) (c r : ℕ) → BitIs closed c (Some r) → (closed ≡ false) × (bit_letter c ≡ good (pos r))
bit-known true c r b = cc
bit-known false c r b = (refl, sym b)

every_one : (c : ℕ) (e : ℤ) → bit_letter c ≡ good e → every bit_letter (c ∷ []) ≡ good (e ∷ [])
unfolding every
every_one c e h = rw h

bits-more : (w u : List ℕ) (es : List ℤ) (closed : Bool) (n c : ℕ) (e : ℤ) → BitsAt w u es closed n → closed ≡ false → bit_letter c ≡ good e
    → BitsAt (w ++ (c ∷ [])) (u ++ (c ∷ [])) (es ++ (e ∷ [])) closed (n + 1)
bits-more w u es true n c e p q h = absurd (false≢true (sym q))
bits-more w u es false n c e p q h = record {
  shape_is = λ v. ap words (append_assoc w (c ∷ []) v) ∙ p.shape_is (c ∷ v) ∙ ap words (sym (append_assoc u (c ∷ []) v));
  word = no-white-more u c p.word (no-white c (omega (arith, bit-white c e h)));
  elements = rw (every_append bit_letter u (c ∷ []), p.elements, every_one c e h);
  some = λ t. absurd (false≢true t);
  count = omega (arith, length-append u (c ∷ []), p.count);
}

bits_are : (w : List ℕ) → text_elements Bits w ≡ bit_words (words w)
unfolding text_elements
bits_are w = refl

one_word : (u : List ℕ) (es : List ℤ) → every bit_letter u ≡ good es → bit_words (not_empty (u ∷ [])) ≡ good es
unfolding bit_words not_empty every
one_word [] es e = e
one_word (b ∷ u) es e = e

bits-end : (w u : List ℕ) (es : List ℤ) (closed : Bool) (n : ℕ) → BitsAt w u es closed n → text_elements Bits w ≡ good es
unfolding bit_words
bits-end w u es true n p =
    bits_are w ∙ ap bit_words (ap words (sym (append-nil w)) ∙ p.shape_is [] ∙ ap (λ (ws : List (List ℕ)). u ∷ ws) words-none) ∙ p.elements
bits-end w u es false n p =
    bits_are w ∙ ap bit_words (ap words (sym (append-nil w)) ∙ p.shape_is [] ∙ ap words (append-nil u) ∙ words_last u p.word) ∙ one_word u es p.elements

-- a character that is neither white nor a bit begins a word or goes on with one
pieces-first : (u : List ℕ) (c : ℕ) (v : List ℕ) → NoWhite u → is_white c ≡ false → (x : List ℕ) × (ps : List (List ℕ)) × (pieces (u ++ (c ∷ v)) ≡ (u ++ (c ∷ x)) ∷ ps)
unfolding pieces attach
pieces-first [] c v a h = go (pieces v) refl
  where
    go : (ps : List (List ℕ)) → pieces v ≡ ps → (x : List ℕ) × (qs : List (List ℕ)) × (pieces (c ∷ v) ≡ (c ∷ x) ∷ qs)
    go [] e = ([], [], rw (h, e))
    go (x ∷ qs) e = (x, qs, rw (h, e))
pieces-first (b ∷ u) c v a h =
    let r : (x : List ℕ) × (ps : List (List ℕ)) × (pieces (u ++ (c ∷ v)) ≡ (u ++ (c ∷ x)) ∷ ps) = pieces-first u c v a.1 h in
    (r.0, r.1, rw (a.0, r.2))

words-first : (u : List ℕ) (c : ℕ) (v : List ℕ) → NoWhite u → is_white c ≡ false → (x : List ℕ) × (ws : List (List ℕ)) × (words (u ++ (c ∷ v)) ≡ (u ++ (c ∷ x)) ∷ ws)
unfolding words
words-first u c v a h =
    let r : (x : List ℕ) × (ps : List (List ℕ)) × (pieces (u ++ (c ∷ v)) ≡ (u ++ (c ∷ x)) ∷ ps) = pieces-first u c v a h in
    (r.0, not_empty r.1, rw r.2 (not-empty (u ++ (c ∷ r.0)) r.1 (omega (arith, length-append u (c ∷ r.0)))))

two-words : (u v : List ℕ) (ws : List (List ℕ)) → bit_words (u ∷ v ∷ ws) ≡ bad 11
unfolding bit_words
two-words u v ws = refl

bad-word : (u : List ℕ) (ws : List (List ℕ)) → every bit_letter u ≡ bad 11 → bit_words (u ∷ ws) ≡ bad 11
unfolding bit_words
bad-word u [] e = e
bad-word u (v ∷ ws) e = refl

bad-letter : (c : ℕ) (x : List ℕ) → bit_letter c ≡ bad 11 → every bit_letter (c ∷ x) ≡ bad 11
unfolding every
bad-letter c x e = rw e

bits-bad : (w u : List ℕ) (es : List ℤ) (closed : Bool) (n c : ℕ) → BitsAt w u es closed n → is_white c ≡ false → BitIs closed c None
    → (v : List ℕ) → text_elements Bits (w ++ (c ∷ []) ++ v) ≡ bad 11
bits-bad w u es true n c p h b v =
    let f : (x : List ℕ) × (ws : List (List ℕ)) × (words (c ∷ v) ≡ (c ∷ x) ∷ ws) = words-first [] c v tt h in
    bits_are (w ++ (c ∷ []) ++ v) ∙ ap bit_words (ap words (append_assoc w (c ∷ []) v) ∙ p.shape_is (c ∷ v) ∙ ap (λ (ws : List (List ℕ)). u ∷ ws) f.2) ∙ two-words u (c ∷ f.0) f.1
bits-bad w u es false n c p h b v =
    let f : (x : List ℕ) × (ws : List (List ℕ)) × (words (u ++ (c ∷ v)) ≡ (u ++ (c ∷ x)) ∷ ws) = words-first u c v p.word h in
    let k : bit_letter c ≡ bad 11 = sym b in
    bits_are (w ++ (c ∷ []) ++ v) ∙ ap bit_words (ap words (append_assoc w (c ∷ []) v) ∙ p.shape_is (c ∷ v) ∙ f.2)
    ∙ bad-word (u ++ (c ∷ f.0)) f.1 (rw (every_append bit_letter u (c ∷ f.0), p.elements, bad-letter c f.0 k))

-- what was read up to a place of a bit cell
abbrev pub BitsTo : Bool → ℕ → List ℕ → List ℤ → Type 0
BitsTo closed n w es = (u : List ℕ) × BitsAt w u es closed n

module _ {source : Source} {s : List ℕ} {from i n : ℕ} {closed : Bool} {entry l : List ℤ} (r : ReadTo (BitsTo closed n) source s from i n entry l)
    {c next : ℕ} (t : ItemIs source (characters_of source (drop i s)) s i (Ok (Code c next))) where
  pub bits-passed : is_white c ≡ true → ReadTo (BitsTo (ltb 0 n) n) source s from next n entry l
  bits-passed h = record {
    w = r.w ++ (c ∷ []);
    es = r.es;
    means = (r.means.0, bits-white r.w r.means.0 r.es closed n c r.means.1 h);
    passed = passed_then r.passed (passed-code t.found);
    stored = r.stored;
    long = r.long;
    few = omega (arith, r.few, t.within.0);
    low = omega (arith, r.low, t.within.0);
    high = t.within.1;
  }

  pub bits-spoilt : {m : Reason} → is_white c ≡ false → BitIs closed c None → number_of m ≡ spoiled_number (characters_of source (drop next s))
      → TakesElements (elements_from source Bits (drop from s)) s from entry l (Err m)
  bits-spoilt h b e = read-spoilt r Bits t (bits-bad r.w r.means.0 r.es closed n c r.means.1 h b) e

  pub bits-read : {m : List ℤ} {x : ℕ} {y : ℤ} → BitIs closed c (Some x) → m ≡ set l n y → y ≡ pos x → ReadTo (BitsTo closed (n + 1)) source s from next (n + 1) entry m
  bits-read {x = x} b e q =
      let f = bit-known closed c x b in
      read_more r t e q (_, bits-more r.w r.means.0 r.es closed n c (pos x) r.means.1 f.0 f.1)

pub bits-to-end : {w : List ℕ} {es : List ℤ} {closed : Bool} {n : ℕ} → BitsTo closed n w es → text_elements Bits w ≡ good es
bits-to-end {w} {es} {closed} {n} p = bits-end w p.0 es closed n p.1
