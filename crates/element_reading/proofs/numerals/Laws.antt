-- Words of integers as the integers' reader has them, letter by letter or, plain digits, at once.
use Prim.Native.Nat.{◌%◌, ◌*◌, ◌+◌, ◌-◌, ◌<◌, ◌^◌, ◌≤◌, suc, zero, ℕ}
use native.Mathlib.Omega.{arith}
use mathlib.Core.Bool.{Bool, false, false≢true, true}
use mathlib.Core.List.{List, [], ◌++◌, ◌∷◌}
use mathlib.Core.Path.{◌∙◌, ◌≡◌, ap, refl, subst, sym}
use lib.Dec.{eqb, ltb}
use lib.IntN.{ℤ}
use lib.ListN.{drop, get_or, length, length-drop, length-set, set, take}
use lib.Seq.{length-take-le}
use borrow.Author.Tests.{eqb-true, le-ltb, lt-ltb, ltb-false, ltb-true, ne_eqb}
use Rattle.number.specs.Clauses.{is_signed, size, width_of}
use Rattle.number.specs.Number.{Fault, digit, hexadigit}
use Rattle.number.specs.declared.Integer.{Integer}
use Rattle.number.proofs.Laws.{digit-no}
use Rattle.table.proofs.Bytes.{between-no}
use Rattle.table.proofs.Laws.{all-weaken, and_both, cond_cases, no-white}
use Rattle.table.proofs.Places.{next1}
use Rattle.table.specs.All.{All}
use Rattle.table.specs.Bytes.{between, is_white, not_empty, words}
use Rattle.table.specs.Result.{Result, ◌>>=◌, bad, every, good, refused_as}
use Rattle.table.specs.Shape.{Shape, Whole}
use Rattle.tabledata.proofs.Characters.{plain-yes}
use Rattle.tabledata.specs.Clauses.{is_plain}
use Rattle.tabledata.specs.TableData.{fault_number, integer_word, text_elements}
use Rattle.element_reading.proofs.Words.{added-word}
use Rattle.character_reading.proofs.characters.Laws.{itself}
use Rattle.element_reading.proofs.Passing.{WordTo, passed_none, passed-plain, passed_then, word-cuts, word-ends}
use Rattle.element_reading.proofs.elements.Laws.{put-more}
use Rattle.character_reading.specs.Characters.{TextEnds, ItemIs, characters_of}
use Rattle.element_reading.specs.Elements.{Passed}
use Rattle.element_reading.specs.Words.{Adds, CutAt, LastAt, WordOf, begun_form, is-added, letter_of, space_at}
use Rattle.character_reading.specs.declared.characters.Item.TheVariants.{Code}
use Rattle.std.specs.Prelude.{Ok, Some}
use Rattle.words.proofs.WordLaws.{fed-reads, feed-more}
use Rattle.words.specs.Clauses.{IsPlain, QuickAt}
use Rattle.words.specs.Words.{add_decimal, add_hexadecimal, broken_word, capped, decimal_next, feed, first_next, fresh, hexadecimal_next, reading, next_word as letter, next_from, word, zero_next}
use Rattle.words.specs.declared.Form.TheVariants.{Decimal, Hexadecimal, Minus, Plus, Start, Zero}
use Rattle.words.specs.declared.Form.{Form}
use Rattle.words.specs.declared.Word.{Word}
use Rattle.character_reading.specs.declared.characters.Source.{Source}

-- ---- a word that has begun

abbrev begun : Word → Bool
begun x = begun_form x.form

decimal-begun : (f : Form) (n v c : ℕ) → begun_form f ≡ true → begun (decimal_next f n v c) ≡ true
unfolding decimal_next
decimal-begun f n v c h = go (digit c)
  where
    go : (r : Result Fault ℕ) → begun (add_decimal f n v r) ≡ true
    go (good d) = cond_cases (λ (x : Word). begun x ≡ true) (ltb n 20) (word f (n + 1) (capped v d)) broken_word (λ _. h) (λ _. refl)
    go (bad e) = refl

hexadecimal-begun : (n v c : ℕ) → begun (hexadecimal_next n v c) ≡ true
unfolding hexadecimal_next
hexadecimal-begun n v c = go (hexadigit c)
  where
    go : (r : Result Fault ℕ) → begun (add_hexadecimal n v r) ≡ true
    go (good d) = cond_cases (λ (x : Word). begun x ≡ true) (ltb n 16) (word Hexadecimal (n + 1) (v % 16 ^ 15 * 16 + d)) broken_word (λ _. refl) (λ _. refl)
    go (bad e) = refl

first-begun : (c : ℕ) → begun (first_next c) ≡ true
unfolding first_next
first-begun c =
    cond_cases P (eqb c 43) _ _ (λ _. refl) (λ _.
    cond_cases P (eqb c 45) _ _ (λ _. refl) (λ _.
    cond_cases P (eqb c 48) _ _ (λ _. refl) (λ _. decimal-begun Decimal 0 0 c refl)))
  where
    P : Word → Type 0
    P x = begun x ≡ true

zero-begun : (c : ℕ) → begun (zero_next c) ≡ true
unfolding zero_next
zero-begun c = cond_cases (λ (x : Word). begun x ≡ true) (eqb c 120) (word Hexadecimal 0 0) (decimal_next Decimal 1 0 c) (λ _. refl) (λ _. decimal-begun Decimal 1 0 c refl)

step-begun : (f : Form) (n v c : ℕ) → begun (next_from f n v c) ≡ true
step-begun Start n v c = first-begun c
step-begun Zero n v c = zero-begun c
step-begun Decimal n v c = decimal-begun Decimal n v c refl
step-begun Plus n v c = decimal-begun Plus n v c refl
step-begun Minus n v c = decimal-begun Minus n v c refl
step-begun Hexadecimal n v c = hexadecimal-begun n v c
step-begun Form.Broken n v c = refl

feed-begun : (x : Word) (w : List ℕ) → begun x ≡ true → begun (feed x w) ≡ true
unfolding feed letter
feed-begun x [] h = h
feed-begun x (c ∷ w) h = feed-begun (letter x c) w (step-begun x.form x.count x.value c)

-- a word is empty where nothing was fed
pub fed-none : (w : List ℕ) → begun_form (feed fresh w).form ≡ false → w ≡ []
unfolding feed letter
fed-none [] e = refl
fed-none (c ∷ w) e = absurd (false≢true (sym e ∙ feed-begun (letter fresh c) w (first-begun c)))

pub fed-some : (w : List ℕ) → begun_form (feed fresh w).form ≡ true → 1 ≤ length w
unfolding feed
fed-some [] h = absurd (false≢true h)
fed-some (c ∷ w) h = omega arith

pub feed-start : feed fresh [] ≡ fresh
unfolding feed
feed-start = refl

-- what is no byte is no letter of an integer, as 255 is none
no-decimal : (f : Form) (n v c : ℕ) → 256 ≤ c → decimal_next f n v 255 ≡ decimal_next f n v c
unfolding decimal_next
no-decimal f n v c h = rw (digit-no 255 (λ a b. omega arith), digit-no c (λ a b. omega arith))

no-hexadecimal : (n v c : ℕ) → 256 ≤ c → hexadecimal_next n v 255 ≡ hexadecimal_next n v c
unfolding hexadecimal_next hexadigit
no-hexadecimal n v c h = rw (between-no 48 57 c (λ a b. omega arith), between-no 65 70 c (λ a b. omega arith), between-no 97 102 c (λ a b. omega arith)) (unfold between in refl)

no-letter-from : (f : Form) (n v c : ℕ) → 256 ≤ c → next_from f n v 255 ≡ next_from f n v c
unfolding first_next zero_next
no-letter-from Start n v c h = rw (ne_eqb c 43 (λ e. omega arith), ne_eqb c 45 (λ e. omega arith), ne_eqb c 48 (λ e. omega arith)) (no-decimal Decimal 0 0 c h)
no-letter-from Zero n v c h = rw (ne_eqb c 120 (λ e. omega arith)) (no-decimal Decimal 1 0 c h)
no-letter-from Decimal n v c h = no-decimal Decimal n v c h
no-letter-from Plus n v c h = no-decimal Plus n v c h
no-letter-from Minus n v c h = no-decimal Minus n v c h
no-letter-from Hexadecimal n v c h = no-hexadecimal n v c h
no-letter-from Form.Broken n v c h = refl

no-letter : (x : Word) (c : ℕ) → 256 ≤ c → letter x 255 ≡ letter x c
unfolding letter
no-letter x c h = no-letter-from x.form x.count x.value c h

letter-same : (x : Word) (c : ℕ) → letter x (letter_of c) ≡ letter x c
unfolding letter_of
letter-same x c = cond_cases (λ (b : ℕ). letter x b ≡ letter x c) (ltb c 256) c 255 (λ _. refl) (λ e. no-letter x c (ltb-false c 256 e))

pub letter-low : (c : ℕ) → c < 256 → letter_of c ≡ c
unfolding letter_of
letter-low c h = rw (lt-ltb c 256 h)

pub letter-none : (c : ℕ) → 256 ≤ c → letter_of c ≡ 255
unfolding letter_of
letter-none c h = rw (le-ltb c 256 h)

pub fed-letter : (x : Word) (w : List ℕ) (c b : ℕ) → x ≡ feed fresh w → b ≡ letter_of c → letter x b ≡ feed fresh (w ++ (c ∷ []))
fed-letter x w c b e l = ap (letter x) l ∙ letter-same x c ∙ ap (λ (y : Word). letter y c) e ∙ sym (feed-more fresh w c)

-- ---- what it adds

pub integer-as : (k : Integer) (w : List ℕ) (r : Result Fault ℤ) → reading k (feed fresh w) ≡ r → integer_word (is_signed k) (size k) w ≡ refused_as fault_number r
unfolding integer_word
integer-as k w r e = ap (refused_as fault_number) (sym (fed-reads k w) ∙ e)

-- a word that was read adds what it reads as
pub read-word : (k : Integer) (w : List ℕ) (r : Result Fault ℤ) {x : Word} → x ≡ feed fresh w → begun_form x.form ≡ true → reading k x ≡ r
    → every (integer_word (is_signed k) (size k)) (not_empty (w ∷ [])) ≡ (refused_as fault_number r >>= λ e. good (e ∷ []))
read-word k w r e b q =
    added-word (integer_word (is_signed k) (size k)) w _ (fed-some w (ap (λ (y : Word). begun_form y.form) (sym e) ∙ b))
    (integer-as k w r (ap (reading k) (sym e) ∙ q))

abbrev pub whole : Integer → Shape
whole k = Whole (is_signed k) (width_of k)

pub integers-are : (k : Integer) (w : List ℕ) → text_elements (whole k) w ≡ every (integer_word (is_signed k) (size k)) (words w)
unfolding text_elements
integers-are k w = refl

-- ---- the quick way: what it passes over are plain characters

digit-plain : (c : ℕ) → IsPlain c → is_plain c ≡ true
digit-plain c h = plain-yes c (λ e. omega (arith, h, e)) (λ e. omega (arith, h, e)) (omega (arith, h)) (omega (arith, h))

run-split : (s : List ℕ) (i n : ℕ) → i < length s → take (suc n) (drop i s) ≡ get_or s i 0 ∷ take n (drop (i + 1) s)
run-split s i n h = rw (next1 s i h)

passed-run : (source : Source) (n : ℕ) (s : List ℕ) (i : ℕ) → i + n ≤ length s → All IsPlain (take n (drop i s)) → Passed source s i (i + n) (take n (drop i s))
passed-run source zero s i h a = let e : i + 0 ≡ i = omega arith in rw e passed_none
passed-run source (suc n) s i h a =
    let q : take (suc n) (drop i s) ≡ get_or s i 0 ∷ take n (drop (i + 1) s) = run-split s i n (omega arith) in
    let b : All IsPlain (get_or s i 0 ∷ take n (drop (i + 1) s)) = subst (All IsPlain) q a in
    let e : i + suc n ≡ i + 1 + n = omega arith in
    rw (q, e) (passed_then (passed-plain source s i (omega arith) (digit-plain (get_or s i 0) b.0)) (passed-run source n s (i + 1) (omega arith) b.1))

module _ {k : Integer} {source : Source} {s : List ℕ} {from end : ℕ} {z : ℤ} (q : QuickAt k s from z end) where
  -- the digits are a word that means z
  quick-to : WordTo (WordOf k z) source s from end
  unfolding integer_word
  quick-to =
      let f : from + (end - from) ≡ end = omega (arith, q.later) in
      let long : end - from ≤ length (drop from s) = omega (arith, length-drop from s, q.within) in
      record {
        w = take (end - from) (drop from s);
        stands = (omega (arith, q.later, length-take-le (end - from) (drop from s) long), rw q.reads);
        word = all-weaken IsPlain _ (take (end - from) (drop from s)) (λ c h. no-white c (omega (arith, h))) q.plain;
        passed = subst (λ (j : ℕ). Passed source s from j (take (end - from) (drop from s))) f (passed-run source (end - from) s from (omega (arith, q.later, q.within)) q.plain);
        low = omega (arith, q.later);
        high = q.within;
      }

  pub quick-cut : space_at s end ≡ true → CutAt (WordOf k z) source s from (end + 1)
  unfolding between is_white
  quick-cut b =
      let both = and_both (ltb end (length s)) (eqb (get_or s end 0) 32) b in
      let h = ltb-true end (length s) both.0 in let e = eqb-true (get_or s end 0) 32 both.1 in
      let t : ItemIs source (characters_of source (drop end s)) s end (Ok (Code (get_or s end 0) (end + 1))) = record {
        found = itself s end source h (λ _. (λ x. omega (arith, e, x), λ x. omega (arith, e, x), λ x. omega (arith, e, x)));
        within = (omega arith, omega arith);
      } in
      word-cuts quick-to t (ap is_white e)

  pub quick-last : {next : ℕ} → TextEnds source s end (Some next) → LastAt (WordOf k z) source s from next
  quick-last t = word-ends quick-to t.found

-- a word that was read at once adds its integer
pub quick-adds : (k : Integer) {z y : ℤ} {n : ℕ} {l m : List ℤ} → m ≡ set l n y → y ≡ z
    → Adds (integer_word (is_signed k) (size k)) (WordOf k z) n l m (Ok (n + 1))
quick-adds k {z} e q = record {
  found = λ w h. rw (added-word (integer_word (is_signed k) (size k)) w (good z) h.0 h.1) (is-added refl (λ es p. put-more p e q));
  most = omega arith;
  long = ap length e ∙ simp length-set;
}
