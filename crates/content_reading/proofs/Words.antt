-- Elements with white space between: what is read of a cell so far ends between words, so that its words and those of what follows stand apart, and
-- its elements stand in the buffer one after the other.
use Prim.Native.Nat.{◌%◌, ◌+◌, ◌/◌, ◌<◌, ◌^◌, ◌≤◌, suc, zero, ℕ}
use native.Mathlib.Omega.{arith}
use mathlib.Core.Bool.{Bool, cond, false, true}
use mathlib.Core.List.{List, [], ◌++◌, ◌∷◌, append_assoc, append-nil, map}
use mathlib.Core.Path.{◌∙◌, ◌≡◌, ap, refl, subst₂, sym}
use lib.Dec.{lit<}
use lib.IntN.{pos, ℤ}
use lib.ListN.{get_or, length, length-append, set}
use Rattle.binary.proofs.Digits.{map-join}
use Rattle.binary.specs.Binary.{bytes_of, groups, number}
use Rattle.integer_reading.proofs.Spelling.{spells-none, spells_one, spells_then}
use Rattle.moving.proofs.Puts.{puts-as, puts_none, puts_then, puts-wrote}
use Rattle.moving.specs.Contents.{AsBinary, ContentMoved, InText, Spells, content_form}
use Rattle.moving.specs.Puts.{Puts}
use Rattle.number.proofs.Laws.{length_to, low-pattern}
use Rattle.number.specs.Number.{pattern, to_digits, with_sign}
use Rattle.table.proofs.Laws.{bad-good, last-le}
use Rattle.table.proofs.Words.{words-none}
use Rattle.table.specs.Bytes.{attach, is_white, not_empty, pieces, words}
use Rattle.table.specs.Cell.{truth_byte}
use Rattle.table.specs.Result.{Result, ◌>>=◌, bad, every, good}
use Rattle.table.specs.Shape.{Shape, Truths, W1, Whole, Width, last}
use Rattle.table.specs.Wrote.{Wrote}
use Rattle.tabledata.specs.TableData.{integer_word, text_elements, truth_word}

-- ---- the words of a text that white space cuts

not-empty-then : (a b : List (List ℕ)) → not_empty (a ++ b) ≡ not_empty a ++ not_empty b
unfolding not_empty
not-empty-then [] b = refl
not-empty-then ([] ∷ a) b = not-empty-then a b
not-empty-then ((c ∷ w) ∷ a) b = ap (λ (t : List (List ℕ)). (c ∷ w) ∷ t) (not-empty-then a b)

-- there is always a first piece
attach-then : (b : ℕ) (p t : List (List ℕ)) → 1 ≤ length p → attach b (p ++ t) ≡ attach b p ++ t
unfolding attach
attach-then b [] t h = absurd (omega arith)
attach-then b (w ∷ p) t h = refl

pieces-some : (u : List ℕ) → 1 ≤ length (pieces u)
unfolding pieces attach
pieces-some [] = omega arith
pieces-some (b ∷ u) = by (is_white b) (pieces u)
  where
    by : (t : Bool) (p : List (List ℕ)) → 1 ≤ length (cond t ([] ∷ p) (attach b p))
    by true p = omega arith
    by false [] = omega arith
    by false (w ∷ p) = omega arith

pieces-cut : (u : List ℕ) (c : ℕ) (v : List ℕ) → is_white c ≡ true → pieces (u ++ (c ∷ v)) ≡ pieces u ++ pieces v
unfolding pieces
pieces-cut [] c v h = rw h
pieces-cut (b ∷ u) c v h = by (is_white b) (pieces (u ++ (c ∷ v))) (pieces-cut u c v h)
  where
    by : (t : Bool) (p : List (List ℕ)) → p ≡ pieces u ++ pieces v → cond t ([] ∷ p) (attach b p) ≡ cond t ([] ∷ pieces u) (attach b (pieces u)) ++ pieces v
    by true p e = rw e
    by false p e = ap (attach b) e ∙ attach-then b (pieces u) (pieces v) (pieces-some u)

words-cut : (u : List ℕ) (c : ℕ) (v : List ℕ) → is_white c ≡ true → words (u ++ (c ∷ v)) ≡ words u ++ words v
unfolding words
words-cut u c v h = ap not_empty (pieces-cut u c v h) ∙ not-empty-then (pieces u) (pieces v)

-- ---- each in turn, in two parts

every-then : (f : List ℕ → Result ℕ ℤ) (a b : List (List ℕ)) (xs ys : List ℤ) → every f a ≡ good xs → every f b ≡ good ys → every f (a ++ b) ≡ good (xs ++ ys)
unfolding every
every-then f [] b xs ys p q =
    let e : ◌≡◌ {A = Result ℕ (List ℤ)} (good []) (good xs) = p in
    let none : [] ≡ xs = cc in
    q ∙ ap (λ (t : List ℤ). good (t ++ ys)) none
every-then f (w ∷ a) b xs ys p q = go (f w) (every f a) refl refl p (λ es l. every-then f a b es ys l q)
  where
    go : (r : Result ℕ ℤ) (t : Result ℕ (List ℤ)) → f w ≡ r → every f a ≡ t → (r >>= λ e. t >>= λ es. good (e ∷ es)) ≡ good xs
        → ((es : List ℤ) → every f a ≡ good es → every f (a ++ b) ≡ good (es ++ ys)) → (f w >>= λ e. every f (a ++ b) >>= λ es. good (e ∷ es)) ≡ good (xs ++ ys)
    go (bad n) t k l m more = absurd (bad-good m)
    go (good e) (bad n) k l m more = absurd (bad-good m)
    go (good e) (good es) k l m more =
        let is : e ∷ es ≡ xs = let z : ◌≡◌ {A = Result ℕ (List ℤ)} (good (e ∷ es)) (good xs) = m in cc in
        rw (k, more es l) (ap (λ (t : List ℤ). good (t ++ ys)) is)

-- ---- numbers in bytes

groups-then : (w : ℕ) (a b : List ℕ) → groups w (a ++ b) ≡ groups w a ++ groups w b
unfolding groups
groups-then w [] b = refl
groups-then w (n ∷ a) b = ap (λ (t : List ℕ). to_digits 256 w n ++ t) (groups-then w a b) ∙ sym (append_assoc (to_digits 256 w n) (groups w a) (groups w b))

groups-one : (w n : ℕ) → groups w (n ∷ []) ≡ to_digits 256 w n
unfolding groups
groups-one w n = append-nil (to_digits 256 w n)

-- ---- what is read so far: f reads a word, and h is the number that w bytes hold

pub record WordsTo (f : List ℕ → Result ℕ ℤ) (h : ℤ → ℕ) (w : ℕ) (s : List ℕ) (from at : ℕ) (old : List ℕ) (first : ℕ) (new : List ℕ) (o count : ℕ) : Type 0 where
  pub text : List ℕ
  pub es : List ℤ
  pub clean : (v : List ℕ) → words (text ++ v) ≡ words text ++ words v
  pub spells : Spells s from at text
  pub reads : every f (words text) ≡ good es
  pub puts : Puts old first (groups w (map h es)) new o
  pub count-is : count ≡ length es
  pub few : count ≤ at

pub words-start : {f : List ℕ → Result ℕ ℤ} {h : ℤ → ℕ} {w : ℕ} {s : List ℕ} {from : ℕ} {old : List ℕ} {first : ℕ} → from ≤ length s → first ≤ length old
    → WordsTo f h w s from from old first old first 0
unfolding every groups
words-start {s = s} {from = from} {old = old} {first = first} k m = record {
  text = [];
  es = [];
  clean = λ v. rw words-none;
  spells = spells-none s from k;
  reads = rw words-none;
  puts = puts_none old first m;
  count-is = refl;
  few = omega arith;
}

-- one word more, and what stands behind it
module _ {k : Shape} {f : List ℕ → Result ℕ ℤ} (q : (u : List ℕ) → text_elements k u ≡ every f (words u)) {h : ℤ → ℕ} {w : ℕ} {s : List ℕ} {from at : ℕ} {old : List ℕ}
    {first : ℕ} {new : List ℕ} {o count : ℕ} (r : WordsTo f h w s from at old first new o count) {next : ℕ} {z : ℤ} (u : InText k s at next (z ∷ []))
    {new' : List ℕ} {e : ℕ} (p : Puts new o (to_digits 256 w (h z)) new' e) where
  more-reads : every f (words (r.text ++ u.word)) ≡ good (r.es ++ (z ∷ []))
  more-reads = ap (every f) (r.clean u.word) ∙ every-then f (words r.text) (words u.word) r.es (z ∷ []) r.reads (sym (q u.word) ∙ u.elements)

  more-puts : Puts old first (groups w (map h (r.es ++ (z ∷ [])))) new' e
  more-puts =
      puts-as
      (ap (λ (t : List ℕ). groups w (map h r.es) ++ t) (sym (groups-one w (h z))) ∙ sym (groups-then w (map h r.es) (h z ∷ [])) ∙ ap (groups w) (sym (map-join h r.es (z ∷ []))))
      (puts_then r.puts p)

  more-count : count + 1 ≡ length (r.es ++ (z ∷ []))
  more-count = omega (arith, r.count-is, length-append r.es (z ∷ []))

  -- the end of the elements
  pub words-moved : ((es : List ℤ) → content_form k es ≡ groups w (map h es)) → ContentMoved (InText k s from) (AsBinary k) old first new' (count + 1) next e
  words-moved form = record {
    es = r.es ++ (z ∷ []);
    bytes = groups w (map h (r.es ++ (z ∷ [])));
    reads = record { word = r.text ++ u.word; spells = spells_then r.spells u.spells; elements = q (r.text ++ u.word) ∙ more-reads };
    writes = sym (form (r.es ++ (z ∷ [])));
    puts = more-puts;
    count-is = more-count;
  }

  -- a space
  pub words_more : {place : ℕ} → next < length s → get_or s next 0 ≡ 32 → place ≡ next + 1 → WordsTo f h w s from place old first new' e (count + 1)
  unfolding is_white
  words_more {place} l b is =
      let both : List ℕ = r.text ++ u.word in
      let cut : (v : List ℕ) → words (both ++ (32 ∷ v)) ≡ words both ++ words v = λ v. words-cut both 32 v refl in
      let whole : words (both ++ (32 ∷ [])) ≡ words both = cut [] ∙ ap (λ (t : List (List ℕ)). words both ++ t) words-none ∙ append-nil (words both) in
      record {
        text = both ++ (32 ∷ []);
        es = r.es ++ (z ∷ []);
        clean = λ v. ap words (append_assoc both (32 ∷ []) v) ∙ cut v ∙ ap (λ (t : List (List ℕ)). t ++ words v) (sym whole);
        spells =
            spells_then (spells_then r.spells u.spells)
            (subst₂ (λ (c i : ℕ). Spells s next i (c ∷ [])) b (sym is) (spells_one s next l (λ g. omega arith, λ g. omega arith, λ g. omega arith)));
        reads = ap (every f) whole ∙ more-reads;
        puts = more-puts;
        count-is = more-count;
        few = omega (arith, r.few, u.spells.onward, is);
      }

-- ---- integers

module _ (g : Bool) (v : Width) where
  pub whole_words : (u : List ℕ) → text_elements (Whole g v) u ≡ every (integer_word g (suc (last v))) (words u)
  unfolding text_elements
  whole_words u = refl

  pub whole-form : (es : List ℤ) → content_form (Whole g v) es ≡ groups (suc (last v)) (map (number (Whole g v)) es)
  unfolding content_form bytes_of
  whole-form es = refl

  -- the low bytes of the pattern of eight
  pub whole-puts : {new new' : List ℕ} {o e : ℕ} (z : ℤ) → Wrote new o (to_digits 256 (suc (last v)) (pattern 8 z)) new' e → o + 8 ≤ length new
      → Puts new o (to_digits 256 (suc (last v)) (number (Whole g v) z)) new' e
  unfolding number
  whole-puts z p room =
      puts-as (low-pattern (suc (last v)) z (last-le v))
      (puts-wrote p (omega (arith, room, length_to 256 (suc (last v)) (pattern 8 z), last-le v)))

-- ---- truths

pub truth-words : (u : List ℕ) → text_elements Truths u ≡ every truth_word (words u)
unfolding text_elements
truth-words u = refl

pub truth-form : (es : List ℤ) → content_form Truths es ≡ groups 1 (map (number Truths) es)
unfolding content_form bytes_of
truth-form es = refl

one_byte : (b : ℕ) → b < 256 → to_digits 256 1 b ≡ b ∷ []
unfolding to_digits
one_byte b h = let e : b / 256 ^ 0 % 256 ≡ b = omega arith in ap (λ (x : ℕ). x ∷ []) e

truth-byte-small : (n : ℕ) → truth_byte (pos n) < 256
unfolding truth_byte
truth-byte-small zero = lit< tt
truth-byte-small (suc zero) = lit< tt
truth-byte-small (suc (suc n)) = lit< tt

pub truth-puts : (new : List ℕ) (o n b : ℕ) → b ≡ truth_byte (pos n) → o < length new → Puts new o (to_digits 256 1 (number Truths (pos n))) (set new o b) (o + 1)
unfolding number
truth-puts new o n b e l =
    puts-as (ap (λ (x : ℕ). x ∷ []) e ∙ sym (one_byte (truth_byte (pos n)) (truth-byte-small n))) (puts-wrote (record { now-is = refl; next-is = refl }) (omega arith))

-- ---- an integer in a byte

pub byte-puts : (new : List ℕ) (o x : ℕ) → x ≤ 255 → o < length new → Puts new o (to_digits 256 1 (number (Whole false W1) (with_sign false x))) (set new o x) (o + 1)
unfolding number pattern with_sign
byte-puts new o x h l =
    let same : x % 256 ^ 1 ≡ x = omega arith in
    puts-as (sym (ap (to_digits 256 1) same ∙ one_byte x (omega arith))) (puts-wrote (record { now-is = refl; next-is = refl }) (omega arith))
