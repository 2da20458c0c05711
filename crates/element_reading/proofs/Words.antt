-- Words of a cell that is read a character at a time, for `truths` and `integers`. `Clean w` says that w ends between words, so that its
-- words and those of what follows stand apart; `CarriedAs` has what they come to: the elements so far, or the number of the first bad one.
use Prim.Native.Nat.{◌≤◌, ℕ}
use native.Mathlib.Nat.{le_refl}
use native.Mathlib.Omega.{arith}
use mathlib.Core.Bool.{true}
use mathlib.Core.List.{List, [], ◌++◌, ◌∷◌, append_assoc, append-nil}
use mathlib.Core.Path.{◌∙◌, ◌≡◌, ap, refl, subst, sym}
use lib.IntN.{ℤ}
use lib.ListN.{drop, length}
use Rattle.table.proofs.Laws.{NoWhite}
use Rattle.table.proofs.Words.{words-cut, words_last, words-none}
use Rattle.table.specs.Bytes.{is_white, not_empty, words}
use Rattle.table.specs.Result.{Result, ◌>>=◌, bad, every, good}
use Rattle.table.specs.Shape.{Shape}
use Rattle.tabledata.specs.TableData.{text_elements}
use Rattle.element_reading.proofs.Passing.{onward-broken, passed_none, passed_then}
use Rattle.element_reading.proofs.elements.Laws.{stored-none}
use Rattle.character_reading.specs.Characters.{characters_of}
use Rattle.element_reading.specs.Elements.{Passed, Stored, TakenAs, TakesElements, elements_from, onward}
use Rattle.element_reading.specs.Words.{AddedAs, Adds, PieceAs, PieceIs, QuickWordAs, QuickWordIs, added_bad, added_count, CutAt, LastAt, first_bad, is-added, is-refused, judged_as}
use Rattle.character_reading.specs.declared.characters.Source.{Source}
use Rattle.element_reading.specs.declared.elements.Held.{Held}
use Rattle.element_reading.specs.declared.pieces.Piece.{Piece}
use Rattle.number.specs.declared.Integer.{Integer}
use Rattle.std.specs.Prelude.{Err, None, Ok, Option, Result as Outcome, Some}
use Rattle.table.specs.Reasons.{number_of}
use Rattle.table.specs.declared.Reason.{Reason}

-- ---- what was read, as the match on it has it

pub piece-as : {W : Type 0} {Stands : W → List ℕ → Type 0} {source : Source} {s : List ℕ} {i : ℕ} {k j : Piece W} → k ≡ j → PieceIs Stands source s i (Ok k)
    → PieceAs Stands source s i (Ok j)
piece-as {W} {Stands} {source} {s} {i} e t = subst (λ (x : Piece W). PieceAs Stands source s i (Ok x)) e t.found

pub quick-as : {kind : Integer} {source : Source} {s : List ℕ} {i : ℕ} {k j : Piece ℤ} → k ≡ j → QuickWordIs kind source s i (Some k) → QuickWordAs kind source s i (Some j)
quick-as {kind} {source} {s} {i} e t = subst (λ (x : Piece ℤ). QuickWordAs kind source s i (Some x)) e t.found

-- ---- the words of a text in two parts

abbrev Clean : List ℕ → Type 0
Clean w = (v : List ℕ) → words (w ++ v) ≡ words w ++ words v

clean-none : Clean []
clean-none v = rw words-none

words_more : (w u : List ℕ) (c : ℕ) (v : List ℕ) → Clean w → NoWhite u → is_white c ≡ true → words (w ++ (u ++ (c ∷ [])) ++ v) ≡ words w ++ (not_empty (u ∷ []) ++ words v)
words_more w u c v p a h =
    ap words (append_assoc w (u ++ (c ∷ [])) v ∙ ap (λ (t : List ℕ). w ++ t) (append_assoc u (c ∷ []) v)) ∙ p (u ++ (c ∷ v)) ∙ ap (λ (t : List (List ℕ)). words w ++ t) (words-cut u c v a h)

words-to : (w u : List ℕ) (c : ℕ) → Clean w → NoWhite u → is_white c ≡ true → words (w ++ (u ++ (c ∷ []))) ≡ words w ++ not_empty (u ∷ [])
words-to w u c p a h =
    ap words (sym (append-nil (w ++ (u ++ (c ∷ []))))) ∙ words_more w u c [] p a h
    ∙ ap (λ (t : List (List ℕ)). words w ++ t) (ap (λ (t : List (List ℕ)). not_empty (u ∷ []) ++ t) words-none ∙ append-nil (not_empty (u ∷ [])))

clean-cut : (w u : List ℕ) (c : ℕ) → Clean w → NoWhite u → is_white c ≡ true → Clean (w ++ (u ++ (c ∷ [])))
clean-cut w u c p a h v =
    words_more w u c v p a h ∙ sym (append_assoc (words w) (not_empty (u ∷ [])) (words v)) ∙ ap (λ (t : List (List ℕ)). t ++ words v) (sym (words-to w u c p a h))

-- ---- each in turn, in two parts

module _ {A B : Type 0} (f : A → Result ℕ B) where
  none_more : (r : Result ℕ (List B)) → r ≡ (r >>= λ y. good y)
  none_more (good y) = refl
  none_more (bad n) = refl

  one_more : (r : Result ℕ B) (s t : Result ℕ (List B))
      → (r >>= λ d. s >>= (λ x. t >>= λ y. good (x ++ y)) >>= λ ds. good (d ∷ ds)) ≡ (r >>= (λ d. s >>= λ ds. good (d ∷ ds)) >>= λ x. t >>= λ y. good (x ++ y))
  one_more (bad n) s t = refl
  one_more (good d) (bad n) t = refl
  one_more (good d) (good x) (bad n) = refl
  one_more (good d) (good x) (good y) = refl

  pub every_append : (a b : List A) → every f (a ++ b) ≡ (every f a >>= λ x. every f b >>= λ y. good (x ++ y))
  unfolding every
  every_append [] b = none_more (every f b)
  every_append (c ∷ a) b = rw (every_append a b) (one_more (f c) (every f a) (every f b))

pub added_none : (f : List ℕ → Result ℕ ℤ) → every f (not_empty ([] ∷ [])) ≡ good []
unfolding every not_empty
added_none f = refl

pub added-word : (f : List ℕ → Result ℕ ℤ) (w : List ℕ) (r : Result ℕ ℤ) → 1 ≤ length w → f w ≡ r → every f (not_empty (w ∷ [])) ≡ (r >>= λ e. good (e ∷ []))
unfolding every not_empty
added-word f [] r h e = absurd (omega arith)
added-word f (c ∷ w) r h e = rw e

-- ---- what was read so far, with the reason of the first bad element

pub data CarriedAs (first : Option Reason) (count : ℕ) (scratch : List ℤ) : Result ℕ (List ℤ) → Type 0 where
  no-bad : {es : List ℤ} → first ≡ None → Stored es count scratch → CarriedAs first count scratch (good es)
  one-bad : {e : Reason} → first ≡ Some e → CarriedAs first count scratch (bad (number_of e))

-- the elements of a word behind those there are
abbrev behind : Result ℕ (List ℤ) → Result ℕ (List ℤ) → Result ℕ (List ℤ)
behind r t = r >>= λ x. t >>= λ y. good (x ++ y)

pub none-bad : (first : Option Reason) → first_bad first None ≡ first
none-bad (Some e) = refl
none-bad None = refl

carried-more : {r t : Result ℕ (List ℤ)} {first : Option Reason} {count : ℕ} {l m : List ℤ} {added : Outcome ℕ Reason} → CarriedAs first count l r
    → AddedAs count l m added t → CarriedAs (first_bad first (added_bad added)) (added_count count added) m (behind r t)
carried-more (no-bad z p) (is-added y a) = rw (z, y) (no-bad refl (a _ p))
carried-more (no-bad z p) (is-refused y) = rw (z, y) (one-bad refl)
carried-more (one-bad z) a = rw z (one-bad refl)

-- the text that ends with it
carried-judged : (s : List ℕ) (place next : ℕ) {r : Result ℕ (List ℤ)} {definition : Result ℕ (List ℤ × List ℕ)} (first : Option Reason) (count : ℕ)
    (added : Outcome ℕ Reason) {l : List ℤ} → CarriedAs (first_bad first (added_bad added)) (added_count count added) l r
    → definition ≡ (r >>= λ es. good (es, drop next s)) → place ≤ next → next ≤ length s → TakenAs definition s place l (judged_as first added next)
carried-judged s place next None count (Ok more) (no-bad z p) e low high = (_, e, p, low, high)
carried-judged s place next None count (Ok more) (one-bad z) e low high = cc
carried-judged s place next None count (Err x) (no-bad z p) e low high = cc
carried-judged s place next None count (Err x) (one-bad {e = y} z) e low high = let q : y ≡ x = cc in e ∙ ap (λ (k : Reason). bad (number_of k)) q
carried-judged s place next (Some x) count added (no-bad z p) e low high = cc
carried-judged s place next (Some x) count added (one-bad {e = y} z) e low high = let q : y ≡ x = cc in e ∙ ap (λ (k : Reason). bad (number_of k)) q

-- ---- a cell of words that was read up to the place i

pub record WordsTo (f : List ℕ → Result ℕ ℤ) (source : Source) (s : List ℕ) (from i : ℕ) (first : Option Reason) (count : ℕ) (entry scratch : List ℤ) : Type 0 where
  pub w : List ℕ
  pub clean : Clean w
  pub passed : Passed source s from i w
  pub carried : CarriedAs first count scratch (every f (words w))
  pub long : length scratch ≡ length entry
  pub few : count ≤ i
  pub low : from ≤ i
  pub high : i ≤ length s

pub words-start : (f : List ℕ → Result ℕ ℤ) {source : Source} {s : List ℕ} {from : ℕ} {entry : List ℤ} → from ≤ length s → WordsTo f source s from from None 0 entry entry
unfolding every
words-start f {from = from} h = record {
  w = [];
  clean = clean-none;
  passed = passed_none;
  carried = rw words-none (no-bad refl (stored-none _));
  long = refl;
  few = omega arith;
  low = le_refl from;
  high = h;
}

-- the word that comes there, with what it adds
module _ (k : Shape) {f : List ℕ → Result ℕ ℤ} (q : (w : List ℕ) → text_elements k w ≡ every f (words w)) {source : Source} {s : List ℕ} {from i n : ℕ} {first : Option Reason} {entry l : List ℤ}
    (r : WordsTo f source s from i first n entry l) where
  pub words-broken : {e : Reason} {t : Outcome Held Reason} → t ≡ Err e → characters_of source (drop i s) ≡ bad (number_of e)
      → TakesElements (elements_from source k (drop from s)) s from entry l t
  unfolding elements_from
  words-broken h e = rw h (record { found = r.passed.passes (text_elements k) ∙ ap (onward (λ cs. text_elements k (r.w ++ cs))) e ∙ onward-broken _; long = r.long })

  module _ {Stands : List ℕ → Type 0} {next : ℕ} {m : List ℤ} {added : Outcome ℕ Reason} (d : Adds f Stands n l m added) where
    pub word-last : {t : Outcome Held Reason} → LastAt Stands source s i next → t ≡ judged_as first added next
        → TakesElements (elements_from source k (drop from s)) s from entry m t
    unfolding elements_from
    word-last u e = record {
      found = rw e (carried-judged s from next first n added (carried-more r.carried (d.found u.w u.stands))
          (r.passed.passes (text_elements k) ∙ u.ends (λ cs. text_elements k (r.w ++ cs))
          ∙ rw (q (r.w ++ u.w), r.clean u.w, words_last u.w u.word, every_append f (words r.w) (not_empty (u.w ∷ []))))
          (omega (arith, r.low, u.low)) u.high);
      long = d.long ∙ r.long;
    }

    pub word_cut : {later : Option Reason} {more : ℕ} → CutAt Stands source s i next → later ≡ first_bad first (added_bad added) → more ≡ added_count n added
        → WordsTo f source s from next later more entry m
    word_cut u e h = record {
      w = r.w ++ (u.w ++ (u.white ∷ []));
      clean = clean-cut r.w u.w u.white r.clean u.word u.is_white;
      passed = passed_then r.passed u.passed;
      carried =
          rw (e, h, words-to r.w u.w u.white r.clean u.word u.is_white, every_append f (words r.w) (not_empty (u.w ∷ [])))
          (carried-more r.carried (d.found u.w u.stands));
      long = d.long ∙ r.long;
      few = omega (arith, h, d.most, r.few, u.low);
      low = omega (arith, r.low, u.low);
      high = u.high;
    }
