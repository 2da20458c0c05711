-- Elements that are words with a space between: a word more is an element more, where they are read and where they are written.
use Prim.Native.Nat.{◌+◌, ◌-◌, ◌<◌, ◌≤◌, suc, ℕ}
use native.Mathlib.Omega.{arith}
use mathlib.Core.Bool.{Bool, cond, false, true}
use mathlib.Core.List.{List, [], ◌++◌, ◌∷◌, append_assoc, append-nil, map}
use mathlib.Core.Path.{◌∙◌, ◌≡◌, ap, refl, subst, sym}
use lib.IntN.{ℤ}
use lib.ListN.{get_or, length, length-append}
use Rattle.integer_reading.proofs.Spelling.{spells-none, spells_one, spells_then}
use Rattle.content_showing.proofs.Words.{joined-last, puts-spaced, word, words_long}
use Rattle.moving.proofs.Puts.{puts-as, puts_none, puts_then}
use Rattle.moving.specs.Contents.{AsText, ContentMoved, InText, Spells}
use Rattle.moving.specs.Puts.{Puts}
use Rattle.number.specs.Number.{shortest}
use Rattle.table.proofs.Words.{words-none}
use Rattle.table.specs.Bytes.{attach, is_white, not_empty, pieces, words}
use Rattle.table.specs.Result.{Result, ◌>>=◌, bad, every, good}
use Rattle.table.specs.Shape.{Shape, Truths, Whole, Width, last}
use Rattle.tabledata.specs.TableData.{element_bytes, element_text, integer_word, joined, spaced, text_elements, truth_text, truth_word}

-- ---- the words of a text in two parts, with a space between

pieces-some : (w : List ℕ) → 1 ≤ length (pieces w)
unfolding pieces attach
pieces-some [] = omega arith
pieces-some (c ∷ w) = by (is_white c) (pieces w)
  where
    by : (t : Bool) (ps : List (List ℕ)) → 1 ≤ length (cond t ([] ∷ ps) (attach c ps))
    by true ps = omega arith
    by false [] = omega arith
    by false (p ∷ ps) = omega arith

pieces-join : (w v : List ℕ) → pieces (w ++ (32 ∷ v)) ≡ pieces w ++ pieces v
unfolding pieces attach is_white
pieces-join [] v = refl
pieces-join (c ∷ w) v = rw (pieces-join w v) (by (is_white c) (pieces w) (pieces v) (pieces-some w))
  where
    by : (t : Bool) (ps qs : List (List ℕ)) → 1 ≤ length ps → cond t ([] ∷ (ps ++ qs)) (attach c (ps ++ qs)) ≡ cond t ([] ∷ ps) (attach c ps) ++ qs
    by true ps qs h = refl
    by false [] qs h = absurd (omega arith)
    by false (p ∷ ps) qs h = refl

filled-join : (ps qs : List (List ℕ)) → not_empty (ps ++ qs) ≡ not_empty ps ++ not_empty qs
unfolding not_empty
filled-join [] qs = refl
filled-join ([] ∷ ps) qs = filled-join ps qs
filled-join ((c ∷ w) ∷ ps) qs = ap (λ (t : List (List ℕ)). (c ∷ w) ∷ t) (filled-join ps qs)

words-join : (w v : List ℕ) → words (w ++ (32 ∷ v)) ≡ words w ++ words v
unfolding words
words-join w v = ap not_empty (pieces-join w v) ∙ filled-join (pieces w) (pieces v)

-- w ends between words
abbrev Clean : List ℕ → Type 0
Clean w = (v : List ℕ) → words (w ++ v) ≡ words w ++ words v

words-space : (w : List ℕ) → words (w ++ (32 ∷ [])) ≡ words w
words-space w = words-join w [] ∙ ap (λ (t : List (List ℕ)). words w ++ t) words-none ∙ append-nil (words w)

clean-space : (w : List ℕ) → Clean (w ++ (32 ∷ []))
clean-space w v = ap words (append_assoc w (32 ∷ []) v) ∙ words-join w v ∙ ap (λ (t : List (List ℕ)). t ++ words v) (sym (words-space w))

every-join : (f : List ℕ → Result ℕ ℤ) (ws vs : List (List ℕ)) (ds : List ℤ) → every f vs ≡ good ds → every f (ws ++ vs) ≡ (every f ws >>= λ es. good (es ++ ds))
unfolding every
every-join f [] vs ds h = h
every-join f (w ∷ ws) vs ds h = rw (every-join f ws vs ds h) (by (f w) (every f ws))
  where
    by : (r : Result ℕ ℤ) (t : Result ℕ (List ℤ)) → (r >>= λ e. t >>= (λ es. good (es ++ ds)) >>= λ es. good (e ∷ es)) ≡ (r >>= (λ e. t >>= λ es. good (e ∷ es)) >>= λ es. good (es ++ ds))
    by (bad n) t = refl
    by (good e) (bad n) = refl
    by (good e) (good es) = refl

-- ---- kinds whose elements are words, each read by f and written by g

pub record Worded (k : Shape) (g : ℤ → List ℕ) : Type 0 where
  pub f : List ℕ → Result ℕ ℤ
  pub reads : (cs : List ℕ) → text_elements k cs ≡ every f (words cs)
  pub writes : (es : List ℤ) → element_text k es ≡ good (spaced (map g es))

pub truths-worded : Worded Truths truth_text
unfolding text_elements element_text element_bytes
truths-worded = record { f = truth_word; reads = λ cs. refl; writes = λ es. refl }

pub whole-worded : (signed : Bool) (v : Width) → Worded (Whole signed v) shortest
unfolding text_elements element_text element_bytes
whole-worded signed v = record { f = integer_word signed (suc (last v)); reads = λ cs. refl; writes = λ es. refl }

-- ---- what is copied so far, a space behind each word in the buffer

pub record WordsTo (k : Shape) (g : ℤ → List ℕ) (s : List ℕ) (from at : ℕ) (old : List ℕ) (first : ℕ) (new : List ℕ) (o count : ℕ) : Type 0 where
  pub w : List ℕ
  pub es : List ℤ
  pub spells : Spells s from at w
  pub elements : text_elements k w ≡ good es
  pub puts : Puts old first (joined (word g) es) new o
  pub counted : count ≡ length es

-- up to where another word may begin
pub record Between (k : Shape) (g : ℤ → List ℕ) (s : List ℕ) (from at : ℕ) (old : List ℕ) (first : ℕ) (new : List ℕ) (o count : ℕ) : Type 0 where
  pub so_far : WordsTo k g s from at old first new o count
  pub clean : (v : List ℕ) → words (so_far.w ++ v) ≡ words so_far.w ++ words v

-- as many spaces as words
pub words-few : {k : Shape} {g : ℤ → List ℕ} {s : List ℕ} {from at : ℕ} {old : List ℕ} {first : ℕ} {new : List ℕ} {o count : ℕ} → WordsTo k g s from at old first new o count → count ≤ o
words-few {g = g} r = omega (arith, r.counted, r.puts.next-is, words_long g r.es)

module _ {k : Shape} {g : ℤ → List ℕ} (d : Worded k g) where
  pub words-start : {s : List ℕ} {from : ℕ} {old : List ℕ} {first : ℕ} → from ≤ length s → first ≤ length old → Between k g s from from old first old first 0
  unfolding joined every
  words-start {s} {from} {old} {first} h i = record {
    so_far = record {
      w = [];
      es = [];
      spells = spells-none s from h;
      elements = d.reads [] ∙ ap (every d.f) words-none;
      puts = puts_none old first i;
      counted = refl;
    };
    clean = λ v. rw words-none;
  }

  -- a word more
  pub words_more : {s : List ℕ} {from at next : ℕ} {old : List ℕ} {first : ℕ} {row new : List ℕ} {o e count : ℕ} {z : ℤ}
      → Between k g s from at old first row o count → InText k s at next (z ∷ []) → Puts row o (word g z) new e → WordsTo k g s from next old first new e (count + 1)
  words_more {z = z} r i q =
      let t = r.so_far in
      record {
        w = t.w ++ i.word;
        es = t.es ++ (z ∷ []);
        spells = spells_then t.spells i.spells;
        elements = d.reads (t.w ++ i.word) ∙ ap (every d.f) (r.clean i.word)
            ∙ every-join d.f (words t.w) (words i.word) (z ∷ []) (sym (d.reads i.word) ∙ i.elements)
            ∙ ap (λ (x : Result ℕ (List ℤ)). x >>= λ es. good (es ++ (z ∷ []))) (sym (d.reads t.w) ∙ t.elements);
        puts = puts-as (sym (joined-last (word g) t.es z)) (puts_then t.puts q);
        counted = omega (arith, t.counted, length-append t.es (z ∷ []));
      }

  module _ {s : List ℕ} {from at : ℕ} {old : List ℕ} {first : ℕ} {new : List ℕ} {o count : ℕ} (r : WordsTo k g s from at old first new o count) where
    -- and the space behind it
    pub words-between : at < length s → get_or s at 0 ≡ 32 → Between k g s from (at + 1) old first new o count
    words-between h e = record {
      so_far = record {
        w = r.w ++ (32 ∷ []);
        es = r.es;
        spells = spells_then r.spells
            (subst (λ (c : ℕ). Spells s at (at + 1) (c ∷ [])) e (spells_one s at h (λ f. omega (arith, e, f), λ f. omega (arith, e, f), λ f. omega (arith, e, f))));
        elements = d.reads (r.w ++ (32 ∷ [])) ∙ ap (every d.f) (words-space r.w) ∙ sym (d.reads r.w) ∙ r.elements;
        puts = r.puts;
        counted = r.counted;
      };
      clean = clean-space r.w;
    }

    -- the last space does not count
    pub words-moved : 1 ≤ count → ContentMoved (InText k s from) (AsText k) old first new count at (o - 1)
    words-moved h = record {
      es = r.es;
      bytes = spaced (map g r.es);
      reads = record { word = r.w; spells = r.spells; elements = r.elements };
      writes = d.writes r.es;
      puts = puts-spaced g r.es (omega (arith, r.counted)) r.puts;
      count-is = r.counted;
    }
