-- What the text passed over comes to. `Passed source s from i w` says that the characters from one place to another are w, so that the whole cell
-- is judged by w and what is left; each loop of the code keeps such a w, of which it holds only what it needs: `WordTo` for the loops that
-- read one word (`truth_piece`, `integer_piece`), `ReadTo` (elements.Laws) for those that read a cell.
use Prim.Native.Nat.{◌+◌, ◌<◌, ◌≤◌, ℕ}
use native.Mathlib.Nat.{le_refl}
use native.Mathlib.Omega.{arith}
use mathlib.Core.Bool.{false, true}
use mathlib.Core.List.{List, [], ◌++◌, ◌∷◌, append_assoc, append-nil}
use mathlib.Core.Path.{◌∙◌, ◌≡◌, ap, refl, sym}
use lib.IntN.{ℤ}
use lib.ListN.{drop, get_or, length}
use Rattle.table.proofs.Laws.{NoWhite, bad-good}
use Rattle.table.proofs.Words.{no-white-more}
use Rattle.table.specs.Bytes.{is_white}
use Rattle.table.specs.Result.{Result, ◌>>=◌, bad, good}
use Rattle.tabledata.proofs.Characters.{plain-is}
use Rattle.tabledata.specs.Clauses.{is_plain}
use Rattle.tabledata.specs.TableData.{cons_text}
use Rattle.character_reading.proofs.characters.Laws.{itself}
use Rattle.character_reading.specs.Characters.{ItemIs, characters_of, spoiled_number}
use Rattle.element_reading.specs.Elements.{Passed, onward}
use Rattle.element_reading.specs.Words.{CutAt, LastAt}
use Rattle.character_reading.specs.declared.characters.Item.TheVariants.{Code, End}
use Rattle.character_reading.specs.declared.characters.Source.{Source}
use Rattle.std.specs.Prelude.{Ok}

-- ---- what is made of characters

onward-ext : (g h : List ℕ → Result ℕ (List ℤ)) (r : Result ℕ (List ℕ × List ℕ)) → ((cs : List ℕ) → g cs ≡ h cs) → onward g r ≡ onward h r
unfolding onward
onward-ext g h (good p) e = rw (e p.0)
onward-ext g h (bad n) e = refl

onward-code : (g : List ℕ → Result ℕ (List ℤ)) (c : ℕ) (r : Result ℕ (List ℕ × List ℕ)) → onward g (cons_text c r) ≡ onward (λ cs. g (c ∷ cs)) r
unfolding onward cons_text
onward-code g c (good p) = refl
onward-code g c (bad n) = refl

pub onward-bad : (g : List ℕ → Result ℕ (List ℤ)) (r : Result ℕ (List ℕ × List ℕ)) → ((cs : List ℕ) → g cs ≡ bad 11) → onward g r ≡ bad (spoiled_number r)
unfolding onward spoiled_number
onward-bad g (good p) e = rw (e p.0)
onward-bad g (bad n) e = refl

pub onward-end : (g : List ℕ → Result ℕ (List ℤ)) (t : List ℕ) → onward g (good ([], t)) ≡ (g [] >>= λ es. good (es, t))
unfolding onward
onward-end g t = refl

pub onward-broken : (g : List ℕ → Result ℕ (List ℤ)) {n : ℕ} → onward g (bad n) ≡ bad n
unfolding onward
onward-broken g = refl

broken-back : {m : ℕ} (r : Result ℕ (List ℕ × List ℕ)) → onward (λ cs. good []) r ≡ bad m → r ≡ bad m
unfolding onward
broken-back (good p) e = absurd (bad-good (sym e))
broken-back {m} (bad n) e = ap bad (let q : ◌≡◌ {A = Result ℕ (List ℤ × List ℕ)} (bad n) (bad m) = e in cc)

-- ---- passing over characters

pub passed_none : {source : Source} {s : List ℕ} {i : ℕ} → Passed source s i i []
passed_none = record { passes = λ g. refl }

pub passed_then : {source : Source} {s : List ℕ} {i j k : ℕ} {w v : List ℕ} → Passed source s i j w → Passed source s j k v → Passed source s i k (w ++ v)
passed_then {source} {s} {k = k} {w = w} {v = v} p q = record {
  passes = λ g.
      p.passes g ∙ q.passes (λ cs. g (w ++ cs))
      ∙ onward-ext (λ cs. g (w ++ (v ++ cs))) (λ cs. g (w ++ v ++ cs)) (characters_of source (drop k s)) (λ cs. ap g (sym (append_assoc w v cs)));
}

pub passed-code : {source : Source} {s : List ℕ} {i j c : ℕ} → characters_of source (drop i s) ≡ cons_text c (characters_of source (drop j s)) → Passed source s i j (c ∷ [])
passed-code {source} {s} {j = j} {c = c} e = record { passes = λ g. ap (onward g) e ∙ onward-code g c (characters_of source (drop j s)) }

pub passed-plain : (source : Source) (s : List ℕ) (i : ℕ) → i < length s → is_plain (get_or s i 0) ≡ true → Passed source s i (i + 1) (get_or s i 0 ∷ [])
passed-plain source s i h p = let q = plain-is (get_or s i 0) p in passed-code (itself s i source h (λ _. q.0))

-- ---- a word so far, and how it ends

pub record WordTo (Stands : List ℕ → Type 0) (source : Source) (s : List ℕ) (from i : ℕ) : Type 0 where
  pub w : List ℕ
  pub stands : Stands w
  pub word : NoWhite w
  pub passed : Passed source s from i w
  pub low : from ≤ i
  pub high : i ≤ length s

pub word_none : {Stands : List ℕ → Type 0} {source : Source} {s : List ℕ} {from : ℕ} → Stands [] → from ≤ length s → WordTo Stands source s from from
word_none {from = from} a h = record { w = []; stands = a; word = tt; passed = passed_none; low = le_refl from; high = h }

module _ {Stands : List ℕ → Type 0} {source : Source} {s : List ℕ} {from i : ℕ} (p : WordTo Stands source s from i) where
  pub word-broken : {n : ℕ} → characters_of source (drop i s) ≡ bad n → characters_of source (drop from s) ≡ bad n
  word-broken e = broken-back (characters_of source (drop from s)) (p.passed.passes (λ cs. good []) ∙ ap (onward (λ cs. good [])) e ∙ onward-broken _)

  pub word-ends : {next : ℕ} → ItemIs source (characters_of source (drop i s)) s i (Ok (End next)) → LastAt Stands source s from next
  word-ends {next} t = record {
    w = p.w;
    stands = p.stands;
    word = p.word;
    ends = λ g. p.passed.passes g ∙ ap (onward (λ cs. g (p.w ++ cs))) t.found ∙ onward-end (λ cs. g (p.w ++ cs)) (drop next s) ∙ rw append-nil;
    low = omega (arith, p.low, t.within.0);
    high = t.within.1;
  }

  module _ {c next : ℕ} (t : ItemIs source (characters_of source (drop i s)) s i (Ok (Code c next))) where
    pub word-cuts : is_white c ≡ true → CutAt Stands source s from next
    word-cuts k = record {
      w = p.w;
      stands = p.stands;
      word = p.word;
      white = c;
      is_white = k;
      passed = passed_then p.passed (passed-code t.found);
      low = omega (arith, p.low, t.within.0);
      high = t.within.1;
    }

    pub word_more : {Next : List ℕ → Type 0} → is_white c ≡ false → Next (p.w ++ (c ∷ [])) → WordTo Next source s from next
    word_more k a = record {
      w = p.w ++ (c ∷ []);
      stands = a;
      word = no-white-more p.w c p.word k;
      passed = passed_then p.passed (passed-code t.found);
      low = omega (arith, p.low, t.within.0);
      high = t.within.1;
    }
