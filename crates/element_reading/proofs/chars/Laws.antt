-- Characters that are elements as they stand, for `copy_plain` and `chars`.
use Prim.Native.Nat.{◌+◌, ◌-◌, ℕ}
use native.Mathlib.Omega.{arith}
use mathlib.Core.Bool.{◌&&◌, and_assoc, and-false, and-true, false, true}
use mathlib.Core.List.{List, [], ◌++◌, ◌∷◌, append_assoc, map}
use mathlib.Core.Path.{◌∙◌, ◌≡◌, ap, refl, sym}
use lib.IntN.{pos, ℤ}
use lib.ListN.{set}
use Rattle.table.specs.Result.{bad, good}
use Rattle.table.specs.Shape.{Text}
use Rattle.tabledata.specs.TableData.{all_text, is_text, text_elements}
use Rattle.element_reading.proofs.Passing.{passed_then}
use Rattle.element_reading.proofs.elements.Laws.{ReadTo, stored_more}
use Rattle.element_reading.specs.Elements.{Copied, Stored}
use Rattle.character_reading.specs.declared.characters.Source.{Source}

-- ---- all characters are text

text-append : (w v : List ℕ) → all_text (w ++ v) ≡ (all_text w && all_text v)
unfolding all_text
text-append [] v = refl
text-append (c ∷ w) v = rw (text-append w v) (sym (and_assoc (is_text c) (all_text w) (all_text v)))

text-one : (c : ℕ) → all_text (c ∷ []) ≡ is_text c
unfolding all_text
text-one c = and-true (is_text c)

pub text-none : all_text [] ≡ true
unfolding all_text
text-none = refl

pub text-more : (w : List ℕ) (c : ℕ) → all_text w ≡ true → is_text c ≡ true → all_text (w ++ (c ∷ [])) ≡ true
text-more w c h t = rw (text-append w (c ∷ []), text-one c, h, t)

-- ---- what characters mean

pub record CharsAre (w : List ℕ) (es : List ℤ) : Type 0 where
  pub codes : es ≡ map pos w
  pub text : all_text w ≡ true

pub chars-none : CharsAre [] []
chars-none = record { codes = refl; text = text-none }

pub chars-are : (w : List ℕ) (es : List ℤ) → CharsAre w es → text_elements Text w ≡ good es
unfolding text_elements
chars-are w es p = rw (p.text, p.codes)

-- a character that no cell may have, behind w
pub chars-spoilt : (w : List ℕ) (c : ℕ) → is_text c ≡ false → (v : List ℕ) → text_elements Text (w ++ (c ∷ []) ++ v) ≡ bad 11
unfolding text_elements
chars-spoilt w c h v = rw (text-append (w ++ (c ∷ [])) v, text-append w (c ∷ []), text-one c, h, and-false)

map-append : (w v : List ℕ) → map pos (w ++ v) ≡ map pos w ++ map pos v
map-append [] v = refl
map-append (c ∷ w) v = ap (λ (l : List ℤ). pos c ∷ l) (map-append w v)

pub chars-more : (w v : List ℕ) (es : List ℤ) → CharsAre w es → all_text v ≡ true → CharsAre (w ++ v) (es ++ map pos v)
chars-more w v es p t = record { codes = rw (p.codes, map-append w v); text = rw (text-append w v, p.text, t) }

pub char-more : (w : List ℕ) (c : ℕ) (es : List ℤ) → CharsAre w es → is_text c ≡ true → CharsAre (w ++ (c ∷ [])) (es ++ (pos c ∷ []))
char-more w c es p t = chars-more w (c ∷ []) es p (rw (text-one c) t)

pub stored-char : (es : List ℤ) (w : List ℕ) (c n : ℕ) (l : List ℤ) → Stored (es ++ map pos w) n l → Stored (es ++ map pos (w ++ (c ∷ []))) (n + 1) (set l n (pos c))
stored-char es w c n l p = rw (map-append w (c ∷ []), ← append_assoc) (stored_more (es ++ map pos w) n l (pos c) p)

pub chars-copied : {source : Source} {s : List ℕ} {from i n j : ℕ} {entry l m : List ℤ}
    → ReadTo CharsAre source s from i n entry l → Copied s i n l m j → ReadTo CharsAre source s from j (n + (j - i)) entry m
chars-copied r k = record {
  w = _;
  es = _;
  means = chars-more r.w _ r.es r.means k.text;
  passed = passed_then r.passed (k.passed _);
  stored = k.stored r.es r.stored;
  long = k.long ∙ r.long;
  few = omega (arith, r.few, k.low);
  low = omega (arith, r.low, k.low);
  high = k.high;
}
