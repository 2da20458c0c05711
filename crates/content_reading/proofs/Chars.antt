-- The characters of a char cell: runs of bytes that stand for themselves, references, and what they come to: each character is a byte of the content.
use Prim.Native.Nat.{◌+◌, ◌-◌, ◌<◌, ◌≤◌, ℕ}
use native.Mathlib.Nat.{mod-eq_of_lt}
use native.Mathlib.Omega.{arith}
use mathlib.Core.Bool.{Bool, ◌&&◌, true}
use mathlib.Core.List.{List, [], ◌++◌, ◌∷◌, append-nil, map}
use mathlib.Core.Path.{◌∙◌, ◌≡◌, ap, ap₂, refl, subst, sym}
use lib.Dec.{lit<, ltb}
use borrow.Author.Tests.{ltb-true}
use lib.IntN.{pos}
use lib.ListN.{drop, get_or, length, length-drop, length-map, replicate, set, take, take-append-drop}
use lib.Seq.{drop-drop, get_or-drop, length-take-le, take-suc}
use Rattle.binary.specs.Binary.{bytes_of, number}
use Rattle.integer_reading.proofs.Spelling.{before-none, before-cons, spells-none, spells_one, spells_then, spells-to}
use Rattle.integer_reading.specs.Runs.{Passes}
use Rattle.moving.proofs.Puts.{puts_none, puts_then, puts-wrote}
use Rattle.moving.specs.Contents.{AsBinary, ContentMoved, InText, Spells, content_form}
use Rattle.moving.specs.Puts.{Puts}
use Rattle.number.proofs.Laws.{to-of}
use Rattle.number.specs.Number.{of_digits, pattern, to_digits}
use Rattle.table.proofs.Laws.{all_append, all_drop, all_take, all-weaken, and_both}
use Rattle.table.specs.All.{All, AreBytes}
use Rattle.table.specs.Bytes.{after, same}
use Rattle.table.specs.Shape.{Text}
use Rattle.tabledata.proofs.Characters.{plain-is, text-low}
use Rattle.tabledata.proofs.Laws.{text-lt}
use Rattle.tabledata.specs.Clauses.{is_plain}
use Rattle.tabledata.specs.TableData.{all_text, characters, cons_text, emitted, expanded, follow, is_text, named, names, plain, step, text_elements}

-- ---- references that are written

abbrev all_bytes : List ℕ → Bool
all_bytes [] = true
all_bytes (b ∷ w) = ltb b 256 && all_bytes w

bytes_below : (w : List ℕ) → all_bytes w ≡ true → AreBytes w
bytes_below [] e = tt
bytes_below (b ∷ w) e = let q = and_both (ltb b 256) (all_bytes w) e in (ltb-true b 256 q.0, bytes_below w q.1)

-- four bytes by their number
four_are : (s w : List ℕ) (at : ℕ) → AreBytes s → all_bytes w ≡ true → length w ≡ 4 → at + 4 ≤ length s → of_digits 256 0 w ≡ of_digits 256 0 (take 4 (drop at s)) → take 4 (drop at s) ≡ w
four_are s w at a b l h e =
    let m : length (take 4 (drop at s)) ≡ 4 = length-take-le 4 (drop at s) (simp length-drop (omega arith)) in
    sym (to-of 256 (lit< tt) 0 (take 4 (drop at s)) (all_take _ 4 (drop at s) (all_drop _ at s a)))
    ∙ ap₂ (λ (n x : ℕ). to_digits 256 n x) (m ∙ sym l) (sym e)
    ∙ to-of 256 (lit< tt) 0 w (bytes_below w b)

-- what stands for one character
spells-as : (s w : List ℕ) (at n c : ℕ) → at + n ≤ length s → take n (drop at s) ≡ w → ((t : List ℕ) → characters plain (w ++ t) ≡ cons_text c (characters plain t))
    → Spells s at (at + n) (c ∷ [])
spells-as s w at n c h e f = record {
  spelled =
      ap (characters plain) (sym (take-append-drop n (drop at s)) ∙ ap (λ (v : List ℕ). v ++ drop n (drop at s)) e)
      ∙ f (drop n (drop at s)) ∙ ap (λ (t : List ℕ). cons_text c (characters plain t)) (drop-drop n at s)
      ∙ ap (cons_text c) (before-none (characters plain (drop (at + n) s))) ∙ before-cons c [] (characters plain (drop (at + n) s));
  onward = omega arith;
  inside = h;
}

lt-read : (t : List ℕ) → characters plain (38 ∷ 108 ∷ 116 ∷ 59 ∷ t) ≡ cons_text 60 (characters plain t)
unfolding characters step follow expanded emitted after named names same
lt-read t = refl

gt-read : (t : List ℕ) → characters plain (38 ∷ 103 ∷ 116 ∷ 59 ∷ t) ≡ cons_text 62 (characters plain t)
unfolding characters step follow expanded emitted after named names same
gt-read t = refl

amp-read : (t : List ℕ) → characters plain (38 ∷ 97 ∷ 109 ∷ 112 ∷ 59 ∷ t) ≡ cons_text 38 (characters plain t)
unfolding characters step follow expanded emitted after named names same
amp-read t = refl

module _ (s : List ℕ) (at x : ℕ) (a : AreBytes s) (h : at + 4 ≤ length s) (e : x ≡ of_digits 256 0 (take 4 (drop at s))) where
  pub lt-letter : x ≡ 644641851 → Spells s at (at + 4) (60 ∷ [])
  lt-letter k = spells-as s (38 ∷ 108 ∷ 116 ∷ 59 ∷ []) at 4 60 h (four_are s (38 ∷ 108 ∷ 116 ∷ 59 ∷ []) at a refl refl h (unfold of_digits in sym k ∙ e)) lt-read

  pub gt-letter : x ≡ 644314171 → Spells s at (at + 4) (62 ∷ [])
  gt-letter k = spells-as s (38 ∷ 103 ∷ 116 ∷ 59 ∷ []) at 4 62 h (four_are s (38 ∷ 103 ∷ 116 ∷ 59 ∷ []) at a refl refl h (unfold of_digits in sym k ∙ e)) gt-read

  pub amp-letter : x ≡ 643919216 → at + 5 ≤ length s → get_or s (at + 4) 0 ≡ 59 → Spells s at (at + 5) (38 ∷ [])
  amp-letter k l f =
      let four : take 4 (drop at s) ≡ 38 ∷ 97 ∷ 109 ∷ 112 ∷ [] = four_are s (38 ∷ 97 ∷ 109 ∷ 112 ∷ []) at a refl refl h (unfold of_digits in sym k ∙ e) in
      let five : take 5 (drop at s) ≡ 38 ∷ 97 ∷ 109 ∷ 112 ∷ 59 ∷ [] =
      take-suc (drop at s) 4 0 (simp length-drop (omega arith)) ∙ ap₂ (λ (u : List ℕ) (b : ℕ). u ++ (b ∷ [])) four (get_or-drop at s 4 0 ∙ f) in
      spells-as s (38 ∷ 97 ∷ 109 ∷ 112 ∷ 59 ∷ []) at 5 38 l five amp-read

-- a tab or a line's end
pub low-letter : (s : List ℕ) (at c : ℕ) → at < length s → get_or s at 0 ≡ c → 9 ≤ c → c ≤ 10 → Spells s at (at + 1) (c ∷ []) × (is_text c ≡ true) × (at < at + 1)
low-letter s at c h e k l =
    (subst (λ (b : ℕ). Spells s at (at + 1) (b ∷ [])) e (spells_one s at h (λ f. omega arith, λ f. omega arith, λ f. omega arith)), text-low c k l, omega arith)

-- ---- what is read so far

abbrev IsText : List ℕ → Type 0
IsText w = All (λ (c : ℕ). is_text c ≡ true) w

pub record TextTo (s : List ℕ) (from at : ℕ) (old : List ℕ) (first : ℕ) (new : List ℕ) (o : ℕ) : Type 0 where
  pub w : List ℕ
  pub text : All (λ (c : ℕ). is_text c ≡ true) w
  pub spells : Spells s from at w
  pub puts : Puts old first w new o

pub text-start : {s : List ℕ} {from : ℕ} {old : List ℕ} {first : ℕ} → from ≤ length s → first ≤ length old → TextTo s from from old first old first
text-start {s} {from} {old} {first} h k = record { w = []; text = tt; spells = spells-none s from h; puts = puts_none old first k }

module _ {s : List ℕ} {from at : ℕ} {old : List ℕ} {first : ℕ} {new : List ℕ} {o : ℕ} (r : TextTo s from at old first new o) {next : ℕ} where
  -- a run of bytes that stand for themselves
  pub text-run : {new' : List ℕ} {e : ℕ} → at ≤ next → Passes is_plain s at (next - at) → Puts new o (take (next - at) (drop at s)) new' e → TextTo s from next old first new' e
  text-run l p q = record {
    w = r.w ++ take (next - at) (drop at s);
    text = all_append _ r.w (take (next - at) (drop at s)) r.text (all-weaken _ _ (take (next - at) (drop at s)) (λ c h. (plain-is c h).1) p.all);
    spells = spells_then r.spells (spells-to s at next l (omega (arith, p.inside)) (all-weaken _ _ (take (next - at) (drop at s)) (λ c h. (plain-is c h).0) p.all));
    puts = puts_then r.puts q;
  }

  -- a character more
  pub text-letter : {c : ℕ} → Spells s at next (c ∷ []) × (is_text c ≡ true) × (at < next) → o < length new → TextTo s from next old first (set new o c) (o + 1)
  text-letter {c} p h = record {
    w = r.w ++ (c ∷ []);
    text = all_append _ r.w (c ∷ []) r.text (p.1, tt);
    spells = spells_then r.spells p.0;
    puts = puts_then r.puts (puts-wrote (record { now-is = refl; next-is = refl }) (omega arith));
  }

-- ---- what it comes to

pub all-text : (w : List ℕ) → IsText w → all_text w ≡ true
unfolding all_text
all-text [] h = refl
all-text (c ∷ w) h = rw (h.0, all-text w h.1)

codes-are : (w : List ℕ) → IsText w → map (number Text) (map pos w) ≡ w
unfolding number pattern
codes-are [] h = refl
codes-are (c ∷ w) h = ap₂ (λ (b : ℕ) (l : List ℕ). b ∷ l) (mod-eq_of_lt (omega (arith, text-lt c h.0))) (codes-are w h.1)

text-form : (w : List ℕ) → IsText w → w ≡ content_form Text (map pos w)
unfolding content_form bytes_of
text-form w h =
    let n : length (map pos w) - length (map (number Text) (map pos w)) ≡ 0 = omega (arith, length-map (map pos w) (number Text)) in
    sym (ap₂ (λ (l : List ℕ) (k : ℕ). l ++ replicate k 0) (codes-are w h) n ∙ append-nil w)

pub text-moved : {s : List ℕ} {from at : ℕ} {old : List ℕ} {first : ℕ} {new : List ℕ} {o : ℕ} → TextTo s from at old first new o
    → ContentMoved (InText Text s from) (AsBinary Text) old first new (o - first) at o
unfolding text_elements
text-moved r = record {
  es = map pos r.w;
  bytes = r.w;
  reads = record { word = r.w; spells = r.spells; elements = rw (all-text r.w r.text) };
  writes = text-form r.w r.text;
  puts = r.puts;
  count-is = omega (arith, r.puts.next-is, length-map r.w (λ (c : ℕ). pos c));
}
