-- Booleans: the letter of each byte by computation over the bytes, and the elements where each byte has one.
use Prim.Native.Nat.{◌*◌, ◌+◌, ◌-◌, ◌<◌, ◌≤◌, suc, ℕ}
use native.Mathlib.Numerals.{add-one}
use native.Mathlib.Omega.{arith}
use mathlib.Core.Bool.{Bool, ◌||◌, false, true}
use mathlib.Core.List.{List, [], ◌++◌, ◌∷◌}
use mathlib.Core.Path.{◌∙◌, ◌≡◌, ap, ap₂, refl, subst, sym}
use lib.Bits.{and_le_l, and_le_r, bit_or, or_add_and}
use lib.Dec.{eqb}
use lib.IntN.{pos, ℤ}
use lib.ListN.{drop, get_or, length, length-drop, take}
use lib.Seq.{get_or-drop, take-suc}
use mir.Val.{bool_byte}
use borrow.Author.Tests.{eq-eqb, eqb-true}
use Rattle.binary.specs.Binary.{content_bytes, element, truth}
use Rattle.binary_reading.proofs.Cells.{content-truths}
use Rattle.content_passing.specs.Letters.{letter_of}
use Rattle.content_showing.proofs.Text.{part-long}
use Rattle.content_showing.proofs.Words.{puts-spaced, word}
use Rattle.content_showing.specs.Showing.{IsTruth, TruthsPut, truth_letters, truth_shown}
use Rattle.moving.proofs.Puts.{puts-as, puts_none, puts_then}
use Rattle.moving.specs.Contents.{AsText, ContentMoved, InBinary}
use Rattle.moving.specs.Puts.{Puts}
use Rattle.table.proofs.Laws.{all_append, each_below}
use Rattle.table.specs.All.{All}
use Rattle.table.specs.Cell.{truth_byte}
use Rattle.table.specs.Result.{every, good}
use Rattle.table.specs.Shape.{Truths}
use Rattle.tabledata.specs.TableData.{element_bytes, element_text, joined, truth_text}

-- ---- one byte

pub letter-shown : (b : ℕ) → letter_of (truth b) ≡ truth_shown b
unfolding letter_of truth truth_byte truth_shown
letter-shown b = by (eqb b 84 || eqb b 116 || eqb b 49) (eqb b 70 || eqb b 102 || eqb b 48) (eqb b 0 || eqb b 32 || eqb b 63) refl refl refl
  where
    by : (x y z : Bool) → (eqb b 84 || eqb b 116 || eqb b 49) ≡ x → (eqb b 70 || eqb b 102 || eqb b 48) ≡ y → (eqb b 0 || eqb b 32 || eqb b 63) ≡ z → letter_of (truth b) ≡ truth_shown b
    by true y z e f g = rw e refl
    by false true z e f g = rw (e, f) refl
    by false false true e f g = rw (e, f, g) refl
    by false false false e f g = rw (e, f, g) refl

-- the element that a byte is, by its letter
record TruthIs (b : ℕ) : Type 0 where
  value : ℤ
  reads : element Truths b ≡ good value
  written : truth_byte value ≡ truth_shown b

truth-is : (b : ℕ) → IsTruth b → TruthIs b
unfolding element truth truth_shown truth_byte
truth-is b h = by (eqb b 84 || eqb b 116 || eqb b 49) (eqb b 70 || eqb b 102 || eqb b 48) (eqb b 0 || eqb b 32 || eqb b 63) refl refl refl
  where
    by : (x y z : Bool) → (eqb b 84 || eqb b 116 || eqb b 49) ≡ x → (eqb b 70 || eqb b 102 || eqb b 48) ≡ y → (eqb b 0 || eqb b 32 || eqb b 63) ≡ z → TruthIs b
    by true y z e f g = record { value = pos 1; reads = rw e; written = rw e }
    by false true z e f g = record { value = pos 0; reads = rw (e, f); written = rw (e, f) }
    by false false true e f g = record { value = pos 2; reads = rw (e, f, g); written = rw (e, f, g) }
    by false false false e f g = absurd (h (rw (e, f, g)))

-- ---- bytes one after the other

letters-join : (xs ys : List ℕ) → truth_letters (xs ++ ys) ≡ truth_letters xs ++ truth_letters ys
unfolding truth_letters
letters-join [] ys = refl
letters-join (x ∷ xs) ys = ap (λ (l : List ℕ). truth_shown x ∷ 32 ∷ l) (letters-join xs ys)

pub truths-start : (s old : List ℕ) (at o : ℕ) → o ≤ length old → TruthsPut (take 0 (drop at s)) old o old (o + 2 * 0) 0
unfolding truth_letters
truths-start s old at o h = record { puts = subst (λ (k : ℕ). Puts old o [] old k) (let e : o ≡ o + 2 * 0 = omega arith in e) (puts_none old o h); all = λ e. tt }

none-bad : (x y : ℕ) → bit_or x y ≡ 0 → (x ≡ 0) × (y ≡ 0)
none-bad x y e = (omega (arith, or_add_and x y, and_le_r x y), omega (arith, or_add_and x y, and_le_l x y))

not-zero : (x : ℕ) → bool_byte (eqb x 0) ≡ 0 → x ≡ 0 → ⊥
not-zero x e z = let t : bool_byte (eqb x 0) ≡ 1 = ap bool_byte (eq-eqb x 0 z) in omega arith

pub truth-more : {old row new : List ℕ} {o : ℕ} (s : List ℕ) (at k b r flaw : ℕ) → at + k < length s → b ≡ get_or s (at + k) 0 → r ≡ truth_shown b
    → Puts row (o + 2 * k) (truth_shown b ∷ 32 ∷ []) new (o + 2 * k + 2) → TruthsPut (take k (drop at s)) old o row (o + 2 * k) flaw
    → TruthsPut (take (k + 1) (drop at s)) old o new (o + 2 * (k + 1)) (bit_or flaw (bool_byte (eqb r 0)))
unfolding truth_letters
truth-more {old} {row} {new} {o} s at k b r flaw h q v u t =
    let one : take k (drop at s) ++ (b ∷ []) ≡ take (k + 1) (drop at s) =
    ap (λ (c : ℕ). take k (drop at s) ++ (c ∷ [])) (q ∙ sym (get_or-drop at s k 0))
    ∙ sym (ap (λ (j : ℕ). take j (drop at s)) (add-one k) ∙ take-suc (drop at s) k 0 (simp length-drop (omega arith))) in
    let n : o + 2 * k + 2 ≡ o + 2 * (k + 1) = omega arith in
    record {
      puts = subst (λ (j : ℕ). Puts old o (truth_letters (take (k + 1) (drop at s))) new j) n
          (puts-as (sym (letters-join (take k (drop at s)) (b ∷ [])) ∙ ap truth_letters one) (puts_then t.puts u));
      all = λ e. subst (All IsTruth) one (all_append IsTruth (take k (drop at s)) (b ∷ []) (t.all (none-bad flaw _ e).0)
          ((λ z. not-zero r (none-bad flaw _ e).1 (v ∙ z)), tt));
    }

-- ---- the elements and their text

record TruthsAre (p : List ℕ) : Type 0 where
  es : List ℤ
  reads : every (element Truths) p ≡ good es
  written : truth_letters p ≡ joined (word truth_text) es
  long : length es ≡ length p

truths-are : (p : List ℕ) → All IsTruth p → TruthsAre p
unfolding every joined truth_letters truth_text
truths-are [] h = record { es = []; reads = refl; written = refl; long = refl }
truths-are (b ∷ p) h =
    let t = truth-is b h.0 in
    let r = truths-are p h.1 in
    record {
      es = t.value ∷ r.es;
      reads = rw (t.reads, r.reads);
      written = ap₂ (λ (x : ℕ) (l : List ℕ). x ∷ 32 ∷ l) (sym t.written) r.written;
      long = ap suc r.long;
    }

pub truths-moved : {old new : List ℕ} {o flaw : ℕ} (s : List ℕ) (at n : ℕ) → 0 < n → at + n ≤ length s → flaw ≡ 0 → TruthsPut (take n (drop at s)) old o new (o + 2 * n) flaw
    → ContentMoved (InBinary Truths n s at) (AsText Truths) old o new n (at + n) (o + 2 * n - 1)
unfolding content_bytes element_text element_bytes
truths-moved s at n some h e t =
    let p : List ℕ = take n (drop at s) in
    let l : length p ≡ n = part-long s at n h in
    let r = truths-are p (t.all e) in
    record {
      es = r.es;
      bytes = _;
      reads = record { elements = content-truths n p l ∙ r.reads; next-is = refl };
      writes = refl;
      puts = puts-spaced truth_text r.es (omega (arith, r.long)) (puts-as r.written t.puts);
      count-is = sym (r.long ∙ l);
    }
