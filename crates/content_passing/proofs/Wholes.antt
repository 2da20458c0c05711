-- Integers in bytes: what is read of the bytes is put as the bytes.
use Prim.Native.Nat.{◌%◌, ◌*◌, ◌+◌, ◌-◌, ◌<◌, ◌^◌, ◌≤◌, suc, zero, ℕ}
use native.Mathlib.Nat.{mod-eq_of_lt}
use native.Mathlib.Omega.{arith}
use mathlib.Core.Bool.{Bool, false, true}
use mathlib.Core.List.{List, [], ◌++◌, ◌∷◌, map}
use mathlib.Core.Path.{◌∙◌, ◌≡◌, ap, ap₂, refl, sym}
use lib.Dec.{lit<, ltb}
use lib.IntN.{negsuc, pos, ℤ}
use lib.ListN.{drop, length, length-drop, length-take, take, take-append-drop}
use lib.Seq.{length-take-le}
use Rattle.binary.specs.Binary.{bytes_of, content, content_bytes, element, groups, number, numbers, numbers_in}
use Rattle.moving.specs.Contents.{AsBinary, ContentMoved, InBinary, content_form}
use Rattle.moving.specs.Puts.{Puts}
use Rattle.number.proofs.Laws.{of_lt, to-of}
use Rattle.number.specs.Number.{of_digits, of_pattern, pattern, to_digits}
use Rattle.table.proofs.Laws.{all_drop, all_take, cond_cases}
use Rattle.table.specs.All.{AreBytes}
use Rattle.table.specs.Result.{every, good}
use Rattle.table.specs.Shape.{Whole, Width, half, last}

-- the pattern of an integer that a pattern stands for
pattern-of : (signed : Bool) (w n : ℕ) → n < 256 ^ w → pattern w (of_pattern signed w n) ≡ n
unfolding pattern of_pattern
pattern-of false w n h = mod-eq_of_lt h
pattern-of true w n h =
    cond_cases (λ (z : ℤ). pattern w z ≡ n) (ltb n (half w)) (pos n) (negsuc (256 ^ w - 1 - n))
    (λ _. mod-eq_of_lt h)
    (λ _. let e : (256 ^ w - 1 - n) % 256 ^ w ≡ 256 ^ w - 1 - n = mod-eq_of_lt (omega arith) in omega arith)

-- n integers of w bytes
module _ (g : Bool) (w : ℕ) where
  unfoldable pub elements : ℕ → List ℕ → List ℤ
  elements zero p = []
  elements (suc n) p = of_pattern g w (of_digits 256 0 (take w p)) ∷ elements n (drop w p)

  pub length-elements : (n : ℕ) (p : List ℕ) → length (elements n p) ≡ n
  unfolding elements
  length-elements zero p = refl
  length-elements (suc n) p = ap suc (length-elements n (drop w p))

  elements-bytes : (n : ℕ) (p : List ℕ) → length p ≡ n * w → AreBytes p → groups w (map (pattern w) (elements n p)) ≡ p
  unfolding groups elements
  elements-bytes zero [] l a = refl
  elements-bytes zero (b ∷ p) l a = absurd (omega arith)
  elements-bytes (suc n) p l a =
      let t : length (take w p) ≡ w = length-take w p ∙ omega arith in
      let b : AreBytes (take w p) = all_take _ w p a in
      let d : length (drop w p) ≡ n * w = length-drop w p ∙ omega arith in
      ap₂ ◌++◌
      (ap (to_digits 256 w) (pattern-of g w (of_digits 256 0 (take w p)) (rw t at (of_lt 256 (lit< tt) (take w p) b))) ∙ rw t at (to-of 256 (lit< tt) 0 (take w p) b))
      (elements-bytes n (drop w p) d (all_drop _ w p a))
      ∙ take-append-drop w p

module _ (g : Bool) (v : Width) where
  elements-read : (n : ℕ) (p : List ℕ) → every (element (Whole g v)) (numbers (suc (last v)) n p) ≡ good (elements g (suc (last v)) n p)
  unfolding every element numbers elements
  elements-read zero p = refl
  elements-read (suc n) p = rw (elements-read n (drop (suc (last v)) p))

  pub whole-read : (n : ℕ) (p : List ℕ) → content (Whole g v) n p ≡ good (elements g (suc (last v)) n p)
  unfolding content numbers_in
  whole-read n p = elements-read n p

  pub whole-form : (n : ℕ) (p : List ℕ) → length p ≡ n * suc (last v) → AreBytes p → p ≡ content_form (Whole g v) (elements g (suc (last v)) n p)
  unfolding content_form bytes_of number
  whole-form n p l a = sym (elements-bytes g (suc (last v)) n p l a)

  -- m bytes are moved as they stand
  pub whole-moved : (n m : ℕ) (s old new : List ℕ) (at o e : ℕ) → AreBytes s → m ≡ n * suc (last v) → at + m ≤ length s → Puts old o (take m (drop at s)) new e
      → ContentMoved (InBinary (Whole g v) n s at) (AsBinary (Whole g v)) old o new n (at + m) e
  unfolding content_bytes
  whole-moved n m s old new at o e a size h u =
      let p : List ℕ = take m (drop at s) in
      let l : length p ≡ m = length-take-le m (drop at s) (simp length-drop (omega arith)) in
      record {
        es = elements g (suc (last v)) n p;
        bytes = p;
        reads = record { elements = ap (λ (j : ℕ). content (Whole g v) n (take j (drop at s))) (sym size) ∙ whole-read n p; next-is = ap (λ (j : ℕ). at + j) size };
        writes = whole-form n p (l ∙ size) (all_take _ m (drop at s) (all_drop _ at s a));
        puts = u;
        count-is = sym (length-elements g (suc (last v)) n p);
      }
