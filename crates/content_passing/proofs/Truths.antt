-- Booleans in a row: bytes that have letters are elements, and are put as their letters.
use Prim.Native.Nat.{◌*◌, ◌+◌, ◌<◌, ◌≤◌, ℕ}
use native.Mathlib.Omega.{arith}
use mathlib.Core.Bool.{Bool, false, false≢true, true}
use mathlib.Core.List.{List, [], ◌++◌, ◌∷◌, map}
use mathlib.Core.Path.{◌∙◌, ◌≡◌, ap, ap₂, refl, sym}
use borrow.Author.Tests.{eq-eqb}
use lib.Bits.{and_le_l, and_le_r, bit_or, or_add_and}
use lib.Dec.{eqb}
use lib.IntN.{pos, ℤ}
use lib.ListN.{drop, get_or, length, length-drop, length-map, take}
use lib.Seq.{length-take-le}
use mir.Val.{bool_byte}
use Rattle.binary.proofs.Digits.{map-join}
use Rattle.binary.specs.Binary.{content, content_bytes, element, numbers, numbers_in, truth}
use Rattle.content_passing.proofs.Copies.{next-taken}
use Rattle.content_passing.proofs.Letters.{letter-value, value_of}
use Rattle.content_passing.proofs.Ones.{truths-form}
use Rattle.content_passing.specs.Letters.{letter_of}
use Rattle.moving.specs.Contents.{AsBinary, ContentMoved, InBinary}
use Rattle.moving.specs.Puts.{Puts}
use Rattle.number.specs.Number.{of_digits}
use Rattle.table.proofs.Laws.{all_append}
use Rattle.table.specs.All.{All}
use Rattle.table.specs.Cell.{truth_byte}
use Rattle.table.specs.Result.{every, good}
use Rattle.table.specs.Shape.{Truths}

abbrev pub letter : ℕ → ℕ
letter b = letter_of (truth b)

abbrev pub HasLetter : ℕ → Type 0
HasLetter b = letter b ≡ 0 → ⊥

abbrev value : ℕ → ℤ
value b = pos (value_of (letter b))

-- ---- a turn of the loop

pub next-letters : (s : List ℕ) (from k b : ℕ) → from + k < length s → b ≡ letter (get_or s (from + k) 0)
    → map letter (take k (drop from s)) ++ (b ∷ []) ≡ map letter (take (k + 1) (drop from s))
next-letters s from k b h e =
    ap (λ (x : ℕ). map letter (take k (drop from s)) ++ (x ∷ [])) e
    ∙ sym (ap (map letter) (next-taken s from k h) ∙ map-join letter (take k (drop from s)) (get_or s (from + k) 0 ∷ []))

or-none : (x y : ℕ) → bit_or x y ≡ 0 → (x ≡ 0) × (y ≡ 0)
or-none x y h = let l = and_le_l x y in let r = and_le_r x y in let e = or_add_and x y in (omega arith, omega arith)

-- what is or-ed over the bytes is 0 only where all have letters
pub next-found : (s : List ℕ) (from k none b : ℕ) → from + k < length s → b ≡ letter (get_or s (from + k) 0)
    → (none ≡ 0 → All HasLetter (take k (drop from s)))
    → bit_or none (bool_byte (eqb b 0)) ≡ 0 → All HasLetter (take (k + 1) (drop from s))
next-found s from k none b h e all z =
    let q = or-none none (bool_byte (eqb b 0)) z in
    let has : HasLetter (get_or s (from + k) 0) = λ x. set (eqb b 0) (eq-eqb b 0 (e ∙ x)) q.1 in
    rw (next-taken s from k h) (all_append _ (take k (drop from s)) (get_or s (from + k) 0 ∷ []) (all q.0) (has, tt))
  where
    set : (t : Bool) → t ≡ true → bool_byte t ≡ 0 → ⊥
    set true p z = omega arith
    set false p z = absurd (false≢true p)

-- ---- the whole

truth-more : (b : ℕ) (z : ℤ) (p : List ℕ) (zs : List ℤ) → truth b ≡ good z → every (element Truths) (numbers 1 (length p) p) ≡ good zs
    → every (element Truths) (numbers 1 (length (b ∷ p)) (b ∷ p)) ≡ good (z ∷ zs)
unfolding every element numbers of_digits
truth-more b z p zs h m = let e : 0 * 256 + b ≡ b = omega arith in rw (e, h, m)

truths-read : (p : List ℕ) → All HasLetter p → every (element Truths) (numbers 1 (length p) p) ≡ good (map value p)
unfolding every numbers
truths-read [] a = refl
truths-read (b ∷ p) a = truth-more b (value b) p (map value p) (letter-value b a.0) (truths-read p a.1)

letters-form : (p : List ℕ) → All HasLetter p → map letter p ≡ map truth_byte (map value p)
unfolding letter_of
letters-form [] a = refl
letters-form (b ∷ p) a = ap₂ (λ (x : ℕ) (l : List ℕ). x ∷ l) (ap letter_of (letter-value b a.0)) (letters-form p a.1)

-- all n bytes have letters, and k of them are put
pub truths-moved : (n k : ℕ) (s old new : List ℕ) (at o e : ℕ) → at + n ≤ length s → k ≡ n → e ≡ o + n → All HasLetter (take k (drop at s))
    → Puts old o (map letter (take k (drop at s))) new (o + k) → ContentMoved (InBinary Truths n s at) (AsBinary Truths) old o new n (at + n) e
unfolding content_bytes content numbers_in
truths-moved n k s old new at o e h q f a u =
    let p : List ℕ = take n (drop at s) in
    let l : length p ≡ n = length-take-le n (drop at s) (simp length-drop (omega arith)) in
    let b : All HasLetter p = rw q at a in
    record {
      es = map value p;
      bytes = map letter p;
      reads = record { elements = ap (λ (j : ℕ). every (element Truths) (numbers 1 j p)) (sym l) ∙ truths-read p b; next-is = refl };
      writes = letters-form p b ∙ truths-form (map value p);
      puts = rw (f, ← q) u;
      count-is = sym (length-map p value ∙ l);
    }
