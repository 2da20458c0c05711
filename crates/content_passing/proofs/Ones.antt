-- One element: where it stands in the input, and the bytes that it is put as.
use Prim.Native.Nat.{◌*◌, ◌+◌, ◌<◌, suc, zero, ℕ}
use native.Mathlib.Nat.{le_refl, one-mul}
use native.Mathlib.Omega.{arith}
use mathlib.Core.Bool.{Bool}
use mathlib.Core.List.{List, [], ◌∷◌, append-nil, map}
use mathlib.Core.Path.{◌∙◌, ◌≡◌, ap, refl, sym}
use lib.IntN.{negsuc, pos, ℤ}
use lib.ListN.{drop, get_or, length, take}
use lib.Seq.{drop-cons, take-take}
use Rattle.binary.specs.Binary.{bytes_of, content, content_bytes, element, groups, number, numbers, numbers_in, truth}
use Rattle.content_passing.proofs.Letters.{letter-value, value_of}
use Rattle.content_passing.specs.Letters.{letter_of}
use Rattle.moving.specs.Contents.{InBinary, content_form}
use Rattle.number.proofs.Laws.{low-pattern}
use Rattle.number.specs.Number.{of_digits, of_pattern, pattern, to_digits}
use Rattle.table.proofs.Laws.{last-le}
use Rattle.table.specs.Cell.{truth_byte}
use Rattle.table.specs.Result.{◌>>=◌, every, good}
use Rattle.table.specs.Shape.{Truths, Whole, Width, last}

-- ---- an integer

integer-content : (g : Bool) (v : Width) (d : List ℕ)
    → content (Whole g v) 1 (take (content_bytes (Whole g v) 1) d) ≡ good (of_pattern g (suc (last v)) (of_digits 256 0 (take (suc (last v)) d)) ∷ [])
unfolding content content_bytes numbers_in numbers every element
integer-content g v d =
    let w : ℕ = suc (last v) in
    ap (λ (t : List ℕ). good (of_pattern g w (of_digits 256 0 t) ∷ [])) (ap (λ (m : ℕ). take w (take m d)) (one-mul w) ∙ take-take w w d (le_refl w))

pub integer-found : (g : Bool) (v : Width) (s : List ℕ) (at next : ℕ) (z : ℤ)
    → z ≡ of_pattern g (suc (last v)) (of_digits 256 0 (take (suc (last v)) (drop at s))) → next ≡ at + suc (last v)
    → InBinary (Whole g v) 1 s at next (z ∷ [])
unfolding content_bytes
integer-found g v s at next z e n = record {
  elements = integer-content g v (drop at s) ∙ ap (λ (x : ℤ). good (x ∷ [])) (sym e);
  next-is = n ∙ ap (λ (m : ℕ). at + m) (sym (one-mul (suc (last v))));
}

pub integer-form : (g : Bool) (v : Width) (z : ℤ) → to_digits 256 (suc (last v)) (pattern 8 z) ≡ content_form (Whole g v) (z ∷ [])
unfolding content_form bytes_of groups number
integer-form g v z = low-pattern (suc (last v)) z (last-le v) ∙ sym (append-nil (to_digits 256 (suc (last v)) (pattern (suc (last v)) z)))

-- ---- booleans

pub truths-form : (es : List ℤ) → map truth_byte es ≡ content_form Truths es
unfolding content_form bytes_of groups number to_digits truth_byte
truths-form [] = refl
truths-form (pos zero ∷ es) = ap (λ (l : List ℕ). 70 ∷ l) (truths-form es)
truths-form (pos (suc zero) ∷ es) = ap (λ (l : List ℕ). 84 ∷ l) (truths-form es)
truths-form (pos (suc (suc n)) ∷ es) = ap (λ (l : List ℕ). 63 ∷ l) (truths-form es)
truths-form (negsuc n ∷ es) = ap (λ (l : List ℕ). 63 ∷ l) (truths-form es)

truth-content : (s : List ℕ) (at : ℕ) → at < length s → content Truths 1 (take (content_bytes Truths 1) (drop at s)) ≡ (truth (get_or s at 0) >>= λ z. good (z ∷ []))
unfolding content content_bytes numbers_in numbers every element of_digits
truth-content s at h =
    let one : 0 * 256 + get_or s at 0 ≡ get_or s at 0 = omega arith in
    ap (λ (d : List ℕ). truth (of_digits 256 0 (take 1 (take 1 d))) >>= λ (z : ℤ). good (z ∷ [])) (drop-cons s at 0 h)
    ∙ ap (λ (b : ℕ). truth b >>= λ (z : ℤ). good (z ∷ [])) one

pub truth-found : (s : List ℕ) (at letter : ℕ) (z : ℤ) → at < length s → letter ≡ letter_of (truth (get_or s at 0)) → (letter ≡ 0 → ⊥) → z ≡ pos (value_of letter)
    → InBinary Truths 1 s at (at + 1) (z ∷ [])
unfolding content_bytes
truth-found s at letter z h e some v = record {
  elements = truth-content s at h ∙ rw (letter-value (get_or s at 0) (λ none. some (e ∙ none)), v, e);
  next-is = refl;
}
