-- A turn of each loop that reads: what is still to come from here, behind what stands in the scratch, is the whole.
use Prim.Native.Nat.{◌%◌, ◌*◌, ◌+◌, ◌-◌, ◌/◌, ◌<◌, ◌^◌, ◌≤◌, suc, zero, ℕ}
use Rattle.binary.specs.Binary.{at_most, before_nul, counted, element, first_bytes, truth}
use Rattle.binary.specs.Reading.{integers}
use Rattle.number.specs.Number.{of_digits, of_pattern, to_digits}
use Rattle.table.specs.Outcome.{at}
use Rattle.table.specs.Result.{Result, ◌>>=◌, bad, every, good}
use Rattle.table.specs.Shape.{Text, Truths}
use borrow.Author.Tests.{eq-eqb, le-ltb, lt-ltb, ne_eqb}
use lib.IntN.{pos, ℤ}
use lib.ListN.{drop, get_or, length, length-drop, set, take}
use lib.Seq.{drop-cons, drop-drop, sets, take-suc-set}
use mathlib.Core.Bool.{Bool}
use mathlib.Core.List.{List, [], ◌++◌, ◌∷◌, append_assoc, append-nil, map}
use mathlib.Core.Logic.{◌⊎◌, inl, inr}
use mathlib.Core.Path.{◌∙◌, ◌≡◌, ap, refl, sym}
use native.Mathlib.Nat.{mul-le-mul_right, sub-zero, suc-mul, zero-mul}
use native.Mathlib.Numerals.{add-one}
use native.Mathlib.Omega.{arith}

-- ---- elements that may be refused

-- elements behind those that are read already
abbrev pub onto : List ℤ → Result ℕ (List ℤ) → Result ℕ (List ℤ)
onto xs r = r >>= λ ys. good (xs ++ ys)

pub onto-none : (r : Result ℕ (List ℤ)) → r ≡ onto [] r
onto-none (good ys) = refl
onto-none (bad k) = refl

onto-one : (xs : List ℤ) (e : ℤ) (r : Result ℕ (List ℤ)) → onto xs (r >>= λ es. good (e ∷ es)) ≡ onto (xs ++ (e ∷ [])) r
onto-one xs e (good es) = ap good (sym (append_assoc xs (e ∷ []) es))
onto-one xs e (bad k) = refl

module _ (f : ℕ → Result ℕ ℤ) (xs : List ℤ) (b : ℕ) (bs : List ℕ) where
  every_some : (e : ℤ) → f b ≡ good e → onto xs (every f (b ∷ bs)) ≡ onto (xs ++ (e ∷ [])) (every f bs)
  unfolding every
  every_some e v = rw v (onto-one xs e (every f bs))

  every-none : (k : ℕ) → f b ≡ bad k → onto xs (every f (b ∷ bs)) ≡ bad k
  unfolding every
  every-none k v = rw v

-- the bytes of a part from k on, of which `rest` says which are looked at
module _ (f : ℕ → Result ℕ ℤ) (rest : List ℕ → List ℕ) (part : List ℕ) (scratch : List ℤ) (k : ℕ) where
  module _ (q : rest (drop k part) ≡ get_or part k 0 ∷ rest (drop (k + 1) part)) where
    pub read_more : (e : ℤ) → k < length scratch → f (get_or part k 0) ≡ good e
        → onto (take k scratch) (every f (rest (drop k part))) ≡ onto (take (k + 1) (set scratch k e)) (every f (rest (drop (k + 1) part)))
    read_more e h v =
        ap (λ (l : List ℕ). onto (take k scratch) (every f l)) q
        ∙ every_some f (take k scratch) (get_or part k 0) (rest (drop (k + 1) part)) e v
        ∙ ap (λ (l : List ℤ). onto l (every f (rest (drop (k + 1) part)))) (sym (ap (λ (n : ℕ). take n (set scratch k e)) (add-one k) ∙ take-suc-set scratch k e h))

    pub read-refused : (n : ℕ) → f (get_or part k 0) ≡ bad n → onto (take k scratch) (every f (rest (drop k part))) ≡ bad n
    read-refused n v =
        ap (λ (l : List ℕ). onto (take k scratch) (every f l)) q
        ∙ every-none f (take k scratch) (get_or part k 0) (rest (drop (k + 1) part)) n v

  pub read-end : rest (drop k part) ≡ [] → onto (take k scratch) (every f (rest (drop k part))) ≡ good (take k scratch)
  unfolding every
  read-end q = rw q (ap good (append-nil (take k scratch)))

pub next-byte : (part : List ℕ) (k : ℕ) → k < length part → drop k part ≡ get_or part k 0 ∷ drop (k + 1) part
next-byte part k h = rw (add-one, drop-cons part k 0 h)

pub no_byte : (part : List ℕ) (k : ℕ) → length part ≤ k → drop k part ≡ []
no_byte [] zero h = refl
no_byte [] (suc k) h = refl
no_byte (b ∷ part) zero h = absurd (omega arith)
no_byte (b ∷ part) (suc k) h = no_byte part k (omega arith)

-- ---- characters

pub next-letter : (part : List ℕ) (k : ℕ) → k < length part → (get_or part k 0 ≡ 0 → ⊥)
    → before_nul (drop k part) ≡ get_or part k 0 ∷ before_nul (drop (k + 1) part)
unfolding before_nul
next-letter part k h n = rw (next-byte part k h, ne_eqb (get_or part k 0) 0 n)

pub at-nul : (part : List ℕ) (k : ℕ) → k < length part → get_or part k 0 ≡ 0 → before_nul (drop k part) ≡ []
unfolding before_nul
at-nul part k h n = rw (next-byte part k h, eq-eqb (get_or part k 0) 0 n)

pub no-letter : (part : List ℕ) (k : ℕ) → length part ≤ k → before_nul (drop k part) ≡ []
unfolding before_nul
no-letter part k h = rw (no_byte part k h)

pub letter-good : (b : ℕ) → b < 128 → element Text b ≡ good (pos b)
unfolding element
letter-good b h = rw (lt-ltb b 128 h)

pub letter-bad : (b : ℕ) → 128 ≤ b → element Text b ≡ bad 11
unfolding element
letter-bad b h = rw (le-ltb b 128 h)

-- ---- whole numbers, once over the width

pub integers-more : (g : Bool) (w n k : ℕ) (part : List ℕ) (scratch : List ℤ) (e : ℤ) → k < n
    → e ≡ of_pattern g w (of_digits 256 0 (take w (drop (k * w) part)))
    → sets scratch k (integers g w (n - k) (drop (k * w) part)) ≡ sets (set scratch k e) (k + 1) (integers g w (n - (k + 1)) (drop ((k + 1) * w) part))
unfolding integers
integers-more g w n k part scratch e h v =
    let m : n - k ≡ suc (n - (k + 1)) = omega arith in
    let d : k * w + w ≡ (k + 1) * w = omega arith in
    rw (m, ← v, drop-drop w (k * w) part, d, add-one)

pub integers-all : (g : Bool) (w n k : ℕ) (part : List ℕ) → n ≤ k → integers g w (n - k) part ≡ []
unfolding integers
integers-all g w n k part h = let m : n - k ≡ 0 = omega arith in rw m

pub length-integers : (g : Bool) (w n : ℕ) (s : List ℕ) → length (integers g w n s) ≡ n
unfolding integers
length-integers g w zero s = refl
length-integers g w (suc n) s = ap suc (length-integers g w n (drop w s))

-- ---- bits

pub bits-more : (b m k : ℕ) (scratch : List ℤ) (e : ℤ) → 0 < m → e ≡ pos (b / 2 ^ (m - 1) % 2)
    → sets scratch k (map pos (to_digits 2 m b)) ≡ sets (set scratch k e) (k + 1) (map pos (to_digits 2 (m - 1) b))
unfolding to_digits
bits-more b m k scratch e h v =
    let q : m ≡ suc (m - 1) = omega arith in
    ap (λ (n : ℕ). sets scratch k (map pos (to_digits 2 n b))) q ∙ rw (v, add-one)

-- ---- a boolean's byte

-- a byte that is none of those
pub truth-rest : (b : ℕ) → ((b ≡ 49) ⊎ ((b ≡ 84) ⊎ (b ≡ 116)) → ⊥) → ((b ≡ 48) ⊎ ((b ≡ 70) ⊎ (b ≡ 102)) → ⊥) → ((b ≡ 0) ⊎ ((b ≡ 32) ⊎ (b ≡ 63)) → ⊥)
    → element Truths b ≡ bad 11
unfolding element truth
truth-rest b t f u =
    rw (
      ne_eqb b 84 (λ e. t (inr (inl e))),
      ne_eqb b 116 (λ e. t (inr (inr e))),
      ne_eqb b 49 (λ e. t (inl e)),
      ne_eqb b 70 (λ e. f (inr (inl e))),
      ne_eqb b 102 (λ e. f (inr (inr e))),
      ne_eqb b 48 (λ e. f (inl e)),
      ne_eqb b 0 (λ e. u (inl e)),
      ne_eqb b 32 (λ e. u (inr (inl e))),
      ne_eqb b 63 (λ e. u (inr (inr e))),
    )

-- ---- the count

pub count-short : (most at : ℕ) (s : List ℕ) → length s - at < 4 → counted most (drop at s) ≡ bad 8
unfolding counted first_bytes
count-short most at s h = rw (length-drop, lt-ltb _ 4 h)

module _ (most at : ℕ) (s : List ℕ) (h : 4 ≤ length s - at) where
  count_at : counted most (drop at s) ≡ at_most most (of_digits 256 0 (take 4 (drop at s))) (drop (at + 4) s)
  unfolding counted first_bytes
  count_at = rw (length-drop, le-ltb _ 4 h, drop-drop 4 at s)

  pub count-over : (n : ℕ) → n ≡ of_digits 256 0 (take 4 (drop at s)) → most < n → counted most (drop at s) ≡ bad 9
  unfolding at_most
  count-over n q m = count_at ∙ rw (← q, lt-ltb most n m)

  pub count-good : (n : ℕ) → n ≡ of_digits 256 0 (take 4 (drop at s)) → n ≤ most → counted most (drop at s) ≡ good (n, drop (at + 4) s)
  unfolding at_most
  count-good n q m = count_at ∙ rw (← q, le-ltb most n m)

-- an element read k-th of n, each of w bytes, lies within
pub place-fits : (k n w m : ℕ) → k < n → n * w ≤ m → k * w + w ≤ m
place-fits k n w m h q = omega (arith, suc-mul k w, mul-le-mul_right {m = suc k} {n = n} w (let d : suc k ≤ n = omega arith in d))

pub integers-start : (g : Bool) (w n : ℕ) (part : List ℕ) → integers g w (n - 0) (drop (0 * w) part) ≡ integers g w n part
integers-start g w n part = rw (sub-zero n, zero-mul w)
