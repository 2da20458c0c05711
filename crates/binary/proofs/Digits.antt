-- Bits: those of bytes, one byte after the other, are the digits of a number in base 2; padding is the low digits of the last byte.
use Prim.Native.Nat.{◌%◌, ◌*◌, ◌+◌, ◌-◌, ◌/◌, ◌<◌, ◌^◌, ◌≤◌, suc, zero, ℕ}
use Rattle.binary.proofs.Loops.{next-byte, no_byte}
use Rattle.binary.specs.Binary.{all_zero, bits_of, content, element, numbers_in, unpack}
use Rattle.number.proofs.Laws.{digits-join, digits_low, length_to, of-to-from, pow_pos}
use Rattle.number.specs.Number.{of_digits, to_digits}
use Rattle.table.specs.Result.{bad, every, good}
use Rattle.table.specs.Shape.{Bits}
use borrow.Author.Tests.{ne_eqb}
use lib.Dec.{eqb, lit<}
use lib.IntN.{pos, ℤ}
use lib.ListN.{drop, get_or, length, length-append, length-map, replicate, set, take}
use lib.Pow.{shl_exact}
use lib.Seq.{drop-append-add, drop_at, length-take-le, sets, sets-eq, take_all, take-append-le, take-suc}
use mathlib.Core.Bool.{Bool, ◌&&◌, cond, false, true}
use mathlib.Core.List.{List, [], ◌++◌, ◌∷◌, append_assoc, append-nil, map}
use mathlib.Core.Path.{◌∙◌, ◌≡◌, ap, ap₂, refl, sym}
use native.Mathlib.Nat.{add-suc, add-zero, one-mul, suc-add, zero-add, zero-mul}
use native.Mathlib.Omega.{arith}

-- ---- lists

module _ {A : Type 0} where
  pub sets_then : (xs ys l : List A) (i : ℕ) → sets l i (xs ++ ys) ≡ sets (sets l i xs) (i + length xs) ys
  sets_then [] ys l i = rw add-zero
  sets_then (x ∷ xs) ys l i = sets_then xs ys (set l i x) (suc i) ∙ rw (suc-add, add-suc)

  pub take-of-sets : (n : ℕ) (vs l : List A) → n ≤ length vs → length vs ≤ length l → take n (sets l 0 vs) ≡ take n vs
  take-of-sets n vs l h m = ap (take n) (sets-eq vs l 0 (omega arith)) ∙ take-append-le n vs (drop (0 + length vs) l) h

  all_but_last : (l : List A) (k : ℕ) (d : A) → length l ≡ suc k → l ≡ take k l ++ (get_or l k d ∷ [])
  all_but_last l k d h = sym (take_all (suc k) l (omega arith)) ∙ take-suc l k d (omega arith)

module _ {A B : Type 0} (f : A → B) where
  pub take-map : (n : ℕ) (l : List A) → take n (map f l) ≡ map f (take n l)
  take-map zero l = refl
  take-map (suc n) [] = refl
  take-map (suc n) (x ∷ l) = ap (λ (xs : List B). f x ∷ xs) (take-map n l)

  pub drop-map : (n : ℕ) (l : List A) → drop n (map f l) ≡ map f (drop n l)
  drop-map zero l = refl
  drop-map (suc n) [] = refl
  drop-map (suc n) (x ∷ l) = drop-map n l

  pub map-join : (xs ys : List A) → map f (xs ++ ys) ≡ map f xs ++ map f ys
  map-join [] ys = refl
  map-join (x ∷ xs) ys = ap (λ (l : List B). f x ∷ l) (map-join xs ys)

-- ---- bits

-- "first bit highest"
first-highest : bits_of (128 ∷ []) ≡ 1 ∷ replicate 7 0
unfolding bits_of to_digits
first-highest = refl

pub length-bits : (s : List ℕ) → length (bits_of s) ≡ 8 * length s
unfolding bits_of
length-bits [] = refl
length-bits (b ∷ s) = length-append (to_digits 2 8 b) (bits_of s) ∙ omega (arith, length_to 2 8 b, length-bits s)

pub bits-join : (xs ys : List ℕ) → bits_of (xs ++ ys) ≡ bits_of xs ++ bits_of ys
unfolding bits_of
bits-join [] ys = refl
bits-join (x ∷ xs) ys = ap (λ (l : List ℕ). to_digits 2 8 x ++ l) (bits-join xs ys) ∙ sym (append_assoc (to_digits 2 8 x) (bits_of xs) (bits_of ys))

pub digits-split : (m n x : ℕ) → to_digits 2 (m + n) x ≡ to_digits 2 m (x / 2 ^ n) ++ to_digits 2 n x
digits-split m n x = digits-join 2 (lit< tt) m n x ∙ ap (λ (l : List ℕ). to_digits 2 m (x / 2 ^ n) ++ l) (digits_low 2 (lit< tt) n x)

-- ---- nothing but zeros

zero-first : (a d : ℕ) → eqb (a * 2 + d) 0 ≡ (eqb a 0 && eqb d 0)
zero-first zero zero = refl
zero-first zero (suc d) = ne_eqb (0 * 2 + suc d) 0 (λ e. omega arith) ∙ sym (ne_eqb (suc d) 0 (λ e. omega arith))
zero-first (suc a) d = ne_eqb (suc a * 2 + d) 0 (λ e. omega arith) ∙ rw (ne_eqb (suc a) 0 (λ e. omega arith))

and-true : (a : Bool) → a ≡ (a && true)
and-true true = refl
and-true false = refl

and_assoc : (a b c : Bool) → ((a && b) && c) ≡ (a && (b && c))
and_assoc true b c = refl
and_assoc false b c = refl

zeros-are : (a : ℕ) (ds : List ℕ) → eqb (of_digits 2 a ds) 0 ≡ (eqb a 0 && all_zero ds)
unfolding of_digits all_zero
zeros-are a [] = and-true (eqb a 0)
zeros-are a (d ∷ ds) = zeros-are (a * 2 + d) ds ∙ rw (zero-first a d) (and_assoc (eqb a 0) (eqb d 0) (all_zero ds))

-- the low n digits are 0 where 2 ^ n divides
pub zero-digits : (n x : ℕ) → all_zero (to_digits 2 n x) ≡ eqb (x % 2 ^ n) 0
zero-digits n x =
    let e : of_digits 2 0 (to_digits 2 n x) ≡ x % 2 ^ n = of-to-from 2 (lit< tt) n 0 x ∙ simp (zero-mul, zero-add) in
    sym (zeros-are 0 (to_digits 2 n x)) ∙ ap (λ (k : ℕ). eqb k 0) e

-- ---- padding

padding-at : (xs : List ℕ) (b n spare : ℕ) → n + spare ≡ 8 * length xs + 8 → spare ≤ 8 → drop n (bits_of (xs ++ (b ∷ []))) ≡ to_digits 2 spare b
unfolding bits_of
padding-at xs b n spare h m =
    let e : n ≡ length (bits_of xs) + (8 - spare) = omega (arith, length-bits xs) in
    let k : 8 ≡ (8 - spare) + spare = omega arith in
    ap (drop n) (bits-join xs (b ∷ []))
    ∙ ap (λ (j : ℕ). drop j (bits_of xs ++ (to_digits 2 8 b ++ []))) e
    ∙ drop-append-add (bits_of xs) (to_digits 2 8 b ++ []) (8 - spare)
    ∙ ap (drop (8 - spare)) (append-nil (to_digits 2 8 b) ∙ ap (λ (j : ℕ). to_digits 2 j b) k ∙ digits-split (8 - spare) spare b)
    ∙ drop_at (to_digits 2 (8 - spare) (b / 2 ^ spare)) (to_digits 2 spare b) (8 - spare) (length_to 2 (8 - spare) (b / 2 ^ spare))

-- the bits after the n-th are the low bits of the last byte
pub padding : (part : List ℕ) (n spare : ℕ) → 0 < length part → n + spare ≡ 8 * length part → spare ≤ 8
    → drop n (bits_of part) ≡ to_digits 2 spare (get_or part (length part - 1) 0)
padding part n spare has h m =
    let k : ℕ = length part - 1 in
    let e : length part ≡ suc k = omega arith in
    let t : length (take k part) ≡ k = length-take-le k part (omega arith) in
    ap (λ (l : List ℕ). drop n (bits_of l)) (all_but_last part k 0 e)
    ∙ padding-at (take k part) (get_or part k 0) n spare (omega arith) m

-- ---- a content of bits

pub every-bits : (ds : List ℕ) → every (element Bits) ds ≡ good (map pos ds)
unfolding every element
every-bits [] = refl
every-bits (d ∷ ds) = rw (every-bits ds)

pub content-bits : (n : ℕ) (part : List ℕ) (z : Bool) → all_zero (drop n (bits_of part)) ≡ z
    → content Bits n part ≡ cond z (good (take n (map pos (bits_of part)))) (bad 13)
unfolding content numbers_in unpack
content-bits n part true e = rw (e, every-bits (take n (bits_of part)), take-map pos n (bits_of part))
content-bits n part false e = rw e

pub bits-next : (part : List ℕ) (scratch : List ℤ) (k : ℕ) → k < length part
    → sets scratch (8 * k) (map pos (bits_of (drop k part))) ≡ sets (sets scratch (8 * k) (map pos (to_digits 2 8 (get_or part k 0)))) (8 * (k + 1)) (map pos (bits_of (drop (k + 1) part)))
unfolding bits_of
bits-next part scratch k h =
    let b : ℕ = get_or part k 0 in
    let e : 8 * k + length (map pos (to_digits 2 8 b)) ≡ 8 * (k + 1) = ap (λ (j : ℕ). 8 * k + j) (length-map (to_digits 2 8 b) pos ∙ length_to 2 8 b) ∙ omega arith in
    ap (λ (l : List ℕ). sets scratch (8 * k) (map pos (bits_of l))) (next-byte part k h)
    ∙ ap (sets scratch (8 * k)) (map-join pos (to_digits 2 8 b) (bits_of (drop (k + 1) part)))
    ∙ sets_then (map pos (to_digits 2 8 b)) (map pos (bits_of (drop (k + 1) part))) scratch (8 * k)
    ∙ ap (λ (j : ℕ). sets (sets scratch (8 * k) (map pos (to_digits 2 8 b))) j (map pos (bits_of (drop (k + 1) part)))) e

-- when every byte is put, the first n elements are the first n bits
pub bits-all : (part : List ℕ) (entry scratch : List ℤ) (n k : ℕ) → length part ≤ k → n ≤ 8 * length part → 8 * length part ≤ length entry
    → sets scratch (8 * k) (map pos (bits_of (drop k part))) ≡ sets entry 0 (map pos (bits_of part))
    → take n (map pos (bits_of part)) ≡ take n scratch
unfolding bits_of
bits-all part entry scratch n k h few room q =
    let l : length (map pos (bits_of part)) ≡ 8 * length part = length-map (bits_of part) pos ∙ length-bits part in
    sym (take-of-sets n (map pos (bits_of part)) entry (omega arith) (omega arith))
    ∙ ap (take n) (sym q ∙ ap (λ (p : List ℕ). sets scratch (8 * k) (map pos (bits_of p))) (no_byte part k h))

pub some_of : (n : ℕ) → (n ≡ 0 → ⊥) → 0 < n
some_of zero h = absurd (h refl)
some_of (suc n) h = omega arith

-- ---- a unit of so many low bits

pub unit-is : (k : ℕ) → k ≤ 63 → (1 * 2 ^ k) % 2 ^ 64 ≡ 2 ^ k
unit-is k h = shl_exact 1 k 64 (omega arith) (omega arith) ∙ one-mul (2 ^ k)

pub unit-some : (k : ℕ) → k ≤ 63 → 0 < (1 * 2 ^ k) % 2 ^ 64
unit-some k h = rw (unit-is k h) (pow_pos 2 (lit< tt) k)

pub no-padding : (part : List ℕ) (n : ℕ) → 8 * length part ≤ n → all_zero (drop n (bits_of part)) ≡ true
unfolding all_zero
no-padding part n h = rw (no_byte (bits_of part) n (omega (arith, length-bits part)))

-- the code's test of the last byte's padding
pub spare-test : (part : List ℕ) (n k : ℕ) → length part ≤ k → k ≤ length part → n ≤ 8 * k → 8 * k < n + 8 → (8 * k - n ≡ 0 → ⊥)
    → all_zero (drop n (bits_of part)) ≡ eqb (get_or part (k - 1) 0 % ((1 * 2 ^ (8 * k - n)) % 2 ^ 64)) 0
spare-test part n k lo hi few near has =
    let e : k ≡ length part = omega arith in
    let s : 0 < 8 * k - n = some_of (8 * k - n) has in
    ap all_zero (padding part n (8 * k - n) (omega arith) (omega arith) (omega arith))
    ∙ zero-digits (8 * k - n) (get_or part (length part - 1) 0)
    ∙ ap₂ (λ (x u : ℕ). eqb (x % u) 0) (ap (λ (j : ℕ). get_or part (j - 1) 0) (sym e)) (sym (unit-is (8 * k - n) (omega arith)))
