-- Words of at most fifteen characters, read with the first byte lowest: the digits of the first eight characters, and those of the eight behind them
-- where the first are all digits; a minus that counts as a zero changes the number of characters and not the number.
use Prim.Native.Nat.{◌%◌, ◌*◌, ◌+◌, ◌-◌, ◌/◌, ◌<◌, ◌^◌, ◌≤◌, suc, zero, ℕ}
use native.Mathlib.Nat.{mul-le-mul}
use native.Mathlib.Omega.{arith}
use mathlib.Core.Bool.{Bool, true}
use mathlib.Core.List.{List, [], ◌++◌, ◌∷◌, map}
use mathlib.Core.Path.{◌∙◌, ◌≡◌, ap, ap₂, refl, subst, sym}
use lib.Dec.{lit<}
use lib.ListN.{drop, get_or, length, length-append, length-drop, length-replicate, replicate, take, take-append-drop}
use lib.Seq.{drop_at, drop-drop, length-take-le, take_all, take-append-le}
use Rattle.binary.proofs.Digits.{map-join}
use Rattle.integer_reading.proofs.Digits.{digit-is, figures-then, power_le}
use Rattle.integer_reading.proofs.Figures.{of-zeros}
use Rattle.lowest.proofs.Marked.{marked-lowest, none-marked, some-marked}
use Rattle.integer_reading.proofs.Runs.{run-all}
use Rattle.integer_reading.specs.Figures.{AfterMinus, FiguresAt, ShortRun, a-minus, figures, is_digit, no_minus}
use Rattle.eights.specs.Lowest.{FirstLowest, of_lowest}
use Rattle.eights.specs.Marks.{Marks, run}
use Rattle.lowest.specs.Lowest.{DecimalIs, FrontIs, low_half}
use Rattle.number.specs.Number.{of_digits}
use Rattle.table.proofs.Laws.{all_append, all_drop, all_replicate, all_take}
use Rattle.table.proofs.Places.{next1}
use Rattle.table.specs.All.{All, AreBytes}

abbrev Digits : List ℕ → Type 0
Digits w = All (λ (c : ℕ). is_digit c ≡ true) w

-- ---- low halves

digit-half : (c : ℕ) → is_digit c ≡ true → low_half c ≡ c - 48
unfolding low_half
digit-half c h = let i = digit-is c h in omega (arith, i.0, i.1)

digit-halves : (w : List ℕ) → Digits w → map low_half w ≡ figures w
unfolding figures
digit-halves [] a = refl
digit-halves (c ∷ w) a = ap₂ (λ (d : ℕ) (t : List ℕ). d ∷ t) (digit-half c a.0) (digit-halves w a.1)

zero-halves : (k : ℕ) → map low_half (replicate k 0) ≡ replicate k 0
unfolding low_half
zero-halves zero = refl
zero-halves (suc k) = ap (λ (t : List ℕ). 0 ∷ t) (zero-halves k)

-- ---- eight bytes that have a number

unfoldable bytes_from : ℕ → ℕ → List ℕ
bytes_from zero x = []
bytes_from (suc k) x = x % 256 ∷ bytes_from k (x / 256)

bytes-length : (k x : ℕ) → length (bytes_from k x) ≡ k
unfolding bytes_from
bytes-length zero x = refl
bytes-length (suc k) x = ap suc (bytes-length k (x / 256))

bytes-are : (k x : ℕ) → AreBytes (bytes_from k x)
unfolding bytes_from
bytes-are zero x = tt
bytes-are (suc k) x = (omega arith, bytes-are k (x / 256))

bytes_back : (k x : ℕ) → x < 256 ^ k → x ≡ of_lowest (bytes_from k x)
unfolding bytes_from of_lowest
bytes_back zero x h = omega arith
bytes_back (suc k) x h = let e = bytes_back k (x / 256) (omega arith) in omega (arith, e)

-- ---- the digits of eight characters

-- those at the front, where there are others
module _ {x m n : ℕ} (marks : Marks is_digit x m) (first : FirstLowest m n) where
  counted : (p : List ℕ) → length p ≡ 8 → AreBytes p → x ≡ of_lowest p → n ≡ run is_digit p
  counted p l a e = first.first is_digit p l (marked-lowest marks p l a e)

  pub counted-digits : (p : List ℕ) → length p ≡ 8 → AreBytes p → x ≡ of_lowest p → Digits (take n p)
  counted-digits p l a e = subst (λ (k : ℕ). Digits (take k p)) (sym (counted p l a e)) (run-all is_digit p)

  pub counted-few : x < 256 ^ 8 → (m ≡ 0 → ⊥) → n ≤ 7
  counted-few h some =
      let p : List ℕ = bytes_from 8 x in
      let l : length p ≡ 8 = bytes-length 8 x in
      let e : x ≡ of_lowest p = bytes_back 8 x h in
      let q : n ≡ run is_digit p = counted p l (bytes-are 8 x) e in
      omega (arith, q, l, some-marked is_digit p (λ z. some (marked-lowest marks p l (bytes-are 8 x) e ∙ z)))

-- all eight
pub all_digits : {x m : ℕ} → Marks is_digit x m → m ≡ 0 → (p : List ℕ) → length p ≡ 8 → AreBytes p → x ≡ of_lowest p → Digits p
all_digits marks none p l a e =
    let k : run is_digit p ≡ length p = none-marked is_digit p (sym (marked-lowest marks p l a e) ∙ none) in
    subst Digits (ap (λ (j : ℕ). take j p) k ∙ take_all (length p) p (omega arith)) (run-all is_digit p)

-- ---- their number

all-number : {x r : ℕ} → DecimalIs x r → (p : List ℕ) → length p ≡ 8 → AreBytes p → x ≡ of_lowest p → Digits p → r ≡ of_digits 10 0 (figures p)
all-number read p l a e d = read.decimal p l a e ∙ ap (of_digits 10 0) (digit-halves p d)

front-number : {x n y r : ℕ} → FrontIs x n y → DecimalIs y r → n ≤ 7 → (p : List ℕ) → length p ≡ 8 → AreBytes p → x ≡ of_lowest p → Digits (take n p)
    → r ≡ of_digits 10 0 (figures (take n p))
front-number {n = n} front read few p l a e d =
    let w : List ℕ = take n p in
    let z : List ℕ = replicate (8 - n) 0 in
    let m : length w ≡ n = length-take-le n p (omega (arith, l)) in
    let full : length (z ++ w) ≡ 8 = length-append z w ∙ omega (arith, length-replicate {A = ℕ} (8 - n) 0, m) in
    read.decimal (z ++ w) full (all_append _ z w (all_replicate _ (8 - n) 0 (lit< tt)) (all_take _ n p a)) (front.front p l a e)
    ∙ ap (of_digits 10 0) (map-join low_half z w ∙ ap₂ (λ (u v : List ℕ). u ++ v) (zero-halves (8 - n)) (digit-halves w d))
    ∙ of-zeros 10 (8 - n) (figures w)

-- it fits, whatever the bytes
pub shifted_fits : (r n w : ℕ) → r < 4294967296 → n ≤ 7 → w ≡ 10 ^ n → r * w ≤ 42949672960000000
shifted_fits r n w below few is =
    let most : w ≤ 10000000 = omega (arith, is, power_le n 7 few) in
    let product : r * w ≤ 4294967296 * 10000000 = mul-le-mul (let h : r ≤ 4294967296 = omega arith in h) most in
    omega (arith, product)

-- ---- at the front of a text

-- some of the first eight characters
module _ {x m n y r : ℕ} (marks : Marks is_digit x m) (first : FirstLowest m n) (few : n ≤ 7) (front : FrontIs x n y) (read : DecimalIs y r) where
  pub first-figures : (rest p : List ℕ) → length p ≡ 8 → AreBytes p → x ≡ of_lowest p → FiguresAt (p ++ rest) 0 n r
  first-figures rest p l a e =
      let d : Digits (take n p) = counted-digits marks first p l a e in
      let same : take n (p ++ rest) ≡ take n p = take-append-le n p rest (omega (arith, l)) in
      record {
        digits = record { inside = omega (arith, length-append p rest, l); all = subst Digits (sym same) d };
        number_is = front-number front read few p l a e d ∙ ap (λ (w : List ℕ). of_digits 10 0 (figures w)) (sym same);
      }

-- all of them
all-figures : {x m r : ℕ} → Marks is_digit x m → m ≡ 0 → DecimalIs x r → (rest p : List ℕ) → length p ≡ 8 → AreBytes p → x ≡ of_lowest p → FiguresAt (p ++ rest) 0 8 r
all-figures marks none read rest p l a e =
    let d : Digits p = all_digits marks none p l a e in
    let same : take 8 (p ++ rest) ≡ p = take-append-le 8 p rest (omega (arith, l)) ∙ take_all 8 p (omega (arith, l)) in
    record {
      digits = record { inside = omega (arith, length-append p rest, l); all = subst Digits (sym same) d };
      number_is = all-number read p l a e d ∙ ap (λ (w : List ℕ). of_digits 10 0 (figures w)) (sym same);
    }

-- a run at the front of what stands behind a place
figures-behind : {q : List ℕ} {n r : ℕ} (p : List ℕ) (k : ℕ) → length p ≡ k → FiguresAt q 0 n r → FiguresAt (p ++ q) k n r
figures-behind {q} {n} {r} p k l f =
    let same : drop k (p ++ q) ≡ q = drop_at p q k l in
    record {
      digits = record { inside = omega (arith, length-append p q, l, f.digits.inside); all = subst (λ (t : List ℕ). Digits (take n t)) (sym same) f.digits.all };
      number_is = f.number_is ∙ ap (λ (t : List ℕ). of_digits 10 0 (figures (take n t))) (sym same);
    }

-- all of them, and some of the eight behind them: the count and the number are what the code has for them
module _ {x r m n y t u : ℕ} {marks-x : ℕ} (before : Marks is_digit x marks-x) (none : marks-x ≡ 0) (read-x : DecimalIs x r)
    (behind : Marks is_digit y m) (first : FirstLowest m n) (few : n ≤ 7) (front : FrontIs y n t) (read-y : DecimalIs t u) where
  pub both-figures : (rest : List ℕ) → AreBytes rest → 8 ≤ length rest → y ≡ of_lowest (take 8 rest) → {count number : ℕ} → count ≡ 8 + n → number ≡ r * 10 ^ n + u
      → (p : List ℕ) → length p ≡ 8 → AreBytes p → x ≡ of_lowest p → FiguresAt (p ++ rest) 0 count number
  both-figures rest b h e counted is p l a q =
      let w : List ℕ = take 8 rest in
      let k : length w ≡ 8 = length-take-le 8 rest h in
      let rests : w ++ drop 8 rest ≡ rest = take-append-drop 8 rest in
      let some : FiguresAt rest 0 n u = subst (λ (l : List ℕ). FiguresAt l 0 n u) rests (first-figures behind first few front read-y (drop 8 rest) w k (all_take _ 8 rest b) e) in
      figures-then (all-figures before none read-x rest p l a q) (figures-behind p 8 l some) refl counted is

-- ---- behind a minus or not

lowest-next : (b : ℕ) (w : List ℕ) → of_lowest (b ∷ w) ≡ b + 256 * of_lowest w
unfolding of_lowest
lowest-next b w = refl

module _ {s : List ℕ} {at n r : ℕ} (inside : at ≤ length s) where
  figures-from : FiguresAt (drop at s) 0 n r → FiguresAt s at n r
  figures-from f = record {
    digits = record { inside = omega (arith, f.digits.inside, length-drop at s, inside); all = f.digits.all };
    number_is = f.number_is;
  }

eight-on : (s : List ℕ) (at : ℕ) → take 8 (drop at s) ++ drop (at + 8) s ≡ drop at s
eight-on s at = ap (λ (t : List ℕ). take 8 (drop at s) ++ t) (sym (drop-drop 8 at s)) ∙ take-append-drop 8 (drop at s)

seven-on : (s : List ℕ) (at : ℕ) → take 7 (drop (at + 1) s) ++ drop (at + 8) s ≡ drop (at + 1) s
seven-on s at =
    let e : at + 8 ≡ at + 1 + 7 = omega arith in
    ap (λ (t : List ℕ). take 7 (drop (at + 1) s) ++ t) (ap (λ (k : ℕ). drop k s) e ∙ sym (drop-drop 7 (at + 1) s)) ∙ take-append-drop 7 (drop (at + 1) s)

-- a zero before digits
without-zero : (w : List ℕ) (n r : ℕ) → FiguresAt (48 ∷ w) 0 (suc n) r → FiguresAt w 0 n r
unfolding figures of_digits
without-zero w n r f = record { digits = record { inside = omega (arith, f.digits.inside); all = f.digits.all.1 }; number_is = f.number_is }

pub minus-eight : (s : List ℕ) (at : ℕ) → at + 8 ≤ length s → get_or s at 0 ≡ 45 → of_lowest (take 8 (drop at s)) + 3 ≡ of_lowest (48 ∷ take 7 (drop (at + 1) s))
unfolding of_lowest
minus-eight s at h b =
    let e : take 8 (drop at s) ≡ 45 ∷ take 7 (drop (at + 1) s) = ap (take 8) (next1 s at (omega arith)) ∙ ap (λ (c : ℕ). c ∷ take 7 (drop (at + 1) s)) b in
    ap (λ (l : List ℕ). of_lowest l + 3) e ∙ omega arith

pub minus-fits : {signed : Bool} {s : List ℕ} {at first x : ℕ} → at + 8 ≤ length s → AfterMinus signed s at first → x ≡ of_lowest (take 8 (drop at s)) → x < 2 ^ 64 → x + (first - at) * 3 < 2 ^ 64
minus-fits h no_minus e below = omega arith
minus-fits {s = s} {at = at} {x = x} h (a-minus signed l b) e below =
    let w : List ℕ = take 7 (drop (at + 1) s) in
    let next : x + 3 ≡ 48 + 256 * of_lowest w = omega (arith, e, minus-eight s at h b, lowest-next 48 w) in
    omega (arith, next)

-- the digits of a word whose minus counts as a zero
pub word-figures : {signed : Bool} {s : List ℕ} {at first x y count number : ℕ} → AreBytes s → at + 8 ≤ length s → AfterMinus signed s at first → x ≡ of_lowest (take 8 (drop at s))
    → y ≡ x + (first - at) * 3 → ShortRun y (drop (at + 8) s) count number → first - at < count → (n : ℕ) → first + n ≡ at + count → FiguresAt s first n number
word-figures {s = s} {at = at} {x = x} {y = y} {count = count} {number = number} a h no_minus e is run some n ends =
    let p : List ℕ = take 8 (drop at s) in
    let same : y ≡ of_lowest p = is ∙ omega (arith, e) in
    let counted : count ≡ n = omega (arith, ends) in
    figures-from (omega arith)
    (subst (λ (k : ℕ). FiguresAt (drop at s) 0 k number) counted
    (subst (λ (l : List ℕ). FiguresAt l 0 count number) (eight-on s at)
    (run.figures-are p (length-take-le 8 (drop at s) (simp length-drop (omega arith))) (all_take _ 8 (drop at s) (all_drop _ at s a)) same)))
word-figures {s = s} {at = at} {x = x} {y = y} {count = count} {number = number} a h (a-minus signed l b) e is run some n ends =
    let w : List ℕ = take 7 (drop (at + 1) s) in
    let same : y ≡ of_lowest (48 ∷ w) = is ∙ omega (arith, e, minus-eight s at h b) in
    let counted : count ≡ suc n = omega (arith, ends) in
    let long : length w ≡ 7 = length-take-le 7 (drop (at + 1) s) (simp length-drop (omega arith)) in
    figures-from (omega arith)
    (without-zero (drop (at + 1) s) n number
    (subst (λ (k : ℕ). FiguresAt (48 ∷ drop (at + 1) s) 0 k number) counted
    (subst (λ (l : List ℕ). FiguresAt (48 ∷ l) 0 count number) (seven-on s at)
    (run.figures-are (48 ∷ w) (ap suc long) (lit< tt, all_take _ 7 (drop (at + 1) s) (all_drop _ (at + 1) s a)) same))))
