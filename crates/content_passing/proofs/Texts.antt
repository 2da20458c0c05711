-- Characters: letters at the front, counted in parts; what is shown of them is put as it stands.
use Prim.Native.Nat.{◌+◌, ◌-◌, ◌<◌, ◌≤◌, min, suc, zero, ℕ}
use native.Mathlib.Nat.{mod-eq_of_lt, sub_self}
use native.Mathlib.Omega.{arith}
use mathlib.Core.Bool.{Bool, ◌&&◌, cond, false, false≢true, not, true}
use mathlib.Core.List.{List, [], ◌++◌, ◌∷◌, append-nil, map}
use mathlib.Core.Path.{◌∙◌, ◌≡◌, ap, ap₂, refl, sym}
use borrow.Author.Tests.{eq-eqb, eqb-true, lt-ltb, ltb-true, ne_eqb}
use lib.Dec.{eqb, ltb}
use lib.IntN.{pos}
use lib.ListN.{drop, get_or, length, length-drop, length-map, replicate, take}
use lib.Seq.{get_or-drop, get_or-take, length-take-le, take-take}
use Rattle.binary.specs.Binary.{before_nul, bytes_of, content, content_bytes, element, number, numbers_in}
use Rattle.eights.specs.Marks.{is_letter, run}
use Rattle.moving.specs.Contents.{AsBinary, ContentMoved, InBinary, content_form}
use Rattle.moving.specs.Puts.{Puts}
use Rattle.number.specs.Number.{pattern}
use Rattle.table.proofs.Laws.{all_drop, all_take, and_both}
use Rattle.table.specs.All.{AreBytes}
use Rattle.table.specs.Result.{every, good}
use Rattle.table.specs.Shape.{Text}

-- ---- runs

module _ (test : ℕ → Bool) where
  pub run_take : (n : ℕ) (p : List ℕ) → run test (take n p) ≡ min n (run test p)
  unfolding run
  run_take zero p = omega arith
  run_take (suc n) [] = omega arith
  run_take (suc n) (b ∷ p) = by (test b) (run_take n p)
    where
      by : (t : Bool) → run test (take n p) ≡ min n (run test p) → cond t (suc (run test (take n p))) 0 ≡ min (suc n) (cond t (suc (run test p)) 0)
      by true e = omega arith
      by false e = omega arith

  pub run_drop : (n : ℕ) (p : List ℕ) → n ≤ run test p → run test p ≡ n + run test (drop n p)
  unfolding run
  run_drop zero p h = omega arith
  run_drop (suc n) [] h = omega arith
  run_drop (suc n) (b ∷ p) h = by (test b) h (run_drop n p)
    where
      by : (t : Bool) → suc n ≤ cond t (suc (run test p)) 0 → (n ≤ run test p → run test p ≡ n + run test (drop n p)) → cond t (suc (run test p)) 0 ≡ suc n + run test (drop n p)
      by true h e = omega (arith, e (omega arith))
      by false h e = absurd (omega arith)

-- ---- letters

letter-yes : (b : ℕ) → is_letter b ≡ true → (0 < b) × (b < 128)
unfolding is_letter
letter-yes b h = let q = and_both (ltb 0 b) (ltb b 128) h in (ltb-true 0 b q.0, ltb-true b 128 q.1)

-- letters up to a NUL or to the end are shown
text-read : (p : List ℕ) → (run is_letter p < length p → get_or p (run is_letter p) 0 ≡ 0) → every (element Text) (before_nul p) ≡ good (map pos (take (run is_letter p) p))
unfolding every before_nul run element
text-read [] ends = refl
text-read (b ∷ p) ends = by (is_letter b) refl ends (text-read p)
  where
    by : (t : Bool) → is_letter b ≡ t
        → (cond t (suc (run is_letter p)) 0 < suc (length p) → get_or (b ∷ p) (cond t (suc (run is_letter p)) 0) 0 ≡ 0)
        → ((run is_letter p < length p → get_or p (run is_letter p) 0 ≡ 0) → every (element Text) (before_nul p) ≡ good (map pos (take (run is_letter p) p)))
        → every (element Text) (cond (eqb b 0) [] (b ∷ before_nul p)) ≡ good (map pos (take (cond t (suc (run is_letter p)) 0) (b ∷ p)))
    by true e ends more =
        let small = letter-yes b e in
        rw (ne_eqb b 0 (λ z. omega arith), lt-ltb b 128 small.1, more (λ h. ends (omega arith)))
    by false e ends more = rw (eq-eqb b 0 (ends (omega arith)))

-- ---- what is shown is put as it stands

numbers-same : (p : List ℕ) → AreBytes p → map (number Text) (map pos p) ≡ p
unfolding number pattern
numbers-same [] a = refl
numbers-same (b ∷ p) a = ap₂ (λ (x : ℕ) (l : List ℕ). x ∷ l) (mod-eq_of_lt a.0) (numbers-same p a.1)

text-form : (p : List ℕ) → AreBytes p → p ≡ content_form Text (map pos p)
unfolding content_form bytes_of
text-form p a =
    let n : length (map (number Text) (map pos p)) ≡ length (map pos p) = length-map (map pos p) (number Text) in
    sym (ap₂ (λ (l : List ℕ) (m : ℕ). l ++ replicate (length (map pos p) - m) 0) (numbers-same p a) n
    ∙ ap (λ (m : ℕ). p ++ replicate m 0) (sub_self (length (map pos p)))
    ∙ append-nil p)

-- the code's test of the byte behind the letters
pub ends_at : (shown n b : ℕ) → (ltb shown n && not (eqb b 0)) ≡ false → shown < n → b ≡ 0
ends_at shown n b e h = by (eqb b 0) refl (rw (lt-ltb shown n h) at e)
  where
    by : (t : Bool) → eqb b 0 ≡ t → not t ≡ false → b ≡ 0
    by true q e = eqb-true b 0 q
    by false q e = absurd (false≢true (sym e))

-- n bytes of which so many are letters, up to a NUL or to the end
pub text-moved : (n shown : ℕ) (s old new : List ℕ) (at o e : ℕ) → AreBytes s → at + n ≤ length s → shown ≡ run is_letter (take n (drop at s))
    → (shown < n → get_or s (at + shown) 0 ≡ 0) → Puts old o (take shown (drop at s)) new e
    → ContentMoved (InBinary Text n s at) (AsBinary Text) old o new shown (at + n) e
unfolding content_bytes content numbers_in
text-moved n shown s old new at o e a h q ends u =
    let few : shown ≤ n = omega (arith, run_take is_letter n (drop at s)) in
    let p : List ℕ = take n (drop at s) in
    let l : length p ≡ n = length-take-le n (drop at s) (simp length-drop (omega arith)) in
    let t : List ℕ = take shown (drop at s) in
    let m : length t ≡ shown = length-take-le shown (drop at s) (simp length-drop (omega arith)) in
    let nul : run is_letter p < length p → get_or p (run is_letter p) 0 ≡ 0 = λ k.
    ap (λ (j : ℕ). get_or p j 0) (sym q) ∙ get_or-take n (drop at s) shown 0 (omega arith) ∙ get_or-drop at s shown 0 ∙ ends (omega arith) in
    let same : take (run is_letter p) p ≡ t = ap (λ (k : ℕ). take k p) (sym q) ∙ take-take shown n (drop at s) few in
    record {
      es = map pos t;
      bytes = t;
      reads = record {
        elements = text-read p nul ∙ ap (λ (x : List ℕ). good (map pos x)) same;
        next-is = refl;
      };
      writes = text-form t (all_take _ shown (drop at s) (all_drop _ at s a));
      puts = u;
      count-is = sym (length-map t pos ∙ m);
    }
