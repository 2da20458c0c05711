-- Runs of bytes that pass a test: a run behind a run, a run within a run, and those of the next eight bytes, by the first mark.
use Prim.Native.Nat.{◌+◌, ◌≤◌, suc, ℕ}
use native.Mathlib.Nat.{le_refl}
use native.Mathlib.Omega.{arith}
use mathlib.Core.Bool.{Bool, true}
use mathlib.Core.List.{List, [], ◌++◌, ◌∷◌}
use mathlib.Core.Path.{◌∙◌, ◌≡◌, ap, subst, sym}
use lib.ListN.{drop, length, length-drop, take}
use lib.Seq.{drop-append_seam, drop-drop, length-take-le, take-add, take-take}
use Rattle.integer_reading.specs.Runs.{Passes}
use Rattle.eights.specs.Marks.{FirstIs, Marks, run}
use Rattle.number.specs.Number.{of_digits}
use Rattle.table.proofs.Laws.{all_append, all_drop, all_take, cond_cases}
use Rattle.table.specs.All.{All, AreBytes}

module _ {test : ℕ → Bool} {s : List ℕ} {at : ℕ} where
  pub passes_none : at ≤ length s → Passes test s at 0
  passes_none h = record { inside = omega arith; all = tt }

  pub passes-length : {n : ℕ} → Passes test s at n → length (take n (drop at s)) ≡ n
  passes-length {n} r = length-take-le n (drop at s) (simp length-drop (omega (arith, r.inside)))

  -- the place and the count are what the code has for them
  pub passes_then : {place m n count : ℕ} → Passes test s at m → Passes test s place n → place ≡ at + m → count ≡ m + n → Passes test s at count
  passes_then {place} {m} {n} {count} p q here counted =
      let both : take (m + n) (drop at s) ≡ take m (drop at s) ++ take n (drop place s) =
      take-add m n (drop at s) ∙ ap (λ (t : List ℕ). take m (drop at s) ++ take n t) (drop-drop m at s ∙ ap (λ (k : ℕ). drop k s) (sym here)) in
      subst (Passes test s at) (sym counted)
      (record {
        inside = omega (arith, q.inside);
        all = subst (All (λ (c : ℕ). test c ≡ true)) (sym both) (all_append _ (take m (drop at s)) (take n (drop place s)) p.all q.all);
      })

  pub passes-front : {k : ℕ} (n : ℕ) → Passes test s at k → n ≤ k → Passes test s at n
  passes-front {k} n d h =
      record { inside = omega (arith, d.inside); all = subst (All (λ (c : ℕ). test c ≡ true)) (take-take n k (drop at s) h) (all_take _ n (take k (drop at s)) d.all) }

  pub passes-part : {k : ℕ} (i n : ℕ) → Passes test s at k → i + n ≤ k → Passes test s (at + i) n
  passes-part {k} i n d h =
      let l : List ℕ = drop at s in
      let whole : All (λ (c : ℕ). test c ≡ true) (take i l ++ take n (drop i l)) = subst (All (λ (c : ℕ). test c ≡ true)) (take-add i n l) (passes-front (i + n) d h).all in
      let behind : All (λ (c : ℕ). test c ≡ true) (take n (drop i l)) =
      subst (All (λ (c : ℕ). test c ≡ true)) (drop-append_seam (take i l) (take n (drop i l))) (all_drop _ (length (take i l)) (take i l ++ take n (drop i l)) whole) in
      record { inside = omega (arith, d.inside); all = subst (λ (t : List ℕ). All (λ (c : ℕ). test c ≡ true) (take n t)) (drop-drop i at s) behind }

-- ---- of the next eight bytes

pub run-all : (test : ℕ → Bool) (l : List ℕ) → All (λ (c : ℕ). test c ≡ true) (take (run test l) l)
unfolding run
run-all test [] = tt
run-all test (b ∷ l) = cond_cases (λ (n : ℕ). All (λ (c : ℕ). test c ≡ true) (take n (b ∷ l))) (test b) (suc (run test l)) 0 (λ e. (e, run-all test l)) (λ _. tt)

pub run-le : (test : ℕ → Bool) (l : List ℕ) → run test l ≤ length l
unfolding run
run-le test [] = le_refl 0
run-le test (b ∷ l) = cond_cases (λ (n : ℕ). n ≤ suc (length l)) (test b) (suc (run test l)) 0 (λ _. omega (arith, run-le test l)) (λ _. omega arith)

pub run-marked : {test : ℕ → Bool} (s : List ℕ) (at : ℕ) {x m n : ℕ} → AreBytes s → at + 8 ≤ length s → x ≡ of_digits 256 0 (take 8 (drop at s)) → Marks test x m → FirstIs m n
    → n ≡ run test (take 8 (drop at s))
run-marked {test} s at a h e marks first =
    let p : List ℕ = take 8 (drop at s) in
    let l : length p ≡ 8 = length-take-le 8 (drop at s) (simp length-drop (omega arith)) in
    first.first test p l (marks.marked p l (all_take _ 8 (drop at s) (all_drop _ at s a)) e)

pub passes-ahead : {test : ℕ → Bool} (s : List ℕ) (at : ℕ) {x m n : ℕ} → AreBytes s → at + 8 ≤ length s → x ≡ of_digits 256 0 (take 8 (drop at s)) → Marks test x m → FirstIs m n
    → Passes test s at n × (n ≤ 8)
passes-ahead {test} s at {n = n} a h e marks first =
    let p : List ℕ = take 8 (drop at s) in
    let l : length p ≡ 8 = length-take-le 8 (drop at s) (simp length-drop (omega arith)) in
    let q : n ≡ run test p = run-marked s at a h e marks first in
    let few : n ≤ 8 = omega (arith, q, run-le test p) in (
      record {
        inside = omega (arith, few);
        all = subst (All (λ (c : ℕ). test c ≡ true)) (ap (λ (k : ℕ). take k p) (sym q) ∙ take-take n 8 (drop at s) few) (run-all test p);
      },
      few,
    )
