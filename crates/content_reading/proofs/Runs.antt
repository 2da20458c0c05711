-- Runs of bytes that pass a test: eight more at a time, and what is copied of them.
use Prim.Native.Nat.{◌+◌, ◌-◌, ◌≤◌, ℕ}
use native.Mathlib.Nat.{le_refl}
use native.Mathlib.Omega.{arith}
use mathlib.Core.Bool.{Bool, true}
use mathlib.Core.List.{List, ◌++◌}
use mathlib.Core.Path.{◌∙◌, ◌≡◌, ap, subst, sym}
use lib.ListN.{drop, length, length-drop, take}
use lib.Seq.{drop-drop, length-take-le, take-add, take-take}
use Rattle.content_reading.specs.Passing.{PassTo}
use Rattle.integer_reading.proofs.Runs.{run-all, run-le}
use Rattle.integer_reading.specs.Runs.{Passes}
use Rattle.eights.specs.Marks.{run}
use Rattle.moving.specs.Puts.{Puts}
use Rattle.table.proofs.Laws.{all_append}
use Rattle.table.specs.All.{All}

-- of eight bytes
run-ahead : (test : ℕ → Bool) (s : List ℕ) (at r : ℕ) → at + 8 ≤ length s → r ≡ run test (take 8 (drop at s)) → (r ≤ 8) × All (λ (c : ℕ). test c ≡ true) (take r (drop at s))
run-ahead test s at r h e =
    let l : length (take 8 (drop at s)) ≡ 8 = length-take-le 8 (drop at s) (simp length-drop (omega arith)) in
    let few : r ≤ 8 = omega (arith, e, run-le test (take 8 (drop at s))) in
    (few, subst (All (λ (c : ℕ). test c ≡ true)) (ap (λ (n : ℕ). take n (take 8 (drop at s))) (sym e) ∙ take-take r 8 (drop at s) few) (run-all test (take 8 (drop at s))))

pub pass-none : (test : ℕ → Bool) (s : List ℕ) (at : ℕ) → at ≤ length s → PassTo test s at at
pass-none test s at h =
    let n : 0 ≡ at - at = omega arith in
    record { low = le_refl at; high = h; passing = subst (λ (k : ℕ). All (λ (c : ℕ). test c ≡ true) (take k (drop at s))) n tt }

module _ {test : ℕ → Bool} {s : List ℕ} {i j : ℕ} (p : PassTo test s i j) where
  -- some of the next eight bytes
  pub pass-more : (r : ℕ) → j + 8 ≤ length s → r ≡ run test (take 8 (drop j s)) → PassTo test s i (j + r) × (r ≤ 8)
  pass-more r h e =
      let q = run-ahead test s j r h e in
      let n : j + r - i ≡ j - i + r = omega (arith, p.low) in
      let m : i + (j - i) ≡ j = omega (arith, p.low) in (
        record {
          low = omega (arith, p.low);
          high = omega (arith, q.0);
          passing = subst (All (λ (c : ℕ). test c ≡ true))
              (sym (ap (λ (x : ℕ). take x (drop i s)) n ∙ take-add (j - i) r (drop i s)
              ∙ ap (λ (t : List ℕ). take (j - i) (drop i s) ++ take r t) (drop-drop (j - i) i s ∙ ap (λ (x : ℕ). drop x s) m)))
              (all_append _ (take (j - i) (drop i s)) (take r (drop j s)) p.passing q.1);
        },
        q.0,
      )

  -- all of them
  pub pass-eight : (r : ℕ) → j + 8 ≤ length s → r ≡ run test (take 8 (drop j s)) → 8 ≤ r → PassTo test s i (j + 8)
  pass-eight r h e k =
      let q = pass-more r h e in
      let eight : r ≡ 8 = omega (arith, q.1) in
      subst (λ (n : ℕ). PassTo test s i (j + n)) eight q.0

  pub pass-passes : Passes test s i (j - i)
  pass-passes = record { inside = omega (arith, p.low, p.high); all = p.passing }

  pub pass-long : length (take (j - i) (drop i s)) ≡ j - i
  pass-long = length-take-le (j - i) (drop i s) (simp length-drop (omega (arith, p.high)))

  pub pass-copied : {old : List ℕ} {o : ℕ} {new : List ℕ} {e : ℕ} → Puts old o (take (j - i) (drop i s)) new e → e ≡ o + (j - i)
  pass-copied q = omega (arith, q.next-is, pass-long)
