-- Bytes at a place of a text, the first lowest: numbers read one after the other are one, the later with as many bytes below it as were read before.
use Prim.Native.Nat.{◌*◌, ◌+◌, ◌<◌, ◌^◌, ◌≤◌, suc, ℕ}
use native.Mathlib.Nat.{pow-succ'}
use native.Mathlib.Omega.{arith}
use mathlib.Core.List.{List, [], ◌++◌, ◌∷◌}
use mathlib.Core.Path.{◌∙◌, ◌≡◌, ap, ap₂, sym}
use lib.ListN.{drop, get_or, length, length-drop, take}
use lib.Seq.{drop-cons, drop-drop, length-take-le, take-add}
use Rattle.eights.specs.Lowest.{of_lowest}

pub lowest-append : (xs ys : List ℕ) → of_lowest (xs ++ ys) ≡ of_lowest ys * 256 ^ length xs + of_lowest xs
unfolding of_lowest
lowest-append [] ys = omega arith
lowest-append (x ∷ xs) ys =
    let more : of_lowest ys * 256 ^ suc (length xs) ≡ 256 * (of_lowest ys * 256 ^ length xs) = ap (λ (k : ℕ). of_lowest ys * k) (pow-succ' 256 (length xs)) ∙ omega arith in
    omega (arith, lowest-append xs ys)

pub lowest-one : (at : ℕ) (s : List ℕ) → at < length s → get_or s at 0 ≡ of_lowest (take 1 (drop at s))
unfolding of_lowest
lowest-one at s h = rw (drop-cons s at 0 h) (omega arith)

-- two numbers read one after the other are one
pub lowest-join : (n m at next : ℕ) (s : List ℕ) {x y : ℕ} → next ≡ at + n → next ≤ length s
    → x ≡ of_lowest (take n (drop at s)) → y ≡ of_lowest (take m (drop next s)) → y * 256 ^ n + x ≡ of_lowest (take (n + m) (drop at s))
lowest-join n m at next s {x} {y} p h e k =
    let l : length (take n (drop at s)) ≡ n = length-take-le n (drop at s) (simp length-drop (omega arith)) in
    let r : drop next s ≡ drop n (drop at s) = ap (λ (j : ℕ). drop j s) p ∙ sym (drop-drop n at s) in
    ap₂ (λ (u v : ℕ). v * 256 ^ n + u) e (k ∙ ap (λ (q : List ℕ). of_lowest (take m q)) r)
    ∙ ap (λ (j : ℕ). of_lowest (take m (drop n (drop at s))) * 256 ^ j + of_lowest (take n (drop at s))) (sym l)
    ∙ sym (ap of_lowest (take-add n m (drop at s)) ∙ lowest-append (take n (drop at s)) (take m (drop n (drop at s))))
