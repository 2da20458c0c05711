-- What stands at the front of a buffer after runs of stores.
use Prim.Native.Nat.{◌+◌, ◌<◌, ◌≤◌, suc, ℕ}
use native.Mathlib.Omega.{arith}
use mathlib.Core.List.{List, [], ◌++◌, ◌∷◌, append_assoc}
use mathlib.Core.Path.{◌∙◌, ◌≡◌, ap, ap₂, sym}
use lib.Dec.{lit<}
use lib.ListN.{drop, get_or, length, length-drop, take}
use lib.Seq.{drop-drop, length-take-le, sets, take-add, take-append-add, take-take}
use Rattle.moving.proofs.Puts.{front-run}
use Rattle.number.proofs.Laws.{to-of}
use Rattle.number.specs.Number.{of_digits, to_digits}
use Rattle.table.proofs.Laws.{all_drop, all_take}
use Rattle.table.specs.All.{AreBytes}

pub are-bytes : (s : List ℕ) → ((i : ℕ) → get_or s i 0 < 256) → AreBytes s
are-bytes [] h = tt
are-bytes (b ∷ s) h = (h 0, are-bytes s (λ i. h (suc i)))

-- the bytes of a number that was read are the bytes that were there
pub eight-back : (s : List ℕ) (at x : ℕ) → AreBytes s → at + 8 ≤ length s → x ≡ of_digits 256 0 (take 8 (drop at s)) → to_digits 256 8 x ≡ take 8 (drop at s)
eight-back s at x a h e =
    let p : List ℕ = take 8 (drop at s) in
    let l : length p ≡ 8 = length-take-le 8 (drop at s) (simp length-drop (omega arith)) in
    ap (to_digits 256 8) e
    ∙ ap (λ (k : ℕ). to_digits 256 k (of_digits 256 0 p)) (sym l)
    ∙ to-of 256 (lit< tt) 0 p (all_take _ 8 (drop at s) (all_drop _ at s a))

-- eight bytes more are copied
pub eight-more : (s row row' start : List ℕ) (from o k x : ℕ) → AreBytes s → from + k + 8 ≤ length s → o + k + 8 ≤ length row
    → x ≡ of_digits 256 0 (take 8 (drop (from + k) s)) → row' ≡ sets row (o + k) (to_digits 256 8 x)
    → take (o + k) row ≡ start ++ take k (drop from s)
    → take (o + (k + 8)) row' ≡ start ++ take (k + 8) (drop from s)
eight-more s row row' start from o k x a h g e w i =
    let p : List ℕ = take 8 (drop (from + k) s) in
    let l : length p ≡ 8 = length-take-le 8 (drop (from + k) s) (simp length-drop (omega arith)) in
    let n : o + (k + 8) ≡ o + k + length p = omega arith in
    let q : p ≡ take 8 (drop k (drop from s)) = ap (take 8) (sym (drop-drop k from s)) in
    ap₂ (λ (j : ℕ) (m : List ℕ). take j m) n (w ∙ ap (sets row (o + k)) (eight-back s (from + k) x a h e))
    ∙ front-run p row (o + k) (omega arith)
    ∙ ap₂ (λ (u v : List ℕ). u ++ v) i q
    ∙ append_assoc start (take k (drop from s)) (take 8 (drop k (drop from s)))
    ∙ ap (λ (u : List ℕ). start ++ u) (sym (take-add k 8 (drop from s)))

-- what goes beyond n does not count
pub front_less : (row start d : List ℕ) (o k n : ℕ) → n ≤ k → length start ≡ o → take (o + k) row ≡ start ++ take k d → take (o + n) row ≡ start ++ take n d
front_less row start d o k n h l e =
    sym (take-take (o + n) (o + k) row (omega arith))
    ∙ ap (take (o + n)) e
    ∙ ap (λ (j : ℕ). take (j + n) (start ++ take k d)) (sym l)
    ∙ take-append-add start (take k d) n
    ∙ ap (λ (r : List ℕ). start ++ r) (take-take n k d h)
