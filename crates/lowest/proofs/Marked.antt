-- Marks of bytes, the first lowest: what is told of bytes with the first highest holds of them turned round; and whether there is a mark
-- is whether the number is 0.
use Prim.Native.Nat.{◌*◌, ◌+◌, ◌<◌, suc, ℕ}
use native.Mathlib.Omega.{arith}
use mathlib.Core.Bool.{Bool, cond, false, true}
use mathlib.Core.List.{List, [], ◌∷◌, map, reverse, reverse_aux}
use mathlib.Core.Path.{◌∙◌, ◌≡◌, ap, refl, sym}
use lib.ListN.{length, length-reverse}
use Rattle.eights.specs.Lowest.{of_lowest}
use Rattle.eights.specs.Marks.{Marks, mark, run}
use Rattle.number.specs.Number.{of_digits}
use Rattle.table.specs.All.{AreBytes}

-- ---- bytes turned round

turned-number : (ds r : List ℕ) → of_digits 256 0 (reverse_aux ds r) ≡ of_digits 256 (of_lowest ds) r
unfolding of_digits of_lowest
turned-number [] r = refl
turned-number (d ∷ ds) r = turned-number ds (d ∷ r) ∙ ap (λ (k : ℕ). of_digits 256 k r) (omega arith)

turned-highest : (ds : List ℕ) → of_digits 256 0 (reverse ds) ≡ of_lowest ds
unfolding of_digits
turned-highest ds = turned-number ds []

turned-map : (f : ℕ → ℕ) (ds r : List ℕ) → map f (reverse_aux ds r) ≡ reverse_aux (map f ds) (map f r)
turned-map f [] r = refl
turned-map f (d ∷ ds) r = turned-map f ds (d ∷ r)

turned-bytes : (ds r : List ℕ) → AreBytes ds → AreBytes r → AreBytes (reverse_aux ds r)
turned-bytes [] r h k = k
turned-bytes (d ∷ ds) r h k = turned-bytes ds (d ∷ r) h.1 (h.0, k)

pub marked-lowest : {test : ℕ → Bool} {x r : ℕ} → Marks test x r → (ds : List ℕ) → length ds ≡ 8 → AreBytes ds → x ≡ of_lowest ds → r ≡ of_lowest (map (mark test) ds)
marked-lowest {test} m ds l a e =
    m.marked (reverse ds) (length-reverse ds ∙ l) (turned-bytes ds [] a tt) (e ∙ sym (turned-highest ds))
    ∙ ap (of_digits 256 0) (turned-map (mark test) ds [])
    ∙ turned-highest (map (mark test) ds)

-- ---- whether there is a mark

pub none-marked : (test : ℕ → Bool) (ds : List ℕ) → of_lowest (map (mark test) ds) ≡ 0 → run test ds ≡ length ds
unfolding of_lowest mark run
none-marked test [] e = refl
none-marked test (d ∷ ds) e = by (test d) (none-marked test ds) e
  where
    by : {m r n : ℕ} (t : Bool) → (m ≡ 0 → r ≡ n) → cond t 0 128 + 256 * m ≡ 0 → cond t (suc r) 0 ≡ suc n
    by true rest e = ap suc (rest (omega arith))
    by false rest e = absurd (omega arith)

pub some-marked : (test : ℕ → Bool) (ds : List ℕ) → (of_lowest (map (mark test) ds) ≡ 0 → ⊥) → run test ds < length ds
unfolding of_lowest mark run
some-marked test [] h = absurd (h refl)
some-marked test (d ∷ ds) h = by (test d) (some-marked test ds) h
  where
    by : {m r n : ℕ} (t : Bool) → ((m ≡ 0 → ⊥) → r < n) → (cond t 0 128 + 256 * m ≡ 0 → ⊥) → cond t (suc r) 0 < suc n
    by true rest h =
        let less = rest (λ e. h (omega arith)) in
        omega arith
    by false rest h = omega arith
