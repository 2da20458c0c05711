-- Which characters the text of a cell has from one place to another: bytes that stand for themselves, one after the other.
use Prim.Native.Nat.{◌+◌, ◌-◌, ◌<◌, ◌≤◌, ℕ}
use native.Mathlib.Nat.{le_refl}
use native.Mathlib.Omega.{arith}
use mathlib.Core.List.{List, [], ◌++◌, ◌∷◌, append_assoc}
use mathlib.Core.Path.{◌∙◌, ◌≡◌, ap, refl, sym}
use lib.IntN.{ℤ}
use lib.ListN.{drop, get_or, length, take, take-append-drop}
use lib.Seq.{drop-drop}
use Rattle.moving.specs.Contents.{Spells, before}
use Rattle.table.proofs.Places.{next1}
use Rattle.table.specs.All.{All}
use Rattle.table.specs.Result.{Result, bad, every, good}
use Rattle.tabledata.proofs.LineEnds.{itself-read}
use Rattle.tabledata.specs.TableData.{characters, cons_text, plain}

-- ---- characters before those of a text

pub before-none : (r : Result ℕ (List ℕ × List ℕ)) → r ≡ before [] r
unfolding before
before-none (good p) = refl
before-none (bad n) = refl

before-then : (w v : List ℕ) (r : Result ℕ (List ℕ × List ℕ)) → before w (before v r) ≡ before (w ++ v) r
unfolding before
before-then w v (good p) = ap (λ (t : List ℕ). good (t, p.1)) (sym (append_assoc w v p.0))
before-then w v (bad n) = refl

pub before-cons : (c : ℕ) (w : List ℕ) (r : Result ℕ (List ℕ × List ℕ)) → cons_text c (before w r) ≡ before (c ∷ w) r
unfolding before cons_text
before-cons c w (good p) = refl
before-cons c w (bad n) = refl

-- ---- a text in parts

pub spells-none : (s : List ℕ) (i : ℕ) → i ≤ length s → Spells s i i []
spells-none s i h = record { spelled = before-none (characters plain (drop i s)); onward = le_refl i; inside = h }

pub spells_then : {s : List ℕ} {i j k : ℕ} {w v : List ℕ} → Spells s i j w → Spells s j k v → Spells s i k (w ++ v)
spells_then {s} {i} {j} {k} {w} {v} p q = record {
  spelled = p.spelled ∙ ap (before w) q.spelled ∙ before-then w v (characters plain (drop k s));
  onward = omega (arith, p.onward, q.onward);
  inside = q.inside;
}

-- ---- bytes that stand for themselves

abbrev pub Itself : ℕ → Type 0
Itself b = (b ≡ 60 → ⊥) × (b ≡ 38 → ⊥) × (b ≡ 13 → ⊥)

run-read : (w s : List ℕ) → All Itself w → characters plain (w ++ s) ≡ before w (characters plain s)
run-read [] s h = before-none (characters plain s)
run-read (b ∷ w) s h =
    itself-read (w ++ s) b h.0.0 h.0.1 h.0.2 ∙ ap (cons_text b) (run-read w s h.1) ∙ before-cons b w (characters plain s)

pub spells-run : (s : List ℕ) (i n : ℕ) → i + n ≤ length s → All Itself (take n (drop i s)) → Spells s i (i + n) (take n (drop i s))
spells-run s i n h a = record {
  spelled =
      ap (characters plain) (sym (take-append-drop n (drop i s))) ∙ run-read (take n (drop i s)) (drop n (drop i s)) a
      ∙ ap (λ (t : List ℕ). before (take n (drop i s)) (characters plain t)) (drop-drop n i s);
  onward = omega arith;
  inside = h;
}

-- up to a place
pub spells-to : (s : List ℕ) (i j : ℕ) → i ≤ j → j ≤ length s → All Itself (take (j - i) (drop i s)) → Spells s i j (take (j - i) (drop i s))
spells-to s i j l h a =
    let e : i + (j - i) ≡ j = omega arith in
    rw e at (spells-run s i (j - i) (omega arith) a)

-- one byte
pub spells_one : (s : List ℕ) (i : ℕ) → i < length s → Itself (get_or s i 0) → Spells s i (i + 1) (get_or s i 0 ∷ [])
spells_one s i h a = record {
  spelled =
      ap (characters plain) (next1 s i h) ∙ itself-read (drop (i + 1) s) (get_or s i 0) a.0 a.1 a.2
      ∙ ap (cons_text (get_or s i 0)) (before-none (characters plain (drop (i + 1) s))) ∙ before-cons (get_or s i 0) [] (characters plain (drop (i + 1) s));
  onward = omega arith;
  inside = omega arith;
}

-- ---- one word read

pub every_one : (f : List ℕ → Result ℕ ℤ) (w : List ℕ) (z : ℤ) → f w ≡ good z → every f (w ∷ []) ≡ good (z ∷ [])
unfolding every
every_one f w z e = rw e
