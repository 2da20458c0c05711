-- Places in a buffer: one more behind those that stand is two stores, where there is room (placed-more), so places noted one after the other are what
-- the definition puts there. Cited by note_column, note_row and step_rows.
use Prim.Native.Nat.{◌%◌, ◌*◌, ◌+◌, ◌/◌, ◌^◌, ◌<◌, ◌≤◌, suc, zero, ℕ}
use native.Mathlib.Nat.{zero-div}
use native.Mathlib.Omega.{arith}
use mathlib.Core.Bool.{Bool, cond, false, not, true}
use mathlib.Core.List.{List, [], ◌++◌, ◌∷◌, append_assoc, append-nil}
use mathlib.Core.Path.{◌∙◌, ◌≡◌, ap, refl, subst, sym}
use lib.Dec.{eqb, ltb}
use lib.ListN.{drop, get_or, length, length-append, length-set, set}
use borrow.Author.Tests.{le-ltb, lt-ltb, ltb-false, ltb-true}
use Rattle.binary.specs.Binary.{flag_bit}
use Rattle.compare.specs.Compare.{Place, cell_differs, placed, row_differs, same_cell}
use Rattle.noting.specs.Places.{Notes, marked, marked_at, noted_at}
use Rattle.number.specs.Number.{to_digits}
use Rattle.row_comparing.specs.Clauses.{differing_bits}
use Rattle.table.proofs.Laws.{cond_cases}
use Rattle.table.proofs.Places.{done, next1}
use Rattle.table.specs.Cell.{Cell}

-- ---- one place more

-- behind a place that stands
noted-behind : (n r c u v : ℕ) (l : List ℕ) → noted_at (suc n) r c (u ∷ v ∷ l) ≡ u ∷ v ∷ noted_at n r c l
noted-behind n r c u v l = go (ltb n (length l / 2)) refl
  where
    whole : List ℕ
    whole = u ∷ v ∷ l

    half : ℕ
    half = length whole / 2

    stores : (i j : ℕ) → i ≡ suc (suc (2 * n)) → j ≡ suc (suc (2 * n + 1)) → set (set whole i r) j c ≡ u ∷ v ∷ set (set l (2 * n) r) (2 * n + 1) c
    stores i j p q = rw (p, q)

    go : (b : Bool) → ltb n (length l / 2) ≡ b → noted_at (suc n) r c whole ≡ u ∷ v ∷ noted_at n r c l
    go true e =
        let more : ltb (suc n) half ≡ true = lt-ltb (suc n) half (omega (arith, ltb-true n (length l / 2) e)) in
        ap (λ (b : Bool). cond b (set (set whole (2 * suc n) r) (2 * suc n + 1) c) whole) more ∙ stores (2 * suc n) (2 * suc n + 1) (omega arith) (omega arith)
        ∙ sym (ap (λ (b : Bool). u ∷ v ∷ cond b (set (set l (2 * n) r) (2 * n + 1) c) l) e)
    go false e =
        let none : ltb (suc n) half ≡ false = le-ltb (suc n) half (omega (arith, ltb-false n (length l / 2) e)) in
        ap (λ (b : Bool). cond b (set (set whole (2 * suc n) r) (2 * suc n + 1) c) whole) none
        ∙ sym (ap (λ (b : Bool). u ∷ v ∷ cond b (set (set l (2 * n) r) (2 * n + 1) c) l) e)

pub placed-more : (ds : List Place) (p : Place) (start : List ℕ) → placed (ds ++ (p ∷ [])) start ≡ noted_at (length ds) p.row p.column (placed ds start)
unfolding placed
placed-more [] p [] = refl
placed-more [] p (x ∷ []) = refl
placed-more [] p (x ∷ y ∷ start) = rw (lt-ltb 0 (suc (suc (length start)) / 2) (omega arith))
placed-more (d ∷ ds) p [] = rw (le-ltb (suc (length ds)) 0 (omega arith))
placed-more (d ∷ ds) p (x ∷ []) = rw (le-ltb (suc (length ds)) 0 (omega arith))
placed-more (d ∷ ds) p (x ∷ y ∷ start) =
    ap (λ (l : List ℕ). d.row ∷ d.column ∷ l) (placed-more ds p start) ∙ sym (noted-behind (length ds) p.row p.column d.row d.column (placed ds start))

pub noted-long : (n r k : ℕ) (l : List ℕ) → length (noted_at n r k l) ≡ length l
noted-long n r k l =
    cond_cases (λ (m : List ℕ). length m ≡ length l) (ltb n (length l / 2)) (set (set l (2 * n) r) (2 * n + 1) k) l
    (λ _. length-set (set l (2 * n) r) (2 * n + 1) k ∙ length-set l (2 * n) r) (λ _. refl)

-- ---- places one after the other

pub notes-none : (n : ℕ) (entry : List ℕ) → Notes n entry [] entry n
notes-none n entry = record { counts = omega arith; leaves = λ ds start l e. rw append-nil e; long = refl }

pub notes-then : (n : ℕ) (entry : List ℕ) (ps : List Place) (middle : List ℕ) (m : ℕ) → Notes n entry ps middle m → (qs : List Place) (exit : List ℕ) (r : ℕ)
    → Notes m middle qs exit r → Notes n entry (ps ++ qs) exit r
notes-then n entry ps middle m h qs exit r k = record {
  counts = omega (arith, h.counts, k.counts, length-append ps qs);
  leaves = λ ds start l e. rw (sym (append_assoc ds ps qs)) (k.leaves (ds ++ ps) start (omega (arith, h.counts, length-append ds ps)) (h.leaves ds start l e));
  long = k.long ∙ h.long;
}

pub notes-one : (n : ℕ) (entry : List ℕ) (r k : ℕ) (exit : List ℕ) → exit ≡ noted_at n r k entry → Notes n entry (marked_at r k true) exit (n + 1)
notes-one n entry r k exit e = record {
  counts = refl;
  leaves = λ ds start n-is s. e ∙ rw (sym n-is, s) (sym (placed-more ds (record { row = r; column = k }) start));
  long = ap length e ∙ noted-long n r k entry;
}

-- ---- a row's places by its bits

bit-differs : (b : Bool) → eqb (flag_bit (not b)) 1 ≡ not b
bit-differs true = refl
bit-differs false = refl

cell-marked : (r k : ℕ) (x y : Cell) → cell_differs r k x y ≡ marked_at r k (eqb (flag_bit (not (same_cell x y))) 1)
unfolding cell_differs
cell-marked r k x y = rw (bit-differs (same_cell x y)) (go (same_cell x y))
  where
    go : (b : Bool) → cond {A = List Place} b [] (record { row = r; column = k } ∷ []) ≡ marked_at r k (not b)
    go true = refl
    go false = refl

pub row-marked : (r k : ℕ) (xs ys : List Cell) → row_differs r k xs ys ≡ marked r k (differing_bits xs ys)
unfolding row_differs marked differing_bits
row-marked r k [] ys = refl
row-marked r k (x ∷ xs) [] = refl
row-marked r k (x ∷ xs) (y ∷ ys) = rw (cell-marked r k x y, row-marked r (k + 1) xs ys)

pub marked-few : (r k : ℕ) (bs : List ℕ) → length (marked r k bs) ≤ length bs
unfolding marked
marked-few r k [] = omega arith
marked-few r k (b ∷ bs) =
    let few : length (marked_at r k (eqb b 1)) ≤ 1 = cond_cases (λ (ps : List Place). length ps ≤ 1) (eqb b 1) (record { row = r; column = k } ∷ []) [] (λ _. omega arith) (λ _. omega arith) in
    omega (arith, few, marked-few r (k + 1) bs, length-append (marked_at r k (eqb b 1)) (marked r (k + 1) bs))

-- no bit is set
pub none-marked : (r k n : ℕ) → marked r k (to_digits 2 n 0) ≡ []
unfolding marked to_digits
none-marked r k zero = refl
none-marked r k (suc n) = rw (zero-digit n, none-marked r (k + 1) n)
  where
    zero-digit : (n : ℕ) → 0 / 2 ^ n % 2 ≡ 0
    zero-digit n = rw (zero-div (2 ^ n))

-- the places of a row while its bits are looked at: those noted so far, and those of the bits from i on
pub record Noted (r : ℕ) (bits : List ℕ) (n : ℕ) (entry places : List ℕ) (m i : ℕ) : Type 0 where
  pub ps : List Place
  pub ahead : marked r 0 bits ≡ ps ++ marked r i (drop i bits)
  pub notes : Notes n entry ps places m
  pub few : m ≤ n + i

pub noted-start : (r : ℕ) (bits : List ℕ) (n : ℕ) (entry : List ℕ) → Noted r bits n entry entry n 0
noted-start r bits n entry = record { ps = []; ahead = refl; notes = notes-none n entry; few = omega arith }

module _ (r : ℕ) (bits : List ℕ) (n : ℕ) (entry places : List ℕ) (m i : ℕ) (inv : Noted r bits n entry places m i) where
  pub noted-next : i < length bits → (differs : Bool) → differs ≡ eqb (get_or bits i 0) 1 → (exit : List ℕ) (k : ℕ) → Notes m places (marked_at r i differs) exit k
      → Noted r bits n entry exit k (i + 1)
  unfolding marked
  noted-next h differs e exit k note =
      let j : Notes m places (marked_at r i (eqb (get_or bits i 0) 1)) exit k = subst (λ (b : Bool). Notes m places (marked_at r i b) exit k) e note in
      let few-more : length (marked_at r i (eqb (get_or bits i 0) 1)) ≤ 1 =
      cond_cases (λ (qs : List Place). length qs ≤ 1) (eqb (get_or bits i 0) 1) (record { row = r; column = i } ∷ []) [] (λ _. omega arith) (λ _. omega arith) in
      record {
        ps = inv.ps ++ marked_at r i (eqb (get_or bits i 0) 1);
        ahead = inv.ahead ∙ rw (next1 bits i h) (sym (append_assoc inv.ps (marked_at r i (eqb (get_or bits i 0) 1)) (marked r (i + 1) (drop (i + 1) bits))));
        notes = notes-then n entry inv.ps places m inv.notes (marked_at r i (eqb (get_or bits i 0) 1)) exit k j;
        few = omega (arith, inv.few, j.counts, few-more);
      }

  pub noted-all : length bits ≤ i → Notes n entry (marked r 0 bits) places m
  unfolding marked
  noted-all h = rw (inv.ahead, done bits i h, append-nil) inv.notes
