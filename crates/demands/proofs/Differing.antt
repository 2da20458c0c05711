-- The places that `differences` lists: each names two cells that are not equal, each such pair is named, in row and column order. By induction along a row,
-- and then along the rows, with how far a place is past where the list begins. Two lists of the same places in order are one list.
use Rattle.std.proofs.lemmas.Option.{none-some}
use Rattle.std.specs.Prelude.{Some, slice_get}
use Prim.Native.Nat.{◌+◌, suc, zero, ℕ}
use native.Mathlib.Omega.{arith}
use mathlib.Core.List.{List, [], ◌++◌, ◌∷◌}
use mathlib.Core.Logic.{◌⊎◌, inl, inr}
use mathlib.Core.Path.{◌∙◌, ◌≡◌, ap₂, refl, subst, sym}
use Rattle.compare.proofs.Same.{cell-false, cell_other}
use Rattle.compare.specs.Compare.{Place, cell_differs, differences, row_differs, same_cell}
use Rattle.demands.specs.TwoNights.{Among, Ascending, Before}
use Rattle.table.proofs.Laws.{all_append, all-weaken, cond_cases}
use Rattle.table.specs.All.{All}
use Rattle.table.specs.Cell.{Cell}

-- ---- lists of places

abbrev place : ℕ → ℕ → Place
place r k = record { row = r; column = k }

among-left : (p : Place) (ps qs : List Place) → Among p ps → Among p (ps ++ qs)
among-left p [] qs m = absurd m
among-left p (q ∷ ps) qs (inl e) = inl e
among-left p (q ∷ ps) qs (inr m) = inr (among-left p ps qs m)

among-right : (p : Place) (ps qs : List Place) → Among p qs → Among p (ps ++ qs)
among-right p [] qs m = m
among-right p (q ∷ ps) qs m = inr (among-right p ps qs m)

pub among-all : (P : Place → Type 0) (ps : List Place) → All P ps → (p : Place) → Among p ps → P p
among-all P [] a p m = absurd m
among-all P (q ∷ ps) a p (inl e) = subst P (sym e) a.0
among-all P (q ∷ ps) a p (inr m) = among-all P ps a.1 p m

ascending-append : (ps qs : List Place) → Ascending ps → Ascending qs → All (λ (p : Place). All (Before p) qs) ps → Ascending (ps ++ qs)
ascending-append [] qs a b c = b
ascending-append (p ∷ ps) qs a b c = (all_append (Before p) ps qs a.0 c.0, ascending-append ps qs a.1 b c.1)

-- no place is before itself, nor are two before each other
one_way : (p q : Place) → Before p q → Before q p → ⊥
one_way p q (inl l) (inl m) = omega arith
one_way p q (inl l) (inr m) = omega arith
one_way p q (inr l) (inl m) = omega arith
one_way p q (inr l) (inr m) = omega arith

-- two lists of the same places in order are one
pub one_list : (ps qs : List Place) → Ascending ps → Ascending qs → ((p : Place) → Among p ps → Among p qs) → ((p : Place) → Among p qs → Among p ps) → ps ≡ qs
one_list [] [] a b f g = refl
one_list [] (q ∷ qs) a b f g = absurd (g q (inl refl))
one_list (p ∷ ps) [] a b f g = absurd (f p (inl refl))
one_list (p ∷ ps) (q ∷ qs) a b f g =
    let head = heads (f p (inl refl)) (g q (inl refl)) in
    ap₂ (λ (z : Place) (zs : List Place). z ∷ zs) head
    (one_list ps qs a.1 b.1 (λ z m. behind p q head ps qs a.0 z m (f z (inr m))) (λ z m. behind q p (sym head) qs ps b.0 z m (g z (inr m))))
  where
    heads : (p ≡ q) ⊎ Among p qs → (q ≡ p) ⊎ Among q ps → p ≡ q
    heads (inl e) n = e
    heads (inr m) (inl e) = sym e
    heads (inr m) (inr n) = absurd (one_way p q (among-all (Before p) ps a.0 q n) (among-all (Before q) qs b.0 p m))

    behind : (p q : Place) → p ≡ q → (ps qs : List Place) → All (Before p) ps → (z : Place) → Among z ps → (z ≡ q) ⊎ Among z qs → Among z qs
    behind p q e ps qs a z m (inr n) = n
    behind p q e ps qs a z m (inl h) =
        let before : Before p z = among-all (Before p) ps a z m in
        let same : z ≡ p = h ∙ sym e in
        absurd (one_way p p (subst (Before p) same before) (subst (Before p) same before))

-- ---- a row

-- two cells of one column that are not equal
pub record CellsDiffer (xs ys : List Cell) (k : ℕ) : Type 0 where
  pub first_cell : Cell
  pub second-cell : Cell
  pub of-first : slice_get xs k ≡ Some first_cell
  pub of-second : slice_get ys k ≡ Some second-cell
  pub not_same : first_cell ≡ second-cell → ⊥

-- a place of row r, of cells that stand from column k on
record InRow (r k : ℕ) (xs ys : List Cell) (p : Place) : Type 0 where
  past : ℕ
  row_is : p.row ≡ r
  column-is : p.column ≡ k + past
  differ : CellsDiffer xs ys past

one-cell-on : (xs ys : List Cell) (x y : Cell) (i : ℕ) → CellsDiffer xs ys i → CellsDiffer (x ∷ xs) (y ∷ ys) (suc i)
one-cell-on xs ys x y i d =
    record { first_cell = d.first_cell; second-cell = d.second-cell; of-first = d.of-first; of-second = d.of-second; not_same = d.not_same }

cell-listed : (r k : ℕ) (x y : Cell) (xs ys : List Cell) → All (InRow r k (x ∷ xs) (y ∷ ys)) (cell_differs r k x y)
unfolding cell_differs
cell-listed r k x y xs ys =
    cond_cases (All (InRow r k (x ∷ xs) (y ∷ ys))) (same_cell x y) [] (place r k ∷ []) (λ _. tt)
    (λ f. (
      record {
        past = 0;
        row_is = refl;
        column-is = omega arith;
        differ = record { first_cell = x; second-cell = y; of-first = refl; of-second = refl; not_same = cell_other x y f };
      },
      tt,
    ))

row_listed : (r k : ℕ) (xs ys : List Cell) → All (InRow r k xs ys) (row_differs r k xs ys)
unfolding row_differs
row_listed r k [] ys = tt
row_listed r k (x ∷ xs) [] = tt
row_listed r k (x ∷ xs) (y ∷ ys) =
    all_append (InRow r k (x ∷ xs) (y ∷ ys)) (cell_differs r k x y) (row_differs r (k + 1) xs ys) (cell-listed r k x y xs ys)
    (all-weaken (InRow r (k + 1) xs ys) (InRow r k (x ∷ xs) (y ∷ ys)) (row_differs r (k + 1) xs ys)
    (λ p h. record { past = suc h.past; row_is = h.row_is; column-is = omega (arith, h.column-is); differ = one-cell-on xs ys x y h.past h.differ })
    (row_listed r (k + 1) xs ys))

row-complete : (r k : ℕ) (xs ys : List Cell) (i : ℕ) (p : Place) → p.row ≡ r → p.column ≡ k + i → CellsDiffer xs ys i → Among p (row_differs r k xs ys)
unfolding row_differs cell_differs
row-complete r k [] ys i p e f d = absurd (none-some d.first_cell d.of-first)
row-complete r k (x ∷ xs) [] i p e f d = absurd (none-some d.second-cell d.of-second)
row-complete r k (x ∷ xs) (y ∷ ys) zero p e f d =
    let here : x ≡ d.first_cell = cc d.of-first in
    let there : y ≡ d.second-cell = cc d.of-second in
    let other : same_cell x y ≡ _ = cell-false x y (λ q. d.not_same (sym here ∙ q ∙ there)) in
    rw other (inl (ap₂ place e (f ∙ omega arith)))
row-complete r k (x ∷ xs) (y ∷ ys) (suc i) p e f d =
    among-right p (cell_differs r k x y) (row_differs r (k + 1) xs ys)
    (row-complete r (k + 1) xs ys i p e (omega (arith, f))
    (record { first_cell = d.first_cell; second-cell = d.second-cell; of-first = d.of-first; of-second = d.of-second; not_same = d.not_same }))

row-ascends : (r k : ℕ) (xs ys : List Cell) → Ascending (row_differs r k xs ys)
unfolding row_differs cell_differs
row-ascends r k [] ys = tt
row-ascends r k (x ∷ xs) [] = tt
row-ascends r k (x ∷ xs) (y ∷ ys) =
    cond_cases (λ (ps : List Place). Ascending (ps ++ row_differs r (k + 1) xs ys)) (same_cell x y) [] (place r k ∷ []) (λ _. row-ascends r (k + 1) xs ys)
    (λ _. (
      all-weaken (InRow r (k + 1) xs ys) (Before (place r k)) (row_differs r (k + 1) xs ys) (λ p h. inr (sym h.row_is, omega (arith, h.column-is)))
          (row_listed r (k + 1) xs ys),
      row-ascends r (k + 1) xs ys,
    ))

-- ---- the rows from row r on

pub record InRows (r : ℕ) (first second : List (List Cell)) (p : Place) : Type 0 where
  pub past : ℕ
  pub row_is : p.row ≡ r + past
  pub first-row : List Cell
  pub second-row : List Cell
  pub in-first : slice_get first past ≡ Some first-row
  pub in-second : slice_get second past ≡ Some second-row
  pub differ : CellsDiffer first-row second-row p.column

pub listed : (r : ℕ) (first second : List (List Cell)) → All (InRows r first second) (differences r first second)
unfolding differences
listed r [] second = tt
listed r (xs ∷ first) [] = tt
listed r (xs ∷ first) (ys ∷ second) =
    all_append (InRows r (xs ∷ first) (ys ∷ second)) (row_differs r 0 xs ys) (differences (r + 1) first second)
    (all-weaken (InRow r 0 xs ys) (InRows r (xs ∷ first) (ys ∷ second)) (row_differs r 0 xs ys) this-row (row_listed r 0 xs ys))
    (all-weaken (InRows (r + 1) first second) (InRows r (xs ∷ first) (ys ∷ second)) (differences (r + 1) first second) later-row (listed (r + 1) first second))
  where
    this-row : (p : Place) → InRow r 0 xs ys p → InRows r (xs ∷ first) (ys ∷ second) p
    this-row p h = record {
      past = 0;
      row_is = omega (arith, h.row_is);
      first-row = xs;
      second-row = ys;
      in-first = refl;
      in-second = refl;
      differ = subst (CellsDiffer xs ys) (omega (arith, h.column-is)) h.differ;
    }

    later-row : (p : Place) → InRows (r + 1) first second p → InRows r (xs ∷ first) (ys ∷ second) p
    later-row p h = record {
      past = suc h.past;
      row_is = omega (arith, h.row_is);
      first-row = h.first-row;
      second-row = h.second-row;
      in-first = h.in-first;
      in-second = h.in-second;
      differ = h.differ;
    }

complete-from : (r : ℕ) (first second : List (List Cell)) (i : ℕ) (xs ys : List Cell) (p : Place) → p.row ≡ r + i → slice_get first i ≡ Some xs → slice_get second i ≡ Some ys
    → CellsDiffer xs ys p.column → Among p (differences r first second)
unfolding differences
complete-from r [] second i xs ys p e f g d = absurd (none-some xs f)
complete-from r (us ∷ first) [] i xs ys p e f g d = absurd (none-some ys g)
complete-from r (us ∷ first) (vs ∷ second) zero xs ys p e f g d =
    let here : us ≡ xs = cc f in
    let there : vs ≡ ys = cc g in
    among-left p (row_differs r 0 us vs) (differences (r + 1) first second) (row-complete r 0 us vs p.column p (omega (arith, e)) (omega arith) (rw (here, there) d))
complete-from r (us ∷ first) (vs ∷ second) (suc i) xs ys p e f g d =
    among-right p (row_differs r 0 us vs) (differences (r + 1) first second) (complete-from (r + 1) first second i xs ys p (omega (arith, e)) f g d)

pub complete : (r : ℕ) (first second : List (List Cell)) (p : Place) → InRows r first second p → Among p (differences r first second)
complete r first second p h = complete-from r first second h.past h.first-row h.second-row p h.row_is h.in-first h.in-second h.differ

pub ascends : (r : ℕ) (first second : List (List Cell)) → Ascending (differences r first second)
unfolding differences
ascends r [] second = tt
ascends r (xs ∷ first) [] = tt
ascends r (xs ∷ first) (ys ∷ second) =
    ascending-append (row_differs r 0 xs ys) (differences (r + 1) first second) (row-ascends r 0 xs ys) (ascends (r + 1) first second)
    (all-weaken (InRow r 0 xs ys) (λ (p : Place). All (Before p) (differences (r + 1) first second)) (row_differs r 0 xs ys)
    (λ p h. all-weaken (InRows (r + 1) first second) (Before p) (differences (r + 1) first second) (λ q g. inl (omega (arith, h.row_is, g.row_is)))
    (listed (r + 1) first second)) (row_listed r 0 xs ys))
