-- The call: what a walk over an input answers is what the input shows (shown_of), and each way out of a comparison is one law. Cited by refuse_second,
-- compare_rows and compare.
use Prim.Native.Nat.{◌+◌, ◌-◌, ◌<◌, ℕ}
use native.Mathlib.Omega.{arith}
use mathlib.Core.List.{List, []}
use mathlib.Core.Path.{◌∙◌, ◌≡◌, ap, refl, sym}
use lib.ListN.{length}
use Rattle.compare.specs.Compare.{Compares, before_rows, both_show, compare, compared_as, counted, filled, placed, refused_in, rows_shown, shows}
use Rattle.compare.specs.declared.Comparison.{Comparison}
use Rattle.comparing.specs.Clauses.{behind_first, in_step, rows_both}
use Rattle.fields.proofs.Front.{front-good}
use Rattle.fields.specs.Fields.{declare}
use Rattle.fields.specs.Front.{front}
use Rattle.rows.proofs.Laws.{Placed, read-stops}
use Rattle.rows.proofs.Sequences.{Stops}
use Rattle.rows.specs.Sequence.{finished, in_order, row, stopped}
use Rattle.rows.specs.Stream.{Table, passed, read}
use Rattle.table.specs.Cell.{Cell}
use Rattle.table.specs.Outcome.{Refusal, accepted, answer_of, at, most_number, refused}
use Rattle.table.specs.Result.{Result, bad, good}
use Rattle.table.specs.declared.Answer.{Answer}
use Rattle.table.specs.declared.Column.{Column}
use Rattle.table.specs.declared.Rows.{Rows}

-- ---- a walk and what it shows

-- a table that is passed over from row r on: read to its end, or refused with a number
data Shown (r : ℕ) (t : Table) : Type 0 where
  whole : rows_shown r t ≡ good (in_order t) → passed r t ≡ accepted (r + length (in_order t)) [] → Shown r t
  broken : {e : Refusal} {k : ℕ} → rows_shown r t ≡ bad (answer_of (refused e k [])) → passed r t ≡ refused e k [] → 0 < e.number → Shown r t

shown_of : (r : ℕ) (t : Table) → Stops (λ (e : Refusal). 0 < e.number) t → Shown r t
unfolding rows_shown passed in_order
shown_of r finished h = whole refl (ap (λ (n : ℕ). accepted n []) (omega arith))
shown_of r (stopped e) h = broken {e = e} {k = r} refl refl h
shown_of r (row xs t) h = go (shown_of (r + 1) t h)
  where
    go : Shown (r + 1) t → Shown r (row xs t)
    go (whole p q) = whole (rw p) (q ∙ ap (λ (n : ℕ). accepted n []) (omega arith))
    go (broken {e = e} {k = k} p q n) = broken {e = e} {k = k} (rw p) q n

numbers-some : (cs : List Column) (t : Table) → Stops (Placed 8 most_number (length cs)) t → Stops (λ (e : Refusal). 0 < e.number) t
numbers-some cs finished h = tt
numbers-some cs (stopped e) h = omega (arith, h.0.0)
numbers-some cs (row xs t) h = numbers-some cs t h

module _ (from : Rows) (cs : List Column) (s : List ℕ) (a : Answer) (e : a ≡ answer_of (passed 0 (read from cs s))) where
  shown : Shown 0 (read from cs s)
  shown = shown_of 0 (read from cs s) (numbers-some cs (read from cs s) (read-stops from cs s))

  pub walk_refused : (a.number ≡ 0 → ⊥) → rows_shown 0 (read from cs s) ≡ bad a
  unfolding answer_of
  walk_refused n = go shown
    where
      go : Shown 0 (read from cs s) → rows_shown 0 (read from cs s) ≡ bad a
      go (whole p q) = absurd (n (ap (λ (x : Answer). x.number) (e ∙ ap answer_of q)))
      go (broken p q m) = p ∙ ap bad (sym (e ∙ ap answer_of q))

  pub walk-read : a.number ≡ 0 → (rows_shown 0 (read from cs s) ≡ good (in_order (read from cs s))) × (a.rows ≡ length (in_order (read from cs s)))
  unfolding answer_of
  walk-read n = go shown
    where
      go : Shown 0 (read from cs s) → (rows_shown 0 (read from cs s) ≡ good (in_order (read from cs s))) × (a.rows ≡ length (in_order (read from cs s)))
      go (whole p q) = (p, ap (λ (x : Answer). x.rows) (e ∙ ap answer_of q) ∙ omega arith)
      go (broken p q m) = let z = ap (λ (x : Answer). x.number) (e ∙ ap answer_of q) in absurd (omega (arith, z, n, m))

-- a refusal as the code makes it
pub refused_as : (input : ℕ) (a : Answer) → refused_in input (record { number = a.number; row = a.row; column = a.column; rows = 0; bytes = 0 }) ≡ refused_in input a
unfolding refused_in
refused_as input a = refl

-- ---- the rows of two inputs

module _ (cs : List Column) (from : Rows) (s : List ℕ) (kind : Rows) (t entry : List ℕ) where
  pub first-refused : (a : Answer) → rows_shown 0 (read from cs s) ≡ bad a → compared_as (rows_both cs from s kind t) entry ≡ record { answer = refused_in 0 a; buffer = entry }
  unfolding compared_as
  first-refused a e = rw e

  module _ (e : rows_shown 0 (read from cs s) ≡ good (in_order (read from cs s))) where
    pub second-refused : (a : Answer) → rows_shown 0 (read kind cs t) ≡ bad a → compared_as (rows_both cs from s kind t) entry ≡ record { answer = refused_in 1 a; buffer = entry }
    unfolding compared_as
    second-refused a f = rw (e, f)

    pub both-shown : rows_shown 0 (read kind cs t) ≡ good (in_order (read kind cs t))
        → compared_as (rows_both cs from s kind t) entry
        ≡ record {
          answer = counted (length (in_step from cs s kind t)) (length (in_order (read from cs s))) (length (in_order (read kind cs t))) (length entry);
          buffer = placed (in_step from cs s kind t) entry;
        }
    unfolding compared_as
    both-shown f = rw (e, f)

-- ---- the call

-- both inputs have the same columns
pub same-columns : (decls : List ℕ) (size other : ℕ) (cs ds : List Column) → front decls size ≡ good cs → front decls other ≡ good ds → front decls other ≡ good cs
same-columns decls size other cs ds e f =
    let p : declare decls ≡ good cs = front-good decls size cs e in
    let q : declare decls ≡ good ds = front-good decls other ds f in
    let same : ds ≡ cs = cc in
    rw (sym same) f

module _ (decls : List ℕ) (from : Rows) (s : List ℕ) (kind : Rows) (t entry : List ℕ) where
  pub front-refused : (n k : ℕ) → front decls (length s) ≡ bad (at k n)
      → Compares decls from s kind t entry (refused_in 0 (record { number = n; row = 0; column = k; rows = 0; bytes = 0 })) entry
  unfolding compare compared_as both_show shows before_rows answer_of at
  front-refused n k e = record { answers = rw e; leaves = rw e }

  module _ (cs : List Column) (e : front decls (length s) ≡ good cs) where
    pub late-refused : (n k : ℕ) → front decls (length t) ≡ bad (at k n) → (a : Comparison) → a ≡ behind_first (rows_shown 0 (read from cs s)) (refused_in 1 (before_rows (at k n)))
        → Compares decls from s kind t entry a entry
    unfolding compare compared_as both_show shows
    late-refused n k f a q = go (rows_shown 0 (read from cs s)) refl
      where
        go : (x : Result Answer (List (List Cell))) → rows_shown 0 (read from cs s) ≡ x → Compares decls from s kind t entry a entry
        go (bad b) h = record { answers = q ∙ rw (e, h); leaves = rw (e, h) }
        go (good xs) h = record { answers = q ∙ rw (e, f, h); leaves = rw (e, f, h) }

    pub rows-compared : front decls (length t) ≡ good cs → (a : Comparison) (exit : List ℕ) → a ≡ (compared_as (rows_both cs from s kind t) entry).answer
        → exit ≡ (compared_as (rows_both cs from s kind t) entry).buffer → Compares decls from s kind t entry a exit
    unfolding compare both_show shows
    rows-compared f a exit p q = record { answers = p ∙ rw (e, f); leaves = q ∙ rw (e, f) }

-- the counts as the code makes them
pub counts-are : (differing rows others first second places size k n m : ℕ) → differing ≡ k → rows ≡ n → others ≡ m → first ≡ rows - others → second ≡ others - rows
    → places ≡ filled differing size
    → record { number = 0; row = 0; column = 0; input = 0; differing = differing; first = first; second = second; places = places } ≡ counted k n m size
unfolding counted
counts-are differing rows others first second places size k n m a b c d e f = rw (d, e, f, a, b, c)
