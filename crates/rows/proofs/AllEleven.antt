-- A table's refusals are what they were before 11 was split, but for 18 in the cells of integer columns, and its rows are the same: cell by cell by
-- the law of a cell (`read-unsplit`). The tags between the cells are 10, which is none of the two numbers.
use Prim.Native.Nat.{◌+◌, ◌≤◌, suc, zero, ℕ}
use native.Mathlib.Nat.{le_refl}
use native.Mathlib.Omega.{arith}
use mathlib.Core.Bool.{Bool, cond, false, true}
use mathlib.Core.List.{List, [], ◌∷◌}
use mathlib.Core.Path.{◌≡◌, ap, refl, sym}
use lib.Dec.{eqb}
use lib.ListN.{length}
use borrow.Author.Tests.{eq-eqb, eqb-true, ne_eqb}
use Rattle.rows.specs.AllEleven.{cells_all_eleven, row_all_eleven, stopped_as, table_all_eleven, unsplit_from}
use Rattle.rows.specs.Sequence.{finished, row_then, sequence, sequence_f}
use Rattle.rows.specs.Stream.{Table, at_end, flags_left, read, read_cell, read_cells, read_end, read_row, read_start}
use Rattle.table.proofs.Laws.{fails-as, fails-bind, fails-weaken, tag-fails}
use Rattle.table.specs.Bytes.{skip_white}
use Rattle.table.specs.Cell.{Cell}
use Rattle.table.specs.Outcome.{Refusal, at}
use Rattle.table.specs.Result.{Fails, Result, ◌>>=◌, bad, fails, gives, good, refused_as}
use Rattle.table.specs.Shape.{shape}
use Rattle.table.specs.declared.Column.{Column}
use Rattle.table.specs.declared.Rows.TheVariants.{TableData}
use Rattle.tabledata.proofs.AllEleven.{read-unsplit, unsplit-other}
use Rattle.tabledata.specs.AllEleven.{unsplit}
use Rattle.tabledata.specs.TableData.{close-TR, open-TR, read_text}

-- ---- which refusals stay

pub unsplit-stays : (k : ℕ) (cs : List Column) (j n : ℕ) → (n ≡ 18 → ⊥) → unsplit_from k cs (at j n) ≡ at j n
unfolding unsplit_from at
unsplit-stays k [] j n h = refl
unsplit-stays k (c ∷ cs) j n h = go (eqb j k) refl (unsplit-stays (k + 1) cs j n h)
  where
    go : (b : Bool) → eqb j k ≡ b → unsplit_from (k + 1) cs (at j n) ≡ at j n
        → cond b (at k (unsplit (shape c.kind) n)) (unsplit_from (k + 1) cs (at j n)) ≡ at j n
    go true e ih = rw (unsplit-other (shape c.kind) n h, eqb-true j k e)
    go false e ih = ih

abbrev Stays : (Refusal → Refusal) → Refusal → Type 0
Stays u e = u e ≡ e

-- a refusal that stays, in a chain
stays_then : {A B : Type 0} (u : Refusal → Refusal) (r : Result Refusal A) (f g : A → Result Refusal B) → Fails (Stays u) r → ((a : A) → f a ≡ refused_as u (g a))
    → (r >>= f) ≡ refused_as u (r >>= g)
stays_then u (good a) f g h e = e a
stays_then u (bad n) f g (fails h) e = ap bad (sym h)

-- ---- cells

cells-from : (cs : List Column) (fs : List Bool) (k : ℕ) (s : List ℕ) → Fails (λ (e : Refusal). k ≤ e.column) (read_cells TableData cs fs k s)
unfolding read_cells read_cell at
cells-from [] fs k s = gives
cells-from (c ∷ cs) fs k s =
    fails-bind (at_place (read_text c s)) (λ x.
    fails-bind (fails-weaken (cells-from cs (flags_left fs) (k + 1) x.1) (λ e h. omega (arith, h))) (λ xs. gives))
  where
    at_place : {A : Type 0} (r : Result ℕ A) → Fails (λ (e : Refusal). k ≤ e.column) (refused_as (at k) r)
    at_place (good a) = gives
    at_place (bad n) = fails (le_refl k)

abbrev first : Cell → List Cell × List ℕ → Result Refusal (List Cell × List ℕ)
first x p = good (x ∷ p.0, p.1)

cells-unsplit : (cs : List Column) (fs : List Bool) (k : ℕ) (s : List ℕ) → cells_all_eleven cs k s ≡ refused_as (unsplit_from k cs) (read_cells TableData cs fs k s)
unfolding cells_all_eleven read_cells read_cell
cells-unsplit [] fs k s = refl
cells-unsplit (c ∷ cs) fs k s = rw (read-unsplit c s) (go (read_text c s) (λ t. cells-unsplit cs (flags_left fs) (k + 1) t))
  where
    rest : (x : Cell) (r : Result Refusal (List Cell × List ℕ)) → Fails (λ (e : Refusal). k + 1 ≤ e.column) r
        → (refused_as (unsplit_from (k + 1) cs) r >>= first x) ≡ refused_as (unsplit_from k (c ∷ cs)) (r >>= first x)
    rest x (good p) h = refl
    rest x (bad e) (fails h) = unfold unsplit_from in rw (ne_eqb e.column k (λ q. omega (arith, h, q)))

    go : (r : Result ℕ (Cell × List ℕ)) → ((t : List ℕ) → cells_all_eleven cs (k + 1) t ≡ refused_as (unsplit_from (k + 1) cs) (read_cells TableData cs (flags_left fs) (k + 1) t))
        → (refused_as (at k) (refused_as (unsplit (shape c.kind)) r) >>= λ p. cells_all_eleven cs (k + 1) p.1 >>= first p.0)
        ≡ refused_as (unsplit_from k (c ∷ cs)) (refused_as (at k) r >>= λ p. read_cells TableData cs (flags_left fs) (k + 1) p.1 >>= first p.0)
    go (good p) ih = rw (ih p.1) (rest p.0 (read_cells TableData cs (flags_left fs) (k + 1) p.1) (cells-from cs (flags_left fs) (k + 1) p.1))
    go (bad n) ih = unfold unsplit_from at in rw (eq-eqb k k refl)

-- ---- rows

tags-stay : {A : Type 0} (cs : List Column) (j : ℕ) {r : Result ℕ A} → Fails (λ (n : ℕ). n ≡ 10) r → Fails (Stays (unsplit_from 0 cs)) (refused_as (at j) r)
tags-stay cs j h = fails-as (at j) h (λ n e. unsplit-stays 0 cs j n (λ q. omega (arith, e, q)))

row-unsplit : (cs : List Column) (s : List ℕ) → row_all_eleven cs s ≡ refused_as (unsplit_from 0 cs) (read_row TableData cs s)
unfolding row_all_eleven read_row read_start read_end
row-unsplit cs s =
    stays_then u (refused_as (at 0) (read_start TableData (length cs) s)) (λ p. cells_all_eleven cs 0 p.1 >>= ends) (λ p. read_cells TableData cs p.0 0 p.1 >>= ends)
    (tags-stay cs 0 (fails-bind (tag-fails 10 open-TR (skip_white s) refl) (λ t. gives)))
    (λ p. rw (cells-unsplit cs p.0 0 p.1) (go (read_cells TableData cs p.0 0 p.1)))
  where
    u : Refusal → Refusal
    u = unsplit_from 0 cs

    ends : (x : List Cell × List ℕ) → Result Refusal (List Cell × List ℕ)
    ends x = refused_as (at (length cs)) (read_end TableData x.1) >>= λ rest. good (x.0, rest)

    go : (r : Result Refusal (List Cell × List ℕ)) → (refused_as u r >>= ends) ≡ refused_as u (r >>= ends)
    go (good x) =
        stays_then u (refused_as (at (length cs)) (read_end TableData x.1)) (λ rest. good (x.0, rest)) (λ rest. good (x.0, rest))
        (tags-stay cs (length cs) (tag-fails 10 close-TR (skip_white x.1) refl)) (λ rest. refl)
    go (bad e) = refl

-- ---- the table

then-as : (u : Refusal → Refusal) (r : Result Refusal (List Cell × List ℕ)) (more less : List ℕ → Table) → ((t : List ℕ) → more t ≡ stopped_as u (less t))
    → row_then (refused_as u r) more ≡ stopped_as u (row_then r less)
unfolding row_then stopped_as
then-as u (good p) more less h = rw (h p.1)
then-as u (bad e) more less h = refl

sequence-as : (u : Refusal → Refusal) (ended : List ℕ → Bool) (next before : List ℕ → Result Refusal (List Cell × List ℕ)) → Stays u (at 0 8)
    → ((s : List ℕ) → before s ≡ refused_as u (next s)) → (f : ℕ) (s : List ℕ) → sequence_f f ended before s ≡ stopped_as u (sequence_f f ended next s)
unfolding sequence_f
sequence-as u ended next before z h zero s = unfold stopped_as in rw z
sequence-as u ended next before z h (suc f) s =
    rw (h s, then-as u (next s) (λ rest. sequence_f f ended before rest) (λ rest. sequence_f f ended next rest) (sequence-as u ended next before z h f)) (go (ended s))
  where
    go : (b : Bool) → cond b finished (stopped_as u (row_then (next s) (λ rest. sequence_f f ended next rest)))
        ≡ stopped_as u (cond b finished (row_then (next s) (λ rest. sequence_f f ended next rest)))
    go true = unfold stopped_as in refl
    go false = refl

-- reading a table is what it was before 11 was split: the same rows, and the same refusal but for 18 in the cells of integer columns
pub table-unsplit : (cs : List Column) (s : List ℕ) → table_all_eleven cs s ≡ stopped_as (unsplit_from 0 cs) (read TableData cs s)
unfolding table_all_eleven read sequence
table-unsplit cs s =
    sequence-as (unsplit_from 0 cs) (at_end TableData) (read_row TableData cs) (row_all_eleven cs) (unsplit-stays 0 cs 0 8 (λ q. omega (arith, q))) (row-unsplit cs) (suc (length s)) s
