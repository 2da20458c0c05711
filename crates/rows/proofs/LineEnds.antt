-- Line ends in a table of TABLEDATA: it says the same as what 2.11 makes of it, row by row, with the same refusal at the same column, for every text;
-- and no row that is written has a 13.
use Prim.Native.Nat.{◌+◌, ◌<◌, ◌≤◌, suc, zero, ℕ}
use native.Mathlib.Nat.{le_refl}
use native.Mathlib.Omega.{arith}
use mathlib.Core.Bool.{Bool, false}
use mathlib.Core.List.{List, [], ◌++◌, ◌∷◌}
use mathlib.Core.Path.{◌∙◌, ◌≡◌, ap, refl}
use lib.ListN.{length}
use Rattle.rows.proofs.Sequences.{sequence-alike}
use Rattle.rows.specs.Pieces.{behind_row, behind_rows}
use Rattle.rows.specs.Stream.{at_end, flags_left, is_empty, read, read_cell, read_cells, read_end, read_row, read_start, write_cell, write_cells, write_end, write_row, write_start}
use Rattle.table.proofs.Laws.{after-le, holds_as, holds-bind, holds-weaken, skip-le, tag-le}
use Rattle.table.proofs.LineEnds.{NoReturn, first-cases, given_as, line-ends-le, no-return-append, none-has-return, other-kept, rest-as, rest_then, rest_ends}
use Rattle.table.proofs.LineEnds.{return-first, skip-ends, tag-ends, tag-then}
use Rattle.table.specs.Bytes.{bytes, ends, is_white, skip_white, tag}
use Rattle.table.specs.Cell.{Cell}
use Rattle.table.specs.LineEnds.{line_ends}
use Rattle.table.specs.Outcome.{Refusal, at}
use Rattle.table.specs.Result.{Holds, Result, ◌>>=◌, bad, good, holds, refused_as}
use Rattle.table.specs.declared.Column.{Column}
use Rattle.table.specs.declared.Rows.TheVariants.{TableData}
use Rattle.tabledata.proofs.LineEnds.{text-ends, text-no-return}
use Rattle.tabledata.proofs.Laws.{text-less}
use Rattle.tabledata.specs.TableData.{close-TR, open-TR, read_text}

-- ---- a row

start-ends : (n : ℕ) (s : List ℕ) → read_start TableData n (line_ends s) ≡ rest_ends (read_start TableData n s)
unfolding read_start open-TR is_white
start-ends n s =
    ap (λ (u : List ℕ). tag 10 (bytes "<TR") u >>= λ t. good ([], t)) (skip-ends s)
    ∙ ap (λ (r : Result ℕ (List ℕ)). r >>= λ t. good ([], t)) (tag-ends 10 (bytes "<TR") (skip_white s) (refl, (refl, (refl, tt))))
    ∙ tag-then (tag 10 (bytes "<TR") (skip_white s)) (λ t. good ([], t)) (λ t. refl)

end-ends : (s : List ℕ) → read_end TableData (line_ends s) ≡ given_as line_ends (read_end TableData s)
unfolding read_end close-TR is_white
end-ends s = ap (tag 10 (bytes "</TR")) (skip-ends s) ∙ tag-ends 10 (bytes "</TR") (skip_white s) (refl, (refl, (refl, (refl, tt))))

-- the cells behind one
abbrev others : List Column → List Bool → ℕ → Cell × List ℕ → Result Refusal (List Cell × List ℕ)
others cs fs k p = read_cells TableData cs fs k p.1 >>= λ q. good (p.0 ∷ q.0, q.1)

row-cells-ends : (cs : List Column) (fs : List Bool) (k : ℕ) (s : List ℕ) → read_cells TableData cs fs k (line_ends s) ≡ rest_ends (read_cells TableData cs fs k s)
unfolding read_cells read_cell
row-cells-ends [] fs k s = refl
row-cells-ends (c ∷ cs) fs k s =
    ap (λ (r : Result ℕ (Cell × List ℕ)). refused_as (at k) r >>= others cs (flags_left fs) (k + 1)) (text-ends c s)
    ∙ ap (λ (r : Result Refusal (Cell × List ℕ)). r >>= others cs (flags_left fs) (k + 1)) (rest-as (at k) (read_text c s))
    ∙ rest_then (refused_as (at k) (read_text c s)) (others cs (flags_left fs) (k + 1)) (λ p.
    ap (λ (r : Result Refusal (List Cell × List ℕ)). r >>= λ q. good (p.0 ∷ q.0, q.1)) (row-cells-ends cs (flags_left fs) (k + 1) p.1)
    ∙ rest_then (read_cells TableData cs (flags_left fs) (k + 1) p.1) (λ q. good (p.0 ∷ q.0, q.1)) (λ q. refl))

-- the end of a row behind its cells, and the cells behind its start
abbrev closing : List Column → List Cell × List ℕ → Result Refusal (List Cell × List ℕ)
closing cs q = refused_as (at (length cs)) (read_end TableData q.1) >>= λ rest. good (q.0, rest)

abbrev inside : List Column → List Bool × List ℕ → Result Refusal (List Cell × List ℕ)
inside cs p = read_cells TableData cs p.0 0 p.1 >>= closing cs

closing-ends : (cs : List Column) (q : List Cell × List ℕ) → closing cs (q.0, line_ends q.1) ≡ rest_ends (closing cs q)
closing-ends cs q =
    ap (λ (r : Result ℕ (List ℕ)). refused_as (at (length cs)) r >>= λ rest. good (q.0, rest)) (end-ends q.1)
    ∙ go (read_end TableData q.1)
  where
    go : (r : Result ℕ (List ℕ)) → (refused_as (at (length cs)) (given_as line_ends r) >>= λ rest. good (q.0, rest)) ≡ rest_ends (refused_as (at (length cs)) r >>= λ rest. good (q.0, rest))
    go (good t) = refl
    go (bad n) = refl

pub row_ends : (cs : List Column) (s : List ℕ) → read_row TableData cs (line_ends s) ≡ rest_ends (read_row TableData cs s)
unfolding read_row
row_ends cs s =
    ap (λ (r : Result ℕ (List Bool × List ℕ)). refused_as (at 0) r >>= inside cs) (start-ends (length cs) s)
    ∙ ap (λ (r : Result Refusal (List Bool × List ℕ)). r >>= inside cs) (rest-as (at 0) (read_start TableData (length cs) s))
    ∙ rest_then (refused_as (at 0) (read_start TableData (length cs) s)) (inside cs) (λ p.
    ap (λ (r : Result Refusal (List Cell × List ℕ)). r >>= closing cs) (row-cells-ends cs p.0 0 p.1)
    ∙ rest_then (read_cells TableData cs p.0 0 p.1) (closing cs) (closing-ends cs))

-- ---- a table

empty-ends : (s : List ℕ) → is_empty (line_ends s) ≡ is_empty s
unfolding is_empty
empty-ends [] = unfold line_ends in refl
empty-ends (b ∷ s) =
    first-cases (λ (c : ℕ). is_empty (line_ends (c ∷ s)) ≡ false) b s
    (λ _. ap is_empty (return-first s).1)
    (λ _. ap is_empty (return-first s).1)
    (λ n. ap is_empty (other-kept b s n))

at-end-ends : (s : List ℕ) → at_end TableData (line_ends s) ≡ at_end TableData s
unfolding at_end
at-end-ends s = ap is_empty (skip-ends s) ∙ empty-ends (skip_white s)

-- a row takes at least a byte, whatever its columns
start-less : (n : ℕ) (s : List ℕ) → Holds (λ (p : List Bool × List ℕ). length p.1 < length s) (read_start TableData n s)
unfolding read_start tag ends open-TR
start-less n s =
    holds-bind (holds-bind (after-le 10 (bytes "<TR") (skip_white s)) (λ t h.
    holds-weaken (after-le 10 (bytes ">") (skip_white t)) (λ u g. omega (arith, skip-le s, skip-le t)))) (λ u h. holds h)

cells-le : (cs : List Column) (fs : List Bool) (k : ℕ) (s : List ℕ) → Holds (λ (p : List Cell × List ℕ). length p.1 ≤ length s) (read_cells TableData cs fs k s)
unfolding read_cells read_cell
cells-le [] fs k s = holds (le_refl (length s))
cells-le (c ∷ cs) fs k s =
    holds-bind (holds_as (at k) (text-less c s)) (λ p h. holds-bind (cells-le cs (flags_left fs) (k + 1) p.1) (λ q g. holds (omega arith)))

text-row-less : (cs : List Column) (s : List ℕ) → Holds (λ (p : List Cell × List ℕ). length p.1 < length s) (read_row TableData cs s)
unfolding read_row read_end
text-row-less cs s =
    holds-bind (holds_as (at 0) (start-less (length cs) s)) (λ p h.
    holds-bind (cells-le cs p.0 0 p.1) (λ q g.
    holds-bind (holds_as (at (length cs)) (tag-le 10 close-TR (skip_white q.1))) (λ t e. holds (omega (arith, skip-le q.1)))))

-- reading a table is reading what 2.11 makes of it: the same rows, and the same refusal at the same row and column
pub read-ends : (cs : List Column) (s : List ℕ) → read TableData cs (line_ends s) ≡ read TableData cs s
unfolding read
read-ends cs s = sequence-alike (at_end TableData) (read_row TableData cs) line_ends at-end-ends (row_ends cs) (text-row-less cs) line-ends-le s

-- what is left behind so many rows is what 2.11 makes of what was left: a table in pieces goes on at the same row
pub behind-ends : (cs : List Column) (m : ℕ) (s : List ℕ) → behind_rows TableData cs m (line_ends s) ≡ line_ends (behind_rows TableData cs m s)
unfolding behind_rows
behind-ends cs zero s = refl
behind-ends cs (suc m) s =
    ap (λ (r : Result Refusal (List Cell × List ℕ)). behind_row r (line_ends s) (behind_rows TableData cs m)) (row_ends cs s)
    ∙ go (read_row TableData cs s) (behind-ends cs m)
  where
    go : (r : Result Refusal (List Cell × List ℕ)) → ((t : List ℕ) → behind_rows TableData cs m (line_ends t) ≡ line_ends (behind_rows TableData cs m t))
        → behind_row (rest_ends r) (line_ends s) (behind_rows TableData cs m) ≡ line_ends (behind_row r s (behind_rows TableData cs m))
    go (good p) ih = unfold behind_row in ih p.1
    go (bad e) ih = unfold behind_row in refl

-- ---- what is written

cells-no-return : (cs : List Column) (xs : List Cell) (k : ℕ) → Holds NoReturn (write_cells TableData cs xs k)
unfolding write_cells write_cell
cells-no-return [] xs k = holds tt
cells-no-return (c ∷ cs) [] k = holds tt
cells-no-return (c ∷ cs) (x ∷ xs) k =
    holds-bind (holds_as (at k) (text-no-return c x)) (λ b h. holds-bind (cells-no-return cs xs (k + 1)) (λ r g. holds (no-return-append b r h g)))

pub row-no-return : (cs : List Column) (xs : List Cell) → Holds NoReturn (write_row TableData cs xs)
unfolding write_row write_start write_end open-TR close-TR
row-no-return cs xs =
    holds-bind (cells-no-return cs xs 0) (λ b h.
    holds (no-return-append (bytes "<TR>") (b ++ bytes "</TR>\n") (none-has-return (bytes "<TR>") refl)
    (no-return-append b (bytes "</TR>\n") h (none-has-return (bytes "</TR>\n") refl))))
