-- finding::find_row: past the end, without a place, or from the start that its place holds; each way is one law of Finding.
use Prim.Native.Nat.{◌/◌, ◌≤◌, ℕ}
use mathlib.Core.Path.{◌∙◌, ap, subst⁻¹}
use lib.ListN.{drop, get_or, length}
use Rattle.finding.proofs.Finding.{by-entry, no-entry, past_end, within_end, within-inside}
use Rattle.table.specs.ColumnList.{listed}
use borrow.Author.Rules.{rules}
use native.Mathlib.Omega.{arith}
use Rattle.finding.proofs.find_row.Goals as goal

pub returns-then-rows-row : goal.returns-then-rows-row
returns-then-rows-row c =
    past_end c.args.from (listed c.args.cols) c.args.s.now c.args.index.now c.args.rows c.args.row (omega arith)

pub returns-then-index-place : goal.returns-then-index-place
returns-then-index-place c =
    no-entry c.args.from (listed c.args.cols) c.args.s.now c.args.index.now c.args.rows c.args.row (omega arith) (omega arith)

pub overflow_cast-entry : goal.overflow_cast-entry
overflow_cast-entry c = omega (arith, c.shared_slice_known-3-1.given (c.args.row / 64))

pub find_from-requires : goal.find_from-requires
find_from-requires c = (
  c.requires,
  subst⁻¹ (λ (n : ℕ). n ≤ length c.args.s.now) c.within-start.ensures (within-inside c.args.s.now (get_or c.args.index.now (c.args.row / 64) 0)),
  search rules,
)

pub returns : goal.returns
returns c =
    let entry = get_or c.args.index.now (c.args.row / 64) 0 in
    by-entry c.args.from (listed c.args.cols) c.args.s.now c.args.index.now c.args.rows c.args.row (omega arith) (omega arith)
    c.within-start.result (ap (λ n. drop n c.args.s.now) c.within-start.ensures ∙ within_end c.args.s.now entry)
    c.find_from.result c.find_from.ensures
