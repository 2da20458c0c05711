-- row_writing::put_row: the row from the scratch where that holds it, else read once more: what is held decides between the two forms.
use Prim.Native.Nat.{◌+◌, ◌≤◌, ℕ}
use mathlib.Core.List.{List}
use mathlib.Core.Path.{ap, refl, subst, sym}
use lib.ListN.{drop, length}
use Rattle.table.specs.ColumnList.{listed}
use Rattle.table.proofs.Wrote.{wrote_as}
use Rattle.row_writing.specs.Clauses.{HeldReady, put_form, row_bytes}
use Rattle.std.specs.Prelude.{Option}
use Rattle.row_writing.proofs.put_row.Goals as goal

pub write_held_row-requires : goal.write_held_row-requires
write_held_row-requires c =
    let form : Option ℕ → List ℕ = λ h. (row_bytes c.args.to c.args.cols.count c.args.nulls
    (put_form c.args.from c.args.to c.args.cols c.args.flags (drop c.args.body c.args.s.now) c.args.scratch.now h)) in
    let e = c.in-Some.is in
    record {
      within = (c.requires.within.0, subst (HeldReady (listed c.args.cols) c.args.scratch.now) e c.requires.within.3);
      scratch_in_bounds = subst (λ (h : Option ℕ). c.args.at + length (form h) ≤ length c.args.out.now) e c.requires.holding_in_bounds;
    }

pub write_row-requires : goal.write_row-requires
write_row-requires c =
    let form : Option ℕ → List ℕ = λ h. (row_bytes c.args.to c.args.cols.count c.args.nulls
    (put_form c.args.from c.args.to c.args.cols c.args.flags (drop c.args.body c.args.s.now) c.args.scratch.now h)) in
    let e = c.in-None.is in
    record {
      within = (c.requires.within.0, c.requires.within.1, c.requires.within.2);
      s_in_bounds = subst (λ (h : Option ℕ). c.args.at + length (form h) ≤ length c.args.out.now) e c.requires.holding_in_bounds;
    }

pub returns-in-Some : goal.returns-in-Some
returns-in-Some c =
    let form : Option ℕ → List ℕ = λ h. (row_bytes c.args.to c.args.cols.count c.args.nulls
    (put_form c.args.from c.args.to c.args.cols c.args.flags (drop c.args.body c.args.s.now) c.args.scratch.now h)) in
    let e = c.in-Some.is in record { wrote = wrote_as (ap form (sym e)) c.write_held_row.ensures; scratch_len_unchanged = refl }

pub returns-in-None : goal.returns-in-None
returns-in-None c =
    let form : Option ℕ → List ℕ = λ h. (row_bytes c.args.to c.args.cols.count c.args.nulls
    (put_form c.args.from c.args.to c.args.cols c.args.flags (drop c.args.body c.args.s.now) c.args.scratch.now h)) in
    let e = c.in-None.is in record { wrote = wrote_as (ap form (sym e)) c.write_row.ensures.wrote; scratch_len_unchanged = c.write_row.ensures.scratch_len_unchanged }
