-- A cell that was read and put is moved; one that was read and could not be put is left, and so is one that does not read.
use Rattle.std.specs.Prelude.{Option, Some, None}
use Prim.Native.Nat.{◌≤◌, ℕ}
use native.Mathlib.Omega.{arith}
use mathlib.Core.Bool.{Bool}
use mathlib.Core.List.{List, []}
use mathlib.Core.Path.{◌∙◌, ◌≡◌, ap, sym}
use lib.ListN.{drop, length}
use Rattle.moving.proofs.Puts.{puts_then}
use Rattle.moving.specs.Cells.{CellLeft, MovesCell, PutsCell, SettlesCell, SettlesPut}
use Rattle.moving.specs.Puts.{Puts}
use Rattle.moving.specs.declared.Moved.{Moved}
use Rattle.rows.specs.Stream.{read_cell, write_cell}
use Rattle.table.proofs.Laws.{bad-good}
use Rattle.table.specs.Cell.{Cell}
use Rattle.table.specs.Result.{bad, good}
use Rattle.table.specs.declared.Column.{Column}
use Rattle.table.specs.declared.Rows.{Rows}

-- read and then put
pub cell-moved : (from to : Rows) (c : Column) (flagged : Bool) (s : List ℕ) (place : ℕ) (x : Cell) (next : ℕ) (old : List ℕ) (o : ℕ) (new : List ℕ) (r : Option Moved)
    → read_cell from c flagged (drop place s) ≡ good (x, drop next s) → place ≤ next → next ≤ length s
    → PutsCell to c x next old o new r → MovesCell from to c flagged s place old o new r
cell-moved from to c flagged s place x next old o new (Some r) q lo hi p =
    record {
      cell = x;
      bytes = p.bytes;
      reads = q ∙ ap (λ (k : ℕ). good (x, drop k s)) (sym p.same_next);
      onward = omega (arith, p.same_next);
      inside = omega (arith, p.same_next);
      writes = p.writes;
      puts = p.puts;
      null_is = p.null_is;
    }
cell-moved from to c flagged s place x next old o new None q lo hi p = p

-- what was not moved before it changes nothing
pub moved-after : (from to : Rows) (c : Column) (flagged : Bool) (s : List ℕ) (place : ℕ) (old : List ℕ) (o : ℕ) (mid new : List ℕ) (r : Option Moved) → Puts old o [] mid o
    → MovesCell from to c flagged s place mid o new r → MovesCell from to c flagged s place old o new r
moved-after from to c flagged s place old o mid new (Some r) u m = record {
  cell = m.cell;
  bytes = m.bytes;
  reads = m.reads;
  onward = m.onward;
  inside = m.inside;
  writes = m.writes;
  puts = puts_then u m.puts;
  null_is = m.null_is;
}
moved-after from to c flagged s place old o mid new None u m = puts_then u m

-- ---- wherever it can be

-- what reads, reads as one cell
one_cell : (from : Rows) (c : Column) (flagged : Bool) (t : List ℕ) (x y : Cell) (u v : List ℕ) → read_cell from c flagged t ≡ good (x, u) → read_cell from c flagged t ≡ good (y, v) → y ≡ x
one_cell from c flagged t x y u v p q =
    let e : ◌≡◌ {A = Cell × List ℕ} (y, v) (x, u) = cc in
    ap (λ (z : Cell × List ℕ). z.0) e

module _ (from to : Rows) (c : Column) (flagged : Bool) (s : List ℕ) (place : ℕ) (old : List ℕ) (o : ℕ) where
  pub cell-settled : (x : Cell) (next : ℕ) (new : List ℕ) (r : Option Moved) → read_cell from c flagged (drop place s) ≡ good (x, drop next s) → place ≤ next → next ≤ length s
      → SettlesPut to c x next old o new r → SettlesCell from to c flagged s place old o new r
  cell-settled x next new (Some r) q lo hi p = cell-moved from to c flagged s place x next old o new (Some r) q lo hi p
  cell-settled x next new None q lo hi p =
      record { puts = p.0; unfit = λ y rest h b w. p.1 b (ap (write_cell to c) (sym (one_cell from c flagged (drop place s) x y (drop next s) rest q h)) ∙ w) }

  pub refused-left : (new : List ℕ) (n : ℕ) → read_cell from c flagged (drop place s) ≡ bad n → Puts old o [] new o → CellLeft from to c flagged s place old o new
  refused-left new n q u = record { puts = u; unfit = λ x rest h b w. absurd (bad-good (sym q ∙ h)) }

  pub settled-after : (mid new : List ℕ) (r : Option Moved) → Puts old o [] mid o → SettlesCell from to c flagged s place mid o new r → SettlesCell from to c flagged s place old o new r
  settled-after mid new (Some r) u m = moved-after from to c flagged s place old o mid new (Some r) u m
  settled-after mid new None u m = record { puts = puts_then u m.puts; unfit = λ x rest h b w. omega (arith, m.unfit x rest h b w, u.long) }
