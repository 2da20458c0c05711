-- cell_putting::put_truth: as text between its tags, or as bytes.
use mathlib.Core.Path.{◌∙◌, ap, sym}
use mir.Facts.{to_z-of_z}
use Rattle.cell_putting.proofs.Cells.{no_text, tagged-put, text-is}
use Rattle.cell_putting.specs.Clauses.{one_form}
use Rattle.moving.proofs.Puts.{puts-as}
use Rattle.moving.specs.Puts.{Puts}
use Rattle.table.specs.declared.Rows.{Rows}
use Rattle.table.specs.declared.Rows.TheVariants.{Binary, Binary2, TableData}
use Rattle.tabledata.specs.TableData.{element_bytes, spaced, truth_text}
use Rattle.table.specs.Shape.{Truths}
use native.Mathlib.Omega.{arith}
use Rattle.cell_putting.proofs.put_truth.Goals as goal

pub show_truth-last-requires : goal.show_truth-last-requires
show_truth-last-requires c =
    let u = c.put_open-inner.ensures in
    omega (arith, u.next-is, u.long, c.requires)

pub put_close-requires : goal.put_close-requires
put_close-requires c =
    let v = c.show_truth-last.ensures in
    let u = c.put_open-inner.ensures in
    omega (arith, v.next-is, v.long, u.next-is, u.long, c.requires)

pub returns-then-is_text : goal.returns-then-is_text
unfolding one_form element_bytes spaced truth_text
returns-then-is_text c =
    rw (text-is c.args.to (sym c.is_text.ensures
    ∙ c.if-is_text.true))
    (puts-as (ap (one_form TableData Truths) (to_z-of_z c.ranges.z)) (tagged-put c.put_open-inner.ensures
    c.show_truth-last.ensures c.put_close.ensures))

pub returns : goal.returns
unfolding one_form
returns c =
    let p = c.pass_truth in
    no_text (λ (rows : Rows). Puts c.args.row.now c.args.o (one_form rows Truths c.args.z) p.new.row p.result) c.args.to
    (sym c.is_text.ensures ∙ c.if-is_text.false)
    (puts-as (ap (one_form Binary Truths) (to_z-of_z c.ranges.z)) p.ensures) (puts-as (ap (one_form Binary2 Truths) (to_z-of_z c.ranges.z)) p.ensures)
