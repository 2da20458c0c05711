-- row_writing::write_row: a row is written: what begins it, then its cells one behind the other (WriteInv: what is left to write gives the whole), then what ends it.
use Prim.Native.Nat.{ℕ, ◌+◌, ◌≤◌, ◌<◌}
use mathlib.Core.List.{List}
use mathlib.Core.Path.{◌≡◌, refl, ap, ◌∙◌}
use lib.ListN.{length, drop, get_or}
use lib.Seq.{sets, length-sets}
use native.Mathlib.Omega.{arith}
use Rattle.table.specs.ColumnList.{listed, no_column}
use Rattle.rows.specs.Stream.{write_end}
use Rattle.row_reading.specs.Clauses.{flags_in}
use Rattle.row_writing.specs.Clauses.{read_form, start_bytes}
use Rattle.rows.specs.Stream.{read_cell}
use Rattle.row_writing.proofs.RowForm.{write-start, write-fits, write-more, written-end, written-to}
use Rattle.table.proofs.Wrote.{wrote-long}
use Rattle.table.proofs.ColumnList.{listed-length, listed_next}
use Rattle.row_reading.proofs.Parts.{listed-bound}
use Rattle.row_writing.proofs.RowForm.{row-bytes-length, row-stored}
use Rattle.row_writing.proofs.write_row.Goals as goal

pub write_start-first-requires : goal.write_start-first-requires
write_start-first-requires c =
    let few : c.args.cols.count ≤ 64 = omega (arith, c.requires.within.0.few, listed-length c.args.cols) in (
      omega (
        arith,
        c.requires.s_in_bounds,
        row-bytes-length c.args.to c.args.cols.count c.args.nulls
            (read_form c.args.from c.args.to c.args.cols c.args.flags (drop c.args.body c.args.s.now)),
      ),
      few,
    )

pub loop-j-init : goal.loop-j-init
loop-j-init c =
    (write-start (read_cell c.args.from) c.args.to (listed c.args.cols) (flags_in c.args.from c.args.cols.count c.args.flags) c.args.s.now _ _ c.requires.within.1, refl)

pub offset_bounds-cols-j : goal.offset_bounds-cols-j
offset_bounds-cols-j c =
    let few : c.args.cols.count ≤ 64 = omega (arith, c.requires.within.0.few, listed-length c.args.cols) in
    omega (arith, few, c.loop-j-test.true)

pub bounds-cols-j : goal.bounds-cols-j
bounds-cols-j c =
    let few : c.args.cols.count ≤ 64 = omega (arith, c.requires.within.0.few, listed-length c.args.cols) in
    omega (arith, few, c.loop-j-test.true)

pub flag_of-flagged-requires : goal.flag_of-flagged-requires
flag_of-flagged-requires c =
    let few : c.args.cols.count ≤ 64 = omega (arith, c.requires.within.0.few, listed-length c.args.cols) in
    (c.loop-j-test.true, few)

pub rewrite-w-requires : goal.rewrite-w-requires
rewrite-w-requires c =
    let headed : List ℕ = c.write_start-first.new.out in
    let first : ℕ = c.write_start-first.result in
    let cells : List ℕ = read_form c.args.from c.args.to c.args.cols c.args.flags (drop c.args.body c.args.s.now) in
    let same-room : length headed ≡ length c.args.out.now = (ap length c.write_start-first.ensures.now-is ∙ length-sets c.args.out.now c.args.at
    (start_bytes c.args.to c.args.cols.count c.args.nulls)) in
    let room-left : first + (length cells + length (write_end c.args.to)) ≤ length headed = (
    omega (
      arith,
      same-room,
      c.requires.s_in_bounds,
      c.write_start-first.ensures.next-is,
      row-bytes-length c.args.to c.args.cols.count c.args.nulls
          (read_form c.args.from c.args.to c.args.cols c.args.flags (drop c.args.body c.args.s.now)),
    )) in
    let cols = c.args.cols in
    let fs = flags_in c.args.from cols.count c.args.flags in
    let t = c.loop-j-test.true in
    let f = c.flag_of-flagged in
    let more : c.loop-j.j < length (listed cols) = omega (arith, listed-length cols, t) in
    record {
      at_in_bounds = (c.loop-j.invariant.0.inside, listed-bound cols c.loop-j.j c.requires.within.0 t, omega (arith, c.loop-j.invariant.1, c.requires.within.2));
      s_in_bounds = write-fits (read_cell c.args.from) c.args.to (listed cols) fs c.args.s.now headed _ c.loop-j.out c.loop-j.w c.loop-j.j c.loop-j.invariant.0
          (get_or cols.list c.loop-j.j no_column) more (listed_next cols c.loop-j.j t) f.result f.ensures (omega (arith, room-left));
    }

pub loop-j-preserved : goal.loop-j-preserved
loop-j-preserved c =
    let headed : List ℕ = c.write_start-first.new.out in
    let cols = c.args.cols in
    let t = c.loop-j-test.true in
    let f = c.flag_of-flagged in
    let g = c.rewrite-w in (
      write-more (read_cell c.args.from) c.args.to (listed cols) (flags_in c.args.from cols.count c.args.flags) c.args.s.now headed _
          c.loop-j.out c.loop-j.w c.loop-j.j c.loop-j.invariant.0
          (get_or cols.list c.loop-j.j no_column) (omega (arith, listed-length cols, t)) (listed_next cols c.loop-j.j t) f.result f.ensures _ _ g.ensures.rewritten,
      g.ensures.scratch_len_unchanged ∙ c.loop-j.invariant.1,
    )

pub write_end-requires : goal.write_end-requires
write_end-requires c =
    let headed : List ℕ = c.write_start-first.new.out in
    let first : ℕ = c.write_start-first.result in
    let cells : List ℕ = read_form c.args.from c.args.to c.args.cols c.args.flags (drop c.args.body c.args.s.now) in
    let same-room : length headed ≡ length c.args.out.now = (ap length c.write_start-first.ensures.now-is ∙ length-sets c.args.out.now c.args.at
    (start_bytes c.args.to c.args.cols.count c.args.nulls)) in
    let room-left : first + (length cells + length (write_end c.args.to)) ≤ length headed = (
    omega (
      arith,
      same-room,
      c.requires.s_in_bounds,
      c.write_start-first.ensures.next-is,
      row-bytes-length c.args.to c.args.cols.count c.args.nulls
          (read_form c.args.from c.args.to c.args.cols c.args.flags (drop c.args.body c.args.s.now)),
    )) in
    let all-written : (c.loop-j.out ≡ sets headed first cells) × (c.loop-j.w.to ≡ first + length cells) = (
    let cols = c.args.cols in
    let fs = flags_in c.args.from cols.count c.args.flags in
    let end : length (listed cols) ≤ c.loop-j.j = omega (arith, listed-length cols, c.loop-j-test.false) in (
      written-end (read_cell c.args.from) c.args.to (listed cols) fs c.args.s.now headed _ c.loop-j.out c.loop-j.w c.loop-j.j c.loop-j.invariant.0 end,
      written-to (read_cell c.args.from) c.args.to (listed cols) fs c.args.s.now headed _ c.loop-j.out c.loop-j.w c.loop-j.j c.loop-j.invariant.0 end,
    )) in
    omega (arith, room-left, all-written.1, c.loop-j.invariant.0.long)

pub shape_of-out : goal.shape_of-out
shape_of-out c =
    let headed : List ℕ = c.write_start-first.new.out in
    let same-room : length headed ≡ length c.args.out.now = (ap length c.write_start-first.ensures.now-is ∙ length-sets c.args.out.now c.args.at
    (start_bytes c.args.to c.args.cols.count c.args.nulls)) in
    wrote-long c.write_end.ensures ∙ c.loop-j.invariant.0.long ∙ same-room

pub returns : goal.returns
returns c =
    let headed : List ℕ = c.write_start-first.new.out in
    let first : ℕ = c.write_start-first.result in
    let cells : List ℕ = read_form c.args.from c.args.to c.args.cols c.args.flags (drop c.args.body c.args.s.now) in
    let all-written : (c.loop-j.out ≡ sets headed first cells) × (c.loop-j.w.to ≡ first + length cells) = (
    let cols = c.args.cols in
    let fs = flags_in c.args.from cols.count c.args.flags in
    let end : length (listed cols) ≤ c.loop-j.j = omega (arith, listed-length cols, c.loop-j-test.false) in (
      written-end (read_cell c.args.from) c.args.to (listed cols) fs c.args.s.now headed _ c.loop-j.out c.loop-j.w c.loop-j.j c.loop-j.invariant.0 end,
      written-to (read_cell c.args.from) c.args.to (listed cols) fs c.args.s.now headed _ c.loop-j.out c.loop-j.w c.loop-j.j c.loop-j.invariant.0 end,
    )) in
    let w = all-written in
    record {
      wrote = row-stored c.args.to c.args.cols.count c.args.nulls cells c.args.out.now headed c.loop-j.out _ c.args.at first c.loop-j.w.to _
          c.write_start-first.ensures w.0 w.1 c.write_end.ensures;
      scratch_len_unchanged = c.loop-j.invariant.1;
    }
