-- A row while it is moved (RowMoved): its cells so far stand in the buffer as they are written. A cell more is one law (moved_more); once all
-- columns are moved, the buffer has the row as it is written, behind room for what begins it. Cited by move_rows.
use Prim.Native.Nat.{◌+◌, ◌≤◌, suc, ℕ}
use native.Mathlib.Nat.{zero-add}
use native.Mathlib.Numerals.{add-one}
use native.Mathlib.Omega.{arith}
use mathlib.Core.Bool.{Bool}
use mathlib.Core.List.{List, [], ◌++◌, ◌∷◌, append_assoc, append-nil}
use mathlib.Core.Path.{◌∙◌, ◌≡◌, ap, ap₂, refl, sym}
use lib.Dec.{lit≤}
use lib.ListN.{drop, drop_of_length-le, length, length-append, take}
use lib.Seq.{drop_at, length-sets, length-take-le, sets, sets-eq, take-add, take-append-add}
use Rattle.binary.specs.Binary.{flag_bit}
use Rattle.moving.proofs.Puts.{front-run, puts_none, puts_then}
use Rattle.moving.specs.Cells.{CellMoved}
use Rattle.moving.specs.Puts.{Puts}
use Rattle.number.specs.Number.{to_digits}
use Rattle.row_writing.proofs.RowForm.{join, join-assoc, join-end, join-nil, null_bits, nulls-more, start-bytes, unroll-write}
use Rattle.row_writing.proofs.Sizes.{start-length-binary2}
use Rattle.row_writing.specs.Clauses.{start_bytes}
use Rattle.rows.specs.Stream.{write_cell, write_cells, write_end, write_row}
use Rattle.table.specs.Cell.{Cell, is_null}
use Rattle.table.specs.Outcome.{at}
use Rattle.table.specs.Result.{Result, good, refused_as}
use Rattle.table.specs.Wrote.{Wrote}
use Rattle.table.specs.declared.Column.{Column}
use Rattle.table.specs.declared.Rows.{Rows}
use Rattle.table.specs.declared.Rows.TheVariants.{Binary, Binary2, TableData}
use Rattle.tabledata.specs.TableData.{close-TR, open-TR}

-- ---- cell by cell

-- the columns before i are moved, and their cells are acc
pub record RowMoved (to : Rows) (cols : List Column) (acc : List Cell) (old : List ℕ) (first : ℕ) (new : List ℕ) (end nulls i : ℕ) : Type 0 where
  pub w : List ℕ
  pub writes : (xs : List Cell) → write_cells to cols (acc ++ xs) 0 ≡ join (good w) (write_cells to (drop i cols) xs i)
  pub puts : Puts old first w new end
  pub word : to_digits 2 i nulls ≡ null_bits acc
  pub many : length acc ≡ i

module _ (to : Rows) (cols : List Column) where
  pub moved-start : (row : List ℕ) (first : ℕ) → first ≤ length row → RowMoved to cols [] row first row first 0 0
  unfolding to_digits
  moved-start row first h = record {
    w = [];
    writes = λ xs. join-nil (write_cells to cols xs 0);
    puts = puts_none row first h;
    word = refl;
    many = refl;
  }

  pub moved_more : (acc : List Cell) (old : List ℕ) (first : ℕ) (entry : List ℕ) (end nulls i : ℕ) → RowMoved to cols acc old first entry end nulls i
      → (c : Column) → drop i cols ≡ c ∷ drop (suc i) cols → (from : Rows) (flagged : Bool) (s : List ℕ) (place : ℕ) (exit : List ℕ) (next e : ℕ) (null : Bool)
      → (m : CellMoved from to c flagged s place entry end exit next e null) → (q : ℕ) → to_digits 2 (i + 1) q ≡ to_digits 2 i nulls ++ (flag_bit null ∷ [])
      → RowMoved to cols (acc ++ (m.cell ∷ [])) old first exit e q (i + 1)
  moved_more acc old first entry end nulls i inv c d from flagged s place exit next e null m q f =
      let dc : drop (i + 1) cols ≡ drop (suc i) cols = rw add-one in
      record {
        w = inv.w ++ m.bytes;
        writes = λ xs.
            ap (λ (l : List Cell). write_cells to cols l 0) (append_assoc acc (m.cell ∷ []) xs)
            ∙ inv.writes (m.cell ∷ xs)
            ∙ ap (join (good inv.w)) (unroll-write to cols c i m.cell xs d ∙ ap (λ (r : Result ℕ (List ℕ)). join (refused_as (at i) r) (write_cells to (drop (suc i) cols) xs (i + 1))) m.writes)
            ∙ join-assoc (good inv.w) (good m.bytes) (write_cells to (drop (suc i) cols) xs (i + 1))
            ∙ rw dc;
        puts = puts_then inv.puts m.puts;
        word = f ∙ ap₂ (λ (l : List ℕ) (b : Bool). l ++ (flag_bit b ∷ [])) inv.word m.null_is ∙ nulls-more acc m.cell;
        many = length-append acc (m.cell ∷ []) ∙ ap (λ (n : ℕ). n + 1) inv.many;
      }

  -- all columns are moved: the row's bytes
  pub moved_row : (acc : List Cell) (old : List ℕ) (first : ℕ) (new : List ℕ) (end nulls i count : ℕ) → (inv : RowMoved to cols acc old first new end nulls i) → length cols ≤ i → count ≡ i
      → write_row to cols acc ≡ good (start_bytes to count nulls ++ (inv.w ++ write_end to))
  unfolding write_row write_cells
  moved_row acc old first new end nulls i count inv past k =
      let e : drop i cols ≡ [] = drop_of_length-le cols past in
      let all : write_cells to cols acc 0 ≡ good inv.w =
      ap (λ (xs : List Cell). write_cells to cols xs 0) (sym (append-nil acc)) ∙ inv.writes [] ∙ rw (e, append-nil) in
      let d : to_digits 2 count nulls ≡ null_bits acc = rw k inv.word in
      rw (all, start-bytes to count nulls acc d)

-- ---- what stands around the cells

-- it takes at most eight bytes on either side
pub start-most : (to : Rows) (count nulls : ℕ) → count ≤ 64 → length (start_bytes to count nulls) ≤ 8
unfolding start_bytes open-TR
start-most TableData count nulls h = lit≤ tt
start-most Binary count nulls h = lit≤ tt
start-most Binary2 count nulls h = omega (arith, start-length-binary2 count nulls)

pub end-most : (to : Rows) → length (write_end to) ≤ 8
unfolding write_end close-TR
end-most TableData = lit≤ tt
end-most Binary = lit≤ tt
end-most Binary2 = lit≤ tt

-- what begins the row in the room before its cells, and what ends it behind them
pub row-framed : (b cells before z old one new : List ℕ) (next end size : ℕ) → Wrote old 0 b one next → Wrote one end z new size → take end old ≡ before ++ cells → length before ≡ length b
    → end + length z ≤ length old → take size new ≡ b ++ (cells ++ z)
row-framed b cells before z old one new next end size u v q n h =
    let l : length one ≡ length old = ap length u.now-is ∙ length-sets old 0 b in
    let t : end ≡ length b + length cells = sym (length-take-le end old (omega arith)) ∙ ap length q ∙ length-append before cells ∙ ap (λ (k : ℕ). k + length cells) n in
    let f : take end one ≡ b ++ cells = ap (take end) u.now-is ∙ started b cells before old end q n (omega arith) t in
    ap₂ take v.next-is v.now-is ∙ front-run z one end (omega (arith, l)) ∙ ap (λ (k : List ℕ). k ++ z) f ∙ append_assoc b cells z
  where
    started : (b cells before old : List ℕ) (end : ℕ) → take end old ≡ before ++ cells → length before ≡ length b → end ≤ length old → end ≡ length b + length cells
        → take end (sets old 0 b) ≡ b ++ cells
    started b cells before old end q n h t =
        let front : length (take (length b) old) ≡ length b = length-take-le (length b) old (omega arith) in
        let both : before ++ cells ≡ take (length b) old ++ take (length cells) (drop (length b) old) = sym q ∙ ap (λ (k : ℕ). take k old) t ∙ take-add (length b) (length cells) old in
        let same : take (length cells) (drop (length b) old) ≡ cells =
        sym (drop_at (take (length b) old) (take (length cells) (drop (length b) old)) (length b) front) ∙ ap (drop (length b)) (sym both) ∙ drop_at before cells (length b) n in
        ap₂ take t (sets-eq b old 0 (omega arith) ∙ ap (λ (k : ℕ). b ++ drop k old) (zero-add (length b))) ∙ take-append-add b (drop (length b) old) (length cells) ∙ ap (λ (k : List ℕ). b ++ k) same
