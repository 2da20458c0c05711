-- Why no row is moved at the place reached (RowLeft), for each way out of the loop over rows. A row that reads and has a form is taken apart: it has
-- a cell of each column, each with a form, and it is at least as long as what stands in the buffer and the cell at hand. Cited by move_rows.
use Prim.Native.Nat.{◌+◌, ◌<◌, ◌≤◌, suc, ℕ}
use native.Mathlib.Omega.{arith}
use mathlib.Core.Bool.{Bool}
use mathlib.Core.List.{List, ◌++◌, ◌∷◌}
use mathlib.Core.Logic.{inl, inr}
use mathlib.Core.Path.{◌∙◌, ◌≡◌, ap, refl, sym}
use lib.ListN.{drop, length, length-append}
use Rattle.moving.specs.Cells.{CellLeft}
use Rattle.moving.specs.Rows.{RowLeft, most_frame_bytes}
use Rattle.row_moving.proofs.Moving.{RowMoved}
use Rattle.row_reading.proofs.Parts.{RowRead, in_front, turned}
use Rattle.row_reading.specs.Clauses.{cells_end}
use Rattle.row_writing.proofs.RowForm.{join, joined, placed, unroll-write}
use Rattle.rows.proofs.Laws.{cell_then, push}
use Rattle.rows.specs.Stream.{flag, read_cell, read_cells, read_end, read_row, write_cell, write_cells, write_end, write_row, write_start}
use Rattle.table.proofs.Laws.{bad-good, bind-good}
use Rattle.table.specs.Cell.{Cell}
use Rattle.table.specs.Outcome.{Refusal, at}
use Rattle.table.specs.Result.{Result, ◌>>=◌, bad, good, refused_as}
use Rattle.table.specs.declared.Column.{Column}
use Rattle.table.specs.declared.Rows.{Rows}

-- ---- what a row that reads is made of

pub cells-read : (from : Rows) (cols : List Column) (fs : List Bool) (t : List ℕ) (xs : List Cell) (rest : List ℕ) → cells_end from cols fs t ≡ good (xs, rest)
    → (u : List ℕ) × (read_cells from cols fs 0 t ≡ good (xs, u))
unfolding cells_end
cells-read from cols fs t xs rest e =
    let p = bind-good (read_cells from cols fs 0 t) (λ (q : List Cell × List ℕ). refused_as (at (length cols)) (read_end from q.1) >>= λ z. good (q.0, z)) (xs, rest) e in
    let r = bind-good (refused_as (at (length cols)) (read_end from p.0.1)) (λ (z : List ℕ). good (p.0.0, z)) (xs, rest) p.2 in
    let same : ◌≡◌ {A = List Cell × List ℕ} (p.0.0, r.0) (xs, rest) = let h = r.2 in cc in
    (p.0.1, p.1 ∙ ap (λ (l : List Cell). good (l, p.0.1)) (ap (λ (q : List Cell × List ℕ). q.0) same))

cell-front : (acc : List Cell) (x : Cell) (r : Result Refusal (List Cell × List ℕ)) (xs : List Cell) (u : List ℕ) → in_front acc (push x r) ≡ good (xs, u)
    → (ys : List Cell) × (xs ≡ acc ++ (x ∷ ys))
cell-front acc x (good q) xs u e =
    let same : ◌≡◌ {A = List Cell × List ℕ} (xs, u) (acc ++ (x ∷ q.0), q.1) = cc in
    (q.0, ap (λ (p : List Cell × List ℕ). p.0) same)
cell-front acc x (bad n) xs u e = absurd (bad-good e)

-- the cell of column i reads, and stands behind those before it
cell-read : (acc : List Cell) (i : ℕ) (r : Result ℕ (Cell × List ℕ)) (more : List ℕ → Result Refusal (List Cell × List ℕ)) (xs : List Cell) (u : List ℕ)
    → in_front acc (cell_then i r more) ≡ good (xs, u) → (p : Cell × List ℕ) × (r ≡ good p) × (ys : List Cell) × (xs ≡ acc ++ (p.0 ∷ ys))
cell-read acc i (good p) more xs u e = let k = cell-front acc p.0 (more p.1) xs u e in (p, refl, k.0, k.1)
cell-read acc i (bad n) more xs u e = absurd (bad-good e)

-- ---- what a row that has a form is made of

cells-written : (to : Rows) (cols : List Column) (xs : List Cell) (b : List ℕ) → write_row to cols xs ≡ good b → (w : List ℕ) × (write_cells to cols xs 0 ≡ good w) × (length w ≤ length b)
unfolding write_row
cells-written to cols xs b e =
    let p = bind-good (write_cells to cols xs 0) (λ (w : List ℕ). good (write_start to xs ++ (w ++ write_end to))) b e in
    let same : write_start to xs ++ (p.0 ++ write_end to) ≡ b = let h = p.2 in cc in
    (p.0, p.1, omega (arith, ap length same, length-append (write_start to xs) (p.0 ++ write_end to), length-append p.0 (write_end to)))

-- the cell of column i has a form, behind those that stand in the buffer
cell-written : (to : Rows) (cols : List Column) (acc : List Cell) (old : List ℕ) (first : ℕ) (new : List ℕ) (end nulls i : ℕ) → (inv : RowMoved to cols acc old first new end nulls i)
    → (c : Column) → drop i cols ≡ c ∷ drop (suc i) cols → (x : Cell) (ys : List Cell) (w : List ℕ) → write_cells to cols (acc ++ (x ∷ ys)) 0 ≡ good w
    → (b : List ℕ) × (write_cell to c x ≡ good b) × (length inv.w + length b ≤ length w)
cell-written to cols acc old first new end nulls i inv c d x ys w e =
    let more = write_cells to (drop (suc i) cols) ys (i + 1) in
    let rest = join (refused_as (at i) (write_cell to c x)) more in
    let whole : join (good inv.w) rest ≡ good w = ap (join (good inv.w)) (sym (unroll-write to cols c i x ys d)) ∙ sym (inv.writes (x ∷ ys)) ∙ e in
    let p = joined (good inv.w) rest w whole in
    let q = joined (refused_as (at i) (write_cell to c x)) more p.1 p.3 in
    let same : inv.w ≡ p.0 = let h = p.2 in cc in
    (q.0, placed i (write_cell to c x) q.0 q.2, omega (arith, ap length same, ap length p.4, length-append p.0 p.1, ap length q.4, length-append q.0 q.1))

-- ---- the ways out

module _ (from to : Rows) (cols : List Column) (s : List ℕ) (place : ℕ) (out : List ℕ) (bytes roomy : ℕ) where
  -- the row does not read
  pub unread-left : (e : Refusal) → read_row from cols (drop place s) ≡ bad e → RowLeft from to cols s place out bytes roomy
  unread-left e q xs rest b h w = absurd (bad-good (sym q ∙ h))

  -- it reads, and has these bytes
  module _ (xs : List Cell) (rest b : List ℕ) (q : read_row from cols (drop place s) ≡ good (xs, rest)) (w : write_row to cols xs ≡ good b) where
    same_bytes : (ys : List Cell) (t d : List ℕ) → read_row from cols (drop place s) ≡ good (ys, t) → write_row to cols ys ≡ good d → b ≡ d
    same_bytes ys t d h v =
        let same : ◌≡◌ {A = List Cell × List ℕ} (xs, rest) (ys, t) = cc in
        let e : ◌≡◌ {A = Result Refusal (List ℕ)} (good b) (good d) = sym w ∙ ap (λ (p : List Cell × List ℕ). write_row to cols p.0) same ∙ v in
        cc

    -- for which the output has no room
    pub full-left : length out < bytes + length b → RowLeft from to cols s place out bytes roomy
    full-left less ys t d h v = inl (omega (arith, ap length (same_bytes ys t d h v)))

    -- for which its buffer has none
    pub long-left : roomy < length b + most_frame_bytes → RowLeft from to cols s place out bytes roomy
    long-left less ys t d h v = inr (omega (arith, ap length (same_bytes ys t d h v)))

  -- one of its cells is left
  pub cell-left : (fs : List Bool) (body here i : ℕ) → read_row from cols (drop place s) ≡ cells_end from cols fs (drop body s) → (k : RowRead from cols fs s body here i)
      → (old : List ℕ) (first : ℕ) (row : List ℕ) (end nulls : ℕ) → RowMoved to cols k.acc old first row end nulls i → first ≤ most_frame_bytes → length old ≡ roomy
      → (c : Column) → drop i cols ≡ c ∷ drop (suc i) cols → (f : Bool) → f ≡ flag (drop i fs) → (new : List ℕ) → CellLeft from to c f s here row end new
      → RowLeft from to cols s place out bytes roomy
  cell-left fs body here i begun k old first row end nulls m few long c d f fe new left xs rest b h w =
      let u = cells-read from cols fs (drop body s) xs rest (sym begun ∙ h) in
      let x = cell-read k.acc i (read_cell from c f (drop here s)) (λ (t : List ℕ). read_cells from (drop (suc i) cols) (drop (suc i) fs) (i + 1) t) xs u.0
      (sym (turned from cols fs s body here i k c d f fe) ∙ u.1) in
      let all = cells-written to cols xs b w in
      let e : write_cells to cols (k.acc ++ (x.0.0 ∷ x.2)) 0 ≡ good all.0 = ap (λ (l : List Cell). write_cells to cols l 0) (sym x.3) ∙ all.1 in
      let one = cell-written to cols k.acc old first row end nulls i m c d x.0.0 x.2 all.0 e in
      inr (omega (arith, left.unfit x.0.0 x.0.1 x.1 one.0 one.1, one.2, all.2, m.puts.next-is, m.puts.long))
