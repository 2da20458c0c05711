-- A row while it is measured (RowMeasured): what its cells so far are written as, the word of its null cells, and what of them the scratch holds.
-- A cell more is one law (measured-more); once all columns are read, the row has its form, or its refusal in writing. Cited by measure and
-- convert_rows.
use Prim.Native.Nat.{◌*◌, ◌+◌, ◌<◌, ◌≤◌, suc, ℕ}
use native.Mathlib.Numerals.{add-one}
use native.Mathlib.Omega.{arith}
use mathlib.Core.Bool.{Bool, cond, false, true}
use mathlib.Core.List.{List, [], ◌++◌, ◌∷◌, append_assoc, append-nil}
use mathlib.Core.Path.{◌∙◌, ◌≡◌, ap, refl, subst, sym}
use lib.Dec.{eqb}
use lib.IntN.{ℤ}
use lib.ListN.{drop, drop_of_length-le, length, length-append, take-append-drop}
use borrow.Author.Tests.{eq-eqb, ne_eqb}
use Rattle.convert.specs.Clauses.{Grown, GrownBy, HoldsAs, added_to, held_with, measured_as, size_or_refusal}
use Rattle.convert.specs.declared.Measured.{Measured}
use Rattle.table.specs.ColumnList.{listed}
use Rattle.binary.specs.Binary.{flag_bit}
use Rattle.number.specs.Number.{to_digits}
use Rattle.row_reading.proofs.Parts.{RowRead, read-end}
use Rattle.row_reading.specs.Clauses.{flags_in}
use Rattle.row_writing.proofs.HeldForm.{FewCells, held-form, held-row-more, held-within, held_row}
use Rattle.row_writing.proofs.RowForm.{join, join-assoc, join-end, join-nil, null_bits, nulls-more, row-form, start-bytes, unroll-write}
use Rattle.row_writing.specs.Clauses.{FewIn, HeldReady, HeldWithin, held_cell, held_next, most_cell_bytes, put_form, row_bytes, row_form, start_bytes}
use Rattle.rows.specs.Stream.{write_cell, write_cells, write_end, write_row}
use Rattle.table.proofs.Laws.{bad-good}
use Rattle.table.specs.Cell.{Cell, is_null}
use Rattle.table.specs.Clauses.{size_as, size_of}
use Rattle.table.specs.Outcome.{Refusal, at}
use Rattle.table.specs.Reasons.{number_of, refusal_of}
use Rattle.table.specs.declared.Reason.{Reason}
use Rattle.table.specs.declared.Refused.{Refused}
use Rattle.std.specs.Option.{option_or}
use Rattle.std.specs.Prelude.{None, Option, Result as Returned, Some, is_none, unwrap_or}
use Rattle.table.specs.Result.{Result, ◌>>=◌, bad, good, refused_as}
use Rattle.table.specs.declared.Column.{Column}
use Rattle.table.specs.declared.Columns.{Columns}
use Rattle.table.specs.declared.Rows.{Rows}

-- ---- the bytes of cells one behind the other

-- the length of bytes, or the refusal
abbrev pub length_of : Result Refusal (List ℕ) → Result Refusal ℕ
length_of r = r >>= λ b. good (length b)

length-join : (w v : Result Refusal (List ℕ)) → added_to (length_of w) (length_of v) ≡ length_of (join w v)
length-join (good a) (good b) = ap good (sym (length-append a b))
length-join (good a) (bad e) = refl
length-join (bad e) v = refl

length-as : (i : ℕ) (x : Result ℕ (List ℕ)) → refused_as (at i) (size_of x) ≡ length_of (refused_as (at i) x)
length-as i (good b) = refl
length-as i (bad n) = refl

few-more : (cs : List Column) (xs : List Cell) (c : Column) (more : List Column) (x : Cell) → FewCells cs xs → drop (length xs) cs ≡ c ∷ more → FewIn c x → FewCells cs (xs ++ (x ∷ []))
few-more [] [] c more x f e g = absurd (omega (arith, ap length e))
few-more (d ∷ cs) [] c more x f e g = let q : d ≡ c = cc in (rw q g, tt)
few-more [] (y ∷ xs) c more x f e g = absurd f
few-more (d ∷ cs) (y ∷ xs) c more x f e g = (f.0, few-more cs xs c more x f.1 e g)

-- ---- one more cell

-- what it takes is added; the first refusal stays
module _ (m : Measured) where
  pub measured-bytes : (b : ℕ) → size_or_refusal (m.size + b) m.refused ≡ added_to (measured_as m) (good b)
  measured-bytes b = go m.refused
    where
      go : (o : Option Refused) → size_or_refusal (m.size + b) o ≡ added_to (size_or_refusal m.size o) (good b)
      go None = refl
      go (Some f) = refl

  pub measured-refused : (f : Refused) → size_or_refusal m.size (option_or m.refused (Some f)) ≡ added_to (measured_as m) (bad (refusal_of f))
  measured-refused f = go m.refused
    where
      go : (o : Option Refused) → size_or_refusal m.size (option_or o (Some f)) ≡ added_to (size_or_refusal m.size o) (bad (refusal_of f))
      go None = refl
      go (Some g) = refl

-- a cell that was measured
pub grown-of : (to : Rows) (c : Column) (i : ℕ) (m : Measured) (x : Cell) (entry exit : List ℤ) (q : Measured) (o : Option ℕ) (size : Returned ℕ Reason)
    → GrownBy i o size m q → size_as size ≡ size_of (write_cell to c x) → is_none o ≡ is_null x → FewIn c x
    → ((cells : List ℤ) → HoldsAs entry cells m.held → HoldsAs exit (cells ++ held_cell x) (held_with m.held (unwrap_or o 0))) → Grown to c i m x entry exit q
grown-of to c i m x entry exit q o size g e be few k = record {
  nulls = g.nulls ∙ ap (λ (y : Bool). to_digits 2 i m.nulls ++ (flag_bit y ∷ [])) be;
  form = g.form ∙ ap (λ (y : Result ℕ ℕ). added_to (measured_as m) (refused_as (at i) y)) e;
  short = g.short;
  few = few;
  held = λ cells h. subst (HoldsAs exit (cells ++ held_cell x)) (sym g.holds) (k cells h);
}

-- the columns before i are read, and their cells are acc
pub record RowMeasured (to : Rows) (cols : List Column) (acc : List Cell) (scratch : List ℤ) (m : Measured) (i : ℕ) : Type 0 where
  pub short : m.size ≤ most_cell_bytes * i
  pub w : Result Refusal (List ℕ)
  pub writes : (xs : List Cell) → write_cells to cols (acc ++ xs) 0 ≡ join w (write_cells to (drop i cols) xs i)
  pub says : measured_as m ≡ length_of w
  pub word : to_digits 2 i m.nulls ≡ null_bits acc
  pub many : length acc ≡ i
  pub few : FewCells cols acc
  pub held : HoldsAs scratch (held_row acc) m.held

module _ (to : Rows) (cols : List Column) where
  pub measured-start : (scratch : List ℤ) (m : Measured) → m ≡ record { nulls = 0; size = 0; refused = None; held = Some 0 } → RowMeasured to cols [] scratch m 0
  unfolding to_digits
  measured-start scratch m e = rw e record {
    short = omega arith;
    w = good [];
    writes = λ xs. join-nil (write_cells to cols xs 0);
    says = refl;
    word = refl;
    many = refl;
    few = tt;
    held = refl;
  }

  pub measured-more : (acc : List Cell) (entry exit : List ℤ) (m q : Measured) (i : ℕ) → RowMeasured to cols acc entry m i
      → (c : Column) → drop i cols ≡ c ∷ drop (suc i) cols → (x : Cell) → Grown to c i m x entry exit q → RowMeasured to cols (acc ++ (x ∷ [])) exit q (i + 1)
  measured-more acc entry exit m q i inv c e x g =
      let dc : drop (i + 1) cols ≡ drop (suc i) cols = rw add-one in
      record {
        short = g.short;
        w = join inv.w (refused_as (at i) (write_cell to c x));
        writes = λ xs.
            ap (λ (l : List Cell). write_cells to cols l 0) (append_assoc acc (x ∷ []) xs)
            ∙ inv.writes (x ∷ xs)
            ∙ ap (join inv.w) (unroll-write to cols c i x xs e)
            ∙ join-assoc inv.w (refused_as (at i) (write_cell to c x)) (write_cells to (drop (suc i) cols) xs (i + 1))
            ∙ rw dc;
        says =
            g.form ∙ ap (λ (a : Result Refusal ℕ). added_to a (refused_as (at i) (size_of (write_cell to c x)))) inv.says
            ∙ ap (added_to (length_of inv.w)) (length-as i (write_cell to c x)) ∙ length-join inv.w (refused_as (at i) (write_cell to c x));
        word = g.nulls ∙ ap (λ (l : List ℕ). l ++ (flag_bit (is_null x) ∷ [])) inv.word ∙ nulls-more acc x;
        many = length-append acc (x ∷ []) ∙ ap (λ (n : ℕ). n + 1) inv.many;
        few = few-more cols acc c (drop (suc i) cols) x inv.few (ap (λ (n : ℕ). drop n cols) inv.many ∙ e) g.few;
        held = subst (λ (l : List ℤ). HoldsAs exit l q.held) (held-row-more acc x) (g.held (held_row acc) inv.held);
      }

-- ---- all columns of a row are read

said-cannot : (w : Result Refusal (List ℕ)) (n k : ℕ) → bad (at k n) ≡ length_of w → w ≡ bad (at k n)
said-cannot (good b) n k e = absurd (bad-good e)
said-cannot (bad x) n k e = cc

said-wrote : (w : Result Refusal (List ℕ)) (n : ℕ) → good n ≡ length_of w → (b : List ℕ) × (w ≡ good b) × (n ≡ length b)
said-wrote (good b) n e = (b, refl, cc)
said-wrote (bad x) n e = absurd (bad-good (sym e))

module _ (from to : Rows) (cols : Columns) (flags : ℕ) (s : List ℕ) (body place i : ℕ) (read : RowRead from (listed cols) (flags_in from cols.count flags) s body place i)
    (scratch : List ℤ) (m : Measured) (inv : RowMeasured to (listed cols) read.acc scratch m i) (l : length (listed cols) ≡ cols.count) (end : cols.count ≤ i) where
  write-all : write_cells to (listed cols) read.acc 0 ≡ inv.w
  unfolding write_cells
  write-all =
      let past : length (listed cols) ≤ i = omega (arith, l, end) in
      let e : drop i (listed cols) ≡ [] = drop_of_length-le (listed cols) past in
      ap (λ (xs : List Cell). write_cells to (listed cols) xs 0) (sym (append-nil read.acc)) ∙ inv.writes [] ∙ rw (e, join-end)

  pub row-cannot : (f : Refused) → m.refused ≡ Some f → write_row to (listed cols) read.acc ≡ bad (refusal_of f)
  unfolding write_row
  row-cannot f h =
      let says : bad (refusal_of f) ≡ length_of inv.w = sym (ap (size_or_refusal m.size) h) ∙ inv.says in
      rw (write-all, said-cannot inv.w (number_of f.reason) f.column says)

  -- the whole scratch: the cells, and whatever is behind them
  held_whole : (n : ℕ) → m.held ≡ Some n → scratch ≡ held_row read.acc ++ drop n scratch
  held_whole n e =
      sym (take-append-drop n scratch) ∙ ap (λ (y : List ℤ). y ++ drop n scratch) (subst (HoldsAs scratch (held_row read.acc)) e inv.held)

  full : length read.acc ≡ length (listed cols)
  full = omega (arith, inv.many, read.upto, l)

  pub held-ready : HeldReady (listed cols) scratch m.held
  held-ready = go m.held refl
    where
      go : (h : Option ℕ) → m.held ≡ h → HeldReady (listed cols) scratch h
      go (Some n) e = subst (HeldWithin (listed cols)) (sym (held_whole n e)) (held-within (listed cols) read.acc (drop n scratch) full inv.few)
      go None e = tt

  module _ (z : m.refused ≡ None) where
    formed : good m.size ≡ length_of inv.w
    formed =
        sym (ap (size_or_refusal m.size) z) ∙ inv.says

    cells : List ℕ
    cells = (said-wrote inv.w m.size formed).0

    cells-wrote : write_cells to (listed cols) read.acc 0 ≡ good cells
    unfolding cells
    cells-wrote = write-all ∙ (said-wrote inv.w m.size formed).1

    cells-put : put_form from to cols flags (drop body s) scratch m.held ≡ cells
    cells-put = go m.held refl
      where
        go : (h : Option ℕ) → m.held ≡ h → put_form from to cols flags (drop body s) scratch h ≡ cells
        go (Some k) e =
            ap (row_form held_next to (listed cols) []) (held_whole k e) ∙ held-form to (listed cols) read.acc (drop k scratch) 0 cells full cells-wrote
        go None e =
            row-form from to (listed cols) (flags_in from cols.count flags) 0 (drop body s) read.acc (drop place s) cells
            (read-end from (listed cols) (flags_in from cols.count flags) s body place i read (omega (arith, l, end))) cells-wrote

    -- the row's bytes are those that put_row writes
    pub row_wrote : write_row to (listed cols) read.acc ≡ good (row_bytes to cols.count m.nulls (put_form from to cols flags (drop body s) scratch m.held))
    unfolding write_row row_bytes
    row_wrote =
        let d : to_digits 2 cols.count m.nulls ≡ null_bits read.acc = let k : cols.count ≡ i = omega (arith, read.upto, l) in rw k inv.word in
        rw (cells-wrote, start-bytes to cols.count m.nulls read.acc d, cells-put)

    -- and this is how many they are
    pub row-length : length (row_bytes to cols.count m.nulls (put_form from to cols flags (drop body s) scratch m.held))
        ≡ length (start_bytes to cols.count m.nulls) + (m.size + length (write_end to))
    unfolding row_bytes cells
    row-length =
        length-append (start_bytes to cols.count m.nulls) _
        ∙ ap (λ (k : ℕ). length (start_bytes to cols.count m.nulls) + k)
        (length-append (put_form from to cols flags (drop body s) scratch m.held) (write_end to)
        ∙ ap (λ (k : ℕ). k + length (write_end to)) (ap length cells-put ∙ sym (said-wrote inv.w m.size formed).2))
