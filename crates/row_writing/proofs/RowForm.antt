-- A row is written as its form: cell after cell as `next` takes them from the front, of the input or of the scratch. What is left to write gives
-- the whole (WriteInv). Cited by rewrite, write_row, write_held_cell and write_held_row here, and by the converter.
use Prim.Native.Nat.{◌+◌, ◌<◌, ◌≤◌, suc, ℕ}
use native.Mathlib.Nat.{add-zero, le_refl}
use native.Mathlib.Numerals.{add-one}
use native.Mathlib.Omega.{arith}
use mathlib.Core.Bool.{Bool}
use mathlib.Core.List.{List, [], ◌++◌, ◌∷◌, append_assoc, append-nil, map}
use mathlib.Core.Path.{◌∙◌, ◌≡◌, ap, ap₂, refl, sym}
use lib.ListN.{drop, drop_of_length-le, length, length-append}
use lib.Seq.{length-sets, sets}
use Rattle.binary.specs.Binary.{flag_bit, pack}
use Rattle.table.proofs.Wrote.{sets-append, wrote_then_lem}
use Rattle.number.specs.Number.{to_digits}
use Rattle.row_reading.proofs.Parts.{flags-next}
use Rattle.row_writing.specs.Clauses.{Rewritten, cell_bytes, cell_form, rest_of, row_bytes, row_form, start_bytes}
use Rattle.row_writing.specs.declared.Writing.{Writing}
use Rattle.rows.proofs.Laws.{cell_then, push}
use Rattle.rows.specs.Stream.{flag, flags_left, read_cell, read_cells, write_cell, write_cells, write_end, write_start}
use Rattle.table.proofs.Laws.{bad-good}
use Rattle.table.specs.Cell.{Cell, is_null}
use Rattle.table.specs.Clauses.{form_bytes}
use Rattle.table.specs.Outcome.{Refusal, at}
use Rattle.table.specs.Result.{Result, ◌>>=◌, bad, good, refused_as}
use Rattle.table.specs.Wrote.{Wrote}
use Rattle.table.specs.declared.Column.{Column}
use Rattle.table.specs.declared.Rows.{Rows}
use Rattle.table.specs.declared.Rows.TheVariants.{Binary, Binary2, TableData}
use Rattle.tabledata.proofs.Laws.{text-bytes}

-- the bytes of cells one behind the other, or the first refusal
abbrev pub join : Result Refusal (List ℕ) → Result Refusal (List ℕ) → Result Refusal (List ℕ)
join a b = a >>= λ x. b >>= λ y. good (x ++ y)

pub join-nil : (w : Result Refusal (List ℕ)) → w ≡ join (good []) w
join-nil (good b) = refl
join-nil (bad e) = refl

pub join-end : (w : Result Refusal (List ℕ)) → join w (good []) ≡ w
join-end (good b) = ap good (append-nil b)
join-end (bad e) = refl

pub join-assoc : (a b c : Result Refusal (List ℕ)) → join a (join b c) ≡ join (join a b) c
join-assoc (bad e) b c = refl
join-assoc (good xs) (bad e) c = refl
join-assoc (good xs) (good ys) (bad e) = refl
join-assoc (good xs) (good ys) (good zs) = ap good (sym (append_assoc xs ys zs))

-- the cells from column i on, where that column is c
pub unroll-write : (to : Rows) (cols : List Column) (c : Column) (i : ℕ) (x : Cell) (xs : List Cell) → drop i cols ≡ c ∷ drop (suc i) cols
    → write_cells to (drop i cols) (x ∷ xs) i ≡ join (refused_as (at i) (write_cell to c x)) (write_cells to (drop (suc i) cols) xs (i + 1))
unfolding write_cells
unroll-write to cols c i x xs e = rw e

-- ---- cells that are written

pushed : (y : Cell) (r : Result Refusal (List Cell × List ℕ)) (xs : List Cell) (rest : List ℕ) → push y r ≡ good (xs, rest)
    → (ys : List Cell) × (r ≡ good (ys, rest)) × (xs ≡ y ∷ ys)
pushed y (good q) xs rest e = let p : ◌≡◌ {A = List Cell × List ℕ} (y ∷ q.0, q.1) (xs, rest) = cc in
    (q.0, ap (λ (t : List ℕ). good (q.0, t)) (ap (λ (z : List Cell × List ℕ). z.1) p), sym (ap (λ (z : List Cell × List ℕ). z.0) p))
pushed y (bad e) xs rest q = absurd (bad-good q)

pub joined : (a b : Result Refusal (List ℕ)) (c : List ℕ) → join a b ≡ good c → (x : List ℕ) × (y : List ℕ) × (a ≡ good x) × (b ≡ good y) × (x ++ y ≡ c)
joined (good x) (good y) c e = (x, y, refl, refl, cc)
joined (good x) (bad n) c e = absurd (bad-good e)
joined (bad n) b c e = absurd (bad-good e)

pub placed : (j : ℕ) (w : Result ℕ (List ℕ)) (b : List ℕ) → refused_as (at j) w ≡ good b → w ≡ good b
placed j (good d) b e = cc
placed j (bad n) b e = absurd (bad-good e)

-- where a cell has a form, that is what the code writes
pub form-bytes : (to : Rows) (c : Column) (x : Cell) (b : List ℕ) → write_cell to c x ≡ good b → cell_bytes to c x ≡ b
unfolding write_cell cell_bytes
form-bytes TableData c x b e = text-bytes c x b e
form-bytes Binary c x b e = ap form_bytes e
form-bytes Binary2 c x b e = cc

form-step : (from to : Rows) (c : Column) (cs : List Column) (fs : List Bool) (j : ℕ)
    → ((s : List ℕ) (xs : List Cell) (rest b : List ℕ) → read_cells from cs (flags_left fs) (j + 1) s ≡ good (xs, rest) → write_cells to cs xs (j + 1) ≡ good b
    → row_form (read_cell from) to cs (flags_left fs) s ≡ b)
    → (x : Result ℕ (Cell × List ℕ)) (xs : List Cell) (rest b : List ℕ)
    → cell_then j x (λ t. read_cells from cs (flags_left fs) (j + 1) t) ≡ good (xs, rest) → write_cells to (c ∷ cs) xs j ≡ good b
    → cell_form to c x ++ row_form (read_cell from) to cs (flags_left fs) (rest_of x) ≡ b
unfolding cell_form rest_of write_cells
form-step from to c cs fs j ih (bad n) xs rest b e w = absurd (bad-good e)
form-step from to c cs fs j ih (good p) xs rest b e w =
    let q : (ys : List Cell) × (read_cells from cs (flags_left fs) (j + 1) p.1 ≡ good (ys, rest)) × (xs ≡ p.0 ∷ ys) = pushed p.0 (read_cells from cs (flags_left fs) (j + 1) p.1) xs rest e in
    let d : (x : List ℕ) × (y : List ℕ) × (refused_as (at j) (write_cell to c p.0) ≡ good x) × (write_cells to cs q.0 (j + 1) ≡ good y) × (x ++ y ≡ b)
    = joined (refused_as (at j) (write_cell to c p.0)) (write_cells to cs q.0 (j + 1)) b (sym (ap (λ (l : List Cell). write_cells to (c ∷ cs) l j) q.2) ∙ w) in
    let k : write_cell to c p.0 ≡ good d.0 = placed j (write_cell to c p.0) d.0 d.2 in
    ap₂ ◌++◌ (form-bytes to c p.0 d.0 k) (ih p.1 q.0 rest d.1 q.1 d.3) ∙ d.4

-- a row that was read and has a form is written as that form
pub row-form : (from to : Rows) (cs : List Column) (fs : List Bool) (j : ℕ) (s : List ℕ) (xs : List Cell) (rest b : List ℕ)
    → read_cells from cs fs j s ≡ good (xs, rest) → write_cells to cs xs j ≡ good b → row_form (read_cell from) to cs fs s ≡ b
unfolding read_cells write_cells row_form
row-form from to [] fs j s xs rest b e w = cc
row-form from to (c ∷ cs) fs j s xs rest b e w = form-step from to c cs fs j (row-form from to cs (flags_left fs) (j + 1)) (read_cell from c (flag fs) s) xs rest b e w

-- the columns before j are written
pub record WriteInv {A : Type 0} (next : Column → Bool → List A → Result ℕ (Cell × List A)) (to : Rows) (cols : List Column) (fs : List Bool) (s : List A) (out₀ : List ℕ)
    (w₀ : Writing) (out : List ℕ) (w : Writing) (j : ℕ) : Type 0 where
  pub upto : j ≤ length cols
  pub inside : w.at ≤ length s
  pub long : length out ≡ length out₀
  pub same : sets out w.to (row_form next to (drop j cols) (drop j fs) (drop w.at s)) ≡ sets out₀ w₀.to (row_form next to cols fs (drop w₀.at s))
  pub size : w.to + length (row_form next to (drop j cols) (drop j fs) (drop w.at s)) ≡ w₀.to + length (row_form next to cols fs (drop w₀.at s))

module _ {A : Type 0} (next : Column → Bool → List A → Result ℕ (Cell × List A)) (to : Rows) (cols : List Column) (fs : List Bool) (s : List A) (out₀ : List ℕ) (w₀ : Writing) where
  pub write-start : w₀.at ≤ length s → WriteInv next to cols fs s out₀ w₀ out₀ w₀ 0
  write-start h = record { upto = omega arith; inside = h; long = refl; same = refl; size = refl }

  module _ (out : List ℕ) (w : Writing) (j : ℕ) (inv : WriteInv next to cols fs s out₀ w₀ out w j) (c : Column) (more : j < length cols) (e : drop j cols ≡ c ∷ drop (suc j) cols) where
    abbrev pub form : List ℕ
    form = cell_form to c (next c (flag (drop j fs)) (drop w.at s))

    abbrev left : List A
    left = rest_of (next c (flag (drop j fs)) (drop w.at s))

    unrolled : row_form next to (drop j cols) (drop j fs) (drop w.at s) ≡ form ++ row_form next to (drop (suc j) cols) (drop (suc j) fs) left
    unfolding row_form
    unrolled = rw (e, flags-next j fs)

    sized : w.to + (length form + length (row_form next to (drop (suc j) cols) (drop (suc j) fs) left)) ≡ w₀.to + length (row_form next to cols fs (drop w₀.at s))
    sized = ap (λ (n : ℕ). w.to + n) (sym (ap length unrolled ∙ length-append form _)) ∙ inv.size

    module _ (f : Bool) (fe : f ≡ flag (drop j fs)) where
      pub write-fits : w₀.to + length (row_form next to cols fs (drop w₀.at s)) ≤ length out₀ → w.to + length (cell_form to c (next c f (drop w.at s))) ≤ length out
      write-fits h = rw fe (omega (arith, sized, inv.long))

      pub write-more : (out' : List ℕ) (w' : Writing) → Rewritten next to c f s w out out' w' → WriteInv next to cols fs s out₀ w₀ out' w' (j + 1)
      write-more out' w' g =
          let r : left ≡ drop w'.at s = rw fe at g.rest in
          let t : w'.to ≡ w.to + length form = rw fe at g.place in
          let o : out' ≡ sets out w.to form = rw fe at g.now-is in
          record {
            upto = omega arith;
            inside = g.inside;
            long = ap length o ∙ length-sets out w.to form ∙ inv.long;
            same =
                rw (add-one, o, t, ← r)
                (sets-append form (row_form next to (drop (suc j) cols) (drop (suc j) fs) left) out w.to ∙ ap (sets out w.to) (sym unrolled) ∙ inv.same);
            size = rw (add-one, ← r) (omega (arith, sized, t));
          }

  module _ (out : List ℕ) (w : Writing) (j : ℕ) (inv : WriteInv next to cols fs s out₀ w₀ out w j) (end : length cols ≤ j) where
    pub written-end : out ≡ sets out₀ w₀.to (row_form next to cols fs (drop w₀.at s))
    unfolding row_form
    written-end =
        let e : drop j cols ≡ [] = drop_of_length-le cols end in
        rw e at inv.same

    pub written-to : w.to ≡ w₀.to + length (row_form next to cols fs (drop w₀.at s))
    unfolding row_form
    written-to =
        let e : drop j cols ≡ [] = drop_of_length-le cols end in
        sym (add-zero w.to) ∙ (rw e at inv.size)

-- ---- a cell that was taken from the front and written

pub form-found : {A : Type 0} (to : Rows) (c : Column) (r : Result ℕ (Cell × List A)) (x : Cell) (rest : List A) → r ≡ good (x, rest) → cell_form to c r ≡ cell_bytes to c x
unfolding cell_form
form-found to c r x rest e = rw e

module _ {A : Type 0} (take_next : Column → Bool → List A → Result ℕ (Cell × List A)) (to : Rows) (c : Column) (flagged : Bool) (s : List A) (w : Writing) (old : List ℕ) where
  pub rewritten : (new : List ℕ) (next e : ℕ) (x : Cell) → take_next c flagged (drop w.at s) ≡ good (x, drop next s) → next ≤ length s
      → Wrote old w.to (cell_bytes to c x) new e → Rewritten take_next to c flagged s w old new (record { at = next; to = e })
  unfolding rest_of
  rewritten new next e x q h k =
      let f : cell_form to c (take_next c flagged (drop w.at s)) ≡ cell_bytes to c x = form-found to c (take_next c flagged (drop w.at s)) x (drop next s) q in
      record { inside = h; rest = rw q; place = k.next-is ∙ ap (λ (b : List ℕ). w.to + length b) (sym f); now-is = k.now-is ∙ ap (sets old w.to) (sym f) }

  -- what does not read is not written, and nothing follows it
  pub unwritten : (n : ℕ) → take_next c flagged (drop w.at s) ≡ bad n → Rewritten take_next to c flagged s w old old (record { at = length s; to = w.to })
  unfolding rest_of cell_form
  unwritten n q = record { inside = le_refl (length s); rest = rw q (sym (drop_of_length-le s (le_refl (length s)))); place = rw q (sym (add-zero w.to)); now-is = rw q }

-- the flags of cells: 1 for null
abbrev pub null_bits : List Cell → List ℕ
null_bits xs = map flag_bit (map is_null xs)

pub nulls-more : (acc : List Cell) (x : Cell) → null_bits acc ++ (flag_bit (is_null x) ∷ []) ≡ null_bits (acc ++ (x ∷ []))
nulls-more [] x = refl
nulls-more (y ∷ acc) x = ap (λ (l : List ℕ). flag_bit (is_null y) ∷ l) (nulls-more acc x)

-- ---- the word of the null cells

pub start-bytes : (to : Rows) (count nulls : ℕ) (xs : List Cell) → to_digits 2 count nulls ≡ null_bits xs → write_start to xs ≡ start_bytes to count nulls
unfolding write_start start_bytes
start-bytes TableData count nulls xs e = refl
start-bytes Binary count nulls xs e = refl
start-bytes Binary2 count nulls xs e = ap pack (sym e)

-- ---- a row that is written

pub row-bytes-length : (to : Rows) (count nulls : ℕ) (cells : List ℕ) → length (row_bytes to count nulls cells) ≡ length (start_bytes to count nulls) + (length cells + length (write_end to))
unfolding row_bytes
row-bytes-length to count nulls cells = length-append (start_bytes to count nulls) _ ∙ ap (λ (n : ℕ). length (start_bytes to count nulls) + n) (length-append cells (write_end to))

-- three stores one behind the other are one
pub row-stored : (to : Rows) (count nulls : ℕ) (cells old one two three : List ℕ) (place first last end : ℕ)
    → Wrote old place (start_bytes to count nulls) one first → two ≡ sets one first cells → last ≡ first + length cells
    → Wrote two last (write_end to) three end → Wrote old place (row_bytes to count nulls cells) three end
unfolding row_bytes
row-stored to count nulls cells old one two three place first last end a b l e =
    let middle : Wrote one first cells two last = record { now-is = b; next-is = l } in
    wrote_then_lem a (wrote_then_lem middle e)
