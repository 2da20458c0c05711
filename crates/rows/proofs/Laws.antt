-- Laws of rows and streams. A row that is written is read back as the cells it was written from. Each row takes at least a byte, so a
-- stream is its first row and what the rest says: the bound on rows never ends it. What is read fits its columns.
use Rattle.std.proofs.lemmas.Option.{none-some}
use Rattle.std.specs.Prelude.{None, Some}
use Prim.Native.Nat.{◌+◌, ◌<◌, ◌≤◌, zero-le, ℕ}
use native.Mathlib.Nat.{le_refl, not-suc-le-zero}
use native.Mathlib.Omega.{arith}
use mathlib.Core.Bool.{Bool, cond, false, true}
use mathlib.Core.List.{List, [], ◌++◌, ◌∷◌, append_assoc, map}
use mathlib.Core.Path.{◌∙◌, ◌≡◌, ap, refl, subst, sym}
use lib.Dec.{lit≤}
use lib.IntN.{pos, ℤ}
use lib.ListN.{length, length-map}
use Rattle.binary.proofs.Laws.{binary-cell-back, binary-fails, binary-less, binary2-cell-back, binary2-fails, binary2-fits, write-binary-fails}
use Rattle.binary.proofs.RowFlags.{flags-are, flags-back, flags-fails, flags-le}
use Rattle.binary.specs.Binary.{content, content_bytes, count_in, first_bytes, flag_bit, read_binary, read_binary2, shows}
use Rattle.rows.proofs.Sequences.{AllRows, Stops, sequence-all, sequence-fuel, sequence-step, sequence-stops}
use Rattle.rows.specs.Bounds.{Bounded, Within}
use Rattle.rows.specs.Sequence.{finished, row, row_then, sequence, sequence_f}
use Rattle.rows.specs.Stream.{at_end, flag, flags_left, is_empty, is_set, read, read_cell, read_cells, read_end, read_row, read_start, write_cell, write_cells, write_end, write_row, write_start}
use Rattle.table.proofs.Laws.{Numbered, all-weaken, bad-good, each-length, empty-fits, fails-as, fails-bind, fails-weaken}
use Rattle.table.proofs.Laws.{holds-any, holds_as, holds_at, holds-bind, holds-weaken, skip-le, tag-fails, tag-le}
use Rattle.table.specs.All.{All, AreBytes}
use Rattle.table.specs.Bytes.{after, ends, is_white, skip_white, tag}
use Rattle.table.specs.Cell.{AreColumns, Cell, Each, Fits, IsColumn, below, column_of, is_element, is_null, is_scalar, null_element, null_of_kind, show}
use Rattle.table.specs.Outcome.{Refusal, at, most_number}
use Rattle.table.specs.Result.{Fails, Holds, Result, ◌>>=◌, bad, gives, good, holds, refused_as, refuses}
use Rattle.table.specs.Shape.{Bits, Shape, Text, Truths, Whole, shape}
use Rattle.table.specs.declared.Column.{Column}
use Rattle.table.specs.declared.Rows.{Rows}
use Rattle.table.specs.declared.Rows.TheVariants.{Binary, Binary2, TableData}
use Rattle.tabledata.proofs.Laws.{TextFits, text-cell-back, text-fails, text-fits, text-less, write-text-fails}
use Rattle.tabledata.specs.TableData.{close-TR, open-TR}

-- ---- cells of each kind of rows

-- the flags that a written row has
unfoldable pub flags_of : Rows → List Cell → List Bool
flags_of TableData xs = []
flags_of Binary xs = []
flags_of Binary2 xs = map is_null xs

unfoldable pub flag_for : Rows → Cell → Bool
flag_for TableData x = false
flag_for Binary x = false
flag_for Binary2 x = is_null x

-- a cell's bytes are read back as the cell, whatever follows
abbrev pub CellBack : Rows → Column → Cell → List ℕ → Type 0
CellBack to c x b = (rest : List ℕ) → read_cell to c (flag_for to x) (b ++ rest) ≡ good (x, rest)

pub cells-back : (to : Rows) (c : Column) (x : Cell) → IsColumn c → Fits c x → Holds (CellBack to c x) (write_cell to c x)
unfolding read_cell write_cell flag_for
cells-back TableData c x i f = text-cell-back c x f
cells-back Binary c x i f = binary-cell-back c x i f
cells-back Binary2 c x i f = holds (λ rest. binary2-cell-back c x rest i f)

-- the column without its declared null
abbrev bare : Column → Column
bare c = column_of c.kind c.len None

bare-null : (k : Shape) (scalar : Bool) (z : ℤ) → cond scalar (null_of_kind k None) None ≡ Some z → is_element k z ≡ true
unfolding is_element below
bare-null Truths true z q = let e : z ≡ pos 2 = cc in rw e
bare-null Truths false z q = absurd (none-some z q)
bare-null Bits true z q = absurd (none-some z q)
bare-null Bits false z q = absurd (none-some z q)
bare-null (Whole g v) true z q = absurd (none-some z q)
bare-null (Whole g v) false z q = absurd (none-some z q)
bare-null Text true z q = absurd (none-some z q)
bare-null Text false z q = absurd (none-some z q)

bare-is : (c : Column) → Bounded c → IsColumn (bare c)
unfolding null_element
bare-is c b = record { some-room = b.0; most-room = b.1; null_is = bare-null (shape c.kind) (is_scalar (bare c)) }

-- what follows a cell
abbrev following : Result ℕ (Cell × List ℕ) → Result ℕ (List ℕ)
following r = r >>= λ p. good p.1

-- where a cell ends does not hang on its declared null
ends-alike : (c : Column) (flagged : Bool) (s : List ℕ) → following (read_binary2 c flagged s) ≡ following (read_binary2 (bare c) flagged s)
unfolding read_binary2
ends-alike c flagged s = counted (count_in c.len s)
  where
    shown-alike : (t : List ℕ) (r : Result ℕ (List ℤ)) → following ((r >>= λ es. good (show c es)) >>= λ x. good (x, t)) ≡ following ((r >>= λ es. good (show (bare c) es)) >>= λ x. good (x, t))
    shown-alike t (good es) = refl
    shown-alike t (bad n) = refl

    filled : (n : ℕ) (f : Bool) (r : Result ℕ (List ℕ × List ℕ)) → following (r >>= λ p. shows c f n p.0 >>= λ x. good (x, p.1))
        ≡ following (r >>= λ p. shows (bare c) f n p.0 >>= λ x. good (x, p.1))
    filled n f (bad k) = refl
    filled n true (good p) = unfold shows in refl
    filled n false (good p) = unfold shows in shown-alike p.1 (content (shape c.kind) n p.0)

    counted : (r : Result ℕ (ℕ × List ℕ))
        → following (r >>= λ n. first_bytes (content_bytes (shape c.kind) n.0) n.1 >>= λ p. shows c flagged n.0 p.0 >>= λ x. good (x, p.1))
        ≡ following (r >>= λ n. first_bytes (content_bytes (shape c.kind) n.0) n.1 >>= λ p. shows (bare c) flagged n.0 p.0 >>= λ x. good (x, p.1))
    counted (bad k) = refl
    counted (good n) = filled n.0 flagged (first_bytes (content_bytes (shape c.kind) n.0) n.1)

holds-following : (P : List ℕ → Type 0) (r q : Result ℕ (Cell × List ℕ)) → following r ≡ following q → Holds (λ (p : Cell × List ℕ). P p.1) q → Holds (λ (p : Cell × List ℕ). P p.1) r
holds-following P (bad n) q e h = refuses
holds-following P (good p) (bad n) e h = absurd (bad-good (sym e))
holds-following P (good p) (good q) e (holds h) = let k : p.1 ≡ q.1 = cc in holds (subst P (sym k) h)

binary2-less : (c : Column) (flagged : Bool) (s : List ℕ) → Bounded c → Holds (λ (p : Cell × List ℕ). length p.1 < length s) (read_binary2 c flagged s)
binary2-less c flagged s b = holds-following (λ (t : List ℕ). length t < length s) _ _ (ends-alike c flagged s) (binary-less (bare c) flagged s (bare-is c b))

-- a cell takes at least a byte
pub cells-less : (from : Rows) (c : Column) (flagged : Bool) (s : List ℕ) → Bounded c
    → Holds (λ (p : Cell × List ℕ). length p.1 < length s) (read_cell from c flagged s)
unfolding read_cell read_binary
cells-less TableData c flagged s b = text-less c s
cells-less Binary c flagged s b = holds-bind (binary2-less c false s b) (λ p h. holds h)
cells-less Binary2 c flagged s b = binary2-less c flagged s b

-- ---- a row that is written is read back

abbrev pub FitsAll : List Column → List Cell → Type 0
FitsAll cs xs = Each Fits cs xs

flag-of : (to : Rows) (x : Cell) (xs : List Cell) → flag (flags_of to (x ∷ xs)) ≡ flag_for to x
unfolding flags_of flag_for flag
flag-of TableData x xs = refl
flag-of Binary x xs = refl
flag-of Binary2 x xs = refl

flags-left : (to : Rows) (x : Cell) (xs : List Cell) → flags_left (flags_of to (x ∷ xs)) ≡ flags_of to xs
unfolding flags_of flags_left
flags-left TableData x xs = refl
flags-left Binary x xs = refl
flags-left Binary2 x xs = refl

-- "1 for null"
one_bit : (bs : List Bool) → map is_set (map flag_bit bs) ≡ bs
unfolding is_set
one_bit [] = refl
one_bit (true ∷ bs) = ap (λ (t : List Bool). true ∷ t) (one_bit bs)
one_bit (false ∷ bs) = ap (λ (t : List Bool). false ∷ t) (one_bit bs)

start_back : (to : Rows) (n : ℕ) (xs : List Cell) (t : List ℕ) → length xs ≡ n → read_start to n (write_start to xs ++ t) ≡ good (flags_of to xs, t)
unfolding read_start write_start flags_of skip_white tag after ends open-TR is_white
start_back TableData n xs t h = refl
start_back Binary n xs t h = refl
start_back Binary2 n xs t h =
    rw (flags-back n (map is_null xs) t (simp length-map h), one_bit)

-- what is left of a written row once it is read: the end of its line
unfoldable pub newline : Rows → List ℕ
newline TableData = 10 ∷ []
newline Binary = []
newline Binary2 = []

end_back : (to : Rows) (rest : List ℕ) → read_end to (write_end to ++ rest) ≡ good (newline to ++ rest)
unfolding read_end write_end newline skip_white tag after ends close-TR is_white
end_back TableData rest = refl
end_back Binary rest = refl
end_back Binary2 rest = refl

-- a cell in front of what is read
abbrev pub push : Cell → Result Refusal (List Cell × List ℕ) → Result Refusal (List Cell × List ℕ)
push x r = r >>= λ q. good (x ∷ q.0, q.1)

-- a cell of column i, and then the others
abbrev pub cell_then : ℕ → Result ℕ (Cell × List ℕ) → (List ℕ → Result Refusal (List Cell × List ℕ)) → Result Refusal (List Cell × List ℕ)
cell_then i x more = refused_as (at i) x >>= λ p. push p.0 (more p.1)

row-cells-back : (to : Rows) (cs : List Column) (xs : List Cell) (k j : ℕ) → All IsColumn cs → FitsAll cs xs
    → Holds (λ (b : List ℕ). (rest : List ℕ) → read_cells to cs (flags_of to xs) j (b ++ rest) ≡ good (xs, rest)) (write_cells to cs xs k)
unfolding read_cells write_cells
row-cells-back to [] [] k j i f = holds (λ rest. refl)
row-cells-back to [] (x ∷ xs) k j i f = absurd f
row-cells-back to (c ∷ cs) [] k j i f = absurd f
row-cells-back to (c ∷ cs) (x ∷ xs) k j i f =
    holds-bind (holds_as (at k) (cells-back to c x i.0 f.0)) (λ b hb.
    holds-bind (row-cells-back to cs xs (k + 1) (j + 1) i.1 f.1) (λ r hr.
    holds (λ rest. rw (append_assoc, flag-of, flags-left, hb (r ++ rest), hr rest))))

pub row_back : (to : Rows) (cs : List Column) (xs : List Cell) → All IsColumn cs → FitsAll cs xs
    → Holds (λ (b : List ℕ). (rest : List ℕ) → read_row to cs (b ++ rest) ≡ good (xs, newline to ++ rest)) (write_row to cs xs)
unfolding read_row write_row
row_back to cs xs i f =
    holds-bind (row-cells-back to cs xs 0 0 i f) (λ b h.
    holds (λ rest. rw (append_assoc, append_assoc, start_back to (length cs) xs (b ++ (write_end to ++ rest)) (each-length Fits cs xs f), h (write_end to ++ rest), end_back)))

-- ---- a row takes at least a byte

tag-skip : (word s : List ℕ) → Holds (λ (t : List ℕ). length t ≤ length s) (tag 10 word (skip_white s))
tag-skip word s = holds-weaken (tag-le 10 word (skip_white s)) (λ t h. omega (arith, skip-le s))

start-le : (from : Rows) (n : ℕ) (s : List ℕ) → Holds (λ (p : List Bool × List ℕ). length p.1 ≤ length s) (read_start from n s)
unfolding read_start
start-le TableData n s = holds-bind (tag-skip open-TR s) (λ t h. holds h)
start-le Binary n s = holds (le_refl (length s))
start-le Binary2 n s = holds-bind (flags-le n s) (λ p h. holds h)

end-le : (from : Rows) (s : List ℕ) → Holds (λ (t : List ℕ). length t ≤ length s) (read_end from s)
unfolding read_end
end-le TableData s = tag-skip close-TR s
end-le Binary s = holds (le_refl (length s))
end-le Binary2 s = holds (le_refl (length s))

row-cells-le : (from : Rows) (cs : List Column) (fs : List Bool) (k : ℕ) (s : List ℕ) → All Bounded cs
    → Holds (λ (p : List Cell × List ℕ). length p.1 + length cs ≤ length s) (read_cells from cs fs k s)
unfolding read_cells
row-cells-le from [] fs k s i = holds {a = ([], s)} (omega arith)
row-cells-le from (c ∷ cs) fs k s i =
    holds-bind (holds_as (at k) (cells-less from c (flag fs) s i.0)) (λ x h.
    holds-bind (row-cells-le from cs (flags_left fs) (k + 1) x.1 i.1) (λ xs g. holds (omega arith)))

pub within-less : (from : Rows) (cs : List Column) (s : List ℕ) → Within cs
    → Holds (λ (p : List Cell × List ℕ). length p.1 < length s) (read_row from cs s)
unfolding read_row
within-less from cs s i =
    holds-bind (holds_as (at 0) (start-le from (length cs) s)) (λ p h.
    holds-bind (row-cells-le from cs p.0 0 p.1 i.each) (λ x g.
    holds-bind (holds_as (at (length cs)) (end-le from x.1)) (λ t e. holds (omega (arith, i.some)))))

-- columns that can be declared are within their bounds
pub columns-within : (cs : List Column) → AreColumns cs → Within cs
columns-within cs a = record { some = a.some; few = a.few; each = all-weaken IsColumn Bounded cs (λ c i. (i.some-room, i.most-room)) a.each }

pub row-less : (from : Rows) (cs : List Column) (s : List ℕ) → AreColumns cs
    → Holds (λ (p : List Cell × List ℕ). length p.1 < length s) (read_row from cs s)
row-less from cs s i = within-less from cs s (columns-within cs i)

-- ---- a stream is its first row and what the rest says

pub within_step : (from : Rows) (cs : List Column) → Within cs → (s : List ℕ) → read from cs s ≡ cond (at_end from s) finished (row_then (read_row from cs s) (read from cs))
unfolding read
within_step from cs i = sequence-step (at_end from) (read_row from cs) (λ s. within-less from cs s i)

module _ (from : Rows) (cs : List Column) (i : AreColumns cs) where
  -- the bound on rows never ends a stream
  pub fuel : (f : ℕ) (s : List ℕ) → length s < f → sequence_f f (at_end from) (read_row from cs) s ≡ read from cs s
  unfolding read
  fuel = sequence-fuel (at_end from) (read_row from cs) (λ s. row-less from cs s i)

  pub read_step : (s : List ℕ) → read from cs s ≡ cond (at_end from s) finished (row_then (read_row from cs s) (read from cs))
  read_step = within_step from cs (columns-within cs i)

-- "zero bytes are zero rows, accepted"
pub read-nothing : (from : Rows) (cs : List Column) → read from cs [] ≡ finished
unfolding read sequence sequence_f at_end is_empty skip_white
read-nothing TableData cs = refl
read-nothing Binary cs = refl
read-nothing Binary2 cs = refl

-- ---- a row is never read at the end

tag-some : (u : List ℕ) → Holds (λ (t : List ℕ). is_empty u ≡ false) (tag 10 open-TR u)
unfolding is_empty tag after open-TR
tag-some [] = refuses
tag-some (b ∷ u) = holds-weaken (holds-any (tag 10 open-TR (b ∷ u))) (λ _ _. refl)

some-empty : (s t : List ℕ) → length t < length s → is_empty s ≡ false
unfolding is_empty
some-empty [] t h = absurd (not-suc-le-zero h)
some-empty (b ∷ s) t h = refl

row-some : (from : Rows) (cs : List Column) → AreColumns cs → (s : List ℕ)
    → Holds (λ (p : List Cell × List ℕ). at_end from s ≡ false) (read_row from cs s)
unfolding read_row read_start at_end
row-some TableData cs i s =
    holds-bind (holds_as (at 0) (holds-bind (tag-some (skip_white s)) (λ t h. holds h))) (λ p h.
    holds-weaken (holds-any _) (λ _ _. h))
row-some Binary cs i s = holds-weaken (row-less Binary cs s i) (λ p h. some-empty s p.1 h)
row-some Binary2 cs i s = holds-weaken (row-less Binary2 cs s i) (λ p h. some-empty s p.1 h)

module _ (from : Rows) (cs : List Column) (i : AreColumns cs) where
  pub read-row : (s : List ℕ) (xs : List Cell) (rest : List ℕ) → read_row from cs s ≡ good (xs, rest) → read from cs s ≡ row xs (read from cs rest)
  unfolding row_then
  read-row s xs rest e = read_step from cs i s ∙ rw (holds_at (row-some from cs i s) e, e)

pub newline-read : (from : Rows) (cs : List Column) → AreColumns cs → (s : List ℕ) → read from cs (newline from ++ s) ≡ read from cs s
unfolding newline at_end skip_white is_white read_row read_start
newline-read TableData cs i s = read_step TableData cs i (10 ∷ s) ∙ sym (read_step TableData cs i s)
newline-read Binary cs i s = refl
newline-read Binary2 cs i s = refl

-- ---- what is read fits its columns

module _ (from : Rows) (P : Column → Cell → Type 0) (In : List ℕ → Type 0)
    (cell : (c : Column) (flagged : Bool) (s : List ℕ) → In s → Holds (λ (p : Cell × List ℕ). P c p.0 × In p.1) (read_cell from c flagged s))
    (start : (n : ℕ) (s : List ℕ) → In s → Holds (λ (p : List Bool × List ℕ). In p.1) (read_start from n s))
    (stop : (s : List ℕ) → In s → Holds In (read_end from s)) where
  cells_are : (cs : List Column) (fs : List Bool) (k : ℕ) (s : List ℕ) → In s → Holds (λ (p : List Cell × List ℕ). Each P cs p.0 × In p.1) (read_cells from cs fs k s)
  unfolding read_cells
  cells_are [] fs k s i = holds (tt, i)
  cells_are (c ∷ cs) fs k s i =
      holds-bind (holds_as (at k) (cell c (flag fs) s i)) (λ x h.
      holds-bind (cells_are cs (flags_left fs) (k + 1) x.1 h.1) (λ xs g. holds ((h.0, g.0), g.1)))

  row_is : (cs : List Column) (s : List ℕ) → In s → Holds (λ (p : List Cell × List ℕ). Each P cs p.0 × In p.1) (read_row from cs s)
  unfolding read_row
  row_is cs s i =
      holds-bind (holds_as (at 0) (start (length cs) s i)) (λ p h.
      holds-bind (cells_are cs p.0 0 p.1 h) (λ x g.
      holds-bind (holds_as (at (length cs)) (stop x.1 g.1)) (λ t e. holds (g.0, e))))

  table_is : (cs : List Column) (s : List ℕ) → In s → AllRows (Each P cs) (read from cs s)
  unfolding read
  table_is cs s i = sequence-all (at_end from) (read_row from cs) (Each P cs) In (row_is cs) s i

pub read_fits : (from : Rows) (cs : List Column) (s : List ℕ) → AreBytes s → AllRows (FitsAll cs) (read from cs s)
unfolding read read_cell read_start read_end read_binary
read_fits TableData cs s a =
    table_is TableData Fits (λ s. Unit {0}) (λ c f s i. holds-weaken (text-fits c s) (λ p h. (h.fits, tt))) (λ n s i. holds-any _) (λ s i. holds-any _) cs s tt
read_fits Binary cs s a =
    table_is Binary Fits AreBytes (λ c f s i. holds-bind (binary2-fits c false s i) (λ p h. holds (empty-fits c p.0 h.0, h.1))) (λ n s i. holds i) (λ s i. holds i) cs s a
read_fits Binary2 cs s a =
    table_is Binary2 Fits AreBytes (λ c f s i. binary2-fits c f s i)
    (λ n s i. holds-bind (flags-are n s i) (λ p h. holds h)) (λ s i. holds i) cs s a

-- a cell that a text shows has a text again
pub text-rows : (cs : List Column) (s : List ℕ) → AllRows (Each TextFits cs) (read TableData cs s)
unfolding read read_cell read_start read_end
text-rows cs s =
    table_is TableData TextFits (λ s. Unit {0}) (λ c f s i. holds-weaken (text-fits c s) (λ p h. (h, tt))) (λ n s i. holds-any _) (λ s i. holds-any _) cs s tt

-- ---- the numbers and columns of its refusals

-- a refusal whose number lies between two, at a column that is at most n
abbrev pub Placed : ℕ → ℕ → ℕ → Refusal → Type 0
Placed lo hi n e = Numbered lo hi e.number × (e.column ≤ n)

-- the numbers of reading BINARY and BINARY2
low-fails : {A : Type 0} {r : Result ℕ A} → Fails (Numbered 8 13) r → Fails (Numbered 8 most_number) r
low-fails h = fails-weaken h (λ n k. (k.0, omega (arith, k.1)))

read-cell-fails : (from : Rows) (c : Column) (flagged : Bool) (s : List ℕ) → Fails (Numbered 8 most_number) (read_cell from c flagged s)
unfolding read_cell
read-cell-fails TableData c flagged s = text-fails c s
read-cell-fails Binary c flagged s = low-fails (binary-fails c s)
read-cell-fails Binary2 c flagged s = low-fails (binary2-fails c flagged s)

read-cells-fails : (from : Rows) (cs : List Column) (fs : List Bool) (k : ℕ) (s : List ℕ) → Fails (Placed 8 most_number (k + length cs)) (read_cells from cs fs k s)
unfolding read_cells at
read-cells-fails from [] fs k s = gives
read-cells-fails from (c ∷ cs) fs k s =
    fails-bind (fails-as (at k) (read-cell-fails from c (flag fs) s) (λ n h. (h, omega arith))) (λ x.
    fails-bind (fails-weaken (read-cells-fails from cs (flags_left fs) (k + 1) x.1) (λ e h. (h.0, omega (arith, h.1)))) (λ xs. gives))

read-start-fails : (from : Rows) (n : ℕ) (s : List ℕ) → Fails (Numbered 8 most_number) (read_start from n s)
unfolding read_start
read-start-fails TableData n s = fails-bind (tag-fails 10 open-TR (skip_white s) (lit≤ tt, lit≤ tt)) (λ t. gives)
read-start-fails Binary n s = gives
read-start-fails Binary2 n s = fails-bind (low-fails (flags-fails n s)) (λ p. gives)

read-end-fails : (from : Rows) (s : List ℕ) → Fails (Numbered 8 most_number) (read_end from s)
unfolding read_end
read-end-fails TableData s = tag-fails 10 close-TR (skip_white s) (lit≤ tt, lit≤ tt)
read-end-fails Binary s = gives
read-end-fails Binary2 s = gives

-- reading refuses with 8 or more, at a column that is at most the column count
pub read-row-fails : (from : Rows) (cs : List Column) (s : List ℕ) → Fails (Placed 8 most_number (length cs)) (read_row from cs s)
unfolding read_row at
read-row-fails from cs s =
    fails-bind (fails-as (at 0) (read-start-fails from (length cs) s) (λ n h. (h, zero-le))) (λ p.
    fails-bind (fails-weaken (read-cells-fails from cs p.0 0 p.1) (λ e h. (h.0, omega (arith, h.1)))) (λ x.
    fails-bind (fails-as (at (length cs)) (read-end-fails from x.1) (λ n h. (h, le_refl (length cs)))) (λ t. gives)))

pub write-cell-fails : (to : Rows) (c : Column) (x : Cell) → Fails (Numbered 14 16) (write_cell to c x)
unfolding write_cell
write-cell-fails TableData c x = write-text-fails c x
write-cell-fails Binary c x = write-binary-fails c x
write-cell-fails Binary2 c x = gives

write-cells-fails : (to : Rows) (cs : List Column) (xs : List Cell) (k : ℕ) → Fails (Placed 14 16 (k + length cs)) (write_cells to cs xs k)
unfolding write_cells at
write-cells-fails to [] xs k = gives
write-cells-fails to (c ∷ cs) [] k = gives
write-cells-fails to (c ∷ cs) (x ∷ xs) k =
    fails-bind (fails-as (at k) (write-cell-fails to c x) (λ n h. (h, omega arith))) (λ b.
    fails-bind (fails-weaken (write-cells-fails to cs xs (k + 1)) (λ e h. (h.0, omega (arith, h.1)))) (λ r. gives))

-- writing refuses with 14 to 16, at a column that is at most the column count
pub write-row-fails : (to : Rows) (cs : List Column) (xs : List Cell) → Fails (Placed 14 16 (length cs)) (write_row to cs xs)
unfolding write_row
write-row-fails to cs xs = fails-bind (fails-weaken (write-cells-fails to cs xs 0) (λ e h. (h.0, omega (arith, h.1)))) (λ b. gives)

-- a stream stops with a refusal of reading
pub read-stops : (from : Rows) (cs : List Column) (s : List ℕ) → Stops (Placed 8 most_number (length cs)) (read from cs s)
unfolding read at
read-stops from cs s = sequence-stops (at_end from) (read_row from cs) (Placed 8 most_number (length cs)) ((lit≤ tt, lit≤ tt), zero-le) (read-row-fails from cs) s
