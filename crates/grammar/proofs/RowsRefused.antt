-- Rows and streams are refused exactly: a stream is read up to a refusal just where the grammar has these rows and behind them what is no row, with that
-- number and that column. Cells are refused exactly (CellsRefused); what is refused of a row is followed along its reader.
use Prim.Native.Nat.{◌+◌, ◌/◌, ◌<◌, suc, zero, ℕ}
use native.Mathlib.Omega.{arith}
use mathlib.Core.Bool.{Bool, false, false≢true}
use mathlib.Core.List.{List, [], ◌++◌, ◌∷◌, map}
use mathlib.Core.Logic.{◌↔◌}
use mathlib.Core.Path.{◌∙◌, ◌≡◌, ap, refl, subst⁻¹, sym}
use lib.Dec.{lit<}
use lib.ListN.{length, length-replicate, replicate}
use Rattle.binary.proofs.Laws.{first_back}
use Rattle.binary.specs.Binary.{bit_bytes, read_flags}
use Rattle.grammar.proofs.BinariesRead.{bits-in-all, bits-in-bytes, bits-in-long, bits-in-read, later-bytes, parts-bytes}
use Rattle.grammar.proofs.BinariesRefused.{no-flags-is, no-flags-read}
use Rattle.grammar.proofs.CellsRefused.{cell-at-is, cell-at-read, no-cell-is, no-cell-read}
use Rattle.grammar.proofs.Fronts.{fails-then, fails-told, not_so, refused, skip_all, white-only}
use Rattle.grammar.proofs.Resumption.{and_then}
use Rattle.grammar.proofs.Streams.{binary-row-is, binary-row-read, binary2-row-is, binary2-row-read, binary2-start-is, empty-is, first-row, first-stop}
use Rattle.grammar.proofs.Streams.{indented-tag, indented-tag-is, text-row-is, text-row-read}
use Rattle.grammar.specs.CellRefusals.{CellAt, binary-at, binary2-at, text_at}
use Rattle.grammar.specs.Exact.{table_of}
use Rattle.grammar.specs.RowRefusals.{CellsAt, Flag, MoreAt, NoCells, NoEnd, NoRow, NoStart, RowAt, RowsAt, StartAt, StopsAt, TagAt, at-cell, binary-more, binary-row-at}
use Rattle.grammar.specs.RowRefusals.{binary-start, binary2-more, binary2-row-at, binary2-start, cell-then, cells-next, cells-none, flag-set, flag-unset, no-binary2-start, no_cells, no_end}
use Rattle.grammar.specs.RowRefusals.{no_start, no-text-end, no-text-start, rows_next, rows_none, text-more, text-row-at, text-start}
use Rattle.rows.proofs.Laws.{cell_then, push, read-row, read_step}
use Rattle.rows.specs.Sequence.{row, row_then, stopped}
use Rattle.rows.specs.Stream.{Table, at_end, flag, flags_left, is_empty, is_set, read, read_cell, read_cells, read_end, read_row, read_start}
use Rattle.table.proofs.Laws.{all_replicate, bad-good, fails-as, fails-at, fails-bind, fails-weaken, holds_as, holds_at, holds-bind, holds-weaken, tag-fails}
use Rattle.table.specs.All.{All, AreBytes}
use Rattle.table.specs.Bytes.{bytes, skip_white, tag}
use Rattle.table.specs.Cell.{AreColumns, Cell}
use Rattle.table.specs.Outcome.{Refusal, at}
use Rattle.table.specs.Result.{Fails, Holds, Result, bad, gives, good, holds}
use Rattle.table.specs.declared.Column.{Column}
use Rattle.table.specs.declared.Rows.{Rows}
use Rattle.table.specs.declared.Rows.TheVariants.{Binary, Binary2, TableData}
use Rattle.tabledata.specs.TableData.{close-TR, open-TR}

-- ---- tags

tag-at-read : (word : List ℕ) {s rest : List ℕ} → TagAt (60 ∷ word) s rest → tag 10 (60 ∷ word) (skip_white s) ≡ good rest
tag-at-read word {rest = rest} h = ap (λ (x : List ℕ). tag 10 (60 ∷ word) (skip_white x)) h.whole ∙ indented-tag 10 word h.is_white h.tag rest

no-tag-read : (word s : List ℕ) → ((rest : List ℕ) → TagAt word s rest → ⊥) → tag 10 word (skip_white s) ≡ bad 10
no-tag-read word s none = refused (tag-fails 10 word (skip_white s) refl) (holds-weaken (indented-tag-is 10 word s) none)

no-tag-is : {Q : ℕ → Type 0} (word s : List ℕ) → (((rest : List ℕ) → TagAt (60 ∷ word) s rest → ⊥) → Q 10) → Fails Q (tag 10 (60 ∷ word) (skip_white s))
no-tag-is word s f = fails-told (tag-fails 10 (60 ∷ word) (skip_white s) (λ q. f (λ rest h. bad-good (sym q ∙ tag-at-read word h))))

tag-left : {word s rest : List ℕ} → TagAt word s rest → AreBytes s → AreBytes rest
tag-left {s = s} {rest = rest} h a = (later-bytes s h.white h.taken rest h.whole a).1

-- ---- what begins a row

-- the flags as the reader hands them on
record SameFlags (from : Rows) (cs : List Column) (flags : List ℕ) (fs : List Bool) : Type 0 where
  as_read : (k : ℕ) (s : List ℕ) → read_cells from cs fs k s ≡ read_cells from cs (map is_set flags) k s

no-flags-same : (from : Rows) (cs : List Column) (k : ℕ) (s : List ℕ) → read_cells from cs [] k s ≡ read_cells from cs (map is_set (replicate (length cs) 0)) k s
unfolding read_cells flag flags_left is_set
no-flags-same from [] k s = refl
no-flags-same from (c ∷ cs) k s = go (read_cell from c false s) (no-flags-same from cs (k + 1))
  where
    go : (r : Result ℕ (Cell × List ℕ)) → ((s : List ℕ) → read_cells from cs [] (k + 1) s ≡ read_cells from cs (map is_set (replicate (length cs) 0)) (k + 1) s)
        → cell_then k r (read_cells from cs [] (k + 1)) ≡ cell_then k r (read_cells from cs (map is_set (replicate (length cs) 0)) (k + 1))
    go (good p) same = ap (push p.0) (same p.1)
    go (bad n) same = refl

record Started (from : Rows) (cs : List Column) (s flags rest : List ℕ) : Type 0 where
  given : List Bool
  reads : read_start from (length cs) s ≡ good (given, rest)
  same : SameFlags from cs flags given

start-at-read : {from : Rows} {cs : List Column} {s flags rest : List ℕ} → StartAt (length cs) from s flags rest → Started from cs s flags rest
unfolding read_start open-TR read_flags bit_bytes
start-at-read {cs = cs} (text-start h) =
    record { given = []; reads = rw (tag-at-read (84 ∷ 82 ∷ []) h); same = record { as_read = no-flags-same TableData cs } }
start-at-read {cs = cs} binary-start = record { given = []; reads = refl; same = record { as_read = no-flags-same Binary cs } }
start-at-read {cs = cs} (binary2-start {a = a} {flags = flags} {rest = rest} h) =
    record {
      given = map is_set flags;
      reads = rw (first_back ((length cs + 7) / 8) a rest (bits-in-bytes h), bits-in-read h);
      same = record { as_read = λ k s. refl };
    }

-- a flag for each column, 0 or 1
record AreFlags (n : ℕ) (flags : List ℕ) : Type 0 where
  long : length flags ≡ n
  each : All (λ (b : ℕ). b < 2) flags

unflagged : (n : ℕ) → AreFlags n (replicate n 0)
unflagged n = record { long = length-replicate n 0; each = all_replicate (λ (b : ℕ). b < 2) n 0 (lit< tt) }

record Starts (from : Rows) (cs : List Column) (s : List ℕ) (p : List Bool × List ℕ) : Type 0 where
  flags : List ℕ
  starts : StartAt (length cs) from s flags p.1
  same : SameFlags from cs flags p.0
  are : AreFlags (length cs) flags
  left : AreBytes p.1

start-at-is : (from : Rows) (cs : List Column) (s : List ℕ) → AreBytes s → Holds (Starts from cs s) (read_start from (length cs) s)
unfolding read_start open-TR
start-at-is TableData cs s a = holds-bind (indented-tag-is 10 (bytes "<TR") s) (λ t h. holds (record {
  flags = replicate (length cs) 0;
  starts = text-start h;
  same = record { as_read = no-flags-same TableData cs };
  are = unflagged (length cs);
  left = tag-left h a;
}))
start-at-is Binary cs s a =
    holds (record { flags = replicate (length cs) 0; starts = binary-start; same = record { as_read = no-flags-same Binary cs }; are = unflagged (length cs); left = a })
start-at-is Binary2 cs s a = holds-weaken (binary2-start-is (length cs) s a) (λ p h. record {
  flags = h.1;
  starts = subst⁻¹ (λ (x : List ℕ). StartAt (length cs) Binary2 x h.1 p.1) h.4 (binary2-start h.2);
  same = record { as_read = λ k t. ap (λ (fs : List Bool). read_cells Binary2 cs fs k t) h.3 };
  are = record { long = bits-in-long h.2; each = bits-in-all h.2 };
  left = (parts-bytes s h.0 p.1 h.4 a).1;
})

start_left : {n : ℕ} {from : Rows} {s flags t : List ℕ} → StartAt n from s flags t → AreBytes s → AreBytes t
start_left (text-start h) a = tag-left h a
start_left binary-start a = a
start_left (binary2-start {a = b} {rest = rest} h) a = (parts-bytes (b ++ rest) b rest refl a).1

no-start-read : (from : Rows) (n : ℕ) (s : List ℕ) (m : ℕ) → NoStart n s from m → read_start from n s ≡ bad m
unfolding read_start open-TR
no-start-read from n s m (no-text-start none) = rw (no-tag-read (bytes "<TR") s none)
no-start-read from n s m (no-binary2-start h) = rw (no-flags-read n s m h)

no-start-is : (from : Rows) (n : ℕ) (s : List ℕ) → AreBytes s → Fails (NoStart n s from) (read_start from n s)
unfolding read_start open-TR
no-start-is TableData n s a = fails-bind (no-tag-is (84 ∷ 82 ∷ []) s no-text-start) (λ t. gives)
no-start-is Binary n s a = gives
no-start-is Binary2 n s a = fails-bind (fails-weaken (no-flags-is n s a) (λ e h. no-binary2-start h)) (λ p. gives)

-- ---- cells

cell-at-left : {c : Column} {f : Bool} {from : Rows} {s : List ℕ} {x : Cell} {t : List ℕ} → CellAt c f from s x t → AreBytes s → AreBytes t
cell-at-left (text_at {w = w} {t = t} {rest = rest} h k) a = (later-bytes (w ++ (t ++ rest)) w t rest refl a).1
cell-at-left (binary-at {b = b} {rest = rest} h) a = (parts-bytes (b ++ rest) b rest refl a).1
cell-at-left (binary2-at {b = b} {rest = rest} h) a = (parts-bytes (b ++ rest) b rest refl a).1

flag_is : {b : ℕ} {f : Bool} → Flag b f → is_set b ≡ f
unfolding is_set
flag_is flag-set = refl
flag_is flag-unset = refl

flag-of : (b : ℕ) → b < 2 → Flag b (is_set b)
unfolding is_set
flag-of zero h = flag-unset
flag-of (suc zero) h = flag-set
flag-of (suc (suc n)) h = absurd (omega (arith, h))

cells-at-read : {from : Rows} {cs : List Column} {flags s rest : List ℕ} → CellsAt from cs flags s rest → (k : ℕ)
    → (xs : List Cell) × (read_cells from cs (map is_set flags) k s ≡ good (xs, rest))
unfolding read_cells flag flags_left
cells-at-read cells-none k = ([], refl)
cells-at-read (cells-next {x = x} b h r) k = let q = cells-at-read r (k + 1) in (x ∷ q.0, rw (flag_is b, cell-at-read h, q.1))

cells-at-left : {from : Rows} {cs : List Column} {flags s rest : List ℕ} → CellsAt from cs flags s rest → AreBytes s → AreBytes rest
cells-at-left cells-none a = a
cells-at-left (cells-next b h r) a = cells-at-left r (cell-at-left h a)

cells-at-is : (from : Rows) (cs : List Column) (flags : List ℕ) → AreFlags (length cs) flags → (k : ℕ) (s : List ℕ) → AreBytes s
    → Holds (λ (p : List Cell × List ℕ). CellsAt from cs flags s p.1) (read_cells from cs (map is_set flags) k s)
unfolding read_cells flag flags_left
cells-at-is from [] [] f k s a = holds cells-none
cells-at-is from [] (b ∷ flags) f k s a = absurd (omega (arith, f.long))
cells-at-is from (c ∷ cs) [] f k s a = absurd (omega (arith, f.long))
cells-at-is from (c ∷ cs) (b ∷ flags) f k s a =
    holds-bind (holds_as (at k) (cell-at-is from c (is_set b) s a)) (λ p h.
    holds-bind (cells-at-is from cs flags (record { long = omega (arith, f.long); each = f.each.1 }) (k + 1) p.1 (cell-at-left h a)) (λ q g.
    holds (cells-next (flag-of b f.each.0) h g)))

no-cells-read : {from : Rows} {cs : List Column} {flags s : List ℕ} {k n j : ℕ} → NoCells from cs flags k s n j → AreBytes s
    → read_cells from cs (map is_set flags) k s ≡ bad (at j n)
unfolding read_cells flag flags_left
no-cells-read {from} {s = s} (at-cell {c = c} {n = n} {f = f} b h) a = rw (flag_is b, no-cell-read from c f s n a h)
no-cells-read (cell-then b h r) a = rw (flag_is b, cell-at-read h, no-cells-read r (cell-at-left h a))

abbrev NoCellsBy : Rows → List Column → List ℕ → ℕ → List ℕ → Refusal → Type 0
NoCellsBy from cs flags k s e = NoCells from cs flags k s e.number e.column

no-cells-is : (from : Rows) (cs : List Column) (flags : List ℕ) → AreFlags (length cs) flags → (k : ℕ) (s : List ℕ) → AreBytes s
    → Fails (NoCellsBy from cs flags k s) (read_cells from cs (map is_set flags) k s)
unfolding read_cells flag flags_left at
no-cells-is from [] flags f k s a = gives
no-cells-is from (c ∷ cs) [] f k s a = absurd (omega (arith, f.long))
no-cells-is from (c ∷ cs) (b ∷ flags) f k s a =
    fails-then (fails-as (at k) (no-cell-is from c (is_set b) s a) (λ n h. at-cell (flag-of b f.each.0) h)) (holds_as (at k) (cell-at-is from c (is_set b) s a)) (λ p h.
    fails-bind
    (fails-weaken (no-cells-is from cs flags (record { long = omega (arith, f.long); each = f.each.1 }) (k + 1) p.1 (cell-at-left h a))
    (λ e g. cell-then (flag-of b f.each.0) h g))
    (λ q. gives))

-- ---- rows

pub row-at-read : {cs : List Column} {from : Rows} {s : List ℕ} {xs : List Cell} {rest : List ℕ} → RowAt cs from s xs rest → read_row from cs s ≡ good (xs, rest)
row-at-read (text-row-at {rest = rest} h r) = text-row-read h r rest
row-at-read {cs} (binary-row-at {b = b} {rest = rest} {xs = xs} h) = binary-row-read cs b xs h rest
row-at-read {cs} (binary2-row-at {b = b} {rest = rest} {xs = xs} h) = binary2-row-read cs b xs h rest

-- an end that is not there is refused 10
no-end-read : (from : Rows) (s : List ℕ) → NoEnd s from → read_end from s ≡ bad 10
unfolding read_end close-TR
no-end-read from s (no-text-end none) = no-tag-read (bytes "</TR") s none

no-end-is : {Q : ℕ → Type 0} (from : Rows) (s : List ℕ) → (NoEnd s from → Q 10) → Fails Q (read_end from s)
unfolding read_end close-TR
no-end-is TableData s f = no-tag-is (47 ∷ 84 ∷ 82 ∷ []) s (λ absent. f (no-text-end absent))
no-end-is Binary s f = gives
no-end-is Binary2 s f = gives

pub no-row-read : {from : Rows} {cs : List Column} {s : List ℕ} {n k : ℕ} → NoRow from cs s n k → AreBytes s → read_row from cs s ≡ bad (at k n)
unfolding read_row
no-row-read {from} {cs} {s} (no_start {n = n} h) a = rw (no-start-read from (length cs) s n h)
no-row-read {from} {cs} (no_cells {t = t} h g) a =
    let b = start-at-read {cs = cs} h in rw (b.reads, b.same.as_read 0 t, no-cells-read g (start_left h a))
no-row-read {from} {cs} (no_end {t = t} {u = u} h g e) a =
    let b = start-at-read {cs = cs} h in let c = cells-at-read g 0 in rw (b.reads, b.same.as_read 0 t, c.1, no-end-read from u e)

abbrev NoRowBy : Rows → List Column → List ℕ → Refusal → Type 0
NoRowBy from cs s e = NoRow from cs s e.number e.column

pub no-row-is : (from : Rows) (cs : List Column) (s : List ℕ) → AreBytes s → Fails (NoRowBy from cs s) (read_row from cs s)
unfolding read_row at
no-row-is from cs s a =
    fails-then (fails-as (at 0) (no-start-is from (length cs) s a) (λ n h. no_start h)) (holds_as (at 0) (start-at-is from cs s a)) (λ p h.
    fails-then
    (fails-weaken
    (subst⁻¹ (Fails (NoCellsBy from cs h.flags 0 p.1)) (h.same.as_read 0 p.1) (no-cells-is from cs h.flags h.are 0 p.1 h.left))
    (λ e g. no_cells h.starts g))
    (subst⁻¹ (Holds (λ (q : List Cell × List ℕ). CellsAt from cs h.flags p.1 q.1)) (h.same.as_read 0 p.1) (cells-at-is from cs h.flags h.are 0 p.1 h.left))
    (λ q g. fails-bind (fails-as (at (length cs)) (no-end-is from q.1 (no_end h.starts g)) (λ n e. e)) (λ rest. gives)))

pub row-at-is : (from : Rows) (cs : List Column) (s : List ℕ) → AreBytes s → Holds (λ (p : List Cell × List ℕ). RowAt cs from s p.0 p.1) (read_row from cs s)
row-at-is TableData cs s a = holds-weaken (text-row-is cs s) (λ p h. subst⁻¹ (λ (x : List ℕ). RowAt cs TableData x p.0 p.1) h.whole (text-row-at h.is_white h.spelled))
row-at-is Binary cs s a = holds-weaken (binary-row-is cs s a) (λ p h. subst⁻¹ (λ (x : List ℕ). RowAt cs Binary x p.0 p.1) h.whole (binary-row-at h.spelled))
row-at-is Binary2 cs s a = holds-weaken (binary2-row-is cs s a) (λ p h. subst⁻¹ (λ (x : List ℕ). RowAt cs Binary2 x p.0 p.1) h.whole (binary2-row-at h.spelled))

pub row-at-left : {cs : List Column} {from : Rows} {s : List ℕ} {xs : List Cell} {rest : List ℕ} → RowAt cs from s xs rest → AreBytes s → AreBytes rest
row-at-left (text-row-at {w = w} {r = r} {rest = rest} h k) a = (later-bytes (w ++ (r ++ rest)) w r rest refl a).1
row-at-left (binary-row-at {b = b} {rest = rest} h) a = (parts-bytes (b ++ rest) b rest refl a).1
row-at-left (binary2-row-at {b = b} {rest = rest} h) a = (parts-bytes (b ++ rest) b rest refl a).1

-- ---- where a row should stand

not-empty : (s : List ℕ) → (s ≡ [] → ⊥) → is_empty s ≡ false
not-empty s h = not_so (is_empty s) (λ e. h (empty-is s e))

is-more : (s : List ℕ) → is_empty s ≡ false → s ≡ [] → ⊥
is-more s h e = false≢true (sym h ∙ ap is_empty e ∙ (unfold is_empty in refl))

pub more-at-read : {from : Rows} {s : List ℕ} → MoreAt s from → at_end from s ≡ false
unfolding at_end
more-at-read {s = s} (text-more h) = not-empty (skip_white s) (λ e. h (white-only s e))
more-at-read {s = s} (binary-more h) = not-empty s h
more-at-read {s = s} (binary2-more h) = not-empty s h

pub more-at-is : (from : Rows) (s : List ℕ) → at_end from s ≡ false → MoreAt s from
unfolding at_end
more-at-is TableData s h = text-more (λ w. is-more (skip_white s) h (skip_all w))
more-at-is Binary s h = binary-more (is-more s h)
more-at-is Binary2 s h = binary2-more (is-more s h)

-- ---- streams

module _ (from : Rows) (cs : List Column) (i : AreColumns cs) where
  pub rows-at-read : {s rest : List ℕ} {rows : List (List Cell)} → RowsAt from cs s rows rest → read from cs s ≡ and_then (table_of rows) (read from cs rest)
  unfolding and_then table_of
  rows-at-read rows_none = refl
  rows-at-read (rows_next {s = s} {t = t} {xs = xs} h r) = read-row from cs i s xs t (row-at-read h) ∙ ap (row xs) (rows-at-read r)

  pub rows-at-left : {s rest : List ℕ} {rows : List (List Cell)} → RowsAt from cs s rows rest → AreBytes s → AreBytes rest
  rows-at-left rows_none a = a
  rows-at-left (rows_next h r) a = rows-at-left r (row-at-left h a)

  pub rows-at-is : (rows : List (List Cell)) (s : List ℕ) (t : Table) → AreBytes s → read from cs s ≡ and_then (table_of rows) t
      → (rest : List ℕ) × RowsAt from cs s rows rest × (read from cs rest ≡ t) × AreBytes rest
  unfolding and_then table_of
  rows-at-is [] s t a e = (s, rows_none, e, a)
  rows-at-is (xs ∷ rows) s t a e =
      let f = first-row from cs i s xs (and_then (table_of rows) t) e in
      let h : RowAt cs from s xs f.0 = holds_at (row-at-is from cs s a) f.1 in
      let r = rows-at-is rows f.0 t (row-at-left h a) f.2 in
      (r.0, rows_next h r.1, r.2, r.3)

  stops-read : {s : List ℕ} {rows : List (List Cell)} {n k : ℕ} → AreBytes s → StopsAt from cs s rows n k → read from cs s ≡ and_then (table_of rows) (stopped (at k n))
  stops-read {s} {rows} {n} {k} a h = rows-at-read h.before ∙ ap (and_then (table_of rows)) (here h.rest h.more (no-row-read h.none (rows-at-left h.before a)))
    where
      here : (s : List ℕ) → MoreAt s from → read_row from cs s ≡ bad (at k n) → read from cs s ≡ stopped (at k n)
      here s m q = read_step from cs i s ∙ (unfold row_then in rw (more-at-read m, q))

  stops-is : (rows : List (List Cell)) (s : List ℕ) (e : Refusal) → AreBytes s → read from cs s ≡ and_then (table_of rows) (stopped e) → StopsAt from cs s rows e.number e.column
  stops-is rows s e a q =
      let r = rows-at-is rows s (stopped e) a q in
      let b = first-stop from cs i r.0 e r.2 in
      record { rest = r.0; before = r.1; more = more-at-is from r.0 b.0; none = fails-at (no-row-is from cs r.0 r.3) b.1 }

  -- A STREAM STOPS EXACTLY where the grammar says: behind these rows, with that number and that column
  pub stops-exactly : (rows : List (List Cell)) (s : List ℕ) (n k : ℕ) → AreBytes s → StopsAt from cs s rows n k ↔ (read from cs s ≡ and_then (table_of rows) (stopped (at k n)))
  unfolding at
  stops-exactly rows s n k a = (stops-read a, stops-is rows s (at k n) a)
