-- The cut file: of a valid input that was cut anywhere, all the rows that are whole stand, and the call is refused at the row of the cut, with 8 in
-- BINARY and BINARY2 and 10 in TABLEDATA, or the cut was between rows and it is accepted. For a refusal with any other number stays where more follows:
-- what it is about is there already.
use Prim.Native.Nat.{◌≤◌, zero-le, ℕ}
use native.Mathlib.Omega.{arith}
use mathlib.Core.Bool.{Bool, false, false≢true, true}
use mathlib.Core.List.{List, [], ◌++◌, ◌∷◌, append_assoc}
use mathlib.Core.Logic.{◌⊎◌, inl, inr}
use mathlib.Core.Path.{◌∙◌, ◌≡◌, ap, refl, subst, subst⁻¹, sym}
use lib.Dec.{eqb}
use lib.ListN.{length, length-append}
use borrow.Author.Tests.{eqb-false, eqb-true}
use Rattle.demands.proofs.Demand1.{rows_of}
use Rattle.demands.proofs.Demand2.{declared-columns, demand2}
use Rattle.demands.proofs.Writing.{FirstLine, first-line, lines-good}
use Rattle.demands.specs.Tables.{Ends, lines, up_to}
use Rattle.fields.specs.Fields.{declare}
use Rattle.grammar.proofs.BinariesRead.{parts-bytes}
use Rattle.grammar.proofs.ColumnsRead.{declares-read}
use Rattle.grammar.proofs.Exactly.{back-spells, rows_written, spells-read, table-ends}
use Rattle.grammar.proofs.Refused.{rows-go-on, up-to-rows}
use Rattle.grammar.proofs.Resumption.{and_then}
use Rattle.grammar.proofs.RowsRefused.{more-at-is, more-at-read, no-row-is, row-at-read, rows-at-is, rows-at-left, rows-at-read, stops-exactly}
use Rattle.grammar.proofs.Streams.{IsFinished, ends_there, first-stop}
use Rattle.grammar.specs.CellRefusals.{CellAt, MarkedAt, NoBinary2Cell, NoCell, binary-at, binary2-at, cut-content, cut-count, cut-flags, no-byte-value, no-element}
use Rattle.grammar.specs.CellRefusals.{no-text-value, not-as-many, out_of_range, over-bound, padding-not-0, spare-flag, text_at}
use Rattle.grammar.specs.Exact.{CutFate, CutFile, InGrammar, cut-between, cut_inside, cut_number, table_of}
use Rattle.grammar.specs.RowRefusals.{MoreAt, NoCells, NoRow, NoStart, RowAt, RowsAt, StartAt, TagAt, at-cell, binary-row-at, binary-start}
use Rattle.grammar.specs.RowRefusals.{binary2-row-at, binary2-start, cell-then, no-binary2-start, no_cells, no_end, no_start, no-text-end}
use Rattle.grammar.specs.RowRefusals.{binary-more, binary2-more, no-text-start, rows_next, rows_none, text-more, text-row-at, text-start}
use Rattle.grammar.specs.Words.{White, white-end, white-then}
use Rattle.rows.proofs.Calls.{converts}
use Rattle.rows.proofs.Laws.{read-row}
use Rattle.rows.specs.Convert.{convert}
use Rattle.rows.specs.Sequence.{finished, row, stopped}
use Rattle.rows.specs.Stream.{Table, read, run, write, write_row}
use Rattle.table.proofs.Laws.{fails-at, the}
use Rattle.table.specs.All.{AreBytes}
use Rattle.table.specs.Cell.{AreColumns, Cell}
use Rattle.table.specs.Outcome.{Call, Outcome, Refusal, answer_of, at, ending, most_input, rows_done}
use Rattle.table.specs.Result.{Result, ◌>>=◌, good}
use Rattle.table.specs.declared.Column.{Column}
use Rattle.table.specs.declared.Rows.{Rows}
use Rattle.table.specs.declared.Rows.TheVariants.{Binary, Binary2, TableData}

-- ---- what stands there stands there too where more follows

longer : (s a rest q : List ℕ) → s ≡ a ++ rest → s ++ q ≡ a ++ (rest ++ q)
longer s a rest q e = ap (λ (x : List ℕ). x ++ q) e ∙ append_assoc a rest q

longer-twice : (s w a rest q : List ℕ) → s ≡ w ++ (a ++ rest) → s ++ q ≡ w ++ (a ++ (rest ++ q))
longer-twice s w a rest q e = longer s w (a ++ rest) q e ∙ ap (λ (x : List ℕ). w ++ x) (append_assoc a rest q)

marked-longer : {s cs rest : List ℕ} (q : List ℕ) → MarkedAt s cs rest → MarkedAt (s ++ q) cs (rest ++ q)
marked-longer {s} {cs} {rest} q m =
    record { white = m.white; taken = m.taken; is_white = m.is_white; whole = longer-twice s m.white m.taken rest q m.whole; marked = m.marked }

tag-longer : {word s rest : List ℕ} (q : List ℕ) → TagAt word s rest → TagAt word (s ++ q) (rest ++ q)
tag-longer {word} {s} {rest} q m =
    record { white = m.white; taken = m.taken; is_white = m.is_white; whole = longer-twice s m.white m.taken rest q m.whole; tag = m.tag }

cell-longer : {c : Column} {f : Bool} {from : Rows} {s : List ℕ} {x : Cell} {t : List ℕ} (q : List ℕ) → CellAt c f from s x t → CellAt c f from (s ++ q) x (t ++ q)
cell-longer q (text_at {w = w} {t = t} {rest = rest} h k) = rw (longer-twice (w ++ (t ++ rest)) w t rest q refl) (text_at h k)
cell-longer q (binary-at {b = b} {rest = rest} h) = rw (append_assoc b rest q) (binary-at h)
cell-longer q (binary2-at {b = b} {rest = rest} h) = rw (append_assoc b rest q) (binary2-at h)

start-longer : {n : ℕ} {from : Rows} {s flags t : List ℕ} (q : List ℕ) → StartAt n from s flags t → StartAt n from (s ++ q) flags (t ++ q)
start-longer q (text-start h) = text-start (tag-longer q h)
start-longer q binary-start = binary-start
start-longer q (binary2-start {a = a} {rest = rest} h) = rw (append_assoc a rest q) (binary2-start h)

row-longer : {cs : List Column} {from : Rows} {s : List ℕ} {xs : List Cell} {t : List ℕ} (q : List ℕ) → RowAt cs from s xs t → RowAt cs from (s ++ q) xs (t ++ q)
row-longer q (text-row-at {w = w} {r = r} {rest = rest} h k) = rw (longer-twice (w ++ (r ++ rest)) w r rest q refl) (text-row-at h k)
row-longer q (binary-row-at {b = b} {rest = rest} h) = rw (append_assoc b rest q) (binary-row-at h)
row-longer q (binary2-row-at {b = b} {rest = rest} h) = rw (append_assoc b rest q) (binary2-row-at h)

rows-longer : {from : Rows} {cs : List Column} {s rest : List ℕ} {rows : List (List Cell)} (q : List ℕ) → RowsAt from cs s rows rest → RowsAt from cs (s ++ q) rows (rest ++ q)
rows-longer q rows_none = rows_none
rows-longer q (rows_next h r) = rows_next (row-longer q h) (rows-longer q r)

-- ---- a refusal is the cut's, or stays where more follows

no-binary2-cut : {c : Column} {f : Bool} {s : List ℕ} {n : ℕ} → NoBinary2Cell c f s n → (n ≡ 8) ⊎ ((q : List ℕ) → NoBinary2Cell c f (s ++ q) n)
no-binary2-cut (cut-count h l) = inl refl
no-binary2-cut {s = s} (over-bound {b = b} rest h e k l) = inr (λ q. over-bound (rest ++ q) h (longer s b rest q e) k l)
no-binary2-cut (cut-content b e h t l) = inl refl
no-binary2-cut {s = s} (padding-not-0 {a = a} {b = b} rest f e h k p) = inr (λ q. padding-not-0 (rest ++ q) f (longer-twice s a b rest q e) h k p)
no-binary2-cut {s = s} (no-byte-value {a = a} b rest f e h t l k none) = inr (λ q. no-byte-value b (rest ++ q) f (longer-twice s a b rest q e) h t l k none)

no-cell-cut : (from : Rows) (c : Column) (f : Bool) (s : List ℕ) (n : ℕ) → NoCell from c f s n → (n ≡ cut_number from) ⊎ ((q : List ℕ) → NoCell from c f (s ++ q) n)
no-cell-cut TableData c f s n (no-element none) = inl refl
no-cell-cut TableData c f s n (no-text-value m none inside) = inr (λ q. no-text-value (marked-longer q m) none inside)
no-cell-cut TableData c f s n (out_of_range m outside) = inr (λ q. out_of_range (marked-longer q m) outside)
no-cell-cut TableData c f s n (not-as-many m a e many) = inr (λ q. not-as-many (marked-longer q m) a e many)
no-cell-cut Binary c f s n h = no-binary2-cut h
no-cell-cut Binary2 c f s n h = no-binary2-cut h

stays : {E : Type 0} {P Q : List ℕ → Type 0} → E ⊎ ((q : List ℕ) → P q) → ((q : List ℕ) → P q → Q q) → E ⊎ ((q : List ℕ) → Q q)
stays (inl e) f = inl e
stays (inr g) f = inr (λ q. f q (g q))

no-cells-cut : {from : Rows} {cs : List Column} {flags s : List ℕ} {k n j : ℕ} → NoCells from cs flags k s n j
    → (n ≡ cut_number from) ⊎ ((q : List ℕ) → NoCells from cs flags k (s ++ q) n j)
no-cells-cut {from} {s = s} (at-cell {c = c} {n = n} {f = f} b h) = stays (no-cell-cut from c f s n h) (λ q g. at-cell b g)
no-cells-cut (cell-then b h r) = stays (no-cells-cut r) (λ q g. cell-then b (cell-longer q h) g)

no-start-cut : {n m : ℕ} {from : Rows} {s : List ℕ} → NoStart n s from m → (m ≡ cut_number from) ⊎ ((q : List ℕ) → NoStart n (s ++ q) from m)
no-start-cut (no-text-start none) = inl refl
no-start-cut (no-binary2-start (cut-flags l)) = inl refl
no-start-cut {s = s} (no-binary2-start (spare-flag {a = a} rest e p)) = inr (λ q. no-binary2-start (spare-flag (rest ++ q) (longer s a rest q e) p))

no-row-cut : {from : Rows} {cs : List Column} {s : List ℕ} {n k : ℕ} → NoRow from cs s n k → (n ≡ cut_number from) ⊎ ((q : List ℕ) → NoRow from cs (s ++ q) n k)
no-row-cut (no_start h) = stays (no-start-cut h) (λ q g. no_start g)
no-row-cut (no_cells h r) = stays (no-cells-cut r) (λ q g. no_cells (start-longer q h) g)
no-row-cut (no_end h r (no-text-end none)) = inl refl

-- ---- and a row that has not ended stays one that has begun

white-front : (s q : List ℕ) → White (s ++ q) → White s
white-front [] q w = white-end
white-front (b ∷ s) q (white-then h w) = white-then h (white-front s q w)

empty-front : (s q : List ℕ) → s ++ q ≡ [] → s ≡ []
empty-front [] q e = refl
empty-front (b ∷ s) q e = let n = ap length e in absurd (omega (arith, n))

more-longer : {from : Rows} {s : List ℕ} (q : List ℕ) → MoreAt s from → MoreAt (s ++ q) from
more-longer {s = s} q (text-more h) = text-more (λ w. h (white-front s q w))
more-longer {s = s} q (binary-more h) = binary-more (λ e. h (empty-front s q e))
more-longer {s = s} q (binary2-more h) = binary2-more (λ e. h (empty-front s q e))

-- so a stream that stops with another number stops there whatever follows
pub stays-stopped : (from : Rows) (cs : List Column) → AreColumns cs → (rest more : List ℕ) (e : Refusal) → AreBytes (rest ++ more)
    → (e.number ≡ cut_number from → ⊥) → read from cs rest ≡ stopped e → read from cs (rest ++ more) ≡ stopped e
unfolding and_then table_of at
stays-stopped from cs i rest more e bytes other q =
    let stop = first-stop from cs i rest e q in
    go (more-at-is from rest stop.0) (no-row-cut (fails-at (no-row-is from cs rest (parts-bytes (rest ++ more) rest more refl bytes).0) stop.1))
  where
    go : MoreAt rest from → (e.number ≡ cut_number from) ⊎ ((q : List ℕ) → NoRow from cs (rest ++ q) e.number e.column) → read from cs (rest ++ more) ≡ stopped e
    go m (inl n) = absurd (other n)
    go m (inr f) = (stops-exactly from cs i [] (rest ++ more) e.number e.column bytes).0
        (record { rest = rest ++ more; before = rows_none; more = more-longer more m; none = f more })

-- ---- the rows of the front, and those of the whole

-- a table is its rows, and then its end or its refusal
abbrev IsLast : Table → Type 0
IsLast finished = Unit {0}
IsLast (stopped e) = Unit {0}
IsLast (row xs t) = ⊥

rows-first : (t : Table) → (rows : List (List Cell)) × (u : Table) × (t ≡ and_then (table_of rows) u) × IsLast u
unfolding and_then table_of
rows-first finished = ([], finished, refl, tt)
rows-first (stopped e) = ([], stopped e, refl, tt)
rows-first (row xs t) = let r = rows-first t in (xs ∷ r.0, r.1, ap (row xs) r.2, r.3)

split_rows : (done : List (List Cell)) (v : Table) (rows : List (List Cell)) → and_then (table_of done) v ≡ table_of rows
    → (left : List (List Cell)) × (rows ≡ done ++ left) × (v ≡ table_of left)
unfolding and_then table_of
split_rows [] v rows e = (rows, refl, e)
split_rows (xs ∷ done) v [] e = absurd (subst⁻¹ IsFinished e tt)
split_rows (xs ∷ done) v (ys ∷ rows) e =
    let h : xs ≡ ys = cc e in
    let r = split_rows done v rows (cc e) in
    (r.0, ap (λ (x : List Cell). x ∷ rows) (sym h) ∙ ap (λ (l : List (List Cell)). xs ∷ l) r.1, r.2)

lines-front : (to : Rows) (cs : List Column) (done left : List (List Cell)) (body : List ℕ) → lines to cs (table_of (done ++ left)) ≡ good body
    → (b : List ℕ) × (lines to cs (table_of done) ≡ good b) × (length b ≤ length body)
unfolding lines table_of
lines-front to cs [] left body l = ([], refl, zero-le)
lines-front to cs (xs ∷ done) left body l =
    let w : FirstLine to cs xs (table_of (done ++ left)) body = first-line to cs xs (table_of (done ++ left)) body l in
    let f = lines-front to cs done left w.others w.have-forms in (
      w.first ++ f.0,
      front-good (write_row to cs xs) (lines to cs (table_of done)) w.first f.0 w.has-form f.1,
      omega (arith, f.2, length-append w.first f.0, length-append w.first w.others, ap length w.whole),
    )
  where
    front-good : (x y : Result Refusal (List ℕ)) (b r : List ℕ) → x ≡ good b → y ≡ good r → (x >>= λ b. y >>= λ r. good (b ++ r)) ≡ good (b ++ r)
    front-good x y b r e f = rw (e, f)

-- ---- what a call on the front gives

run-front : (from to : Rows) (cs : List Column) (room : ℕ) (s body : List ℕ) (rows : List (List Cell)) (u : Table) → read from cs s ≡ and_then (table_of rows) u
    → lines to cs (table_of rows) ≡ good body → length body ≤ room → write to cs room (length rows) body u ≡ run from to cs room s
unfolding run
run-front from to cs room s body rows u q l h =
    sym (ap (write to cs room 0 []) q ∙ rows-go-on to cs room rows u body l h)

module _ (decls : List ℕ) (from to : Rows) (front more out : List ℕ) (cs : List Column) (declared : declare decls ≡ good cs) (sized : length front ≤ most_input)
    (bytes : AreBytes (front ++ more)) where
  i : AreColumns cs
  i = declared-columns decls cs declared

  -- what stands behind the whole rows of the front is no row, and with more behind it no refusal: so the refusal is the cut's
  the_number : (rest : List ℕ) (left : List (List Cell)) (e : Refusal) → AreBytes (rest ++ more) → read from cs rest ≡ stopped e → read from cs (rest ++ more) ≡ table_of left
      → e.number ≡ cut_number from
  the_number rest left e a q s = go (eqb e.number (cut_number from)) refl
    where
      go : (t : Bool) → eqb e.number (cut_number from) ≡ t → e.number ≡ cut_number from
      go true h = eqb-true e.number (cut_number from) h
      go false h =
          let stays = stays-stopped from cs i rest more e a (eqb-false e.number (cut_number from) h) q in
          absurd (subst Ends stays (subst⁻¹ Ends s (table-ends left)))

  fate-of : (done left : List (List Cell)) (rest body : List ℕ) (u : Table) → IsLast u → read from cs rest ≡ u → AreBytes rest → AreBytes (rest ++ more)
      → read from cs (rest ++ more) ≡ table_of left → (o : Outcome) → write to cs (length out) (length done) body u ≡ o → CutFate from cs rest (length done) (ending o out)
      × (rows_done o ≡ length done)
  unfolding write ending answer_of rows_done
  fate-of done left rest body finished l q a b s o e =
      rw (← e) (cut-between (λ m. false≢true (sym (more-at-read m) ∙ ends_there from cs i rest q)) refl, refl)
  fate-of done left rest body (stopped x) l q a b s o e =
      let f = first-stop from cs i rest x q in
      let m : MoreAt rest from = more-at-is from rest f.0 in
      let h : NoRow from cs rest x.number x.column = fails-at (no-row-is from cs rest a) f.1 in
      let n : x.number ≡ cut_number from = the_number rest left x b q s in
      rw (← e) (cut_inside m (subst (λ (y : ℕ). NoRow from cs rest y x.column) n h) (n, refl, refl), refl)
  fate-of done left rest body (row xs t) l q a b s o e = absurd l

  cut_of : (rows : List (List Cell)) (body : List ℕ) → read from cs (front ++ more) ≡ table_of rows → lines to cs (table_of rows) ≡ good body → length body ≤ length out
      → CutFile from to cs front rows (convert decls from to front out)
  cut_of rows body r l f =
      let a : AreBytes front = (parts-bytes (front ++ more) front more refl bytes).0 in
      let t = rows-first (read from cs front) in
      let p = rows-at-is from cs i t.0 front t.1 a t.2 in
      let w : RowsAt from cs (front ++ more) t.0 (p.0 ++ more) = rows-longer more p.1 in
      let s = split_rows t.0 (read from cs (p.0 ++ more)) rows (sym (rows-at-read from cs i w) ∙ r) in
      let b = lines-front to cs t.0 s.0 body (ap (λ (x : List (List Cell)). lines to cs (table_of x)) (sym s.1) ∙ l) in
      let o : Outcome = run from to cs (length out) front in
      let e : write to cs (length out) (length t.0) b.0 t.1 ≡ o
      = run-front from to cs (length out) front b.0 t.0 t.1 t.2 b.1 (omega (arith, b.2, f)) in
      let k = fate-of t.0 s.0 p.0 b.0 t.1 t.3 p.2 p.3 (rows-at-left from cs i w bytes) s.2 o e in
      let c : convert decls from to front out ≡ ending o out = converts decls from to front out cs declared sized in
      let n : (convert decls from to front out).answer.rows ≡ length t.0 = ap (λ (d : Call). d.answer.rows) c ∙ rows_of o out ∙ k.1 in
      record {
        done = t.0;
        left = s.0;
        split = s.1;
        rest = p.0;
        whole = p.1;
        no_more = λ xs rest h. subst IsLast (sym p.2 ∙ read-row from cs i p.0 xs rest (row-at-read h)) t.3;
        rows-done = n;
        spelled = back-spells decls from to front out cs declared a t.0
            (demand2.means decls from to front out cs declared a ∙ ap (λ (m : ℕ). up_to m (read from cs front)) n ∙ ap (up_to (length t.0)) t.2 ∙ up-to-rows t.0 t.1);
        fate = subst⁻¹ (CutFate from cs p.0 (length t.0)) c k.0;
      }

-- THE CUT FILE: of a valid input that was cut anywhere
pub cut-file : (decls : List ℕ) (from to : Rows) (front more out : List ℕ) → AreBytes (front ++ more) → (g : InGrammar decls from to (front ++ more) (length out))
    → CutFile from to g.columns front g.rows (convert decls from to front out)
unfolding most_input
cut-file decls from to front more out a g =
    let cs : List Column = g.columns in
    let q : declare decls ≡ good cs = declares-read g.declared in
    let b = the (lines to cs (table_of g.rows)) (lines-good to cs (table_of g.rows) (rows_written to cs g.rows g.forms)) in
    cut_of decls from to front more out cs q (omega (arith, g.sized, length-append front more)) a g.rows b.0
    (spells-read cs (declared-columns decls cs q) from (front ++ more) g.rows g.spelled) b.1 (g.fits b.0 b.1)
