-- WHICH NUMBER, EXACTLY: a call answers a refusal's number, row and column just where the grammar says that number at that row and column. Forward, what
-- demand 1 says of the answer is carried from the table to the grammar (DeclarationsRefused, RowsRefused); backward, the rows done are written and the
-- next thing refuses.
use Prim.Native.Nat.{◌<◌, ◌≤◌, suc, ℕ}
use native.Mathlib.Omega.{arith}
use mathlib.Core.Bool.{Bool, false, true}
use mathlib.Core.List.{List, [], ◌∷◌}
use mathlib.Core.Logic.{◌↔◌}
use mathlib.Core.Path.{◌∙◌, ◌≡◌, ap, refl, subst, subst⁻¹, sym}
use lib.Dec.{lit<, ltb}
use lib.ListN.{length}
use borrow.Author.Tests.{ltb-false, ltb-true}
use Rattle.demands.proofs.Demand2.{declared-columns, stands}
use Rattle.demands.proofs.Writing.{Behind, first-written, form-stops, from-here, past_row, room-stops, row-behind, stop-behind, stops-behind}
use Rattle.demands.specs.Demands.{RowsStand, Why, all-rows, in-reading, in-writing, no-space, output}
use Rattle.demands.specs.Tables.{lines, up_to}
use Rattle.fields.proofs.Front.{front-oversized, front-undeclared}
use Rattle.fields.proofs.Refusals.{AtPlace, declare-fails}
use Rattle.fields.specs.Fields.{declare}
use Rattle.fields.specs.Front.{front}
use Rattle.grammar.proofs.ColumnsRead.{declares-is, declares-read}
use Rattle.grammar.proofs.DeclarationsRefused.{not-declared-is, not-declared-read}
use Rattle.grammar.proofs.FormsWritten.{unwritten-is, unwritten-read}
use Rattle.grammar.proofs.Resumption.{and_then}
use Rattle.grammar.proofs.RowsRefused.{row-at-is, row-at-read, rows-at-is, rows-at-read, stops-exactly}
use Rattle.grammar.proofs.Streams.{first-row}
use Rattle.grammar.specs.Exact.{Answers, Refuses, RowsDone, refuses-declarations, refuses-reading, refuses-room, refuses-size, refuses-writing, table_of}
use Rattle.grammar.specs.RowRefusals.{RowAt, RowsAt}
use Rattle.rows.proofs.Calls.{converts}
use Rattle.rows.proofs.Sequences.{Stops}
use Rattle.rows.proofs.Laws.{Placed, read-row, read-stops, write-row-fails}
use Rattle.rows.specs.Convert.{convert, converting, under_columns}
use Rattle.rows.specs.Sequence.{row, stopped}
use Rattle.rows.specs.Stream.{Table, read, run, write}
use Rattle.table.proofs.Laws.{fails-at, holds_at}
use Rattle.table.specs.All.{AreBytes}
use Rattle.table.specs.Cell.{AreColumns, Cell}
use Rattle.table.specs.Outcome.{Call, Outcome, Refusal, answer_of, at, ending, most_input, most_number, refused}
use Rattle.table.specs.Result.{Result, bad, good}
use Rattle.table.specs.declared.Column.{Column}
use Rattle.table.specs.declared.Rows.{Rows}

-- ---- rows, and what comes behind them

rows_behind : (rows : List (List Cell)) (u : Table) → Behind (length rows) (and_then (table_of rows) u) u
unfolding and_then table_of
rows_behind [] u = from-here
rows_behind (xs ∷ rows) u = past_row (rows_behind rows u)

rows_before : {j : ℕ} {t u : Table} → Behind j t u → (rows : List (List Cell)) × (length rows ≡ j) × (t ≡ and_then (table_of rows) u)
unfolding and_then table_of
rows_before from-here = ([], refl, refl)
rows_before (past_row {xs = xs} p) = let r = rows_before p in (xs ∷ r.0, ap suc r.1, ap (row xs) r.2)

pub up-to-rows : (rows : List (List Cell)) (u : Table) → up_to (length rows) (and_then (table_of rows) u) ≡ table_of rows
unfolding up_to and_then table_of
up-to-rows [] u = refl
up-to-rows (xs ∷ rows) u = ap (row xs) (up-to-rows rows u)

pub rows-go-on : (to : Rows) (cs : List Column) (room : ℕ) (rows : List (List Cell)) (u : Table) (body : List ℕ) → lines to cs (table_of rows) ≡ good body
    → length body ≤ room → write to cs room 0 [] (and_then (table_of rows) u) ≡ write to cs room (length rows) body u
rows-go-on to cs room rows u body l h = first-written to cs room body (rows_behind rows u) (ap (lines to cs) (up-to-rows rows u) ∙ l) h

-- ---- from the grammar to the answer

module _ (decls : List ℕ) (from to : Rows) (input out : List ℕ) where
  at_front : (e : Refusal) → front decls (length input) ≡ bad e → Answers (convert decls from to input out).answer e.number 0 e.column
  unfolding convert converting under_columns ending answer_of
  at_front e q = (rw q, rw q, rw q)

  at_rows : (cs : List Column) → declare decls ≡ good cs → length input ≤ most_input → (e : Refusal) (r : ℕ) (w : List ℕ) → run from to cs (length out) input ≡ refused e r w
      → Answers (convert decls from to input out).answer e.number r e.column
  at_rows cs q h e r w o =
      subst⁻¹ (λ (c : Call). Answers c.answer e.number r e.column) (converts decls from to input out cs q h ∙ ap (λ (o : Outcome). ending o out) o)
      (unfold ending answer_of in (refl, refl, refl))

  behind : {cs : List Column} {rows : List (List Cell)} {body : List ℕ} → RowsDone decls to input (length out) cs rows body → (u : Table) (e : Refusal)
      → read from cs input ≡ and_then (table_of rows) u → write to cs (length out) (length rows) body u ≡ refused e (length rows) body
      → Answers (convert decls from to input out).answer e.number (length rows) e.column
  unfolding run most_input
  behind {cs} {rows} {body} d u e q o =
      at_rows cs (declares-read d.declared) d.sized e (length rows) body
      (ap (write to cs (length out) 0 []) q ∙ rows-go-on to cs (length out) rows u body d.forms d.fits ∙ o)

  columns : {cs : List Column} {rows : List (List Cell)} {body : List ℕ} → RowsDone decls to input (length out) cs rows body → AreColumns cs
  columns {cs} d = declared-columns decls cs (declares-read d.declared)

  next : {cs : List Column} {rows : List (List Cell)} {body rest more : List ℕ} {xs : List Cell} → RowsDone decls to input (length out) cs rows body
      → RowsAt from cs input rows rest → RowAt cs from rest xs more → read from cs input ≡ and_then (table_of rows) (row xs (read from cs more))
  next {cs} {rows} {rest = rest} {more = more} {xs = xs} d p q =
      rows-at-read from cs (columns d) p ∙ ap (and_then (table_of rows)) (read-row from cs (columns d) rest xs more (row-at-read q))

  refuses-answers : {n r k : ℕ} → AreBytes input → Refuses decls from to input (length out) n r k → Answers (convert decls from to input out).answer n r k
  unfolding most_input at
  refuses-answers a (refuses-declarations {n = n} {place = place} h) = at_front (at place n) (front-undeclared decls (length input) (at place n) (not-declared-read h))
  refuses-answers a (refuses-size {cs = cs} d h) = at_front (at 0 6) (front-oversized decls (length input) cs (declares-read d) h)
  refuses-answers a (refuses-reading {cs = cs} {rows = rows} {body = body} {n = n} {k = k} d s) =
      behind d (stopped (at k n)) (at k n) ((stops-exactly from cs (columns d) rows input n k a).0 s) (unfold write in refl)
  refuses-answers a (refuses-writing {cs = cs} {rows = rows} {body = body} {rest = rest} {more = more} {xs = xs} {n = n} {k = k} d p q w) =
      behind d (row xs (read from cs more)) (at k n) (next d p q) (form-stops to cs (length out) (length rows) body xs (read from cs more) (at k n) (unwritten-read w))
  refuses-answers a (refuses-room {cs = cs} {rows = rows} {body = body} {b = b} {rest = rest} {more = more} {xs = xs} d p q w h) =
      behind d (row xs (read from cs more)) (at 0 17) (next d p q) (room-stops to cs (length out) (length rows) body xs (read from cs more) b w h)

  -- a refusal's number is above 0
  above : {n r k : ℕ} → AreBytes input → Refuses decls from to input (length out) n r k → 0 < n
  unfolding at
  above a (refuses-declarations h) = let p : AtPlace _ = fails-at (declare-fails decls) (not-declared-read h) in omega (arith, p.0.0)
  above a (refuses-size d h) = lit< tt
  above a (refuses-reading {cs = cs} {rows = rows} {n = n} {k = k} d s) =
      let p : Placed 8 most_number (length cs) (at k n)
      = stops-behind (Placed 8 most_number (length cs)) (rows_behind rows (stopped (at k n)))
      (subst (Stops (Placed 8 most_number (length cs))) ((stops-exactly from cs (columns d) rows input n k a).0 s) (read-stops from cs input)) in
      omega (arith, p.0.0)
  above a (refuses-writing {cs = cs} {xs = xs} {n = n} {k = k} d p q w) =
      let p : Placed 14 16 (length cs) (at k n) = fails-at (write-row-fails to cs xs) (unwritten-read w) in omega (arith, p.0.0)
  above a (refuses-room d p q w h) = lit< tt

  -- ---- from the answer to the grammar

  -- the grammar refuses the call with the number, the row and the column that it answers
  abbrev RefusedAsAnswered : Type 0
  RefusedAsAnswered =
      Refuses decls from to input (length out) (convert decls from to input out).answer.number (convert decls from to input out).answer.row (convert decls from to input out).answer.column

  as-answered : {n r k : ℕ} → Answers (convert decls from to input out).answer n r k → Refuses decls from to input (length out) n r k → RefusedAsAnswered
  as-answered q h = rw (q.0, q.1, q.2) h

  -- the rows done, as the grammar has them
  done : (cs : List Column) → declare decls ≡ good cs → length input ≤ most_input → (c : Call) → RowsStand cs from to input out c
      → (rows : List (List Cell)) (u : Table) → length rows ≡ c.answer.rows → read from cs input ≡ and_then (table_of rows) u
      → RowsDone decls to input (length out) cs rows (output c)
  unfolding most_input
  done cs q h c s rows u l e =
      record {
        declared = declares-is decls cs q;
        sized = h;
        forms = ap (lines to cs) (sym (up-to-rows rows u) ∙ ap (up_to (length rows)) (sym e) ∙ ap (λ (n : ℕ). up_to n (read from cs input)) l) ∙ s.lines-whole;
        fits = rw (← s.bytes-are) s.within-room;
      }

  -- the row that stands behind them
  there : (cs : List Column) → declare decls ≡ good cs → AreBytes input → (rows : List (List Cell)) (xs : List Cell) (u : Table) → read from cs input ≡ and_then (table_of rows) (row xs u)
      → (rest : List ℕ) × (more : List ℕ) × RowsAt from cs input rows rest × RowAt cs from rest xs more
  there cs q a rows xs u e =
      let i : AreColumns cs = declared-columns decls cs q in
      let p = rows-at-is from cs i rows input (row xs u) a e in
      let f = first-row from cs i p.0 xs u p.2 in
      (p.0, f.0, p.1, holds_at (row-at-is from cs p.0 p.3) f.1)

  by_rows : (cs : List Column) → declare decls ≡ good cs → length input ≤ most_input → AreBytes input → {n r k : ℕ} → 0 < n
      → (c : Call) → RowsStand cs from to input out c → Why to cs (length out) (read from cs input) c.answer.rows c.answer.bytes n r k
      → Refuses decls from to input (length out) n r k
  unfolding most_input at
  by_rows cs q h a z c s (all-rows e d) = absurd (omega (arith, z))
  by_rows cs q h a z c s (in-reading {e = e} w) =
      let t = rows_before (stop-behind c.answer.rows (read from cs input) e w) in
      rw (← t.1) (refuses-reading (done cs q h c s t.0 (stopped e) t.1 t.2) ((stops-exactly from cs (declared-columns decls cs q) t.0 input e.number e.column a).1 t.2))
  by_rows cs q h a z c s (in-writing {e = e} {xs = xs} w f) =
      let u = row-behind c.answer.rows (read from cs input) xs w in
      let t = rows_before u.1 in
      let p = there cs q a t.0 xs u.0 t.2 in
      rw (← t.1) (refuses-writing (done cs q h c s t.0 (row xs u.0) t.1 t.2) p.2 p.3 (fails-at (unwritten-is to cs xs) f))
  by_rows cs q h a z c s (no-space {xs = xs} {b = b} w f l) =
      let u = row-behind c.answer.rows (read from cs input) xs w in
      let t = rows_before u.1 in
      let p = there cs q a t.0 xs u.0 t.2 in
      rw (← t.1) (refuses-room (done cs q h c s t.0 (row xs u.0) t.1 t.2) p.2 p.3 f (omega (arith, l, s.bytes-are)))

  oversized : (cs : List Column) → declare decls ≡ good cs → most_input < length input → RefusedAsAnswered
  unfolding most_input at
  oversized cs q h = as-answered (at_front (at 0 6) (front-oversized decls (length input) cs q h)) (refuses-size (declares-is decls cs q) h)

  answers-refuses : AreBytes input → 0 < (convert decls from to input out).answer.number → RefusedAsAnswered
  answers-refuses a z = go (declare decls) refl
    where
      sized : (cs : List Column) → declare decls ≡ good cs → (b : Bool) → ltb most_input (length input) ≡ b → RefusedAsAnswered
      sized cs q true h = oversized cs q (ltb-true most_input (length input) h)
      sized cs q false h =
          let l : length input ≤ most_input = ltb-false most_input (length input) h in
          let s : RowsStand cs from to input out (convert decls from to input out) = stands decls from to input out cs q l in
          by_rows cs q l a z (convert decls from to input out) s s.why

      go : (r : Result Refusal (List Column)) → declare decls ≡ r → RefusedAsAnswered
      go (bad e) q = as-answered (at_front e (front-undeclared decls (length input) e q)) (refuses-declarations (fails-at (not-declared-is decls) q))
      go (good cs) q = sized cs q (ltb most_input (length input)) refl

-- THE THEOREM, both ways: number n at row r and column k is answered exactly when the grammar says so
pub refuses-exactly : (decls : List ℕ) (from to : Rows) (input out : List ℕ) (n r k : ℕ) → AreBytes input
    → Refuses decls from to input (length out) n r k ↔ (Answers (convert decls from to input out).answer n r k × (0 < n))
refuses-exactly decls from to input out n r k a = (
  (λ h. (refuses-answers decls from to input out a h, above decls from to input out a h)),
  (λ p. rw (← p.0.0, ← p.0.1, ← p.0.2) (answers-refuses decls from to input out a (rw p.0.0 p.1))),
)
