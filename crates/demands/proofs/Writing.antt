-- How a table is written, as a relation: each row whole, up to the first that is not. What the demands need of it follows by induction.
use Rattle.std.proofs.lemmas.Option.{none-some}
use Rattle.std.specs.Prelude.{Some}
use Prim.Native.Nat.{◌+◌, ◌<◌, ◌≤◌, suc, zero, zero-le, ℕ}
use native.Mathlib.Nat.{add-zero, zero-add}
use native.Mathlib.Omega.{arith}
use mathlib.Core.List.{List, [], ◌++◌, ◌∷◌, append_assoc, append-nil}
use mathlib.Core.Path.{◌∙◌, ◌≡◌, ap, ap₂, refl, sym}
use lib.Dec.{lit≤, ltb}
use lib.ListN.{length, length-append}
use borrow.Author.Tests.{le-ltb, lt-ltb, ltb-false, ltb-true}
use Rattle.demands.specs.Tables.{Ends, count, lines, row_at, stop_at, up_to}
use Rattle.rows.proofs.Sequences.{AllRows, Stops}
use Rattle.rows.proofs.Laws.{FitsAll, Placed, newline, newline-read, read-nothing, read-row, row_back, write-row-fails}
use Rattle.rows.specs.Stream.{Table, fitted, read, write, write_cell, write_cells, write_row, wrote_then}
use Rattle.rows.specs.Sequence.{finished, row, stopped}
use Rattle.table.proofs.Laws.{bind-good, cond_cases, fails-at, good-as, good-bind, holds_at}
use Rattle.table.specs.Cell.{AreColumns, Cell, Each}
use Rattle.table.specs.Outcome.{Outcome, Refusal, accepted, at, most_number, refused, rows_done, written}
use Rattle.table.specs.Result.{IsGood, Result, ◌>>=◌, bad, good, refused_as}
use Rattle.table.specs.declared.Column.{Column}
use Rattle.table.specs.declared.Rows.{Rows}

-- row r and those after it, with `out` written
pub data Writes (to : Rows) (cs : List Column) (room : ℕ) : ℕ → List ℕ → Table → Outcome → Type 0 where
  all-written : {r : ℕ} {out : List ℕ} → Writes to cs room r out finished (accepted r out)
  unread : {r : ℕ} {out : List ℕ} {e : Refusal} → Writes to cs room r out (stopped e) (refused e r out)
  unwritten : {r : ℕ} {out : List ℕ} {xs : List Cell} {t : Table} {e : Refusal} → write_row to cs xs ≡ bad e → Writes to cs room r out (row xs t) (refused e r out)
  no_room : {r : ℕ} {out b : List ℕ} {xs : List Cell} {t : Table} → write_row to cs xs ≡ good b → room < length (out ++ b) → Writes to cs room r out (row xs t) (refused (at 0 17) r out)
  next_row : {r : ℕ} {out b : List ℕ} {xs : List Cell} {t : Table} {o : Outcome} → write_row to cs xs ≡ good b → length (out ++ b) ≤ room
      → Writes to cs room (r + 1) (out ++ b) t o → Writes to cs room r out (row xs t) o

pub writes : (to : Rows) (cs : List Column) (room r : ℕ) (out : List ℕ) (t : Table) → Writes to cs room r out t (write to cs room r out t)
unfolding write fitted wrote_then
writes to cs room r out finished = all-written
writes to cs room r out (stopped e) = unread
writes to cs room r out (row xs t) = go (write_row to cs xs) refl (λ b. writes to cs room (r + 1) (out ++ b) t)
  where
    go : (w : Result Refusal (List ℕ)) → write_row to cs xs ≡ w → ((b : List ℕ) → Writes to cs room (r + 1) (out ++ b) t (write to cs room (r + 1) (out ++ b) t))
        → Writes to cs room r out (row xs t) (wrote_then r out (fitted room out w) (λ b. write to cs room (r + 1) b t))
    go (bad e) q ih = unwritten q
    go (good b) q ih =
        cond_cases (λ (x : Result Refusal (List ℕ)). Writes to cs room r out (row xs t) (wrote_then r out x (λ b. write to cs room (r + 1) b t)))
        (ltb room (length (out ++ b))) (bad (at 0 17)) (good (out ++ b))
        (λ h. no_room q (ltb-true room (length (out ++ b)) h)) (λ h. next_row q (ltb-false room (length (out ++ b)) h) (ih b))

-- ---- a row's turn

module _ (to : Rows) (cs : List Column) (room r : ℕ) (out : List ℕ) (xs : List Cell) (t : Table) where
  -- a row that has no form
  pub form-stops : (e : Refusal) → write_row to cs xs ≡ bad e → write to cs room r out (row xs t) ≡ refused e r out
  unfolding write fitted wrote_then
  form-stops e q = rw q

  -- one that has a form, but for which there is no room
  pub room-stops : (b : List ℕ) → write_row to cs xs ≡ good b → room < length out + length b → write to cs room r out (row xs t) ≡ refused (at 0 17) r out
  unfolding write fitted wrote_then
  room-stops b q h = rw (q, lt-ltb room (length (out ++ b)) (omega (arith, h, length-append out b)))

-- the lines of a row and of those after it
pub record FirstLine (to : Rows) (cs : List Column) (xs : List Cell) (t : Table) (body : List ℕ) : Type 0 where
  pub first : List ℕ
  pub others : List ℕ
  pub has-form : write_row to cs xs ≡ good first
  pub have-forms : lines to cs t ≡ good others
  pub whole : first ++ others ≡ body

pub first-line : (to : Rows) (cs : List Column) (xs : List Cell) (t : Table) (body : List ℕ) → lines to cs (row xs t) ≡ good body → FirstLine to cs xs t body
unfolding lines
first-line to cs xs t body l =
    let w : (b : List ℕ) × (write_row to cs xs ≡ good b) × ((lines to cs t >>= λ r. good (b ++ r)) ≡ good body) = bind-good (write_row to cs xs) _ body l in
    let m : (b : List ℕ) × (lines to cs t ≡ good b) × (good (w.0 ++ b) ≡ good body) = bind-good (lines to cs t) _ body w.2 in
    record { first = w.0; others = m.0; has-form = w.1; have-forms = m.1; whole = cc m.2 }

-- a row that has a form, for which there is room
pub goes_on : (to : Rows) (cs : List Column) (room r : ℕ) (out b : List ℕ) (xs : List Cell) (t : Table) → write_row to cs xs ≡ good b → length (out ++ b) ≤ room
    → write to cs room r out (row xs t) ≡ write to cs room (r + 1) (out ++ b) t
unfolding write fitted wrote_then
goes_on to cs room r out b xs t q h = rw (q, le-ltb room (length (out ++ b)) h)

-- ---- rows that have a form and room are written, and writing goes on behind them

-- what a table has behind its first rows
pub data Behind : ℕ → Table → Table → Type 0 where
  from-here : {t : Table} → Behind 0 t t
  past_row : {j : ℕ} {xs : List Cell} {t u : Table} → Behind j t u → Behind (suc j) (row xs t) u

first-rows-written : (to : Rows) (cs : List Column) (room r : ℕ) (out body : List ℕ) {j : ℕ} {t u : Table} → Behind j t u → lines to cs (up_to j t) ≡ good body
    → length (out ++ body) ≤ room → write to cs room r out t ≡ write to cs room (r + j) (out ++ body) u
unfolding lines up_to
first-rows-written to cs room r out body {t = t} from-here l h =
    ap₂ (λ (n : ℕ) (b : List ℕ). write to cs room n b t) (sym (add-zero r)) (sym (append-nil out) ∙ ap (λ (b : List ℕ). out ++ b) (cc l))
first-rows-written to cs room r out body {u = u} (past_row {j = j} {xs = xs} {t = t} p) l h =
    let w : FirstLine to cs xs (up_to j t) body = first-line to cs xs (up_to j t) body l in
    let n : (out ++ w.first) ++ w.others ≡ out ++ body = append_assoc out w.first w.others ∙ ap (λ (b : List ℕ). out ++ b) w.whole in
    let g : length ((out ++ w.first) ++ w.others) ≤ room = rw n h in
    goes_on to cs room r out w.first xs t w.has-form (omega (arith, g, length-append (out ++ w.first) w.others))
    ∙ first-rows-written to cs room (r + 1) (out ++ w.first) w.others p w.have-forms g
    ∙ ap₂ (λ (m : ℕ) (b : List ℕ). write to cs room m b u) (omega arith) n

-- from the start
pub first-written : (to : Rows) (cs : List Column) (room : ℕ) (body : List ℕ) {j : ℕ} {t u : Table} → Behind j t u → lines to cs (up_to j t) ≡ good body
    → length body ≤ room → write to cs room 0 [] t ≡ write to cs room j body u
first-written to cs room body {j} {t} {u} p l h = first-rows-written to cs room 0 [] body p l h ∙ ap (λ (n : ℕ). write to cs room n body u) (zero-add j)

pub ends-behind : (t : Table) → Ends t → Behind (count t) t finished
unfolding count
ends-behind finished e = from-here
ends-behind (stopped n) e = absurd e
ends-behind (row xs t) e = past_row (ends-behind t e)

pub stop-behind : (j : ℕ) (t : Table) (e : Refusal) → stop_at j t ≡ Some e → Behind j t (stopped e)
unfolding stop_at
stop-behind j finished e q = absurd (none-some e q)
stop-behind zero (stopped x) e q = let k : x ≡ e = cc in rw k from-here
stop-behind (suc j) (stopped x) e q = absurd (none-some e q)
stop-behind zero (row xs t) e q = absurd (none-some e q)
stop-behind (suc j) (row xs t) e q = past_row (stop-behind j t e q)

pub row-behind : (j : ℕ) (t : Table) (xs : List Cell) → row_at j t ≡ Some xs → (u : Table) × Behind j t (row xs u)
unfolding row_at
row-behind j finished xs q = absurd (none-some xs q)
row-behind j (stopped e) xs q = absurd (none-some xs q)
row-behind zero (row ys t) xs q = let k : ys ≡ xs = cc in (t, rw k from-here)
row-behind (suc j) (row ys t) xs q = let r = row-behind j t xs q in (r.0, past_row r.1)

-- what holds of every row, or of the refusal that a table stops with
pub all-behind : (P : List Cell → Type 0) {j : ℕ} {t u : Table} → Behind j t u → AllRows P t → AllRows P u
all-behind P from-here h = h
all-behind P (past_row p) h = all-behind P p h.1

pub stops-behind : (P : Refusal → Type 0) {j : ℕ} {t u : Table} → Behind j t u → Stops P t → Stops P u
stops-behind P from-here h = h
stops-behind P (past_row p) h = stops-behind P p h

-- ---- what stands once it is written

-- why it is refused behind so many rows, with so many bytes written
pub data Stopped (to : Rows) (cs : List Column) (room : ℕ) (t : Table) (done size : ℕ) : Refusal → Type 0 where
  not-read : {e : Refusal} → stop_at done t ≡ Some e → Stopped to cs room t done size e
  no-form : {e : Refusal} {xs : List Cell} → row_at done t ≡ Some xs → write_row to cs xs ≡ bad e → Stopped to cs room t done size e
  too_long : {xs : List Cell} {b : List ℕ} → row_at done t ≡ Some xs → write_row to cs xs ≡ good b → room < size + length b → Stopped to cs room t done size (at 0 17)

-- how it ends: at the table's end, or with a refusal of reading or of writing
abbrev pub EndsAt : Rows → List Column → ℕ → Table → ℕ → Outcome → Type 0
EndsAt to cs room t done (accepted r out) = Ends t × (done ≡ count t)
EndsAt to cs room t done (refused e r out) = Placed 8 most_number (length cs) e × Stopped to cs room t done (length out) e

pub record Done (to : Rows) (cs : List Column) (room r : ℕ) (out : List ℕ) (t : Table) (o : Outcome) : Type 0 where
  pub done : ℕ
  pub body : List ℕ
  pub rows : rows_done o ≡ r + done
  pub output : written o ≡ out ++ body
  pub read : done ≤ count t
  pub whole : lines to cs (up_to done t) ≡ good body
  pub fits : length out ≤ room → length (written o) ≤ room
  pub ended : EndsAt to cs room t done o

none_done : (to : Rows) (cs : List Column) (room r : ℕ) (out : List ℕ) (t : Table) (o : Outcome) → rows_done o ≡ r → written o ≡ out → EndsAt to cs room t 0 o → Done to cs room r out t o
unfolding up_to lines
none_done to cs room r out t o p q e =
    record { done = 0; body = []; rows = p ∙ sym (add-zero r); output = q ∙ sym (append-nil out); read = zero-le; whole = refl; fits = λ h. rw q h; ended = e }

later : (to : Rows) (cs : List Column) (room : ℕ) (xs : List Cell) (t : Table) (done size : ℕ) (e : Refusal) → Stopped to cs room t done size e
    → Stopped to cs room (row xs t) (suc done) size e
unfolding stop_at row_at
later to cs room xs t done size e (not-read q) = not-read q
later to cs room xs t done size e (no-form q w) = no-form q w
later to cs room xs t done size e (too_long q w h) = too_long q w h

one_more : (to : Rows) (cs : List Column) (room : ℕ) (xs : List Cell) (t : Table) (done : ℕ) (o : Outcome) → EndsAt to cs room t done o → EndsAt to cs room (row xs t) (suc done) o
unfolding count
one_more to cs room xs t done (accepted r out) h = (h.0, ap suc h.1)
one_more to cs room xs t done (refused e r out) h = (h.0, later to cs room xs t done (length out) e h.1)

-- the room is never passed, whatever was written before
pub done-of : (to : Rows) (cs : List Column) (room : ℕ) {r : ℕ} {out : List ℕ} {t : Table} {o : Outcome} → Writes to cs room r out t o
    → Stops (Placed 8 most_number (length cs)) t → Done to cs room r out t o
unfolding rows_done written count up_to lines at stop_at row_at
done-of to cs room {r} {out} {t} {o} all-written s = none_done to cs room r out t o refl refl (tt, refl)
done-of to cs room {r} {out} {t} {o} unread s = none_done to cs room r out t o refl refl (s, not-read refl)
done-of to cs room {r} {out} {t} {o} (unwritten {xs = xs} q) s =
    let w : Placed 14 16 (length cs) _ = fails-at (write-row-fails to cs xs) q in
    none_done to cs room r out t o refl refl (((omega (arith, w.0.0), omega (arith, w.0.1)), w.1), no-form refl q)
done-of to cs room {r} {out} {t} {o} (no_room {b = b} q h) s =
    none_done to cs room r out t o refl refl (((lit≤ tt, lit≤ tt), zero-le), too_long refl q (omega (arith, h, length-append out b)))
done-of to cs room {r} {out} {t} {o} (next_row {b = b} {xs = xs} {t = u} q h w) s =
    let d : Done to cs room (r + 1) (out ++ b) u o = done-of to cs room w s in
    record {
      done = suc d.done;
      body = b ++ d.body;
      rows = d.rows ∙ omega arith;
      output = d.output ∙ append_assoc out b d.body;
      read = omega (arith, d.read);
      whole = rw (q, d.whole);
      fits = λ _. d.fits h;
      ended = one_more to cs room xs u d.done o d.ended;
    }

-- ---- with room enough, what has a form in the target is accepted

-- all rows of a table that ends are all of it
pub up-to-all : (t : Table) → Ends t → up_to (count t) t ≡ t
unfolding up_to count
up-to-all finished e = refl
up-to-all (stopped n) e = absurd e
up-to-all (row xs t) e = ap (row xs) (up-to-all t e)

pub accepts : (to : Rows) (cs : List Column) (t : Table) (room : ℕ) (body : List ℕ) → Ends t → lines to cs t ≡ good body → length body ≤ room
    → write to cs room 0 [] t ≡ accepted (count t) body
accepts to cs t room body e l h = first-written to cs room body (ends-behind t e) (ap (lines to cs) (up-to-all t e) ∙ l) h ∙ (unfold write in refl)

-- ---- lines are read back as the rows they were written from

nothing_read : (to : Rows) (cs : List Column) (body : List ℕ) → ◌≡◌ {A = Result Refusal (List ℕ)} (good []) (good body) → read to cs body ≡ finished
nothing_read to cs body q = let e : [] ≡ body = cc in rw (← e) (read-nothing to cs)

pub lines-read : (to : Rows) (cs : List Column) → AreColumns cs → (m : ℕ) (t : Table) → AllRows (FitsAll cs) t
    → (body : List ℕ) → lines to cs (up_to m t) ≡ good body → read to cs body ≡ up_to m t
unfolding lines up_to
lines-read to cs i zero t f body l = nothing_read to cs body l
lines-read to cs i (suc m) finished f body l = nothing_read to cs body l
lines-read to cs i (suc m) (stopped n) f body l = nothing_read to cs body l
lines-read to cs i (suc m) (row xs t) f body l =
    let w : FirstLine to cs xs (up_to m t) body = first-line to cs xs (up_to m t) body l in
    ap (read to cs) (sym w.whole)
    ∙ read-row to cs i (w.first ++ w.others) xs (newline to ++ w.others) (holds_at (row_back to cs xs i.each f.0) w.has-form w.others)
    ∙ ap (row xs) (newline-read to cs i w.others ∙ lines-read to cs i m t f.1 w.others w.have-forms)

-- ---- where every cell has a form, every row has one

cells-good : (to : Rows) (cs : List Column) (xs : List Cell) (k : ℕ) → Each (λ (c : Column) (x : Cell). IsGood (write_cell to c x)) cs xs → IsGood (write_cells to cs xs k)
unfolding write_cells
cells-good to [] xs k h = tt
cells-good to (c ∷ cs) [] k h = tt
cells-good to (c ∷ cs) (x ∷ xs) k h =
    good-bind (refused_as (at k) (write_cell to c x)) _ (good-as (at k) (write_cell to c x) h.0) (λ b.
    good-bind (write_cells to cs xs (k + 1)) _ (cells-good to cs xs (k + 1) h.1) (λ r. tt))

pub lines-good : (to : Rows) (cs : List Column) (t : Table) → AllRows (Each (λ (c : Column) (x : Cell). IsGood (write_cell to c x)) cs) t → IsGood (lines to cs t)
unfolding lines write_row
lines-good to cs finished h = tt
lines-good to cs (stopped n) h = tt
lines-good to cs (row xs t) h =
    good-bind (write_row to cs xs) _ (good-bind (write_cells to cs xs 0) _ (cells-good to cs xs 0 h.0) (λ b. tt)) (λ b.
    good-bind (lines to cs t) _ (lines-good to cs t h.1) (λ r. tt))
