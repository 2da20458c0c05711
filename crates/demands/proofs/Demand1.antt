-- Demand 1 of the converter: the outcome's relation to the table that was read (Writing), carried over to the answer and the buffer.
use Prim.Native.Nat.{◌≤◌, zero-le, ℕ}
use native.Mathlib.Nat.{zero-add}
use native.Mathlib.Omega.{arith}
use mathlib.Core.Bool.{Bool, cond, false, true}
use mathlib.Core.List.{List, [], ◌++◌}
use mathlib.Core.Path.{◌∙◌, ◌≡◌, ap, refl, subst⁻¹, sym}
use lib.Dec.{ltb}
use lib.ListN.{drop, length}
use lib.Seq.{take_at}
use Rattle.demands.proofs.Writing.{Done, EndsAt, Stopped, done-of, no-form, not-read, too_long, writes}
use Rattle.demands.specs.Demands.{Demand1, Ended, NoRows, RowsStand, Sized, Why, all-rows, in-reading, in-writing, no-space, output}
use Rattle.demands.specs.Tables.{lines}
use Rattle.fields.proofs.Front.{front-fails}
use Rattle.fields.proofs.Refusals.{AtPlace}
use Rattle.fields.specs.Fields.{declare}
use Rattle.fields.specs.Front.{front}
use Rattle.rows.proofs.Laws.{read-stops}
use Rattle.rows.specs.Convert.{convert, converting, under_columns}
use Rattle.rows.specs.Stream.{Table, read, run}
use Rattle.table.specs.Outcome.{Outcome, Refusal, accepted, answer_of, at, buffer_of, ending, most_input, most_number, refused, rows_done, written}
use Rattle.table.specs.Result.{Fails, Result, ◌>>=◌, bad, fails, good}
use Rattle.table.specs.declared.Column.{Column}
use Rattle.table.specs.declared.Rows.{Rows}

-- ---- the answer and the buffer of an outcome

pub output-of : (o : Outcome) (out : List ℕ) → output (ending o out) ≡ written o
unfolding output ending answer_of buffer_of written
output-of (accepted r w) out = take_at w (drop (length w) out) (length w) refl
output-of (refused e r w) out = take_at w (drop (length w) out) (length w) refl

pub bytes-of : (o : Outcome) (out : List ℕ) → (ending o out).answer.bytes ≡ length (written o)
unfolding ending answer_of written
bytes-of (accepted r w) out = refl
bytes-of (refused e r w) out = refl

pub rows_of : (o : Outcome) (out : List ℕ) → (ending o out).answer.rows ≡ rows_done o
unfolding ending answer_of rows_done
rows_of (accepted r w) out = refl
rows_of (refused e r w) out = refl

pub buffer-of : (o : Outcome) (out : List ℕ) → (ending o out).buffer ≡ written o ++ drop (length (written o)) out
unfolding ending buffer_of
buffer-of o out = refl

-- ---- rows that stand, for an outcome

why-of : (to : Rows) (cs : List Column) (room : ℕ) (t : Table) (done : ℕ) (o : Outcome) (out : List ℕ) → EndsAt to cs room t done o → rows_done o ≡ done
    → Why to cs room t done (length (written o)) (ending o out).answer.number (ending o out).answer.row (ending o out).answer.column
unfolding ending answer_of rows_done written
why-of to cs room t done (accepted r w) out e q = all-rows e.0 e.1
why-of to cs room t done (refused x r w) out e q =
    subst⁻¹ (λ (row : ℕ). Why to cs room t done (length w) x.number row x.column) q (stopped-why x e.1)
  where
    stopped-why : (e : Refusal) → Stopped to cs room t done (length w) e → Why to cs room t done (length w) e.number done e.column
    stopped-why e (not-read h) = in-reading h
    stopped-why e (no-form h k) = in-writing h k
    stopped-why e (too_long h k l) = unfold at in no-space h k l

column-of : (to : Rows) (cs : List Column) (room : ℕ) (t : Table) (done : ℕ) (o : Outcome) (out : List ℕ) → EndsAt to cs room t done o → (ending o out).answer.column ≤ length cs
unfolding ending answer_of
column-of to cs room t done (accepted r w) out e = zero-le
column-of to cs room t done (refused x r w) out e = e.0.1

number_of : (to : Rows) (cs : List Column) (room : ℕ) (t : Table) (done : ℕ) (o : Outcome) (out : List ℕ) → EndsAt to cs room t done o → (ending o out).answer.number ≤ most_number
unfolding ending answer_of
number_of to cs room t done (accepted r w) out e = zero-le
number_of to cs room t done (refused x r w) out e = e.0.0.1

pub run-done : (from to : Rows) (cs : List Column) (room : ℕ) (input : List ℕ) → Done to cs room 0 [] (read from cs input) (run from to cs room input)
unfolding run
run-done from to cs room input = done-of to cs room (writes to cs room 0 [] (read from cs input)) (read-stops from cs input)

done-stands : (from to : Rows) (cs : List Column) (input out : List ℕ) (o : Outcome) → Done to cs (length out) 0 [] (read from cs input) o
    → RowsStand cs from to input out (ending o out)
unfolding lines output
done-stands from to cs input out o d =
    let done : rows_done o ≡ d.done = d.rows ∙ zero-add d.done in
    let rows : (ending o out).answer.rows ≡ d.done = rows_of o out ∙ done in
    record {
      rows-read = rw rows d.read;
      lines-whole = rw (rows, output-of o out, d.output) d.whole;
      bytes-are = bytes-of o out ∙ ap length (sym (output-of o out));
      within-room = rw (bytes-of o out) (d.fits zero-le);
      untouched = rw (output-of o out, bytes-of o out) (buffer-of o out);
      why = rw (rows, bytes-of o out) (why-of to cs (length out) (read from cs input) d.done o out d.ended done);
      column-within = column-of to cs (length out) (read from cs input) d.done o out d.ended;
    }

-- refused before any row
at_once : (e : Refusal) (out : List ℕ) → NoRows e out (ending (refused e 0 []) out)
at_once e out = record { refused-at-once = unfold ending answer_of in refl; untouched = unfold ending buffer_of written in refl }

sized-at : (oversized : Bool) (cs : List Column) (from to : Rows) (input out : List ℕ)
    → Sized oversized cs from to input out (ending (under_columns (cond oversized (bad (at 0 6)) (good cs)) (λ cs. run from to cs (length out) input)) out)
unfolding under_columns
sized-at true cs from to input out = at_once (at 0 6) out
sized-at false cs from to input out = done-stands from to cs input out (run from to cs (length out) input) (run-done from to cs (length out) input)

ended_at : (r : Result Refusal (List Column)) (from to : Rows) (input out : List ℕ)
    → Ended r from to input out (ending (under_columns (r >>= λ cs. cond (ltb most_input (length input)) (bad (at 0 6)) (good cs)) (λ cs. run from to cs (length out) input)) out)
unfolding under_columns
ended_at (good cs) from to input out = sized-at (ltb most_input (length input)) cs from to input out
ended_at (bad e) from to input out = at_once e out

numbered-at : (r : Result Refusal (List Column)) (from to : Rows) (input out : List ℕ) → Fails AtPlace r
    → (ending (under_columns r (λ cs. run from to cs (length out) input)) out).answer.number ≤ most_number
unfolding under_columns
numbered-at (good cs) from to input out f =
    let d = run-done from to cs (length out) input in
    number_of to cs (length out) (read from cs input) d.done (run from to cs (length out) input) out d.ended
numbered-at (bad e) from to input out (fails h) = unfold ending answer_of in omega (arith, h.0.1)

pub demand1 : Demand1 convert
unfolding convert converting front
demand1 =
    record {
      numbered = λ decls from to input out. numbered-at (front decls (length input)) from to input out (front-fails decls (length input));
      ended = λ decls from to input out. ended_at (declare decls) from to input out;
    }
