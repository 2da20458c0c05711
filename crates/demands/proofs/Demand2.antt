-- Demand 2 of the converter. What is written reads back since each line does (Writing); acceptance is validity since the outcome is
-- accepted just where the table ends, every row has a line and the lines have room.
use Prim.Native.Nat.{◌≤◌, ℕ}
use native.Mathlib.Omega.{arith}
use mathlib.Core.Bool.{Bool, false, true}
use mathlib.Core.List.{List}
use mathlib.Core.Path.{◌∙◌, ◌≡◌, ap, refl, subst, sym}
use lib.Dec.{ltb}
use lib.ListN.{length, length-take}
use borrow.Author.Tests.{le-ltb, ltb-false, ltb-true}
use Rattle.demands.proofs.Demand1.{demand1}
use Rattle.demands.proofs.Writing.{accepts, lines-good, lines-read, stop-behind, stops-behind, up-to-all}
use Rattle.demands.specs.Demands.{Accepted, Demand2, Ended, RowsStand, Sized, ThereAndBack, Valid, Why, all-rows, in-reading, in-writing, no-space, output}
use Rattle.demands.specs.Tables.{Ends, count, lines, up_to}
use Rattle.fields.proofs.Laws.{declare-is}
use Rattle.fields.proofs.Refusals.{AtPlace}
use Rattle.fields.proofs.Front.{front-fails, front-oversized, front-undeclared}
use Rattle.fields.specs.Fields.{declare}
use Rattle.fields.specs.Front.{front}
use Rattle.rows.proofs.Calls.{converts}
use Rattle.rows.proofs.Sequences.{AllRows, Stops, rows-weaken}
use Rattle.rows.proofs.Laws.{FitsAll, Placed, read_fits, read-stops, text-rows, write-row-fails}
use Rattle.rows.specs.Convert.{convert, converting, under_columns}
use Rattle.rows.specs.Stream.{Table, read, run, write_cell}
use Rattle.table.proofs.Laws.{each_weaken, fails-at, holds_at, the}
use Rattle.table.specs.Cell.{AreColumns, Each, Fits}
use Rattle.table.specs.Outcome.{Call, Outcome, Refusal, accepted, answer_of, at, ending, most_input, most_number}
use Rattle.table.specs.Result.{Result, bad, good}
use Rattle.table.specs.declared.Column.{Column}
use Rattle.table.specs.declared.Rows.{Rows}
use Rattle.table.specs.declared.Rows.TheVariants.{Binary2, TableData}
use Rattle.tabledata.proofs.Laws.{TextFits}

-- ---- a call under good declarations

pub declared-columns : (decls : List ℕ) (cs : List Column) → declare decls ≡ good cs → AreColumns cs
declared-columns decls cs q = holds_at (declare-is decls) q

ended_by : (decls : List ℕ) (from to : Rows) (input out : List ℕ) (cs : List Column) → declare decls ≡ good cs
    → Sized (ltb most_input (length input)) cs from to input out (convert decls from to input out)
ended_by decls from to input out cs q =
    subst (λ (r : Result Refusal (List Column)). Ended r from to input out (convert decls from to input out)) q (demand1.ended decls from to input out)

pub stands : (decls : List ℕ) (from to : Rows) (input out : List ℕ) (cs : List Column) → declare decls ≡ good cs → length input ≤ most_input
    → RowsStand cs from to input out (convert decls from to input out)
stands decls from to input out cs q h =
    subst (λ (b : Bool). Sized b cs from to input out (convert decls from to input out)) (le-ltb most_input (length input) h) (ended_by decls from to input out cs q)

-- the output is the lines of the rows done, whether the input has its size or not
pub lines-written : (decls : List ℕ) (from to : Rows) (input out : List ℕ) (cs : List Column) → declare decls ≡ good cs
    → lines to cs (up_to (convert decls from to input out).answer.rows (read from cs input)) ≡ good (output (convert decls from to input out))
lines-written decls from to input out cs q = go (ltb most_input (length input)) (convert decls from to input out) (ended_by decls from to input out cs q)
  where
    go : (b : Bool) (c : Call) → Sized b cs from to input out c → lines to cs (up_to c.answer.rows (read from cs input)) ≡ good (output c)
    go false c s = s.lines-whole
    go true c s = unfold lines up_to output in rw s.refused-at-once

-- ---- what was accepted

-- a call that is accepted has done all the rows: no refusal has the number 0
all_done : (to : Rows) (cs : List Column) (room : ℕ) (t : Table) (rows size n r k : ℕ) → Stops (Placed 8 most_number (length cs)) t → Why to cs room t rows size n r k
    → n ≡ 0 → Ends t × (rows ≡ count t)
all_done to cs room t rows size n r k s (all-rows e q) z = (e, q)
all_done to cs room t rows size n r k s (in-reading {e = e} q) z =
    let p : Placed 8 most_number (length cs) e = stops-behind (Placed 8 most_number (length cs)) (stop-behind rows t e q) s in absurd (omega (arith, p.0.0, z))
all_done to cs room t rows size n r k s (in-writing {e = e} {xs = xs} q w) z =
    let p : Placed 14 16 (length cs) e = fails-at (write-row-fails to cs xs) w in absurd (omega (arith, p.0.0, z))
all_done to cs room t rows size n r k s (no-space q w h) z = absurd (omega (arith, z))

-- ---- acceptance is validity

valid-of : (decls : List ℕ) (from to : Rows) (input out : List ℕ) (cs : List Column) → declare decls ≡ good cs → length input ≤ most_input
    → Accepted (convert decls from to input out) → Valid decls from to input (length out)
valid-of decls from to input out cs q h a =
    let s : RowsStand cs from to input out (convert decls from to input out) = stands decls from to input out cs q h in
    let e = all_done to cs (length out) (read from cs input) _ _ _ _ _ (read-stops from cs input) s.why a in
    record {
      columns = cs;
      declared = q;
      sized = h;
      ends = e.0;
      body = output (convert decls from to input out);
      forms = ap (lines to cs) (sym (ap (λ (n : ℕ). up_to n (read from cs input)) e.1 ∙ up-to-all (read from cs input) e.0)) ∙ s.lines-whole;
      fits = output-fits (convert decls from to input out) out s.within-room;
    }
  where
    output-fits : (c : Call) (out : List ℕ) → c.answer.bytes ≤ length out → length (output c) ≤ length out
    output-fits c out h = unfold output in rw length-take (omega arith)

-- a call that is refused at its front is not accepted
not-past : (decls : List ℕ) (from to : Rows) (input out : List ℕ) (e : Refusal) → front decls (length input) ≡ bad e → ¬ Accepted (convert decls from to input out)
unfolding convert converting under_columns ending answer_of
not-past decls from to input out e q a = let p : AtPlace e = fails-at (front-fails decls (length input)) q in absurd (omega (arith, p.0.0, rw q at a))

accepted-valid : (decls : List ℕ) (from to : Rows) (input out : List ℕ) → Accepted (convert decls from to input out) → Valid decls from to input (length out)
accepted-valid decls from to input out a = go (declare decls) refl
  where
    sized : (cs : List Column) → declare decls ≡ good cs → (b : Bool) → ltb most_input (length input) ≡ b → Valid decls from to input (length out)
    sized cs q true h = absurd (not-past decls from to input out (at 0 6) (front-oversized decls (length input) cs q (ltb-true most_input (length input) h)) a)
    sized cs q false h = valid-of decls from to input out cs q (ltb-false most_input (length input) h) a

    go : (r : Result Refusal (List Column)) → declare decls ≡ r → Valid decls from to input (length out)
    go (bad e) q = absurd (not-past decls from to input out e (front-undeclared decls (length input) e q) a)
    go (good cs) q = sized cs q (ltb most_input (length input)) refl

-- under its declarations
pub accepted-ends : (decls : List ℕ) (from to : Rows) (input out : List ℕ) (cs : List Column) → declare decls ≡ good cs → Accepted (convert decls from to input out)
    → Ends (read from cs input) × ((convert decls from to input out).answer.rows ≡ count (read from cs input))
accepted-ends decls from to input out cs q a =
    let v : Valid decls from to input (length out) = accepted-valid decls from to input out a in
    all_done to cs (length out) (read from cs input) _ _ _ _ _ (read-stops from cs input) (stands decls from to input out cs q v.sized).why a

pub runs : (from to : Rows) (cs : List Column) (s body : List ℕ) (t : Table) → read from cs s ≡ t → Ends t → lines to cs t ≡ good body
    → (room : ℕ) → length body ≤ room → run from to cs room s ≡ accepted (count t) body
unfolding run
runs from to cs s body t q e l room h = rw q (accepts to cs t room body e l h)

done-whole : (decls : List ℕ) (from to : Rows) (input out : List ℕ) (cs : List Column) (body : List ℕ) → declare decls ≡ good cs → length input ≤ most_input
    → Ends (read from cs input) → lines to cs (read from cs input) ≡ good body → length body ≤ length out
    → convert decls from to input out ≡ ending (accepted (count (read from cs input)) body) out
done-whole decls from to input out cs body q h e l f =
    converts decls from to input out cs q h ∙ ap (λ (o : Outcome). ending o out) (runs from to cs input body (read from cs input) refl e l (length out) f)

valid-accepted : (decls : List ℕ) (from to : Rows) (input out : List ℕ) → Valid decls from to input (length out) → Accepted (convert decls from to input out)
valid-accepted decls from to input out v =
    ap (λ (c : Call). c.answer.number) (done-whole decls from to input out v.columns v.body v.declared v.sized v.ends v.forms v.fits)
    ∙ (unfold ending answer_of in refl)

-- ---- TABLEDATA to BINARY2 and back

all_read : (to : Rows) (cs : List Column) → AreColumns cs → (t : Table) → Ends t → AllRows (FitsAll cs) t → (body : List ℕ) → lines to cs t ≡ good body → read to cs body ≡ t
all_read to cs i t e f body l = lines-read to cs i (count t) t f body (ap (lines to cs) (up-to-all t e) ∙ l) ∙ up-to-all t e

there-and-back-of : (decls : List ℕ) (cs : List Column) (input : List ℕ) → declare decls ≡ good cs → length input ≤ most_input
    → Ends (read TableData cs input) → ThereAndBack convert decls cs input
unfolding write_cell
there-and-back-of decls cs input q h e =
    let t : Table = read TableData cs input in
    go (the (lines Binary2 cs t) (lines-good Binary2 cs t (rows-weaken (Each TextFits cs) _ (each_weaken TextFits _ (λ c x h. tt) cs) t (text-rows cs input))))
    (the (lines TableData cs t) (lines-good TableData cs t (rows-weaken (Each TextFits cs) _ (each_weaken TextFits _ (λ c x h. h.writes) cs) t (text-rows cs input))))
    (rows-weaken (Each TextFits cs) (FitsAll cs) (each_weaken TextFits Fits (λ c x h. h.fits) cs) t (text-rows cs input))
  where
    go : (b : List ℕ) × (lines Binary2 cs (read TableData cs input) ≡ good b) → (d : List ℕ) × (lines TableData cs (read TableData cs input) ≡ good d) → AllRows (FitsAll cs) (read TableData cs input)
        → ThereAndBack convert decls cs input
    go b d f =
        let i : AreColumns cs = declared-columns decls cs q in
        let same : read Binary2 cs b.0 ≡ read TableData cs input = all_read Binary2 cs i (read TableData cs input) e f b.0 b.1 in
        record {
          binary = b.0;
          text = d.0;
          there = λ out r. done-whole decls TableData Binary2 input out cs b.0 q h e b.1 r;
          same = same;
          back = λ k out r. converts decls Binary2 TableData b.0 out cs q k
              ∙ ap (λ (o : Outcome). ending o out) (runs Binary2 TableData cs b.0 d.0 (read TableData cs input) same e d.1 (length out) r);
          same-again = all_read TableData cs i (read TableData cs input) e f d.0 d.1;
        }

pub demand2 : Demand2 convert
demand2 =
    record {
      exactly = λ decls from to input out. (accepted-valid decls from to input out, valid-accepted decls from to input out);
      means = λ decls from to input out cs q a.
          lines-read to cs (declared-columns decls cs q) (convert decls from to input out).answer.rows (read from cs input) (read_fits from cs input a)
          (output (convert decls from to input out)) (lines-written decls from to input out cs q);
      does-all = done-whole;
      there_and_back = there-and-back-of;
    }
