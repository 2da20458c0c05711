-- The theorems: the grammar and the readers agree, in both directions; so what a text spells is one thing; and a call is accepted exactly
-- when its declarations and its input are in the grammar, its rows have a form in the target, and there is room.
use Prim.Native.Nat.{◌+◌, ◌≤◌, suc, zero, ℕ}
use native.Mathlib.Nat.{le_refl}
use mathlib.Core.List.{List, [], ◌++◌, ◌∷◌}
use mathlib.Core.Logic.{◌↔◌}
use mathlib.Core.Path.{◌∙◌, ◌≡◌, ap, ap₂, refl, subst, subst⁻¹, sym}
use lib.ListN.{drop, length}
use lib.Seq.{take_at}
use Rattle.demands.proofs.Demand2.{accepted-ends, declared-columns, demand2, lines-written}
use Rattle.demands.proofs.Writing.{lines-good, up-to-all}
use Rattle.demands.specs.Demands.{Accepted, Converter, Demand2, ThereAndBack, Valid, output}
use Rattle.demands.specs.Tables.{Ends, count, lines, up_to}
use Rattle.fields.specs.Fields.{declare}
use Rattle.grammar.proofs.ColumnsRead.{declares-is, declares-read}
use Rattle.grammar.proofs.FormsWritten.{form-is, form-written}
use Rattle.grammar.proofs.Fronts.{same_good}
use Rattle.grammar.proofs.Streams.{IsFinished, binary-stream-is, binary-stream-read, binary2-stream-is, binary2-stream-read, text-table-is, text-table-read}
use Rattle.grammar.proofs.WrittenBytes.{IsBinary, lines-bytes, the-binary, the-binary2}
use Rattle.grammar.specs.Declarations.{Declares}
use Rattle.grammar.specs.Exact.{BothWays, InGrammar, table_of}
use Rattle.grammar.specs.Valid.{HasForm, HaveForms, Spells}
use Rattle.rows.proofs.Sequences.{AllRows}
use Rattle.rows.proofs.Laws.{FitsAll, read_fits}
use Rattle.rows.specs.Convert.{convert}
use Rattle.rows.specs.Stream.{Table, read, write_cell, write_cells, write_end, write_row, write_start}
use Rattle.rows.specs.Sequence.{finished, row, stopped}
use Rattle.table.proofs.Laws.{each_weaken, holds_at, the}
use Rattle.table.specs.All.{AreBytes}
use Rattle.table.specs.Cell.{AreColumns, Cell, Each, Fits}
use Rattle.table.specs.Outcome.{Refusal, accepted, answer_of, at, buffer_of, ending, most_input, written}
use Rattle.table.specs.Result.{IsGood, Result, ◌>>=◌, bad, good, refused_as}
use Rattle.table.specs.declared.Column.{Column}
use Rattle.table.specs.declared.Rows.{Rows}
use Rattle.table.specs.declared.Rows.TheVariants.{Binary, Binary2, TableData}

-- ---- rows

module _ (cs : List Column) (i : AreColumns cs) where
  pub spells-read : (from : Rows) (s : List ℕ) (rows : List (List Cell)) → Spells from cs s rows → read from cs s ≡ table_of rows
  spells-read TableData s rows h = text-table-read cs i h
  spells-read Binary s rows h = binary-stream-read cs i h
  spells-read Binary2 s rows h = binary2-stream-read cs i h

  pub spells-is : (from : Rows) (s : List ℕ) (rows : List (List Cell)) → AreBytes s → read from cs s ≡ table_of rows → Spells from cs s rows
  spells-is TableData s rows a e = text-table-is cs i rows s e
  spells-is Binary s rows a e = binary-stream-is cs i rows s a e
  spells-is Binary2 s rows a e = binary2-stream-is cs i rows s a e

  -- THE ROWS: bytes spell rows exactly when they are read to their end as those rows
  pub spells-exactly : (from : Rows) (s : List ℕ) (rows : List (List Cell)) → AreBytes s → Spells from cs s rows ↔ (read from cs s ≡ table_of rows)
  spells-exactly from s rows a = (spells-read from s rows, spells-is from s rows a)

-- ---- what a text spells is one thing

same_rows : (rows others : List (List Cell)) → table_of rows ≡ table_of others → rows ≡ others
unfolding table_of
same_rows [] [] e = refl
same_rows [] (ys ∷ others) e = absurd (subst IsFinished e tt)
same_rows (xs ∷ rows) [] e = absurd (subst⁻¹ IsFinished e tt)
same_rows (xs ∷ rows) (ys ∷ others) e =
    let h : xs ≡ ys = cc e in
    let t : table_of rows ≡ table_of others = cc e in
    ap₂ (λ (x : List Cell) (y : List (List Cell)). x ∷ y) h (same_rows rows others t)

pub spells_one : (cs : List Column) → AreColumns cs → (from : Rows) (s : List ℕ) (rows others : List (List Cell)) → Spells from cs s rows → Spells from cs s others → rows ≡ others
spells_one cs i from s rows others h k = same_rows rows others (sym (spells-read cs i from s rows h) ∙ spells-read cs i from s others k)

pub declares-one : (s : List ℕ) (cs ds : List Column) → Declares s cs → Declares s ds → cs ≡ ds
declares-one s cs ds h k = same_good (sym (declares-read h) ∙ declares-read k)

pub declares-columns : (s : List ℕ) (cs : List Column) → Declares s cs → AreColumns cs
declares-columns s cs d = declared-columns s cs (declares-read d)

-- ---- tables that end

pub table-ends : (rows : List (List Cell)) → Ends (table_of rows)
unfolding table_of
table-ends [] = tt
table-ends (xs ∷ rows) = table-ends rows

pub table-count : (rows : List (List Cell)) → count (table_of rows) ≡ length rows
unfolding table_of count
table-count [] = refl
table-count (xs ∷ rows) = ap suc (table-count rows)

rows_of : (t : Table) → Ends t → (rows : List (List Cell)) × (t ≡ table_of rows)
unfolding table_of
rows_of finished e = ([], refl)
rows_of (stopped n) e = absurd e
rows_of (row xs t) e = let r = rows_of t e in (xs ∷ r.0, ap (row xs) r.1)

-- ---- forms

cells-have : (to : Rows) (cs : List Column) (xs : List Cell) (k : ℕ) → Each Fits cs xs → IsGood (write_cells to cs xs k) → Each (λ (c : Column) (x : Cell). HasForm c to x) cs xs
unfolding write_cells
cells-have to [] [] k f g = tt
cells-have to [] (x ∷ xs) k f g = f
cells-have to (c ∷ cs) [] k f g = f
cells-have to (c ∷ cs) (x ∷ xs) k f g =
    let h : IsGood (write_cell to c x) × IsGood (write_cells to cs xs (k + 1)) = both (write_cell to c x) (write_cells to cs xs (k + 1)) g in
    (form-is to c x h.0, cells-have to cs xs (k + 1) f.1 h.1)
  where
    both : (p : Result ℕ (List ℕ)) (q : Result Refusal (List ℕ)) → IsGood (refused_as (at k) p >>= λ b. q >>= λ r. good (b ++ r)) → IsGood p × IsGood q
    both (good b) (good r) g = (tt, tt)
    both (good b) (bad e) g = absurd g
    both (bad n) q g = absurd g

rows-have : (to : Rows) (cs : List Column) (rows : List (List Cell)) → AllRows (FitsAll cs) (table_of rows) → IsGood (lines to cs (table_of rows)) → HaveForms cs to rows
unfolding table_of lines write_row
rows-have to cs [] f g = tt
rows-have to cs (xs ∷ rows) f g =
    let h : IsGood (write_cells to cs xs 0) × IsGood (lines to cs (table_of rows)) = both (write_cells to cs xs 0) (λ b. write_start to xs ++ (b ++ write_end to)) (lines to cs (table_of rows)) g in
    (cells-have to cs xs 0 f.0 h.0, rows-have to cs rows f.1 h.1)
  where
    both : (p : Result Refusal (List ℕ)) (line : List ℕ → List ℕ) (q : Result Refusal (List ℕ)) → IsGood ((p >>= λ b. good (line b)) >>= λ b. q >>= λ r. good (b ++ r)) → IsGood p × IsGood q
    both (good b) line (good r) g = (tt, tt)
    both (good b) line (bad e) g = absurd g
    both (bad n) line q g = absurd g

pub rows_written : (to : Rows) (cs : List Column) (rows : List (List Cell)) → HaveForms cs to rows → AllRows (Each (λ (c : Column) (x : Cell). IsGood (write_cell to c x)) cs) (table_of rows)
unfolding table_of
rows_written to cs [] h = tt
rows_written to cs (xs ∷ rows) h = (each_weaken (λ (c : Column) (x : Cell). HasForm c to x) _ (λ c x f. form-written f) cs xs h.0, rows_written to cs rows h.1)

is-good : {E A : Type 0} {r : Result E A} {a : A} → r ≡ good a → IsGood r
is-good e = rw e tt

-- ---- acceptance

valid-in : (decls : List ℕ) (from to : Rows) (input : List ℕ) (room : ℕ) → AreBytes input → Valid decls from to input room → InGrammar decls from to input room
unfolding most_input
valid-in decls from to input room a v =
    let cs : List Column = v.columns in
    let i : AreColumns cs = declared-columns decls cs v.declared in
    let r : (rows : List (List Cell)) × (read from cs input ≡ table_of rows) = rows_of (read from cs input) v.ends in
    record {
      columns = cs;
      declared = declares-is decls cs v.declared;
      sized = v.sized;
      rows = r.0;
      spelled = spells-is cs i from input r.0 a r.1;
      forms = rows-have to cs r.0 (subst (AllRows (FitsAll cs)) r.1 (read_fits from cs input a)) (is-good (ap (lines to cs) (sym r.1) ∙ v.forms));
      fits = λ body e. subst (λ (b : List ℕ). length b ≤ room) (same_good (sym (ap (lines to cs) (sym r.1) ∙ v.forms) ∙ e)) v.fits;
    }

in-valid : (decls : List ℕ) (from to : Rows) (input : List ℕ) (room : ℕ) → InGrammar decls from to input room → Valid decls from to input room
unfolding most_input
in-valid decls from to input room g =
    let cs : List Column = g.columns in
    let q : read from cs input ≡ table_of g.rows = spells-read cs (declares-columns decls cs g.declared) from input g.rows g.spelled in
    let b : (body : List ℕ) × (lines to cs (table_of g.rows) ≡ good body) = the (lines to cs (table_of g.rows)) (lines-good to cs (table_of g.rows) (rows_written to cs g.rows g.forms)) in
    record {
      columns = cs;
      declared = declares-read g.declared;
      sized = g.sized;
      ends = subst⁻¹ Ends q (table-ends g.rows);
      body = b.0;
      forms = ap (lines to cs) q ∙ b.1;
      fits = g.fits b.0 b.1;
    }

-- DEMAND 2, "It accepts exactly what VOTable 1.4, as narrowed in document 01, calls valid, 01's writing refusals apart": of any converter that
-- meets the demand as crate demands states it, and for every call
pub accepts-exactly-of : (f : Converter) → Demand2 f → (decls : List ℕ) (from to : Rows) (input out : List ℕ) → AreBytes input
    → Accepted (f decls from to input out) ↔ InGrammar decls from to input (length out)
accepts-exactly-of f d decls from to input out a = (
  (λ h. valid-in decls from to input (length out) a ((d.exactly decls from to input out).0 h)),
  (λ g. (d.exactly decls from to input out).1 (in-valid decls from to input (length out) g)),
)

-- so of ours
pub accepts-exactly : (decls : List ℕ) (from to : Rows) (input out : List ℕ) → AreBytes input
    → Accepted (convert decls from to input out) ↔ InGrammar decls from to input (length out)
accepts-exactly = accepts-exactly-of convert demand2

-- "rows done equal to the rows in the input"
pub accepts-rows : (decls : List ℕ) (from to : Rows) (input out : List ℕ) (g : InGrammar decls from to input (length out)) → (convert decls from to input out).answer.rows ≡ length g.rows
accepts-rows decls from to input out g =
    (accepted-ends decls from to input out g.columns (declares-read g.declared) ((demand2.exactly decls from to input out).1 (in-valid decls from to input (length out) g))).1
    ∙ ap count (spells-read g.columns (declares-columns decls g.columns g.declared) from input g.rows g.spelled) ∙ table-count g.rows

-- ---- "each row it writes means what the row it read means, cell by cell, nulls included"

up_to_fits : (cs : List Column) (m : ℕ) (t : Table) → AllRows (FitsAll cs) t → AllRows (FitsAll cs) (up_to m t)
unfolding up_to
up_to_fits cs zero t f = tt
up_to_fits cs (suc m) finished f = tt
up_to_fits cs (suc m) (stopped e) f = tt
up_to_fits cs (suc m) (row xs t) f = (f.0, up_to_fits cs m t f.1)

-- what a call writes in a binary kind are bytes
output-bytes : (decls : List ℕ) (from : Rows) {to : Rows} → IsBinary to → (input out : List ℕ) (cs : List Column) → declare decls ≡ good cs → AreBytes input
    → AreBytes (output (convert decls from to input out))
output-bytes decls from {to} b input out cs q a =
    let done = (convert decls from to input out).answer.rows in
    holds_at (lines-bytes b cs (declared-columns decls cs q) (up_to done (read from cs input)) (up_to_fits cs done (read from cs input) (read_fits from cs input a)))
    (lines-written decls from to input out cs q)

-- what is read back as these rows spells them
pub back-spells : (decls : List ℕ) (from to : Rows) (input out : List ℕ) (cs : List Column) → declare decls ≡ good cs → AreBytes input → (rows : List (List Cell))
    → read to cs (output (convert decls from to input out)) ≡ table_of rows → Spells to cs (output (convert decls from to input out)) rows
back-spells decls from TableData input out cs q a rows e = text-table-is cs (declared-columns decls cs q) rows (output (convert decls from TableData input out)) e
back-spells decls from Binary input out cs q a rows e =
    binary-stream-is cs (declared-columns decls cs q) rows (output (convert decls from Binary input out)) (output-bytes decls from the-binary input out cs q a) e
back-spells decls from Binary2 input out cs q a rows e =
    binary2-stream-is cs (declared-columns decls cs q) rows (output (convert decls from Binary2 input out)) (output-bytes decls from the-binary2 input out cs q a) e

-- the output of an accepted call is in the grammar of the target, and spells the rows that the input spells
pub writes-spelled : (decls : List ℕ) (from to : Rows) (input out : List ℕ) → AreBytes input → (g : InGrammar decls from to input (length out))
    → Spells to g.columns (output (convert decls from to input out)) g.rows
writes-spelled decls from to input out a g =
    let cs : List Column = g.columns in
    let q : declare decls ≡ good cs = declares-read g.declared in
    let r : read from cs input ≡ table_of g.rows = spells-read cs (declares-columns decls cs g.declared) from input g.rows g.spelled in
    back-spells decls from to input out cs q a g.rows
    (demand2.means decls from to input out cs q a
    ∙ ap₂ up_to (accepts-rows decls from to input out g ∙ sym (table-count g.rows)) r
    ∙ up-to-all (table_of g.rows) (table-ends g.rows))

-- ---- TABLEDATA to BINARY2 and back

ending-output : (n : ℕ) (body : List ℕ) → output (ending (accepted n body) body) ≡ body
unfolding output ending answer_of buffer_of written
ending-output n body = take_at body (drop (length body) body) (length body) refl

pub both_ways : (decls : List ℕ) (cs : List Column) (input : List ℕ) (rows : List (List Cell)) → Declares decls cs → AreBytes input → length input ≤ 1073741824
    → Spells TableData cs input rows → BothWays convert decls cs input rows
unfolding most_input
both_ways decls cs input rows d a l h =
    let q : declare decls ≡ good cs = declares-read d in
    let i : AreColumns cs = declares-columns decls cs d in
    let r : read TableData cs input ≡ table_of rows = spells-read cs i TableData input rows h in
    let b : ThereAndBack convert decls cs input = demand2.there_and_back decls cs input q l (subst⁻¹ Ends r (table-ends rows)) in
    let n : count (read TableData cs input) ≡ length rows = ap count r ∙ table-count rows in
    let e : output (convert decls TableData Binary2 input b.binary) ≡ b.binary = ap output (b.there b.binary (le_refl _)) ∙ ending-output _ b.binary in
    record {
      binary = b.binary;
      text = b.text;
      binary-spelled = binary2-stream-is cs i rows b.binary (subst AreBytes e (output-bytes decls TableData the-binary2 input b.binary cs q a)) (b.same ∙ r);
      text-spelled = text-table-is cs i rows b.text (b.same-again ∙ r);
      there = λ out k. b.there out k ∙ ap (λ (m : ℕ). ending (accepted m b.binary) out) n;
      back = λ k out m. b.back k out m ∙ ap (λ (m : ℕ). ending (accepted m b.text) out) n;
    }
