-- Line ends of the converter: a table says the same as what 2.11 makes of it (`read-ends` of crate rows), and a call sees no more of its input than
-- that and its size; what is written is lines, of which none has a 13.
use Prim.Native.Nat.{◌≤◌, ℕ}
use native.Mathlib.Omega.{arith}
use mathlib.Core.List.{List, []}
use mathlib.Core.Path.{◌∙◌, ◌≡◌, ap, refl, sym}
use lib.ListN.{length}
use borrow.Author.Tests.{le-ltb}
use Rattle.demands.proofs.Demand1.{output-of}
use Rattle.demands.proofs.Demand3.{same-ending}
use Rattle.demands.proofs.Writing.{Writes, all-written, next_row, no_room, unread, unwritten, writes}
use Rattle.demands.specs.LineEnds.{ProcessorUnseen}
use Rattle.fields.specs.Fields.{declare}
use Rattle.fields.specs.Front.{front}
use Rattle.rows.proofs.LineEnds.{read-ends, row-no-return}
use Rattle.rows.specs.Convert.{convert, converting, under_columns}
use Rattle.rows.specs.Stream.{Table, read, run, write}
use Rattle.table.proofs.Laws.{holds_at}
use Rattle.table.proofs.LineEnds.{NoReturn, line-ends-kept, line-ends-le, no-return-append}
use Rattle.table.specs.LineEnds.{line_ends}
use Rattle.table.specs.Outcome.{Outcome, Refusal, most_input, written}
use Rattle.table.specs.Result.{Result, ◌>>=◌, bad, good}
use Rattle.table.specs.declared.Column.{Column}
use Rattle.table.specs.declared.Rows.{Rows}
use Rattle.table.specs.declared.Rows.TheVariants.{TableData}

-- ---- in front

pub ends-converted : (decls : List ℕ) (to : Rows) (s : List ℕ) (room : ℕ) → length s ≤ most_input
    → converting decls TableData to (line_ends s) room ≡ converting decls TableData to s room
unfolding converting front
ends-converted decls to s room h = rw (le-ltb most_input (length (line_ends s)) (omega (arith, line-ends-le s)), le-ltb most_input (length s) h) (go (declare decls))
  where
    go : (r : Result Refusal (List Column))
        → under_columns (r >>= λ cs. good cs) (λ cs. run TableData to cs room (line_ends s)) ≡ under_columns (r >>= λ cs. good cs) (λ cs. run TableData to cs room s)
    go (good cs) = unfold under_columns run in rw (read-ends cs s)
    go (bad e) = unfold under_columns in refl

-- ---- behind

written-no-return : (cs : List Column) (room r : ℕ) (out : List ℕ) (t : Table) → NoReturn out → NoReturn (written (write TableData cs room r out t))
written-no-return cs room r out t h = go (writes TableData cs room r out t) h
  where
    go : {r : ℕ} {out : List ℕ} {t : Table} {o : Outcome} → Writes TableData cs room r out t o → NoReturn out → NoReturn (written o)
    go all-written h = unfold written in h
    go unread h = unfold written in h
    go (unwritten q) h = unfold written in h
    go (no_room q f) h = unfold written in h
    go {out = out} (next_row {b = b} q f w) h = go w (no-return-append out b h (holds_at (row-no-return cs _) q))

converted-no-return : (decls : List ℕ) (from : Rows) (s : List ℕ) (room : ℕ) → NoReturn (written (converting decls from TableData s room))
unfolding converting
converted-no-return decls from s room = go (front decls (length s))
  where
    go : (r : Result Refusal (List Column)) → NoReturn (written (under_columns r (λ cs. run from TableData cs room s)))
    go (good cs) = unfold under_columns run in written-no-return cs room 0 [] (read from cs s) tt
    go (bad e) = unfold under_columns written in tt

pub processor-unseen : ProcessorUnseen convert
processor-unseen =
    record {
      in-front = λ decls to input p q h l.
          unfold convert in same-ending (converting decls TableData to input (length p)) (converting decls TableData to (line_ends input) (length q)) p q
          (ap (converting decls TableData to (line_ends input)) l ∙ ends-converted decls to input (length p) h);
      behind = λ decls from input out.
          unfold convert in
          ap line_ends (output-of (converting decls from TableData input (length out)) out)
          ∙ line-ends-kept (written (converting decls from TableData input (length out))) (converted-no-return decls from input (length out))
          ∙ sym (output-of (converting decls from TableData input (length out)) out);
    }
