-- The whole call by its front: refused there, its answer is the refusal and nothing is touched; else it is the rows.
use Prim.Native.Nat.{◌≤◌, ℕ}
use mathlib.Core.List.{List}
use mathlib.Core.Path.{◌∙◌, ◌≡◌, ap, sym}
use lib.ListN.{length}
use Rattle.fields.proofs.Front.{front-declared}
use Rattle.fields.specs.Fields.{declare}
use Rattle.fields.specs.Front.{front}
use Rattle.rows.specs.Convert.{Converts, convert, converting, under_columns}
use Rattle.rows.specs.Stream.{run}
use Rattle.table.specs.Outcome.{Call, answer_of, at, buffer_of, ending, most_input, written}
use Rattle.table.specs.Result.{bad, good}
use Rattle.table.specs.declared.Answer.{Answer}
use Rattle.table.specs.declared.Column.{Column}
use Rattle.table.specs.declared.Rows.{Rows}

module _ (decls : List ℕ) (from to : Rows) (input out : List ℕ) where
  pub refused-front : (n k : ℕ) → front decls (length input) ≡ bad (at k n) → Converts decls from to input out (record { number = n; row = 0; column = k; rows = 0; bytes = 0 }) out
  unfolding convert converting under_columns ending answer_of buffer_of written at
  refused-front n k e = record { answers = rw e; leaves = rw e }

  module _ (cs : List Column) where
    pub past-front : front decls (length input) ≡ good cs → convert decls from to input out ≡ ending (run from to cs (length out) input) out
    unfolding convert converting under_columns
    past-front e = rw e

    pub rows-converted : front decls (length input) ≡ good cs → (a : Answer) (exit : List ℕ)
        → a ≡ answer_of (run from to cs (length out) input) → exit ≡ buffer_of (run from to cs (length out) input) out → Converts decls from to input out a exit
    unfolding ending
    rows-converted e a exit x y =
        record { answers = x ∙ ap (λ (c : Call). c.answer) (sym (past-front e)); leaves = y ∙ ap (λ (c : Call). c.buffer) (sym (past-front e)) }

    pub converts : declare decls ≡ good cs → length input ≤ most_input → convert decls from to input out ≡ ending (run from to cs (length out) input) out
    converts d h = past-front (front-declared decls (length input) cs d h)
