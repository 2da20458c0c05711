-- The calls by their front: refused there, the answer is the refusal and nothing is touched; else it is the rows, or the row asked for.
use Prim.Native.Nat.{ℕ}
use mathlib.Core.List.{List, []}
use mathlib.Core.Path.{◌∙◌, ◌≡◌}
use lib.ListN.{length}
use Rattle.fields.specs.Front.{front}
use Rattle.index.specs.Fetch.{Fetches, asked_for, fetch, fetch_indexed, fetch_under}
use Rattle.index.specs.Index.{Indexes, enter, index, indexing, starts_of, without_bytes}
use Rattle.rows.specs.Convert.{under_columns}
use Rattle.table.specs.Outcome.{answer_of, at, buffer_of, ending, written}
use Rattle.table.specs.Result.{bad, good}
use Rattle.table.specs.declared.Answer.{Answer}
use Rattle.table.specs.declared.Column.{Column}
use Rattle.table.specs.declared.Rows.{Rows}

module _ (decls : List ℕ) (from : Rows) (input : List ℕ) where
  module _ (entry : List ℕ) where
    pub index-refused : (n k : ℕ) → front decls (length input) ≡ bad (at k n) → Indexes decls from input entry (record { number = n; row = 0; column = k; rows = 0; bytes = 0 }) entry
    unfolding index indexing under_columns ending answer_of buffer_of written without_bytes at
    index-refused n k e = record { answers = rw e; leaves = rw e }

    pub rows-indexed : (cs : List Column) → front decls (length input) ≡ good cs → (a : Answer) (exit : List ℕ)
        → a ≡ without_bytes (answer_of (enter (length entry) 0 [] (starts_of (length input) from cs input)))
        → exit ≡ buffer_of (enter (length entry) 0 [] (starts_of (length input) from cs input)) entry → Indexes decls from input entry a exit
    unfolding index indexing under_columns ending
    rows-indexed cs e a exit x y = record { answers = x ∙ rw e; leaves = y ∙ rw e }

  module _ (index : List ℕ) (rows row : ℕ) (out : List ℕ) where
    pub fetch-refused : (n k : ℕ) → front decls (length input) ≡ bad (at k n)
        → Fetches decls from input index rows row out (record { number = n; row = 0; column = k; rows = 0; bytes = 0 }) out
    unfolding fetch fetch_under ending answer_of buffer_of written at
    fetch-refused n k e = record { answers = rw e; leaves = rw e }

    pub row-fetched : (cs : List Column) → front decls (length input) ≡ good cs → (a : Answer) (exit : List ℕ)
        → a ≡ asked_for row (answer_of (fetch_indexed from cs (length out) input index rows row))
        → exit ≡ buffer_of (fetch_indexed from cs (length out) input index rows row) out → Fetches decls from input index rows row out a exit
    unfolding fetch fetch_under ending
    row-fetched cs e a exit x y = record { answers = x ∙ rw e; leaves = y ∙ rw e }
