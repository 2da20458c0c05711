-- The numbers of a declaration's answer, and the kinds of rows by number: by cases on the definitions.
use Rattle.std.specs.Prelude.{Err, None, Ok, Result as Returned, Some}
use Prim.Native.Nat.{ℕ}
use mathlib.Core.List.{List, [], ◌∷◌}
use mathlib.Core.Path.{◌≡◌, ap, sym}
use Rattle.declaring.specs.Clauses.{Answered}
use Rattle.sailmortar.specs.Face.{Faced, between_kinds, binary_of, declared_numbers, of_kind, rows_of}
use Rattle.table.proofs.ColumnList.{listed-length}
use Rattle.table.specs.Outcome.{Refusal, at}
use Rattle.table.specs.Reasons.{number_of}
use Rattle.table.specs.Result.{Result, bad, good}
use Rattle.table.specs.declared.Column.{Column}
use Rattle.table.specs.declared.Columns.{Columns}
use Rattle.table.specs.declared.Refused.{Refused}
use Rattle.table.specs.declared.Rows.{Rows}

-- number, 0, place, columns, 0
abbrev pub numbers_of : Returned Columns Refused → List ℕ
numbers_of (Ok columns) = 0 ∷ 0 ∷ 0 ∷ columns.count ∷ 0 ∷ []
numbers_of (Err f) = number_of f.reason ∷ 0 ∷ f.column ∷ 0 ∷ 0 ∷ []

pub declared-numbers : {r : Result Refusal (List Column)} (answer : Returned Columns Refused) → Answered r answer → numbers_of answer ≡ declared_numbers r
unfolding declared_numbers at
declared-numbers (Ok columns) a = rw a.says (ap (λ (n : ℕ). 0 ∷ 0 ∷ 0 ∷ n ∷ 0 ∷ []) (sym (listed-length columns)))
declared-numbers (Err f) a = rw a.says

-- ---- a call, by what its one number names, or its two

module _ (from : ℕ) (otherwise : Faced) (call : Rows → Faced) where
  pub of_none : binary_of from ≡ None → of_kind (binary_of from) otherwise call ≡ otherwise
  unfolding of_kind
  of_none e = rw e

  pub of-binary : (source : Rows) → binary_of from ≡ Some source → of_kind (binary_of from) otherwise call ≡ call source
  unfolding of_kind
  of-binary source e = rw e

module _ (from to : ℕ) (otherwise : Faced) (call : Rows → Rows → Faced) where
  pub no_source : rows_of from ≡ None → between_kinds (rows_of from) (rows_of to) otherwise call ≡ otherwise
  unfolding between_kinds
  no_source e = rw e

  module _ (source : Rows) (e : rows_of from ≡ Some source) where
    pub no_target : rows_of to ≡ None → between_kinds (rows_of from) (rows_of to) otherwise call ≡ otherwise
    unfolding between_kinds
    no_target f = rw (e, f)

    pub known : (target : Rows) → rows_of to ≡ Some target → between_kinds (rows_of from) (rows_of to) otherwise call ≡ call source target
    unfolding between_kinds
    known target f = rw (e, f)
