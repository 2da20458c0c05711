-- The front of a call: each way out of it, the numbers that it refuses with, and that what it hands on are columns.
use Prim.Native.Nat.{◌<◌, ◌≤◌, zero-le, ℕ}
use mathlib.Core.Bool.{Bool, cond, false, true}
use mathlib.Core.List.{List}
use mathlib.Core.Path.{◌≡◌}
use lib.Dec.{lit≤, ltb}
use borrow.Author.Tests.{le-ltb, lt-ltb, ltb-false}
use Rattle.fields.proofs.Laws.{declare-is}
use Rattle.fields.proofs.Refusals.{AtPlace, declare-fails}
use Rattle.fields.specs.Fields.{declare}
use Rattle.fields.specs.Front.{front}
use Rattle.table.proofs.Laws.{bad-good, fails-bind, fails-cond, holds-any, holds-bind, holds-cond}
use Rattle.table.specs.Cell.{AreColumns}
use Rattle.table.specs.Outcome.{Refusal, at, most_input}
use Rattle.table.specs.Result.{Fails, Holds, Result, ◌>>=◌, bad, fails, gives, good, holds, refuses}
use Rattle.table.specs.declared.Column.{Column}

-- a refusal is 1 to 6, at a place that is at most 64
pub front-fails : (decls : List ℕ) (size : ℕ) → Fails AtPlace (front decls size)
unfolding front at
front-fails decls size = fails-bind (declare-fails decls) (λ cs. fails-cond (ltb most_input size) (fails ((lit≤ tt, lit≤ tt), zero-le)) gives)

-- what is handed on are 1 to 64 columns, each as 01 allows it
pub front-is : (decls : List ℕ) (size : ℕ) → Holds AreColumns (front decls size)
unfolding front
front-is decls size = holds-bind (declare-is decls) (λ cs h. holds-cond (ltb most_input size) (λ _. refuses) (λ _. holds h))

-- an input that the front lets through has its size
pub front-sized : (decls : List ℕ) (size : ℕ) → Holds (λ (cs : List Column). size ≤ most_input) (front decls size)
unfolding front
front-sized decls size = holds-bind (holds-any (declare decls)) (λ cs _. holds-cond (ltb most_input size) (λ _. refuses) (λ h. holds (ltb-false most_input size h)))

-- what is handed on was declared
pub front-good : (decls : List ℕ) (size : ℕ) (cs : List Column) → front decls size ≡ good cs → declare decls ≡ good cs
unfolding front
front-good decls size cs e = go (declare decls) (ltb most_input size) e
  where
    go : (r : Result Refusal (List Column)) (b : Bool) → (r >>= λ ds. cond b (bad (at 0 6)) (good ds)) ≡ good cs → r ≡ good cs
    go (good ds) true q = absurd (bad-good q)
    go (good ds) false q = q
    go (bad x) b q = absurd (bad-good q)

module _ (decls : List ℕ) (size : ℕ) where
  pub front-undeclared : (e : Refusal) → declare decls ≡ bad e → front decls size ≡ bad e
  unfolding front
  front-undeclared e d = rw d

  module _ (cs : List Column) (d : declare decls ≡ good cs) where
    pub front-oversized : most_input < size → front decls size ≡ bad (at 0 6)
    unfolding front
    front-oversized h = rw (d, lt-ltb most_input size h)

    pub front-declared : size ≤ most_input → front decls size ≡ good cs
    unfolding front
    front-declared h = rw (d, le-ltb most_input size h)
