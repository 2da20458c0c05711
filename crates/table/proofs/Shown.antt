-- How many elements a cell shows, if it is not null: by the two cases.
use Rattle.std.specs.Prelude.{None, Option, Some, ◌≤◌, ℕ}
use Rattle.table.specs.Clauses.{ShownUpTo}
use native.Mathlib.Omega.{arith}

pub shown-up-to : {most more : ℕ} (o : Option ℕ) → most ≤ more → ShownUpTo most o → ShownUpTo more o
shown-up-to None h s = tt
shown-up-to (Some count) h s = omega arith
