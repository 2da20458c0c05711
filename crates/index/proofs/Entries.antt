-- One more row, as a buffer of so many places takes it: between two entries nothing is added, and the entry of row 64k comes behind those that stand, or
-- finds no place.
use Prim.Native.Nat.{◌%◌, ◌+◌, ◌<◌, ◌≤◌, ℕ}
use native.Mathlib.Omega.{arith}
use mathlib.Core.Bool.{false, true}
use mathlib.Core.List.{List, [], ◌++◌, ◌∷◌, append-nil}
use mathlib.Core.Path.{◌≡◌}
use lib.Dec.{eqb}
use lib.ListN.{length, length-append}
use borrow.Author.Tests.{le-ltb, lt-ltb}
use Rattle.index.specs.Index.{entry_of, spacing}
use Rattle.rows.specs.Stream.{fitted}
use Rattle.table.specs.Outcome.{at}
use Rattle.table.specs.Result.{bad, good}

module _ (room row start : ℕ) (entries : List ℕ) (fit : length entries ≤ room) where
  one-longer : length (entries ++ (start ∷ [])) ≡ length entries + 1
  one-longer = length-append entries (start ∷ [])

  pub no-entry-fits : eqb (row % spacing) 0 ≡ false → fitted room entries (good (entry_of row start)) ≡ good (entries ++ entry_of row start)
  unfolding fitted entry_of
  no-entry-fits e = rw (e, append-nil entries, le-ltb room (length entries) fit)

  pub entry-fits : eqb (row % spacing) 0 ≡ true → length entries < room → fitted room entries (good (entry_of row start)) ≡ good (entries ++ entry_of row start)
  unfolding fitted entry_of
  entry-fits e h = rw (e, le-ltb room (length (entries ++ (start ∷ []))) (omega (arith, one-longer, h)))

  pub entry-lacks : eqb (row % spacing) 0 ≡ true → room ≤ length entries → fitted room entries (good (entry_of row start)) ≡ bad (at 0 17)
  unfolding fitted entry_of
  entry-lacks e h = rw (e, lt-ltb room (length (entries ++ (start ∷ []))) (omega (arith, one-longer, h)))
