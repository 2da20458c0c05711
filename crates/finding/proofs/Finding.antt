-- A row that is looked for: rows are passed over until none is left before it, and what is fetched is what is fetched from there. Then its own bytes are
-- the part of the stream between the two places. Cited by find_from, find_row and fetch_row.
use Prim.Native.Nat.{◌%◌, ◌-◌, ◌/◌, ◌<◌, ◌≤◌, suc, ℕ}
use native.Mathlib.Omega.{arith}
use mathlib.Core.Bool.{cond}
use mathlib.Core.List.{List, []}
use mathlib.Core.Path.{◌∙◌, ◌≡◌, ap, refl, sym}
use lib.Dec.{ltb}
use lib.ListN.{drop, drop_of_length-le, get_or, length, length-drop, take}
use borrow.Author.Tests.{le-ltb, lt-ltb, ltb-false, ltb-true}
use Rattle.index.specs.Fetch.{behind_the, fetch_indexed, fetch_row, is_indexed}
use Rattle.finding.specs.Clauses.{Finds}
use Rattle.finding.specs.declared.Wanted.{Wanted}
use Rattle.std.specs.Prelude.{Err, Ok, Result as Returned}
use Rattle.table.specs.declared.Refused.{Refused}
use Rattle.rows.specs.Stream.{read_row, run}
use Rattle.table.proofs.Laws.{cond_cases}
use Rattle.table.specs.Cell.{Cell}
use Rattle.table.specs.Outcome.{at, refused}
use Rattle.table.specs.Result.{bad, good}
use Rattle.table.specs.declared.Column.{Column}
use Rattle.table.specs.declared.Rows.{Rows}
use Rattle.table.specs.declared.Rows.TheVariants.{TableData}

-- so many rows are left before the one that is looked for
pub record Skipped (from : Rows) (cols : List Column) (s : List ℕ) (start before place left : ℕ) : Type 0 where
  pub inside : place ≤ length s
  pub ahead : (room : ℕ) → fetch_row from cols room before (drop start s) ≡ fetch_row from cols room left (drop place s)

module _ (from : Rows) (cols : List Column) (s : List ℕ) (start before : ℕ) where
  pub skip-start : start ≤ length s → Skipped from cols s start before start before
  skip-start h = record { inside = h; ahead = λ room. refl }

  module _ (place left : ℕ) (inv : Skipped from cols s start before place left) where
    -- one is left, and others behind it
    module _ (some : 0 < left) where
      one_more : left ≡ suc (left - 1)
      one_more = omega arith

      onward : (room : ℕ) → fetch_row from cols room before (drop start s) ≡ behind_the (read_row from cols (drop place s)) (λ rest. fetch_row from cols room (left - 1) rest)
      unfolding fetch_row
      onward room = inv.ahead room ∙ ap (λ (m : ℕ). fetch_row from cols room m (drop place s)) one_more

      pub skip-more : (xs : List Cell) (next : ℕ) → read_row from cols (drop place s) ≡ good (xs, drop next s) → next ≤ length s
          → Skipped from cols s start before next (left - 1)
      unfolding behind_the
      skip-more xs next e h = record { inside = h; ahead = λ room. onward room ∙ rw e }

      pub skip_stop : (n k : ℕ) → read_row from cols (drop place s) ≡ bad (at k n) → (room : ℕ) → fetch_row from cols room before (drop start s) ≡ refused (at k n) 0 []
      unfolding behind_the
      skip_stop n k e room = onward room ∙ rw e

    -- the row itself
    module _ (none : left ≡ 0) where
      itself : (room : ℕ) → fetch_row from cols room before (drop start s)
          ≡ behind_the (read_row from cols (drop place s)) (λ rest. run from TableData cols room (take (length (drop place s) - length rest) (drop place s)))
      unfolding fetch_row
      itself room = inv.ahead room ∙ ap (λ (m : ℕ). fetch_row from cols room m (drop place s)) none

      pub find-stop : (n k : ℕ) → read_row from cols (drop place s) ≡ bad (at k n) → (room : ℕ) → fetch_row from cols room before (drop start s) ≡ refused (at k n) 0 []
      unfolding behind_the
      find-stop n k e room = itself room ∙ rw e

      pub find-there : (xs : List Cell) (next : ℕ) → read_row from cols (drop place s) ≡ good (xs, drop next s) → place < next → next ≤ length s
          → Finds from cols s (λ room. fetch_row from cols room before (drop start s)) (Ok (record { start = place; next = next }))
      unfolding behind_the
      find-there xs next e lo hi =
          let took : length (drop place s) - length (drop next s) ≡ next - place = omega (arith, length-drop place s, length-drop next s, inv.inside) in
          ((λ room. itself room ∙ rw (e, took)), omega arith, hi)

-- ---- by the index

module _ (from : Rows) (cols : List Column) (s index : List ℕ) (rows row : ℕ) where
  pub past_end : rows ≤ row → (room : ℕ) → fetch_indexed from cols room s index rows row ≡ refused (at 0 20) 0 []
  unfolding fetch_indexed is_indexed
  past_end h room = rw (le-ltb row rows h)

  pub no-entry : row < rows → length index ≤ row / 64 → (room : ℕ) → fetch_indexed from cols room s index rows row ≡ refused (at 0 20) 0 []
  unfolding fetch_indexed is_indexed
  no-entry l h room = rw (lt-ltb row rows l, le-ltb (row / 64) (length index) h)

  -- from the start that its place holds; one past the end leaves what the end leaves
  pub by-entry : row < rows → row / 64 < length index → (start : ℕ) → drop start s ≡ drop (get_or index (row / 64) 0) s
      → (w : Returned Wanted Refused) → Finds from cols s (λ room. fetch_row from cols room (row % 64) (drop start s)) w → Finds from cols s (λ room. fetch_indexed from cols room s index rows row) w
  unfolding fetch_indexed is_indexed
  by-entry l h start e (Ok w) f = ((λ room. rw (lt-ltb row rows l, lt-ltb (row / 64) (length index) h, ← e) (f.0 room)), f.1, f.2)
  by-entry l h start e (Err r) f = λ room. rw (lt-ltb row rows l, lt-ltb (row / 64) (length index) h, ← e) (f room)

-- a start past the end leaves nothing, as the end does
pub within_end : (s : List ℕ) (entry : ℕ) → drop (cond (ltb entry (length s)) entry (length s)) s ≡ drop entry s
within_end s entry =
    cond_cases (λ (n : ℕ). drop n s ≡ drop entry s) (ltb entry (length s)) entry (length s) (λ _. refl)
    (λ h. drop_of_length-le s {i = length s} (omega arith) ∙ sym (drop_of_length-le s (ltb-false entry (length s) h)))

pub within-inside : (s : List ℕ) (entry : ℕ) → cond (ltb entry (length s)) entry (length s) ≤ length s
within-inside s entry =
    cond_cases (λ (n : ℕ). n ≤ length s) (ltb entry (length s)) entry (length s) (λ h. omega (arith, ltb-true entry (length s) h)) (λ _. omega arith)
