-- Row lengths: a row takes at least a byte, so the bound on rows never ends a stream; and the lengths of an accepted stream's rows, added in
-- order, give the stream's length, since the rest of one row is where the next begins.
use Prim.Native.Nat.{◌-◌, ◌<◌, suc, zero, ℕ}
use native.Mathlib.Omega.{arith}
use mathlib.Core.Bool.{Bool, cond, false, false≢true, true}
use mathlib.Core.List.{List, [], ◌∷◌}
use mathlib.Core.Path.{◌≡◌, refl, sym}
use lib.ListN.{length}
use Rattle.demands.proofs.Demand2.{accepted-ends, declared-columns}
use Rattle.demands.specs.Demands.{Accepted}
use Rattle.demands.specs.Tables.{Ends, row_length, row_lengths, sum}
use Rattle.fields.specs.Fields.{declare}
use Rattle.rows.proofs.Laws.{fuel, row-less}
use Rattle.rows.specs.Convert.{convert}
use Rattle.rows.specs.Stream.{Table, at_end, is_empty, read, read_row}
use Rattle.rows.specs.Sequence.{Sequence, finished, in_order, row_then, sequence, sequence_f}
use Rattle.table.proofs.Laws.{holds_at, holds-weaken}
use Rattle.table.specs.Cell.{AreColumns, Cell}
use Rattle.table.specs.Outcome.{Refusal}
use Rattle.table.specs.Result.{Holds, Result, ◌>>=◌, good, holds, refuses}
use Rattle.table.specs.declared.Column.{Column}
use Rattle.table.specs.declared.Rows.{Rows}
use Rattle.table.specs.declared.Rows.TheVariants.{Binary, Binary2}

-- a row takes at least a byte
pub row-takes-a-byte : (decls : List ℕ) (cs : List Column) → declare decls ≡ good cs → (from : Rows) (s : List ℕ) (xs : List Cell) (rest : List ℕ)
    → read_row from cs s ≡ good (xs, rest) → length rest < length s
row-takes-a-byte decls cs q from s xs rest e = holds_at (row-less from cs s (declared-columns decls cs q)) e

-- fuel never ends a stream: any bound above the length gives the same table
pub fuel-never-ends : (decls : List ℕ) (cs : List Column) → declare decls ≡ good cs → (from : Rows) (f : ℕ) (s : List ℕ) → length s < f
    → sequence_f f (at_end from) (read_row from cs) s ≡ read from cs s
fuel-never-ends decls cs q from = fuel from cs (declared-columns decls cs q)

-- ---- "The row lengths of an accepted stream, added in order, give the stream's length."

module _ (from : Rows) (cs : List Column) (i : AreColumns cs) (bare : (s : List ℕ) → at_end from s ≡ true → length s ≡ 0) where
  -- within a bound on rows: the table, and the lengths
  abbrev table : ℕ → List ℕ → Table
  table f = sequence_f f (at_end from) (read_row from cs)

  abbrev lengths : ℕ → List ℕ → Sequence ℕ
  lengths f = sequence_f f (at_end from) (row_length from cs)

  abbrev AddUp : ℕ → List ℕ → Type 0
  AddUp f s = Ends (table f s) → sum (in_order (lengths f s)) ≡ length s

  lengths-then : (f : ℕ) (s : List ℕ) (r : Result Refusal (List Cell × List ℕ)) → Holds (λ (p : List Cell × List ℕ). (length p.1 < length s) × AddUp f p.1) r
      → Ends (row_then r (table f)) → sum (in_order (row_then (r >>= λ p. good (length s - length p.1, p.1)) (lengths f))) ≡ length s
  unfolding row_then in_order sum
  lengths-then f s r refuses e = absurd e
  lengths-then f s r (holds h) e = omega (arith, h.0, h.1 e)

  lengths-sum : (f : ℕ) (s : List ℕ) → AddUp f s
  unfolding sequence_f row_length
  lengths-sum zero s e = absurd e
  lengths-sum (suc f) s e = go (at_end from s) refl e (holds-weaken (row-less from cs s i) (λ p l. (l, lengths-sum f p.1)))
    where
      go : (b : Bool) → at_end from s ≡ b → Ends (cond b finished (row_then (read_row from cs s) (table f)))
          → Holds (λ (p : List Cell × List ℕ). (length p.1 < length s) × AddUp f p.1) (read_row from cs s)
          → sum (in_order (cond b finished (row_then (row_length from cs s) (lengths f)))) ≡ length s
      go true q e k = unfold in_order sum in sym (bare s q)
      go false q e k = unfold row_length in lengths-then f s (read_row from cs s) k e

empty-length : (s : List ℕ) → is_empty s ≡ true → length s ≡ 0
unfolding is_empty
empty-length [] h = refl
empty-length (b ∷ s) h = absurd (false≢true h)

bare-binary : (s : List ℕ) → at_end Binary s ≡ true → length s ≡ 0
unfolding at_end
bare-binary s h = empty-length s h

bare-binary2 : (s : List ℕ) → at_end Binary2 s ≡ true → length s ≡ 0
unfolding at_end
bare-binary2 s h = empty-length s h

lengths-of : (from : Rows) → ((s : List ℕ) → at_end from s ≡ true → length s ≡ 0) → (decls : List ℕ) (to : Rows) (input out : List ℕ) (cs : List Column) → declare decls ≡ good cs
    → Accepted (convert decls from to input out) → sum (row_lengths from cs input) ≡ length input
unfolding row_lengths sequence
lengths-of from bare decls to input out cs q a =
    lengths-sum from cs (declared-columns decls cs q) bare (suc (length input)) input (unfold read in (accepted-ends decls from to input out cs q a).0)

pub binary-row-lengths : (decls : List ℕ) (to : Rows) (input out : List ℕ) (cs : List Column) → declare decls ≡ good cs
    → Accepted (convert decls Binary to input out) → sum (row_lengths Binary cs input) ≡ length input
binary-row-lengths = lengths-of Binary bare-binary

pub binary2-row-lengths : (decls : List ℕ) (to : Rows) (input out : List ℕ) (cs : List Column) → declare decls ≡ good cs
    → Accepted (convert decls Binary2 to input out) → sum (row_lengths Binary2 cs input) ≡ length input
binary2-row-lengths = lengths-of Binary2 bare-binary2
