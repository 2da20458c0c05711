-- Resumption: rows are independent, so an input may be converted in parts. Where the rows of a are read to their end, converting a ++ b is converting
-- a and then b in the room that is left. A row takes a front of the stream and looks no further (Taken), so the table that is read of a ++ b is that
-- of a and then that of b; writing goes on from one to the other.
use Prim.Native.Nat.{◌+◌, ◌-◌, ◌≤◌, zero-le, ℕ}
use native.Mathlib.Nat.{add_assoc, add-zero}
use native.Mathlib.Omega.{arith}
use mathlib.Core.Bool.{Bool, cond, false, true}
use mathlib.Core.List.{List, [], ◌++◌, append_assoc, append-nil}
use mathlib.Core.Path.{◌∙◌, ◌≡◌, ap, ap₂, refl, sym}
use lib.Dec.{ltb}
use lib.ListN.{length, length-append}
use borrow.Author.Tests.{le-ltb, lt-ltb, ltb-false, ltb-true}
use Rattle.demands.specs.Tables.{Ends}
use Rattle.grammar.proofs.Fronts.{skip-white, white-only}
use Rattle.grammar.proofs.Streams.{empty-is, ends_there, first-row}
use Rattle.grammar.proofs.Taken.{Taken, row-taken}
use Rattle.grammar.specs.Resumption.{followed_by, room_behind}
use Rattle.rows.proofs.Laws.{read-row, read_step}
use Rattle.rows.specs.Sequence.{finished, row, row_then, stopped}
use Rattle.rows.specs.Stream.{Table, at_end, fitted, read, read_row, read_start, run, write, write_row, wrote_then}
use Rattle.table.proofs.Laws.{holds_at, holds-cond}
use Rattle.table.specs.Bytes.{skip_white}
use Rattle.table.specs.Cell.{AreColumns, Cell}
use Rattle.table.specs.Outcome.{Refusal, accepted, at, written}
use Rattle.table.specs.Result.{Holds, Result, bad, good, holds, refuses}
use Rattle.table.specs.declared.Column.{Column}
use Rattle.table.specs.declared.Rows.{Rows}
use Rattle.table.specs.declared.Rows.TheVariants.{Binary, Binary2, TableData}

-- ---- reading

-- a table, and behind its rows another
unfoldable pub and_then : Table → Table → Table
and_then finished u = u
and_then (stopped e) u = stopped e
and_then (row xs t) u = row xs (and_then t u)

white-before : (a b : List ℕ) → skip_white a ≡ [] → skip_white (a ++ b) ≡ skip_white b
white-before a b e = skip-white (white-only a e) b

text-step : (cs : List Column) (s t : List ℕ) → skip_white s ≡ skip_white t
    → cond (at_end TableData s) finished (row_then (read_row TableData cs s) (read TableData cs)) ≡ cond (at_end TableData t) finished (row_then (read_row TableData cs t) (read TableData cs))
unfolding at_end read_row read_start
text-step cs s t e = rw e

-- the end of a stream reads as nothing before another
end_before : (from : Rows) (cs : List Column) → AreColumns cs → (a b : List ℕ) → at_end from a ≡ true → read from cs (a ++ b) ≡ read from cs b
unfolding at_end
end_before TableData cs i a b h =
    read_step TableData cs i (a ++ b) ∙ text-step cs (a ++ b) b (white-before a b (empty-is (skip_white a) h)) ∙ sym (read_step TableData cs i b)
end_before Binary cs i a b h = ap (λ (s : List ℕ). read Binary cs (s ++ b)) (empty-is a h)
end_before Binary2 cs i a b h = ap (λ (s : List ℕ). read Binary2 cs (s ++ b)) (empty-is a h)

module _ (from : Rows) (cs : List Column) (i : AreColumns cs) where
  -- the first row is the same row, whatever follows
  pub row_before : (a b : List ℕ) (xs : List Cell) (t : Table) → read from cs a ≡ row xs t
      → (rest : List ℕ) × (read from cs rest ≡ t) × (read from cs (a ++ b) ≡ row xs (read from cs (rest ++ b)))
  row_before a b xs t q =
      let f = first-row from cs i a xs t q in
      let k : Taken (read_row from cs) a (xs, f.0) = holds_at (row-taken from cs a) f.1 in (
        f.0,
        f.2,
        ap (λ (s : List ℕ). read from cs (s ++ b)) k.whole
            ∙ ap (read from cs) (append_assoc k.taken f.0 b)
            ∙ read-row from cs i (k.taken ++ (f.0 ++ b)) xs (f.0 ++ b) (k.again (f.0 ++ b)),
      )

  pub read-both : (t : Table) (a b : List ℕ) → read from cs a ≡ t → Ends t → read from cs (a ++ b) ≡ and_then t (read from cs b)
  unfolding and_then
  read-both finished a b q e = end_before from cs i a b (ends_there from cs i a q)
  read-both (stopped x) a b q e = absurd e
  read-both (row xs t) a b q e =
      let f = row_before a b xs t q in
      f.2 ∙ ap (row xs) (read-both t f.0 b f.1 e)

-- ---- writing

module _ (to : Rows) (cs : List Column) (room : ℕ) where
  fitted-fits : (out : List ℕ) (w : Result Refusal (List ℕ)) → Holds (λ (b : List ℕ). length b ≤ room) (fitted room out w)
  unfolding fitted
  fitted-fits out (bad e) = refuses
  fitted-fits out (good b) = holds-cond (ltb room (length (out ++ b))) (λ _. refuses) (λ h. holds (ltb-false room (length (out ++ b)) h))

  -- what fits behind w fits alone in the room that w leaves
  same_test : (w v b : List ℕ) → length w ≤ room → ltb room (length ((w ++ v) ++ b)) ≡ ltb (room - length w) (length (v ++ b))
  same_test w v b h = go (ltb (room - length w) (length (v ++ b))) refl
    where
      long : length ((w ++ v) ++ b) ≡ length w + length (v ++ b)
      long = ap length (append_assoc w v b) ∙ length-append w (v ++ b)

      go : (t : Bool) → ltb (room - length w) (length (v ++ b)) ≡ t → ltb room (length ((w ++ v) ++ b)) ≡ t
      go true e = lt-ltb room (length ((w ++ v) ++ b)) (omega (arith, h, long, ltb-true (room - length w) (length (v ++ b)) e))
      go false e = le-ltb room (length ((w ++ v) ++ b)) (omega (arith, h, long, ltb-false (room - length w) (length (v ++ b)) e))

  -- what is written behind other rows is what is written alone, in less room
  behind-others : (t : Table) (r q : ℕ) (w v : List ℕ) → length w ≤ room → write to cs room (r + q) (w ++ v) t ≡ followed_by (accepted r w) (write to cs (room - length w) q v t)
  unfolding write followed_by fitted wrote_then
  behind-others finished r q w v h = refl
  behind-others (stopped e) r q w v h = refl
  behind-others (row xs t) r q w v h = go (write_row to cs xs) (λ b. behind-others t r (q + 1) w (v ++ b) h)
    where
      go : (x : Result Refusal (List ℕ))
          → ((b : List ℕ) → write to cs room (r + (q + 1)) (w ++ (v ++ b)) t ≡ followed_by (accepted r w) (write to cs (room - length w) (q + 1) (v ++ b) t))
          → wrote_then (r + q) (w ++ v) (fitted room (w ++ v) x) (λ b. write to cs room (r + q + 1) b t)
          ≡ followed_by (accepted r w) (wrote_then q v (fitted (room - length w) v x) (λ b. write to cs (room - length w) (q + 1) b t))
      go (bad e) ih = refl
      go (good b) ih = rw (same_test w v b h) (test (ltb (room - length w) (length (v ++ b))))
        where
          test : (y : Bool) → wrote_then (r + q) (w ++ v) (cond y (bad (at 0 17)) (good ((w ++ v) ++ b))) (λ b. write to cs room (r + q + 1) b t)
              ≡ followed_by (accepted r w) (wrote_then q v (cond y (bad (at 0 17)) (good (v ++ b))) (λ b. write to cs (room - length w) (q + 1) b t))
          test true = refl
          test false = ap₂ (λ (n : ℕ) (o : List ℕ). write to cs room n o t) (add_assoc r q 1) (append_assoc w v b) ∙ ih b

  write-both : (t u : Table) (r : ℕ) (out : List ℕ) → length out ≤ room → Ends t
      → write to cs room r out (and_then t u) ≡ followed_by (write to cs room r out t) (write to cs (room_behind room (write to cs room r out t)) 0 [] u)
  unfolding write and_then followed_by room_behind written
  write-both finished u r out h e =
      ap₂ (λ (q : ℕ) (w : List ℕ). write to cs room q w u) (sym (add-zero r)) (sym (append-nil out)) ∙ behind-others u r 0 out [] h
  write-both (stopped x) u r out h e = absurd e
  write-both (row xs t) u r out h e = go (fitted room out (write_row to cs xs)) (fitted-fits out (write_row to cs xs)) (λ b k. write-both t u (r + 1) b k e)
    where
      go : (x : Result Refusal (List ℕ)) → Holds (λ (b : List ℕ). length b ≤ room) x
          → ((b : List ℕ) → length b ≤ room → write to cs room (r + 1) b (and_then t u)
          ≡ followed_by (write to cs room (r + 1) b t) (write to cs (room_behind room (write to cs room (r + 1) b t)) 0 [] u))
          → wrote_then r out x (λ b. write to cs room (r + 1) b (and_then t u))
          ≡ followed_by (wrote_then r out x (λ b. write to cs room (r + 1) b t))
          (write to cs (room_behind room (wrote_then r out x (λ b. write to cs room (r + 1) b t))) 0 [] u)
      go (good b) (holds k) ih = unfold wrote_then in ih b k
      go (bad y) k ih = unfold wrote_then in refl

-- RESUMPTION: where the rows of a are read to their end, converting a ++ b is converting a, and then b in the room that is left: rows and bytes are
-- added, and a refusal is at b's row behind a's
pub resumes : (from to : Rows) (cs : List Column) → AreColumns cs → (room : ℕ) (a b : List ℕ) → Ends (read from cs a)
    → run from to cs room (a ++ b) ≡ followed_by (run from to cs room a) (run from to cs (room_behind room (run from to cs room a)) b)
unfolding run
resumes from to cs i room a b e =
    ap (write to cs room 0 []) (read-both from cs i (read from cs a) a b refl e) ∙ write-both to cs room (read from cs a) (read from cs b) 0 [] zero-le e
