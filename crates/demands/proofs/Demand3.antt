-- Demand 3 of the converter. What a row gets is what the target has for its cells, `write_row`, and that sees nothing else: so two rows that
-- show the same get the same. Bytes that show nothing: Unseen. What a buffer held: a call is `ending` of an outcome, and the outcome sees its
-- room alone.
use Rattle.std.specs.Prelude.{Some}
use Prim.Native.Nat.{◌+◌, ◌<◌, ◌≤◌, ℕ}
use native.Mathlib.Omega.{arith}
use mathlib.Core.Bool.{Bool, cond, false, true}
use mathlib.Core.List.{List, [], ◌++◌, append_assoc, append-nil}
use mathlib.Core.Path.{◌∙◌, ◌≡◌, ap, refl, subst, sym}
use lib.Dec.{ltb}
use lib.ListN.{get_or, length}
use Rattle.demands.proofs.Demand1.{output-of}
use Rattle.rows.proofs.Calls.{converts}
use Rattle.demands.proofs.Demand2.{declared-columns}
use Rattle.demands.proofs.Unseen.{unseen}
use Rattle.demands.proofs.Writing.{Writes, all-behind, all-written, first-written, form-stops, goes_on, lines-read, next_row, no_room, row-behind, unread, unwritten, writes}
use Rattle.demands.specs.Demands.{Comes, Demand3, RefusedAt, SameFate, SameOutput, Stands, Stream, both-refused, both-written, called}
use Rattle.demands.specs.Places.{shows_at}
use Rattle.demands.specs.Tables.{lines, row_at, up_to}
use Rattle.fields.specs.Fields.{declare}
use Rattle.fields.specs.Front.{front}
use Rattle.rows.proofs.Sequences.{AllRows}
use Rattle.rows.proofs.Laws.{FitsAll, Placed, newline, newline-read, read_fits, read-nothing, read-row, row_back, write-row-fails}
use Rattle.rows.specs.Convert.{convert, converting, under_columns}
use Rattle.rows.specs.Stream.{Table, read, run, write, write_row}
use Rattle.rows.specs.Sequence.{finished, row}
use Rattle.table.proofs.Laws.{fails-at, holds_at}
use Rattle.table.specs.All.{AreBytes}
use Rattle.table.specs.Cell.{AreColumns, Cell}
use Rattle.table.specs.Outcome.{Call, Outcome, Refusal, answer_of, at, ending, most_input, refused, written}
use Rattle.table.specs.Result.{Result, bad, good}
use Rattle.table.specs.declared.Column.{Column}
use Rattle.table.specs.declared.Rows.{Rows}
use Rattle.table.specs.declared.Rows.TheVariants.{Binary2}

-- ---- what row j of a table gets, where the rows before it have lines and there is room for them and for its own

abbrev Gets : List ℕ → Result Refusal (List ℕ) → ℕ → Outcome → Type 0
Gets before (good b) r o = (behind : List ℕ) × (written o ≡ before ++ (b ++ behind))
Gets before (bad e) r o = o ≡ refused e r before

abbrev Roomy : ℕ → List ℕ → Result Refusal (List ℕ) → Type 0
Roomy room before (good b) = length (before ++ b) ≤ room
Roomy room before (bad e) = Unit {0}

more-written : (to : Rows) (cs : List Column) (room r : ℕ) (out : List ℕ) (t : Table) → (behind : List ℕ) × (written (write to cs room r out t) ≡ out ++ behind)
more-written to cs room r out t = go (writes to cs room r out t)
  where
    go : {r : ℕ} {out : List ℕ} {t : Table} {o : Outcome} → Writes to cs room r out t o → (behind : List ℕ) × (written o ≡ out ++ behind)
    go {out = out} all-written = unfold written in ([], sym (append-nil out))
    go {out = out} unread = unfold written in ([], sym (append-nil out))
    go {out = out} (unwritten q) = unfold written in ([], sym (append-nil out))
    go {out = out} (no_room q h) = unfold written in ([], sym (append-nil out))
    go {out = out} (next_row {b = b} q h w) = let m = go w in (b ++ m.0, m.1 ∙ append_assoc out b m.0)

here : (to : Rows) (cs : List Column) (room r : ℕ) (out : List ℕ) (xs : List Cell) (t : Table) (w : Result Refusal (List ℕ)) → write_row to cs xs ≡ w → Roomy room out w
    → Gets out w r (write to cs room r out (row xs t))
here to cs room r out xs t (bad e) q h = form-stops to cs room r out xs t e q
here to cs room r out xs t (good b) q h =
    let m = more-written to cs room (r + 1) (out ++ b) t in
    (m.0, ap written (goes_on to cs room r out b xs t q h) ∙ m.1 ∙ append_assoc out b m.0)

gets : (to : Rows) (cs : List Column) (room : ℕ) (t : Table) (before : List ℕ) (j : ℕ) (xs : List Cell) → row_at j t ≡ Some xs → lines to cs (up_to j t) ≡ good before
    → length before ≤ room → Roomy room before (write_row to cs xs) → Gets before (write_row to cs xs) j (write to cs room 0 [] t)
gets to cs room t before j xs q l f h =
    let p = row-behind j t xs q in rw (first-written to cs room before p.1 l f) (here to cs room j before xs p.0 (write_row to cs xs) refl h)

-- ---- a row of a call

-- a row's bytes by themselves read as that row
row-alone : (to : Rows) (cs : List Column) (xs : List Cell) (b : List ℕ) → AreColumns cs → FitsAll cs xs → write_row to cs xs ≡ good b → read to cs b ≡ row xs finished
row-alone to cs xs b i f q =
    ap (read to cs) (sym (append-nil b))
    ∙ read-row to cs i (b ++ []) xs (newline to ++ []) (holds_at (row_back to cs xs i.each f) q [])
    ∙ ap (row xs) (newline-read to cs i [] ∙ read-nothing to cs)

-- what a stream's row gets of a target that has w for its cells
abbrev Fate : Rows → List Column → List Cell → Stream → List ℕ → Result Refusal (List ℕ) → Call → Type 0
Fate to cs xs s before (good b) c = Stands to cs xs s before b c
Fate to cs xs s before (bad e) c = RefusedAt s before e.number e.column c

module _ (to : Rows) (cs : List Column) (xs : List Cell) (s : Stream) (i : AreColumns cs) (bytes : AreBytes s.input) (k : Comes to cs xs s) where
  abbrev table : Table
  table = read s.from cs s.input

  fate-of : (o : Outcome) (w : Result Refusal (List ℕ)) → write_row to cs xs ≡ w → Gets k.before w s.row o → Fate to cs xs s k.before w (ending o s.out)
  fate-of o (good b) q g =
      let f : AllRows (FitsAll cs) table = read_fits s.from cs s.input bytes in
      record {
        behind = g.0;
        there = output-of o s.out ∙ g.1;
        earlier = lines-read to cs i s.row table f k.before k.not_earlier;
        itself = row-alone to cs xs b i (all-behind (FitsAll cs) (row-behind s.row table xs k.shows).1 f).0 q;
      }
  fate-of o (bad e) q g =
      let p : Placed 14 16 (length cs) e = fails-at (write-row-fails to cs xs) q in
      record {
        numbered = unfold ending answer_of in rw g;
        some_number = omega (arith, p.0.0);
        at_row = unfold ending answer_of in rw g;
        at-column = unfold ending answer_of in rw g;
        there = output-of o s.out ∙ (unfold written in rw g);
      }

  roomy : (w : Result Refusal (List ℕ)) → write_row to cs xs ≡ w → Roomy (length s.out) k.before w
  roomy (good b) q = k.room-enough b q
  roomy (bad e) q = tt

pub fate : (decls : List ℕ) (to : Rows) (cs : List Column) (xs : List Cell) (s : Stream) → declare decls ≡ good cs → AreBytes s.input → (k : Comes to cs xs s)
    → Fate to cs xs s k.before (write_row to cs xs) (called convert decls to s)
fate decls to cs xs s q bytes k =
    let e : called convert decls to s ≡ ending (run s.from to cs (length s.out) s.input) s.out = converts decls s.from to s.input s.out cs q k.sized in
    let g : Gets k.before (write_row to cs xs) s.row (run s.from to cs (length s.out) s.input)
    = unfold run in gets to cs (length s.out) (read s.from cs s.input) k.before s.row xs k.shows k.not_earlier k.room-before
    (roomy to cs xs s (declared-columns decls cs q) bytes k (write_row to cs xs) refl) in
    subst (Fate to cs xs s k.before (write_row to cs xs)) (sym e)
    (fate-of to cs xs s (declared-columns decls cs q) bytes k (run s.from to cs (length s.out) s.input) (write_row to cs xs) refl g)

same-fate : (to : Rows) (cs : List Column) (xs : List Cell) (s t : Stream) (p r : List ℕ) (c d : Call) (w : Result Refusal (List ℕ)) → write_row to cs xs ≡ w
    → Fate to cs xs s p w c → Fate to cs xs t r w d → SameFate to cs xs s t p r c d
same-fate to cs xs s t p r c d (good b) q f g = both-written q f g
same-fate to cs xs s t p r c d (bad e) q f g = both-refused q f g

-- ---- bytes that show nothing

same-run : (oversized : Bool) (to : Rows) (cs : List Column) (room : ℕ) (s t : List ℕ) → read Binary2 cs t ≡ read Binary2 cs s
    → under_columns (cond oversized (bad (at 0 6)) (good cs)) (λ cs. run Binary2 to cs room t) ≡ under_columns (cond oversized (bad (at 0 6)) (good cs)) (λ cs. run Binary2 to cs room s)
unfolding under_columns run
same-run true to cs room s t e = refl
same-run false to cs room s t e = rw e

unseen_of : (decls : List ℕ) (to : Rows) (cs : List Column) (s t : List ℕ) (room : ℕ) → declare decls ≡ good cs → length t ≡ length s
    → ((i : ℕ) → i < length s → shows_at cs s i ≡ true → get_or t i 0 ≡ get_or s i 0)
    → converting decls Binary2 to t room ≡ converting decls Binary2 to s room
unfolding converting front
unseen_of decls to cs s t room q l h = rw (q, l) (same-run (ltb most_input (length s)) to cs room s t (unseen cs s t (declared-columns decls cs q) l h))

-- in one buffer the whole call is the same, every byte of it
pub unseen-call : (decls : List ℕ) (to : Rows) (cs : List Column) (s t out : List ℕ) → declare decls ≡ good cs → length t ≡ length s
    → ((i : ℕ) → i < length s → shows_at cs s i ≡ true → get_or t i 0 ≡ get_or s i 0) → convert decls Binary2 to t out ≡ convert decls Binary2 to s out
unfolding convert
unseen-call decls to cs s t out d l h = ap (λ (o : Outcome). ending o out) (unseen_of decls to cs s t (length out) d l h)

-- two calls that come to one outcome: what their buffers held is not seen
pub same-ending : (o w : Outcome) (p q : List ℕ) → w ≡ o → SameOutput (ending o p) (ending w q)
same-ending o w p q e =
    record { same_answer = unfold ending in rw e; same_bytes = output-of w q ∙ ap written e ∙ sym (output-of o p) }

pub demand3 : Demand3 convert
demand3 =
    record {
      same_rows = λ decls to cs xs s t q a b k l.
          same-fate to cs xs s t k.before l.before (called convert decls to s) (called convert decls to t) (write_row to cs xs) refl
          (fate decls to cs xs s q a k) (fate decls to cs xs t q b l);
      unseen-bytes = λ decls to cs s t p q d l r h.
          unfold convert in same-ending (converting decls Binary2 to s (length p)) (converting decls Binary2 to t (length q)) p q
          (ap (converting decls Binary2 to t) r ∙ unseen_of decls to cs s t (length p) d l h);
    }
