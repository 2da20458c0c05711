-- Going on from the place that a piece answers: what stands before it are the rows done and no more, read to their end, so that one call on the whole,
-- the piece and whatever has come behind it, in any room that has those rows, is those rows and then a call on what stands behind the place. By
-- `resumes`, and since a row reader looks no further than its row.
use Prim.Native.Nat.{◌-◌, ◌≤◌, suc, zero, ℕ}
use native.Mathlib.Nat.{le_refl, not-suc-le-zero}
use native.Mathlib.Omega.{arith}
use mathlib.Core.List.{List, [], ◌++◌, append_assoc, append-nil}
use mathlib.Core.Path.{◌∙◌, ◌≡◌, ap, ap₂, refl, subst⁻¹, sym}
use lib.ListN.{drop, length, length-append}
use lib.Seq.{drop_at, drop-length}
use Rattle.demands.proofs.Demand1.{rows_of}
use Rattle.demands.proofs.Demand2.{accepted-ends, declared-columns, runs, stands}
use Rattle.demands.proofs.Writing.{up-to-all}
use Rattle.demands.specs.Demands.{RowsStand, output}
use Rattle.demands.specs.Tables.{Ends, count, up_to}
use Rattle.fields.proofs.Front.{front-declared}
use Rattle.fields.specs.Fields.{declare}
use Rattle.fields.specs.Front.{front}
use Rattle.grammar.proofs.Resumption.{resumes}
use Rattle.grammar.proofs.Streams.{first-row}
use Rattle.grammar.proofs.Taken.{Taken, row-taken}
use Rattle.grammar.specs.Resumption.{followed_by, room_behind}
use Rattle.rows.proofs.Calls.{converts}
use Rattle.rows.proofs.Laws.{read-nothing, read-row}
use Rattle.rows.specs.Convert.{convert}
use Rattle.rows.specs.Pieces.{behind_row, behind_rows, convert_piece, place_of, place_under}
use Rattle.rows.specs.Sequence.{finished, row, stopped}
use Rattle.rows.specs.Stream.{Table, read, read_row, run}
use Rattle.table.proofs.Laws.{holds_at}
use Rattle.table.specs.Cell.{AreColumns, Cell}
use Rattle.table.specs.Outcome.{Call, Outcome, accepted, answer_of, ending, most_input, refused, rows_done, written}
use Rattle.table.specs.Result.{good}
use Rattle.table.specs.declared.Column.{Column}
use Rattle.table.specs.declared.Rows.{Rows}

abbrev pub IsAccepted : Outcome → Type 0
IsAccepted (accepted r w) = Unit {0}
IsAccepted (refused e r w) = ⊥

-- the first so many rows end
up-to-ends : (m : ℕ) (t : Table) → Ends (up_to m t)
unfolding up_to
up-to-ends zero t = tt
up-to-ends (suc m) finished = tt
up-to-ends (suc m) (stopped e) = tt
up-to-ends (suc m) (row xs t) = up-to-ends m t

up-to-count : (m : ℕ) (t : Table) → m ≤ count t → count (up_to m t) ≡ m
unfolding up_to count
up-to-count zero t h = refl
up-to-count (suc m) finished h = absurd (not-suc-le-zero h)
up-to-count (suc m) (stopped e) h = absurd (not-suc-le-zero h)
up-to-count (suc m) (row xs t) h = ap suc (up-to-count m t (omega (arith, h)))

pub behind-first : (from : Rows) (cs : List Column) (m : ℕ) (s : List ℕ) (xs : List Cell) (rest : List ℕ) → read_row from cs s ≡ good (xs, rest)
    → behind_rows from cs (suc m) s ≡ behind_rows from cs m rest
unfolding behind_rows behind_row
behind-first from cs m s xs rest e = rw e

module _ (from : Rows) (cs : List Column) (i : AreColumns cs) where
  -- what stands before the rest behind the first m rows reads as those rows
  record FrontOf (m : ℕ) (s : List ℕ) : Type 0 where
    front_bytes : List ℕ
    whole : s ≡ front_bytes ++ behind_rows from cs m s
    reads : read from cs front_bytes ≡ up_to m (read from cs s)

  front_of : (m : ℕ) (s : List ℕ) (t : Table) → read from cs s ≡ t → m ≤ count t → FrontOf m s
  unfolding behind_rows up_to count
  front_of zero s t q h = record { front_bytes = []; whole = refl; reads = read-nothing from cs }
  front_of (suc m) s finished q h = absurd (not-suc-le-zero h)
  front_of (suc m) s (stopped e) q h = absurd (not-suc-le-zero h)
  front_of (suc m) s (row xs t) q h =
      let f = first-row from cs i s xs t q in
      let k : Taken (read_row from cs) s (xs, f.0) = holds_at (row-taken from cs s) f.1 in
      let r : FrontOf m f.0 = front_of m f.0 t f.2 (omega (arith, h)) in
      record {
        front_bytes = k.taken ++ r.front_bytes;
        whole = k.whole ∙ ap (λ (x : List ℕ). k.taken ++ x) r.whole ∙ sym (append_assoc k.taken r.front_bytes (behind_rows from cs m f.0))
            ∙ ap (λ (x : List ℕ). (k.taken ++ r.front_bytes) ++ x) (sym (behind-first from cs m s xs f.0 f.1));
        reads = rw q (read-row from cs i (k.taken ++ r.front_bytes) xs r.front_bytes (k.again r.front_bytes) ∙ ap (row xs) (r.reads ∙ ap (up_to m) f.2));
      }

  -- the place where the first m rows end
  pub behind-place : (m : ℕ) (s : List ℕ) → m ≤ count (read from cs s)
      → (length (behind_rows from cs m s) ≤ length s) × (drop (length s - length (behind_rows from cs m s)) s ≡ behind_rows from cs m s)
  behind-place m s h =
      let f : FrontOf m s = front_of m s (read from cs s) refl h in
      let parts = ap length f.whole ∙ length-append f.front_bytes (behind_rows from cs m s) in
      let n : length s - length (behind_rows from cs m s) ≡ length f.front_bytes = omega (arith, parts) in (
        omega (arith, parts),
        ap (λ (k : ℕ). drop k s) n ∙ ap (drop (length f.front_bytes)) f.whole ∙ drop_at f.front_bytes (behind_rows from cs m s) (length f.front_bytes) refl,
      )

  -- the place cuts the input behind the rows done
  record CutAt (s : List ℕ) (place rows : ℕ) : Type 0 where
    before : List ℕ
    whole : s ≡ before ++ drop place s
    reads : read from cs before ≡ up_to rows (read from cs s)

  cut_at : (s : List ℕ) (o : Outcome) (rows : ℕ) → rows_done o ≡ rows → rows ≤ count (read from cs s) → (IsAccepted o → (Ends (read from cs s)) × (rows ≡ count (read from cs s)))
      → CutAt s (place_of from cs s o) rows
  unfolding place_of rows_done
  cut_at s (accepted r w) rows q h e =
      record {
        before = s;
        whole = sym (append-nil s) ∙ ap (λ (x : List ℕ). s ++ x) (sym (drop-length s));
        reads = sym (ap (λ (n : ℕ). up_to n (read from cs s)) (e tt).1 ∙ up-to-all (read from cs s) (e tt).0);
      }
  cut_at s (refused x r w) rows q h e =
      let f : FrontOf r s = front_of r s (read from cs s) refl (rw q h) in
      let d = (behind-place r s (rw q h)).1 in
      record {
        before = f.front_bytes;
        whole = f.whole ∙ ap (λ (x : List ℕ). f.front_bytes ++ x) (sym d);
        reads = f.reads ∙ ap (λ (n : ℕ). up_to n (read from cs s)) q;
      }

pub place_inside : (from : Rows) (cs : List Column) (s : List ℕ) (o : Outcome) → place_of from cs s o ≤ length s
unfolding place_of
place_inside from cs s (accepted r w) = le_refl (length s)
place_inside from cs s (refused e r w) = omega arith

pub piece-place : (decls : List ℕ) (from to : Rows) (input out : List ℕ) (cs : List Column) → front decls (length input) ≡ good cs
    → (convert_piece decls from to input out).place ≡ place_of from cs input (run from to cs (length out) input)
unfolding convert_piece place_under
piece-place decls from to input out cs e = rw e

-- THE PLACE: a call on the piece `input` with more behind it, in any room that has the rows done, is those rows and then a call on what stands behind
-- the place
pub goes-on-behind : (decls : List ℕ) (from to : Rows) (input more out : List ℕ) (cs : List Column) → declare decls ≡ good cs → length input ≤ most_input
    → (room : ℕ) → (convert decls from to input out).answer.bytes ≤ room
    → run from to cs room (input ++ more)
    ≡ followed_by (accepted (convert decls from to input out).answer.rows (output (convert decls from to input out)))
    (run from to cs (room - (convert decls from to input out).answer.bytes) (drop (convert_piece decls from to input out).place input ++ more))
goes-on-behind decls from to input more out cs q h room l =
    let i : AreColumns cs = declared-columns decls cs q in
    let c : Call = convert decls from to input out in
    let s : RowsStand cs from to input out c = stands decls from to input out cs q h in
    let t : Table = read from cs input in
    let o : Outcome = run from to cs (length out) input in
    let e : c ≡ ending o out = converts decls from to input out cs q h in
    let k : CutAt from cs i input (place_of from cs input o) c.answer.rows
    = cut_at from cs i input o c.answer.rows (sym (ap (λ (d : Call). d.answer.rows) e ∙ rows_of o out)) s.rows-read (ended o e) in
    let p : (convert_piece decls from to input out).place ≡ place_of from cs input o = piece-place decls from to input out cs (front-declared decls (length input) cs q h) in
    let b : List ℕ = drop (place_of from cs input o) input ++ more in
    let w : length (output c) ≤ room = rw (← s.bytes-are) l in
    let d : run from to cs room k.before ≡ accepted c.answer.rows (output c)
    = runs from to cs k.before (output c) (up_to c.answer.rows t) k.reads (up-to-ends c.answer.rows t) s.lines-whole room w
    ∙ ap (λ (n : ℕ). accepted n (output c)) (up-to-count c.answer.rows t s.rows-read) in
    ap (run from to cs room) (ap (λ (x : List ℕ). x ++ more) k.whole ∙ append_assoc k.before (drop (place_of from cs input o) input) more)
    ∙ resumes from to cs i room k.before b (subst⁻¹ Ends k.reads (up-to-ends c.answer.rows t))
    ∙ ap (λ (x : Outcome). followed_by x (run from to cs (room_behind room x) b)) d
    ∙ ap (followed_by (accepted c.answer.rows (output c)))
    (ap₂ (λ (m : ℕ) (x : List ℕ). run from to cs m x) (room-behind room c.answer.rows (output c) c.answer.bytes s.bytes-are) (ap (λ (n : ℕ). drop n input ++ more) (sym p)))
  where
    ended : (o : Outcome) → convert decls from to input out ≡ ending o out → IsAccepted o
        → Ends (read from cs input) × ((convert decls from to input out).answer.rows ≡ count (read from cs input))
    ended (accepted r w) e z = accepted-ends decls from to input out cs q (ap (λ (d : Call). d.answer.number) e ∙ (unfold ending answer_of in refl))
    ended (refused x r w) e z = absurd z

    room-behind : (room r : ℕ) (w : List ℕ) (bytes : ℕ) → bytes ≡ length w → room_behind room (accepted r w) ≡ room - bytes
    room-behind room r w bytes e = unfold room_behind written in ap (λ (n : ℕ). room - n) (sym e)
