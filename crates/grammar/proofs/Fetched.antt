-- One row by the index of its stream: the entry of its place is the start of a row, and behind that so many rows are passed over; what is left there begins
-- with the row's own bytes, which are read as that row and no more, since a row reader looks no further than its row (Taken). For the same reason whatever
-- stands behind the row, or before the entry's start, may be anything.
use Rattle.std.specs.Prelude.{Some}
use Prim.Native.Nat.{◌%◌, ◌*◌, ◌+◌, ◌-◌, ◌/◌, ◌<◌, ◌≤◌, min, suc, zero, ℕ}
use native.Mathlib.Nat.{add-zero, not-suc-le-zero}
use native.Mathlib.Numerals.{add-one}
use native.Mathlib.Omega.{arith}
use mathlib.Core.Bool.{Bool, false, true}
use mathlib.Core.List.{List, [], ◌++◌, append_assoc, append-nil}
use mathlib.Core.Path.{◌∙◌, ◌≡◌, ap, ap₂, refl, sym}
use lib.Dec.{eqb, ltb}
use lib.ListN.{drop, get_or, length, length-append, length-drop, length-take, take, take-append-drop}
use lib.Seq.{ext_get_or, get_or-drop, get_or-take, take_all, take_at}
use borrow.Author.Tests.{le-ltb, lt-ltb, ltb-false, ltb-true}
use Rattle.demands.proofs.Demand1.{bytes-of, output-of}
use Rattle.demands.proofs.Demand2.{declared-columns}
use Rattle.demands.proofs.Indexed.{row-there}
use Rattle.demands.proofs.Writing.{Behind, from-here, past_row}
use Rattle.demands.specs.Demands.{NoRows, SameOutput, output}
use Rattle.demands.specs.OneRow.{FetchEnded, FetchSized, FetchStands, FetchesAlike, IndexEnded, IndexSized, IndexStands, LooksTo, RowsRead, SameEntry, SameThere, as_row, none_read}
use Rattle.demands.specs.OneRow.{own_bytes, row_read, start_of, to-its-end, to_the_end}
use Rattle.demands.specs.Tables.{count, only, row_at}
use Rattle.grammar.proofs.Pieces.{behind-first, behind-place}
use Rattle.grammar.proofs.Streams.{first-row}
use Rattle.grammar.proofs.Taken.{Taken, row-taken}
use Rattle.fields.proofs.Front.{front-declared, front-good, front-oversized, front-undeclared}
use Rattle.fields.specs.Fields.{declare}
use Rattle.fields.specs.Front.{front}
use Rattle.index.specs.Fetch.{asked_for, behind_the, fetch, fetch_indexed, fetch_row, fetch_under, is_indexed}
use Rattle.rows.proofs.Calls.{converts}
use Rattle.rows.proofs.Laws.{read-nothing, read-row}
use Rattle.rows.proofs.Pieces.{behind-step}
use Rattle.rows.specs.Convert.{convert}
use Rattle.rows.specs.Pieces.{behind_row, behind_rows}
use Rattle.rows.specs.Sequence.{finished, row, stopped}
use Rattle.rows.specs.Stream.{Table, read, read_row, run}
use Rattle.table.proofs.Laws.{cond_cases, holds_at}
use Rattle.table.specs.Cell.{AreColumns, Cell}
use Rattle.table.specs.Outcome.{Call, Outcome, Refusal, answer_of, at, buffer_of, ending, most_input, refused, written}
use Rattle.table.specs.Result.{Result, bad, good}
use Rattle.table.specs.declared.Answer.{Answer}
use Rattle.table.specs.declared.Column.{Column}
use Rattle.table.specs.declared.Rows.{Rows}
use Rattle.table.specs.declared.Rows.TheVariants.{TableData}

-- ---- behind so many rows, and then behind more

behind-add : (from : Rows) (cs : List Column) (a b : ℕ) (s : List ℕ) → behind_rows from cs (a + b) s ≡ behind_rows from cs b (behind_rows from cs a s)
unfolding behind_rows
behind-add from cs a zero s = ap (λ (n : ℕ). behind_rows from cs n s) (add-zero a)
behind-add from cs a (suc b) s =
    let more : a + suc b ≡ suc (a + b) = omega arith in
    ap (λ (n : ℕ). behind_rows from cs n s) more ∙ behind-step from cs (a + b) s
    ∙ ap (λ (t : List ℕ). behind_row (read_row from cs t) t (λ rest. rest)) (behind-add from cs a b s) ∙ sym (behind-step from cs b (behind_rows from cs a s))

behind-count : {j : ℕ} {t u : Table} → Behind j t u → count t ≡ j + count u
unfolding count
behind-count from-here = omega arith
behind-count (past_row p) = omega (arith, behind-count p)

module _ (from : Rows) (cs : List Column) (are : AreColumns cs) where
  -- what is left behind so many rows reads as the rest of the table
  left-reads : (m : ℕ) (s : List ℕ) (t : Table) → read from cs s ≡ t → m ≤ count t → Behind m t (read from cs (behind_rows from cs m s))
  unfolding behind_rows behind_row count
  left-reads zero s t q h = rw q from-here
  left-reads (suc m) s finished q h = absurd (not-suc-le-zero h)
  left-reads (suc m) s (stopped e) q h = absurd (not-suc-le-zero h)
  left-reads (suc m) s (row xs t) q h =
      let f = first-row from cs are s xs t q in
      rw f.1 (past_row (left-reads m f.0 t f.2 (omega (arith, h))))

  -- the row behind m others, as it is fetched from a place
  fetched-there : (room m : ℕ) (s : List ℕ) (t : Table) → read from cs s ≡ t → m < count t
      → fetch_row from cs room m s ≡ run from TableData cs room (take (length (behind_rows from cs m s) - length (behind_rows from cs (suc m) s)) (behind_rows from cs m s))
  unfolding fetch_row behind_the count
  fetched-there room m s finished q h = absurd (not-suc-le-zero h)
  fetched-there room m s (stopped e) q h = absurd (not-suc-le-zero h)
  fetched-there room zero s (row xs t) q h =
      let f = first-row from cs are s xs t q in
      rw (behind-first from cs zero s xs f.0 f.1, f.1) (unfold behind_rows in refl)
  fetched-there room (suc m) s (row xs t) q h =
      let f = first-row from cs are s xs t q in
      rw (behind-first from cs m s xs f.0 f.1, behind-first from cs (suc m) s xs f.0 f.1, f.1) (fetched-there room m f.0 t f.2 (omega (arith, h)))

  -- ---- in the stream

  module _ (input : List ℕ) (r : ℕ) (reads : r < count (read from cs input)) where
    abbrev here : List ℕ
    here = behind_rows from cs r input

    abbrev behind : List ℕ
    behind = behind_rows from cs (r + 1) input

    own-here : own_bytes from cs input r ≡ take (length here - length behind) here
    unfolding own_bytes start_of
    own-here =
        let p = behind-place from cs are r input (omega (arith, reads)) in
        let q = behind-place from cs are (r + 1) input (omega (arith, reads)) in
        let took : (length input - length behind) - (length input - length here) ≡ length here - length behind = omega (arith, p.0, q.0) in
        ap₂ take took p.1

    pub own-short : length (own_bytes from cs input r) ≤ length input
    unfolding own_bytes
    own-short = simp (length-take, length-drop) (omega arith)

    -- by any start of a row before it
    from_start : (room a : ℕ) → a ≤ r → fetch_row from cs room (r - a) (behind_rows from cs a input) ≡ run from TableData cs room (own_bytes from cs input r)
    from_start room a h =
        let t = read from cs input in
        let left = left-reads a input t refl (omega (arith, h, reads)) in
        let s = behind_rows from cs a input in
        let onto : a + (r - a) ≡ r = omega (arith, h) in
        let further : a + suc (r - a) ≡ r + 1 = omega (arith, h) in
        let first : behind_rows from cs (r - a) s ≡ here = sym (behind-add from cs a (r - a) input) ∙ ap (λ (n : ℕ). behind_rows from cs n input) onto in
        let next : behind_rows from cs (suc (r - a)) s ≡ behind = sym (behind-add from cs a (suc (r - a)) input) ∙ ap (λ (n : ℕ). behind_rows from cs n input) further in
        fetched-there room (r - a) s (read from cs s) refl (omega (arith, h, reads, behind-count left))
        ∙ ap (run from TableData cs room) (ap₂ (λ (u v : List ℕ). take (length u - length v) u) first next ∙ sym own-here)

    -- the row itself: what is read there, and its bytes
    record RowThere : Type 0 where
      cells : List Cell
      others : Table
      there : Behind r (read from cs input) (row cells others)
      reads-there : read_row from cs here ≡ good (cells, behind)

    row-there-of : (u : Table) → read from cs here ≡ u → Behind r (read from cs input) u → RowThere
    unfolding count behind_row
    row-there-of finished q b = absurd (omega (arith, behind-count b, reads))
    row-there-of (stopped e) q b = absurd (omega (arith, behind-count b, reads))
    row-there-of (row xs u) q b =
        let f = first-row from cs are here xs u q in
        let next : f.0 ≡ behind = rw (add-one, behind-step from cs r input, f.1) refl in
        record { cells = xs; others = u; there = b; reads-there = f.1 ∙ ap (λ (l : List ℕ). good (xs, l)) next }

    the_row : RowThere
    the_row = row-there-of (read from cs here) refl (left-reads r input (read from cs input) refl (omega (arith, reads)))

    pub own_row : (xs : List Cell) × (row_at r (read from cs input) ≡ Some xs) × (read from cs (own_bytes from cs input r) ≡ only xs)
    own_row =
        let w = the_row in
        let k : Taken (read_row from cs) here (w.cells, behind) = holds_at (row-taken from cs here) w.reads-there in
        let many : length k.taken ≡ length here - length behind = omega (arith, ap length k.whole, length-append k.taken behind) in
        let own : own_bytes from cs input r ≡ k.taken ++ []
        = own-here ∙ ap (take (length here - length behind)) k.whole ∙ take_at k.taken behind (length here - length behind) many ∙ sym (append-nil k.taken) in (
          w.cells,
          row-there w.there,
          ap (read from cs) own ∙ read-row from cs are (k.taken ++ []) w.cells [] (k.again []) ∙ ap (row w.cells) (read-nothing from cs),
        )

-- ---- the call, by the index and the count that were answered

module _ (decls : List ℕ) (from : Rows) (input entry : List ℕ) (cs : List Column) (d : declare decls ≡ good cs) (sized : length input ≤ most_input) (c : Call)
    (s : IndexStands cs from input entry c) where
  are-columns : AreColumns cs
  are-columns = declared-columns decls cs d

  module _ (row : ℕ) (out : List ℕ) where
    abbrev fetched : Call
    fetched = fetch decls from input c.buffer c.answer.rows row out

    fetched-as : fetched ≡ as_row row (ending (fetch_indexed from cs (length out) input c.buffer c.answer.rows row) out)
    unfolding fetch fetch_under as_row
    fetched-as = rw (front-declared decls (length input) cs d sized) refl

    past_the_end : c.answer.rows ≤ row → fetched ≡ record { answer = record { number = 20; row = row; column = 0; rows = 0; bytes = 0 }; buffer = out }
    unfolding fetch_indexed is_indexed as_row asked_for ending answer_of buffer_of written at
    past_the_end h = fetched-as ∙ rw (le-ltb row c.answer.rows h) refl

    module _ (h : row < c.answer.rows) where
      within-read : row < count (read from cs input)
      within-read = omega (arith, h, s.rows-read)

      by-its-place : fetch_indexed from cs (length out) input c.buffer c.answer.rows row ≡ run from TableData cs (length out) (own_bytes from cs input row)
      unfolding fetch_indexed is_indexed start_of
      by-its-place =
          let k : ℕ = row / 64 in
          let e = s.places k (omega (arith, h)) in
          let place = (behind-place from cs are-columns (64 * k) input (omega (arith, within-read))).1 in
          let left : row % 64 ≡ row - 64 * k = omega arith in
          rw (lt-ltb row c.answer.rows h, lt-ltb k (length c.buffer) (omega (arith, e.0, s.as_long)), e.1, place, left)
          (from_start from cs are-columns input row within-read (length out) (64 * k) (omega arith))

      its_own : fetched ≡ as_row row (convert decls from TableData (own_bytes from cs input row) out)
      its_own =
          let short : length (own_bytes from cs input row) ≤ most_input = omega (arith, sized, own-short from cs are-columns input row within-read) in
          fetched-as ∙ ap (λ (o : Outcome). as_row row (ending o out)) by-its-place
          ∙ ap (as_row row) (sym (converts decls from TableData (own_bytes from cs input row) out cs d short))

    pub fetch-stands : FetchStands decls cs from input c.answer.rows row out fetched
    fetch-stands = record { alone = its_own; itself = λ h. own_row from cs are-columns input row (within-read h); past_end = past_the_end }

refused-fetch : (e : Refusal) (from : Rows) (input index : List ℕ) (rows asked : ℕ) (out : List ℕ) → NoRows e out (fetch_under (bad e) from input index rows asked out)
unfolding fetch_under ending answer_of buffer_of written
refused-fetch e from input index rows asked out = record { refused-at-once = refl; untouched = refl }

-- by the index of any stream, under any declarations
pub fetch-ended : (decls : List ℕ) (from : Rows) (input entry : List ℕ) (asked : ℕ) (out : List ℕ) (c : Call) → IndexEnded (declare decls) from input entry c
    → FetchEnded (declare decls) decls from input c.answer.rows asked out (fetch decls from input c.buffer c.answer.rows asked out)
unfolding fetch
fetch-ended decls from input entry asked out c = by-declared (declare decls) refl
  where
    called : Call
    called = fetch_under (front decls (length input)) from input c.buffer c.answer.rows asked out

    by_size : (cs : List Column) → declare decls ≡ good cs → (b : Bool) → ltb most_input (length input) ≡ b → IndexSized b cs from input entry c
        → FetchSized b decls cs from input c.answer.rows asked out called
    by_size cs d true h i =
        rw (front-oversized decls (length input) cs d (ltb-true most_input (length input) h)) (refused-fetch (at 0 6) from input c.buffer c.answer.rows asked out)
    by_size cs d false h i = fetch-stands decls from input entry cs d (ltb-false most_input (length input) h) c i asked out

    by-declared : (r : Result Refusal (List Column)) → declare decls ≡ r → IndexEnded r from input entry c → FetchEnded r decls from input c.answer.rows asked out called
    by-declared (good cs) d i = by_size cs d (ltb most_input (length input)) refl i
    by-declared (bad e) d i = rw (front-undeclared decls (length input) e d) (refused-fetch e from input c.buffer c.answer.rows asked out)

-- ---- what a fetch looks at, with any index

module _ (from : Rows) (cs : List Column) where
  -- the bytes that were looked at; whatever stands behind them, the same is fetched
  record Looked (m : ℕ) (s left : List ℕ) : Type 0 where
    looked-at : List ℕ
    whole : s ≡ looked-at ++ left
    alike : (room : ℕ) (t : List ℕ) → fetch_row from cs room m (looked-at ++ t) ≡ fetch_row from cs room m s

  module _ (s rest : List ℕ) (xs : List Cell) (e : read_row from cs s ≡ good (xs, rest)) where
    took : Taken (read_row from cs) s (xs, rest)
    took = holds_at (row-taken from cs s) e

    -- the row itself: its own bytes
    alone-from : (room : ℕ) (t : List ℕ) → fetch_row from cs room zero (took.taken ++ t) ≡ run from TableData cs room took.taken
    unfolding fetch_row behind_the
    alone-from room t =
        let k = took in
        let n : length k.taken ≡ length (k.taken ++ t) - length t = omega (arith, length-append k.taken t) in
        rw (k.again t) (ap (run from TableData cs room) (take_at k.taken t (length (k.taken ++ t) - length t) n))

    looked-row : Looked zero s rest
    looked-row = record {
      looked-at = took.taken;
      whole = took.whole;
      alike = λ room t. alone-from room t ∙ sym (ap (fetch_row from cs room zero) took.whole ∙ alone-from room rest);
    }

    looked-more : (m : ℕ) (left : List ℕ) → Looked m rest left → Looked (suc m) s left
    unfolding fetch_row behind_the
    looked-more m left l = record {
      looked-at = took.taken ++ l.looked-at;
      whole = took.whole ∙ ap (λ (x : List ℕ). took.taken ++ x) l.whole ∙ sym (append_assoc took.taken l.looked-at left);
      alike = λ room t. rw (append_assoc took.taken l.looked-at t, took.again (l.looked-at ++ t), e) (l.alike room t);
    }

  looked : (m : ℕ) (s left : List ℕ) → RowsRead from cs (suc m) s left → Looked m s left
  looked m s left (row_read {rest = rest} {xs = xs} e none_read) = looked-row s rest xs e
  looked m s left (row_read {rest = rest} {xs = xs} e (row_read f r)) = looked-more s rest xs e _ left (looked _ rest left (row_read f r))

-- two lists that hold the same at so many places
same-front : (n : ℕ) (l m : List ℕ) → length m ≡ length l → ((i : ℕ) → i < n → get_or m i 0 ≡ get_or l i 0) → take n m ≡ take n l
same-front n l m e h =
    ext_get_or 0 (take n m) (take n l) (length-take n m ∙ ap (min n) e ∙ sym (length-take n l))
    (λ i k. let below : i < n = omega (arith, k, length-take n m) in get_or-take n m i 0 below ∙ h i below ∙ sym (get_or-take n l i 0 below))

module _ (from : Rows) (cs : List Column) (input other : List ℕ) (start before : ℕ) where
  -- the same bytes from the start to a place are the same front of what is left there
  same_from : (end n : ℕ) → length other ≡ length input → start + n ≤ end → ((i : ℕ) → start ≤ i → i < end → get_or other i 0 ≡ get_or input i 0)
      → take n (drop start other) ≡ take n (drop start input)
  same_from end n e l h =
      same-front n (drop start input) (drop start other) (length-drop start other ∙ ap (λ (k : ℕ). k - start) e ∙ sym (length-drop start input))
      (λ i k. get_or-drop start other i 0 ∙ h (start + i) (omega arith) (omega (arith, k, l)) ∙ sym (get_or-drop start input i 0))

  fetched-alike : (room end : ℕ) → LooksTo from cs input start before end → length other ≡ length input
      → ((i : ℕ) → start ≤ i → i < end → get_or other i 0 ≡ get_or input i 0)
      → fetch_row from cs room before (drop start other) ≡ fetch_row from cs room before (drop start input)
  fetched-alike room end (to-its-end {left = left} r) e h =
      let k = looked from cs before (drop start input) left r in
      let n : ℕ = length k.looked-at in
      let parts : length (drop start input) ≡ n + length left = ap length k.whole ∙ length-append k.looked-at left in
      let same : take n (drop start other) ≡ k.looked-at
      = within n (omega (arith, parts, length-drop start input)) ∙ ap (take n) k.whole ∙ take_at k.looked-at left n refl in
      ap (fetch_row from cs room before) (sym (take-append-drop n (drop start other)) ∙ ap (λ (l : List ℕ). l ++ drop n (drop start other)) same)
      ∙ k.alike room (drop n (drop start other))
    where
      within : (n : ℕ) → n + length left ≤ length input - start → take n (drop start other) ≡ take n (drop start input)
      within zero l = refl
      within (suc m) l = same_from (length input - length left) (suc m) e (omega (arith, l)) h
  fetched-alike room end to_the_end e h =
      let n : ℕ = length input - start in
      let long : length (drop start other) ≡ n = length-drop start other ∙ ap (λ (k : ℕ). k - start) e in
      ap (fetch_row from cs room before)
      (sym (take_all n (drop start other) (omega (arith, long))) ∙ within n (omega arith) ∙ take_all n (drop start input) (omega (arith, length-drop start input)))
    where
      within : (n : ℕ) → n ≤ length input - start → take n (drop start other) ≡ take n (drop start input)
      within zero l = refl
      within (suc m) l = same_from (length input) (suc m) e (omega (arith, l)) h

-- ---- the calls

-- what a call on a row wrote
row_output : (asked : ℕ) (o : Outcome) (out : List ℕ) → output (as_row asked (ending o out)) ≡ written o
unfolding output as_row asked_for ending buffer_of
row_output asked o out =
    cond_cases (λ (a : Answer). take a.bytes (written o ++ drop (length (written o)) out) ≡ written o) (eqb (answer_of o).number 0) _ _
    (λ _. whole) (λ _. whole)
  where
    whole : take (answer_of o).bytes (written o ++ drop (length (written o)) out) ≡ written o
    whole = take_at (written o) (drop (length (written o)) out) (answer_of o).bytes (sym (bytes-of o out))

same-refused : (from : Rows) (e : Refusal) (input other index others : List ℕ) (rows asked : ℕ) (out room : List ℕ)
    → SameOutput (fetch_under (bad e) from input index rows asked out) (fetch_under (bad e) from other others rows asked room)
unfolding fetch_under
same-refused from e input other index others rows asked out room =
    record { same_answer = (unfold ending in refl); same_bytes = output-of (refused e 0 []) room ∙ sym (output-of (refused e 0 []) out) }

same_outcome : (asked : ℕ) (o : Outcome) (p q : List ℕ) → SameOutput (as_row asked (ending o p)) (as_row asked (ending o q))
same_outcome asked o p q =
    record { same_answer = (unfold as_row ending in refl); same_bytes = row_output asked o q ∙ sym (row_output asked o p) }

module _ (from : Rows) (cs : List Column) (input other index others : List ℕ) (rows asked : ℕ) (out room : List ℕ) (l : length room ≡ length out) (i : SameEntry index others asked)
    (t : SameThere from cs input other (get_or index (asked / 64) 0) (asked % 64)) where
  indexed-alike : fetch_indexed from cs (length room) other others rows asked ≡ fetch_indexed from cs (length out) input index rows asked
  unfolding fetch_indexed is_indexed
  indexed-alike =
      rw (l, i.same-places, i.same_start, fetched-alike from cs input other (get_or index (asked / 64) 0) (asked % 64) (length out) t.end t.looks t.same-long t.same_bytes) refl

  indexed-same : SameOutput (fetch_under (good cs) from input index rows asked out) (fetch_under (good cs) from other others rows asked room)
  unfolding fetch_under as_row
  indexed-same =
      rw indexed-alike (same_outcome asked (fetch_indexed from cs (length out) input index rows asked) out room)

pub fetches-alike : (decls : List ℕ) (from : Rows) (input other index others : List ℕ) (rows asked : ℕ) (out room : List ℕ)
    → FetchesAlike decls from input other index others asked out room (fetch decls from input index rows asked out) (fetch decls from other others rows asked room)
unfolding fetch
fetches-alike decls from input other index others rows asked out room l i there = by-declared (declare decls) refl
  where
    first : Call
    first = fetch_under (front decls (length input)) from input index rows asked out

    second : Call
    second = fetch_under (front decls (length other)) from other others rows asked room

    by-declared : (r : Result Refusal (List Column)) → declare decls ≡ r → SameOutput first second
    by-declared (bad e) d = rw (front-undeclared decls (length input) e d, front-undeclared decls (length other) e d) (same-refused from e input other index others rows asked out room)
    by-declared (good cs) d =
        let t = there cs d in
        rw t.same-long (by_front (front decls (length input)) refl)
      where
        by_front : (r : Result Refusal (List Column)) → front decls (length input) ≡ r
            → SameOutput (fetch_under r from input index rows asked out) (fetch_under r from other others rows asked room)
        by_front (bad e) q = same-refused from e input other index others rows asked out room
        by_front (good ds) q =
            indexed-same from ds input other index others rows asked out room l i (there ds (front-good decls (length input) ds q))
