-- An index holds the starts of rows 0, 64, 128 and so on of the rows that were read, and no more: by induction on what is left of the stream, with the
-- entries so far (Standing). And nothing else stands for an index: whatever answer and buffer meet the statement are these.
use Rattle.std.specs.Prelude.{Some}
use Prim.Native.Nat.{◌%◌, ◌*◌, ◌+◌, ◌-◌, ◌/◌, ◌<◌, ◌≤◌, suc, zero, ℕ}
use native.Mathlib.Nat.{lt_irrefl, not-suc-le-zero}
use native.Mathlib.Numerals.{add-one}
use native.Mathlib.Omega.{arith}
use mathlib.Core.Bool.{Bool, cond, false, true}
use mathlib.Core.List.{List, [], ◌++◌, ◌∷◌, append-nil}
use mathlib.Core.Path.{◌∙◌, ◌≡◌, ap, ap₂, refl, subst, subst⁻¹, sym}
use lib.Dec.{eqb, ltb}
use lib.ListN.{get_or-append, drop, get_or, length, length-append, length-drop}
use lib.Seq.{ext_get_or, get_or-append-add, get_or_at, get_or-drop}
use borrow.Author.Tests.{eqb-false, eqb-true, ltb-false, ltb-true}
use Rattle.demands.proofs.OnlyOne.{same-refusal}
use Rattle.demands.proofs.Writing.{Behind, ends-behind, first-written, from-here, past_row, row-behind, stop-behind}
use Rattle.demands.specs.OneRow.{IndexEnded, IndexSized, IndexStands, SameStop, StopsAsConverted, WhyIndexed, all-indexed, index-stopped, no_place, start_of}
use Rattle.demands.specs.Tables.{Ends, count, lines, row_at, stop_at, up_to}
use Rattle.fields.proofs.Front.{front-good}
use Rattle.fields.proofs.Laws.{declare-is}
use Rattle.fields.specs.Fields.{declare}
use Rattle.fields.specs.Front.{front}
use Rattle.index.proofs.Entries.{entry-fits, entry-lacks, no-entry-fits}
use Rattle.index.proofs.Starts.{starts-step}
use Rattle.index.specs.Index.{enter, entry_of, index, indexing, row_start, starts_of, without_bytes}
use Rattle.rows.proofs.Calls.{past-front}
use Rattle.rows.proofs.Laws.{columns-within, read_step, row-less}
use Rattle.rows.proofs.Pieces.{behind-step}
use Rattle.rows.specs.Convert.{convert, converting, under_columns}
use Rattle.rows.specs.Pieces.{behind_row, behind_rows}
use Rattle.rows.specs.Sequence.{finished, row, row_then, stopped}
use Rattle.rows.specs.Stream.{Table, at_end, fitted, read, read_row, run, write, wrote_then}
use Rattle.table.proofs.Laws.{holds_at}
use Rattle.table.specs.Cell.{AreColumns, Cell}
use Rattle.table.specs.Outcome.{Call, Outcome, Refusal, accepted, answer_of, at, buffer_of, ending, most_input, refused, rows_done, written}
use Rattle.table.specs.Result.{Holds, Result, ◌>>=◌, bad, good, holds, refuses}
use Rattle.table.specs.declared.Answer.{Answer}
use Rattle.table.specs.declared.Column.{Column}
use Rattle.table.specs.declared.Rows.{Rows}

-- ---- what stands behind the first rows of a table

pub one_further : {j : ℕ} {t u : Table} {xs : List Cell} → Behind j t (row xs u) → Behind (suc j) t u
one_further from-here = past_row from-here
one_further (past_row p) = past_row (one_further p)

pub row-there : {j : ℕ} {t u : Table} {xs : List Cell} → Behind j t (row xs u) → row_at j t ≡ Some xs
unfolding row_at
row-there from-here = refl
row-there (past_row p) = row-there p

pub stop-there : {j : ℕ} {t : Table} {e : Refusal} → Behind j t (stopped e) → stop_at j t ≡ Some e
unfolding stop_at
stop-there from-here = refl
stop-there (past_row p) = stop-there p

pub end-there : {j : ℕ} {t : Table} → Behind j t finished → Ends t × (j ≡ count t)
unfolding count
end-there from-here = (tt, refl)
end-there (past_row p) = let h = end-there p in (h.0, ap suc h.1)

pub behind-read : {j : ℕ} {t u : Table} → Behind j t u → j ≤ count t
unfolding count
behind-read from-here = omega arith
behind-read (past_row p) = omega (arith, behind-read p)

pub stop-last : {j : ℕ} {t : Table} {e : Refusal} → Behind j t (stopped e) → (j ≡ count t) × (Ends t → ⊥)
unfolding count
stop-last from-here = (refl, λ z. z)
stop-last (past_row p) = let h = stop-last p in (ap suc h.0, h.1)

pub row_before : {j : ℕ} {t u : Table} {xs : List Cell} → Behind j t (row xs u) → j < count t
unfolding count
row_before from-here = omega arith
row_before (past_row p) = omega (arith, row_before p)

-- ---- the entries so far

module _ (from : Rows) (cs : List Column) (are : AreColumns cs) (input : List ℕ) (room : ℕ) where
  record Standing (r : ℕ) (entries : List ℕ) : Type 0 where
    many : length entries ≡ (r + 63) / 64
    fit : length entries ≤ room
    each : (k : ℕ) → 64 * k < r → get_or entries k 0 ≡ start_of from cs input (64 * k)

  module _ (r : ℕ) (entries : List ℕ) (h : Standing r entries) where
    none-added : eqb (r % 64) 0 ≡ false → Standing (r + 1) (entries ++ entry_of r (start_of from cs input r))
    unfolding entry_of
    none-added e =
        let between = eqb-false (r % 64) 0 e in
        rw (e, append-nil entries) (record { many = omega (arith, h.many, between); fit = h.fit; each = λ k l. h.each k (omega (arith, l, between)) })

    one-added : eqb (r % 64) 0 ≡ true → length entries < room → Standing (r + 1) (entries ++ entry_of r (start_of from cs input r))
    unfolding entry_of
    one-added e l =
        let whole = eqb-true (r % 64) 0 e in
        let start = start_of from cs input r in
        let longer : length (entries ++ (start ∷ [])) ≡ length entries + 1 = length-append entries (start ∷ []) in
        rw e (record { many = omega (arith, longer, h.many, whole); fit = omega (arith, longer, l); each = λ k m. at_place whole k m (ltb (64 * k) r) refl })
      where
        at_place : (r % 64 ≡ 0) → (k : ℕ) → 64 * k < r + 1 → (b : Bool) → ltb (64 * k) r ≡ b → get_or (entries ++ (start_of from cs input r ∷ [])) k 0 ≡ start_of from cs input (64 * k)
        at_place whole k m true e =
            let earlier = ltb-true (64 * k) r e in
            get_or-append entries (start_of from cs input r ∷ []) 0 k (omega (arith, earlier, h.many)) ∙ h.each k earlier
        at_place whole k m false e =
            let here : r ≡ 64 * k = omega (arith, m, ltb-false (64 * k) r e) in
            get_or_at entries (start_of from cs input r) [] 0 k (omega (arith, h.many, here)) ∙ ap (start_of from cs input) here

  -- ---- the whole stream

  record IndexOf (o : Outcome) : Type 0 where
    read-rows : rows_done o ≤ count (read from cs input)
    standing : Standing (rows_done o) (written o)
    why-there : WhyIndexed room (read from cs input) (rows_done o) (answer_of o).number (answer_of o).row (answer_of o).column

  -- what is left of the stream behind the first r rows
  abbrev LeftAt : ℕ → List ℕ → Type 0
  LeftAt r s = (behind_rows from cs r input ≡ s) × Behind r (read from cs input) (read from cs s)

  at-the-start : LeftAt 0 input
  unfolding behind_rows
  at-the-start = (refl, from-here)

  module _ (r : ℕ) (s entries : List ℕ) (left : LeftAt r s) (h : Standing r entries) where
    index-end : at_end from s ≡ true → IndexOf (enter room r entries (starts_of (length input) from cs s))
    unfolding enter rows_done written answer_of
    index-end e =
        let t : read from cs s ≡ finished = read_step from cs are s ∙ rw e in
        let q : starts_of (length input) from cs s ≡ finished = starts-step (length input) from cs (columns-within cs are) s ∙ rw e in
        let b : Behind r (read from cs input) finished = subst (Behind r (read from cs input)) t left.1 in
        rw q (record { read-rows = behind-read b; standing = h; why-there = all-indexed (end-there b).0 (end-there b).1 })

    module _ (more : at_end from s ≡ false) where
      index-stop : (x : Refusal) → read_row from cs s ≡ bad x → IndexOf (enter room r entries (starts_of (length input) from cs s))
      unfolding enter rows_done written answer_of row_then row_start
      index-stop x e =
          let t : read from cs s ≡ stopped x = read_step from cs are s ∙ rw (more, e) in
          let q : starts_of (length input) from cs s ≡ stopped x = starts-step (length input) from cs (columns-within cs are) s ∙ rw (more, e) in
          let b : Behind r (read from cs input) (stopped x) = subst (Behind r (read from cs input)) t left.1 in
          rw q (record { read-rows = behind-read b; standing = h; why-there = index-stopped (stop-there b) })

      module _ (xs : List Cell) (rest : List ℕ) (e : read_row from cs s ≡ good (xs, rest)) where
        there : Behind r (read from cs input) (row xs (read from cs rest))
        unfolding row_then
        there = subst (Behind r (read from cs input)) (read_step from cs are s ∙ rw (more, e)) left.1

        left-more : LeftAt (r + 1) rest
        unfolding behind_row
        left-more = rw (add-one, behind-step from cs r input, left.0, e) (refl, one_further there)

        its-start : length input - length s ≡ start_of from cs input r
        unfolding start_of
        its-start = rw left.0 refl

        onward : enter room r entries (starts_of (length input) from cs s)
            ≡ wrote_then r entries (fitted room entries (good (entry_of r (start_of from cs input r)))) (λ es. enter room (r + 1) es (starts_of (length input) from cs rest))
        unfolding enter row_then row_start
        onward = ap (enter room r entries) (starts-step (length input) from cs (columns-within cs are) s) ∙ rw (more, e, its-start)

        index-lacks : eqb (r % 64) 0 ≡ true → room ≤ length entries → IndexOf (enter room r entries (starts_of (length input) from cs s))
        unfolding wrote_then rows_done written answer_of at
        index-lacks w l =
            rw (onward, entry-lacks room r (start_of from cs input r) entries h.fit w l)
            (record { read-rows = behind-read there; standing = h; why-there = no_place (row-there there) (omega (arith, h.many, h.fit, l, eqb-true (r % 64) 0 w)) })

        module _ (again : (es : List ℕ) → Standing (r + 1) es → IndexOf (enter room (r + 1) es (starts_of (length input) from cs rest))) where
          index-none : eqb (r % 64) 0 ≡ false → IndexOf (enter room r entries (starts_of (length input) from cs s))
          unfolding wrote_then
          index-none w = rw (onward, no-entry-fits room r (start_of from cs input r) entries h.fit w) (again _ (none-added r entries h w))

          index-one : eqb (r % 64) 0 ≡ true → length entries < room → IndexOf (enter room r entries (starts_of (length input) from cs s))
          unfolding wrote_then
          index-one w l = rw (onward, entry-fits room r (start_of from cs input r) entries h.fit w l) (again _ (one-added r entries h w l))

          index-row : IndexOf (enter room r entries (starts_of (length input) from cs s))
          index-row = by-entry (eqb (r % 64) 0) refl (ltb (length entries) room) refl
            where
              by-entry : (b : Bool) → eqb (r % 64) 0 ≡ b → (f : Bool) → ltb (length entries) room ≡ f → IndexOf (enter room r entries (starts_of (length input) from cs s))
              by-entry false w f l = index-none w
              by-entry true w true l = index-one w (ltb-true (length entries) room l)
              by-entry true w false l = index-lacks w (ltb-false (length entries) room l)

  index-from : (f r : ℕ) (s entries : List ℕ) → length s < f → LeftAt r s → Standing r entries → IndexOf (enter room r entries (starts_of (length input) from cs s))
  index-from zero r s entries l left h = absurd (not-suc-le-zero l)
  index-from (suc f) r s entries l left h = go (at_end from s) refl (read_row from cs s) refl (index-from f)
    where
      go : (b : Bool) → at_end from s ≡ b → (w : Result Refusal (List Cell × List ℕ)) → read_row from cs s ≡ w
          → ((r : ℕ) (s entries : List ℕ) → length s < f → LeftAt r s → Standing r entries → IndexOf (enter room r entries (starts_of (length input) from cs s)))
          → IndexOf (enter room r entries (starts_of (length input) from cs s))
      go true e w q again = index-end r s entries left h e
      go false e (bad x) q again = index-stop r s entries left h e x q
      go false e (good p) q again =
          index-row r s entries left h e p.0 p.1 q
          (λ es k. again (r + 1) p.1 es (omega (arith, l, holds_at (row-less from cs s are) q)) (left-more r s entries left h e p.0 p.1 q) k)

  index_of : IndexOf (enter room 0 [] (starts_of (length input) from cs input))
  index_of =
      index-from (suc (length input)) 0 input [] (omega arith) at-the-start
      (record { many = refl; fit = omega arith; each = λ k l. absurd (not-suc-le-zero l) })

-- ---- the call

-- the call of an outcome
abbrev indexed_as : Outcome → List ℕ → Call
indexed_as o entry = record { answer = without_bytes (ending o entry).answer; buffer = (ending o entry).buffer }

-- an outcome's entries in the buffer, and behind them what it held
module _ (from : Rows) (cs : List Column) (are : AreColumns cs) (input entry : List ℕ) (o : Outcome) (h : IndexOf from cs are input (length entry) o) where
  in_buffer : (k : ℕ) → 64 * k < rows_done o → (k < length entry) × (get_or (buffer_of o entry) k 0 ≡ start_of from cs input (64 * k))
  unfolding buffer_of
  in_buffer k l =
      let s = h.standing in
      let inside : k < length (written o) = omega (arith, l, s.many) in
      (omega (arith, inside, s.fit), get_or-append (written o) (drop (length (written o)) entry) 0 k inside ∙ s.each k l)

  behind-entries : (k : ℕ) → rows_done o ≤ 64 * k → get_or (buffer_of o entry) k 0 ≡ get_or entry k 0
  unfolding buffer_of
  behind-entries k l =
      let n : ℕ = length (written o) in
      let past : n + (k - n) ≡ k = omega (arith, l, h.standing.many) in
      ap (λ (i : ℕ). get_or (written o ++ drop n entry) i 0) (sym past) ∙ get_or-append-add (written o) (drop n entry) (k - n) 0 ∙ get_or-drop n entry (k - n) 0
      ∙ ap (λ (i : ℕ). get_or entry i 0) past

  same-long : length (buffer_of o entry) ≡ length entry
  unfolding buffer_of
  same-long = length-append (written o) (drop (length (written o)) entry) ∙ omega (arith, length-drop (length (written o)) entry, h.standing.fit)

  stands_of : IndexStands cs from input entry (indexed_as o entry)
  unfolding without_bytes ending
  stands_of = rw (← rows_are o) (record {
    rows-read = h.read-rows;
    places = in_buffer;
    untouched = behind-entries;
    as_long = same-long;
    why = h.why-there;
    no_bytes = refl;
  })
    where
      rows_are : (o : Outcome) → rows_done o ≡ (answer_of o).rows
      rows_are (accepted r w) = unfold rows_done answer_of in refl
      rows_are (refused e r w) = unfold rows_done answer_of in refl

sized-at : (b : Bool) (cs : List Column) → AreColumns cs → (from : Rows) (input entry : List ℕ)
    → IndexSized b cs from input entry
    (indexed_as (under_columns (cond b (bad (at 0 6)) (good cs)) (λ cols. enter (length entry) 0 [] (starts_of (length input) from cols input))) entry)
unfolding under_columns
sized-at true cs are from input entry = unfold ending answer_of buffer_of written without_bytes at in record { refused-at-once = refl; untouched = refl }
sized-at false cs are from input entry =
    stands_of from cs are input entry (enter (length entry) 0 [] (starts_of (length input) from cs input)) (index_of from cs are input (length entry))

ended_at : (r : Result Refusal (List Column)) → Holds AreColumns r → (from : Rows) (input entry : List ℕ)
    → IndexEnded r from input entry
    (indexed_as (under_columns (r >>= λ cs. cond (ltb most_input (length input)) (bad (at 0 6)) (good cs)) (λ cols. enter (length entry) 0 [] (starts_of (length input) from cols input)))
    entry)
unfolding under_columns
ended_at (good cs) (holds are) from input entry = sized-at (ltb most_input (length input)) cs are from input entry
ended_at (bad e) refuses from input entry = unfold ending answer_of buffer_of written without_bytes in record { refused-at-once = refl; untouched = refl }

-- an index of any stream, under any declarations
pub index-ended : (decls : List ℕ) (from : Rows) (input entry : List ℕ) → IndexEnded (declare decls) from input entry (index decls from input entry)
unfolding index indexing front
index-ended decls from input entry = ended_at (declare decls) (declare-is decls) from input entry

-- ---- nothing else stands for an index

-- one reason behind so many rows
same-why : (room : ℕ) (t : Table) (rows n r k m q l : ℕ) → WhyIndexed room t rows n r k → WhyIndexed room t rows m q l → (n ≡ m) × (r ≡ q) × (k ≡ l)
same-why room t rows n r k m q l (all-indexed e c) (all-indexed f d) = (refl, refl, refl)
same-why room t rows n r k m q l (all-indexed e c) (index-stopped {e = y} d) = absurd ((stop-last (stop-behind rows t y d)).1 e)
same-why room t rows n r k m q l (all-indexed e c) (no_place {xs = xs} d f) = absurd (omega (arith, c, row_before (row-behind rows t xs d).1))
same-why room t rows n r k m q l (index-stopped {e = x} c) (all-indexed f d) = absurd ((stop-last (stop-behind rows t x c)).1 f)
same-why room t rows n r k m q l (index-stopped {e = x} c) (index-stopped {e = y} d) =
    let same : x ≡ y = cc in (ap (λ (z : Refusal). z.number) same, refl, ap (λ (z : Refusal). z.column) same)
same-why room t rows n r k m q l (index-stopped {e = x} c) (no_place {xs = xs} d f) =
    absurd (omega (arith, (stop-last (stop-behind rows t x c)).0, row_before (row-behind rows t xs d).1))
same-why room t rows n r k m q l (no_place {xs = xs} c e) (all-indexed f d) = absurd (omega (arith, d, row_before (row-behind rows t xs c).1))
same-why room t rows n r k m q l (no_place {xs = xs} c e) (index-stopped {e = y} d) =
    absurd (omega (arith, (stop-last (stop-behind rows t y d)).0, row_before (row-behind rows t xs c).1))
same-why room t rows n r k m q l (no_place c e) (no_place d f) = (refl, refl, refl)

-- the rows are all that are read, or as many as the buffer has places for
why-rows : (room : ℕ) (t : Table) (rows n r k : ℕ) → WhyIndexed room t rows n r k → (rows ≡ count t → ⊥) → rows ≡ 64 * room
why-rows room t rows n r k (all-indexed e c) f = absurd (f c)
why-rows room t rows n r k (index-stopped {e = x} c) f = absurd (f (stop-last (stop-behind rows t x c)).0)
why-rows room t rows n r k (no_place c e) f = e

same_answer : (a b : Answer) → a.number ≡ b.number → a.row ≡ b.row → a.column ≡ b.column → a.rows ≡ b.rows → a.bytes ≡ b.bytes → a ≡ b
same_answer a b n r k m l =
    ap₂ (λ (x y : ℕ). record { number = x; row = y; column = a.column; rows = a.rows; bytes = a.bytes }) n r
    ∙ ap₂ (λ (x y : ℕ). record { number = b.number; row = b.row; column = x; rows = y; bytes = a.bytes }) k m
    ∙ ap (λ (x : ℕ). record { number = b.number; row = b.row; column = b.column; rows = b.rows; bytes = x }) l

module _ (cs : List Column) (from : Rows) (input entry : List ℕ) where
  -- a row whose entry has no place is not counted
  placed-rows : (c : Call) → IndexStands cs from input entry c → c.answer.rows ≤ 64 * length entry
  placed-rows c s = go (ltb (64 * length entry) c.answer.rows) refl
    where
      go : (b : Bool) → ltb (64 * length entry) c.answer.rows ≡ b → c.answer.rows ≤ 64 * length entry
      go true e = absurd (lt_irrefl _ (s.places (length entry) (ltb-true (64 * length entry) c.answer.rows e)).0)
      go false e = ltb-false (64 * length entry) c.answer.rows e

  module _ (c d : Call) (s : IndexStands cs from input entry c) (z : IndexStands cs from input entry d) where
    same_rows : c.answer.rows ≡ d.answer.rows
    same_rows = go (eqb c.answer.rows (count (read from cs input))) refl (eqb d.answer.rows (count (read from cs input))) refl
      where
        t : Table
        t = read from cs input

        go : (a : Bool) → eqb c.answer.rows (count t) ≡ a → (b : Bool) → eqb d.answer.rows (count t) ≡ b → c.answer.rows ≡ d.answer.rows
        go true e true f = eqb-true c.answer.rows (count t) e ∙ sym (eqb-true d.answer.rows (count t) f)
        go true e false f =
            let q = why-rows _ t _ _ _ _ z.why (eqb-false d.answer.rows (count t) f) in
            omega (arith, eqb-true c.answer.rows (count t) e, q, z.rows-read, placed-rows c s)
        go false e true f =
            let q = why-rows _ t _ _ _ _ s.why (eqb-false c.answer.rows (count t) e) in
            omega (arith, eqb-true d.answer.rows (count t) f, q, s.rows-read, placed-rows d z)
        go false e false f =
            why-rows _ t _ _ _ _ s.why (eqb-false c.answer.rows (count t) e) ∙ sym (why-rows _ t _ _ _ _ z.why (eqb-false d.answer.rows (count t) f))

    same_place : (k : ℕ) → k < length c.buffer → get_or c.buffer k 0 ≡ get_or d.buffer k 0
    same_place k l = go (ltb (64 * k) c.answer.rows) refl
      where
        go : (b : Bool) → ltb (64 * k) c.answer.rows ≡ b → get_or c.buffer k 0 ≡ get_or d.buffer k 0
        go true e =
            let m = ltb-true (64 * k) c.answer.rows e in
            (s.places k m).1 ∙ sym (z.places k (omega (arith, m, same_rows))).1
        go false e =
            let m = ltb-false (64 * k) c.answer.rows e in
            s.untouched k m ∙ sym (z.untouched k (omega (arith, m, same_rows)))

    pub one_index : c ≡ d
    one_index =
        let why : WhyIndexed (length entry) (read from cs input) c.answer.rows d.answer.number d.answer.row d.answer.column
        = subst⁻¹ (λ (n : ℕ). WhyIndexed (length entry) (read from cs input) n d.answer.number d.answer.row d.answer.column) same_rows z.why in
        let w = same-why _ _ _ _ _ _ _ _ _ s.why why in
        ap₂ (λ (a : Answer) (l : List ℕ). record { answer = a; buffer = l })
        (same_answer c.answer d.answer w.0 w.1 w.2 same_rows (s.no_bytes ∙ sym z.no_bytes))
        (ext_get_or 0 c.buffer d.buffer (s.as_long ∙ sym z.as_long) same_place)

one-sized : (b : Bool) (cs : List Column) (from : Rows) (input entry : List ℕ) (c d : Call) → IndexSized b cs from input entry c → IndexSized b cs from input entry d → c ≡ d
one-sized true cs from input entry c d h k = same-refusal (at 0 6) entry c d h k
one-sized false cs from input entry c d h k = one_index cs from input entry c d h k

one_ended : (r : Result Refusal (List Column)) (from : Rows) (input entry : List ℕ) (c d : Call) → IndexEnded r from input entry c → IndexEnded r from input entry d → c ≡ d
one_ended (good cs) from input entry c d h k = one-sized (ltb most_input (length input)) cs from input entry c d h k
one_ended (bad e) from input entry c d h k = same-refusal e entry c d h k

-- whatever meets the statement is the call of `index`
pub only-index : (decls : List ℕ) (from : Rows) (input entry : List ℕ) (c : Call) → IndexEnded (declare decls) from input entry c → c ≡ index decls from input entry
only-index decls from input entry c h = one_ended (declare decls) from input entry c (index decls from input entry) h (index-ended decls from input entry)

-- ---- refused in indexing as in converting

lines-all : (to : Rows) (cs : List Column) (t : Table) → lines to cs (up_to (count t) t) ≡ lines to cs t
unfolding lines up_to count
lines-all to cs finished = refl
lines-all to cs (stopped e) = refl
lines-all to cs (row xs t) = rw (lines-all to cs t)

module _ (to : Rows) (cs : List Column) (t : Table) (space room : ℕ) (body : List ℕ) (forms : lines to cs t ≡ good body) (fits : length body ≤ space) (few : count t ≤ 64 * room) where
  as-converted : (rows n r k : ℕ) → WhyIndexed room t rows n r k
      → answer_of (write to cs space 0 [] t) ≡ record { number = n; row = r; column = k; rows = rows; bytes = length body }
  unfolding write answer_of
  as-converted rows n r k (all-indexed e q) =
      rw (first-written to cs space body (ends-behind t e) (lines-all to cs t ∙ forms) fits, q)
  as-converted rows n r k (index-stopped {e = e} q) =
      let b = stop-behind rows t e q in
      let all : lines to cs (up_to rows t) ≡ good body = ap (λ (m : ℕ). lines to cs (up_to m t)) (stop-last b).0 ∙ lines-all to cs t ∙ forms in
      rw (first-written to cs space body b all fits)
  as-converted rows n r k (no_place {xs = xs} q e) = absurd (omega (arith, e, few, row_before (row-behind rows t xs q).1))

stop-of : (o : Outcome) (d : Call) (w : ℕ) → d.answer ≡ record { number = (answer_of o).number; row = (answer_of o).row; column = (answer_of o).column; rows = rows_done o; bytes = w }
    → (entry : List ℕ) → SameStop (indexed_as o entry) d
unfolding without_bytes ending answer_of rows_done
stop-of (accepted r w) d n q entry = rw q (record { same_number = refl; same_row = refl; same-column = refl; same_rows = refl })
stop-of (refused e r w) d n q entry = rw q (record { same_number = refl; same_row = refl; same-column = refl; same_rows = refl })

pub stops-as-converted : (decls : List ℕ) (from : Rows) (input entry : List ℕ) → StopsAsConverted decls from input entry (index decls from input entry)
stops-as-converted decls from input entry to out few forms = go (front decls (length input)) refl
  where
    go : (r : Result Refusal (List Column)) → front decls (length input) ≡ r → SameStop (index decls from input entry) (convert decls from to input out)
    go (bad x) q =
        unfold index indexing convert converting under_columns in
        rw q (unfold ending answer_of without_bytes in record { same_number = refl; same_row = refl; same-column = refl; same_rows = refl })
    go (good cs) q =
        let d = front-good decls (length input) cs q in
        let f = forms cs d in
        let o = enter (length entry) 0 [] (starts_of (length input) from cs input) in
        let are : AreColumns cs = holds_at (declare-is decls) d in
        let w = as-converted to cs (read from cs input) (length out) (length entry) f.0 f.1 f.2 (few cs d) _ _ _ _ (index_of from cs are input (length entry)).why-there in
        let e : (convert decls from to input out).answer ≡ answer_of (write to cs (length out) 0 [] (read from cs input))
        = ap (λ (c : Call). c.answer) (past-front decls from to input out cs q) ∙ (unfold ending run in refl) in
        let i : index decls from input entry ≡ indexed_as o entry = (unfold index indexing under_columns in rw q refl) in
        rw i (stop-of o (convert decls from to input out) (length f.0) (e ∙ w) entry)
