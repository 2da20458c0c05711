-- Rows that are entered, one after the other: the entries so far stand at the front of the buffer, and the index of the whole stream is theirs and what
-- going on from here gives. Cited by enter_rows.
use Prim.Native.Nat.{◌%◌, ◌+◌, ◌-◌, ◌/◌, ◌<◌, ◌≤◌, suc, ℕ}
use native.Mathlib.Omega.{arith}
use mathlib.Core.Bool.{Bool, cond, false, true, false≢true}
use mathlib.Core.List.{List, [], ◌++◌, ◌∷◌, append_assoc, append-nil}
use mathlib.Core.Path.{◌∙◌, ◌≡◌, ap, refl, sym}
use lib.Dec.{eqb, ltb}
use lib.ListN.{drop, get_or, length, length-append, length-drop, length-set, set}
use lib.Seq.{drop-cons, set_at, set_out}
use borrow.Author.Tests.{eqb-false, eqb-true, ltb-false, ltb-true}
use Rattle.index.proofs.Entries.{entry-fits, entry-lacks, no-entry-fits}
use Rattle.index.proofs.Starts.{starts-step}
use Rattle.index.specs.Index.{enter, entry_of, row_start, starts_of, without_bytes}
use Rattle.indexing.specs.Clauses.{entered_at, has_place}
use Rattle.rows.specs.Bounds.{Within}
use Rattle.rows.specs.Sequence.{row_then}
use Rattle.rows.specs.Stream.{at_end, fitted, read_row, wrote_then}
use Rattle.table.proofs.Laws.{cond_cases}
use Rattle.table.specs.Cell.{Cell}
use Rattle.table.specs.Outcome.{Outcome, accepted, answer_of, at, buffer_of, refused, written}
use Rattle.table.specs.Result.{bad, good}
use Rattle.table.specs.declared.Answer.{Answer}
use Rattle.table.specs.declared.Column.{Column}
use Rattle.table.specs.declared.Rows.{Rows}

-- the entries of the rows before row `rows` stand at the front of the buffer, and behind them it is as it was
pub record Entered (rows : ℕ) (entry : List ℕ) (entries buffer : List ℕ) : Type 0 where
  pub many : length entries ≡ (rows + 63) / 64
  pub room : length entries ≤ length entry
  pub stand : buffer ≡ entries ++ drop (length entries) entry

pub entered-long : {rows : ℕ} {entry entries buffer : List ℕ} → Entered rows entry entries buffer → length buffer ≡ length entry
entered-long {entry = entry} {entries = entries} k =
    ap length k.stand ∙ length-append entries (drop (length entries) entry) ∙ omega (arith, length-drop (length entries) entry, k.room)

pub entered-at-long : (rows start : ℕ) (buffer : List ℕ) → length (entered_at rows start buffer) ≡ length buffer
entered-at-long rows start buffer =
    cond_cases (λ (l : List ℕ). length l ≡ length buffer) (eqb (rows % 64) 0) (set buffer (rows / 64) start) buffer (λ _. length-set buffer (rows / 64) start) (λ _. refl)

module _ (rows start : ℕ) (entry entries buffer : List ℕ) (k : Entered rows entry entries buffer) where
  long : length buffer ≡ length entry
  long = entered-long k

  -- a row that has no entry
  module _ (e : eqb (rows % 64) 0 ≡ false) where
    between : (rows % 64 ≡ 0) → ⊥
    between = eqb-false (rows % 64) 0 e

    none-entered : Entered (rows + 1) entry (entries ++ entry_of rows start) (entered_at rows start buffer)
    unfolding entry_of
    none-entered = rw (e, append-nil entries) (record { many = omega (arith, k.many, between); room = k.room; stand = k.stand })

  -- a row that has one, at the place behind the entries that stand
  module _ (e : eqb (rows % 64) 0 ≡ true) where
    here : rows / 64 ≡ length entries
    here = omega (arith, k.many, eqb-true (rows % 64) 0 e)

    one_more : length (entries ++ (start ∷ [])) ≡ length entries + 1
    one_more = length-append entries (start ∷ [])

    one-stands : rows / 64 < length buffer → set buffer (rows / 64) start ≡ (entries ++ (start ∷ [])) ++ drop (length (entries ++ (start ∷ []))) entry
    one-stands h =
        let n : ℕ = length entries in
        let longer : suc n ≡ length (entries ++ (start ∷ [])) = omega (arith, one_more) in
        let split : buffer ≡ entries ++ (get_or entry n 0 ∷ drop (suc n) entry)
        = k.stand ∙ ap (λ (t : List ℕ). entries ++ t) (drop-cons entry n 0 (omega (arith, here, long, h))) in
        ap (λ (l : List ℕ). set l (rows / 64) start) split ∙ set_at entries (get_or entry n 0) (drop (suc n) entry) start (rows / 64) (sym here)
        ∙ ap (λ (m : ℕ). entries ++ (start ∷ drop m entry)) longer ∙ sym (append_assoc entries (start ∷ []) (drop (length (entries ++ (start ∷ []))) entry))

    one-entered : rows / 64 < length buffer → Entered (rows + 1) entry (entries ++ entry_of rows start) (entered_at rows start buffer)
    unfolding entry_of
    one-entered h = rw e (record {
      many = omega (arith, one_more, k.many, eqb-true (rows % 64) 0 e);
      room = omega (arith, one_more, here, long, h);
      stand = one-stands h;
    })

  fits : has_place rows buffer ≡ true → fitted (length entry) entries (good (entry_of rows start)) ≡ good (entries ++ entry_of rows start)
  fits = cases (eqb (rows % 64) 0) refl
    where
      cases : (b : Bool) → eqb (rows % 64) 0 ≡ b → cond b (ltb (rows / 64) (length buffer)) true ≡ true
          → fitted (length entry) entries (good (entry_of rows start)) ≡ good (entries ++ entry_of rows start)
      cases true e h = entry-fits (length entry) rows start entries k.room e (omega (arith, here e, long, ltb-true (rows / 64) (length buffer) h))
      cases false e h = no-entry-fits (length entry) rows start entries k.room e

  entered : has_place rows buffer ≡ true → Entered (rows + 1) entry (entries ++ entry_of rows start) (entered_at rows start buffer)
  entered = cases (eqb (rows % 64) 0) refl
    where
      cases : (b : Bool) → eqb (rows % 64) 0 ≡ b → cond b (ltb (rows / 64) (length buffer)) true ≡ true
          → Entered (rows + 1) entry (entries ++ entry_of rows start) (entered_at rows start buffer)
      cases true e h = one-entered e (ltb-true (rows / 64) (length buffer) h)
      cases false e h = none-entered e

  lacks : has_place rows buffer ≡ false → (fitted (length entry) entries (good (entry_of rows start)) ≡ bad (at 0 17)) × (entered_at rows start buffer ≡ buffer)
  lacks = cases (eqb (rows % 64) 0) refl
    where
      cases : (b : Bool) → eqb (rows % 64) 0 ≡ b → cond b (ltb (rows / 64) (length buffer)) true ≡ false
          → (fitted (length entry) entries (good (entry_of rows start)) ≡ bad (at 0 17)) × (entered_at rows start buffer ≡ buffer)
      cases true e h =
          let none : length buffer ≤ rows / 64 = ltb-false (rows / 64) (length buffer) h in
          (entry-lacks (length entry) rows start entries k.room e (omega (arith, here e, long, none)), rw e (set_out buffer (rows / 64) start none))
      cases false e h = absurd (false≢true (sym h))

-- ---- the loop

pub record RowsEntered (from : Rows) (cols : List Column) (s entry : List ℕ) (place rows : ℕ) (buffer : List ℕ) : Type 0 where
  pub inside : place ≤ length s
  pub fewer : rows ≤ place
  pub entries : List ℕ
  pub so_far : Entered rows entry entries buffer
  pub ahead : enter (length entry) 0 [] (starts_of (length s) from cols s) ≡ enter (length entry) rows entries (starts_of (length s) from cols (drop place s))

-- what the call gives: its numbers and its buffer
abbrev whole_index : Rows → List Column → List ℕ → List ℕ → Outcome
whole_index from cols s entry = enter (length entry) 0 [] (starts_of (length s) from cols s)

abbrev pub Gives : Rows → List Column → List ℕ → List ℕ → Answer → List ℕ → Type 0
Gives from cols s entry a buffer = (a ≡ without_bytes (answer_of (whole_index from cols s entry))) × (buffer ≡ buffer_of (whole_index from cols s entry) entry)

module _ (from : Rows) (cols : List Column) (s entry : List ℕ) where
  pub enter-start : RowsEntered from cols s entry 0 0 entry
  enter-start = record {
    inside = omega arith;
    fewer = omega arith;
    entries = [];
    so_far = record { many = refl; room = omega arith; stand = refl };
    ahead = refl;
  }

  module _ (are : Within cols) (place rows : ℕ) (buffer : List ℕ) (inv : RowsEntered from cols s entry place rows buffer) where
    pub enter-end : at_end from (drop place s) ≡ true → Gives from cols s entry (record { number = 0; row = 0; column = 0; rows = rows; bytes = 0 }) buffer
    unfolding without_bytes answer_of buffer_of written enter
    enter-end h =
        let e : whole_index from cols s entry ≡ accepted rows inv.entries = inv.ahead ∙ rw (starts-step (length s) from cols are (drop place s), h) in
        (rw e, inv.so_far.stand ∙ rw e)

    module _ (more : at_end from (drop place s) ≡ false) where
      pub enter-stop : (n k : ℕ) → read_row from cols (drop place s) ≡ bad (at k n) → Gives from cols s entry (record { number = n; row = rows; column = k; rows = rows; bytes = 0 }) buffer
      unfolding without_bytes answer_of buffer_of written enter row_then row_start at
      enter-stop n k x =
          let e : whole_index from cols s entry ≡ refused (at k n) rows inv.entries = inv.ahead ∙ rw (starts-step (length s) from cols are (drop place s), more, x) in
          (rw e, inv.so_far.stand ∙ rw e)

      module _ (xs : List Cell) (next : ℕ) (x : read_row from cols (drop place s) ≡ good (xs, drop next s)) where
        -- the row's start is the place
        its-start : length s - length (drop place s) ≡ place
        its-start = omega (arith, length-drop place s, inv.inside)

        onward : whole_index from cols s entry
            ≡ wrote_then rows inv.entries (fitted (length entry) inv.entries (good (entry_of rows place))) (λ es. enter (length entry) (rows + 1) es (starts_of (length s) from cols (drop next s)))
        unfolding enter row_then row_start
        onward = inv.ahead ∙ rw (starts-step (length s) from cols are (drop place s), more, x, its-start)

        pub enter-lacks : has_place rows buffer ≡ false → Gives from cols s entry (record { number = 17; row = rows; column = 0; rows = rows; bytes = 0 }) (entered_at rows place buffer)
        unfolding without_bytes answer_of buffer_of written wrote_then at
        enter-lacks h =
            let k = lacks rows place entry inv.entries buffer inv.so_far h in
            let e : whole_index from cols s entry ≡ refused (at 0 17) rows inv.entries = onward ∙ rw k.0 in
            (rw e, k.1 ∙ inv.so_far.stand ∙ rw e)

        pub enter-more : has_place rows buffer ≡ true → place < next → next ≤ length s → RowsEntered from cols s entry next (rows + 1) (entered_at rows place buffer)
        unfolding wrote_then
        enter-more h lo hi = record {
          inside = hi;
          fewer = omega (arith, inv.fewer);
          entries = inv.entries ++ entry_of rows place;
          so_far = entered rows place entry inv.entries buffer inv.so_far h;
          ahead = onward ∙ rw (fits rows place entry inv.entries buffer inv.so_far h);
        }
