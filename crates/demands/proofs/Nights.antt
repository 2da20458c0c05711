-- Two nights compared: `compare` meets all that is stated of a comparer (TwoNights), and nothing else does. An input shows its rows or its refusal, by what it is
-- read as; a call of which that is known is one pair of lists and what differs between them (Differing), or a refusal; and what two calls have to do with each
-- other follows from what their inputs show.
use Rattle.std.proofs.lemmas.Option.{none-some}
use Rattle.std.specs.Prelude.{Some, slice_get}
use Prim.Native.Nat.{◌%◌, ◌*◌, ◌+◌, ◌-◌, ◌/◌, ◌<◌, ◌≤◌, min, suc, zero, ℕ}
use native.Mathlib.Nat.{add-zero, zero-add}
use native.Mathlib.Omega.{arith}
use mathlib.Core.Bool.{Bool, cond, false, true}
use mathlib.Core.List.{List, [], ◌∷◌}
use mathlib.Core.Logic.{◌↔◌}
use mathlib.Core.Path.{◌∙◌, ◌≡◌, ap, ap₂, refl, subst, sym}
use lib.Dec.{eqb, ltb}
use lib.ListN.{get_or, length}
use lib.Seq.{ext_get_or}
use borrow.Author.Tests.{eqb-false, eqb-true, ltb-false, ltb-true}
use Rattle.compare.proofs.Placed.{filled-least, placed-long, placed-named, placed-rest}
use Rattle.compare.proofs.Same.{differences-none, differences-self, differences-turned, rows_long}
use Rattle.compare.specs.Compare.{Compared, Place, before_rows, both_show, compare, compared_as, counted, differences, filled, placed, refused_in, rows_shown, shows}
use Rattle.compare.specs.declared.Comparison.{Comparison}
use Rattle.demands.proofs.Demand1.{output-of}
use Rattle.demands.proofs.Demand2.{declared-columns}
use Rattle.demands.proofs.Differing.{InRows, among-all, ascends, complete, listed, one_list}
use Rattle.demands.proofs.Unseen.{unseen}
use Rattle.demands.proofs.Writing.{up-to-all}
use Rattle.demands.specs.Demands.{Converter, Demand2, Valid, output}
use Rattle.demands.specs.Tables.{Ends, count, row_at, stop_at, up_to}
use Rattle.demands.specs.TwoNights.{Comparer, ComparesNights, ComparisonEnded, Differ, InputRead, InputRefused, NightsCompared}
use Rattle.demands.specs.TwoNights.{NothingDiffers, SameExactly, Swapped, all_the_same, both_read, declarations-refused, first-refused, input-oversized, row-unread}
use Rattle.demands.specs.TwoNights.{Unseen, second-refused, turned}
use Rattle.fields.proofs.Front.{front-declared, front-oversized, front-undeclared}
use Rattle.fields.specs.Fields.{declare}
use Rattle.fields.specs.Front.{front}
use Rattle.rows.proofs.Sequences.{AllRows}
use Rattle.rows.specs.Sequence.{finished, in_order, row, stopped}
use Rattle.rows.specs.Stream.{Table, read}
use Rattle.table.proofs.Laws.{all-weaken}
use Rattle.table.specs.All.{All, AreBytes}
use Rattle.table.specs.Cell.{Cell}
use Rattle.table.specs.Outcome.{Call, Refusal, accepted, answer_of, at, ending, most_input, refused, written}
use Rattle.table.specs.Result.{Result, ◌>>=◌, bad, good, refused_as}
use Rattle.table.specs.declared.Answer.{Answer}
use Rattle.table.specs.declared.Column.{Column}
use Rattle.table.specs.declared.Rows.{Rows}
use Rattle.table.specs.declared.Rows.TheVariants.{Binary2}

-- ---- a table and the list of its rows

rows-counted : (t : Table) → length (in_order t) ≡ count t
unfolding in_order count
rows-counted finished = refl
rows-counted (stopped e) = refl
rows-counted (row xs t) = ap suc (rows-counted t)

row_of : (j : ℕ) (t : Table) → row_at j t ≡ slice_get (in_order t) j
unfolding row_at in_order
row_of j finished = refl
row_of j (stopped e) = refl
row_of zero (row xs t) = refl
row_of (suc j) (row xs t) = row_of j t

all-in-order : (P : List Cell → Type 0) (t : Table) → AllRows P t → All P (in_order t)
unfolding in_order
all-in-order P finished a = tt
all-in-order P (stopped e) a = tt
all-in-order P (row xs t) a = (a.0, all-in-order P t a.1)

-- ---- what an input shows

shown-whole : (r : ℕ) (t : Table) → Ends t → rows_shown r t ≡ good (in_order t)
unfolding rows_shown in_order
shown-whole r finished e = refl
shown-whole r (stopped x) e = absurd e
shown-whole r (row xs t) e = rw (shown-whole (r + 1) t e)

shown-stopped : (r j : ℕ) (t : Table) (e : Refusal) → stop_at j t ≡ Some e → rows_shown r t ≡ bad (answer_of (refused e (r + j) []))
unfolding rows_shown stop_at
shown-stopped r j finished e q = absurd (none-some e q)
shown-stopped r zero (stopped x) e q = let same : x ≡ e = cc in rw (same, add-zero)
shown-stopped r (suc j) (stopped x) e q = absurd (none-some e q)
shown-stopped r zero (row xs t) e q = absurd (none-some e q)
shown-stopped r (suc j) (row xs t) e q =
    let on : r + 1 + j ≡ r + suc j = omega arith in rw (shown-stopped (r + 1) j t e q, on)

module _ (decls : List ℕ) (from : Rows) (input : List ℕ) where
  -- a refusal as `shows` answers it
  abbrev shown_as : ℕ → ℕ → ℕ → Answer
  shown_as n r k = record { number = n; row = r; column = k; rows = r; bytes = 0 }

  refused-shows : (n r k : ℕ) → InputRefused decls from input n r k → shows decls from input ≡ bad (shown_as n r k)
  unfolding shows before_rows answer_of at
  refused-shows n r k (declarations-refused {e = e} d) = rw (front-undeclared decls (length input) e d)
  refused-shows n r k (input-oversized {cs = cs} d l) = rw (front-oversized decls (length input) cs d l)
  refused-shows n r k (row-unread {cs = cs} {e = e} {r = j} d l q) =
      rw (front-declared decls (length input) cs d l, shown-stopped 0 j (read from cs input) e q, zero-add)

  read-shows : (cs : List Column) → InputRead decls cs from input → shows decls from input ≡ good (in_order (read from cs input))
  unfolding shows
  read-shows cs h = rw (front-declared decls (length input) cs h.declared h.sized, shown-whole 0 (read from cs input) h.ends)

  -- one or the other
  data Fate : Type 0 where
    is-refused : {n r k : ℕ} → InputRefused decls from input n r k → Fate
    is_read : {cs : List Column} → InputRead decls cs from input → Fate

  -- a table ends, or stops at a row
  ends-or-stops : (t : Table) {A : Type 0} → (Ends t → A) → ((j : ℕ) (e : Refusal) → stop_at j t ≡ Some e → A) → A
  unfolding stop_at
  ends-or-stops finished f g = f tt
  ends-or-stops (stopped e) f g = g 0 e refl
  ends-or-stops (row xs t) f g = ends-or-stops t f (λ j e q. g (suc j) e q)

  fate : Fate
  fate = by-declarations (declare decls) refl
    where
      by_size : (cs : List Column) → declare decls ≡ good cs → (b : Bool) → ltb most_input (length input) ≡ b → Fate
      by_size cs d true l = is-refused (input-oversized d (ltb-true most_input (length input) l))
      by_size cs d false l =
          let small = ltb-false most_input (length input) l in
          ends-or-stops (read from cs input) (λ e. is_read (record { declared = d; sized = small; ends = e })) (λ j e q. is-refused (row-unread d small q))

      by-declarations : (w : Result Refusal (List Column)) → declare decls ≡ w → Fate
      by-declarations (bad e) d = is-refused (declarations-refused d)
      by-declarations (good cs) d = by_size cs d (ltb most_input (length input)) refl

-- ---- two lists of rows

-- nothing differs exactly where they are one list
same_lists : (n : ℕ) (xs ys : List (List Cell)) (entry : List ℕ) → All (λ (zs : List Cell). length zs ≡ n) xs → All (λ (zs : List Cell). length zs ≡ n) ys
    → NothingDiffers (compared_as (good (xs, ys)) entry) ↔ (xs ≡ ys)
unfolding compared_as counted
same_lists n xs ys entry a b = (
  λ h. differences-none n 0 xs ys a b (omega (arith, h.1, h.2)) h.0,
  λ e. subst (λ (zs : List (List Cell)). NothingDiffers (compared_as (good (xs, zs)) entry)) e (ap length (differences-self 0 xs), omega arith, omega arith),
)

turned-lists : (xs ys : List (List Cell)) (entry : List ℕ) → compared_as (good (ys, xs)) entry ≡ turned (compared_as (good (xs, ys)) entry)
unfolding compared_as counted turned
turned-lists xs ys entry = rw (differences-turned 0 ys xs)

self-lists : (xs : List (List Cell)) (entry : List ℕ) → compared_as (good (xs, xs)) entry ≡ all_the_same entry
unfolding compared_as counted placed
self-lists xs entry =
    let beyond : length xs - length xs ≡ 0 = omega arith in
    let none_filled : filled 0 (length entry) ≡ 0 = filled-least 0 (length entry) ∙ omega arith in
    rw (differences-self 0 xs, beyond, none_filled)

-- ---- two tables

in_rows : (t u : Table) (p : Place) → Differ t u p → InRows 0 (in_order t) (in_order u) p
in_rows t u p d =
    record {
      past = p.row;
      row_is = omega arith;
      first-row = d.first-row;
      second-row = d.second-row;
      in-first = sym (row_of p.row t) ∙ d.in-first;
      in-second = sym (row_of p.row u) ∙ d.in-second;
      differ = record { first_cell = d.first_cell; second-cell = d.second-cell; of-first = d.of-first; of-second = d.of-second; not_same = d.not_same };
    }

rows-differ : (t u : Table) (p : Place) → InRows 0 (in_order t) (in_order u) p → Differ t u p
rows-differ t u p h =
    let there : p.row ≡ h.past = omega (arith, h.row_is) in
    record {
      first-row = h.first-row;
      second-row = h.second-row;
      in-first = row_of p.row t ∙ ap (slice_get (in_order t)) there ∙ h.in-first;
      in-second = row_of p.row u ∙ ap (slice_get (in_order u)) there ∙ h.in-second;
      first_cell = h.differ.first_cell;
      second-cell = h.differ.second-cell;
      of-first = h.differ.of-first;
      of-second = h.differ.of-second;
      not_same = h.differ.not_same;
    }

nights-of : (t u : Table) (entry : List ℕ) → NightsCompared t u entry (compared_as (good (in_order t, in_order u)) entry)
unfolding compared_as counted
nights-of t u entry =
    let ps = differences 0 (in_order t) (in_order u) in
    let many = filled-least (length ps) (length entry) in
    record {
      differing-places = ps;
      each-differs = all-weaken (InRows 0 (in_order t) (in_order u)) (Differ t u) ps (rows-differ t u) (listed 0 (in_order t) (in_order u));
      none-missing = λ p d. complete 0 (in_order t) (in_order u) p (in_rows t u p d);
      in_order = ascends 0 (in_order t) (in_order u);
      answered = rw (many, rows-counted t, rows-counted u);
      named = λ k p l e. placed-named ps entry k p (omega (arith, l, many)) e;
      untouched = λ i l. placed-rest ps entry i (omega (arith, l, many));
      as_long = placed-long ps entry;
    }

element-there : (ps : List Place) (k : ℕ) → k < length ps → (p : Place) × (slice_get ps k ≡ Some p)
element-there [] k l = absurd (omega arith)
element-there (p ∷ ps) zero l = (p, refl)
element-there (p ∷ ps) (suc k) l = element-there ps k (omega arith)

module _ (t u : Table) (entry : List ℕ) (c d : Compared) (h : NightsCompared t u entry c) (g : NightsCompared t u entry d) where
  one-places : h.differing-places ≡ g.differing-places
  one-places =
      one_list h.differing-places g.differing-places h.in_order g.in_order
      (λ p m. g.none-missing p (among-all (Differ t u) h.differing-places h.each-differs p m))
      (λ p m. h.none-missing p (among-all (Differ t u) g.differing-places g.each-differs p m))

  one_answer : c.answer ≡ d.answer
  one_answer =
      h.answered
      ∙ ap (λ (ps : List Place). record {
        number = 0;
        row = 0;
        column = 0;
        input = 0;
        differing = length ps;
        first = count t - count u;
        second = count u - count t;
        places = min (length ps) (length entry / 2);
      }) one-places
      ∙ sym g.answered

  one-many : c.answer.places ≡ d.answer.places
  one-many = ap (λ (a : Comparison). a.places) one_answer

  one_number : (i : ℕ) → i < length c.buffer → get_or c.buffer i 0 ≡ get_or d.buffer i 0
  one_number i l = go (ltb i (2 * c.answer.places)) refl (eqb (i % 2) 0) refl
    where
      -- the two numbers of place k are the same in both
      pair : (k : ℕ) → k < c.answer.places → (get_or c.buffer (2 * k) 0 ≡ get_or d.buffer (2 * k) 0) × (get_or c.buffer (2 * k + 1) 0 ≡ get_or d.buffer (2 * k + 1) 0)
      pair k m =
          let least : c.answer.places ≡ min (length h.differing-places) (length entry / 2) = ap (λ (a : Comparison). a.places) h.answered in
          let e = element-there h.differing-places k (omega (arith, m, least)) in
          let in_c = h.named k e.0 m e.1 in
          let in-d = g.named k e.0 (omega (arith, m, one-many)) (ap (λ (ps : List Place). slice_get ps k) (sym one-places) ∙ e.1) in
          (in_c.0 ∙ sym in-d.0, in_c.1 ∙ sym in-d.1)

      at-number : (j : ℕ) → j ≡ i → get_or c.buffer j 0 ≡ get_or d.buffer j 0 → get_or c.buffer i 0 ≡ get_or d.buffer i 0
      at-number j e q = subst (λ (n : ℕ). get_or c.buffer n 0 ≡ get_or d.buffer n 0) e q

      go : (b : Bool) → ltb i (2 * c.answer.places) ≡ b → (f : Bool) → eqb (i % 2) 0 ≡ f → get_or c.buffer i 0 ≡ get_or d.buffer i 0
      go false e f q =
          let past = ltb-false i (2 * c.answer.places) e in
          h.untouched i past ∙ sym (g.untouched i (omega (arith, past, one-many)))
      go true e true q =
          let inside = ltb-true i (2 * c.answer.places) e in
          at-number (2 * (i / 2)) (omega (arith, eqb-true (i % 2) 0 q)) (pair (i / 2) (omega (arith, inside))).0
      go true e false q =
          let inside = ltb-true i (2 * c.answer.places) e in
          at-number (2 * (i / 2) + 1) (omega (arith, eqb-false (i % 2) 0 q)) (pair (i / 2) (omega (arith, inside))).1

  one-comparison : c ≡ d
  one-comparison =
      ap₂ (λ (a : Comparison) (l : List ℕ). record { answer = a; buffer = l }) one_answer
      (ext_get_or 0 c.buffer d.buffer (h.as_long ∙ sym g.as_long) one_number)

-- ---- a call

module _ (decls : List ℕ) (from_First : Rows) (first : List ℕ) (from_Second : Rows) (second entry : List ℕ) where
  abbrev call : Compared
  call = compare decls from_First first from_Second second entry

  abbrev refused_call : ℕ → ℕ → ℕ → ℕ → Compared
  refused_call input n r k =
      record { answer = record { number = n; row = r; column = k; input = input; differing = 0; first = 0; second = 0; places = 0 }; buffer = entry }

  first-answered : (n r k : ℕ) → InputRefused decls from_First first n r k → call ≡ refused_call 0 n r k
  unfolding compare both_show compared_as refused_in
  first-answered n r k q = rw (refused-shows decls from_First first n r k q)

  module _ (cs : List Column) (h : InputRead decls cs from_First first) where
    second-answered : (n r k : ℕ) → InputRefused decls from_Second second n r k → call ≡ refused_call 1 n r k
    unfolding compare both_show compared_as refused_in
    second-answered n r k q = rw (read-shows decls from_First first cs h, refused-shows decls from_Second second n r k q)

    both-answered : InputRead decls cs from_Second second → call ≡ compared_as (good (in_order (read from_First cs first), in_order (read from_Second cs second))) entry
    unfolding compare both_show
    both-answered g = rw (read-shows decls from_First first cs h, read-shows decls from_Second second cs g)

  compare-ended : ComparisonEnded decls from_First first from_Second second entry call
  compare-ended = by_first (fate decls from_First first)
    where
      by-second : (cs : List Column) → InputRead decls cs from_First first → Fate decls from_Second second → ComparisonEnded decls from_First first from_Second second entry call
      by-second cs h (is-refused {n = n} {r = r} {k = k} q) = rw (second-answered cs h n r k q) (second-refused h q (record { answered = refl; untouched = refl }))
      by-second cs h (is_read {cs = ds} g) =
          let same : ds ≡ cs = cc (h.declared, g.declared) in
          let k : InputRead decls cs from_Second second = subst (λ (ds : List Column). InputRead decls ds from_Second second) same g in
          rw (both-answered cs h k) (both_read h k (nights-of (read from_First cs first) (read from_Second cs second) entry))

      by_first : Fate decls from_First first → ComparisonEnded decls from_First first from_Second second entry call
      by_first (is-refused {n = n} {r = r} {k = k} q) = rw (first-answered n r k q) (first-refused q (record { answered = refl; untouched = refl }))
      by_first (is_read {cs = cs} h) = by-second cs h (fate decls from_Second second)

  -- whatever answer and buffer meet the statement are those of `compare`
  pub only-call : (c : Compared) → ComparisonEnded decls from_First first from_Second second entry c → c ≡ call
  only-call c (first-refused {n = n} {r = r} {k = k} q h) =
      ap₂ (λ (a : Comparison) (l : List ℕ). record { answer = a; buffer = l }) h.answered h.untouched ∙ sym (first-answered n r k q)
  only-call c (second-refused {cs = cs} {n = n} {r = r} {k = k} g q h) =
      ap₂ (λ (a : Comparison) (l : List ℕ). record { answer = a; buffer = l }) h.answered h.untouched ∙ sym (second-answered cs g n r k q)
  only-call c (both_read {cs = cs} g k h) =
      let t = read from_First cs first in
      let u = read from_Second cs second in
      one-comparison t u entry c (compared_as (good (in_order t, in_order u)) entry) h (nights-of t u entry) ∙ sym (both-answered cs g k)

  compare_same : SameExactly decls from_First first from_Second second call
  compare_same cs h g =
      rw (both-answered cs h g)
      (same_lists (length cs) (in_order (read from_First cs first)) (in_order (read from_Second cs second)) entry
      (all-in-order _ (read from_First cs first) (rows_long from_First cs first)) (all-in-order _ (read from_Second cs second) (rows_long from_Second cs second)))

compare-swapped : (decls : List ℕ) (from_First : Rows) (first : List ℕ) (from_Second : Rows) (second entry : List ℕ)
    → Swapped decls from_First first from_Second second (compare decls from_First first from_Second second entry) (compare decls from_Second second from_First first entry)
compare-swapped decls from_First first from_Second second entry cs h g =
    both-answered decls from_Second second from_First first entry cs g h
    ∙ turned-lists (in_order (read from_First cs first)) (in_order (read from_Second cs second)) entry
    ∙ ap turned (sym (both-answered decls from_First first from_Second second entry cs h g))

-- ---- an input and what it was converted to

module _ (convert : Converter) (meets : Demand2 convert) (decls : List ℕ) (from to : Rows) (input out entry : List ℕ) (v : Valid decls from to input (length out))
    (bytes : AreBytes input) (small : length v.body ≤ most_input) where
  abbrev table : Table
  table = read from v.columns input

  abbrev converted : List ℕ
  converted = output (convert decls from to input out)

  whole : convert decls from to input out ≡ ending (accepted (count table) v.body) out
  whole = meets.does-all decls from to input out v.columns v.body v.declared v.sized v.ends v.forms v.fits

  its-lines : converted ≡ v.body
  unfolding written
  its-lines = ap output whole ∙ output-of (accepted (count table) v.body) out

  its-rows : (convert decls from to input out).answer.rows ≡ count table
  unfolding ending answer_of
  its-rows = ap (λ (c : Call). c.answer.rows) whole

  reads-back : read to v.columns converted ≡ table
  reads-back = meets.means decls from to input out v.columns v.declared bytes ∙ ap (λ (m : ℕ). up_to m table) its-rows ∙ up-to-all table v.ends

  is-input : InputRead decls v.columns from input
  is-input = record { declared = v.declared; sized = v.sized; ends = v.ends }

  is-output : InputRead decls v.columns to converted
  is-output = record { declared = v.declared; sized = rw its-lines small; ends = subst Ends (sym reads-back) v.ends }

  output-second : compare decls from input to converted entry ≡ all_the_same entry
  output-second =
      both-answered decls from input to converted entry v.columns is-input is-output
      ∙ ap (λ (t : Table). compared_as (good (in_order table, in_order t)) entry) reads-back ∙ self-lists (in_order table) entry

  output-first : compare decls to converted from input entry ≡ all_the_same entry
  output-first =
      both-answered decls to converted from input entry v.columns is-output is-input
      ∙ ap (λ (t : Table). compared_as (good (in_order t, in_order table)) entry) reads-back ∙ self-lists (in_order table) entry

-- ---- bytes that show nothing

same-under : (oversized : Bool) (cs : List Column) (s t : List ℕ) → read Binary2 cs t ≡ read Binary2 cs s
    → (refused_as before_rows (cond oversized (bad (at 0 6)) (good cs)) >>= λ ds. rows_shown 0 (read Binary2 ds t))
    ≡ (refused_as before_rows (cond oversized (bad (at 0 6)) (good cs)) >>= λ ds. rows_shown 0 (read Binary2 ds s))
same-under true cs s t e = refl
same-under false cs s t e = ap (rows_shown 0) e

module _ (decls s t : List ℕ) (h : Unseen decls s t) where
  same-shown : shows decls Binary2 t ≡ shows decls Binary2 s
  unfolding shows front
  same-shown =
      rw (h.declared, h.same-long)
      (same-under (ltb most_input (length s)) h.columns s t
      (unseen h.columns s t (declared-columns decls h.columns h.declared) h.same-long h.where-it-shows))

  compare-unseen-first : (from : Rows) (other entry : List ℕ) → compare decls Binary2 t from other entry ≡ compare decls Binary2 s from other entry
  unfolding compare both_show
  compare-unseen-first from other entry = rw same-shown

  compare-unseen-second : (from : Rows) (other entry : List ℕ) → compare decls from other Binary2 t entry ≡ compare decls from other Binary2 s entry
  unfolding compare both_show
  compare-unseen-second from other entry = rw same-shown

-- ---- all of it

pub compares-nights : ComparesNights compare
compares-nights =
    record {
      ended = compare-ended;
      same-exactly = compare_same;
      swapped = compare-swapped;
      as-converted = λ convert meets decls from to input out entry v bytes small.
          (output-second convert meets decls from to input out entry v bytes small, output-first convert meets decls from to input out entry v bytes small);
      unseen-first = λ decls s t from other entry h. compare-unseen-first decls s t h from other entry;
      unseen-second = λ decls s t from other entry h. compare-unseen-second decls s t h from other entry;
    }

-- NO LIAR MEETS IT: a comparer of which `ended` holds is ours, in every number of the answer and of the buffer of every call
pub only-comparison : (f : Comparer)
    → ((decls : List ℕ) (from_First : Rows) (first : List ℕ) (from_Second : Rows) (second entry : List ℕ)
    → ComparisonEnded decls from_First first from_Second second entry (f decls from_First first from_Second second entry))
    → (decls : List ℕ) (from_First : Rows) (first : List ℕ) (from_Second : Rows) (second entry : List ℕ)
    → f decls from_First first from_Second second entry ≡ compare decls from_First first from_Second second entry
only-comparison f meets decls from_First first from_Second second entry =
    only-call decls from_First first from_Second second entry (f decls from_First first from_Second second entry) (meets decls from_First first from_Second second entry)
