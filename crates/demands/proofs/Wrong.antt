-- Demand 2 "shuts out the converter that refuses everything (valid input is accepted), the one with a constant text, the one that writes
-- nothing yet answers 0, the one that converts row 0 and repeats or blanks the rest, and the one with an invented row count": no converter
-- that meets demand 2 is one of these. Each is caught by the sample night, whose two rows differ, or by the empty input. Demand 1 leaves one
-- converter, ours (`only_one`), so whoever answers otherwise meets it no more: the liar below, who throws good rows away, is caught by a night that
-- was cut in its third row, and so is one that names another number. Demand 3 by itself shuts out one that looks at what its buffer held.
use Rattle.std.specs.Prelude.{Some}
use Prim.Native.Nat.{◌≤◌, suc, zero, zero-le, ℕ}
use native.Mathlib.Omega.{arith}
use mathlib.Core.Bool.{Bool, false, true}
use mathlib.Core.List.{List, [], ◌++◌, ◌∷◌}
use mathlib.Core.Path.{◌∙◌, ◌≡◌, ap, ap₂, refl, subst, sym}
use lib.Dec.{eqb, lit≤}
use lib.ListN.{length, length-append}
use Rattle.demands.proofs.Everything.{everything}
use Rattle.demands.proofs.Night.{first_row, night-declared, night_columns, night_decls, room, second_row, small_bytes}
use Rattle.demands.specs.Cases.{night_binary2, night_text}
use Rattle.demands.proofs.OnlyOne.{only_one}
use Rattle.demands.specs.Demands.{Accepted, Comes, Converter, Demand1, Demand2, Demand3, SameFate, Stream, Valid, both-refused, both-written, called, output}
use Rattle.demands.specs.Tables.{Ends, count, lines, row_at, up_to}
use Rattle.fields.specs.Fields.{declare}
use Rattle.rows.proofs.Laws.{read-nothing}
use Rattle.rows.specs.Convert.{convert}
use Rattle.table.proofs.Laws.{bad-good}
use Rattle.rows.specs.Stream.{Table, read, write_row}
use Rattle.rows.specs.Sequence.{finished, row, stopped}
use Rattle.table.specs.All.{All, AreBytes}
use Rattle.table.specs.Cell.{Cell, null, shown}
use Rattle.table.specs.Bytes.{bytes}
use Rattle.table.specs.Outcome.{Call, Refusal, accepted, at, ending, most_input, refused}
use Rattle.table.specs.Result.{Result, bad, good}
use Rattle.table.specs.declared.Answer.{Answer}
use Rattle.table.specs.declared.Column.{Column}
use Rattle.table.specs.declared.Rows.{Rows}
use Rattle.table.specs.declared.Rows.TheVariants.{Binary2, TableData}

-- ---- the sample night: valid from TABLEDATA to BINARY2

abbrev night_rows : Table
night_rows = row first_row (row second_row finished)

night-read : read TableData night_columns night_text ≡ night_rows
unfolding everything
night-read = refl

night-valid : Valid night_decls TableData Binary2 night_text 100
unfolding everything
night-valid =
    record { columns = night_columns; declared = night-declared; sized = lit≤ tt; ends = tt; body = night_binary2; forms = refl; fits = lit≤ tt }

night-sized : length night_text ≤ most_input
unfolding everything
night-sized = lit≤ tt

night-ends : Ends (read TableData night_columns night_text)
unfolding everything
night-ends = tt

night-forms : lines Binary2 night_columns (read TableData night_columns night_text) ≡ good night_binary2
unfolding everything
night-forms = refl

night-two : (ending (accepted (count (read TableData night_columns night_text)) night_binary2) room).answer.rows ≡ 2
unfolding everything
night-two = refl

nothing_ends : Ends (read TableData night_columns [])
unfolding everything
nothing_ends = tt

nothing-forms : lines Binary2 night_columns (read TableData night_columns []) ≡ good []
unfolding everything
nothing-forms = refl

nothing-counted : (ending (accepted (count (read TableData night_columns [])) []) room).answer.rows ≡ 0
unfolding everything
nothing-counted = refl

empty-valid : Valid night_decls TableData Binary2 [] 100
unfolding everything
empty-valid =
    record { columns = night_columns; declared = night-declared; sized = lit≤ tt; ends = tt; body = []; forms = refl; fits = lit≤ tt }

night-bytes : AreBytes night_text
night-bytes = small_bytes night_text refl

-- what tells them apart: a table with a row, a cell that is not null, a row whose first cell is not null
abbrev Begun : Table → Type 0
Begun finished = ⊥
Begun (stopped e) = Unit {0}
Begun (row xs t) = Unit {0}

abbrev IsShown : Cell → Type 0
IsShown null = ⊥
IsShown (shown es) = Unit {0}

abbrev FirstShown : List Cell → Type 0
FirstShown [] = ⊥
FirstShown (x ∷ xs) = IsShown x

-- ---- what a converter that meets demand 2 does with it

module _ (convert : Converter) (d : Demand2 convert) where
  abbrev night_call : Call
  night_call = convert night_decls TableData Binary2 night_text room

  abbrev empty_call : Call
  empty_call = convert night_decls TableData Binary2 [] room

  night-accepted : Accepted night_call
  night-accepted = (d.exactly night_decls TableData Binary2 night_text room).1 night-valid

  empty-accepted : Accepted empty_call
  empty-accepted = (d.exactly night_decls TableData Binary2 [] room).1 empty-valid

  night-count : night_call.answer.rows ≡ 2
  night-count =
      ap (λ (c : Call). c.answer.rows) (d.does-all night_decls TableData Binary2 night_text room night_columns night_binary2 night-declared night-sized night-ends night-forms (lit≤ tt))
      ∙ night-two

  night-written : read Binary2 night_columns (output night_call) ≡ night_rows
  night-written =
      d.means night_decls TableData Binary2 night_text room night_columns night-declared night-bytes ∙ ap₂ up_to night-count night-read ∙ (unfold up_to in refl)

  empty-written : read Binary2 night_columns (output empty_call) ≡ finished
  empty-written = d.means night_decls TableData Binary2 [] room night_columns night-declared tt ∙ go empty_call.answer.rows
    where
      go : (n : ℕ) → up_to n (read TableData night_columns []) ≡ finished
      go zero = unfold up_to in refl
      go (suc n) = unfold up_to in rw (read-nothing TableData night_columns)

  -- the converter that refuses everything
  pub not-the-refuser : ((decls : List ℕ) (from to : Rows) (input out : List ℕ) → ¬ Accepted (convert decls from to input out)) → ⊥
  not-the-refuser wrong = wrong night_decls TableData Binary2 night_text room night-accepted

  -- the one with a constant text
  pub not-the-constant : (text : List ℕ) → ((decls : List ℕ) (from to : Rows) (input out : List ℕ) → output (convert decls from to input out) ≡ text) → ⊥
  not-the-constant text wrong =
      subst Begun (sym night-written ∙ ap (read Binary2 night_columns) (wrong night_decls TableData Binary2 night_text room ∙ sym (wrong night_decls TableData Binary2 [] room)) ∙ empty-written) tt

  -- the one that writes nothing yet answers 0
  pub not-the-silent : ((decls : List ℕ) (from to : Rows) (input out : List ℕ) → Accepted (convert decls from to input out) → output (convert decls from to input out) ≡ []) → ⊥
  not-the-silent wrong =
      subst Begun
      (sym night-written
      ∙ ap (read Binary2 night_columns) (wrong night_decls TableData Binary2 night_text room night-accepted ∙ sym (wrong night_decls TableData Binary2 [] room empty-accepted))
      ∙ empty-written)
      tt

  -- a row of what was written, as it reads back
  abbrev WrittenRow : List ℕ → Rows → Rows → List ℕ → List ℕ → List Column → ℕ → List Cell → Type 0
  WrittenRow decls from to input out cs j xs = (declare decls ≡ good cs) × (row_at j (read to cs (output (convert decls from to input out))) ≡ Some xs)

  second-written : WrittenRow night_decls TableData Binary2 night_text room night_columns 1 second_row
  second-written = (night-declared, ap (row_at 1) night-written ∙ (unfold row_at in refl))

  first-written : WrittenRow night_decls TableData Binary2 night_text room night_columns 0 first_row
  first-written = (night-declared, ap (row_at 0) night-written ∙ (unfold row_at in refl))

  -- the one that converts row 0 and repeats it
  pub not-the-repeater : ((decls : List ℕ) (from to : Rows) (input out : List ℕ) (cs : List Column) (j : ℕ) (xs ys : List Cell)
      → WrittenRow decls from to input out cs 0 xs → WrittenRow decls from to input out cs j ys → xs ≡ ys) → ⊥
  not-the-repeater wrong = subst FirstShown (wrong night_decls TableData Binary2 night_text room night_columns 1 first_row second_row first-written second-written) tt

  -- the one that converts row 0 and blanks the rest
  pub not-the-blanker : ((decls : List ℕ) (from to : Rows) (input out : List ℕ) (cs : List Column) (j : ℕ) (xs : List Cell)
      → WrittenRow decls from to input out cs (suc j) xs → All (λ (x : Cell). x ≡ null) xs) → ⊥
  not-the-blanker wrong = subst IsShown (wrong night_decls TableData Binary2 night_text room night_columns 0 second_row second-written).1.0 tt

  -- the one with an invented row count
  pub not-the-inventor : (n : ℕ) → ((decls : List ℕ) (from to : Rows) (input out : List ℕ) → Accepted (convert decls from to input out) → (convert decls from to input out).answer.rows ≡ n) → ⊥
  not-the-inventor n wrong =
      let two : 2 ≡ n = sym night-count ∙ wrong night_decls TableData Binary2 night_text room night-accepted in
      let none_read : empty_call.answer.rows ≡ 0
      = ap (λ (c : Call). c.answer.rows) (d.does-all night_decls TableData Binary2 [] room night_columns [] night-declared zero-le nothing_ends nothing-forms zero-le) ∙ nothing-counted in
      absurd (omega (arith, two, wrong night_decls TableData Binary2 [] room empty-accepted, none_read))

-- ---- the sample night, cut in its third row: two good rows, and the spot is row 2, column 0

abbrev cut_night : List ℕ
cut_night = night_text ++ bytes "<T"

ours-gives-two : (convert night_decls TableData Binary2 cut_night room).answer ≡ record { number = 10; row = 2; column = 0; rows = 2; bytes = 16 }
unfolding everything
ours-gives-two = refl

-- accepts what is valid as ours does, and answers every other input under good declarations with 17 at row 0, column 0, nothing written
abbrev pub none : List ℕ → Call
none out = ending (refused (at 0 17) 0 []) out

abbrev pub under : Result Refusal (List Column) → Bool → Call → List ℕ → Call
under (bad e) b c out = c
under (good cs) true c out = c
under (good cs) false c out = none out

abbrev pub liar : Converter
liar decls from to input out = under (declare decls) (eqb (convert decls from to input out).answer.number 0) (convert decls from to input out) out

liar-gives-none : (liar night_decls TableData Binary2 cut_night room).answer ≡ record { number = 17; row = 0; column = 0; rows = 0; bytes = 0 }
unfolding everything
liar-gives-none = refl

pub not-the-liar : Demand1 liar → ⊥
not-the-liar d =
    let e = ap (λ (c : Call). c.answer.number) (only_one liar d night_decls TableData Binary2 cut_night room) in
    let o = ap (λ (a : Answer). a.number) ours-gives-two in
    let l = ap (λ (a : Answer). a.number) liar-gives-none in
    absurd (omega (arith, e, o, l))

-- nor does it meet demand 3, whose premises are not its own to choose: the first row of the cut night should stand
abbrev cut_stream : Stream
cut_stream = record { from = TableData; input = cut_night; out = room; row = 0 }

abbrev first_bytes : List ℕ
first_bytes = 0x00 ∷ 0x00 ∷ 0x07 ∷ 0x61 ∷ 0x26 ∷ 0x62 ∷ 0x00 ∷ 0x54 ∷ []

first-form : write_row Binary2 night_columns first_row ≡ good first_bytes
unfolding everything
first-form = refl

same-form : (b : List ℕ) → write_row Binary2 night_columns first_row ≡ good b → first_bytes ≡ b
same-form b q = let e : ◌≡◌ {A = Result Refusal (List ℕ)} (good first_bytes) (good b) = sym first-form ∙ q in cc e

cut-comes : Comes Binary2 night_columns first_row cut_stream
unfolding everything
cut-comes =
    record {
      sized = lit≤ tt;
      shows = refl;
      before = [];
      not_earlier = refl;
      room-before = lit≤ tt;
      room-enough = λ b q. subst (λ (l : List ℕ). length l ≤ 100) (same-form b q) (lit≤ tt);
    }

cut-bytes : AreBytes cut_night
cut-bytes = small_bytes cut_night refl

liar-writes-none : output (called liar night_decls Binary2 cut_stream) ≡ []
unfolding everything
liar-writes-none = refl

pub not-the-liar-by-rows : Demand3 liar → ⊥
not-the-liar-by-rows d = caught (d.same_rows night_decls Binary2 night_columns first_row cut_stream cut_stream night-declared cut-bytes cut-bytes cut-comes cut-comes)
  where
    caught : SameFate Binary2 night_columns first_row cut_stream cut_stream cut-comes.before cut-comes.before (called liar night_decls Binary2 cut_stream)
        (called liar night_decls Binary2 cut_stream) → ⊥
    caught (both-written {b = b} q s t) =
        let e = ap length (sym liar-writes-none ∙ s.there ∙ ap (λ (l : List ℕ). cut-comes.before ++ (l ++ s.behind)) (sym (same-form b q))) in
        absurd (omega (arith, e, length-append cut-comes.before (first_bytes ++ s.behind)))
    caught (both-refused q s t) = bad-good (sym q ∙ first-form)

-- ---- what any converter that meets demand 1 answers there

no-declarations : (convert [] TableData Binary2 [] []).answer.number ≡ 5
unfolding everything
no-declarations = refl

module _ (f : Converter) (d : Demand1 f) where
  abbrev cut_call : Call
  cut_call = f night_decls TableData Binary2 cut_night room

  cut-answer : cut_call.answer ≡ record { number = 10; row = 2; column = 0; rows = 2; bytes = 16 }
  cut-answer = ap (λ (c : Call). c.answer) (only_one f d night_decls TableData Binary2 cut_night room) ∙ ours-gives-two

  cut-number : cut_call.answer.number ≡ 10
  cut-number = ap (λ (a : Answer). a.number) cut-answer

  -- the one that throws away the rows before a bad one
  pub not-the-thrower : ((decls : List ℕ) (from to : Rows) (input out : List ℕ) → ¬ Accepted (f decls from to input out) → (f decls from to input out).answer.rows ≡ 0) → ⊥
  not-the-thrower wrong =
      let r = ap (λ (a : Answer). a.rows) cut-answer in
      absurd (omega (arith, r, wrong night_decls TableData Binary2 cut_night room (λ a. omega (arith, a, cut-number))))

  -- the one that always names another number where ours refuses
  pub not-another-number : ((decls : List ℕ) (from to : Rows) (input out : List ℕ) → ¬ Accepted (convert decls from to input out)
      → ¬ ((f decls from to input out).answer.number ≡ (convert decls from to input out).answer.number)) → ⊥
  not-another-number wrong =
      let o : (convert night_decls TableData Binary2 cut_night room).answer.number ≡ 10 = ap (λ (a : Answer). a.number) ours-gives-two in
      wrong night_decls TableData Binary2 cut_night room (λ a. omega (arith, a, o)) (cut-number ∙ sym o)

  -- the one that gives every refusal the same number
  pub not-one-number : (n : ℕ) → ((decls : List ℕ) (from to : Rows) (input out : List ℕ) → ¬ Accepted (f decls from to input out) → (f decls from to input out).answer.number ≡ n) → ⊥
  not-one-number n wrong =
      let five : (f [] TableData Binary2 [] []).answer.number ≡ 5 = ap (λ (c : Call). c.answer.number) (only_one f d [] TableData Binary2 [] []) ∙ no-declarations in
      let k = wrong [] TableData Binary2 [] [] (λ a. omega (arith, a, five)) in
      absurd (omega (arith, k, five, cut-number, wrong night_decls TableData Binary2 cut_night room (λ a. omega (arith, a, cut-number))))

-- ---- what any converter that meets demand 3 does in two buffers of one room

module _ (f : Converter) (d : Demand3 f) where
  abbrev Peeks : (decls : List ℕ) (to : Rows) (s p q : List ℕ) → Type 0
  Peeks decls to s p q = (length q ≡ length p) × ¬ (output (f decls Binary2 to s q) ≡ output (f decls Binary2 to s p))

  -- the one that looks at what its buffer held, and writes by it
  pub not-the-peeker : (decls : List ℕ) (to : Rows) (cs : List Column) (s p q : List ℕ) → declare decls ≡ good cs → Peeks decls to s p q → ⊥
  not-the-peeker decls to cs s p q e wrong = wrong.1 (d.unseen-bytes decls to cs s s p q e refl wrong.0 (λ i h shows. refl)).same_bytes
