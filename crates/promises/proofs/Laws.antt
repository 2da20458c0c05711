-- A call of the face is a call of `convert`, by its contract; so what is proved of `convert` is carried along that equation. All over plain lists.
use Rattle.std.specs.Prelude.{Option, None, Some}
use Prim.Native.Nat.{◌<◌, ◌≤◌, ℕ}
use native.Mathlib.Nat.{le_refl}
use native.Mathlib.Omega.{arith}
use mathlib.Core.List.{List, [], ◌∷◌}
use mathlib.Core.Path.{◌∙◌, ◌≡◌, ap, ap₂, refl, subst, subst⁻¹, sym}
use lib.ListN.{get_or, length, length-append, take}
use Rattle.demands.proofs.Demand1.{bytes-of, demand1, output-of}
use Rattle.demands.proofs.Demand2.{demand2, lines-written}
use Rattle.demands.proofs.Demand3.{demand3}
use Rattle.demands.proofs.LineEnds.{processor-unseen}
use Rattle.demands.proofs.Writing.{up-to-all}
use Rattle.demands.specs.Demands.{SameFate, SameOutput, output}
use Rattle.demands.specs.Tables.{lines, up_to}
use Rattle.grammar.proofs.ColumnsRead.{declares-read}
use Rattle.grammar.proofs.Cut.{cut-file}
use Rattle.grammar.proofs.Refused.{refuses-exactly}
use Rattle.table.proofs.Laws.{all_append}
use Rattle.grammar.proofs.Exactly.{accepts-exactly, accepts-rows, both_ways, declares-columns, spells-read, table-count, table-ends, writes-spelled}
use Rattle.grammar.specs.Declarations.{Declares}
use Rattle.grammar.specs.Exact.{BothWays, table_of}
use Rattle.grammar.specs.Valid.{Spells}
use Rattle.promises.specs.Promises.{Between, Carried, Made, MeansWhatWasRead, NothingElse, RowsOrRefusal, ThereAndBack, Unnamed, call_of, row_of}
use Rattle.rows.specs.Convert.{convert}
use Rattle.rows.specs.Stream.{read}
use Rattle.sailmortar.proofs.Numbers.{known, no_source, no_target}
use Rattle.sailmortar.specs.Face.{Faced, between_kinds, convert_face, faced, five, no_such_kind, rows_of}
use Rattle.table.specs.All.{AreBytes}
use Rattle.table.specs.Cell.{Cell}
use Rattle.table.specs.LineEnds.{line_ends}
use Rattle.table.specs.Outcome.{Call, Outcome, accepted, answer_of, buffer_of, ending, written}
use Rattle.table.specs.Result.{good}
use Rattle.table.specs.declared.Column.{Column}
use Rattle.table.specs.declared.Rows.{Rows}
use Rattle.table.specs.declared.Rows.TheVariants.{Binary2, TableData}

-- what the contract of a function of the face says: the numbers and the buffer at exit are these
pub record Faces (f : Faced) (numbers exit : List ℕ) : Type 0 where
  pub numbers-are : numbers ≡ f.numbers
  pub buffer-is : exit ≡ f.buffer

pub faces : {f : Faced} {numbers exit : List ℕ} → numbers ≡ f.numbers → exit ≡ f.buffer → Faces f numbers exit
faces n e = record { numbers-are = n; buffer-is = e }

call-of-five : (c : Call) → call_of (five c.answer) c.buffer ≡ c
unfolding call_of five
call-of-five c = refl

-- the numbers and the buffer of a call are that call
pub call-is : (c : Call) {numbers exit : List ℕ} → Faces (faced c) numbers exit → call_of numbers exit ≡ c
unfolding faced
call-is c h = ap₂ call_of h.numbers-are h.buffer-is ∙ call-of-five c

-- ---- one call

-- demand 1 of whatever is a call of `convert`
pub convert-ends : (decls : List ℕ) (source target : Rows) (input out : List ℕ) → AreBytes input → {c : Call} → c ≡ convert decls source target input out
    → RowsOrRefusal decls input out c source target
convert-ends decls source target input out a e =
    subst⁻¹ (λ (c : Call). RowsOrRefusal decls input out c source target) e
    record {
      numbered = demand1.numbered decls source target input out;
      ended = demand1.ended decls source target input out;
      refused-exactly = λ n row column. refuses-exactly decls source target input out n row column a;
      cut = λ more b. cut-file decls source target input more out (all_append (λ (x : ℕ). x < 256) input more a b);
    }

abbrev converted : List ℕ → List ℕ → List ℕ → Rows → Rows → Faced
converted decls input out source target = faced (convert decls source target input out)

module _ (decls : List ℕ) (from to : ℕ) (input out : List ℕ) {numbers exit : List ℕ} (h : Faces (convert_face decls from to input out) numbers exit) where
  faces-convert : (source target : Rows) → rows_of from ≡ Some source → rows_of to ≡ Some target → Faces (faced (convert decls source target input out)) numbers exit
  unfolding convert_face
  faces-convert source target e f = subst (λ (x : Faced). Faces x numbers exit) (known from to (no_such_kind 4 out) (converted decls input out) source e target f) h

  pub is-convert : (source target : Rows) → rows_of from ≡ Some source → rows_of to ≡ Some target → call_of numbers exit ≡ convert decls source target input out
  is-convert source target e f = call-is _ (faces-convert source target e f)

  nothing : convert_face decls from to input out ≡ no_such_kind 4 out → (numbers ≡ 255 ∷ 0 ∷ 0 ∷ 0 ∷ 0 ∷ []) × (exit ≡ out)
  unfolding no_such_kind
  nothing e = let n = subst (λ (x : Faced). Faces x numbers exit) e h in (n.numbers-are, n.buffer-is)

  pub unnamed : Unnamed from to out numbers exit
  unfolding convert_face
  unnamed =
      record {
        no_source = λ e. nothing (no_source from to (no_such_kind 4 out) (converted decls input out) e);
        no_target = λ f. nothing (either (rows_of from) refl f);
      }
    where
      either : (o : Option Rows) → rows_of from ≡ o → rows_of to ≡ None → between_kinds (rows_of from) (rows_of to) (no_such_kind 4 out) (converted decls input out) ≡ no_such_kind 4 out
      either None e f = no_source from to (no_such_kind 4 out) (converted decls input out) e
      either (Some source) e f = no_target from to (no_such_kind 4 out) (converted decls input out) source e f

  pub rows-or-refusal : AreBytes input → Between from to (RowsOrRefusal decls input out (call_of numbers exit))
  rows-or-refusal a source target e f = convert-ends decls source target input out a (is-convert source target e f)

  pub means-what-was-read : AreBytes input → Between from to (MeansWhatWasRead decls input out (call_of numbers exit))
  means-what-was-read a source target e f =
      subst⁻¹ (λ (c : Call). MeansWhatWasRead decls input out c source target) (is-convert source target e f)
      record {
        exactly = accepts-exactly decls source target input out a;
        means = λ cs q. demand2.means decls source target input out cs q a;
        handed-on = λ t.
            subst⁻¹ (λ (k : Rows). line_ends (output (convert decls source k input out)) ≡ output (convert decls source k input out)) t
            (processor-unseen.behind decls source input out);
        spelled = writes-spelled decls source target input out a;
        all-rows = accepts-rows decls source target input out;
      }

-- ---- two calls

abbrev MadeBy : List ℕ → ℕ → Made → Type 0
MadeBy decls to m = Faces (convert_face decls m.from to m.input m.entry) m.numbers m.exit

text-named : rows_of 0 ≡ Some TableData
unfolding rows_of
text-named = refl

binary2-named : rows_of 2 ≡ Some Binary2
unfolding rows_of
binary2-named = refl

-- the same numbers, and the same bytes written
abbrev SameMade : Made → Made → Type 0
SameMade first second =
    (second.numbers ≡ first.numbers) × (output (call_of second.numbers second.exit) ≡ output (call_of first.numbers first.exit))

-- a number that names no kind of rows: nothing is written
nothing_written : (numbers exit : List ℕ) → numbers ≡ 255 ∷ 0 ∷ 0 ∷ 0 ∷ 0 ∷ [] → output (call_of numbers exit) ≡ []
unfolding output call_of
nothing_written numbers exit e = rw e

module _ (decls : List ℕ) (to : ℕ) (first second : Made) (h : MadeBy decls to first) (k : MadeBy decls to second) where
  -- two calls from one kind of rows, that are the same but for what their buffers held, whatever the target's number names
  same-made : (source : Rows) → rows_of first.from ≡ Some source → rows_of second.from ≡ Some source
      → ((target : Rows) → SameOutput (convert decls source target first.input first.entry) (convert decls source target second.input second.entry))
      → SameMade first second
  same-made source e f same = by-target (rows_of to) refl
    where
      by-target : (o : Option Rows) → rows_of to ≡ o → SameMade first second
      by-target None t =
          let one = ((unnamed decls first.from to first.input first.entry h).no_target t).0 in
          let other = ((unnamed decls second.from to second.input second.entry k).no_target t).0 in
          (other ∙ sym one, nothing_written second.numbers second.exit other ∙ sym (nothing_written first.numbers first.exit one))
      by-target (Some target) t = unfold faced in
          let one = faces-convert decls first.from to first.input first.entry h source target e t in
          let other = faces-convert decls second.from to second.input second.entry k source target f t in (
            other.numbers-are ∙ ap five (same target).same_answer ∙ sym one.numbers-are,
            ap output (call-is _ other) ∙ (same target).same_bytes ∙ sym (ap output (call-is _ one)),
          )

  pub nothing-else : AreBytes first.input → AreBytes second.input → NothingElse decls to first second
  nothing-else a b =
      record {
        same_rows = λ target source other t s o cs q xs i j c d.
            subst⁻¹ (λ (x : Call). SameFate target cs xs (row_of source first i) (row_of other second j) c.before d.before x (call_of second.numbers second.exit))
            (is-convert decls first.from to first.input first.entry h source target s t)
            (subst⁻¹ (SameFate target cs xs (row_of source first i) (row_of other second j) c.before d.before (convert decls source target first.input first.entry))
            (is-convert decls second.from to second.input second.entry k other target o t)
            (demand3.same_rows decls target cs xs (row_of source first i) (row_of other second j) q a b c d));
        unseen-bytes = λ e f g cs q l unseen.
            same-made Binary2 (ap rows_of e ∙ binary2-named) (ap rows_of f ∙ binary2-named) (λ target.
            demand3.unseen-bytes decls target cs first.input second.input first.entry second.entry q l g unseen);
        line-ends = λ e f g l q.
            same-made TableData (ap rows_of e ∙ text-named) (ap rows_of f ∙ text-named) (λ target.
            subst⁻¹ (λ (t : List ℕ). SameOutput (convert decls TableData target first.input first.entry) (convert decls TableData target t second.entry)) q
            (processor-unseen.in-front decls target first.input first.entry second.entry l g));
      }

-- ---- there and back

-- the bytes that a call answers are within its buffer
pub bytes-within : (o : Outcome) (out numbers exit : List ℕ) → Faces (faced (ending o out)) numbers exit → get_or numbers 4 0 ≤ length exit
unfolding faced five ending buffer_of
bytes-within o out numbers exit h =
    rw (ap (λ (ns : List ℕ). get_or ns 4 0) h.numbers-are, bytes-of o out, h.buffer-is, length-append) (omega arith)

-- what a call wrote
pub output-is : (n : ℕ) (body out : List ℕ) {c : Call} → c ≡ ending (accepted n body) out → output c ≡ body
output-is n body out e = ap output e ∙ output-of (accepted n body) out ∙ unfold written in refl

module _ (decls : List ℕ) (cs : List Column) (rows : List (List Cell)) (d : Declares decls cs) where
  -- where all rows are written, their lines are what is written
  lines_are : (from to : Rows) (input body : List ℕ) → Spells from cs input rows → convert decls from to input body ≡ ending (accepted (length rows) body) body
      → lines to cs (table_of rows) ≡ good body
  lines_are from to input body s e =
      let done : (convert decls from to input body).answer.rows ≡ length rows = ap (λ (c : Call). c.answer.rows) e ∙ unfold ending answer_of in refl in
      let whole : up_to (convert decls from to input body).answer.rows (read from cs input) ≡ table_of rows =
      ap₂ up_to (done ∙ sym (table-count rows)) (spells-read cs (declares-columns decls cs d) from input rows s) ∙ up-to-all (table_of rows) (table-ends rows) in
      ap (lines to cs) (sym whole) ∙ lines-written decls from to input body cs (declares-read d) ∙ ap good (output-is (length rows) body body e)

  carried : (to : Rows) (body out : List ℕ) (c : Call) → c ≡ ending (accepted (length rows) body) out → Spells to cs body rows → Carried cs to rows c
  carried to body out c e s =
      record {
        accepted = ap (λ (c : Call). c.answer.number) e ∙ unfold ending answer_of in refl;
        all-rows = ap (λ (c : Call). c.answer.rows) e ∙ unfold ending answer_of in refl;
        spelled = subst⁻¹ (λ (b : List ℕ). Spells to cs b rows) (output-is (length rows) body out e) s;
      }

module _ (decls input binary : List ℕ) {numbers exit : List ℕ} (h : Faces (convert_face decls 0 2 input binary) numbers exit) where
  -- the part that was written is a part of the buffer
  pub there-within : get_or numbers 4 0 ≤ length exit
  unfolding convert
  there-within = bytes-within _ binary numbers exit (faces-convert decls 0 2 input binary h TableData Binary2 text-named binary2-named)

  pub there_and_back : AreBytes input → (text : List ℕ) {others left : List ℕ} → Faces (convert_face decls 2 0 (take (get_or numbers 4 0) exit) text) others left
      → ThereAndBack decls input binary text (call_of numbers exit) (call_of others left)
  unfolding output call_of
  there_and_back a text {others} {left} k cs rows d l s room =
      let part : List ℕ = take (get_or numbers 4 0) exit in
      let b : BothWays convert decls cs input rows = both_ways decls cs input rows d a l s in
      let there-lines : lines Binary2 cs (table_of rows) ≡ good b.binary =
      lines_are decls cs rows d TableData Binary2 input b.binary s (b.there b.binary (le_refl _)) in
      let sized : length b.binary ≤ 1073741824 = room.binary-size b.binary there-lines in
      let back-lines : lines TableData cs (table_of rows) ≡ good b.text =
      lines_are decls cs rows d Binary2 TableData b.binary b.text b.binary-spelled (b.back sized b.text (le_refl _)) in
      let there : call_of numbers exit ≡ ending (accepted (length rows) b.binary) binary =
      is-convert decls 0 2 input binary h TableData Binary2 text-named binary2-named ∙ b.there binary (room.binary-room b.binary there-lines) in
      let same : part ≡ b.binary = output-is (length rows) b.binary binary there in
      let back : call_of others left ≡ ending (accepted (length rows) b.text) text =
      is-convert decls 2 0 part text k Binary2 TableData binary2-named text-named
      ∙ ap (λ (i : List ℕ). convert decls Binary2 TableData i text) same ∙ b.back sized text (room.text-room b.text back-lines) in
      (carried decls cs rows d Binary2 b.binary binary _ there b.binary-spelled, carried decls cs rows d TableData b.text text _ back b.text-spelled)
