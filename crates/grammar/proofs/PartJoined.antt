-- A part that begins where the rows done end continues the call on the whole as far as its own call came (`goes-on-behind`); and what it stopped with is
-- what the whole stops with, unless it was cut there or had less room (`stays-refused`).
use Prim.Native.Nat.{◌+◌, ◌-◌, ◌<◌, ◌≤◌, zero-le, ℕ}
use native.Mathlib.Omega.{arith}
use mathlib.Core.Bool.{Bool, false, false≢true, true}
use mathlib.Core.List.{List, [], ◌++◌, ◌∷◌, append-nil}
use mathlib.Core.Path.{◌∙◌, ◌≡◌, ap, ap₂, refl, subst, sym}
use lib.Dec.{eqb}
use lib.ListN.{drop, length, length-append, length-drop, length-take, take, take-append-drop}
use lib.Seq.{drop-append-le, drop-drop, drop-length}
use borrow.Author.Tests.{eqb-false, eqb-true, leb-true, ne_eqb}
use Rattle.demands.proofs.Demand1.{output-of, rows_of}
use Rattle.demands.proofs.Demand2.{declared-columns, stands}
use Rattle.demands.specs.Demands.{RowsStand, output}
use Rattle.demands.specs.Tables.{count}
use Rattle.fields.proofs.Front.{front-declared}
use Rattle.fields.specs.Fields.{declare}
use Rattle.grammar.proofs.BinariesRead.{parts-bytes}
use Rattle.grammar.proofs.Pieces.{goes-on-behind, piece-place, place_inside}
use Rattle.grammar.proofs.Staying.{Numbered, Stays, at-the-end, followed-by-none, followed-by-stop, followed-twice, no_room, not-cut, refused-at-once, run-numbered, stays-refused}
use Rattle.grammar.proofs.Streams.{first-row}
use Rattle.grammar.specs.Exact.{cut_number}
use Rattle.grammar.specs.Parts.{PartOf, SoFar, answer_in}
use Rattle.grammar.specs.Resumption.{followed_by}
use Rattle.parts.proofs.Laws.{end-final, full-final}
use Rattle.parts.specs.Join.{at_its_end, ended_with, gone_on, is_final}
use Rattle.parts.specs.declared.Joined.{Joined}
use Rattle.parts.specs.declared.Part.{Part}
use Rattle.rows.proofs.Calls.{converts}
use Rattle.rows.proofs.Laws.{read-nothing, row-less}
use Rattle.rows.specs.Convert.{convert}
use Rattle.rows.specs.Pieces.{place_of}
use Rattle.rows.specs.Sequence.{finished, row, stopped}
use Rattle.rows.specs.Stream.{Table, read, run, write}
use Rattle.table.proofs.Laws.{holds_at}
use Rattle.table.specs.All.{AreBytes}
use Rattle.table.specs.Cell.{AreColumns}
use Rattle.table.specs.Outcome.{Call, Outcome, Refusal, accepted, answer_of, ending, most_input, refused, rows_done, written}
use Rattle.table.specs.Result.{good}
use Rattle.table.specs.declared.Answer.{Answer}
use Rattle.table.specs.declared.Column.{Column}
use Rattle.table.specs.declared.Rows.{Rows}
use Rattle.table.specs.declared.Rows.TheVariants.{Binary, Binary2, TableData}

cut-at-its-end : (from : Rows) → at_its_end (cut_number from) ≡ true
unfolding at_its_end
cut-at-its-end TableData = refl
cut-at-its-end Binary = refl
cut-at-its-end Binary2 = refl

accepted-at-its-end : at_its_end 0 ≡ true
unfolding at_its_end
accepted-at-its-end = refl

nothing_left : (s : List ℕ) → length s ≡ 0 → s ≡ []
nothing_left [] e = refl
nothing_left (b ∷ s) e = absurd (omega (arith, e))

run-nothing : (from to : Rows) (cs : List Column) (room : ℕ) → run from to cs room [] ≡ accepted 0 []
unfolding run write
run-nothing from to cs room = ap (write to cs room 0 []) (read-nothing from cs)

-- a row has at least a byte
pub rows_short : (from : Rows) (cs : List Column) → AreColumns cs → (s : List ℕ) (t : Table) → read from cs s ≡ t → count t ≤ length s
unfolding count
rows_short from cs i s finished e = zero-le
rows_short from cs i s (stopped x) e = zero-le
rows_short from cs i s (row xs t) e =
    let f = first-row from cs i s xs t e in
    omega (arith, rows_short from cs i f.0 t f.2, holds_at (row-less from cs s i) f.1)

module _ (decls : List ℕ) (from to : Rows) (input : List ℕ) (room size : ℕ) (all-bytes : AreBytes input) (known : length input ≤ size)
    (cs : List Column) (declared : declare decls ≡ good cs) where
  module _ (j : Joined) (w : List ℕ) (far : SoFar cs from to input room j w) (p : Part) (v : List ℕ) (part : PartOf decls from to input p v)
      (begins : p.start ≡ j.place) (short : p.length ≤ most_input) (has_room : j.bytes + p.bytes ≤ room) where
    abbrev piece : List ℕ
    piece = take p.length (drop p.start input)

    abbrev more : List ℕ
    more = drop p.length (drop p.start input)

    abbrev call : Call
    call = convert decls from to piece part.buffer

    sized : length piece ≤ most_input
    sized = simp length-take (omega (arith, short))

    stood : RowsStand cs from to piece part.buffer call
    stood = stands decls from to piece part.buffer cs declared sized

    -- the numbers of the part
    rows_are : p.rows ≡ call.answer.rows
    rows_are = ap (λ (a : Answer). a.rows) part.answers

    bytes-are : p.bytes ≡ call.answer.bytes
    bytes-are = ap (λ (a : Answer). a.bytes) part.answers

    place_is : p.place ≡ place_of from cs piece (run from to cs (length part.buffer) piece)
    place_is = part.place_is ∙ piece-place decls from to piece part.buffer cs (front-declared decls (length piece) cs declared sized)

    place-within : p.place ≤ length piece
    place-within = rw place_is (place_inside from cs piece (run from to cs (length part.buffer) piece))

    -- where it stands in the input
    from-here : drop j.place input ≡ piece ++ more
    from-here = ap (λ (n : ℕ). drop n input) (sym begins) ∙ sym (take-append-drop p.length (drop p.start input))

    left : drop p.place piece ++ more ≡ drop (j.place + p.place) input
    left = sym (drop-append-le p.place piece more place-within) ∙ ap (drop p.place) (sym from-here) ∙ drop-drop p.place j.place input

    -- the whole goes on as the part did
    pub gone-on : SoFar cs from to input room (gone_on j p) (w ++ v)
    unfolding gone_on
    gone-on =
        let long = ap length from-here ∙ length-append piece more in
        let rest-long : length (drop j.place input) ≡ length input - j.place = length-drop j.place input in
        let written = ap length part.writes ∙ sym stood.bytes-are in
        record {
          inside = omega (arith, far.inside, place-within, long, rest-long);
          bytes-are = omega (arith, far.bytes-are, bytes-are, written, length-append w v);
          fits = has_room;
          goes_on = far.goes_on ∙ ap (followed_by (accepted j.rows w)) onward ∙ followed-twice j.rows p.rows w v _;
        }
      where
        room-left : room - j.bytes - call.answer.bytes ≡ room - (j.bytes + p.bytes)
        room-left = omega (arith, bytes-are)

        onward : run from to cs (room - j.bytes) (drop j.place input)
            ≡ followed_by (accepted p.rows v) (run from to cs (room - (j.bytes + p.bytes)) (drop (j.place + p.place) input))
        onward =
            ap (run from to cs (room - j.bytes)) from-here
            ∙ goes-on-behind decls from to piece more part.buffer cs declared sized (room - j.bytes) (omega (arith, has_room, bytes-are))
            ∙ ap₂ followed_by (ap₂ accepted (sym rows_are) (sym part.writes)) (ap₂ (run from to cs) room-left (ap (λ (n : ℕ). drop n piece ++ more) (sym part.place_is) ∙ left))

    -- ---- a part that the whole ends with

    -- nothing of the input is behind a part that ends where the whole does
    none-behind : p.start + p.length ≡ size → more ≡ []
    none-behind e =
        nothing_left more
        (let a = length-drop p.length (drop p.start input) in let b = length-drop p.start input in omega (arith, a, b, e, known))

    call-is : call ≡ ending (run from to cs (length part.buffer) piece) part.buffer
    call-is = converts decls from to piece part.buffer cs declared sized

    abbrev Whole : Outcome → Type 0
    Whole o = run from to cs room input ≡ o

    -- accepted to its end
    whole-accepted : (r : ℕ) (u : List ℕ) → run from to cs (length part.buffer) piece ≡ accepted r u → more ≡ [] → Whole (accepted (j.rows + p.rows) (w ++ v))
    unfolding gone_on place_of
    whole-accepted r u e none =
        gone-on.goes_on
        ∙ ap (followed_by (accepted (j.rows + p.rows) (w ++ v))) (ap (run from to cs (room - (j.bytes + p.bytes))) nothing-more ∙ run-nothing from to cs (room - (j.bytes + p.bytes)))
        ∙ followed-by-none (j.rows + p.rows) (w ++ v)
      where
        to_the_end : p.place ≡ length piece
        to_the_end = place_is ∙ ap (place_of from cs piece) e

        nothing-more : drop (j.place + p.place) input ≡ []
        nothing-more = sym left ∙ ap₂ (λ (n : ℕ) (x : List ℕ). drop n piece ++ x) to_the_end none ∙ append-nil (drop (length piece) piece) ∙ drop-length piece

    -- refused there
    whole-refused : (e : Refusal) (r : ℕ) (u : List ℕ) → run from to cs (length part.buffer) piece ≡ refused e r u
        → Stays from e (length part.buffer - call.answer.bytes) (room - (j.bytes + p.bytes)) more → Whole (refused e (j.rows + p.rows) (w ++ v))
    unfolding gone_on
    whole-refused e r u q stays =
        gone-on.goes_on
        ∙ ap (followed_by (accepted (j.rows + p.rows) (w ++ v))) (ap (run from to cs (room - (j.bytes + p.bytes))) (sym left) ∙ still)
        ∙ followed-by-stop (j.rows + p.rows) (w ++ v) e
      where
        had : ℕ
        had = length part.buffer - call.answer.bytes

        done : followed_by (accepted call.answer.rows (output call)) (run from to cs had (drop p.place piece ++ [])) ≡ refused e call.answer.rows (output call)
        done =
            ap (λ (n : ℕ). followed_by (accepted call.answer.rows (output call)) (run from to cs had (drop n piece ++ []))) part.place_is
            ∙ sym (goes-on-behind decls from to piece [] part.buffer cs declared sized (length part.buffer) stood.within-room)
            ∙ ap (run from to cs (length part.buffer)) (append-nil piece) ∙ q ∙ sym (ap₂ (refused e) rows-done bytes-done)
          where
            outcome-is : call ≡ ending (refused e r u) part.buffer
            outcome-is = call-is ∙ ap (λ (o : Outcome). ending o part.buffer) q

            rows-done : call.answer.rows ≡ r
            rows-done = ap (λ (c : Call). c.answer.rows) outcome-is ∙ rows_of (refused e r u) part.buffer ∙ unfold rows_done in refl

            bytes-done : output call ≡ u
            bytes-done = ap output outcome-is ∙ output-of (refused e r u) part.buffer ∙ unfold written in refl

        still : run from to cs (room - (j.bytes + p.bytes)) (drop p.place piece ++ more) ≡ refused e 0 []
        still = stays-refused from to cs (declared-columns decls cs declared) had (room - (j.bytes + p.bytes)) (drop p.place piece) more e
            (subst AreBytes (sym left) (parts-bytes input (take (j.place + p.place) input) (drop (j.place + p.place) input) (sym (take-append-drop (j.place + p.place) input)) all-bytes).1)
            (ap (run from to cs had) (sym (append-nil (drop p.place piece))) ∙ refused-at-once call.answer.rows (output call) e _ done) stays

    abbrev its-answer : Answer
    its-answer = record { number = p.number; row = p.row; column = p.column; rows = p.rows; bytes = p.bytes }

    answer-is : (o : Outcome) → run from to cs (length part.buffer) piece ≡ o → its-answer ≡ answer_of o
    unfolding ending
    answer-is o e = part.answers ∙ ap (λ (c : Call). c.answer) (call-is ∙ ap (λ (x : Outcome). ending x part.buffer) e)

    -- what the part's refusal is to the whole
    stays-whole : (e : Refusal) → p.number ≡ e.number → 0 < e.number → is_final size room j p ≡ true
        → Stays from e (length part.buffer - call.answer.bytes) (room - (j.bytes + p.bytes)) more
    stays-whole e n some final = go (eqb p.number 17) refl (at_its_end p.number) refl
      where
        go : (a : Bool) → eqb p.number 17 ≡ a → (b : Bool) → at_its_end p.number ≡ b
            → Stays from e (length part.buffer - call.answer.bytes) (room - (j.bytes + p.bytes)) more
        go true h b k =
            let full = eqb-true p.number 17 h in
            let enough = leb-true room (j.bytes + p.room) (sym (full-final j p room size full) ∙ final) in
            no_room (sym n ∙ full) (omega (arith, enough, part.room-is, bytes-are))
        go false h true k = at-the-end
            (none-behind (eqb-true (p.start + p.length) size (sym (end-final j p room size k) ∙ final)))
            (λ z. eqb-false p.number 17 h (n ∙ z))
        go false h false k = not-cut
            (λ z. false≢true (sym k ∙ ap at_its_end (n ∙ z) ∙ cut-at-its-end from))
            (λ z. eqb-false p.number 17 h (n ∙ z))

    pub whole-ends : is_final size room j p ≡ true
        → (answer_of (run from to cs room input) ≡ answer_in (ended_with j p)) × (written (run from to cs room input) ≡ w ++ v)
    unfolding answer_of written answer_in ended_with
    whole-ends final = go (run from to cs (length part.buffer) piece) refl (run-numbered from to cs (length part.buffer) piece)
      where
        long : length (w ++ v) ≡ j.bytes + p.bytes
        long = unfold gone_on in sym gone-on.bytes-are

        go : (o : Outcome) → run from to cs (length part.buffer) piece ≡ o → Numbered o
            → (answer_of (run from to cs room input) ≡ answer_in (ended_with j p)) × (written (run from to cs room input) ≡ w ++ v)
        go (accepted r u) e n =
            let number : p.number ≡ 0 = ap (λ (a : Answer). a.number) (answer-is (accepted r u) e) in
            let column : p.column ≡ 0 = ap (λ (a : Answer). a.column) (answer-is (accepted r u) e) in
            let at-end = eqb-true (p.start + p.length) size (sym (end-final j p room size (ap at_its_end number ∙ accepted-at-its-end)) ∙ final) in
            let whole = whole-accepted r u e (none-behind at-end) in
            (ap answer_of whole ∙ rw (number, column, long) refl, ap written whole)
        go (refused x r u) e n =
            let number : p.number ≡ x.number = ap (λ (a : Answer). a.number) (answer-is (refused x r u) e) in
            let column : p.column ≡ x.column = ap (λ (a : Answer). a.column) (answer-is (refused x r u) e) in
            let row : p.row ≡ r = ap (λ (a : Answer). a.row) (answer-is (refused x r u) e) in
            let rows : p.rows ≡ r = ap (λ (a : Answer). a.rows) (answer-is (refused x r u) e) in
            let whole = whole-refused x r u e (stays-whole x number n final) in
            (ap answer_of whole ∙ rw (number, column, row, rows, long, ne_eqb x.number 0 (λ z. omega (arith, z, n))) refl, ap written whole)
