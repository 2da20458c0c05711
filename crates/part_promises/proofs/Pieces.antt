-- A piece of an input and what stands behind its place are one call on the whole: `goes-on-behind` of the definitions, carried to the numbers and the
-- buffers.
use Rattle.std.specs.Prelude.{Option, None, Some}
use Prim.Native.Nat.{◌+◌, ◌-◌, ◌≤◌, zero-le, ℕ}
use native.Mathlib.Omega.{arith}
use mathlib.Core.List.{List, ◌++◌}
use mathlib.Core.Path.{◌∙◌, ◌≡◌, ap, ap₂, refl, subst, sym}
use lib.ListN.{drop, get_or, length, length-append, length-drop, length-take, take, take-append-drop}
use lib.Seq.{drop-append-le}
use borrow.Author.Tests.{ne_eqb}
use borrow.Author.Rules.{part_to_end}
use Rattle.demands.proofs.Demand1.{output-of}
use Rattle.demands.proofs.Demand2.{stands}
use Rattle.demands.specs.Demands.{output}
use Rattle.fields.specs.Fields.{declare}
use Rattle.fields.specs.Front.{front}
use Rattle.grammar.proofs.ColumnsRead.{declares-read}
use Rattle.grammar.proofs.Pieces.{goes-on-behind, place_inside}
use Rattle.grammar.proofs.Staying.{Numbered, run-numbered}
use Rattle.grammar.specs.Resumption.{followed_by}
use Rattle.promises.proofs.Laws.{Faces, convert-ends, is-convert}
use Rattle.promises.specs.Promises.{Between, RowsOrRefusal, call_of}
use Rattle.part_promises.specs.Parts.{OneByTwo, joined_answer, joined_call}
use Rattle.rows.proofs.Calls.{converts}
use Rattle.rows.specs.Convert.{convert}
use Rattle.rows.specs.Pieces.{convert_piece, place_of, place_under}
use Rattle.rows.specs.Stream.{run}
use Rattle.sailmortar.proofs.Numbers.{known}
use Rattle.sailmortar.specs.Face.{Faced, between_kinds, convert_face, five, no_such_kind, piece_face, piece_faced, rows_of, six}
use Rattle.table.specs.All.{AreBytes}
use Rattle.table.specs.Outcome.{Call, Outcome, Refusal, accepted, answer_of, buffer_of, ending, most_input, refused, written}
use Rattle.table.specs.Result.{Result, bad, good}
use Rattle.table.specs.declared.Answer.{Answer}
use Rattle.table.specs.declared.Column.{Column}
use Rattle.table.specs.declared.Rows.{Rows}

-- ---- the place is within the piece

place_at : (from to : Rows) (input out : List ℕ) (r : Result Refusal (List Column)) → place_under r (λ cs. place_of from cs input (run from to cs (length out) input)) ≤ length input
unfolding place_under
place_at from to input out (good cs) = place_inside from cs input (run from to cs (length out) input)
place_at from to input out (bad e) = zero-le

sixth : (decls : List ℕ) (input out : List ℕ) (from to : Option Rows)
    → get_or (between_kinds from to (no_such_kind 5 out) (λ source target. piece_faced (convert_piece decls source target input out))).numbers 5 0 ≤ length input
unfolding between_kinds no_such_kind piece_faced six five convert_piece
sixth decls input out None to = zero-le
sixth decls input out (Some from) None = zero-le
sixth decls input out (Some from) (Some to) = place_at from to input out (front decls (length input))

place-within : (decls : List ℕ) (from to : ℕ) (input out numbers : List ℕ) → numbers ≡ (piece_face decls from to input out).numbers → get_or numbers 5 0 ≤ length input
unfolding piece_face
place-within decls from to input out numbers e = rw e (sixth decls input out (rows_of from) (rows_of to))

take_short : (n : ℕ) (s : List ℕ) → length (take n s) ≤ length s
take_short n s = simp length-take (omega arith)

-- and so within an input of which this is a front
pub place-within-whole : (decls : List ℕ) (from to : ℕ) (input : List ℕ) (cut : ℕ) (out numbers : List ℕ) → numbers ≡ (piece_face decls from to (take cut input) out).numbers
    → get_or numbers 5 0 ≤ length input
place-within-whole decls from to input cut out numbers e = omega (arith, place-within decls from to (take cut input) out numbers e, take_short cut input)

-- ---- two outcomes, as one call has them

same-call : (a b : Answer) (u v : List ℕ) → a ≡ b → u ≡ v → ◌≡◌ {A = Call} (record { answer = a; buffer = u }) (record { answer = b; buffer = v })
same-call a b u v p q = ap₂ (λ (x : Answer) (y : List ℕ). record { answer = x; buffer = y }) p q

joined-ending : (r : ℕ) (w : List ℕ) (o : Outcome) → Numbered o → (c : Call) → c.answer.rows ≡ r → c.answer.bytes ≡ length w → output c ≡ w → (rest out : List ℕ)
    → ending (followed_by (accepted r w) o) out ≡ joined_call c (ending o rest) out
unfolding followed_by joined_call joined_answer
joined-ending r w (accepted m v) n c p q e rest out =
    rw (e, output-of (accepted m v) rest)
    (unfold ending answer_of buffer_of written in same-call _ _ _ _ (rw (p, q, length-append w v)) refl)
joined-ending r w (refused x m v) n c p q e rest out =
    rw (e, output-of (refused x m v) rest)
    (unfold ending answer_of buffer_of written in same-call _ _ _ _ (rw (p, q, length-append w v, ne_eqb x.number 0 (λ z. omega (arith, z, n)))) refl)

-- ---- the two and the whole

call-of-six : (c : Call) (place : ℕ) → call_of (six c.answer place) c.buffer ≡ c
unfolding call_of six five
call-of-six c place = refl

sixth-of : (c : Call) (place : ℕ) → get_or (six c.answer place) 5 0 ≡ place
unfolding six five
sixth-of c place = refl

module _ (decls : List ℕ) (from to : ℕ) (input first : List ℕ) {numbers exit : List ℕ} (h : Faces (piece_face decls from to input first) numbers exit)
    (source target : Rows) (e : rows_of from ≡ Some source) (f : rows_of to ≡ Some target) where
  pub faces-piece : Faces (piece_faced (convert_piece decls source target input first)) numbers exit
  unfolding piece_face
  faces-piece =
      subst (λ (x : Faced). Faces x numbers exit)
      (known from to (no_such_kind 5 first) (λ source target. piece_faced (convert_piece decls source target input first)) source e target f) h

  pub piece_is : call_of numbers exit ≡ convert decls source target input first
  unfolding piece_faced convert_piece
  piece_is = ap₂ call_of faces-piece.numbers-are faces-piece.buffer-is ∙ call-of-six (convert decls source target input first) _

  pub piece-place : get_or numbers 5 0 ≡ (convert_piece decls source target input first).place
  unfolding piece_faced
  piece-place = ap (λ (ns : List ℕ). get_or ns 5 0) faces-piece.numbers-are ∙ sixth-of (convert_piece decls source target input first).call _

-- of a piece too, demand 1
pub piece-ends : (decls : List ℕ) (from to : ℕ) (piece first : List ℕ) {numbers exit : List ℕ} → Faces (piece_face decls from to piece first) numbers exit
    → AreBytes piece → Between from to (RowsOrRefusal decls piece first (call_of numbers exit))
piece-ends decls from to piece first h a source target e f =
    convert-ends decls source target piece first a (piece_is decls from to piece first h source target e f)

pub one-by-two : (decls : List ℕ) (from to : ℕ) (input : List ℕ) (cut : ℕ) (first rest out : List ℕ) {numbers exit numbers2 exit2 numbers3 exit3 : List ℕ}
    → Faces (piece_face decls from to (take cut input) first) numbers exit
    → Faces (convert_face decls from to (take (length input - get_or numbers 5 0) (drop (get_or numbers 5 0) input)) rest) numbers2 exit2
    → Faces (convert_face decls from to input out) numbers3 exit3
    → Between from to (OneByTwo decls input (call_of numbers exit) rest (call_of numbers2 exit2) out (call_of numbers3 exit3))
unfolding most_input
one-by-two decls from to input cut first rest out {numbers} {numbers2 = numbers2} {exit2 = exit2} h k l source target e f cs d sized room =
    let q : declare decls ≡ good cs = declares-read d in
    let piece : List ℕ = take cut input in
    let more : List ℕ = drop cut input in
    let place : ℕ = get_or numbers 5 0 in
    let c : Call = convert decls source target piece first in
    let left : List ℕ = drop place input in
    let o : Outcome = run source target cs (length rest) left in
    let one : call_of numbers _ ≡ c = piece_is decls from to piece first h source target e f in
    let short : length piece ≤ most_input = omega (arith, sized, take_short cut input) in
    let left-short : length left ≤ most_input = omega (arith, sized, length-drop place input) in
    let behind : Faces (convert_face decls from to left rest) numbers2 exit2
    = subst (λ (x : List ℕ). Faces (convert_face decls from to x rest) numbers2 exit2) (part_to_end input place) k in
    let two = is-convert decls from to left rest behind source target e f ∙ converts decls source target left rest cs q left-short in
    let bytes : length out ≡ c.answer.bytes + length rest = room ∙ ap (λ (x : Call). x.answer.bytes + length rest) one in
    let joined : piece ++ more ≡ input = take-append-drop cut input in
    let within : place ≤ length piece = place-within decls from to piece first numbers h.numbers-are in
    let onward : drop place piece ++ more ≡ left = sym (drop-append-le place piece more within) ∙ ap (drop place) joined in
    let whole = is-convert decls from to input out l source target e f ∙ converts decls source target input out cs q sized
    ∙ ap (λ (x : Outcome). ending x out)
    (ap (run source target cs (length out)) (sym joined) ∙ goes-on-behind decls source target piece more first cs q short (length out) (omega (arith, bytes))) in
    whole
    ∙ ap (λ (x : Outcome). ending (followed_by (accepted c.answer.rows (output c)) x) out)
    (ap₂ (λ (n : ℕ) (x : List ℕ). run source target cs n x) (omega (arith, bytes))
    (ap (λ (n : ℕ). drop n piece ++ more) (sym (piece-place decls from to piece first h source target e f)) ∙ onward))
    ∙ joined-ending c.answer.rows (output c) o (run-numbered source target cs (length rest) left) c refl (stands decls source target piece first cs q short).bytes-are refl rest out
    ∙ sym (ap₂ (λ (x y : Call). joined_call x y out) one two)
