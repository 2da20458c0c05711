-- Two parts of an input, converted each by itself and joined, are one call on the whole: `joined-parts` of the definitions, carried to the numbers and the
-- buffers; and they end where the cut stands behind whole rows.
use Rattle.std.specs.Prelude.{Some}
use Prim.Native.Nat.{◌+◌, ◌-◌, ◌≤◌, ℕ}
use native.Mathlib.Nat.{le_refl}
use native.Mathlib.Omega.{arith}
use mathlib.Core.Bool.{Bool, false, true}
use mathlib.Core.List.{List, [], ◌++◌, ◌∷◌}
use mathlib.Core.Path.{◌∙◌, ◌≡◌, ap, refl, subst, sym}
use lib.ListN.{drop, get_or, length, length-take, take}
use Rattle.demands.specs.Demands.{output}
use Rattle.grammar.proofs.ColumnsRead.{declares-read}
use Rattle.grammar.proofs.Exactly.{accepts-exactly}
use Rattle.grammar.proofs.Joined.{accepted-place, joined-parts, joins-on, last-part-ends, long-is-convert, next-used, starts}
use Rattle.grammar.specs.Exact.{InGrammar}
use Rattle.grammar.specs.Parts.{OneCall, PartOf, answer_in, first_of, no-parts, part_then}
use Rattle.parts.proofs.Laws.{join-ended, join-none, join-used, joined-final, joined-not-final}
use Rattle.parts.specs.Join.{ended_with, gone_on, is_final, is_used, join, joined_with, most_count, nothing, first_part, parts_in, parts_of}
use Rattle.parts.specs.declared.Joined.{Joined}
use Rattle.parts.specs.declared.Part.{Part}
use Rattle.promises.proofs.Laws.{Faces, is-convert}
use Rattle.part_promises.proofs.Pieces.{piece_is, piece-place}
use Rattle.part_promises.specs.Parts.{JoinedAsOne, part_numbers}
use Rattle.promises.specs.Promises.{call_of}
use Rattle.sailmortar.specs.Face.{convert_face, join_face, joined_numbers, joined_of, piece_face, rows_of}
use Rattle.table.proofs.Laws.{all_take}
use Rattle.table.specs.All.{AreBytes}
use Rattle.table.specs.Outcome.{Call, most_input}
use Rattle.table.specs.declared.Rows.{Rows}

-- nothing is joined yet
abbrev pub zeros : List ℕ
zeros = 0 ∷ 0 ∷ 0 ∷ 0 ∷ 0 ∷ 0 ∷ 0 ∷ 0 ∷ []

-- the part that nine numbers are
abbrev part_of : ℕ → ℕ → ℕ → List ℕ → Part
part_of start size room answer = record {
  start = start;
  length = size;
  room = room;
  number = get_or answer 0 0;
  row = get_or answer 1 0;
  column = get_or answer 2 0;
  rows = get_or answer 3 0;
  bytes = get_or answer 4 0;
  place = get_or answer 5 0;
}

joined_numbers_lem : (size room : ℕ) (a b c : ℕ) (first : List ℕ) (d e f : ℕ) (second : List ℕ)
    → join_face size room (part_numbers a b c first ++ part_numbers d e f second) zeros ≡ joined_numbers (join size room nothing (part_of a b c first ∷ part_of d e f second ∷ []))
unfolding join_face joined_of parts_of parts_in first_part nothing
joined_numbers_lem size room a b c first d e f second = refl

-- a call of the face on a part, as the definitions speak of one
is-part : (decls : List ℕ) (from to : ℕ) (input : List ℕ) (start size : ℕ) (out : List ℕ) {numbers exit : List ℕ}
    → Faces (piece_face decls from to (take size (drop start input)) out) numbers exit → start + size ≤ length input
    → (source target : Rows) → rows_of from ≡ Some source → rows_of to ≡ Some target
    → PartOf decls source target input (part_of start size (length out) numbers) (output (call_of numbers exit))
unfolding call_of
is-part decls from to input start size out {numbers} {exit} h inside source target e f =
    let one = piece_is decls from to (take size (drop start input)) out h source target e f in
    record {
      inside = inside;
      buffer = out;
      room-is = refl;
      answers = ap (λ (c : Call). c.answer) one;
      place_is = piece-place decls from to (take size (drop start input)) out h source target e f;
      writes = ap output one;
    }

module _ (decls : List ℕ) (from to : ℕ) (input : List ℕ) (cut : ℕ) (out1 out2 out3 : List ℕ) {numbers1 exit1 numbers2 exit2 joined numbers3 exit3 : List ℕ}
    (inside : cut ≤ length input) (bytes : AreBytes input)
    (h : Faces (piece_face decls from to (take cut input) out1) numbers1 exit1)
    (k : Faces (piece_face decls from to (take (length input - cut) (drop cut input)) out2) numbers2 exit2)
    (j : joined ≡ join_face (length input) (length out3) (part_numbers 0 cut (length out1) numbers1 ++ part_numbers cut (length input - cut) (length out2) numbers2) zeros)
    (l : Faces (convert_face decls from to input out3) numbers3 exit3)
    (source target : Rows) (e : rows_of from ≡ Some source) (f : rows_of to ≡ Some target) where
  abbrev p : Part
  p = part_of 0 cut (length out1) numbers1

  abbrev q : Part
  q = part_of cut (length input - cut) (length out2) numbers2

  abbrev w : List ℕ
  w = output (call_of numbers1 exit1)

  abbrev v : List ℕ
  v = output (call_of numbers2 exit2)

  abbrev joins : Joined
  joins = join (length input) (length out3) nothing (p ∷ q ∷ [])

  first : PartOf decls source target input p w
  first = is-part decls from to input 0 cut out1 h (omega (arith, inside)) source target e f

  second : PartOf decls source target input q v
  second = is-part decls from to input cut (length input - cut) out2 k (omega (arith, inside)) source target e f

  numbers-are : joined ≡ joined_numbers joins
  numbers-are = j ∙ joined_numbers_lem (length input) (length out3) 0 cut (length out1) numbers1 cut (length input - cut) (length out2) numbers2

  as_one : get_or joined 7 0 ≡ 1 → length input ≤ most_input
      → call_of numbers3 exit3 ≡ call_of joined (first_of (get_or joined 6 0) (w ∷ v ∷ []) ++ drop (length (first_of (get_or joined 6 0) (w ∷ v ∷ []))) out3)
  unfolding joined_numbers call_of answer_in
  as_one = rw numbers-are (λ z sized. told z sized)
    where
      told : joins.ended ≡ 1 → length input ≤ most_input
          → call_of numbers3 exit3 ≡ record { answer = answer_in joins; buffer = first_of joins.parts (w ∷ v ∷ []) ++ drop (length (first_of joins.parts (w ∷ v ∷ []))) out3 }
      told z sized =
          is-convert decls from to input out3 l source target e f
          ∙ sym (long-is-convert decls source target input out3 sized)
          ∙ (joined-parts decls source target input (length out3) (length input) bytes (le_refl (length input)) (part_then first (part_then second no-parts))).whole z out3 refl

  -- the cut stands behind whole rows: the first part is used, and the second is the last
  ends_there : InGrammar decls source target (take cut input) (length out1) → length input ≤ most_input → length out3 ≡ get_or numbers1 4 0 + length out2
      → joins.ended ≡ 1
  unfolding nothing most_count most_input ended_with gone_on
  ends_there g sized room = go (is_final (length input) (length out3) nothing p) refl
    where
      used : is_used (length out3) nothing p ≡ true
      used = next-used decls source target input (length out3) (length input) bytes (le_refl (length input)) nothing []
          (starts decls source target input (length out3) (length input) bytes (le_refl (length input))) refl p w first refl
          (omega (arith, inside, sized)) (omega (arith, room)) (omega (arith, sized)) (omega arith)

      short : length (take cut input) ≡ cut
      short = simp length-take (omega (arith, inside))

      at_cut : get_or numbers1 5 0 ≡ cut
      at_cut =
          piece-place decls from to (take cut input) out1 h source target e f
          ∙ accepted-place decls source target (take cut input) out1 g.columns (declares-read g.declared) (omega (arith, short, inside, sized))
          ((accepts-exactly decls source target (take cut input) out1 (all_take _ cut input bytes)).1 g)
          ∙ short

      go : (b : Bool) → is_final (length input) (length out3) nothing p ≡ b → joins.ended ≡ 1
      go true final =
          ap (λ (k : Joined). k.ended)
          (join-used (length input) (length out3) nothing p (q ∷ []) used
          ∙ ap (λ (k : Joined). join (length input) (length out3) k (q ∷ [])) (joined-final nothing p (length out3) (length input) final)
          ∙ join-ended (length input) (length out3) (ended_with nothing p) (q ∷ []) refl)
      go false final =
          let on : Joined = gone_on nothing p in
          let gone : joined_with (length input) (length out3) nothing p ≡ on = joined-not-final nothing p (length out3) (length input) final in
          let one : OneCall decls source target input (length out3) on (first_of (on.parts - 0) (w ∷ []))
          = subst (λ (k : Joined). OneCall decls source target input (length out3) k (first_of (k.parts - 0) (w ∷ [])))
          (join-used (length input) (length out3) nothing p [] used ∙ ap (λ (k : Joined). join (length input) (length out3) k []) gone ∙ join-none (length input) (length out3) on)
          (joins-on decls source target input (length out3) (length input) bytes (le_refl (length input)) (part_then first no-parts) nothing []
          (starts decls source target input (length out3) (length input) bytes (le_refl (length input)))) in
          ap (λ (k : Joined). k.ended)
          (join-used (length input) (length out3) nothing p (q ∷ []) used ∙ ap (λ (k : Joined). join (length input) (length out3) k (q ∷ [])) gone)
          ∙ last-part-ends decls source target input (length out3) (length input) bytes (le_refl (length input)) on (first_of (on.parts - 0) (w ∷ [])) one refl q v second
          (omega (arith, at_cut)) (omega (arith, sized)) (omega (arith, inside)) (omega (arith, room)) (omega (arith, sized)) (omega arith)

  pub two-parts : JoinedAsOne decls input cut (call_of numbers1 exit1) (call_of numbers2 exit2) joined out1 out2 out3 (call_of numbers3 exit3) source target
  unfolding most_input
  two-parts = record { one-call = as_one; ends = λ g sized room. ap (λ (ns : List ℕ). get_or ns 7 0) numbers-are ∙ ended g sized room }
    where
      ended : InGrammar decls source target (take cut input) (length out1) → length input ≤ most_input → length out3 ≡ (call_of numbers1 exit1).answer.bytes + length out2
          → get_or (joined_numbers joins) 7 0 ≡ 1
      ended g sized room = unfold call_of joined_numbers in ends_there g sized room
