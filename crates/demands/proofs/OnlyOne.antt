-- Demand 1 leaves nothing open: whatever converter meets it gives, call by call, the answer and the buffer of `convert`. For what it says of a call
-- (rows that stand, and why no more do) is met by one outcome of the table that was read: the rows are written (Writing), and what stands behind
-- them ends it.
use Prim.Native.Nat.{◌≤◌, ℕ}
use native.Mathlib.Omega.{arith}
use mathlib.Core.Bool.{Bool, false, true}
use mathlib.Core.List.{List, [], ◌++◌}
use mathlib.Core.Path.{◌∙◌, ◌≡◌, ap, ap₂, refl, sym}
use lib.Dec.{ltb}
use lib.ListN.{drop, length}
use Rattle.demands.proofs.Demand1.{demand1}
use Rattle.demands.proofs.Writing.{Behind, ends-behind, first-written, form-stops, room-stops, row-behind, stop-behind}
use Rattle.demands.specs.Demands.{Converter, Demand1, Ended, NoRows, RowsStand, Sized, Why, all-rows, in-reading, in-writing, no-space, output}
use Rattle.demands.specs.Tables.{lines, up_to}
use Rattle.fields.specs.Fields.{declare}
use Rattle.rows.specs.Convert.{convert}
use Rattle.rows.specs.Sequence.{finished}
use Rattle.rows.specs.Stream.{Table, read, run, write}
use Rattle.table.specs.Outcome.{Call, Outcome, Refusal, answer_of, at, buffer_of, ending, most_input, written}
use Rattle.table.specs.Result.{Result, bad, good}
use Rattle.table.specs.declared.Answer.{Answer}
use Rattle.table.specs.declared.Column.{Column}
use Rattle.table.specs.declared.Rows.{Rows}

-- an outcome with this answer and these bytes
record Told (o : Outcome) (body : List ℕ) (a : Answer) : Type 0 where
  answers : answer_of o ≡ a
  writes : written o ≡ body

-- the rows that stand and why no more do tell the outcome
told : (to : Rows) (cs : List Column) (room : ℕ) (t : Table) (body : List ℕ) (rows size n r k : ℕ) → lines to cs (up_to rows t) ≡ good body → length body ≤ room → size ≡ length body
    → Why to cs room t rows size n r k → Told (write to cs room 0 [] t) body (record { number = n; row = r; column = k; rows = rows; bytes = size })
unfolding write answer_of written at
told to cs room t body rows size n r k w f l (all-rows e q) =
    let p : Behind rows t finished = rw q (ends-behind t e) in rw (first-written to cs room body p w f) (record { answers = rw l; writes = refl })
told to cs room t body rows size n r k w f l (in-reading {e = e} q) =
    rw (first-written to cs room body (stop-behind rows t e q) w f) (record { answers = rw l; writes = refl })
told to cs room t body rows size n r k w f l (in-writing {e = e} {xs = xs} q h) =
    let p = row-behind rows t xs q in
    rw (first-written to cs room body p.1 w f ∙ form-stops to cs room rows body xs p.0 e h) (record { answers = rw l; writes = refl })
told to cs room t body rows size n r k w f l (no-space {xs = xs} {b = b} q h g) =
    let p = row-behind rows t xs q in
    rw (first-written to cs room body p.1 w f ∙ room-stops to cs room rows body xs p.0 b h (omega (arith, g, l))) (record { answers = rw l; writes = refl })

one-call : (from to : Rows) (cs : List Column) (input out : List ℕ) (c : Call) → RowsStand cs from to input out c → c ≡ ending (run from to cs (length out) input) out
unfolding run ending buffer_of
one-call from to cs input out c s =
    let k : Told (write to cs (length out) 0 [] (read from cs input)) (output c) c.answer
    = told to cs (length out) (read from cs input) (output c) _ _ _ _ _ s.lines-whole (rw (← s.bytes-are) s.within-room) s.bytes-are s.why in
    ap₂ (λ (a : Answer) (w : List ℕ). record { answer = a; buffer = w }) (sym k.answers)
    (s.untouched ∙ ap (λ (n : ℕ). output c ++ drop n out) s.bytes-are ∙ ap (λ (w : List ℕ). w ++ drop (length w) out) (sym k.writes))

pub same-refusal : (e : Refusal) (out : List ℕ) (c d : Call) → NoRows e out c → NoRows e out d → c ≡ d
same-refusal e out c d h k =
    ap₂ (λ (a : Answer) (w : List ℕ). record { answer = a; buffer = w }) (h.refused-at-once ∙ sym k.refused-at-once) (h.untouched ∙ sym k.untouched)

same-sized : (b : Bool) (from to : Rows) (cs : List Column) (input out : List ℕ) (c d : Call) → Sized b cs from to input out c → Sized b cs from to input out d → c ≡ d
same-sized true from to cs input out c d h k = same-refusal (at 0 6) out c d h k
same-sized false from to cs input out c d h k = one-call from to cs input out c h ∙ sym (one-call from to cs input out d k)

same_ended : (r : Result Refusal (List Column)) (from to : Rows) (input out : List ℕ) (c d : Call) → Ended r from to input out c → Ended r from to input out d → c ≡ d
same_ended (good cs) from to input out c d h k = same-sized (ltb most_input (length input)) from to cs input out c d h k
same_ended (bad e) from to input out c d h k = same-refusal e out c d h k

-- NO LIAR MEETS DEMAND 1: a converter that does is ours, in every number and every byte of every call
pub only_one : (f : Converter) → Demand1 f → (decls : List ℕ) (from to : Rows) (input out : List ℕ) → f decls from to input out ≡ convert decls from to input out
only_one f d decls from to input out =
    same_ended (declare decls) from to input out (f decls from to input out) (convert decls from to input out) (d.ended decls from to input out) (demand1.ended decls from to input out)
