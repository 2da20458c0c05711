-- Outcomes behind one another, and which refusal stays where more of the input follows or the room is another: not the cut's (`stays-stopped`), not 17 in
-- more room; every other one. A row that reads is the same row whatever follows.
use Prim.Native.Nat.{◌+◌, ◌<◌, ◌≤◌, zero-le, ℕ}
use native.Mathlib.Nat.{add_assoc, add-zero, le_refl, zero-add}
use native.Mathlib.Omega.{arith}
use mathlib.Core.Bool.{Bool, cond, false, true}
use mathlib.Core.List.{List, [], ◌++◌, ◌∷◌, append_assoc, append-nil}
use mathlib.Core.Path.{◌∙◌, ◌≡◌, ap, ap₂, refl, subst, sym}
use lib.Dec.{ltb}
use lib.ListN.{length, length-append}
use borrow.Author.Tests.{lt-ltb, ltb-true}
use Rattle.demands.proofs.Demand1.{run-done}
use Rattle.demands.proofs.Writing.{EndsAt}
use Rattle.grammar.proofs.Cut.{stays-stopped}
use Rattle.grammar.proofs.Pieces.{IsAccepted}
use Rattle.grammar.proofs.Resumption.{row_before}
use Rattle.grammar.specs.Exact.{cut_number}
use Rattle.grammar.specs.Resumption.{followed_by}
use Rattle.rows.specs.Sequence.{finished, row, stopped}
use Rattle.rows.specs.Stream.{Table, fitted, read, run, write, write_row, wrote_then}
use Rattle.table.specs.All.{AreBytes}
use Rattle.table.specs.Cell.{AreColumns}
use Rattle.table.specs.Outcome.{Outcome, Refusal, accepted, answer_of, at, refused, rows_done}
use Rattle.table.specs.Result.{Result, bad, good}
use Rattle.table.specs.declared.Column.{Column}
use Rattle.table.specs.declared.Rows.{Rows}
use Rattle.table.specs.declared.Rows.TheVariants.{Binary, Binary2, TableData}

-- ---- outcomes behind one another

pub followed-twice : (r q : ℕ) (w v : List ℕ) (o : Outcome) → followed_by (accepted r w) (followed_by (accepted q v) o) ≡ followed_by (accepted (r + q) (w ++ v)) o
unfolding followed_by
followed-twice r q w v (accepted n u) = ap₂ accepted (sym (add_assoc r q n)) (sym (append_assoc w v u))
followed-twice r q w v (refused e n u) = ap₂ (refused e) (sym (add_assoc r q n)) (sym (append_assoc w v u))

pub followed-by-none : (r : ℕ) (w : List ℕ) → followed_by (accepted r w) (accepted 0 []) ≡ accepted r w
unfolding followed_by
followed-by-none r w = ap₂ accepted (add-zero r) (append-nil w)

pub followed-by-stop : (r : ℕ) (w : List ℕ) (e : Refusal) → followed_by (accepted r w) (refused e 0 []) ≡ refused e r w
unfolding followed_by
followed-by-stop r w e = ap₂ (refused e) (add-zero r) (append-nil w)

pub followed-nothing : (o : Outcome) → followed_by (accepted 0 []) o ≡ o
unfolding followed_by
followed-nothing (accepted r w) = ap (λ (n : ℕ). accepted n w) (zero-add r)
followed-nothing (refused e r w) = ap (λ (n : ℕ). refused e n w) (zero-add r)

pub row_within : (o : Outcome) → (answer_of o).row ≤ (answer_of o).rows
unfolding answer_of
row_within (accepted r w) = zero-le
row_within (refused e r w) = le_refl r

pub followed-rows : (r : ℕ) (w : List ℕ) (o : Outcome) → r ≤ rows_done (followed_by (accepted r w) o)
unfolding followed_by rows_done
followed-rows r w (accepted q v) = omega arith
followed-rows r w (refused e q v) = omega arith

no_more : (w v : List ℕ) → w ++ v ≡ w → v ≡ []
no_more w [] e = refl
no_more w (b ∷ v) e = let n = sym (length-append w (b ∷ v)) ∙ ap length e in absurd (omega (arith, n))

-- what goes on behind rows and is refused with no row more is refused at once
pub refused-at-once : (r : ℕ) (w : List ℕ) (e : Refusal) (o : Outcome) → followed_by (accepted r w) o ≡ refused e r w → o ≡ refused e 0 []
unfolding followed_by
refused-at-once r w e (accepted q v) h = absurd (subst IsAccepted h tt)
refused-at-once r w e (refused x q v) h =
    let same : x ≡ e = cc h in
    let rows : r + q ≡ r = cc h in
    let bytes : w ++ v ≡ w = cc h in
    let none : q ≡ 0 = omega (arith, rows) in
    ap (λ (y : Refusal). refused y q v) same ∙ ap₂ (refused e) none (no_more w v bytes)

-- a refusal has a number
abbrev pub Numbered : Outcome → Type 0
Numbered (accepted r w) = Unit {0}
Numbered (refused e r w) = 0 < e.number

pub run-numbered : (from to : Rows) (cs : List Column) (room : ℕ) (input : List ℕ) → Numbered (run from to cs room input)
run-numbered from to cs room input = let d = run-done from to cs room input in go (run from to cs room input) d.done d.ended
  where
    go : (o : Outcome) (done : ℕ) → EndsAt to cs room (read from cs input) done o → Numbered o
    go (accepted r w) done e = tt
    go (refused x r w) done e = omega (arith, e.0.0.0)

-- ---- a refusal that stays

-- it stays where it is not the cut's and not for want of room; where nothing follows; and 17 where there is no more room than it had
pub data Stays (from : Rows) (e : Refusal) (had room : ℕ) (more : List ℕ) : Type 0 where
  not-cut : (e.number ≡ cut_number from → ⊥) → (e.number ≡ 17 → ⊥) → Stays from e had room more
  at-the-end : more ≡ [] → (e.number ≡ 17 → ⊥) → Stays from e had room more
  no_room : e.number ≡ 17 → room ≤ had → Stays from e had room more

cut-no-17 : (from : Rows) → cut_number from ≡ 17 → ⊥
cut-no-17 TableData e = absurd (omega (arith, e))
cut-no-17 Binary e = absurd (omega (arith, e))
cut-no-17 Binary2 e = absurd (omega (arith, e))

-- rows are never fewer
write-rows : (to : Rows) (cs : List Column) (room r : ℕ) (out : List ℕ) (t : Table) → r ≤ rows_done (write to cs room r out t)
unfolding write rows_done wrote_then
write-rows to cs room r out finished = le_refl r
write-rows to cs room r out (stopped e) = le_refl r
write-rows to cs room r out (row xs t) = go (fitted room out (write_row to cs xs)) (λ b. write-rows to cs room (r + 1) b t)
  where
    go : (x : Result Refusal (List ℕ)) → ((b : List ℕ) → r + 1 ≤ rows_done (write to cs room (r + 1) b t)) → r ≤ rows_done (wrote_then r out x (λ b. write to cs room (r + 1) b t))
    go (good b) ih = omega (arith, ih b)
    go (bad e) ih = le_refl r

some-rows : (o : Outcome) (e : Refusal) → 1 ≤ rows_done o → o ≡ refused e 0 [] → ⊥
unfolding rows_done
some-rows o e h q = let none : rows_done o ≡ 0 = ap rows_done q in omega (arith, h, none)

-- 17's own
number_is : {e : Refusal} → refused (at 0 17) 0 [] ≡ refused e 0 [] → e.number ≡ 17
unfolding at
number_is {e} h = let same : record { number = 17; column = 0 } ≡ e = cc h in ap (λ (x : Refusal). x.number) (sym same)

-- a row that cannot be written in a room cannot be in one that is no greater, and one that has no form has none in any
row_stays : (from to : Rows) (cs : List Column) (had room : ℕ) (more : List ℕ) (e : Refusal) (x : Result Refusal (List ℕ)) (u v : Table)
    → wrote_then 0 [] (fitted had [] x) (λ b. write to cs had 1 b u) ≡ refused e 0 [] → Stays from e had room more
    → wrote_then 0 [] (fitted room [] x) (λ b. write to cs room 1 b v) ≡ refused e 0 []
unfolding wrote_then fitted
row_stays from to cs had room more e (bad x) u v h s = h
row_stays from to cs had room more e (good b) u v h s = go (ltb had (length b)) refl h s
  where
    full : (y : Bool) → y ≡ true → wrote_then 0 [] (cond y (bad (at 0 17)) (good b)) (λ b. write to cs room 1 b v) ≡ refused (at 0 17) 0 []
    full y e = rw e refl

    go : (y : Bool) → ltb had (length b) ≡ y → wrote_then 0 [] (cond y (bad (at 0 17)) (good b)) (λ b. write to cs had 1 b u) ≡ refused e 0 [] → Stays from e had room more
        → wrote_then 0 [] (cond (ltb room (length b)) (bad (at 0 17)) (good b)) (λ b. write to cs room 1 b v) ≡ refused e 0 []
    go true t h (no_room n l) = full (ltb room (length b)) (lt-ltb room (length b) (omega (arith, l, ltb-true had (length b) t))) ∙ h
    go true t h (not-cut n m) = absurd (m (number_is h))
    go true t h (at-the-end z m) = absurd (m (number_is h))
    go false t h s = absurd (some-rows (write to cs had 1 b u) e (write-rows to cs had 1 b u) h)

module _ (from to : Rows) (cs : List Column) (i : AreColumns cs) where
  pub stays-refused : (had room : ℕ) (t more : List ℕ) (e : Refusal) → AreBytes (t ++ more) → run from to cs had t ≡ refused e 0 [] → Stays from e had room more
      → run from to cs room (t ++ more) ≡ refused e 0 []
  unfolding run write
  stays-refused had room t more e a h s = go (read from cs t) refl h
    where
      still : Stays from e had room more → read from cs t ≡ stopped e → read from cs (t ++ more) ≡ stopped e
      still (not-cut n m) q = stays-stopped from cs i t more e a n q
      still (at-the-end z m) q = ap (λ (x : List ℕ). read from cs (t ++ x)) z ∙ ap (read from cs) (append-nil t) ∙ q
      still (no_room n l) q = stays-stopped from cs i t more e a (λ z. cut-no-17 from (sym z ∙ n)) q

      go : (u : Table) → read from cs t ≡ u → write to cs had 0 [] u ≡ refused e 0 [] → write to cs room 0 [] (read from cs (t ++ more)) ≡ refused e 0 []
      go finished q h = absurd (subst IsAccepted h tt)
      go (stopped x) q h = let same : x ≡ e = cc h in ap (write to cs room 0 []) (still s (q ∙ ap stopped same))
      go (row xs u) q h =
          let f = row_before from cs i t more xs u q in
          ap (write to cs room 0 []) f.2 ∙ row_stays from to cs had room more e (write_row to cs xs) u (read from cs (f.0 ++ more)) h s
