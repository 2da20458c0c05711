-- Joining parts is one call on the whole: by induction on the parts, a part that is used goes on as PartJoined says, and nothing is joined behind an end.
use Prim.Native.Nat.{◌+◌, ◌-◌, ◌<◌, ◌≤◌, suc, zero-le, ℕ}
use native.Mathlib.Nat.{le_refl}
use native.Mathlib.Omega.{arith}
use mathlib.Core.Bool.{Bool, false, true}
use mathlib.Core.List.{List, [], ◌++◌, ◌∷◌, append_assoc, append-nil}
use mathlib.Core.Logic.{◌⊎◌, inl, inr}
use mathlib.Core.Path.{◌∙◌, ◌≡◌, ap, ap₂, refl, subst, subst⁻¹, sym}
use lib.ListN.{drop, length, length-take, take}
use borrow.Author.Tests.{ne_eqb}
use Rattle.demands.proofs.Demand1.{output-of, run-done}
use Rattle.demands.proofs.Demand2.{declared-columns, stands}
use Rattle.demands.specs.Demands.{output}
use Rattle.fields.proofs.Front.{front-declared, front-undeclared}
use Rattle.fields.proofs.Refusals.{AtPlace, declare-fails}
use Rattle.fields.specs.Fields.{declare}
use Rattle.fields.specs.Front.{front}
use Rattle.grammar.proofs.PartJoined.{gone-on, rows_short, whole-ends}
use Rattle.grammar.proofs.Pieces.{piece-place}
use Rattle.grammar.proofs.Staying.{Numbered, followed-nothing, followed-rows, row_within, run-numbered}
use Rattle.grammar.specs.Parts.{NothingDone, OneCall, PartOf, PartsOf, SoFar, answer_in, convert_long, first_of, no-parts, part_then}
use Rattle.parts.proofs.Laws.{Counted, all-counted, all-used, is-used, join-ended, join-none, join-unused, join-used, joined-final, joined-not-final, last-final, no_end, other-final, parts_more}
use Rattle.parts.specs.Join.{ended_with, gone_on, is_final, is_used, join, most_count, nothing}
use Rattle.parts.specs.declared.Joined.{Joined}
use Rattle.parts.specs.declared.Part.{Part}
use Rattle.rows.proofs.Calls.{converts}
use Rattle.rows.specs.Convert.{convert, converting, under_columns}
use Rattle.rows.specs.Pieces.{convert_piece, place_of, place_under}
use Rattle.rows.specs.Stream.{read, run}
use Rattle.table.proofs.Laws.{bad-good}
use Rattle.table.specs.All.{AreBytes}
use Rattle.table.specs.Outcome.{Call, Outcome, Refusal, accepted, answer_of, buffer_of, ending, most_input, refused, rows_done, written}
use Rattle.table.specs.Result.{Fails, Result, bad, fails, good}
use Rattle.table.specs.declared.Answer.{Answer}
use Rattle.table.specs.declared.Column.{Column}
use Rattle.table.specs.declared.Rows.{Rows}

first-none : (n : ℕ) (ws : List (List ℕ)) → first_of (n - n) ws ≡ []
unfolding first_of
first-none n ws = let none : n - n ≡ 0 = omega arith in rw none

first_more : (n m : ℕ) (v : List ℕ) (ws : List (List ℕ)) → m + 1 ≤ n → first_of (n - m) (v ∷ ws) ≡ v ++ first_of (n - (m + 1)) ws
unfolding first_of
first_more n m v ws h = let one : n - m ≡ suc (n - (m + 1)) = omega (arith, h) in rw one

nothing_written : (e : Refusal) (w : List ℕ) → w ≡ [] → written (refused e 0 []) ≡ w
unfolding written
nothing_written e w h = sym h

-- what is written with a part that ends it
ended-wrote : (j : Joined) (p : Part) (w v : List ℕ) (ws : List (List ℕ)) → w ++ first_of ((ended_with j p).parts - j.parts) (v ∷ ws) ≡ w ++ v
unfolding ended_with
ended-wrote j p w v ws =
    ap (λ (x : List ℕ). w ++ x)
    (first_more (j.parts + 1) j.parts v ws (le_refl (j.parts + 1)) ∙ ap (λ (x : List ℕ). v ++ x) (first-none (j.parts + 1) ws) ∙ append-nil v)

-- the answer with a part that is refused before any row
refused-answer : (j : Joined) (p : Part) (e : Refusal) → j.rows ≡ 0 → j.bytes ≡ 0 → 0 < e.number
    → record { number = p.number; row = p.row; column = p.column; rows = p.rows; bytes = p.bytes } ≡ answer_of (refused e 0 [])
    → answer_of (refused e 0 []) ≡ answer_in (ended_with j p)
unfolding answer_of answer_in ended_with
refused-answer j p e r b some t =
    let number : p.number ≡ e.number = ap (λ (a : Answer). a.number) t in
    let row : p.row ≡ 0 = ap (λ (a : Answer). a.row) t in
    let column : p.column ≡ e.column = ap (λ (a : Answer). a.column) t in
    let rows : p.rows ≡ 0 = ap (λ (a : Answer). a.rows) t in
    let bytes : p.bytes ≡ 0 = ap (λ (a : Answer). a.bytes) t in
    rw (number, row, column, rows, bytes, r, b, ne_eqb e.number 0 (λ z. omega (arith, z, some))) refl

module _ (decls : List ℕ) (from to : Rows) (input : List ℕ) (room size : ℕ) (all-bytes : AreBytes input) (known : length input ≤ size) where
  -- under columns: how far it has come, or the whole call
  record Under (cs : List Column) (j : Joined) (w : List ℕ) : Type 0 where
    either : (j.ended ≡ 0) ⊎ (j.ended ≡ 1)
    so_far : j.ended ≡ 0 → SoFar cs from to input room j w
    whole : j.ended ≡ 1 → (answer_of (run from to cs room input) ≡ answer_in j) × (written (run from to cs room input) ≡ w)

  -- no part more
  stays-under : (cs : List Column) (j : Joined) (w : List ℕ) (ws : List (List ℕ)) → j.ended ≡ 0 → SoFar cs from to input room j w
      → Under cs j (w ++ first_of (j.parts - j.parts) ws)
  stays-under cs j w ws z far =
      rw (first-none j.parts ws, append-nil w) (record { either = inl z; so_far = λ _. far; whole = λ e. absurd (omega (arith, z, e)) })

  joined-under : (cs : List Column) → declare decls ≡ good cs → {ps : List Part} {ws : List (List ℕ)} → PartsOf decls from to input ps ws → (j : Joined) (w : List ℕ)
      → j.ended ≡ 0 → SoFar cs from to input room j w → Under cs (join size room j ps) (w ++ first_of ((join size room j ps).parts - j.parts) ws)
  joined-under cs d no-parts j w z far = rw (join-none size room j) (stays-under cs j w [] z far)
  joined-under cs d (part_then {p = p} {w = v} {ps = ps} {ws = ws} part parts) j w z far = go (λ k u y more. joined-under cs d parts k u y more) (is_used room j p) refl (is_final size room j p) refl
    where
      Goal : Joined → Type 0
      Goal k = Under cs k (w ++ first_of (k.parts - j.parts) (v ∷ ws))

      go : ((k : Joined) (u : List ℕ) → k.ended ≡ 0 → SoFar cs from to input room k u → Under cs (join size room k ps) (u ++ first_of ((join size room k ps).parts - k.parts) ws))
          → (a : Bool) → is_used room j p ≡ a → (b : Bool) → is_final size room j p ≡ b → Goal (join size room j (p ∷ ps))
      go ih false h b f = subst⁻¹ Goal (join-unused size room j p ps h) (stays-under cs j w (v ∷ ws) z far)
      go ih true h true f =
          let joined : join size room j (p ∷ ps) ≡ ended_with j p
          = join-used size room j p ps h ∙ ap (λ (k : Joined). join size room k ps) (joined-final j p room size f) ∙ join-ended size room (ended_with j p) ps (unfold ended_with in refl) in
          let used = is-used j p room h in
          let ends = whole-ends decls from to input room size all-bytes known cs d j w far p v part used.begins used.sized used.fits f in
          subst⁻¹ Goal joined (subst⁻¹ (Under cs (ended_with j p)) (ended-wrote j p w v ws)
          (unfold ended_with in record { either = inr refl; so_far = λ e. absurd (omega (arith, e)); whole = λ _. ends }))
      go ih true h false f =
          let used = is-used j p room h in
          let k : Joined = gone_on j p in
          let joined : join size room j (p ∷ ps) ≡ join size room k ps
          = join-used size room j p ps h ∙ ap (λ (x : Joined). join size room x ps) (joined-not-final j p room size f) in
          let rest = ih k (w ++ v) (unfold gone_on in refl) (gone-on decls from to input room size all-bytes known cs d j w far p v part used.begins used.sized used.fits) in
          let one : k.parts ≡ j.parts + 1 = unfold gone_on in refl in
          let wrote : w ++ first_of ((join size room k ps).parts - j.parts) (v ∷ ws) ≡ (w ++ v) ++ first_of ((join size room k ps).parts - k.parts) ws
          = ap (λ (x : List ℕ). w ++ x) (first_more (join size room k ps).parts j.parts v ws (omega (arith, one, parts_more size room k ps))
          ∙ ap (λ (n : ℕ). v ++ first_of ((join size room k ps).parts - n) ws) (sym one)) ∙ sym (append_assoc w v (first_of ((join size room k ps).parts - k.parts) ws)) in
          subst⁻¹ Goal joined (subst⁻¹ (Under cs (join size room k ps)) wrote rest)

  -- ---- under declarations that are refused, the first part that is used has their refusal

  record Refusing (e : Refusal) (j : Joined) (w : List ℕ) : Type 0 where
    either : (j.ended ≡ 0) ⊎ (j.ended ≡ 1)
    nothing-done : j.ended ≡ 0 → NothingDone j w
    whole : j.ended ≡ 1 → (answer_of (refused e 0 []) ≡ answer_in j) × (w ≡ [])

  stays-refusing : (e : Refusal) (j : Joined) (w : List ℕ) (ws : List (List ℕ)) → j.ended ≡ 0 → NothingDone j w
      → Refusing e j (w ++ first_of (j.parts - j.parts) ws)
  stays-refusing e j w ws z none =
      rw (first-none j.parts ws, append-nil w) (record { either = inl z; nothing-done = λ _. none; whole = λ y. absurd (omega (arith, z, y)) })

  -- a refusal of declarations is one that the whole ends with
  refusal-final : (j : Joined) (p : Part) (e : Refusal) → p.number ≡ e.number → AtPlace e → is_final size room j p ≡ true
  refusal-final j p e n h =
      other-final j p room size (λ z. omega (arith, z, n, h.0.1))
      (no_end p.number (λ z. omega (arith, z, n, h.0.0)) (λ z. omega (arith, z, n, h.0.1)) (λ z. omega (arith, z, n, h.0.1)))

  undeclared : (e : Refusal) → declare decls ≡ bad e → (piece out : List ℕ) → convert decls from to piece out ≡ ending (refused e 0 []) out
  unfolding convert converting under_columns
  undeclared e d piece out = rw (front-undeclared decls (length piece) e d)

  undeclared-place : (e : Refusal) → declare decls ≡ bad e → (piece out : List ℕ) → (convert_piece decls from to piece out).place ≡ 0
  unfolding convert_piece place_under
  undeclared-place e d piece out = rw (front-undeclared decls (length piece) e d)

  -- what a part answers under them
  refused-part : (e : Refusal) → declare decls ≡ bad e → (p : Part) (v : List ℕ) → PartOf decls from to input p v
      → (record { number = p.number; row = p.row; column = p.column; rows = p.rows; bytes = p.bytes } ≡ answer_of (refused e 0 [])) × (v ≡ [])
  unfolding ending written
  refused-part e d p v part =
      let c = undeclared e d (take p.length (drop p.start input)) part.buffer in
      (part.answers ∙ ap (λ (x : Call). x.answer) c, part.writes ∙ ap output c ∙ output-of (refused e 0 []) part.buffer)

  joined-refusing : (e : Refusal) → declare decls ≡ bad e → AtPlace e → {ps : List Part} {ws : List (List ℕ)} → PartsOf decls from to input ps ws → (j : Joined) (w : List ℕ)
      → j.ended ≡ 0 → NothingDone j w → Refusing e (join size room j ps) (w ++ first_of ((join size room j ps).parts - j.parts) ws)
  joined-refusing e d h no-parts j w z none = rw (join-none size room j) (stays-refusing e j w [] z none)
  joined-refusing e d h (part_then {p = p} {w = v} {ps = ps} {ws = ws} part parts) j w z none = go (is_used room j p) refl
    where
      Goal : Joined → Type 0
      Goal k = Refusing e k (w ++ first_of (k.parts - j.parts) (v ∷ ws))

      go : (a : Bool) → is_used room j p ≡ a → Goal (join size room j (p ∷ ps))
      go false u = subst⁻¹ Goal (join-unused size room j p ps u) (stays-refusing e j w (v ∷ ws) z none)
      go true u =
          let told = refused-part e d p v part in
          let number : p.number ≡ e.number = unfold answer_of in ap (λ (a : Answer). a.number) told.0 in
          let joined : join size room j (p ∷ ps) ≡ ended_with j p
          = join-used size room j p ps u ∙ ap (λ (k : Joined). join size room k ps) (joined-final j p room size (refusal-final j p e number h))
          ∙ join-ended size room (ended_with j p) ps (unfold ended_with in refl) in
          subst⁻¹ Goal joined (record {
            either = inr (unfold ended_with in refl);
            nothing-done = λ y. absurd (unfold ended_with in omega (arith, y));
            whole = λ _. (refused-answer j p e none.no_rows none.no_bytes h.0.0 told.0, ended-wrote j p w v ws ∙ ap₂ (λ (x y : List ℕ). x ++ y) none.not_written told.1);
          })

  -- ---- one call

  module _ (j : Joined) (w : List ℕ) where
    is_whole : (o : Outcome) → (answer_of o ≡ answer_in j) × (written o ≡ w) → (out : List ℕ)
        → ending o out ≡ record { answer = answer_in j; buffer = w ++ drop (length w) out }
    unfolding ending buffer_of
    is_whole o e out = ap₂ (λ (a : Answer) (u : List ℕ). record { answer = a; buffer = u ++ drop (length u) out }) e.0 e.1

    long-good : (cs : List Column) → declare decls ≡ good cs → (out : List ℕ) → length out ≡ room → convert_long decls from to input out ≡ ending (run from to cs room input) out
    unfolding convert_long under_columns
    long-good cs d out l = rw (d, l)

    long-bad : (e : Refusal) → declare decls ≡ bad e → (out : List ℕ) → convert_long decls from to input out ≡ ending (refused e 0 []) out
    unfolding convert_long under_columns
    long-bad e d out = rw d

  -- JOINING: parts joined to what is one call on the whole are again one call on the whole, as far as they come
  pub joins-on : {ps : List Part} {ws : List (List ℕ)} → PartsOf decls from to input ps ws → (j : Joined) (w : List ℕ) → OneCall decls from to input room j w
      → OneCall decls from to input room (join size room j ps) (w ++ first_of ((join size room j ps).parts - j.parts) ws)
  joins-on {ps} {ws} parts j w one = go one.either (declare decls) refl (declare-fails decls)
    where
      go : (j.ended ≡ 0) ⊎ (j.ended ≡ 1) → (r : Result Refusal (List Column)) → declare decls ≡ r → Fails AtPlace r
          → OneCall decls from to input room (join size room j ps) (w ++ first_of ((join size room j ps).parts - j.parts) ws)
      go (inr e) r d f = rw (join-ended size room j ps e, first-none j.parts ws, append-nil w) one
      go (inl z) (good cs) d f =
          let u : Under cs _ _ = joined-under cs d parts j w z (one.so_far z cs d) in
          record {
            either = u.either;
            so_far = λ y ds c. (joined-under ds c parts j w z (one.so_far z ds c)).so_far y;
            nothing-done = λ y e c. absurd (bad-good (sym c ∙ d));
            whole = λ y out l. long-good j w cs d out l ∙ is_whole _ _ _ (u.whole y) out;
          }
      go (inl z) (bad e) d (fails h) =
          let u : Refusing e _ _ = joined-refusing e d h parts j w z (one.nothing-done z e d) in
          record {
            either = u.either;
            so_far = λ y cs c. absurd (bad-good (sym d ∙ c));
            nothing-done = λ y x c. u.nothing-done y;
            whole = λ y out l. long-bad j w e d out ∙ is_whole _ _ _ ((u.whole y).0, nothing_written e _ (u.whole y).1) out;
          }

  -- nothing joined yet is one call that has not begun
  pub starts : OneCall decls from to input room nothing []
  unfolding nothing
  starts = record {
    either = inl refl;
    so_far = λ _ cs d. record {
      inside = zero-le;
      bytes-are = refl;
      fits = zero-le;
      goes_on = ap (λ (n : ℕ). run from to cs n input) all_room ∙ sym (followed-nothing (run from to cs (room - 0) input));
    };
    nothing-done = λ _ e d. record { no_rows = refl; no_bytes = refl; at-the-start = refl; not_written = refl };
    whole = λ y. absurd (omega (arith, y));
  }
    where
      all_room : room ≡ room - 0
      all_room = omega arith

  -- a call writes no more than its room
  within : (p : Part) (v : List ℕ) → PartOf decls from to input p v → p.length ≤ most_input → p.bytes ≤ p.room
  within p v part short = go (declare decls) refl
    where
      piece : List ℕ
      piece = take p.length (drop p.start input)

      sized : length piece ≤ most_input
      sized = simp length-take (omega (arith, short))

      go : (r : Result Refusal (List Column)) → declare decls ≡ r → p.bytes ≤ p.room
      go (good cs) d =
          let bytes = ap (λ (a : Answer). a.bytes) part.answers in
          omega (arith, bytes, part.room-is, (stands decls from to piece part.buffer cs d sized).within-room)
      go (bad e) d = let none : p.bytes ≡ 0 = unfold answer_of in ap (λ (a : Answer). a.bytes) (refused-part e d p v part).0 in omega (arith, none)

  -- THE PLAN: any list of parts of the input, wherever it was cut
  pub joined-parts : {ps : List Part} {ws : List (List ℕ)} → PartsOf decls from to input ps ws
      → OneCall decls from to input room (join size room nothing ps) (first_of (join size room nothing ps).parts ws)
  unfolding nothing
  joined-parts {ps} {ws} parts =
      let all : (join size room nothing ps).parts - 0 ≡ (join size room nothing ps).parts = omega arith in
      subst (λ (n : ℕ). OneCall decls from to input room (join size room nothing ps) (first_of n ws)) all (joins-on parts nothing [] starts)

  -- the row of a part is that of its refusal, behind its rows, or 0
  row_of : (p : Part) (v : List ℕ) → PartOf decls from to input p v → p.row ≤ p.rows
  unfolding convert ending
  row_of p v part =
      let o : Outcome = converting decls from to (take p.length (drop p.start input)) (length part.buffer) in
      omega (arith, ap (λ (a : Answer). a.row) part.answers, ap (λ (a : Answer). a.rows) part.answers, row_within o)

  -- the rows of parts are no more than a number of 64 bits counts, where the input's bytes are not
  rows-counted : (cs : List Column) → declare decls ≡ good cs → (j : Joined) (w : List ℕ) → SoFar cs from to input room j w → j.rows ≤ length input
  rows-counted cs d j w far =
      let whole = run-done from to cs room input in
      let more = ap rows_done far.goes_on in
      omega (
        arith,
        followed-rows j.rows w (run from to cs (room - j.bytes) (drop j.place input)),
        more,
        whole.rows,
        whole.read,
        rows_short from cs (declared-columns decls cs d) input (read from cs input) refl,
      )

  -- A PART IN ITS PLACE is used: it begins where the rows done end, and there is room for its rows
  pub next-used : (j : Joined) (w : List ℕ) → OneCall decls from to input room j w → j.ended ≡ 0 → (p : Part) (v : List ℕ) → PartOf decls from to input p v
      → p.start ≡ j.place → p.length ≤ most_input → j.bytes + p.bytes ≤ room → length input ≤ most_count → j.parts + 1 ≤ most_count → is_used room j p ≡ true
  next-used j w one z p v part begins short fits long few =
      all-used j p room (record { goes_on = z; begins = begins; sized = short; fits = fits; counted = all-counted j p (go (declare decls) refl) })
    where
      go : (r : Result Refusal (List Column)) → declare decls ≡ r → Counted j p
      go (good cs) d =
          let on = gone-on decls from to input room size all-bytes known cs d j w (one.so_far z cs d) p v part begins short fits in
          let rows : j.rows + p.rows ≤ length input = unfold gone_on in rows-counted cs d (gone_on j p) (w ++ v) on in
          let place : j.place + p.place ≤ length input = unfold gone_on in on.inside in
          record { place = omega (arith, place, long); rows = omega (arith, rows, long); row = omega (arith, rows, long, row_of p v part); parts = few }
      go (bad e) d =
          let none = one.nothing-done z e d in
          let told = (refused-part e d p v part).0 in
          let row : p.row ≡ 0 = unfold answer_of in ap (λ (a : Answer). a.row) told in
          let rows : p.rows ≡ 0 = unfold answer_of in ap (λ (a : Answer). a.rows) told in
          let place : p.place ≡ 0 = part.place_is ∙ undeclared-place e d _ part.buffer in
          record {
            place = omega (arith, none.at-the-start, place);
            rows = omega (arith, none.no_rows, rows);
            row = omega (arith, none.no_rows, row);
            parts = few;
          }

  -- bytes written have room
  has_room : (j : Joined) (w : List ℕ) → OneCall decls from to input room j w → j.ended ≡ 0 → j.bytes ≤ room
  has_room j w one z = go (declare decls) refl
    where
      go : (r : Result Refusal (List Column)) → declare decls ≡ r → j.bytes ≤ room
      go (good cs) d = (one.so_far z cs d).fits
      go (bad e) d = omega (arith, (one.nothing-done z e d).no_bytes)

  -- THE LAST PART, of all that is left in the room that is left, ends it: with it any cuts, good or silly, give the outcome of one call
  pub last-part-ends : (j : Joined) (w : List ℕ) → OneCall decls from to input room j w → j.ended ≡ 0 → (p : Part) (v : List ℕ) → PartOf decls from to input p v
      → p.start ≡ j.place → p.length ≤ most_input → p.start + p.length ≡ size → p.room ≡ room - j.bytes → length input ≤ most_count → j.parts + 1 ≤ most_count
      → (join size room j (p ∷ [])).ended ≡ 1
  unfolding ended_with
  last-part-ends j w one z p v part begins short ends room-is long few =
      let fits : j.bytes + p.bytes ≤ room = omega (arith, has_room j w one z, room-is, within p v part short) in
      let final : is_final size room j p ≡ true = last-final j p room size ends (omega (arith, room-is)) in
      ap (λ (k : Joined). k.ended)
      (join-used size room j p [] (next-used j w one z p v part begins short fits long few)
      ∙ ap (λ (k : Joined). join size room k []) (joined-final j p room size final) ∙ join-none size room (ended_with j p))

-- one call within the size of an input is the call of `convert`
pub long-is-convert : (decls : List ℕ) (from to : Rows) (input out : List ℕ) → length input ≤ most_input → convert_long decls from to input out ≡ convert decls from to input out
unfolding convert_long convert converting
long-is-convert decls from to input out h =
    ap (λ (r : Result Refusal (List Column)). ending (under_columns r (λ cs. run from to cs (length out) input)) out) (same-front (declare decls) refl)
  where
    same-front : (r : Result Refusal (List Column)) → declare decls ≡ r → declare decls ≡ front decls (length input)
    same-front (good cs) d = d ∙ sym (front-declared decls (length input) cs d h)
    same-front (bad e) d = d ∙ sym (front-undeclared decls (length input) e d)

-- a call that is accepted has come to the end of its input
pub accepted-place : (decls : List ℕ) (from to : Rows) (input out : List ℕ) (cs : List Column) → declare decls ≡ good cs → length input ≤ most_input
    → (convert decls from to input out).answer.number ≡ 0 → (convert_piece decls from to input out).place ≡ length input
unfolding ending answer_of place_of
accepted-place decls from to input out cs d h z =
    piece-place decls from to input out cs (front-declared decls (length input) cs d h)
    ∙ go (run from to cs (length out) input) (run-numbered from to cs (length out) input) (sym (ap (λ (c : Call). c.answer.number) (converts decls from to input out cs d h)) ∙ z)
  where
    go : (o : Outcome) → Numbered o → (answer_of o).number ≡ 0 → place_of from cs input o ≡ length input
    go (accepted r w) n e = refl
    go (refused x r w) n e = absurd (omega (arith, n, e))
