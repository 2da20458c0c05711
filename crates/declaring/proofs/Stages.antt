-- The whole text, FIELD by FIELD: the columns so far, in front of what is declared from here on, are what the text declares.
use Prim.Native.Nat.{◌+◌, ◌-◌, ◌<◌, ◌≤◌, suc, zero, ℕ}
use native.Mathlib.Omega.{arith}
use mathlib.Core.Bool.{cond}
use mathlib.Core.List.{List, [], ◌++◌, ◌∷◌, append_assoc, append-nil}
use mathlib.Core.Path.{◌∙◌, ◌≡◌, ap, ap₂, refl, subst, sym}
use lib.Dec.{eqb}
use lib.ListN.{drop, length, length-append, replicate, set}
use borrow.Author.Tests.{eq-eqb, le-ltb, lt-ltb, ne_eqb}
use Rattle.declaring.specs.Clauses.{Answered, refusal}
use Rattle.table.proofs.ColumnList.{listed-holding}
use Rattle.table.specs.ColumnList.{holding, listed, no_column}
use Rattle.declaring.specs.Readers.{FieldIs, element_of}
use Rattle.fields.specs.Fields.{declare, fields_f, fields_then, judge, read_field}
use Rattle.declaring.specs.declared.elements.Element.{Element}
use Rattle.std.specs.Prelude.{None, Ok, Result as Returned, Some}
use Rattle.table.specs.declared.Refused.{Refused}
use Rattle.table.specs.Reasons.{number_of}
use Rattle.table.specs.declared.Reason.{Reason}
use Rattle.table.proofs.Places.{done, next1}
use Rattle.table.specs.Outcome.{Refusal, at, most_declarations}
use Rattle.table.specs.Result.{Result, ◌>>=◌, bad, good, refused_as}
use Rattle.table.specs.declared.Column.{Column}
use Rattle.table.specs.declared.Columns.{Columns}
use Rattle.text.specs.Clauses.{Skipped}

abbrev pub behind : List Column → List Column → Result Refusal (List Column)
behind cs ds = good (cs ++ ds)

abbrev pub rest : ℕ → List ℕ → Result Refusal (List Column)
rest k t = fields_f (65 - k) (k + 1) t

pub record Stage (s : List ℕ) (place k : ℕ) (columns : Columns) : Type 0 where
  pub so_far : List Column
  pub counted : length so_far ≡ k
  pub stored : columns.list ≡ so_far ++ replicate (64 - k) no_column
  pub onward : declare s ≡ (fields_then k (drop place s) (rest k) >>= behind so_far)

-- ---- the answer

pub refused-there : {r : Result Refusal (List Column)} {answer : Returned Columns Refused} (reason : Reason) (place : ℕ)
    → answer ≡ refusal reason place → r ≡ bad (at place (number_of reason)) → Answered r answer
refused-there {r} reason place e q = subst (Answered r) (sym e) (record { says = q; held = tt })

-- ---- the column list

set_next : (cs : List Column) (k m n : ℕ) (c : Column) → length cs ≡ k → m ≡ suc n → set (cs ++ replicate m no_column) k c ≡ (cs ++ (c ∷ [])) ++ replicate n no_column
set_next [] zero m n c h e = rw e
set_next [] (suc k) m n c h e = absurd (omega arith)
set_next (d ∷ cs) zero m n c h e = absurd (omega arith)
set_next (d ∷ cs) (suc k) m n c h e = ap (λ (l : List Column). d ∷ l) (set_next cs k m n c (omega arith) e)

-- ---- sizes, and the first FIELD

pub too_long : (s : List ℕ) → 65536 < length s → declare s ≡ bad (at 0 6)
unfolding declare most_declarations
too_long s h = rw (lt-ltb 65536 (length s) h)

pub stage-start : (s : List ℕ) (place : ℕ) (columns : Columns) → length s ≤ 65536 → Skipped s 0 place → columns ≡ holding [] → Stage s place 0 columns
unfolding declare most_declarations fields_f
stage-start s place columns h white e = record {
  so_far = [];
  counted = refl;
  stored = ap (λ (x : Columns). x.list) e;
  onward = rw (le-ltb 65536 (length s) h) (rw white.rest (alone (fields_then 0 (drop place s) (rest 0))));
}
  where
    alone : (r : Result Refusal (List Column)) → r ≡ (r >>= behind [])
    alone (good cs) = refl
    alone (bad e) = refl

-- ---- a FIELD

field-then : (s : List ℕ) (place k : ℕ) (more : List ℕ → Result Refusal (List Column)) → place < length s
    → fields_then k (drop place s) more
    ≡ (refused_as (at k) (read_field (drop place s)) >>= λ f. refused_as (at k) (judge f) >>= λ c. cond (eqb k 64) (bad (at 64 5)) (more f.rest >>= λ cs. good (c ∷ cs)))
unfolding fields_then
field-then s place k more h = rw (next1 s place h)

rest-next : (s : List ℕ) (k from next : ℕ) → k ≤ 64 → Skipped s from next → rest k (drop from s) ≡ fields_then (k + 1) (drop next s) (rest (k + 1))
unfolding fields_f
rest-next s k from next h white =
    let q : 65 - k ≡ suc (65 - (k + 1)) = omega arith in
    ap (λ (n : ℕ). fields_f n (k + 1) (drop from s)) q ∙ rw white.rest

join : (r : Result Refusal (List Column)) (c : Column) (cs : List Column) → ((r >>= λ ds. good (c ∷ ds)) >>= behind cs) ≡ (r >>= behind (cs ++ (c ∷ [])))
join (good ds) c cs = ap good (sym (append_assoc cs (c ∷ []) ds))
join (bad e) c cs = refl

module _ (s : List ℕ) (place k : ℕ) (columns : Columns) (g : Stage s place k columns) (h : place < length s) where
  pub stage-broken : FieldIs s place (read_field (drop place s)) None → declare s ≡ bad (at k 1)
  stage-broken f = g.onward ∙ rw (field-then s place k (rest k) h) (rw f.rest)

  module _ (e : Element) (f : FieldIs s place (read_field (drop place s)) (Some e)) where
    pub stage-refused : (n : ℕ) → judge (element_of s e) ≡ bad n → declare s ≡ bad (at k n)
    stage-refused n j = g.onward ∙ rw (field-then s place k (rest k) h) (rw (f.rest, j))

    module _ (c : Column) (j : judge (element_of s e) ≡ good c) where
      pub stage-full : k ≡ 64 → declare s ≡ bad (at 64 5)
      stage-full q = g.onward ∙ rw (field-then s place k (rest k) h) (rw (f.rest, j, eq-eqb k 64 q))

      pub stage-more : (next : ℕ) (now : Columns) → k ≤ 64 → (k ≡ 64 → ⊥) → Skipped s e.next next → now.list ≡ set columns.list k c → Stage s next (k + 1) now
      unfolding element_of
      stage-more next now l n white w = record {
        so_far = g.so_far ++ (c ∷ []);
        counted = simp length-append (omega (arith, g.counted));
        stored = w ∙ ap (λ (x : List Column). set x k c) g.stored ∙ set_next g.so_far k (64 - k) (64 - (k + 1)) c g.counted (omega (arith, n));
        onward = g.onward ∙ rw (field-then s place k (rest k) h) (rw (f.rest, j, ne_eqb k 64 n) (join (rest k (drop e.next s)) c g.so_far ∙ rw (rest-next s k e.next next l white)));
      }

-- ---- the end of the text

module _ (s : List ℕ) (place k : ℕ) (columns : Columns) (g : Stage s place k columns) (h : length s ≤ place) where
  pub stage-none : k ≡ 0 → declare s ≡ bad (at 0 5)
  unfolding fields_then
  stage-none e = g.onward ∙ rw (done s place h) (rw (eq-eqb k 0 e))

  pub stage-done : k ≡ columns.count → (k ≡ 0 → ⊥) → Answered (declare s) (Ok columns)
  unfolding fields_then
  stage-done c n =
      let d : declare s ≡ good g.so_far = g.onward ∙ rw (done s place h) (rw (ne_eqb k 0 n) (ap good (append-nil g.so_far))) in
      let whole : columns ≡ holding g.so_far =
      ap₂ (λ (l : List Column) (m : ℕ). record { list = l; count = m }) (g.stored ∙ ap (λ (m : ℕ). g.so_far ++ replicate (64 - m) no_column) (sym g.counted)) (sym c ∙ sym g.counted) in
      let same : g.so_far ≡ listed columns = sym (ap listed whole ∙ listed-holding g.so_far) in
      record { says = d ∙ ap good same; held = whole ∙ ap holding same }
