-- A call of `sailmortar_compare` is a call of `compare`, by its contract; so what is proved of `compare` is carried along that equation to the numbers and
-- the buffers. All over plain lists.
use Rattle.std.specs.Prelude.{Option, None, Some}
use Prim.Native.Nat.{◌≤◌, ℕ}
use native.Mathlib.Omega.{arith}
use mathlib.Core.List.{List, [], ◌∷◌}
use mathlib.Core.Path.{◌∙◌, ◌≡◌, ap, ap₂, refl, subst, subst⁻¹, sym}
use lib.ListN.{get_or, length, take}
use Rattle.compare.specs.Compare.{Compared, both_show, compare, compared_as, counted}
use Rattle.compare.specs.declared.Comparison.{Comparison}
use Rattle.compare_promises.specs.Comparisons.{ComparedAlike, ComparedBothWays, ComparedExactly, NotCompared, NotKinds, SameNight, comparison_of}
use Rattle.demands.proofs.Demand2.{demand2}
use Rattle.demands.proofs.Nights.{compares-nights}
use Rattle.demands.specs.Demands.{output}
use Rattle.demands.specs.TwoNights.{Unseen, all_the_same, turned}
use Rattle.promises.proofs.Laws.{Faces, bytes-within, faces, is-convert, unnamed}
use Rattle.promises.specs.Promises.{Between, call_of}
use Rattle.rows.specs.Convert.{convert}
use Rattle.sailmortar.proofs.Numbers.{known, no_source, no_target}
use Rattle.sailmortar.specs.Face.{Faced, between_kinds, compare_face, compared_faced, convert_face, eight, faced, five, no_such_kind, rows_of}
use Rattle.table.specs.All.{AreBytes}
use Rattle.table.specs.Cell.{Cell}
use Rattle.table.specs.Outcome.{Call}
use Rattle.table.specs.Result.{Result, bad, good}
use Rattle.table.specs.declared.Rows.{Rows}

-- ---- one call

comparison-of-eight : (c : Compared) → comparison_of (eight c.answer) c.buffer ≡ c
unfolding comparison_of eight
comparison-of-eight c = refl

abbrev compared_call : List ℕ → List ℕ → List ℕ → List ℕ → Rows → Rows → Faced
compared_call decls first second entry source other = compared_faced (compare decls source first other second entry)

module _ (decls : List ℕ) (from : ℕ) (first : List ℕ) (kind : ℕ) (second entry : List ℕ) {numbers exit : List ℕ}
    (h : Faces (compare_face decls from first kind second entry) numbers exit) where
  faces-compare : (source other : Rows) → rows_of from ≡ Some source → rows_of kind ≡ Some other → Faces (compared_call decls first second entry source other) numbers exit
  unfolding compare_face
  faces-compare source other e f =
      subst (λ (x : Faced). Faces x numbers exit) (known from kind (no_such_kind 7 entry) (compared_call decls first second entry) source e other f) h

  is-compare : (source other : Rows) → rows_of from ≡ Some source → rows_of kind ≡ Some other → comparison_of numbers exit ≡ compare decls source first other second entry
  unfolding compared_faced
  is-compare source other e f =
      let k = faces-compare source other e f in
      ap₂ comparison_of k.numbers-are k.buffer-is ∙ comparison-of-eight (compare decls source first other second entry)

  nothing : compare_face decls from first kind second entry ≡ no_such_kind 7 entry → NotCompared entry numbers exit
  unfolding no_such_kind
  nothing e = let n = subst (λ (x : Faced). Faces x numbers exit) e h in (n.numbers-are, n.buffer-is)

  pub not-kinds : NotKinds from kind entry numbers exit
  unfolding compare_face
  not-kinds =
      record {
        no-first = λ e. nothing (no_source from kind (no_such_kind 7 entry) (compared_call decls first second entry) e);
        no_second = λ f. nothing (either (rows_of from) refl f);
      }
    where
      either : (o : Option Rows) → rows_of from ≡ o → rows_of kind ≡ None
          → between_kinds (rows_of from) (rows_of kind) (no_such_kind 7 entry) (compared_call decls first second entry) ≡ no_such_kind 7 entry
      either None e f = no_source from kind (no_such_kind 7 entry) (compared_call decls first second entry) e
      either (Some source) e f = no_target from kind (no_such_kind 7 entry) (compared_call decls first second entry) source e f

  pub compared-exactly : Between from kind (ComparedExactly decls first second entry (comparison_of numbers exit))
  compared-exactly source other e f =
      subst⁻¹ (λ (c : Compared). ComparedExactly decls first second entry c source other) (is-compare source other e f)
      (record {
        ended = compares-nights.ended decls source first other second entry;
        same-exactly = compares-nights.same-exactly decls source first other second entry;
      })

-- ---- an input, and what it was converted to

convert-within : (decls : List ℕ) (source target : Rows) (input out : List ℕ)
    → (convert decls source target input out).answer.bytes ≤ length (convert decls source target input out).buffer
unfolding convert faced five
convert-within decls source target input out = bytes-within _ out _ _ (faces refl refl)

module _ (decls : List ℕ) (from to : ℕ) (input out : List ℕ) {numbers exit : List ℕ} (h : Faces (convert_face decls from to input out) numbers exit) where
  none_within : numbers ≡ 255 ∷ 0 ∷ 0 ∷ 0 ∷ 0 ∷ [] → get_or numbers 4 0 ≤ length exit
  none_within e = rw e (omega arith)

  -- the part that was written is a part of the buffer, whatever the two numbers name
  pub written-within : get_or numbers 4 0 ≤ length exit
  unfolding call_of
  written-within = by-kinds (rows_of from) refl (rows_of to) refl
    where
      by-kinds : (o : Option Rows) → rows_of from ≡ o → (p : Option Rows) → rows_of to ≡ p → get_or numbers 4 0 ≤ length exit
      by-kinds None e p f = none_within ((unnamed decls from to input out h).no_source e).0
      by-kinds (Some source) e None f = none_within ((unnamed decls from to input out h).no_target f).0
      by-kinds (Some source) e (Some target) f =
          subst⁻¹ (λ (c : Call). c.answer.bytes ≤ length c.buffer) (is-convert decls from to input out h source target e f)
          (convert-within decls source target input out)

  -- the input, compared with that part read as any number's kind: where that is the target, they are the same night
  pub same-night : AreBytes input → (kind : ℕ) (entry : List ℕ) {others left : List ℕ}
      → Faces (compare_face decls from input kind (take (get_or numbers 4 0) exit) entry) others left
      → (source target : Rows) → rows_of from ≡ Some source → rows_of to ≡ Some target → rows_of kind ≡ Some target → SameNight decls input out entry others left source target
  unfolding output call_of compared_faced eight
  same-night bytes kind entry {others} {left} k source target e f g v small =
      let part : List ℕ = take (get_or numbers 4 0) exit in
      let told = faces-compare decls from input kind part entry k source target e g in
      let written : part ≡ output (convert decls source target input out) = ap output (is-convert decls from to input out h source target e f) in
      let same : compare decls source input target part entry ≡ all_the_same entry =
      ap (λ (p : List ℕ). compare decls source input target p entry) written
      ∙ (compares-nights.as-converted convert demand2 decls source target input out entry v bytes small).0 in
      (told.numbers-are ∙ ap (λ (c : Compared). eight c.answer) same, told.buffer-is ∙ ap (λ (c : Compared). c.buffer) same)

-- ---- bytes that show nothing

module _ (decls input changed : List ℕ) (kind : ℕ) (other : List ℕ) where
  same-face : Unseen decls input changed → (entry : List ℕ) → compare_face decls 2 changed kind other entry ≡ compare_face decls 2 input kind other entry
  unfolding compare_face rows_of between_kinds
  same-face u entry = by_kind (rows_of kind)
    where
      by_kind : (o : Option Rows)
          → between_kinds (rows_of 2) o (no_such_kind 7 entry) (compared_call decls changed other entry) ≡ between_kinds (rows_of 2) o (no_such_kind 7 entry) (compared_call decls input other entry)
      by_kind None = refl
      by_kind (Some k) = ap compared_faced (compares-nights.unseen-first decls input changed k other entry u)

  pub compared-alike : (one two : List ℕ) {numbers exit others left : List ℕ} → Faces (compare_face decls 2 input kind other one) numbers exit
      → Faces (compare_face decls 2 changed kind other two) others left → ComparedAlike decls input changed one two numbers others exit left
  compared-alike one two {numbers} {exit} {others} {left} h k u e =
      let same : compare_face decls 2 changed kind other two ≡ compare_face decls 2 input kind other one = ap (compare_face decls 2 changed kind other) e ∙ same-face u one in
      let told = subst (λ (x : Faced). Faces x others left) same k in
      (told.numbers-are ∙ sym h.numbers-are, told.buffer-is ∙ sym h.buffer-is)

-- ---- the other way round

-- what is counted has nothing to do with the buffer
same-counts : (r : Result Comparison (List (List Cell) × List (List Cell))) (one two : List ℕ)
    → ((compared_as r two).answer.differing ≡ (compared_as r one).answer.differing) × ((compared_as r two).answer.first ≡ (compared_as r one).answer.first)
    × ((compared_as r two).answer.second ≡ (compared_as r one).answer.second)
unfolding compared_as counted
same-counts (bad a) one two = (refl, refl, refl)
same-counts (good (xs, ys)) one two = (refl, refl, refl)

both-compared : (decls first second one two : List ℕ) (source other : Rows)
    → ComparedBothWays decls first second one two (compare decls source first other second one) (compare decls other second source first two) source other
unfolding compare turned
both-compared decls first second one two source other =
    record {
      counts = λ cs h g.
          let turn = compares-nights.swapped decls source first other second one cs h g in
          let same = same-counts (both_show decls other second source first) one two in (
            same.0 ∙ ap (λ (c : Compared). c.answer.differing) turn,
            same.1 ∙ ap (λ (c : Compared). c.answer.first) turn,
            same.2 ∙ ap (λ (c : Compared). c.answer.second) turn,
          );
      swapped = λ e cs h g. ap (compare decls other second source first) e ∙ compares-nights.swapped decls source first other second one cs h g;
    }

pub compared-both-ways : (decls : List ℕ) (from : ℕ) (first : List ℕ) (kind : ℕ) (second one two : List ℕ) {numbers exit others left : List ℕ}
    → Faces (compare_face decls from first kind second one) numbers exit → Faces (compare_face decls kind second from first two) others left
    → Between from kind (ComparedBothWays decls first second one two (comparison_of numbers exit) (comparison_of others left))
compared-both-ways decls from first kind second one two {numbers} {exit} {others} {left} h k source other e f =
    subst⁻¹ (λ (c : Compared). ComparedBothWays decls first second one two c (comparison_of others left) source other) (is-compare decls from first kind second one h source other e f)
    (subst⁻¹ (λ (d : Compared). ComparedBothWays decls first second one two (compare decls source first other second one) d source other)
    (is-compare decls kind second from first two k other source f e)
    (both-compared decls first second one two source other))
