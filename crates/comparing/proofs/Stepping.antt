-- Both inputs in step: the places that differ from a start on are those of the rows so far and those of what is left of both (SteppedTo), so they are all
-- there when one of the two has no row left, or one that does not read. As long as none is noted, the places from here on are those from the start on.
-- Cited by step_rows, count_differing and fill.
use Prim.Native.Nat.{◌*◌, ◌+◌, ◌<◌, ◌^◌, ◌≤◌, suc, ℕ}
use native.Mathlib.Omega.{arith}
use mathlib.Core.Bool.{Bool, ◌&&◌, cond, false, false≢true, not, true}
use mathlib.Core.List.{List, [], ◌++◌, ◌∷◌, append_assoc, append-nil}
use mathlib.Core.Logic.{◌⊎◌, inl, inr}
use mathlib.Core.Path.{◌∙◌, ◌≡◌, ap, refl, subst, sym}
use lib.Dec.{eqb, ltb}
use lib.ListN.{drop, length, length-append}
use borrow.Author.Tests.{eqb-true, ltb-false}
use Rattle.compare.proofs.Placed.{placed-enough}
use Rattle.compare.specs.Compare.{Place, differences, filled, placed, row_differs}
use Rattle.noting.proofs.Noting.{marked-few, row-marked}
use Rattle.comparing.specs.Clauses.{Counts, StandIn, Steps, at_start, differ_from, have_rows, in_step, steps_on}
use Rattle.noting.specs.Places.{Notes, marked}
use Rattle.comparing.specs.declared.Abreast.{Abreast}
use Rattle.comparing.specs.declared.Stepped.{Stepped}
use Rattle.number.proofs.Laws.{length_to}
use Rattle.number.specs.Number.{to_digits}
use Rattle.row_comparing.specs.Clauses.{OneUnread, RowsRead, unread-first, unread-second}
use Rattle.row_reading.proofs.PassedRows.{pass-more, pass-start}
use Rattle.row_reading.specs.Clauses.{RowsPassed}
use Rattle.rows.proofs.Laws.{within_step}
use Rattle.rows.specs.Bounds.{Within}
use Rattle.rows.specs.Sequence.{in_order, row_then}
use Rattle.rows.specs.Stream.{at_end, read, read_row}
use Rattle.table.proofs.Laws.{and_both}
use Rattle.table.specs.Cell.{Cell}
use Rattle.table.specs.Outcome.{Refusal}
use Rattle.table.specs.Result.{bad, good}
use Rattle.table.specs.declared.Column.{Column}
use Rattle.table.specs.declared.Rows.{Rows}

-- ---- what is left of an input

module _ (from : Rows) (cs : List Column) (are : Within cs) (s : List ℕ) where
  ended-rows : at_end from s ≡ true → in_order (read from cs s) ≡ []
  unfolding in_order
  ended-rows e = rw (within_step from cs are s, e)

  unread-rows : at_end from s ≡ false → (x : Refusal) → read_row from cs s ≡ bad x → in_order (read from cs s) ≡ []
  unfolding in_order row_then
  unread-rows e x q = rw (within_step from cs are s, e, q)

  next_row : at_end from s ≡ false → (xs : List Cell) (rest : List ℕ) → read_row from cs s ≡ good (xs, rest) → in_order (read from cs s) ≡ xs ∷ in_order (read from cs rest)
  unfolding in_order row_then
  next_row e xs rest q = rw (within_step from cs are s, e, q)

no-first : (r : ℕ) (xs ys : List (List Cell)) → xs ≡ [] → differences r xs ys ≡ []
unfolding differences
no-first r xs ys e = rw e

no_second : (r : ℕ) (xs ys : List (List Cell)) → ys ≡ [] → differences r xs ys ≡ []
unfolding differences
no_second r [] ys e = refl
no_second r (x ∷ xs) ys e = rw e

both_false : (a b : Bool) → (not a && not b) ≡ true → (a ≡ false) × (b ≡ false)
both_false true b h = absurd (false≢true h)
both_false false true h = absurd (false≢true h)
both_false false false h = (refl, refl)

-- ---- what is left of both

module _ (from kind : Rows) (cs : List Column) (are : Within cs) (s t : List ℕ) (p : Abreast) where
  abbrev left : List Place
  left = differ_from from cs s kind t p

  -- one of them has no row left
  none_left : have_rows from s kind t p ≡ false → left ≡ []
  none_left = go (at_end from (drop p.first s)) refl (at_end kind (drop p.second t)) refl
    where
      go : (a : Bool) → at_end from (drop p.first s) ≡ a → (b : Bool) → at_end kind (drop p.second t) ≡ b → (not a && not b) ≡ false → left ≡ []
      go true e b f h = no-first p.rows _ _ (ended-rows from cs are (drop p.first s) e)
      go false e true f h = no_second p.rows _ _ (ended-rows kind cs are (drop p.second t) f)
      go false e false f h = absurd (false≢true (sym h))

  -- or there are as many places as were asked for
  pub stopped : (differing most : ℕ) → steps_on differing most from s kind t p ≡ false → (left ≡ []) ⊎ (most ≤ differing)
  stopped differing most = go (ltb differing most) refl
    where
      go : (b : Bool) → ltb differing most ≡ b → (b && have_rows from s kind t p) ≡ false → (left ≡ []) ⊎ (most ≤ differing)
      go true e h = inl (none_left h)
      go false e h = inr (ltb-false differing most e)

  module _ (differing most : ℕ) (more : steps_on differing most from s kind t p ≡ true) where
    abbrev rows-there : (at_end from (drop p.first s) ≡ false) × (at_end kind (drop p.second t) ≡ false)
    rows-there = both_false (at_end from (drop p.first s)) (at_end kind (drop p.second t)) (and_both (ltb differing most) (have_rows from s kind t p) more).1

    -- or a row that does not read
    pub unread-left : OneUnread (read_row from cs (drop p.first s)) (read_row kind cs (drop p.second t)) → left ≡ []
    unread-left (unread-first {x = x} q) = no-first p.rows _ _ (unread-rows from cs are (drop p.first s) rows-there.0 x q)
    unread-left (unread-second {x = x} q) = no_second p.rows _ _ (unread-rows kind cs are (drop p.second t) rows-there.1 x q)

    -- or both have a row, and then more
    row-left : (xs ys : List Cell) (next other : ℕ) → read_row from cs (drop p.first s) ≡ good (xs, drop next s) → read_row kind cs (drop p.second t) ≡ good (ys, drop other t)
        → left ≡ row_differs p.rows 0 xs ys ++ differences (p.rows + 1) (in_order (read from cs (drop next s))) (in_order (read kind cs (drop other t)))
    unfolding differences
    row-left xs ys next other e f =
        rw (next_row from cs are (drop p.first s) rows-there.0 xs (drop next s) e, next_row kind cs are (drop p.second t) rows-there.1 ys (drop other t) f)

-- ---- the loop over rows

pub record SteppedTo (from kind : Rows) (cs : List Column) (s t : List ℕ) (start : Abreast) (entry places : List ℕ) (differing : ℕ) (here same : Abreast) : Type 0 where
  pub ps : List Place
  pub ahead : differ_from from cs s kind t start ≡ ps ++ differ_from from cs s kind t here
  pub counts : differing ≡ length ps
  pub leaves : places ≡ placed ps entry
  pub few : differing ≤ 64 * here.rows
  pub first : RowsPassed from cs s start.first start.rows here.first here.rows
  pub second : RowsPassed kind cs t start.second start.rows here.second here.rows
  pub within : StandIn s t same
  pub as-start : differ_from from cs s kind t same ≡ differ_from from cs s kind t start

no-places : (ps : List Place) → length ps ≡ 0 → ps ≡ []
no-places [] h = refl
no-places (p ∷ ps) h = absurd (omega arith)

module _ (from kind : Rows) (cs : List Column) (s t : List ℕ) (start : Abreast) (entry : List ℕ) where
  pub step_start : StandIn s t start → SteppedTo from kind cs s t start entry entry 0 start start
  unfolding placed
  step_start h = record {
    ps = [];
    ahead = refl;
    counts = refl;
    leaves = refl;
    few = omega arith;
    first = pass-start from cs s start.first start.rows h.1 h.0;
    second = pass-start kind cs t start.second start.rows h.3 h.2;
    within = h;
    as-start = refl;
  }

  module _ (are : Within cs) (places : List ℕ) (differing : ℕ) (here same : Abreast) (inv : SteppedTo from kind cs s t start entry places differing here same) where
    pub step_end : (most : ℕ) → (differ_from from cs s kind t here ≡ []) ⊎ (most ≤ differing)
        → Steps from cs s kind t start most entry places (record { differing = differing; end = here; same = same })
    step_end most why = record {
      noted = inv.ps;
      left = differ_from from cs s kind t here;
      all = inv.ahead;
      enough = enough why;
      counts = inv.counts;
      few = omega (arith, inv.few, inv.first.fewer, inv.first.inside);
      leaves = inv.leaves;
      first-passed = inv.first;
      second-passed = inv.second;
      within = inv.within;
      same = inv.as-start;
    }
      where
        enough : (differ_from from cs s kind t here ≡ []) ⊎ (most ≤ differing) → (differ_from from cs s kind t here ≡ []) ⊎ (most ≤ length inv.ps)
        enough (inl e) = inl e
        enough (inr h) = inr (omega (arith, h, inv.counts))

    -- where both stood last with nothing noted
    still-same : (r : Abreast) → r ≡ cond (eqb differing 0) here same → StandIn s t r × (differ_from from cs s kind t r ≡ differ_from from cs s kind t start)
    still-same r e = subst (λ (p : Abreast). StandIn s t p × (differ_from from cs s kind t p ≡ differ_from from cs s kind t start)) (sym e) (go (eqb differing 0) refl)
      where
        go : (b : Bool) → eqb differing 0 ≡ b → StandIn s t (cond b here same) × (differ_from from cs s kind t (cond b here same) ≡ differ_from from cs s kind t start)
        go true q =
            let none : inv.ps ≡ [] = no-places inv.ps (sym inv.counts ∙ eqb-true differing 0 q) in (
              (inv.first.fewer, inv.first.inside, inv.second.fewer, inv.second.inside),
              sym (inv.ahead ∙ ap (λ (ps : List Place). ps ++ differ_from from cs s kind t here) none),
            )
        go false q = (inv.within, inv.as-start)

    module _ (most : ℕ) (more : steps_on differing most from s kind t here ≡ true) (count : ℕ) (l : length cs ≡ count) (word next last : ℕ)
        (h : RowsRead (read_row from cs (drop here.first s)) s (suc here.first) (read_row kind cs (drop here.second t)) t (suc here.second) count word next last) where
      pub step-more : (exit : List ℕ) (n : ℕ) → Notes differing places (marked here.rows 0 (to_digits 2 count word)) exit n → (r : Abreast) → r ≡ cond (eqb differing 0) here same
          → SteppedTo from kind cs s t start entry exit n (record { rows = here.rows + 1; first = next; second = last }) r
      step-more exit n k r e =
          let there = rows-there from kind cs are s t here differing most more in
          let these : row_differs here.rows 0 h.xs h.ys ≡ marked here.rows 0 (to_digits 2 count word) =
          row-marked here.rows 0 h.xs h.ys ∙ ap (marked here.rows 0) (sym h.shows) in
          let stood = still-same r e in
          record {
            ps = inv.ps ++ marked here.rows 0 (to_digits 2 count word);
            ahead = inv.ahead
                ∙ rw (row-left from kind cs are s t here differing most more h.xs h.ys next last h.found h.found-other, these) (sym (append_assoc inv.ps _ _));
            counts = omega (arith, k.counts, inv.counts, length-append inv.ps (marked here.rows 0 (to_digits 2 count word)));
            leaves = k.leaves inv.ps entry (sym inv.counts) inv.leaves;
            few = omega (arith, k.counts, inv.few, marked-few here.rows 0 (to_digits 2 count word), length_to 2 count word, are.few, l);
            first = pass-more from cs s start.first start.rows are here.first here.rows inv.first there.0 h.xs next h.found h.within.0 h.within.1;
            second =
                pass-more kind cs t start.second start.rows are here.second here.rows inv.second there.1 h.ys last h.found-other h.within-other.0
                h.within-other.1;
            within = stood.0;
            as-start = stood.1;
          }

-- ---- all of them, and those that fit

module _ (from : Rows) (cs : List Column) (s : List ℕ) (kind : Rows) (t : List ℕ) where
  -- more were asked for than there can be
  pub counts_all : length s < 2 ^ 32 → (entry exit : List ℕ) (r : Stepped) → Steps from cs s kind t at_start 18446744073709551615 entry exit r → Counts from cs s kind t r
  counts_all short entry exit r h = record {
    counts = h.counts ∙ ap length (sym (h.all ∙ ap (λ (ps : List Place). h.noted ++ ps) (none h.enough) ∙ append-nil h.noted));
    first-passed = h.first-passed;
    second-passed = h.second-passed;
    within = h.within;
    same = h.same;
  }
    where
      none : (h.left ≡ []) ⊎ (18446744073709551615 ≤ length h.noted) → h.left ≡ []
      none (inl e) = e
      none (inr q) = absurd (omega (arith, q, h.few, h.counts, short))

  -- as many were asked for as fit
  pub fills : (entry exit : List ℕ) (counted r : Stepped) (most : ℕ) → most ≡ filled counted.differing (length entry) → Counts from cs s kind t counted
      → Steps from cs s kind t counted.same most entry exit r → exit ≡ placed (in_step from cs s kind t) entry
  fills entry exit counted r most e c h =
      let all : in_step from cs s kind t ≡ h.noted ++ h.left = sym c.same ∙ h.all in
      let asked : most ≡ filled (length (h.noted ++ h.left)) (length entry) = e ∙ ap (λ (n : ℕ). filled n (length entry)) (c.counts ∙ ap length all) in
      h.leaves ∙ sym (placed-enough h.noted h.left entry (subst (λ (n : ℕ). (h.left ≡ []) ⊎ (n ≤ length h.noted)) asked h.enough))
      ∙ ap (λ (ps : List Place). placed ps entry) (sym all)
