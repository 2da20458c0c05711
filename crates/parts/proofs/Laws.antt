-- Joining, a part at a time: what is known of a part that is used, and of one that the whole ends with.
use Prim.Native.Nat.{◌*◌, ◌+◌, ◌-◌, ◌<◌, ◌≤◌, suc, ℕ}
use mathlib.Core.Bool.{Bool, cond, false, false≢true, true}
use mathlib.Core.List.{List, [], ◌∷◌}
use mathlib.Core.Path.{◌∙◌, ◌≡◌, ap, refl, sym}
use native.Mathlib.Nat.{le_refl}
use native.Mathlib.Omega.{arith}
use lib.Dec.{eqb, leb}
use lib.ListN.{drop}
use lib.Seq.{drop-drop}
use borrow.Author.Tests.{eq-eqb, eqb-false, eqb-true, le-leb, leb-true, ne_eqb}
use Rattle.parts.specs.Join.{at_its_end, ended_with, gone_on, is_counted, is_final, is_used, join, joined_with, most_count, first_part, parts_in}
use Rattle.parts.specs.declared.Joined.{Joined}
use Rattle.parts.specs.declared.Part.{Part}
use Rattle.table.proofs.Laws.{and_both}
use Rattle.table.specs.Outcome.{most_input}

pub record Counted (j : Joined) (p : Part) : Type 0 where
  pub place : j.place + p.place ≤ most_count
  pub rows : j.rows + p.rows ≤ most_count
  pub row : j.rows + p.row ≤ most_count
  pub parts : j.parts + 1 ≤ most_count

pub record Used (room : ℕ) (j : Joined) (p : Part) : Type 0 where
  pub goes_on : j.ended ≡ 0
  pub begins : p.start ≡ j.place
  pub sized : p.length ≤ most_input
  pub fits : j.bytes + p.bytes ≤ room
  pub counted : is_counted j p ≡ true

full-no-end : (n : ℕ) → n ≡ 17 → at_its_end n ≡ false
unfolding at_its_end
full-no-end n e = rw e

module _ (j : Joined) (p : Part) where
  pub is-counted : is_counted j p ≡ true → Counted j p
  unfolding is_counted
  is-counted e =
      let a = and_both (leb (j.place + p.place) most_count) _ e in
      let b = and_both (leb (j.rows + p.rows) most_count) _ a.1 in
      let c = and_both (leb (j.rows + p.row) most_count) _ b.1 in
      record { place = leb-true _ _ a.0; rows = leb-true _ _ b.0; row = leb-true _ _ c.0; parts = leb-true _ _ c.1 }

  pub all-counted : Counted j p → is_counted j p ≡ true
  unfolding is_counted
  all-counted c = rw (
    le-leb (j.place + p.place) most_count c.place,
    le-leb (j.rows + p.rows) most_count c.rows,
    le-leb (j.rows + p.row) most_count c.row,
  ) (le-leb (j.parts + 1) most_count c.parts)

  module _ (room : ℕ) where
    pub is-used : is_used room j p ≡ true → Used room j p
    unfolding is_used
    is-used e =
        let a = and_both (eqb j.ended 0) _ e in
        let b = and_both (eqb p.start j.place) _ a.1 in
        let c = and_both (leb p.length most_input) _ b.1 in
        let d = and_both (leb (j.bytes + p.bytes) room) _ c.1 in
        record { goes_on = eqb-true _ _ a.0; begins = eqb-true _ _ b.0; sized = leb-true _ _ c.0; fits = leb-true _ _ d.0; counted = d.1 }

    module _ (length : ℕ) where
      pub full-final : p.number ≡ 17 → is_final length room j p ≡ leb room (j.bytes + p.room)
      unfolding is_final
      full-final e = rw e

      pub end-final : at_its_end p.number ≡ true → is_final length room j p ≡ eqb (p.start + p.length) length
      unfolding is_final
      end-final e = rw (ne_eqb p.number 17 (λ z. false≢true (sym (full-no-end p.number z) ∙ e)), e)

      pub other-final : (p.number ≡ 17 → ⊥) → at_its_end p.number ≡ false → is_final length room j p ≡ true
      unfolding is_final
      other-final h e = rw (ne_eqb p.number 17 h, e)

      -- a part that ends with the whole and had all the room that is left
      pub last-final : p.start + p.length ≡ length → room ≤ j.bytes + p.room → is_final length room j p ≡ true
      last-final e h = go (eqb p.number 17) refl (at_its_end p.number) refl
        where
          go : (a : Bool) → eqb p.number 17 ≡ a → (b : Bool) → at_its_end p.number ≡ b → is_final length room j p ≡ true
          go true f b g = full-final (eqb-true p.number 17 f) ∙ le-leb room (j.bytes + p.room) h
          go false f true g = end-final g ∙ eq-eqb (p.start + p.length) length e
          go false f false g = other-final (eqb-false p.number 17 f) g

      pub one-part-more : (joined_with length room j p).parts ≡ j.parts + 1
      unfolding joined_with ended_with gone_on
      one-part-more = go (is_final length room j p)
        where
          go : (b : Bool) → (cond b (ended_with j p) (gone_on j p)).parts ≡ j.parts + 1
          go true = refl
          go false = refl

      pub joined-final : is_final length room j p ≡ true → joined_with length room j p ≡ ended_with j p
      unfolding joined_with
      joined-final e = rw e

      pub joined-not-final : is_final length room j p ≡ false → joined_with length room j p ≡ gone_on j p
      unfolding joined_with
      joined-not-final e = rw e

    pub all-used : Used room j p → is_used room j p ≡ true
    unfolding is_used
    all-used u = rw (
      eq-eqb j.ended 0 u.goes_on,
      eq-eqb p.start j.place u.begins,
      le-leb p.length most_input u.sized,
      le-leb (j.bytes + p.bytes) room u.fits,
    ) u.counted

    pub ended-unused : j.ended ≡ 1 → is_used room j p ≡ false
    unfolding is_used
    ended-unused e = rw e

pub no_end : (n : ℕ) → (n ≡ 0 → ⊥) → (n ≡ 8 → ⊥) → (n ≡ 10 → ⊥) → at_its_end n ≡ false
unfolding at_its_end
no_end n a b c = rw (ne_eqb n 0 a, ne_eqb n 8 b, ne_eqb n 10 c)

module _ (length room : ℕ) (j : Joined) (p : Part) (ps : List Part) where
  pub join-used : is_used room j p ≡ true → join length room j (p ∷ ps) ≡ join length room (joined_with length room j p) ps
  unfolding join
  join-used e = rw e

  pub join-unused : is_used room j p ≡ false → join length room j (p ∷ ps) ≡ j
  unfolding join
  join-unused e = rw e

-- ---- parts as numbers

-- the parts from the i-th on are that one and those behind it
pub parts_next : (count i : ℕ) (s : List ℕ) → i < count
    → parts_in (count - i) (drop (i * 9) s) ≡ first_part (drop (i * 9) s) ∷ parts_in (count - (i + 1)) (drop ((i + 1) * 9) s)
unfolding parts_in
parts_next count i s h =
    let left : count - i ≡ suc (count - (i + 1)) = omega (arith, h) in
    let next : i * 9 + 9 ≡ (i + 1) * 9 = omega arith in
    let behind : drop 9 (drop (i * 9) s) ≡ drop ((i + 1) * 9) s = drop-drop 9 (i * 9) s ∙ ap (λ (n : ℕ). drop n s) next in
    rw (left, behind)

pub parts_first : (count : ℕ) (s : List ℕ) → parts_in count s ≡ parts_in (count - 0) (drop (0 * 9) s)
parts_first count s = let all : count - 0 ≡ count = omega arith in rw all refl

pub parts-end : (count i : ℕ) (s : List ℕ) → count ≤ i → parts_in (count - i) s ≡ []
unfolding parts_in
parts-end count i s h = let none : count - i ≡ 0 = omega (arith, h) in rw none

pub join-none : (length room : ℕ) (j : Joined) → join length room j [] ≡ j
unfolding join
join-none length room j = refl

-- all parts are those joined so far and then those from the i-th on: with that one more, or no further
module _ (length room : ℕ) (first j : Joined) (count i : ℕ) (s : List ℕ)
    (so_far : join length room first (parts_in count s) ≡ join length room j (parts_in (count - i) (drop (i * 9) s))) where
  pub joined-all : count ≤ i → join length room first (parts_in count s) ≡ j
  joined-all h = so_far ∙ ap (join length room j) (parts-end count i (drop (i * 9) s) h) ∙ join-none length room j

  module _ (inside : i < count) (p : Part) (it : p ≡ first_part (drop (i * 9) s)) where
    next : join length room first (parts_in count s) ≡ join length room j (p ∷ parts_in (count - (i + 1)) (drop ((i + 1) * 9) s))
    next = so_far ∙ ap (join length room j) (parts_next count i s inside ∙ ap (λ (q : Part). q ∷ parts_in (count - (i + 1)) (drop ((i + 1) * 9) s)) (sym it))

    pub joined-no-further : is_used room j p ≡ false → join length room first (parts_in count s) ≡ j
    joined-no-further e = next ∙ join-unused length room j p _ e

    pub joined-one-more : is_used room j p ≡ true → (k : Joined) → k ≡ joined_with length room j p
        → join length room first (parts_in count s) ≡ join length room k (parts_in (count - (i + 1)) (drop ((i + 1) * 9) s))
    joined-one-more e k h =
        next ∙ join-used length room j p _ e ∙ ap (λ (x : Joined). join length room x (parts_in (count - (i + 1)) (drop ((i + 1) * 9) s))) (sym h)

-- nothing is joined behind the end
pub join-ended : (length room : ℕ) (j : Joined) (ps : List Part) → j.ended ≡ 1 → join length room j ps ≡ j
join-ended length room j [] e = join-none length room j
join-ended length room j (p ∷ ps) e = join-unused length room j p ps (ended-unused j p room e)

-- parts are never fewer
pub parts_more : (length room : ℕ) (j : Joined) (ps : List Part) → j.parts ≤ (join length room j ps).parts
unfolding join
parts_more length room j [] = le_refl j.parts
parts_more length room j (p ∷ ps) = go (is_used room j p) (parts_more length room (joined_with length room j p) ps)
  where
    go : (b : Bool) → (joined_with length room j p).parts ≤ (join length room (joined_with length room j p) ps).parts
        → j.parts ≤ (cond b (join length room (joined_with length room j p) ps) j).parts
    go true ih = omega (arith, ih, one-part-more j p room length)
    go false ih = le_refl j.parts
