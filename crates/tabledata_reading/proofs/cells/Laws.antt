-- What a cell's elements come to in a column.
use Prim.Native.Nat.{◌≤◌, ℕ}
use native.Mathlib.Nat.{le_refl}
use native.Mathlib.Omega.{arith}
use mathlib.Core.Bool.{Bool, ◌&&◌, cond, false, true}
use mathlib.Core.List.{List, [], ◌∷◌}
use mathlib.Core.Path.{◌∙◌, ◌≡◌, ap, refl, sym}
use lib.Dec.{leb}
use lib.IntN.{ℤ}
use lib.ListN.{drop, length, take}
use lib.Seq.{take_all}
use borrow.Author.Tests.{eq-eqb, le-leb, leb-true, ne_eqb}
use Rattle.table.proofs.Laws.{and_both, nil-not-null}
use Rattle.table.specs.Cell.{Cell, bound, empty_is_null, is_null_list, null, room_fits, room_in, show, shown, stands_for_null}
use Rattle.table.specs.Clauses.{Reads}
use Rattle.table.specs.Result.{Result, ◌>>=◌, bad, good}
use Rattle.table.specs.Shape.{Bits, Shape, Text, Truths, Whole, shape}
use Rattle.table.specs.declared.Column.{Column}
use Rattle.std.specs.Prelude.{Err, None, Ok, Option, Some}
use Rattle.table.specs.declared.Reason.{Reason}
use Rattle.tabledata.proofs.Laws.{nil-elements}
use Rattle.tabledata.specs.TableData.{characters, count_fits, plain, read_text, text_cell, text_elements}
use Rattle.tabledata_reading.specs.Cells.{CellShows, room_and, shown_in}
use Rattle.tabledata_reading.specs.Openings.{OpeningIs}
use Rattle.element_reading.specs.Elements.{Stored, TakesElements, elements_from, onward}
use Rattle.character_reading.specs.declared.characters.Source.TheVariants.{Markup}
use Rattle.tabledata_reading.specs.declared.openings.Opening.TheVariants.{Content, Empty}
use Rattle.element_reading.specs.declared.elements.Held.{Held}

-- a cell whose content begins at a place shows what its elements do
abbrev with_rest : {A : Type 0} → List ℕ → A → Result ℕ (A × List ℕ)
with_rest rest x = good (x, rest)

abbrev showing : Column → List ℤ × List ℕ → Result ℕ (Cell × List ℕ)
showing c r = shown_in c r.0 r.1

show-rest : (c : Column) (es : List ℤ) (rest : List ℕ) (b : Bool) → count_fits c (length es) ≡ b
    → (cond {A = Result ℕ Cell} (count_fits c (length es)) (good (empty_is_null (show c es))) (bad 12) >>= with_rest rest) ≡ shown_in c es rest
unfolding shown_in
show-rest c es rest true e = rw e
show-rest c es rest false e = rw e

show-bind : (c : Column) (q : Result ℕ (List ℤ)) (rest : List ℕ)
    → (q >>= (λ es. cond {A = Result ℕ Cell} (count_fits c (length es)) (good (empty_is_null (show c es))) (bad 12)) >>= with_rest rest) ≡ (q >>= with_rest rest >>= showing c)
show-bind c (good es) rest = show-rest c es rest (count_fits c (length es)) refl
show-bind c (bad n) rest = refl

text-go : (c : Column) (r : Result ℕ (List ℕ × List ℕ)) → (r >>= λ p. text_cell c p.0 >>= with_rest p.1) ≡ (onward (text_elements (shape c.kind)) r >>= showing c)
unfolding text_cell onward
text-go c (good p) = show-bind c (text_elements (shape c.kind) p.0) p.1
text-go c (bad n) = refl

pub room-few : (c : Column) (n : ℕ) → room_and c.kind c.len n ≡ true → n ≤ bound c.len
unfolding room_and
room-few c n e = leb-true n (bound c.len) (and_both (room_fits (shape c.kind) (room_in c.len n) n) (leb n (bound c.len)) e).1

module _ (c : Column) {es : List ℤ} {n : ℕ} {l : List ℤ} (rest : List ℕ) (p : Stored es n l) where
  pub shown-none : n ≡ 0 → shown_in c es rest ≡ good (null, rest)
  shown-none e = go es (omega (arith, p.all))
    where
      go : (es : List ℤ) → length es ≡ 0 → shown_in c es rest ≡ good (null, rest)
      go [] h = unfold shown_in count_fits show empty_is_null in rw nil-not-null
      go (x ∷ es) h = absurd (omega arith)

  counts : (n ≡ 0 → ⊥) → count_fits c (length es) ≡ room_and c.kind c.len n
  unfolding count_fits room_and
  counts h = rw (sym p.all, ne_eqb n 0 h)

  pub shown-not : (n ≡ 0 → ⊥) → room_and c.kind c.len n ≡ false → shown_in c es rest ≡ bad 12
  unfolding shown_in
  shown-not h e = rw (counts h, e)

  module _ (h : n ≡ 0 → ⊥) (e : room_and c.kind c.len n ≡ true) where
    module _ (room : bound c.len ≤ length l) where
      -- the elements stand in the scratch
      held_all : take n l ≡ es
      held_all = p.first ∙ take_all (length l) es (omega (arith, p.all, room-few c n e))

      pub shown-null : is_null_list (stands_for_null c) (take n l) ≡ true → shown_in c es rest ≡ good (null, rest)
      unfolding shown_in show empty_is_null
      shown-null q = rw (counts h, e, sym held_all, q)

      pub shown-some : is_null_list (stands_for_null c) (take n l) ≡ false → shown_in c es rest ≡ good (shown (take n l), rest)
      unfolding shown_in show
      shown-some q = rw (counts h, e, sym held_all, q) (ap (λ (x : Cell). good (x, rest)) (some-shown (take n l) (omega (arith, p.all, ap length held_all))))
        where
          some-shown : (xs : List ℤ) → 1 ≤ length xs → empty_is_null (shown xs) ≡ shown xs
          some-shown [] k = absurd (omega arith)
          some-shown (x ∷ xs) k = unfold empty_is_null in refl

-- elements that have their own room fill it
pub room-own : (k : Shape) (m n : ℕ) → (room_fits k m m && leb m n) ≡ leb m n
unfolding room_fits
room-own Truths m n = rw (eq-eqb m m refl)
room-own Bits m n = rw (eq-eqb m m refl)
room-own (Whole g v) m n = rw (eq-eqb m m refl)
room-own Text m n = rw (le-leb m m (le_refl m))

-- ---- a cell, by how it begins and what its elements come to

module _ (c : Column) {s : List ℕ} {place : ℕ} {entry : List ℤ} where
  pub text-broken : OpeningIs s place None → Reads (read_text c (drop place s)) s place entry entry (Err Reason.Markup)
  unfolding read_text
  text-broken o = record { found = rw o.found; within = tt; long = refl }

  pub text-empty : {next : ℕ} → OpeningIs s place (Some (Empty next)) → Reads (read_text c (drop place s)) s place entry entry (Ok (record { shown = None; next = next }))
  unfolding read_text text_cell count_fits show empty_is_null
  text-empty o = record { found = rw (o.found, nil-elements, nil-not-null); within = (o.within.0, o.within.1, tt); long = refl }

module _ (c : Column) {s : List ℕ} {place from : ℕ} (o : OpeningIs s place (Some (Content from))) where
  text-content : {r : Result ℕ (List ℤ × List ℕ)} → elements_from Markup (shape c.kind) (drop from s) ≡ r → read_text c (drop place s) ≡ (r >>= showing c)
  unfolding read_text elements_from
  text-content e = rw o.found (text-go c (characters plain (drop from s)) ∙ ap (λ (r : Result ℕ (List ℤ × List ℕ)). r >>= showing c) e)

  pub text-refused : {e : Reason} {entry exit : List ℤ} → TakesElements (elements_from Markup (shape c.kind) (drop from s)) s from entry exit (Err e)
      → Reads (read_text c (drop place s)) s place entry exit (Err e)
  text-refused t = record { found = text-content t.found; within = tt; long = t.long }

  module _ {held : Held} {entry exit : List ℤ} (t : TakesElements (elements_from Markup (shape c.kind) (drop from s)) s from entry exit (Ok held)) where
    pub text-shows : {r : Option ℕ} → CellShows c held.count exit (Ok r) → Reads (read_text c (drop place s)) s place entry exit (Ok (record { shown = r; next = held.next }))
    text-shows f = record {
      found = text-content t.found.1 ∙ f.found (drop held.next s) t.found.0 t.found.2;
      within = (omega (arith, o.within.0, t.found.3), t.found.4, f.few);
      long = t.long;
    }

    pub text-shows-none : {e : Reason} → CellShows c held.count exit (Err e) → Reads (read_text c (drop place s)) s place entry exit (Err e)
    text-shows-none f = record { found = text-content t.found.1 ∙ f.found (drop held.next s) t.found.0 t.found.2; within = tt; long = t.long }
