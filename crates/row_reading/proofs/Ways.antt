-- What each kind of rows does at the ends of a row, plugged together from what its own functions promise.
use Prim.Native.Nat.{◌<◌, ◌^◌, ◌≤◌, suc, zero, ℕ}
use native.Mathlib.Nat.{le_refl}
use native.Mathlib.Omega.{arith}
use mathlib.Core.Bool.{Bool, false, true}
use mathlib.Core.List.{List, [], ◌∷◌, map}
use mathlib.Core.Path.{◌∙◌, ◌≡◌, ap, refl, subst}
use lib.Dec.{eqb, lit<}
use lib.ListN.{drop, get_or, length}
use borrow.Author.Tests.{eq-eqb, eqb-false, eqb-true, ne_eqb}
use Rattle.binary.specs.Binary.{read_flags}
use Rattle.flags.specs.Clauses.{ReadsFlags}
use Rattle.table.specs.declared.Reason.{Reason}
use Rattle.table.specs.declared.Reason.TheVariants.{Markup}
use Rattle.std.specs.Prelude.{Err, None, Ok, Option, Some, ok_or}
use Rattle.flags.specs.declared.Flags.{Flags}
use Rattle.number.proofs.Laws.{all-to, length_to}
use Rattle.number.specs.Number.{to_digits}
use Rattle.row_reading.specs.Clauses.{Begins, Closes, flags_in}
use Rattle.rows.specs.Stream.{flag, is_empty, is_set, read_end, read_start}
use Rattle.row_reading.specs.declared.Begin.{Begin}
use Rattle.table.specs.All.{All}
use Rattle.table.specs.Bytes.{skip_white, tag}
use Rattle.table.specs.Result.{Result, ◌>>=◌, good}
use Rattle.table.specs.declared.Rows.{Rows}
use Rattle.table.specs.declared.Rows.TheVariants.{Binary, Binary2, TableData}
use Rattle.text.specs.Clauses.{TagIs, TagWithin, tag_as}
use Rattle.tabledata.specs.TableData.{close-TR, open-TR}

-- ---- the end of the input

pub empty-drop : (s : List ℕ) (i : ℕ) → i ≤ length s → eqb i (length s) ≡ is_empty (drop i s)
unfolding is_empty
empty-drop [] zero h = refl
empty-drop [] (suc i) h = absurd (omega arith)
empty-drop (b ∷ s) zero h = ne_eqb 0 (suc (length s)) (λ e. omega arith)
empty-drop (b ∷ s) (suc i) h = suc-eqb i (length s) ∙ empty-drop s i (omega arith)
  where
    suc-eqb : (m n : ℕ) → eqb (suc m) (suc n) ≡ eqb m n
    suc-eqb m n = go (eqb m n) refl
      where
        go : (b : Bool) → eqb m n ≡ b → eqb (suc m) (suc n) ≡ b
        go true e = eq-eqb (suc m) (suc n) (ap suc (eqb-true m n e))
        go false e = ne_eqb (suc m) (suc n) (λ q. eqb-false m n e (omega arith))

-- ---- the end of a row

pub closed-text : (s : List ℕ) (place : ℕ) (r : Option ℕ) → TagIs (λ n. tag n close-TR (skip_white (drop place s))) s place r → Closes TableData s place (ok_or r Markup)
unfolding read_end
closed-text s place None t = record { closed = t.found 10; within = tt }
closed-text s place (Some next) t = record { closed = t.found 10; within = t.within }

pub closed-here : (from : Rows) (s : List ℕ) (place : ℕ) → read_end from (drop place s) ≡ good (drop place s) → place ≤ length s → Closes from s place (Ok place)
closed-here from s place e h = record { closed = e; within = (le_refl place, h) }

-- ---- the start of a row

module _ (s : List ℕ) (place : ℕ) (count : ℕ) (r : Option ℕ) (t : TagIs (λ n. tag n open-TR (skip_white (drop place s))) s place r) where
  pub begun-text : (next : ℕ) → r ≡ Some next → Begins TableData count s place (Ok (record { flags = 0; cells = next }))
  unfolding read_start flags_in
  begun-text next e = record { begun = rw (t.found 10 ∙ ap (tag_as 10 s) e); within = subst (TagWithin s place) e t.within }

  pub unbegun-text : r ≡ None → Begins TableData count s place (Err Markup)
  unfolding read_start
  unbegun-text e = record { begun = rw (t.found 10 ∙ ap (tag_as 10 s) e); within = tt }

pub begun-binary : (s : List ℕ) (place count : ℕ) → place ≤ length s → Begins Binary count s place (Ok (record { flags = 0; cells = place }))
unfolding read_start flags_in
begun-binary s place count h = record { begun = refl; within = (le_refl place, h) }

-- ---- the flags of a row

flag-digit : (b : ℕ) → b < 2 → eqb b 1 ≡ is_set b
unfolding is_set
flag-digit zero h = refl
flag-digit (suc zero) h = refl
flag-digit (suc (suc b)) h = absurd (omega arith)

flag-map : (ds : List ℕ) (k : ℕ) → k < length ds → All (λ (d : ℕ). d < 2) ds → eqb (get_or ds k 0) 1 ≡ flag (drop k (map is_set ds))
unfolding flag
flag-map [] k h a = absurd (omega arith)
flag-map (d ∷ ds) zero h a = flag-digit d a.0
flag-map (d ∷ ds) (suc k) h a = flag-map ds k (omega arith) a.1

pub flag-binary2 : (count word k : ℕ) → k < count → eqb (get_or (to_digits 2 count word) k 0) 1 ≡ flag (drop k (flags_in Binary2 count word))
unfolding flags_in
flag-binary2 count word k h = flag-map (to_digits 2 count word) k (omega (arith, length_to 2 count word)) (all-to 2 (lit< tt) count word)

pub no_flag : (k : ℕ) → false ≡ flag (drop k [])
unfolding flag
no_flag zero = refl
no_flag (suc k) = refl

-- the digits that were read, as flags
abbrev as_flags : Result ℕ (List ℕ × List ℕ) → Result ℕ (List Bool × List ℕ)
as_flags r = r >>= λ p. good (map is_set p.0, p.1)

module _ (s : List ℕ) (place count : ℕ) where
  pub begun-binary2 : (f : Flags) → ReadsFlags (read_flags count (drop place s)) s place count (Ok f)
      → Begins Binary2 count s place (Ok (record { flags = f.word; cells = f.next }))
  unfolding flags_in read_start
  begun-binary2 f h = record { begun = ap as_flags h.found; within = (h.within.0, h.within.1) }

  pub unbegun-binary2 : (e : Reason) → ReadsFlags (read_flags count (drop place s)) s place count (Err e) → Begins Binary2 count s place (Err e)
  unfolding read_start
  unbegun-binary2 e h = record { begun = ap as_flags h.found; within = tt }
