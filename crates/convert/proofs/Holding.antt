-- The scratch that holds the cells of a row: a cell that was read behind its place, with its count put at that place, stands behind those before
-- it. Cited by measure.
use Prim.Native.Nat.{◌+◌, ◌-◌, ◌<◌, ◌≤◌, suc, zero, ℕ}
use native.Mathlib.Omega.{arith}
use mathlib.Core.Bool.{Bool, false, false≢true, not, true}
use mathlib.Core.List.{List, ◌++◌, ◌∷◌, [], append-nil}
use mathlib.Core.Path.{◌∙◌, ◌≡◌, ap, ap₂, refl, subst, sym}
use lib.Dec.{ltb}
use lib.IntN.{ℤ}
use lib.ListN.{drop, length, length-drop, length-set, set, take}
use lib.Seq.{drop-length, length-take-le, take-length}
use borrow.Rule.Slice.PartMut.{mid_of, Post-is, put_mid, same_len_mid}
use Rattle.convert.specs.Clauses.{HoldsAs, held_count, held_with, place_for}
use Rattle.row_writing.specs.Clauses.{FewIn, held_cell}
use Rattle.table.specs.Clauses.{ShownUpTo, ShownWithin, shown_as}
use Rattle.table.specs.declared.Column.{Column}
use Rattle.std.specs.Prelude.{None, Option, Some, cond, is_none, is_some, pos, unwrap_or}
use Rattle.table.specs.Cell.{Cell, bound, is_null, most_elements}

-- ---- a cell that was read into the scratch behind a place, with its count put at that place

put-held : (place n : ℕ) (l m : List ℤ) (z : ℤ) → place < length l → take (place + 1 + n) (set (take (place + 1) l ++ m) place z) ≡ take place l ++ (z ∷ take n m)
put-held place n [] m z h = absurd (omega arith)
put-held zero n (x ∷ l) m z h = let e : 0 + 1 + n ≡ suc n = omega arith in rw e
put-held (suc place) n (x ∷ l) m z h =
    let e : suc place + 1 + n ≡ suc (place + 1 + n) = omega arith in
    let f : suc place + 1 ≡ suc (place + 1) = omega arith in
    rw (e, f) (ap (λ (k : List ℤ). x ∷ k) (put-held place n l m z (omega arith)))

drop-held : (place : ℕ) (l m : List ℤ) (z : ℤ) → place < length l → drop (place + 1) (set (take (place + 1) l ++ m) place z) ≡ m
drop-held place [] m z h = absurd (omega arith)
drop-held zero (x ∷ l) m z h = refl
drop-held (suc place) (x ∷ l) m z h = let f : suc place + 1 ≡ suc (place + 1) = omega arith in rw f (drop-held place l m z (omega arith))

module _ (place : ℕ) (l m : List ℤ) (h : place < length l) (e : length m ≡ length (mid_of (place + 1) (length l - (place + 1)) l)) (z : ℤ) where
  -- the scratch, once what was read is back in it
  abbrev pub back : List ℤ
  back = set (put_mid (place + 1) (length l - (place + 1)) l m) place z

  back_is : back ≡ set (take (place + 1) l ++ m) place z
  back_is =
      ap (λ (k : List ℤ). set (take (place + 1) l ++ (m ++ k)) place z) (Post-is (place + 1) (length l) l (omega arith) ∙ drop-length l)
      ∙ ap (λ (k : List ℤ). set (take (place + 1) l ++ k) place z) (append-nil m)

  pub back_long : length back ≡ length l
  back_long = length-set (put_mid (place + 1) (length l - (place + 1)) l m) place z ∙ same_len_mid (place + 1) (length l - (place + 1)) l m e

  -- what the size is taken of
  pub back-part : take (length back - (place + 1)) (drop (place + 1) back) ≡ m
  back-part =
      let d : drop (place + 1) back ≡ m = ap (drop (place + 1)) back_is ∙ drop-held place l m z h in
      let n : length back - (place + 1) ≡ length m = sym (length-drop (place + 1) back) ∙ ap length d in
      ap₂ take n d ∙ take-length m

  -- the cell x stands behind the cells before it, where they are held
  pub keep : (n : ℕ) (x : Cell) → z ∷ take n m ≡ held_cell x → (held : Option ℕ) → place ≡ place_for held
      → (cells : List ℤ) → HoldsAs l cells held → HoldsAs back (cells ++ held_cell x) (held_with held n)
  keep n x e None p cells k = tt
  keep n x e (Some before) p cells k = go (ltb before most_elements) refl
    where
      go : (t : Bool) → ltb before most_elements ≡ t → HoldsAs back (cells ++ held_cell x) (cond t (Some (before + 1 + n)) None)
      go true q =
          let here : place ≡ before = p ∙ rw q in
          ap₂ take (ap (λ (i : ℕ). i + 1 + n) (sym here)) back_is ∙ put-held place n l m z h ∙ ap₂ (λ (i : ℕ) (y : List ℤ). take i l ++ y) here e
          ∙ ap (λ (c : List ℤ). c ++ held_cell x) k
      go false q = tt

-- what is held of a cell that was found
pub count-then : (m : List ℤ) (o : Option ℕ) → ShownWithin m o → held_count o ∷ take (unwrap_or o 0) m ≡ held_cell (shown_as m o)
unfolding held_cell
count-then m None h = refl
count-then m (Some k) h = ap (λ (i : ℕ). pos i ∷ take k m) (sym (length-take-le k m h))

pub null-is : (m : List ℤ) (o : Option ℕ) → is_none o ≡ is_null (shown_as m o)
unfolding is_null
null-is m None = refl
null-is m (Some k) = refl

pub few-in : (c : Column) (m : List ℤ) (o : Option ℕ) → ShownWithin m o → ShownUpTo (bound c.len) o → FewIn c (shown_as m o)
few-in c m None h k = tt
few-in c m (Some n) h k = omega (arith, length-take-le n m h)

-- what the library says of a value that is not there
pub told-none : (o : Option ℕ) (b : Bool) → is_some o ≡ not b → b ≡ is_none o
told-none None true e = refl
told-none None false e = absurd (false≢true e)
told-none (Some n) true e = absurd (false≢true (sym e))
told-none (Some n) false e = refl
