-- The names of the kinds, tried in order: those that were not met play no part.
use Prim.Native.Nat.{◌+◌, ◌<◌, ◌≤◌, ℕ}
use Rattle.fields.specs.Fields.{kind_of, kinds}
use Rattle.table.proofs.Places.{done, element-at}
use Rattle.table.specs.Bytes.{same}
use Rattle.table.specs.Result.{bad, good}
use Rattle.table.specs.declared.Kind.{Kind}
use denote.Bor.{Bor}
use lib.ListN.{drop, get_or, length}
use mathlib.Core.Bool.{Bool, false, true}
use mathlib.Core.List.{List, ◌∷◌, map}
use mathlib.Core.Path.{◌∙◌, ◌≡◌, ap, sym}

-- a name as the code holds it, and its kind
abbrev pub Item : Type 0
Item = Bor (List ℕ) × Kind

abbrev pub name_of : Item → List ℕ × Kind
name_of p = (p.0.now, p.1)

-- the names from the i-th on are still to be tried
pub record Tried (t : List ℕ) (items : List Item) (i : ℕ) : Type 0 where
  pub left : kind_of kinds t ≡ kind_of (map name_of (drop i items)) t

next-name : (items : List Item) (i : ℕ) (d : Item) → i < length items → map name_of (drop i items) ≡ name_of (get_or items i d) ∷ map name_of (drop (i + 1) items)
next-name items i d h = ap (map name_of) (element-at items i d h)

module _ {t : List ℕ} {items : List Item} {i : ℕ} (tried : Tried t items i) where
  module _ (d : Item) (h : i < length items) (is : Bool) (e : is ≡ same (get_or items i d).0.now t) where
    pub met : is ≡ true → kind_of kinds t ≡ good (get_or items i d).1
    unfolding kind_of
    met q = tried.left ∙ rw (next-name items i d h) (rw (sym e ∙ q))

    pub not-met : is ≡ false → Tried t items (i + 1)
    unfolding kind_of
    not-met q = record { left = tried.left ∙ rw (next-name items i d h) (rw (sym e ∙ q)) }

  pub none-met : length items ≤ i → kind_of kinds t ≡ bad 2
  unfolding kind_of
  none-met h = tried.left ∙ rw (done items i h)
