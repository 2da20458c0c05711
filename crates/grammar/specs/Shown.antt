-- What the elements that stand in a cell show: "A cell shows null or a list of elements."
use Rattle.std.specs.Prelude.{Bool, List, [], ◌∷◌, ◌≡◌, pos, ℤ, Some}
use Rattle.table.specs.Cell.{Cell, null, shown}
use Rattle.table.specs.Shape.{Truths, Whole, Width, shape}
use Rattle.table.specs.declared.Column.{Column}
use Rattle.table.specs.declared.Len.TheVariants.{Fixed}

-- the element of a column that stands for null
pub data StandsForNull (c : Column) : ℤ → Type 0 where
  -- "A scalar integer equal to its declared null is null in all three kinds of rows. In arrays such an element stays a number."
  null-declared : {g : Bool} {v : Width} {z : ℤ} → c.len ≡ Fixed 1 → shape c.kind ≡ Whole g v → c.null ≡ Some z → StandsForNull c z
  -- "A scalar boolean that is unknown is null. In arrays it is an unknown element."
  null-unknown : c.len ≡ Fixed 1 → shape c.kind ≡ Truths → StandsForNull c (pos 2)

-- what a list of elements shows
pub data Shows (c : Column) : List ℤ → Cell → Type 0 where
  -- "is null in all three kinds of rows"
  shows-null : {z : ℤ} → StandsForNull c z → Shows c (z ∷ []) null
  -- any other list: "A cell shows null or a list of elements."
  shows-list : {es : List ℤ} → ((z : ℤ) → es ≡ z ∷ [] → StandsForNull c z → ⊥) → Shows c es (shown es)
