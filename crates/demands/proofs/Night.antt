-- The sample night, computed: what it declares, its two rows, and that its forms are bytes.
use Rattle.std.specs.Prelude.{None, Some}
use Prim.Native.Nat.{ℕ}
use mathlib.Core.Bool.{Bool, ◌&&◌, true}
use mathlib.Core.List.{List, [], ◌∷◌, map}
use mathlib.Core.Path.{◌≡◌, refl}
use lib.Dec.{ltb}
use lib.IntN.{negsuc, pos}
use lib.ListN.{replicate}
use borrow.Author.Tests.{ltb-true}
use Rattle.demands.proofs.Everything.{everything}
use Rattle.demands.specs.Cases.{night_declared}
use Rattle.fields.specs.Fields.{declare}
use Rattle.table.proofs.Laws.{and_both}
use Rattle.table.specs.All.{AreBytes}
use Rattle.table.specs.Bytes.{bytes}
use Rattle.table.specs.Cell.{Cell, column_of, null, shown}
use Rattle.table.specs.Result.{good}
use Rattle.table.specs.declared.Column.{Column}
use Rattle.table.specs.declared.Kind.{Kind}
use Rattle.table.specs.declared.Kind.TheVariants.{Boolean, Short}
use Rattle.table.specs.declared.Len.TheVariants.{Fixed}

abbrev pub night_decls : List ℕ
night_decls = bytes night_declared

abbrev pub night_columns : List Column
night_columns =
    column_of Short (Fixed 1) (Some (negsuc 98)) ∷ column_of Kind.Char (Fixed 4) None ∷ column_of Boolean (Fixed 1) None ∷ []

abbrev pub first_row : List Cell
first_row = shown (pos 7 ∷ []) ∷ shown (map pos (bytes "a&b")) ∷ shown (pos 1 ∷ []) ∷ []

abbrev pub second_row : List Cell
second_row = null ∷ shown (map pos (bytes "dusk")) ∷ null ∷ []

abbrev pub room : List ℕ
room = replicate 100 7

pub night-declared : declare night_decls ≡ good night_columns
unfolding everything
night-declared = refl

-- bytes, tested one by one
abbrev pub are_small : List ℕ → Bool
are_small [] = true
are_small (b ∷ s) = ltb b 256 && are_small s

pub small_bytes : (s : List ℕ) → are_small s ≡ true → AreBytes s
small_bytes [] h = tt
small_bytes (b ∷ s) h = let k = and_both (ltb b 256) (are_small s) h in (ltb-true b 256 k.0, small_bytes s k.1)
