-- The kinds of integers by their sign and width, and the kinds by what their elements are.
use Rattle.std.specs.Prelude.{suc, ℕ, Bool, false, true}
use Rattle.number.specs.declared.Integer.{Integer}
use Rattle.number.specs.declared.Integer.TheVariants.{Int, Long, Short, UnsignedByte}
use Rattle.number.specs.declared.Elements.{Elements}
use Rattle.table.specs.Shape.{Bits, Shape, Text, Truths, W1, W2, W4, W8, Whole, Width, last}

-- ---- "two's complement for the signed: 1, 2, 4, 8 bytes"

abbrev pub is_signed : Integer → Bool
is_signed UnsignedByte = false
is_signed Short = true
is_signed Int = true
is_signed Long = true

abbrev pub width_of : Integer → Width
width_of UnsignedByte = W1
width_of Short = W2
width_of Int = W4
width_of Long = W8

-- its bytes
abbrev pub size : Integer → ℕ
size kind = suc (last (width_of kind))

-- ---- "Carried datatypes: boolean, bit, unsignedByte, short, int, long, char."

abbrev pub shape_as : Elements → Shape
shape_as Elements.Truths = Truths
shape_as Elements.Bits = Bits
shape_as Elements.Text = Text
shape_as (Elements.Whole kind) = Whole (is_signed kind) (width_of kind)
