-- `integers::read_integer` meets its contract: in each arm the kind is known, so its width and its sign are.
use Prim.Native.Nat.{ℕ}
use mathlib.Core.List.{List}
use mathlib.Core.Bool.{true}
use mathlib.Core.Path.{◌∙◌, ap, refl, sym}
use lib.IntN.{pos, ℤ}
use lib.ListN.{drop, take}
use mir.Facts.{to_z-of_z, to_z_pos}
use mir.Syntax.{w16, w32, w64}
use Rattle.integers.proofs.Places.{of_one}
use Rattle.number.specs.declared.Integer.{Integer}
use Rattle.number.specs.Clauses.{is_signed, size}
use Rattle.number.specs.Number.{of_digits, of_pattern}
use Rattle.number.proofs.Signed.{signed_is, widened}
use native.Mathlib.Omega.{arith}
use Rattle.integers.proofs.read_integer.Goals as goal

-- the integer of a kind at a place, so that an arm may be said of its own kind
abbrev read : List ℕ → ℕ → Integer → ℤ
read s at kind = of_pattern (is_signed kind) (size kind) (of_digits 256 0 (take (size kind) (drop at s)))

pub returns-in-UnsignedByte : goal.returns-in-UnsignedByte
unfolding of_pattern
returns-in-UnsignedByte c =
    let a = c.args in
    to_z_pos w64 (omega arith) ∙ ap pos (sym (of_one 256 a.at a.s.now (omega (arith, ap size c.in-UnsignedByte.is)))) ∙ sym (ap (read a.s.now a.at) c.in-UnsignedByte.is)

pub returns-in-Short : goal.returns-in-Short
returns-in-Short c =
    let a = c.args in
    widened w16 c.cast_signed.result tt (record { sfits = c.cast_signed.type_inv }) ∙ c.cast_signed.ensures ∙ signed_is w16 2 refl c.two_bytes.result
    ∙ ap (of_pattern true 2) c.two_bytes.ensures ∙ sym (ap (read a.s.now a.at) c.in-Short.is)

pub returns-in-Int : goal.returns-in-Int
returns-in-Int c =
    let a = c.args in
    widened w32 c.cast_signed-in-Int.result tt (record { sfits = c.cast_signed-in-Int.type_inv }) ∙ c.cast_signed-in-Int.ensures ∙ signed_is w32 4 refl c.four_bytes.result
    ∙ ap (of_pattern true 4) c.four_bytes.ensures ∙ sym (ap (read a.s.now a.at) c.in-Int.is)

pub returns-in-Long : goal.returns-in-Long
returns-in-Long c =
    let a = c.args in
    to_z-of_z {w = w64} (record { sfits = c.cast_signed-in-Long.type_inv }) ∙ c.cast_signed-in-Long.ensures ∙ signed_is w64 8 refl c.eight_by_sums.result
    ∙ ap (of_pattern true 8) c.eight_by_sums.ensures ∙ sym (ap (read a.s.now a.at) c.in-Long.is)
