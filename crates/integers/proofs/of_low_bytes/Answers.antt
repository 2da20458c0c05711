-- `integers::of_low_bytes` meets its contract: in each arm the kind is known, so its width and its sign are.
use Prim.Native.Nat.{◌%◌, ◌^◌, ℕ}
use native.Mathlib.Nat.{mod-eq_of_lt}
use mathlib.Core.Bool.{true}
use mathlib.Core.Path.{◌∙◌, ap, refl, sym}
use lib.IntN.{ℤ}
use mir.Facts.{to_z-of_z, to_z_pos}
use mir.Syntax.{w16, w32, w64}
use Rattle.number.specs.Clauses.{is_signed, size}
use Rattle.number.specs.Number.{of_pattern}
use Rattle.number.specs.declared.Integer.{Integer}
use Rattle.number.proofs.Signed.{signed_is, widened}
use native.Mathlib.Omega.{arith}
use Rattle.integers.proofs.of_low_bytes.Goals as goal

-- what the low bytes of a number stand for at a kind
abbrev low : ℕ → Integer → ℤ
low x kind = of_pattern (is_signed kind) (size kind) (x % 256 ^ size kind)

pub returns-in-UnsignedByte : goal.returns-in-UnsignedByte
unfolding of_pattern
returns-in-UnsignedByte c = to_z_pos w64 (omega arith) ∙ sym (ap (low c.args.x) c.in-UnsignedByte.is)

pub returns-in-Short : goal.returns-in-Short
returns-in-Short c =
    widened w16 c.cast_signed.result tt (record { sfits = c.cast_signed.type_inv }) ∙ c.cast_signed.ensures ∙ signed_is w16 2 refl (c.args.x % 65536)
    ∙ sym (ap (low c.args.x) c.in-Short.is)

pub returns-in-Int : goal.returns-in-Int
returns-in-Int c =
    widened w32 c.cast_signed-in-Int.result tt (record { sfits = c.cast_signed-in-Int.type_inv }) ∙ c.cast_signed-in-Int.ensures ∙ signed_is w32 4 refl (c.args.x % 4294967296)
    ∙ sym (ap (low c.args.x) c.in-Int.is)

pub returns-in-Long : goal.returns-in-Long
returns-in-Long c =
    to_z-of_z {w = w64} (record { sfits = c.cast_signed-in-Long.type_inv }) ∙ c.cast_signed-in-Long.ensures ∙ signed_is w64 8 refl c.args.x
    ∙ ap (of_pattern true 8) (sym (mod-eq_of_lt c.ranges.x.fits))
    ∙ sym (ap (low c.args.x) c.in-Long.is)
