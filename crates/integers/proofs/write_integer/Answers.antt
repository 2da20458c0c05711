-- `integers::write_integer` meets its contract: in each arm the kind is known, so its width is; of the pattern only the low digits count.
use mathlib.Core.List.{List}
use mathlib.Core.Path.{◌∙◌, ◌≡◌, ap, sym}
use Prim.Native.Nat.{◌%◌, ℕ}
use lib.Dec.{lit<}
use lib.IntN.{ℤ}
use mir.Facts.{to_z-of_z}
use mir.Syntax.{w64}
use mir.Val.{SFits, of_z, to_z}
use Rattle.integers.proofs.Places.{store-one}
use Rattle.number.proofs.Laws.{digits_low}
use Rattle.number.proofs.Signed.{bits_are}
use Rattle.number.specs.declared.Integer.{Integer}
use Rattle.number.specs.Clauses.{size}
use Rattle.number.specs.Number.{pattern, to_digits}
use Rattle.table.proofs.Wrote.{wrote_as}
use Rattle.integers.proofs.write_integer.Goals as goal

-- the pattern of the integer
whole : (z : ℤ) (x : ℕ) → SFits w64 z → x ≡ of_z w64 (to_z w64 (of_z w64 z)) → x ≡ pattern 8 z
whole z x f e = e ∙ ap (of_z w64) (to_z-of_z f) ∙ bits_are z f

abbrev written : ℤ → Integer → List ℕ
written z kind = to_digits 256 (size kind) (pattern 8 z)

pub returns-in-UnsignedByte : goal.returns-in-UnsignedByte
returns-in-UnsignedByte c =
    let z = c.args.z in
    let x = whole z _ c.ranges.z c.cast_unsigned-x.ensures in
    wrote_as (sym (ap (written z) c.in-UnsignedByte.is)) (store-one c.args.out.now c.args.at (pattern 8 z) _ (ap (λ (n : ℕ). n % 256) x))

pub returns-in-Short : goal.returns-in-Short
returns-in-Short c =
    let z = c.args.z in
    let x = whole z _ c.ranges.z c.cast_unsigned-x.ensures in
    wrote_as (digits_low 256 (lit< tt) 2 c.cast_unsigned-x.result ∙ ap (to_digits 256 2) x ∙ sym (ap (written z) c.in-Short.is)) c.store_two.ensures

pub returns-in-Int : goal.returns-in-Int
returns-in-Int c =
    let z = c.args.z in
    let x = whole z _ c.ranges.z c.cast_unsigned-x.ensures in
    wrote_as (digits_low 256 (lit< tt) 4 c.cast_unsigned-x.result ∙ ap (to_digits 256 4) x ∙ sym (ap (written z) c.in-Int.is)) c.store_four.ensures

pub returns-in-Long : goal.returns-in-Long
returns-in-Long c =
    let z = c.args.z in
    let x = whole z _ c.ranges.z c.cast_unsigned-x.ensures in
    wrote_as (ap (to_digits 256 8) x ∙ sym (ap (written z) c.in-Long.is)) c.store_eight.ensures
