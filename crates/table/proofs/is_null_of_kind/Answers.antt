-- table::is_null_of_kind: in each arm the kind is known, and the definition asks what the arm asks.
use Rattle.table.specs.Cell.{is_declared, same_integer}
use lib.IntN.{pos}
use mathlib.Core.Path.{◌∙◌, ◌≡◌, ap}
use mir.Facts.{to_z-of_z}
use mir.Syntax.{w64}
use mir.Val.{of_z, to_z}
use Rattle.table.proofs.is_null_of_kind.Goals as goal

pub returns-in-Boolean : goal.returns-in-Boolean
returns-in-Boolean c =
    let whole : to_z w64 (of_z w64 c.args.element) ≡ c.args.element = to_z-of_z {w = w64} c.ranges.element in
    rw c.in-Boolean.is (c.same_integer.ensures ∙ ap (λ z. same_integer z (pos 2)) whole)

pub returns-in-UnsignedByte : goal.returns-in-UnsignedByte
returns-in-UnsignedByte c =
    let whole : to_z w64 (of_z w64 c.args.element) ≡ c.args.element = to_z-of_z {w = w64} c.ranges.element in
    let declared : is_declared c.args.null (to_z w64 (of_z w64 c.args.element)) ≡ is_declared c.args.null c.args.element = ap (is_declared c.args.null) whole in
    rw c.in-UnsignedByte.is (c.is_declared.ensures ∙ declared)

pub returns-in-Short : goal.returns-in-Short
returns-in-Short c =
    let whole : to_z w64 (of_z w64 c.args.element) ≡ c.args.element = to_z-of_z {w = w64} c.ranges.element in
    let declared : is_declared c.args.null (to_z w64 (of_z w64 c.args.element)) ≡ is_declared c.args.null c.args.element = ap (is_declared c.args.null) whole in
    rw c.in-Short.is (c.is_declared-in-Short.ensures ∙ declared)

pub returns-in-Int : goal.returns-in-Int
returns-in-Int c =
    let whole : to_z w64 (of_z w64 c.args.element) ≡ c.args.element = to_z-of_z {w = w64} c.ranges.element in
    let declared : is_declared c.args.null (to_z w64 (of_z w64 c.args.element)) ≡ is_declared c.args.null c.args.element = ap (is_declared c.args.null) whole in
    rw c.in-Int.is (c.is_declared-in-Int.ensures ∙ declared)

pub returns-in-Long : goal.returns-in-Long
returns-in-Long c =
    let whole : to_z w64 (of_z w64 c.args.element) ≡ c.args.element = to_z-of_z {w = w64} c.ranges.element in
    let declared : is_declared c.args.null (to_z w64 (of_z w64 c.args.element)) ≡ is_declared c.args.null c.args.element = ap (is_declared c.args.null) whole in
    rw c.in-Long.is (c.is_declared-in-Long.ensures ∙ declared)
