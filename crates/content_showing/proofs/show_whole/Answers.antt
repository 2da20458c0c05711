-- `content_showing::show_whole` meets its contract: each kind is handed on as itself.
use Prim.Native.Nat.{◌*◌}
use mathlib.Core.Path.{ap}
use Rattle.content_showing.proofs.Contents.{moved_as}
use Rattle.number.specs.Clauses.{is_signed, size, width_of}
use Rattle.number.specs.declared.Integer.{Integer}
use Rattle.table.specs.Shape.{Shape, Whole}
use native.Mathlib.Omega.{arith}
use Rattle.content_showing.proofs.show_whole.Goals as goal

abbrev whole_of : Integer → Shape
whole_of i = Whole (is_signed i) (width_of i)

pub show_integers-requires : goal.show_integers-requires
show_integers-requires c =
    (c.requires.0, omega (arith, ap (λ (i : Integer). c.args.n * size i) c.in-Short.is, c.requires.2), c.requires.3)

pub show_integers-requires-in-Int : goal.show_integers-requires-in-Int
show_integers-requires-in-Int c =
    (c.requires.0, omega (arith, ap (λ (i : Integer). c.args.n * size i) c.in-Int.is, c.requires.2), c.requires.3)

pub show_integers-requires-in-Long : goal.show_integers-requires-in-Long
show_integers-requires-in-Long c =
    (c.requires.0, omega (arith, ap (λ (i : Integer). c.args.n * size i) c.in-Long.is, c.requires.2), c.requires.3)

pub returns-in-UnsignedByte : goal.returns-in-UnsignedByte
returns-in-UnsignedByte c =
    let a = c.args in
    let r = c.show_bytes in
    moved_as a.n a.at a.o a.s.now a.row.now _ r.result _ _ (ap whole_of c.in-UnsignedByte.is) r.ensures

pub returns-in-Short : goal.returns-in-Short
returns-in-Short c =
    let a = c.args in
    let r = c.show_integers in
    moved_as a.n a.at a.o a.s.now a.row.now _ r.result _ _ (ap whole_of c.in-Short.is) r.ensures

pub returns-in-Int : goal.returns-in-Int
returns-in-Int c =
    let a = c.args in
    let r = c.show_integers-in-Int in
    moved_as a.n a.at a.o a.s.now a.row.now _ r.result _ _ (ap whole_of c.in-Int.is) r.ensures

pub returns-in-Long : goal.returns-in-Long
returns-in-Long c =
    let a = c.args in
    let r = c.show_integers-in-Long in
    moved_as a.n a.at a.o a.s.now a.row.now _ r.result _ _ (ap whole_of c.in-Long.is) r.ensures
