-- `content_passing::binary_integer` meets its contract: the integer that is read is the one element of its bytes.
use mathlib.Core.Path.{◌∙◌}
use native.Mathlib.Omega.{arith}
use mir.Facts.{to_z-of_z}
use mir.Syntax.{w64}
use Rattle.number.specs.Clauses.{is_signed, width_of}
use Rattle.content_passing.proofs.Ones.{integer-found}
use Rattle.content_passing.proofs.binary_integer.Goals as goal

pub overflow_add-result : goal.overflow_add-result
overflow_add-result c = omega arith

pub returns : goal.returns
returns c =
    let a = c.args in
    let read = c.read_integer-value in
    integer-found (is_signed a.integer) (width_of a.integer) a.s.now a.at _ _ (to_z-of_z {w = w64} (record { sfits = read.type_inv }) ∙ read.ensures) (omega (arith, c.integer_bytes.ensures))
