-- table::is_char: in each arm the kind is known, and the definition computes.
use mathlib.Core.Path.{ap, sym}
use Rattle.table.specs.Cell.{is_char}
use Rattle.table.specs.Shape.{shape}
use Rattle.table.specs.declared.Kind.{Kind}
use Rattle.table.proofs.is_char.Goals as goal

pub returns-in-Bit : goal.returns-in-Bit
returns-in-Bit c = sym (ap (λ (k : Kind). is_char (shape k)) c.in-Bit.is)
