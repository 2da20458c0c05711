-- declaring::columns::kind_of: the names are tried in order: those that were not met play no part.
use Rattle.declaring.proofs.columns.Names.{met, none-met, not-met}
use Rattle.fields.specs.Fields.{kinds}
use mathlib.Core.Path.{refl}
use Rattle.declaring.proofs.columns.kind_of.Goals as goal

pub loop-name-init : goal.loop-name-init
unfolding kinds
loop-name-init c = record { left = refl }

pub returns-then-same_bytes : goal.returns-then-same_bytes
returns-then-same_bytes c = met c.loop-name.invariant _ c.loop-name-test.true _ c.same_bytes.ensures c.if-same_bytes.true

pub loop-name-preserved : goal.loop-name-preserved
loop-name-preserved c = not-met c.loop-name.invariant _ c.loop-name-test.true _ c.same_bytes.ensures c.if-same_bytes.false

pub returns : goal.returns
returns c = none-met c.loop-name.invariant c.loop-name-test.false
