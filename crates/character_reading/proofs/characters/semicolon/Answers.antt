-- `character_reading::characters::semicolon` meets its contract. The invariant: the text from here on is read with the name so far.
use Prim.Native.Nat.{◌+◌, ◌-◌, ℕ}
use native.Mathlib.Omega.{arith}
use mathlib.Core.List.{List}
use mathlib.Core.Path.{◌∙◌, ◌≡◌, ap, sym}
use lib.ListN.{drop}
use Rattle.tabledata.specs.TableData.{characters, reference}
use Rattle.character_reading.proofs.characters.Laws.{name_done, name-end, name-more, take_more}
use Rattle.character_reading.proofs.characters.semicolon.Goals as goal

pub loop-i-init : goal.loop-i-init
loop-i-init c = let e : c.args.from - c.args.from ≡ 0 = omega arith in rw e

pub returns-then-s-i-eq59 : goal.returns-then-s-i-eq59
returns-then-s-i-eq59 c =
    record { found = c.loop-i.invariant ∙ name_done _ c.args.s.now c.loop-i.i (omega arith) c.if-s-i-eq59.true; within = (omega arith, omega arith) }

pub loop-i-preserved : goal.loop-i-preserved
loop-i-preserved c =
    let s = c.args.s.now in
    let i = c.loop-i.i in
    let longer = ap (λ (n : List ℕ). characters (reference n) (drop (i + 1) s)) (sym (take_more s c.args.from i (omega arith) (omega arith))) in
    c.loop-i.invariant ∙ name-more _ s i (omega arith) c.if-s-i-eq59.false ∙ longer

pub returns : goal.returns
returns c = record { found = c.loop-i.invariant ∙ name-end _ c.args.s.now c.loop-i.i c.loop-i-test.false; within = tt }
