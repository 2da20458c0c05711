-- declaring::declare: the whole text: the columns so far, in front of what is declared from here on, are what the text declares.
use Prim.Native.Nat.{ℕ}
use Rattle.declaring.proofs.Stages.{Stage, refused-there, stage-broken, stage-done, stage-full, stage-more, stage-none, stage-refused, stage-start, too_long}
use Rattle.table.specs.declared.Columns.{Columns}
use Rattle.table.specs.declared.Reason.TheVariants.{ColumnCount, Field, TooLarge}
use mathlib.Core.Path.{ap, refl, subst, sym}
use native.Mathlib.Omega.{arith}
use Rattle.declaring.proofs.declare.Goals as goal

pub returns-then-text-gt-MOST_DECLARATIONS : goal.returns-then-text-gt-MOST_DECLARATIONS
returns-then-text-gt-MOST_DECLARATIONS c = refused-there TooLarge 0 c.refuse.ensures (too_long _ c.if-text-gt-MOST_DECLARATIONS.true)

pub loop-at-init : goal.loop-at-init
loop-at-init c =
    let none = ap (λ (x : Columns). x.count) c.no_columns-columns.ensures in
    let start = stage-start _ _ _ c.if-text-gt-MOST_DECLARATIONS.false c.skip_white-at.ensures c.no_columns-columns.ensures in
    (c.skip_white-at.ensures.high, omega (arith, none), subst (λ (k : ℕ). Stage c.args.text.now c.skip_white-at.result k c.no_columns-columns.result) (sym none) start)

pub returns-in_default : goal.returns-in_default
returns-in_default c =
    refused-there Field c.loop-at.columns.count c.refuse-in_default.ensures (stage-broken _ _ _ _ c.loop-at.invariant.2 c.loop-at-test.true c.in_default.ensures)

pub returns-in-Err : goal.returns-in-Err
returns-in-Err c =
    refused-there c.in-Err.reason c.loop-at.columns.count c.refuse-in-Err.ensures
    (stage-refused _ _ _ _ c.loop-at.invariant.2 c.loop-at-test.true _ c.in-Some.ensures _ c.in-Err.ensures)

pub returns-then-k-eq64 : goal.returns-then-k-eq64
returns-then-k-eq64 c =
    refused-there ColumnCount 64 c.refuse-then-k-eq64.ensures
    (stage-full _ _ _ _ c.loop-at.invariant.2 c.loop-at-test.true _ c.in-Some.ensures _ c.in-Ok.ensures c.if-k-eq64.true)

pub loop-at-preserved : goal.loop-at-preserved
loop-at-preserved c = (
  c.skip_white-at-in-loop-at.ensures.high,
  omega (arith, c.if-k-eq64.false),
  stage-more _ _ _ _ c.loop-at.invariant.2 c.loop-at-test.true _ c.in-Some.ensures _ c.in-Ok.ensures _ _ c.loop-at.invariant.1 c.if-k-eq64.false
      c.skip_white-at-in-loop-at.ensures refl,
)

pub returns-then-columns-eq0 : goal.returns-then-columns-eq0
returns-then-columns-eq0 c =
    refused-there ColumnCount 0 c.refuse-then-columns-eq0.ensures (stage-none _ _ _ _ c.loop-at.invariant.2 c.loop-at-test.false c.if-columns-eq0.true)

pub returns : goal.returns
returns c = stage-done _ _ _ _ c.loop-at.invariant.2 c.loop-at-test.false refl c.if-columns-eq0.false
