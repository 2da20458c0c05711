-- `content_showing::put_middle` meets its contract: by the test, nothing or eight digits.
use mathlib.Core.Path.{sym}
use Rattle.content_showing.proofs.Digits.{middle-none, middle-some}
use Rattle.moving.proofs.Puts.{puts-as, puts_none}
use native.Mathlib.Omega.{arith}
use Rattle.content_showing.proofs.put_middle.Goals as goal

pub returns-then-v-lt10000000000000000 : goal.returns-then-v-lt10000000000000000
returns-then-v-lt10000000000000000 c = puts-as (sym (middle-none c.args.v (omega arith))) (puts_none _ _ (omega (arith, c.requires)))

pub returns : goal.returns
returns c = puts-as (sym (middle-some c.args.v (omega arith))) c.put_eight_digits.ensures
