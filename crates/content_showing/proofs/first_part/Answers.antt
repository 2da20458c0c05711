-- `content_showing::first_part` meets its contract: by the test.
use Rattle.content_showing.proofs.Digits.{first-is}
use native.Mathlib.Omega.{arith}
use Rattle.content_showing.proofs.first_part.Goals as goal

pub returns-then-v-lt10000000000000000 : goal.returns-then-v-lt10000000000000000
returns-then-v-lt10000000000000000 c = (first-is c.args.v).0 (omega arith)

pub returns : goal.returns
returns c = (first-is c.args.v).1 (omega arith)
