-- `lowest::front_lowest` meets its contract: two shifts are one by all the bytes behind the first n (front-is).
use native.Mathlib.Omega.{arith}
use Rattle.lowest.proofs.Front.{front-is}
use Rattle.lowest.proofs.front_lowest.Goals as goal

pub returns : goal.returns
returns c = front-is c.args.x c.args.n (omega arith)
