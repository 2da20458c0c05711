-- The sum stays below 2 to the 32nd.
use Rattle.std.proofs.Common.{◌<◌}
use Rattle.night.proofs.say_sum.Given as goal

abbrev pub invariant-loop-byte : goal.invariant-loop-byte
invariant-loop-byte g l = l.sum < 4294967296
