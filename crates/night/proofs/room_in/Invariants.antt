-- The number stays below 100,000 at each digit.
use Rattle.std.proofs.Common.{◌<◌}
use Rattle.night.proofs.room_in.Given as goal

abbrev pub invariant-loop-byte : goal.invariant-loop-byte
invariant-loop-byte l = l.n < 100000
