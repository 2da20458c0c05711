-- `base64_coding::decoding::highest` meets its contract. The invariant: the highest of all bytes is that of the most so far and of what is left.
use mathlib.Core.Path.{◌≡◌}
use lib.ListN.{drop}
use Rattle.base64_coding.specs.Clauses.{highest_from}
use Rattle.base64_coding.proofs.decoding.highest.Given as goal

abbrev pub invariant-loop-c : goal.invariant-loop-c
invariant-loop-c l = highest_from 0 l.s ≡ highest_from l.most (drop l.c-index l.s)
