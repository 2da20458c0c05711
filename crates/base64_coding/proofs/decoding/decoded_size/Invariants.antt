-- `base64_coding::decoding::decoded_size` meets its contract. The invariant: the whole gives as many bytes as n and what is left.
use Prim.Native.Nat.{◌-◌, ◌≤◌}
use mathlib.Core.Path.{◌≡◌}
use lib.ListN.{drop, length}
use Rattle.base64_rules.specs.Base64.{decode}
use Rattle.base64_coding.specs.Clauses.{Low, decoded_size}
use Rattle.base64_coding.proofs.decoding.decoded_size.Given as goal

abbrev pub invariant-loop-i : goal.invariant-loop-i
invariant-loop-i l = (l.i ≤ length l.s) × (l.n ≤ l.i) × Low l.s × (decoded_size 0 (decode l.s) ≡ decoded_size l.n (decode (drop l.i l.s)))

abbrev pub decreases-loop-i : goal.decreases-loop-i
decreases-loop-i l = length l.s - l.i
