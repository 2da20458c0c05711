-- `content_copying::DigitTest::ahead` meets its contract: the bytes that are read are marked, and the first mark is found.
use native.Mathlib.Omega.{arith}
use Rattle.eights.proofs.Fronts.{are-bytes}
use Rattle.integer_reading.proofs.Runs.{run-marked}
use Rattle.content_copying.proofs.DigitTest.ahead.Goals as goal

pub returns : goal.returns
returns c =
    let a = c.args in
    run-marked a.s.now a.at (are-bytes a.s.now (λ i. omega (arith, c.type_inv.s i))) (omega arith) c.eight_bytes.ensures c.no_digits.ensures c.first_of.ensures
