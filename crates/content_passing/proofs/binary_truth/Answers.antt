-- `content_passing::binary_truth` meets its contract: a byte that has a letter is an element, and the letter says which.
use Prim.Native.Nat.{◌<◌}
use native.Mathlib.Omega.{arith}
use lib.Dec.{eqb}
use mir.Facts.{to_z_pos}
use mir.Syntax.{w64}
use Rattle.content_passing.proofs.Letters.{flag-le, value_of}
use Rattle.content_passing.proofs.Ones.{truth-found}
use borrow.Author.Rules.{sfits_of}
use Rattle.content_passing.proofs.binary_truth.Goals as goal

pub overflow_mul-value : goal.overflow_mul-value
overflow_mul-value c =
    let small : value_of c.truth_letter-letter.result < 256 = let letter = c.truth_letter-letter.result in omega (arith, flag-le (eqb letter 84), flag-le (eqb letter 63)) in
    record { fits = omega (arith, small) }

pub overflow_add-value : goal.overflow_add-value
overflow_add-value c =
    let small : value_of c.truth_letter-letter.result < 256 = let letter = c.truth_letter-letter.result in omega (arith, flag-le (eqb letter 84), flag-le (eqb letter 63)) in
    record { fits = small }

pub overflow_cast-result : goal.overflow_cast-result
overflow_cast-result c =
    let small : value_of c.truth_letter-letter.result < 256 = let letter = c.truth_letter-letter.result in omega (arith, flag-le (eqb letter 84), flag-le (eqb letter 63)) in
    sfits_of (omega (arith, small))

pub returns : goal.returns
returns c =
    let small : value_of c.truth_letter-letter.result < 256 = let letter = c.truth_letter-letter.result in omega (arith, flag-le (eqb letter 84), flag-le (eqb letter 63)) in
    let a = c.args in
    let letter = c.truth_letter-letter in
    truth-found a.s.now a.at letter.result _ c.requires letter.ensures c.if-letter-eq0.false (to_z_pos w64 (omega (arith, small)))
