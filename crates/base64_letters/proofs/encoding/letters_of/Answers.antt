-- `base64_letters::encoding::letters_of` meets its contract, letter by letter.
use Rattle.base64_letters.specs.Letters.{letters_of}
use native.Mathlib.Omega.{arith}
use Rattle.base64_letters.proofs.encoding.letters_of.Goals as goal

pub returns : goal.returns
unfolding letters_of
returns c = grind arith
