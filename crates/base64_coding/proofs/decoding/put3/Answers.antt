-- `base64_coding::decoding::put3` meets its contract.
use native.Mathlib.Omega.{arith}
use native.Mathlib.Numerals.{towards_suc}
use mathlib.Core.Path.{◌∙◌, ap}
use borrow.Author.Rules.{rules}
use lib.ListN.{length-set}
use lib.Seq.{sets}
use Rattle.base64_coding.proofs.Plain.{three-of}
use Rattle.base64_coding.proofs.decoding.put3.Goals as goal

pub bounds-out-n-2 : goal.bounds-out-n-2
bounds-out-n-2 c = simp length-set (omega arith)

pub bounds-out-n-3 : goal.bounds-out-n-3
bounds-out-n-3 c = simp length-set (omega arith)

pub returns : goal.returns
returns c = (simp towards_suc) ∙ ap (sets c.args.out.now c.args.n) (three-of c.args.bytes (search rules))
