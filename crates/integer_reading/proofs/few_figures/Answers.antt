-- `integer_reading::few_figures` meets its contract: what is behind the first n is shifted out, in two steps.
use native.Mathlib.Omega.{arith}
use Rattle.integer_reading.proofs.Figures.{few-law}
use Rattle.integer_reading.proofs.few_figures.Goals as goal

pub returns : goal.returns
returns c = record { leading = λ p l a e. few-law c.args.x c.args.n p (omega arith) l a e }
