-- `integer_reading::leading_figures` meets its contract: what is behind the first n is shifted out.
use native.Mathlib.Omega.{arith}
use Rattle.integer_reading.proofs.Figures.{leading-law}
use Rattle.integer_reading.proofs.leading_figures.Goals as goal

pub returns : goal.returns
returns c = record { leading = λ p l a e. leading-law c.args.x c.args.n p (omega arith) l a e }
