-- `text_moving::count_fits` meets its contract, by the shape of the length.
use mathlib.Core.Bool.{false≢true}
use mathlib.Core.Path.{◌∙◌, sym}
use borrow.Author.Tests.{eqb-true, leb-true}
use Rattle.text_moving.proofs.Cells.{bounded-counts, char-counts, fixed-counts, free-counts}
use native.Mathlib.Omega.{arith}
use Rattle.text_moving.proofs.count_fits.Goals as goal

pub returns-then-count-eq0 : goal.returns-then-count-eq0
returns-then-count-eq0 c = λ e. absurd (false≢true e)

pub returns-then-is_char : goal.returns-then-is_char
returns-then-is_char c =
    λ e. char-counts _ _ (omega (arith, c.if-count-eq0.false)) _ c.in-Fixed.is (sym c.is_char.ensures ∙ c.if-is_char.true) (leb-true _ _ e)

pub returns-else-is_char : goal.returns-else-is_char
returns-else-is_char c = λ e. fixed-counts _ _ (omega (arith, c.if-count-eq0.false)) _ c.in-Fixed.is (eqb-true _ _ e)

pub returns-in-Bounded : goal.returns-in-Bounded
returns-in-Bounded c = λ e. bounded-counts _ _ (omega (arith, c.if-count-eq0.false)) _ c.in-Bounded.is (leb-true _ _ e)

pub returns-in-Free : goal.returns-in-Free
returns-in-Free c = λ e. free-counts _ _ (omega (arith, c.if-count-eq0.false)) c.in-Free.is (leb-true _ _ e)
