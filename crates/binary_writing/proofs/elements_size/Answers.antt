-- `binary_writing::elements_size` meets its contract: in each arm the length is known, and a count takes four bytes.
use Prim.Native.Nat.{◌+◌, ℕ}
use Rattle.binary_writing.proofs.Sizes.{elements-counted, elements-fixed, filled-char, filled-other}
use mathlib.Core.Path.{◌∙◌, ap, sym}
use Rattle.binary_writing.proofs.elements_size.Goals as goal

pub returns-then-is_char : goal.returns-then-is_char
returns-then-is_char c = sym (elements-fixed _ _ _ c.in-Fixed.is ∙ filled-char _ _ _ (sym c.is_char.ensures ∙ c.if-is_char.true))

pub returns-else-is_char : goal.returns-else-is_char
returns-else-is_char c =
    c.content_bytes.ensures.0
    ∙ sym (elements-fixed _ _ _ c.in-Fixed.is ∙ filled-other _ _ _ (sym c.is_char.ensures ∙ c.if-is_char.false))

pub returns-in-Bounded : goal.returns-in-Bounded
returns-in-Bounded c = ap (λ (k : ℕ). 4 + k) c.content_bytes-in-Bounded.ensures.0 ∙ sym (elements-counted _ _ c.in-Bounded.is)
