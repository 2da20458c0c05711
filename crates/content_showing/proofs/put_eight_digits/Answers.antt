-- `content_showing::put_eight_digits` meets its contract: the bytes of the number that is stored are characters for its digits.
use Rattle.content_showing.proofs.Digits.{eight-put, shown-fits}
use Rattle.content_showing.proofs.put_eight_digits.Goals as goal

pub overflow_add-eight_digits : goal.overflow_add-eight_digits
overflow_add-eight_digits c = record { fits = shown-fits c.args.v _ c.eight_digits.ensures }

pub returns : goal.returns
returns c =
    eight-put c.args.v _ c.eight_digits.ensures c.put_eight.ensures c.requires.1
