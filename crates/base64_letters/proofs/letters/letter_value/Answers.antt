-- `base64_letters::letters::letter_value` meets its contract: what is lent is the table.
use Rattle.base64_letters.proofs.letters.letter_value.Goals as goal

pub returns : goal.returns
returns c = c.requires.1 c.args.c c.requires.0
