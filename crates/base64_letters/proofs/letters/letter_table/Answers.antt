-- `base64_letters::letters::letter_table` meets its contract: one test, computed over the whole table, says its rule at each entry.
use mathlib.Core.Path.{refl}
use Rattle.base64_rules.specs.Base64.{sextet}
use Rattle.base64_letters.specs.Letters.{letter_value}
use Rattle.base64_letters.proofs.Alphabet.{table_is}
use Rattle.base64_letters.specs.declared.letters.TheConstants.{VALUES}
use Rattle.table.specs.Bytes.{between}
use Rattle.base64_letters.proofs.letters.letter_table.Goals as goal

pub returns : goal.returns
unfolding letter_value sextet between
returns c = table_is VALUES refl
