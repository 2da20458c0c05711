-- `content_showing::put_byte` meets its contract: of the four bytes that are stored as many count as the byte's word has.
use Rattle.content_showing.proofs.Words.{byte_put}
use native.Mathlib.Omega.{arith}
use Rattle.content_showing.proofs.put_byte.Goals as goal

pub returns : goal.returns
returns c =
    let size = c.byte_size.ensures in
    (byte_put c.args.b _ c.byte_word.ensures c.put_four.ensures c.requires size.0, omega (arith, size.1))
