-- `content_showing::put_reference` meets its contract: of the eight bytes that are stored as many count as the reference has.
use Rattle.content_showing.proofs.Text.{reference-put}
use Rattle.content_showing.proofs.put_reference.Goals as goal

pub returns : goal.returns
returns c =
    reference-put c.args.b _ c.reference_word.ensures c.put_eight.ensures c.requires c.reference_size.ensures.0
