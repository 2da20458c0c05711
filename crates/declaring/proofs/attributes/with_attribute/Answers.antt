-- declaring::attributes::with_attribute: the tally after an attribute: each name that counts is compared with the attribute's.
use Rattle.declaring.specs.Readers.{with_attribute}
use Rattle.declaring.proofs.attributes.with_attribute.Goals as goal

pub returns : goal.returns
unfolding with_attribute
returns c =
    rw (c.met_again.ensures, c.met_again-2.ensures, c.met_again-3.ensures, c.same_bytes.ensures, c.same_bytes-2.ensures, c.same_bytes-3.ensures)
