-- `eights::turned` meets its contract: neighbours change places, then pairs, then fours (turned_round); what a mask leaves has room where it is moved.
use Rattle.eights.proofs.Turning.{bytes_fit, bytes_turned, fours-fit, pairs-fit, pairs_turned, turned_round}
use Rattle.eights.proofs.turned.Goals as goal

pub overflow_add-a : goal.overflow_add-a
overflow_add-a c = record { fits = bytes_fit c.args.x }

pub overflow_add-b : goal.overflow_add-b
overflow_add-b c = record { fits = pairs-fit (bytes_turned c.args.x) }

pub overflow_add-result : goal.overflow_add-result
overflow_add-result c =
    let x = bytes_turned c.args.x in
    record { fits = fours-fit (pairs_turned x) (pairs-fit x) }

pub returns : goal.returns
returns c = turned_round c.args.x
