-- One call of `sailmortar_convert`: its contract, and that its input is bytes, are all that the laws ask.
use borrow.Author.Rules.{rules}
use Rattle.promises.proofs.Laws.{faces, means-what-was-read, rows-or-refusal, unnamed}
use Rattle.row_reading.proofs.CellsFit.{bytes-of}
use Rattle.sailmortar.specs.Face.{convert_face}
use Rattle.promises.proofs.once.Goals as goal

pub returns : goal.returns
returns c =
    let args = c.args in
    let told = c.sailmortar_convert.ensures in
    let face = faces {f = convert_face args.decls.now args.from args.to args.input.now args.out.now} told.numbers told.buffer in
    let bytes = bytes-of args.input.now (λ i h. (c.shared_slice_known-2-1.given i).fits) in
    record { unnamed = unnamed _ _ _ _ _ face; demand1 = rows-or-refusal _ _ _ _ _ face bytes; demand2 = means-what-was-read _ _ _ _ _ face bytes }
