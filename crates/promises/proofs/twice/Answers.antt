-- Two calls of `sailmortar_convert`: their contracts, and that the two inputs are bytes, are all that the law asks.
use borrow.Author.Rules.{rules}
use Rattle.promises.proofs.Laws.{faces, nothing-else}
use Rattle.row_reading.proofs.CellsFit.{bytes-of}
use Rattle.sailmortar.specs.Face.{convert_face}
use Rattle.promises.proofs.twice.Goals as goal

pub returns : goal.returns
returns c =
    let second = c.sailmortar_convert-2.ensures in
    let first = c.sailmortar_convert.ensures in
    let args = c.args in
    record {
      demand3 = nothing-else _ _ _ _
          (faces {f = convert_face _ args.from1 args.to args.input1.now args.out1.now} first.numbers first.buffer)
          (faces {f = convert_face _ args.from2 args.to args.input2.now args.out2.now} second.numbers second.buffer)
          (bytes-of args.input1.now (λ i h. (c.shared_slice_known-2-1.given i).fits))
          (bytes-of args.input2.now (λ i h. (c.shared_slice_known-3-1.given i).fits));
    }
