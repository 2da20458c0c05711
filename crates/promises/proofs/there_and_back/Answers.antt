-- Two calls of `sailmortar_convert`, the second of what the first wrote: that this is a part of the buffer is a fact of every answer.
use borrow.Author.Rules.{rules}
use lib.ListN.{length-take}
use native.Mathlib.Omega.{arith}
use Rattle.promises.proofs.Laws.{faces, there_and_back, there-within}
use Rattle.row_reading.proofs.CellsFit.{bytes-of}
use Rattle.sailmortar.specs.Face.{convert_face}
use Rattle.promises.proofs.there_and_back.Goals as goal

pub slice_bounds-sailmortar_convert-end : goal.slice_bounds-sailmortar_convert-end
slice_bounds-sailmortar_convert-end c =
    let told = c.sailmortar_convert.ensures in there-within _ _ _ (faces {f = convert_face _ 0 2 _ _} told.numbers told.buffer)

pub slice_bounds-sailmortar_convert-end-2 : goal.slice_bounds-sailmortar_convert-end-2
slice_bounds-sailmortar_convert-end-2 c =
    let told = c.sailmortar_convert.ensures in
    let within = there-within _ _ _ (faces {f = convert_face _ 0 2 _ _} told.numbers told.buffer) in
    simp length-take (omega (arith, within))

pub returns : goal.returns
returns c =
    let there = c.sailmortar_convert.ensures in
    let back = c.sailmortar_convert-2.ensures in
    record {
      demand2 = there_and_back _ _ _ (faces {f = convert_face _ 0 2 _ _} there.numbers there.buffer)
          (bytes-of c.args.input.now (λ i h. (c.shared_slice_known-2-1.given i).fits))
          _ (faces {f = convert_face _ 2 0 _ _} back.numbers back.buffer);
    }
