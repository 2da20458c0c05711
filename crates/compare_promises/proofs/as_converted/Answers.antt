-- A call of `sailmortar_convert`, and one of `sailmortar_compare` with what it wrote: that this is a part of the buffer is a fact of every answer.
use borrow.Author.Rules.{rules}
use lib.ListN.{length-take}
use native.Mathlib.Omega.{arith}
use Rattle.compare_promises.proofs.Nights.{same-night, written-within}
use Rattle.promises.proofs.Laws.{faces}
use Rattle.row_reading.proofs.CellsFit.{bytes-of}
use Rattle.sailmortar.specs.Face.{compare_face, convert_face}
use Rattle.compare_promises.proofs.as_converted.Goals as goal

pub slice_bounds-sailmortar_compare-end : goal.slice_bounds-sailmortar_compare-end
slice_bounds-sailmortar_compare-end c =
    let told = c.sailmortar_convert.ensures in
    written-within _ _ _ _ _ (faces {f = convert_face _ _ _ _ _} told.numbers told.buffer)

pub slice_bounds-sailmortar_compare-end-2 : goal.slice_bounds-sailmortar_compare-end-2
slice_bounds-sailmortar_compare-end-2 c =
    let told = c.sailmortar_convert.ensures in
    let within = written-within _ _ _ _ _ (faces {f = convert_face _ _ _ _ _} told.numbers told.buffer) in
    simp length-take (omega (arith, within))

pub returns : goal.returns
returns c =
    let args = c.args in
    let converted = faces {f = convert_face _ _ _ _ _} c.sailmortar_convert.ensures.numbers c.sailmortar_convert.ensures.buffer in
    let compared = faces {f = compare_face _ _ _ _ _ _} c.sailmortar_compare.ensures.numbers c.sailmortar_compare.ensures.buffer in
    let bytes = bytes-of args.input.now (λ i h. (c.shared_slice_known-2-1.given i).fits) in
    λ source target e f. same-night args.decls.now args.from args.to args.input.now args.out.now converted bytes _ args.places.now compared source target e f f
