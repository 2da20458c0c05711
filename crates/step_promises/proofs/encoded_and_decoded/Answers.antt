-- A call of `sailmortar_base64_encode`, and one of `sailmortar_base64_decode` of what it wrote: that this is a part of the buffer is a fact of every
-- answer.
use borrow.Author.Rules.{rules}
use lib.ListN.{length-take}
use native.Mathlib.Omega.{arith}
use Rattle.promises.proofs.Laws.{faces}
use Rattle.step_promises.proofs.Steps.{comes_back, encoded-within, encodes}
use Rattle.row_reading.proofs.CellsFit.{bytes-of}
use Rattle.step_promises.proofs.encoded_and_decoded.Goals as goal

pub slice_bounds-sailmortar_base64_decode-end : goal.slice_bounds-sailmortar_base64_decode-end
slice_bounds-sailmortar_base64_decode-end c =
    let there = c.sailmortar_base64_encode.ensures in encoded-within _ _ (faces there.numbers there.buffer)

pub slice_bounds-sailmortar_base64_decode-end-2 : goal.slice_bounds-sailmortar_base64_decode-end-2
slice_bounds-sailmortar_base64_decode-end-2 c =
    let there = c.sailmortar_base64_encode.ensures in
    let h = encoded-within _ _ (faces there.numbers there.buffer) in
    simp length-take (omega (arith, h))

pub returns : goal.returns
returns c =
    let there = c.sailmortar_base64_encode.ensures in
    let back = c.sailmortar_base64_decode.ensures in
    let bytes = bytes-of c.args.input.now (λ i h. (c.shared_slice_known-1.given i).fits) in
    record {
      ended = encodes _ _ (faces there.numbers there.buffer) bytes;
      back = comes_back _ _ (faces there.numbers there.buffer) bytes _ (faces back.numbers back.buffer);
    }
