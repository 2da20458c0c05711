-- A piece, what stands behind its place, and the whole: three calls of the face. That the place is one of the piece, and so of the input, is a fact
-- of every answer.
use native.Mathlib.Nat.{le_refl}
use native.Mathlib.Omega.{arith}
use borrow.Author.Rules.{rules}
use lib.ListN.{length-take}
use Rattle.promises.proofs.Laws.{faces}
use Rattle.part_promises.proofs.Pieces.{one-by-two, piece-ends, place-within-whole}
use Rattle.row_reading.proofs.CellsFit.{bytes-of}
use Rattle.sailmortar.specs.Face.{convert_face, piece_face}
use Rattle.table.proofs.Laws.{all_take}
use Rattle.part_promises.proofs.in_pieces.Goals as goal

-- a cut behind the input's end: nothing is promised
pub returns-then-input-cut : goal.returns-then-input-cut
returns-then-input-cut c = record { demand1 = λ h. absurd (omega (arith, h, c.if-input-cut.true)); goes_on = λ h. absurd (omega (arith, h, c.if-input-cut.true)) }

pub slice_bounds-sailmortar_convert_piece-end : goal.slice_bounds-sailmortar_convert_piece-end
slice_bounds-sailmortar_convert_piece-end c = simp length-take (omega (arith, c.if-input-cut.false))

pub slice_bounds-sailmortar_convert-count : goal.slice_bounds-sailmortar_convert-count
slice_bounds-sailmortar_convert-count c =
    let args = c.args in
    place-within-whole _ _ _ args.input.now args.cut _ _ c.sailmortar_convert_piece.ensures.numbers

pub slice_bounds-sailmortar_convert-start : goal.slice_bounds-sailmortar_convert-start
slice_bounds-sailmortar_convert-start c =
    let args = c.args in
    place-within-whole _ _ _ args.input.now args.cut _ _ c.sailmortar_convert_piece.ensures.numbers

pub returns : goal.returns
returns c =
    let whole = c.sailmortar_convert-2.ensures in
    let second = c.sailmortar_convert.ensures in
    let told = c.sailmortar_convert_piece.ensures in
    let args = c.args in
    let bytes = bytes-of args.input.now (λ i h. (c.shared_slice_known-2-1.given i).fits) in
    let piece = faces {f = piece_face args.decls.now args.from args.to _ args.out1.now} told.numbers told.buffer in
    record {
      demand1 = λ h. piece-ends _ _ _ _ _ piece (all_take _ args.cut args.input.now bytes);
      goes_on = λ h. one-by-two _ _ _ _ args.cut _ _ _ piece
          (faces {f = convert_face args.decls.now args.from args.to _ args.out2.now} second.numbers second.buffer)
          (faces {f = convert_face args.decls.now args.from args.to args.input.now args.out3.now} whole.numbers whole.buffer);
    }
