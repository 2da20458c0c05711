-- Two parts by themselves, their numbers joined to nothing, and the whole: four calls of the face.
use native.Mathlib.Omega.{arith}
use borrow.Author.Rules.{rules}
use lib.ListN.{length-take}
use Rattle.promises.proofs.Laws.{faces}
use Rattle.part_promises.proofs.Parts.{two-parts}
use Rattle.row_reading.proofs.CellsFit.{bytes-of}
use Rattle.sailmortar.specs.Face.{convert_face, piece_face}
use Rattle.part_promises.proofs.in_parts.Goals as goal

-- a cut behind the input's end: nothing is promised
pub returns-then-input-cut : goal.returns-then-input-cut
returns-then-input-cut c = record { joined = λ h. absurd (omega (arith, h, c.if-input-cut.true)) }

pub slice_bounds-sailmortar_convert_piece-end : goal.slice_bounds-sailmortar_convert_piece-end
slice_bounds-sailmortar_convert_piece-end c = simp length-take (omega (arith, c.if-input-cut.false))

pub returns : goal.returns
returns c =
    let whole = c.sailmortar_convert.ensures in
    let second = c.sailmortar_convert_piece-2.ensures in
    let first = c.sailmortar_convert_piece.ensures in
    let args = c.args in
    let bytes = bytes-of args.input.now (λ i h. (c.shared_slice_known-2-1.given i).fits) in
    record {
      joined = λ h. two-parts args.decls.now args.from args.to args.input.now args.cut args.out1.now args.out2.now args.out3.now h bytes
          (faces {f = piece_face args.decls.now args.from args.to _ args.out1.now} first.numbers first.buffer)
          (faces {f = piece_face args.decls.now args.from args.to _ args.out2.now} second.numbers second.buffer)
          c.join_both.ensures
          (faces {f = convert_face args.decls.now args.from args.to args.input.now args.out3.now} whole.numbers whole.buffer);
    }
