-- Two calls of `sailmortar_fetch`: their contracts are all that the law asks.
use borrow.Author.Rules.{rules}
use Rattle.promises.proofs.Laws.{faces}
use Rattle.row_promises.proofs.OneRow.{same-fetched}
use Rattle.sailmortar.specs.Face.{fetch_face}
use Rattle.row_promises.proofs.same_row.Goals as goal

pub returns : goal.returns
returns c =
    let second = c.sailmortar_fetch-2.ensures in
    let first = c.sailmortar_fetch.ensures in
    let args = c.args in
    same-fetched args.decls.now args.from args.rows args.row args.input1.now args.index1.now args.out1.now args.input2.now args.index2.now
    args.out2.now
    (faces {f = fetch_face args.decls.now args.from args.input1.now args.index1.now args.rows args.row args.out1.now} first.numbers first.buffer)
    (faces {f = fetch_face args.decls.now args.from args.input2.now args.index2.now args.rows args.row args.out2.now} second.numbers second.buffer)
