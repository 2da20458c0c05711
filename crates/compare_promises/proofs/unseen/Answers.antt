-- Two calls of `sailmortar_compare`: their contracts are all that the law asks.
use borrow.Author.Rules.{rules}
use Rattle.compare_promises.proofs.Nights.{compared-alike}
use Rattle.promises.proofs.Laws.{faces}
use Rattle.sailmortar.specs.Face.{compare_face}
use Rattle.compare_promises.proofs.unseen.Goals as goal

pub returns : goal.returns
returns c =
    let second = c.sailmortar_compare-2.ensures in
    let first = c.sailmortar_compare.ensures in
    let args = c.args in
    compared-alike args.decls.now args.input.now args.changed.now args.kind args.other.now args.places1.now args.places2.now
    (faces {f = compare_face args.decls.now 2 args.input.now args.kind args.other.now args.places1.now} first.numbers first.buffer)
    (faces {f = compare_face args.decls.now 2 args.changed.now args.kind args.other.now args.places2.now} second.numbers second.buffer)
