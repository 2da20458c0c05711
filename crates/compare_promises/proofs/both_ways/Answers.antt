-- Two calls of `sailmortar_compare`: their contracts are all that the law asks.
use borrow.Author.Rules.{rules}
use Rattle.compare_promises.proofs.Nights.{compared-both-ways}
use Rattle.promises.proofs.Laws.{faces}
use Rattle.sailmortar.specs.Face.{compare_face}
use Rattle.compare_promises.proofs.both_ways.Goals as goal

pub returns : goal.returns
returns c =
    let back = c.sailmortar_compare-2.ensures in
    let there = c.sailmortar_compare.ensures in
    let args = c.args in
    compared-both-ways args.decls.now args.from args.first.now args.kind args.second.now args.places1.now args.places2.now
    (faces {f = compare_face args.decls.now args.from args.first.now args.kind args.second.now args.places1.now} there.numbers there.buffer)
    (faces {f = compare_face args.decls.now args.kind args.second.now args.from args.first.now args.places2.now} back.numbers back.buffer)
