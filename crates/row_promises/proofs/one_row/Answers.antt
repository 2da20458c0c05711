-- A call of `sailmortar_index`, and one of `sailmortar_fetch` with what it left and answered.
use borrow.Author.Rules.{rules}
use Rattle.promises.proofs.Laws.{faces}
use Rattle.row_promises.proofs.OneRow.{fetch-unnamed, fetched-row, index-unnamed, indexed}
use Rattle.sailmortar.specs.Face.{fetch_face, index_face}
use Rattle.row_promises.proofs.one_row.Goals as goal

pub returns : goal.returns
returns c =
    let args = c.args in
    let told = c.sailmortar_index.ensures in
    let line = c.sailmortar_fetch.ensures in
    let built = faces {f = index_face args.decls.now args.from args.input.now args.index.now} told.numbers told.buffer in
    let fetched = faces {f = fetch_face args.decls.now args.from args.input.now _ _ args.row args.out.now} line.numbers line.buffer in
    record {
      unnamed = (index-unnamed _ args.from _ _ built, fetch-unnamed _ args.from _ _ _ args.row _ fetched);
      indexed = indexed _ args.from _ _ built;
      fetched = fetched-row _ args.from _ _ args.row _ built fetched;
    }
