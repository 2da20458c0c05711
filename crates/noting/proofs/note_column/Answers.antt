-- comparing::note_column: a place more where the cells differ, and none where they do not.
use mathlib.Core.Path.{◌∙◌, ap}
use lib.ListN.{length}
use Rattle.noting.proofs.Noting.{noted-long, notes-none, notes-one}
use Rattle.noting.proofs.note_column.Goals as goal

pub returns-then-not-differs : goal.returns-then-not-differs
returns-then-not-differs c =
    rw (c.if-not-differs.true) (notes-none c.args.noted c.args.places.now)

pub shape_of-places : goal.shape_of-places
shape_of-places c =
    ap length c.note.ensures ∙ noted-long c.args.noted c.args.row c.args.column c.args.places.now

pub returns : goal.returns
returns c =
    let n = c.note in
    rw (c.if-not-differs.false) (notes-one c.args.noted c.args.places.now c.args.row c.args.column _ n.ensures)
