-- `tabledata_writing::put_char` meets its contract: a plain char but `>` stands for itself.
use Prim.Native.Nat.{◌<◌}
use native.Mathlib.Omega.{arith}
use mathlib.Core.List.{[], ◌∷◌}
use mathlib.Core.Path.{◌∙◌, ◌≡◌, ap, sym}
use lib.IntN.{pos}
use lib.ListN.{length}
use Rattle.table.proofs.Wrote.{wrote_as, wrote-long, wrote_one}
use Rattle.tabledata_writing.proofs.Writing.{char-plain, char_form}
use Rattle.tabledata_writing.proofs.put_char.Goals as goal

pub put_escaped-requires : goal.put_escaped-requires
put_escaped-requires c = c.requires

pub shape_of-out-then-not-is_plain : goal.shape_of-out-then-not-is_plain
shape_of-out-then-not-is_plain c = wrote-long c.put_escaped.ensures

pub returns-then-not-is_plain : goal.returns-then-not-is_plain
returns-then-not-is_plain c = c.put_escaped.ensures

pub put_escaped-requires-then-c-eq62 : goal.put_escaped-requires-then-c-eq62
put_escaped-requires-then-c-eq62 c = c.requires

pub shape_of-out-then-c-eq62 : goal.shape_of-out-then-c-eq62
shape_of-out-then-c-eq62 c = wrote-long c.put_escaped-then-c-eq62.ensures

pub returns-then-c-eq62 : goal.returns-then-c-eq62
returns-then-c-eq62 c = c.put_escaped-then-c-eq62.ensures

pub overflow_cast-out : goal.overflow_cast-out
overflow_cast-out c =
    let itself : (char_form (pos c.args.c) ≡ c.args.c ∷ []) × (c.args.c < 128) = char-plain c.args.c (sym c.is_plain.ensures ∙ c.if-not-is_plain.false) c.if-c-eq62.false in
    omega (arith, itself.1)

pub bounds-out-at : goal.bounds-out-at
bounds-out-at c =
    let itself : (char_form (pos c.args.c) ≡ c.args.c ∷ []) × (c.args.c < 128) = char-plain c.args.c (sym c.is_plain.ensures ∙ c.if-not-is_plain.false) c.if-c-eq62.false in
    omega (arith, c.requires, ap length itself.0)

pub returns : goal.returns
returns c =
    let itself : (char_form (pos c.args.c) ≡ c.args.c ∷ []) × (c.args.c < 128) = char-plain c.args.c (sym c.is_plain.ensures ∙ c.if-not-is_plain.false) c.if-c-eq62.false in
    let a = c.args in
    wrote_as (sym itself.0) (wrote_one a.out.now a.at a.c)
