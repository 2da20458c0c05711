-- `content_passing::pass_text` meets its contract: letters up to a NUL or to the end are what is shown, and they are put as they stand.
use Prim.Native.Nat.{◌≤◌}
use native.Mathlib.Omega.{arith}
use lib.ListN.{drop}
use Rattle.content_passing.proofs.Texts.{ends_at, run_take, text-moved}
use Rattle.eights.proofs.Fronts.{are-bytes}
use Rattle.eights.specs.Marks.{is_letter}
use Rattle.moving.proofs.Puts.{puts_none}
use Rattle.table.specs.All.{AreBytes}
use Rattle.content_passing.proofs.pass_text.Goals as goal

pub overflow_add-at : goal.overflow_add-at
overflow_add-at c =
    let few : c.letters_in-shown.result ≤ c.args.n = let a = c.args in omega (arith, c.letters_in-shown.ensures, run_take is_letter a.n (drop a.at a.s.now)) in
    record { fits = omega (arith, few) }

pub bounds-s-at : goal.bounds-s-at
bounds-s-at c =
    let few : c.letters_in-shown.result ≤ c.args.n = let a = c.args in omega (arith, c.letters_in-shown.ensures, run_take is_letter a.n (drop a.at a.s.now)) in
    omega (arith, few)

pub returns-then-shown-n : goal.returns-then-shown-n
returns-then-shown-n c = puts_none _ _ (omega arith)

pub copy-end-requires : goal.copy-end-requires
copy-end-requires c =
    let few : c.letters_in-shown.result ≤ c.args.n = let a = c.args in omega (arith, c.letters_in-shown.ensures, run_take is_letter a.n (drop a.at a.s.now)) in
    (omega (arith, few), omega (arith, few))

pub returns : goal.returns
returns c =
    let a = c.args in
    let bytes : AreBytes a.s.now = are-bytes a.s.now (λ i. omega (arith, c.shared_slice_known-1.given i)) in
    text-moved a.n _ a.s.now a.row.now _ a.at a.o _ bytes (omega arith) c.letters_in-shown.ensures
    (ends_at _ _ _ c.if-shown-n.false) c.copy-end.ensures
