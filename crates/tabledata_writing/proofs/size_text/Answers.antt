-- tabledata_writing::size_text: null, nothing, or elements, where what they are says the shape of the kind.
use Prim.Native.Nat.{◌*◌, ◌+◌, ◌≤◌, ℕ}
use native.Mathlib.Omega.{arith}
use mathlib.Core.Path.{◌∙◌, ap, sym}
use lib.ListN.{length}
use lib.Seq.{length-take-le}
use Rattle.number.proofs.Laws.{shape_of}
use Rattle.table.specs.Result.{good}
use Rattle.tabledata_writing.proofs.Writing.{size_none, size-null, size_of_bits, size-of-chars, size-of-truths, size-of-whole}
use Rattle.tabledata_writing.proofs.size_text.Goals as goal

pub returns-in_default : goal.returns-in_default
returns-in_default c = rw c.in_default.is (sym (size-null c.args.column))

pub returns-then-count-eq0 : goal.returns-then-count-eq0
returns-then-count-eq0 c =
    let within : c.in-Some.count ≤ length c.args.scratch.now = rw c.in-Some.is at c.requires.0 in
    rw c.in-Some.is (sym (size_none c.args.column _ (omega (arith, length-take-le c.in-Some.count c.args.scratch.now within))))

pub returns-in-Truths : goal.returns-in-Truths
returns-in-Truths c =
    let within : c.in-Some.count ≤ length c.args.scratch.now = rw c.in-Some.is at c.requires.0 in
    let taken = length-take-le c.in-Some.count c.args.scratch.now within in
    rw c.in-Some.is
    (sym (size-of-truths c.args.column _ (omega (arith, taken)) (shape_of c.elements_of.ensures c.in-Truths.is)
    ∙ ap (λ (n : ℕ). good (2 * n + 8)) taken))

pub returns-in-Bits : goal.returns-in-Bits
returns-in-Bits c =
    let within : c.in-Some.count ≤ length c.args.scratch.now = rw c.in-Some.is at c.requires.0 in
    let taken = length-take-le c.in-Some.count c.args.scratch.now within in
    rw c.in-Some.is
    (sym (size_of_bits c.args.column _ (omega (arith, taken)) (shape_of c.elements_of.ensures c.in-Bits.is)
    ∙ ap (λ (n : ℕ). good (n + 9)) taken))

pub returns-in-Text : goal.returns-in-Text
returns-in-Text c =
    let within : c.in-Some.count ≤ length c.args.scratch.now = rw c.in-Some.is at c.requires.0 in
    let taken = length-take-le c.in-Some.count c.args.scratch.now within in
    rw c.in-Some.is (c.chars_size.ensures ∙ sym (size-of-chars c.args.column _ (omega (arith, taken)) (shape_of c.elements_of.ensures c.in-Text.is)))

pub returns-in-Whole : goal.returns-in-Whole
returns-in-Whole c =
    let within : c.in-Some.count ≤ length c.args.scratch.now = rw c.in-Some.is at c.requires.0 in
    let taken = length-take-le c.in-Some.count c.args.scratch.now within in
    rw c.in-Some.is (ap good c.integers_size.ensures ∙ sym (size-of-whole c.args.column _ (omega (arith, taken)) _ _ (shape_of c.elements_of.ensures c.in-Whole.is)))
