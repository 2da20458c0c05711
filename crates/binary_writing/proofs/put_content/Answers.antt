-- binary_writing::put_content: what the elements are says the shape of the kind, and so the bytes and their room.
use Prim.Native.Nat.{◌+◌, ◌≤◌}
use Rattle.binary_writing.proofs.Writing.{length-integers, text-filled, truth-bytes, whole-bytes}
use Rattle.binary.specs.Binary.{bytes_of, content_bytes, number}
use Rattle.binary.specs.Clauses.{filled_bytes}
use Rattle.number.proofs.Laws.{shape_of}
use Rattle.number.specs.Clauses.{is_signed, width_of}
use Rattle.table.proofs.Wrote.{wrote_as, wrote_then_lem}
use Rattle.table.specs.Shape.{Shape}
use lib.ListN.{length}
use mathlib.Core.Path.{subst}
use native.Mathlib.Omega.{arith}
use Rattle.binary_writing.proofs.put_content.Goals as goal

pub put_truths-requires : goal.put_truths-requires
unfolding filled_bytes content_bytes
put_truths-requires c =
    let a = c.args in
    subst (λ (k : Shape). a.at + filled_bytes k a.room (length a.elements.now) ≤ length a.out.now) (shape_of c.elements_of.ensures c.in-Truths.is) c.requires.1

pub put_bits-requires : goal.put_bits-requires
unfolding filled_bytes content_bytes
put_bits-requires c =
    let a = c.args in
    subst (λ (k : Shape). a.at + filled_bytes k a.room (length a.elements.now) ≤ length a.out.now) (shape_of c.elements_of.ensures c.in-Bits.is) c.requires.1

pub put_integers-requires : goal.put_integers-requires
unfolding filled_bytes content_bytes
put_integers-requires c =
    let a = c.args in
    subst (λ (k : Shape). a.at + filled_bytes k a.room (length a.elements.now) ≤ length a.out.now) (shape_of c.elements_of.ensures c.in-Whole.is) c.requires.1

pub put_integers-next-requires : goal.put_integers-next-requires
unfolding filled_bytes content_bytes
put_integers-next-requires c =
    let a = c.args in
    let room = subst (λ (k : Shape). a.at + filled_bytes k a.room (length a.elements.now) ≤ length a.out.now) (shape_of c.elements_of.ensures c.in-Text.is) c.requires.1 in
    omega (arith, room)

pub put_zeros-requires : goal.put_zeros-requires
unfolding filled_bytes content_bytes
put_zeros-requires c =
    let a = c.args in
    let room = subst (λ (k : Shape). a.at + filled_bytes k a.room (length a.elements.now) ≤ length a.out.now) (shape_of c.elements_of.ensures c.in-Text.is) c.requires.1 in
    omega (arith, room, c.put_integers-next.ensures.next-is, length-integers 1 a.elements.now, c.put_integers-next.auto.out)

pub returns-in-Truths : goal.returns-in-Truths
unfolding bytes_of
returns-in-Truths c = rw (shape_of c.elements_of.ensures c.in-Truths.is) (wrote_as (truth-bytes c.args.elements.now) c.put_truths.ensures)

pub returns-in-Bits : goal.returns-in-Bits
unfolding bytes_of number
returns-in-Bits c = rw (shape_of c.elements_of.ensures c.in-Bits.is) c.put_bits.ensures

pub returns-in-Whole : goal.returns-in-Whole
unfolding bytes_of
returns-in-Whole c =
    let integer = c.in-Whole.integer in
    rw (shape_of c.elements_of.ensures c.in-Whole.is)
    (wrote_as (whole-bytes (is_signed integer) (width_of integer) c.args.elements.now) c.put_integers.ensures)

pub returns-in-Text : goal.returns-in-Text
returns-in-Text c =
    rw (shape_of c.elements_of.ensures c.in-Text.is)
    (wrote_as (text-filled c.args.room c.args.elements.now) (wrote_then_lem c.put_integers-next.ensures c.put_zeros.ensures))
