-- `binary_writing::put_bits` meets its contract. The invariant: what is left of the bits is still to be written here.
use Prim.Native.Nat.{◌*◌, ◌-◌, ◌/◌, ◌<◌, ◌^◌, ℕ}
use Rattle.binary_writing.proofs.Writing.{eight-at, eight-byte, length-packed, pack-end, pack-left}
use Rattle.binary.specs.Binary.{bit_of}
use Rattle.number.specs.Number.{of_digits}
use Rattle.table.proofs.Wrote.{left-none, left-room, left_step, wrote_one}
use borrow.Author.Tests.{eqb-false, eqb-true}
use lib.IntN.{ℤ}
use lib.ListN.{drop, get_or, length}
use mathlib.Core.List.{List, [], ◌∷◌, map}
use mathlib.Core.Path.{◌∙◌, ◌≡◌, ap, refl, sym}
use native.Mathlib.Omega.{arith}
use Rattle.binary_writing.proofs.put_bits.Goals as goal

pub bounds-out-o : goal.bounds-out-o
bounds-out-o c =
    let bits = c.args.bits.now in let k = c.loop-eight.eight-index in
    let few : k < length bits / 8 = omega (arith, c.as_chunks.ensures.front_len, c.loop-eight-test.true) in
    let eight = ap (λ (l : List (List ℤ)). get_or l k []) c.as_chunks.ensures.front ∙ eight-at [] (length bits / 8) k bits few in
    let byte = c.packed_byte.ensures ∙ ap (λ (es : List ℤ). of_digits 2 0 (map bit_of es) * 2 ^ (8 - length es)) eight in
    let more = eight-byte bits k c.packed_byte.result (omega arith) byte in
    let room = left-room c.loop-eight.invariant (c.packed_byte.result ∷ []) _ more (omega (arith, c.requires, length-packed bits)) in
    omega (arith, room)

pub overflow_add-o : goal.overflow_add-o
overflow_add-o c =
    let bits = c.args.bits.now in let k = c.loop-eight.eight-index in
    let few : k < length bits / 8 = omega (arith, c.as_chunks.ensures.front_len, c.loop-eight-test.true) in
    let eight = ap (λ (l : List (List ℤ)). get_or l k []) c.as_chunks.ensures.front ∙ eight-at [] (length bits / 8) k bits few in
    let byte = c.packed_byte.ensures ∙ ap (λ (es : List ℤ). of_digits 2 0 (map bit_of es) * 2 ^ (8 - length es)) eight in
    let more = eight-byte bits k c.packed_byte.result (omega arith) byte in
    let room = left-room c.loop-eight.invariant (c.packed_byte.result ∷ []) _ more (omega (arith, c.requires, length-packed bits)) in
    omega (arith, room)

pub loop-eight-preserved : goal.loop-eight-preserved
loop-eight-preserved c =
    let bits = c.args.bits.now in let k = c.loop-eight.eight-index in
    let few : k < length bits / 8 = omega (arith, c.as_chunks.ensures.front_len, c.loop-eight-test.true) in
    let eight = ap (λ (l : List (List ℤ)). get_or l k []) c.as_chunks.ensures.front ∙ eight-at [] (length bits / 8) k bits few in
    let byte = c.packed_byte.ensures ∙ ap (λ (es : List ℤ). of_digits 2 0 (map bit_of es) * 2 ^ (8 - length es)) eight in
    let more = eight-byte bits k c.packed_byte.result (omega arith) byte in
    left_step c.loop-eight.invariant more (wrote_one c.loop-eight.out c.loop-eight.o c.packed_byte.result)

pub returns-then-is_empty : goal.returns-then-is_empty
returns-then-is_empty c =
    let bits = c.args.bits.now in
    let k : c.loop-eight.eight-index ≡ length bits / 8 = omega (arith, c.as_chunks.ensures.front_len, c.loop-eight-test.false, c.loop-eight.auto.eight-index-end) in
    let none = eqb-true (length c.as_chunks.result.1.now) 0 (sym c.is_empty.ensures ∙ c.if-is_empty.true) in
    left-none c.loop-eight.invariant (pack-end bits (8 * c.loop-eight.eight-index) (omega (arith, k, none, c.as_chunks.ensures.back_len)))

pub bounds-out-o-2 : goal.bounds-out-o-2
bounds-out-o-2 c =
    let bits = c.args.bits.now in
    let k : c.loop-eight.eight-index ≡ length bits / 8 = omega (arith, c.as_chunks.ensures.front_len, c.loop-eight-test.false, c.loop-eight.auto.eight-index-end) in
    let some : 0 < length c.as_chunks.result.1.now = omega (arith, eqb-false (length c.as_chunks.result.1.now) 0 (sym c.is_empty.ensures ∙ c.if-is_empty.false)) in
    let rest : c.as_chunks.result.1.now ≡ drop (8 * c.loop-eight.eight-index) bits = c.as_chunks.ensures.back ∙ ap (λ (j : ℕ). drop j bits) (omega (arith, k)) in
    let few : length c.as_chunks.result.1.now < 8 = omega (arith, c.as_chunks.ensures.back_len) in
    let packed = pack-left bits (8 * c.loop-eight.eight-index) (rw rest at some) (rw rest at few) in
    let byte = packed ∙ ap (λ (es : List ℤ). (of_digits 2 0 (map bit_of es) * 2 ^ (8 - length es)) ∷ []) (sym rest) ∙ ap (λ (x : ℕ). x ∷ []) (sym c.packed_byte-2.ensures) in
    let room = left-room c.loop-eight.invariant (c.packed_byte-2.result ∷ []) [] byte (omega (arith, c.requires, length-packed bits)) in
    omega (arith, room)

pub overflow_add-result : goal.overflow_add-result
overflow_add-result c =
    let bits = c.args.bits.now in
    let k : c.loop-eight.eight-index ≡ length bits / 8 = omega (arith, c.as_chunks.ensures.front_len, c.loop-eight-test.false, c.loop-eight.auto.eight-index-end) in
    let some : 0 < length c.as_chunks.result.1.now = omega (arith, eqb-false (length c.as_chunks.result.1.now) 0 (sym c.is_empty.ensures ∙ c.if-is_empty.false)) in
    let rest : c.as_chunks.result.1.now ≡ drop (8 * c.loop-eight.eight-index) bits = c.as_chunks.ensures.back ∙ ap (λ (j : ℕ). drop j bits) (omega (arith, k)) in
    let few : length c.as_chunks.result.1.now < 8 = omega (arith, c.as_chunks.ensures.back_len) in
    let packed = pack-left bits (8 * c.loop-eight.eight-index) (rw rest at some) (rw rest at few) in
    let byte = packed ∙ ap (λ (es : List ℤ). (of_digits 2 0 (map bit_of es) * 2 ^ (8 - length es)) ∷ []) (sym rest) ∙ ap (λ (x : ℕ). x ∷ []) (sym c.packed_byte-2.ensures) in
    let room = left-room c.loop-eight.invariant (c.packed_byte-2.result ∷ []) [] byte (omega (arith, c.requires, length-packed bits)) in
    omega (arith, room)

pub returns : goal.returns
returns c =
    let bits = c.args.bits.now in
    let k : c.loop-eight.eight-index ≡ length bits / 8 = omega (arith, c.as_chunks.ensures.front_len, c.loop-eight-test.false, c.loop-eight.auto.eight-index-end) in
    let some : 0 < length c.as_chunks.result.1.now = omega (arith, eqb-false (length c.as_chunks.result.1.now) 0 (sym c.is_empty.ensures ∙ c.if-is_empty.false)) in
    let rest : c.as_chunks.result.1.now ≡ drop (8 * c.loop-eight.eight-index) bits = c.as_chunks.ensures.back ∙ ap (λ (j : ℕ). drop j bits) (omega (arith, k)) in
    let few : length c.as_chunks.result.1.now < 8 = omega (arith, c.as_chunks.ensures.back_len) in
    let packed = pack-left bits (8 * c.loop-eight.eight-index) (rw rest at some) (rw rest at few) in
    let byte = packed ∙ ap (λ (es : List ℤ). (of_digits 2 0 (map bit_of es) * 2 ^ (8 - length es)) ∷ []) (sym rest) ∙ ap (λ (x : ℕ). x ∷ []) (sym c.packed_byte-2.ensures) in
    left-none (left_step c.loop-eight.invariant byte (wrote_one c.loop-eight.out c.loop-eight.o c.packed_byte-2.result)) refl
