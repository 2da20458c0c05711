-- `binary_writing::packed_byte` meets its contract. The invariant: the bits that are left, behind those in b, spell the whole number.
use Prim.Native.Nat.{◌*◌, ◌+◌, ◌-◌, ◌<◌, ◌^◌, ℕ}
use Rattle.binary_writing.proofs.Writing.{bits-grow, digits-end, digits-next, packed-exact, packed-small}
use Rattle.binary.specs.Binary.{bit_of}
use Rattle.number.specs.Number.{of_digits}
use borrow.Author.Rules.{rules}
use lib.IntN.{pos}
use lib.ListN.{drop, get_or, length}
use mathlib.Core.List.{map}
use mathlib.Core.Path.{◌∙◌, ◌≡◌, ap, sym}
use mir.Syntax.{w64}
use mir.Val.{of_z, to_z}
use native.Mathlib.Omega.{arith}
use Rattle.binary_writing.proofs.packed_byte.Goals as goal

pub loop-z-preserved : goal.loop-z-preserved
loop-z-preserved c =
    let es = c.args.bits.now in let l = c.loop-z in let z = get_or es l.z-index (pos 0) in
    let held : to_z w64 (of_z w64 z) ≡ z = search rules in
    let bit : c.bit_of.result ≡ bit_of z = c.bit_of.ensures.0 ∙ ap bit_of held in
    let turn = digits-next l.b es l.z-index c.loop-z-test.true ∙ ap (λ (r : ℕ). of_digits 2 (l.b * 2 + r) (map bit_of (drop (l.z-index + 1) es))) (sym bit) in
    (bits-grow l.z-index l.b c.bit_of.result l.invariant.0 c.bit_of.ensures.1, sym turn ∙ l.invariant.1)

pub overflow_cast-result : goal.overflow_cast-result
overflow_cast-result c =
    let m = length c.args.bits.now in let l = c.loop-z in
    let j : l.z-index ≡ m = omega arith in
    let h : l.b < 2 ^ m = rw (← j) l.invariant.0 in
    record { fits = rw (packed-exact l.b m h c.requires) (packed-small l.b m h c.requires) }

pub returns : goal.returns
returns c =
    let m = length c.args.bits.now in let l = c.loop-z in
    let j : l.z-index ≡ m = omega arith in
    let h : l.b < 2 ^ m = rw (← j) l.invariant.0 in
    let told = sym (digits-end l.b c.args.bits.now l.z-index c.loop-z-test.false) ∙ l.invariant.1 in
    packed-exact l.b m h c.requires ∙ ap (λ (x : ℕ). x * 2 ^ (8 - m)) told
