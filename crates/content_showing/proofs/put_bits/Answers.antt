-- `content_showing::put_bits` meets its contract: before each turn the bits of the first k bytes are put.
use Prim.Native.Nat.{◌*◌, ◌+◌, ◌<◌, ◌≤◌, ℕ}
use mathlib.Core.Path.{◌≡◌, refl, subst}
use lib.ListN.{drop, length, take}
use Rattle.content_showing.proofs.Bits.{bits-start, byte_more}
use Rattle.content_showing.specs.Showing.{bit_letters}
use Rattle.moving.specs.Puts.{Puts}
use native.Mathlib.Omega.{arith}
use Rattle.content_showing.proofs.put_bits.Goals as goal

pub loop-k-init : goal.loop-k-init
loop-k-init c = let a = c.args in bits-start a.s.now a.row.now a.at a.o (omega (arith, c.requires.1))

pub overflow_mul-k : goal.overflow_mul-k
overflow_mul-k c = record { fits = omega (arith, c.requires.1) }

pub overflow_add-o : goal.overflow_add-o
overflow_add-o c = record { fits = omega (arith, c.requires.1) }

pub put_eight-requires : goal.put_eight-requires
put_eight-requires c =
    omega (arith, c.requires.1, c.loop-k.invariant.long)

pub loop-k-preserved : goal.loop-k-preserved
loop-k-preserved c =
    let a = c.args in
    let l = c.loop-k in
    let more : l.k < a.size = omega arith in
    let there : a.at + a.size ≤ length a.s.now = c.requires.0 in
    let word = c.bit_word.ensures in
    byte_more a.s.now a.at l.k _ _ (omega arith) refl word (omega (arith, c.requires.1, l.invariant.long)) c.put_eight.ensures l.invariant

pub returns : goal.returns
returns c =
    let a = c.args in
    let l = c.loop-k in
    let e : l.k ≡ a.size = omega arith in
    subst (λ (j : ℕ). Puts a.row.now a.o (bit_letters (take j (drop a.at a.s.now))) l.row (a.o + 8 * j)) e l.invariant

pub shape_of-row : goal.shape_of-row
shape_of-row c = c.loop-k.invariant.long
