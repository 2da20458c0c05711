-- `content_reading::read_bits` meets its contract: before each turn the characters passed over are bits, and stand in the buffer in whole bytes.
use Prim.Native.Nat.{◌+◌, ◌≤◌, ℕ}
use native.Mathlib.Omega.{arith}
use mathlib.Core.List.{List}
use mathlib.Core.Path.{◌≡◌, refl, subst}
use lib.ListN.{length, set}
use Rattle.integer_reading.proofs.Runs.{passes-ahead}
use Rattle.content_reading.proofs.Packing.{BitsTo, bits-more, bits-moved, bits-start}
use Rattle.integer_reading.specs.Figures.{BitByte, is_bit}
use Rattle.eights.proofs.Fronts.{are-bytes}
use Rattle.integer_reading.specs.Runs.{Passes}
use Rattle.moving.proofs.Puts.{puts-before}
use Rattle.table.specs.All.{AreBytes}
use borrow.Author.Rules.{rules}
use Rattle.content_reading.proofs.read_bits.Goals as goal

pub loop-at-init : goal.loop-at-init
loop-at-init c = (bits-start (omega arith) (omega arith), omega arith)

pub overflow_sub-s : goal.overflow_sub-s
overflow_sub-s c = c.loop-at.invariant.0.spells.inside

pub shape_of-row-then-s-at-lt8 : goal.shape_of-row-then-s-at-lt8
shape_of-row-then-s-at-lt8 c = c.loop-at.invariant.0.puts.long

pub returns-then-s-at-lt8 : goal.returns-then-s-at-lt8
returns-then-s-at-lt8 c = puts-before c.loop-at.invariant.0.puts

pub shape_of-row-then-row-o : goal.shape_of-row-then-row-o
shape_of-row-then-row-o c = c.loop-at.invariant.0.puts.long

pub returns-then-row-o : goal.returns-then-row-o
returns-then-row-o c = puts-before c.loop-at.invariant.0.puts

pub eight_bytes-x-requires : goal.eight_bytes-x-requires
eight_bytes-x-requires c = omega (arith, c.loop-at.invariant.0.spells.inside)

pub bit_byte-requires : goal.bit_byte-requires
bit_byte-requires c =
    let s : List ℕ = c.args.s.now in
    let bytes : AreBytes s = are-bytes s (λ i. omega (arith, c.shared_slice_known-1.given i)) in
    let inside : c.loop-at.at + 8 ≤ length s = omega (arith, c.loop-at.invariant.0.spells.inside) in
    let found : Passes is_bit s c.loop-at.at c.first_of-n.result × (c.first_of-n.result ≤ 8) =
    passes-ahead s c.loop-at.at bytes inside c.eight_bytes-x.ensures c.no_bits.ensures c.first_of-n.ensures in
    (omega arith, found.1)

pub overflow_add-result : goal.overflow_add-result
overflow_add-result c =
    let s : List ℕ = c.args.s.now in
    let bytes : AreBytes s = are-bytes s (λ i. omega (arith, c.shared_slice_known-1.given i)) in
    let inside : c.loop-at.at + 8 ≤ length s = omega (arith, c.loop-at.invariant.0.spells.inside) in
    let found : Passes is_bit s c.loop-at.at c.first_of-n.result × (c.first_of-n.result ≤ 8) =
    passes-ahead s c.loop-at.at bytes inside c.eight_bytes-x.ensures c.no_bits.ensures c.first_of-n.ensures in
    let turned : (n b : ℕ) → c.first_of-n.result ≡ n → (n ≡ 0 → ⊥) → BitByte c.eight_bytes-x.result n b → let l = c.loop-at in let a = c.args in
    BitsTo a.s.now a.from (l.at + n) a.row.now a.first (set l.row l.o b) (l.o + 1) = λ n b e some byte. (let r = c.loop-at.invariant in
    bits-more r.0 r.1 bytes inside (omega arith) c.eight_bytes-x.ensures (subst (Passes is_bit _ _) e found.0) (omega (arith, e, found.1)) some byte) in
    let last : let l = c.loop-at in let a = c.args in BitsTo a.s.now a.from (l.at + c.first_of-n.result) a.row.now a.first (set l.row l.o c.bit_byte.result) (l.o + 1) =
    turned _ _ refl c.if-n-eq0.false c.bit_byte.ensures in
    let h = last.spells.inside in search rules

pub overflow_sub-result : goal.overflow_sub-result
overflow_sub-result c =
    let s : List ℕ = c.args.s.now in
    let bytes : AreBytes s = are-bytes s (λ i. omega (arith, c.shared_slice_known-1.given i)) in
    let inside : c.loop-at.at + 8 ≤ length s = omega (arith, c.loop-at.invariant.0.spells.inside) in
    let found : Passes is_bit s c.loop-at.at c.first_of-n.result × (c.first_of-n.result ≤ 8) =
    passes-ahead s c.loop-at.at bytes inside c.eight_bytes-x.ensures c.no_bits.ensures c.first_of-n.ensures in
    let turned : (n b : ℕ) → c.first_of-n.result ≡ n → (n ≡ 0 → ⊥) → BitByte c.eight_bytes-x.result n b → let l = c.loop-at in let a = c.args in
    BitsTo a.s.now a.from (l.at + n) a.row.now a.first (set l.row l.o b) (l.o + 1) = λ n b e some byte. (let r = c.loop-at.invariant in
    bits-more r.0 r.1 bytes inside (omega arith) c.eight_bytes-x.ensures (subst (Passes is_bit _ _) e found.0) (omega (arith, e, found.1)) some byte) in
    let last : let l = c.loop-at in let a = c.args in BitsTo a.s.now a.from (l.at + c.first_of-n.result) a.row.now a.first (set l.row l.o c.bit_byte.result) (l.o + 1) =
    turned _ _ refl c.if-n-eq0.false c.bit_byte.ensures in
    last.spells.onward

pub overflow_add-result-then-n-lt8 : goal.overflow_add-result-then-n-lt8
overflow_add-result-then-n-lt8 c =
    let s : List ℕ = c.args.s.now in
    let bytes : AreBytes s = are-bytes s (λ i. omega (arith, c.shared_slice_known-1.given i)) in
    let inside : c.loop-at.at + 8 ≤ length s = omega (arith, c.loop-at.invariant.0.spells.inside) in
    let found : Passes is_bit s c.loop-at.at c.first_of-n.result × (c.first_of-n.result ≤ 8) =
    passes-ahead s c.loop-at.at bytes inside c.eight_bytes-x.ensures c.no_bits.ensures c.first_of-n.ensures in
    let turned : (n b : ℕ) → c.first_of-n.result ≡ n → (n ≡ 0 → ⊥) → BitByte c.eight_bytes-x.result n b → let l = c.loop-at in let a = c.args in
    BitsTo a.s.now a.from (l.at + n) a.row.now a.first (set l.row l.o b) (l.o + 1) = λ n b e some byte. (let r = c.loop-at.invariant in
    bits-more r.0 r.1 bytes inside (omega arith) c.eight_bytes-x.ensures (subst (Passes is_bit _ _) e found.0) (omega (arith, e, found.1)) some byte) in
    let last : let l = c.loop-at in let a = c.args in BitsTo a.s.now a.from (l.at + c.first_of-n.result) a.row.now a.first (set l.row l.o c.bit_byte.result) (l.o + 1) =
    turned _ _ refl c.if-n-eq0.false c.bit_byte.ensures in
    let h = last.spells.inside in search rules

pub overflow_add-result-then-n-lt8-2 : goal.overflow_add-result-then-n-lt8-2
overflow_add-result-then-n-lt8-2 c =
    let s : List ℕ = c.args.s.now in
    let bytes : AreBytes s = are-bytes s (λ i. omega (arith, c.shared_slice_known-1.given i)) in
    let inside : c.loop-at.at + 8 ≤ length s = omega (arith, c.loop-at.invariant.0.spells.inside) in
    let found : Passes is_bit s c.loop-at.at c.first_of-n.result × (c.first_of-n.result ≤ 8) =
    passes-ahead s c.loop-at.at bytes inside c.eight_bytes-x.ensures c.no_bits.ensures c.first_of-n.ensures in
    let turned : (n b : ℕ) → c.first_of-n.result ≡ n → (n ≡ 0 → ⊥) → BitByte c.eight_bytes-x.result n b → let l = c.loop-at in let a = c.args in
    BitsTo a.s.now a.from (l.at + n) a.row.now a.first (set l.row l.o b) (l.o + 1) = λ n b e some byte. (let r = c.loop-at.invariant in
    bits-more r.0 r.1 bytes inside (omega arith) c.eight_bytes-x.ensures (subst (Passes is_bit _ _) e found.0) (omega (arith, e, found.1)) some byte) in
    let last : let l = c.loop-at in let a = c.args in BitsTo a.s.now a.from (l.at + c.first_of-n.result) a.row.now a.first (set l.row l.o c.bit_byte.result) (l.o + 1) =
    turned _ _ refl c.if-n-eq0.false c.bit_byte.ensures in
    let h = last.puts.room in search rules

pub shape_of-row-then-n-lt8 : goal.shape_of-row-then-n-lt8
shape_of-row-then-n-lt8 c =
    let s : List ℕ = c.args.s.now in
    let bytes : AreBytes s = are-bytes s (λ i. omega (arith, c.shared_slice_known-1.given i)) in
    let inside : c.loop-at.at + 8 ≤ length s = omega (arith, c.loop-at.invariant.0.spells.inside) in
    let found : Passes is_bit s c.loop-at.at c.first_of-n.result × (c.first_of-n.result ≤ 8) =
    passes-ahead s c.loop-at.at bytes inside c.eight_bytes-x.ensures c.no_bits.ensures c.first_of-n.ensures in
    let turned : (n b : ℕ) → c.first_of-n.result ≡ n → (n ≡ 0 → ⊥) → BitByte c.eight_bytes-x.result n b → let l = c.loop-at in let a = c.args in
    BitsTo a.s.now a.from (l.at + n) a.row.now a.first (set l.row l.o b) (l.o + 1) = λ n b e some byte. (let r = c.loop-at.invariant in
    bits-more r.0 r.1 bytes inside (omega arith) c.eight_bytes-x.ensures (subst (Passes is_bit _ _) e found.0) (omega (arith, e, found.1)) some byte) in
    let last : let l = c.loop-at in let a = c.args in BitsTo a.s.now a.from (l.at + c.first_of-n.result) a.row.now a.first (set l.row l.o c.bit_byte.result) (l.o + 1) =
    turned _ _ refl c.if-n-eq0.false c.bit_byte.ensures in
    last.puts.long

pub returns-then-n-lt8 : goal.returns-then-n-lt8
returns-then-n-lt8 c =
    let s : List ℕ = c.args.s.now in
    let bytes : AreBytes s = are-bytes s (λ i. omega (arith, c.shared_slice_known-1.given i)) in
    let inside : c.loop-at.at + 8 ≤ length s = omega (arith, c.loop-at.invariant.0.spells.inside) in
    let found : Passes is_bit s c.loop-at.at c.first_of-n.result × (c.first_of-n.result ≤ 8) =
    passes-ahead s c.loop-at.at bytes inside c.eight_bytes-x.ensures c.no_bits.ensures c.first_of-n.ensures in
    let turned : (n b : ℕ) → c.first_of-n.result ≡ n → (n ≡ 0 → ⊥) → BitByte c.eight_bytes-x.result n b → let l = c.loop-at in let a = c.args in
    BitsTo a.s.now a.from (l.at + n) a.row.now a.first (set l.row l.o b) (l.o + 1) = λ n b e some byte. (let r = c.loop-at.invariant in
    bits-more r.0 r.1 bytes inside (omega arith) c.eight_bytes-x.ensures (subst (Passes is_bit _ _) e found.0) (omega (arith, e, found.1)) some byte) in
    let last : let l = c.loop-at in let a = c.args in BitsTo a.s.now a.from (l.at + c.first_of-n.result) a.row.now a.first (set l.row l.o c.bit_byte.result) (l.o + 1) =
    turned _ _ refl c.if-n-eq0.false c.bit_byte.ensures in
    bits-moved last (λ e. omega (arith, c.loop-at.invariant.0.spells.onward, e, c.if-n-eq0.false))

pub overflow_add-o : goal.overflow_add-o
overflow_add-o c =
    let s : List ℕ = c.args.s.now in
    let bytes : AreBytes s = are-bytes s (λ i. omega (arith, c.shared_slice_known-1.given i)) in
    let inside : c.loop-at.at + 8 ≤ length s = omega (arith, c.loop-at.invariant.0.spells.inside) in
    let found : Passes is_bit s c.loop-at.at c.first_of-n.result × (c.first_of-n.result ≤ 8) =
    passes-ahead s c.loop-at.at bytes inside c.eight_bytes-x.ensures c.no_bits.ensures c.first_of-n.ensures in
    let turned : (n b : ℕ) → c.first_of-n.result ≡ n → (n ≡ 0 → ⊥) → BitByte c.eight_bytes-x.result n b → let l = c.loop-at in let a = c.args in
    BitsTo a.s.now a.from (l.at + n) a.row.now a.first (set l.row l.o b) (l.o + 1) = λ n b e some byte. (let r = c.loop-at.invariant in
    bits-more r.0 r.1 bytes inside (omega arith) c.eight_bytes-x.ensures (subst (Passes is_bit _ _) e found.0) (omega (arith, e, found.1)) some byte) in
    let more : let l = c.loop-at in let a = c.args in BitsTo a.s.now a.from (l.at + 8) a.row.now a.first (set l.row l.o c.bit_byte-in-loop-at.result) (l.o + 1) =
    turned 8 _ (omega (arith, found.1)) (λ e. omega arith) c.bit_byte-in-loop-at.ensures in
    let h = more.puts.room in search rules

pub overflow_add-at : goal.overflow_add-at
overflow_add-at c =
    let s : List ℕ = c.args.s.now in
    let bytes : AreBytes s = are-bytes s (λ i. omega (arith, c.shared_slice_known-1.given i)) in
    let inside : c.loop-at.at + 8 ≤ length s = omega (arith, c.loop-at.invariant.0.spells.inside) in
    let found : Passes is_bit s c.loop-at.at c.first_of-n.result × (c.first_of-n.result ≤ 8) =
    passes-ahead s c.loop-at.at bytes inside c.eight_bytes-x.ensures c.no_bits.ensures c.first_of-n.ensures in
    let turned : (n b : ℕ) → c.first_of-n.result ≡ n → (n ≡ 0 → ⊥) → BitByte c.eight_bytes-x.result n b → let l = c.loop-at in let a = c.args in
    BitsTo a.s.now a.from (l.at + n) a.row.now a.first (set l.row l.o b) (l.o + 1) = λ n b e some byte. (let r = c.loop-at.invariant in
    bits-more r.0 r.1 bytes inside (omega arith) c.eight_bytes-x.ensures (subst (Passes is_bit _ _) e found.0) (omega (arith, e, found.1)) some byte) in
    let more : let l = c.loop-at in let a = c.args in BitsTo a.s.now a.from (l.at + 8) a.row.now a.first (set l.row l.o c.bit_byte-in-loop-at.result) (l.o + 1) =
    turned 8 _ (omega (arith, found.1)) (λ e. omega arith) c.bit_byte-in-loop-at.ensures in
    let h = more.spells.inside in search rules

pub loop-at-smaller : goal.loop-at-smaller
loop-at-smaller c =
    let s : List ℕ = c.args.s.now in
    let bytes : AreBytes s = are-bytes s (λ i. omega (arith, c.shared_slice_known-1.given i)) in
    let inside : c.loop-at.at + 8 ≤ length s = omega (arith, c.loop-at.invariant.0.spells.inside) in
    let found : Passes is_bit s c.loop-at.at c.first_of-n.result × (c.first_of-n.result ≤ 8) =
    passes-ahead s c.loop-at.at bytes inside c.eight_bytes-x.ensures c.no_bits.ensures c.first_of-n.ensures in
    let turned : (n b : ℕ) → c.first_of-n.result ≡ n → (n ≡ 0 → ⊥) → BitByte c.eight_bytes-x.result n b → let l = c.loop-at in let a = c.args in
    BitsTo a.s.now a.from (l.at + n) a.row.now a.first (set l.row l.o b) (l.o + 1) = λ n b e some byte. (let r = c.loop-at.invariant in
    bits-more r.0 r.1 bytes inside (omega arith) c.eight_bytes-x.ensures (subst (Passes is_bit _ _) e found.0) (omega (arith, e, found.1)) some byte) in
    let more : let l = c.loop-at in let a = c.args in BitsTo a.s.now a.from (l.at + 8) a.row.now a.first (set l.row l.o c.bit_byte-in-loop-at.result) (l.o + 1) =
    turned 8 _ (omega (arith, found.1)) (λ e. omega arith) c.bit_byte-in-loop-at.ensures in
    omega (arith, more.spells.inside)

pub loop-at-preserved : goal.loop-at-preserved
loop-at-preserved c =
    let s : List ℕ = c.args.s.now in
    let bytes : AreBytes s = are-bytes s (λ i. omega (arith, c.shared_slice_known-1.given i)) in
    let inside : c.loop-at.at + 8 ≤ length s = omega (arith, c.loop-at.invariant.0.spells.inside) in
    let found : Passes is_bit s c.loop-at.at c.first_of-n.result × (c.first_of-n.result ≤ 8) =
    passes-ahead s c.loop-at.at bytes inside c.eight_bytes-x.ensures c.no_bits.ensures c.first_of-n.ensures in
    let turned : (n b : ℕ) → c.first_of-n.result ≡ n → (n ≡ 0 → ⊥) → BitByte c.eight_bytes-x.result n b → let l = c.loop-at in let a = c.args in
    BitsTo a.s.now a.from (l.at + n) a.row.now a.first (set l.row l.o b) (l.o + 1) = λ n b e some byte. (let r = c.loop-at.invariant in
    bits-more r.0 r.1 bytes inside (omega arith) c.eight_bytes-x.ensures (subst (Passes is_bit _ _) e found.0) (omega (arith, e, found.1)) some byte) in
    let more : let l = c.loop-at in let a = c.args in BitsTo a.s.now a.from (l.at + 8) a.row.now a.first (set l.row l.o c.bit_byte-in-loop-at.result) (l.o + 1) =
    turned 8 _ (omega (arith, found.1)) (λ e. omega arith) c.bit_byte-in-loop-at.ensures in
    let r = c.loop-at.invariant in (more, omega (arith, r.1, r.0.spells.onward))

pub shape_of-row-then-at-from : goal.shape_of-row-then-at-from
shape_of-row-then-at-from c = c.loop-at.invariant.0.puts.long

pub returns-then-at-from : goal.returns-then-at-from
returns-then-at-from c = puts-before c.loop-at.invariant.0.puts

pub overflow_sub-result-2 : goal.overflow_sub-result-2
overflow_sub-result-2 c = c.loop-at.invariant.0.spells.onward

pub shape_of-row : goal.shape_of-row
shape_of-row c = c.loop-at.invariant.0.puts.long

pub returns : goal.returns
returns c = bits-moved c.loop-at.invariant.0 c.if-at-from.false
