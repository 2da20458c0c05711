-- `content_showing::put_truths` meets its contract: before each turn the letters of the first k bytes are put.
use Prim.Native.Nat.{◌*◌, ◌+◌, ◌<◌, ◌≤◌, ℕ}
use mathlib.Core.Path.{◌≡◌, refl, subst}
use lib.ListN.{drop, length, take}
use Rattle.content_showing.proofs.Truths.{truth-more, truths-start}
use Rattle.content_showing.specs.Showing.{TruthsPut}
use native.Mathlib.Omega.{arith}
use Rattle.content_showing.proofs.put_truths.Goals as goal

pub loop-k-init : goal.loop-k-init
loop-k-init c = let a = c.args in truths-start a.s.now a.row.now a.at a.o (omega (arith, c.requires.1))

pub overflow_mul-k : goal.overflow_mul-k
overflow_mul-k c = record { fits = omega (arith, c.requires.1) }

pub overflow_add-o : goal.overflow_add-o
overflow_add-o c = record { fits = omega (arith, c.requires.1) }

pub put_truth-letter-requires : goal.put_truth-letter-requires
put_truth-letter-requires c = omega (arith, c.requires.1, c.loop-k.invariant.puts.long)

pub loop-k-preserved : goal.loop-k-preserved
loop-k-preserved c =
    let a = c.args in
    let l = c.loop-k in
    let t = c.put_truth-letter.ensures in
    let more : l.k < a.n = omega arith in
    let there : a.at + a.n ≤ length a.s.now = c.requires.0 in
    truth-more a.s.now a.at l.k _ _ _ (omega arith) refl t.0 t.1 l.invariant

pub returns : goal.returns
returns c =
    let a = c.args in
    let l = c.loop-k in
    let e : l.k ≡ a.n = omega arith in
    subst (λ (j : ℕ). TruthsPut (take j (drop a.at a.s.now)) a.row.now a.o l.row (a.o + 2 * j) l.bad) e l.invariant

pub shape_of-row : goal.shape_of-row
shape_of-row c = c.loop-k.invariant.puts.long
