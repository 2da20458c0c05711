-- `content_showing::text_run` meets its contract: before each turn the first k bytes are written as themselves.
use Prim.Native.Nat.{◌+◌, ◌≤◌, ℕ}
use mathlib.Core.Path.{ap}
use mathlib.Core.List.{List}
use lib.ListN.{drop, take}
use lib.Seq.{drop-drop}
use Rattle.content_showing.proofs.Marked.{run-front, run_more}
use Rattle.content_showing.specs.Showing.{is_itself}
use Rattle.eights.specs.Marks.{run}
use native.Mathlib.Omega.{arith}
use Rattle.content_showing.proofs.text_run.Goals as goal

pub loop-k-init : goal.loop-k-init
loop-k-init c = (omega arith, omega arith)

pub text_ahead-ahead-requires : goal.text_ahead-ahead-requires
text_ahead-ahead-requires c = omega arith

pub returns-then-ahead-lt8 : goal.returns-then-ahead-lt8
returns-then-ahead-lt8 c =
    let longer : let a = c.args in c.loop-k.k + c.text_ahead-ahead.result ≤ run is_itself (drop a.at a.s.now) = (let a = c.args in
    let k : ℕ = c.loop-k.k in
    run_more is_itself (drop a.at a.s.now) k _ 8 c.loop-k.invariant.1
    (omega (arith, c.text_ahead-ahead.ensures, ap (λ (l : List ℕ). run is_itself (take 8 l)) (drop-drop k a.at a.s.now)))) in
    let a = c.args in
    run-front is_itself (drop a.at a.s.now) _ a.n (omega arith) (omega (arith, longer))

pub loop-k-preserved : goal.loop-k-preserved
loop-k-preserved c =
    let longer : let a = c.args in c.loop-k.k + c.text_ahead-ahead.result ≤ run is_itself (drop a.at a.s.now) = (let a = c.args in
    let k : ℕ = c.loop-k.k in
    run_more is_itself (drop a.at a.s.now) k _ 8 c.loop-k.invariant.1
    (omega (arith, c.text_ahead-ahead.ensures, ap (λ (l : List ℕ). run is_itself (take 8 l)) (drop-drop k a.at a.s.now)))) in
    (omega arith, omega (arith, longer))

pub returns : goal.returns
returns c =
    let a = c.args in
    run-front is_itself (drop a.at a.s.now) _ a.n (omega arith) (omega (arith, c.loop-k.invariant.1))
