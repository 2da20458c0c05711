-- `content_passing::letters_in` meets its contract: before each turn all that was passed over are letters.
use Prim.Native.Nat.{◌+◌, ◌≤◌, min, ℕ}
use native.Mathlib.Nat.{add-zero}
use native.Mathlib.Omega.{arith}
use mathlib.Core.List.{List}
use mathlib.Core.Path.{◌∙◌, ◌≡◌, ap}
use lib.ListN.{drop}
use lib.Seq.{drop-drop}
use Rattle.content_passing.proofs.Texts.{run_drop, run_take}
use Rattle.eights.specs.Marks.{is_letter, run}
use Rattle.content_passing.proofs.letters_in.Goals as goal

pub loop-k-init : goal.loop-k-init
loop-k-init c = let a = c.args in (omega arith, omega (arith, ap (λ (j : ℕ). run is_letter (drop j a.s.now)) (add-zero a.at)))

pub returns-then-ahead-lt8 : goal.returns-then-ahead-lt8
returns-then-ahead-lt8 c =
    let eight : let a = c.args in c.letters_ahead-ahead.result ≡ min 8 (run is_letter (drop (a.at + c.loop-k.k) a.s.now)) = let a = c.args in
    c.letters_ahead-ahead.ensures ∙ run_take is_letter 8 (drop (a.at + c.loop-k.k) a.s.now) in
    let a = c.args in
    omega (arith, eight, run_take is_letter a.n (drop a.at a.s.now))

pub loop-k-preserved : goal.loop-k-preserved
loop-k-preserved c =
    let eight : let a = c.args in c.letters_ahead-ahead.result ≡ min 8 (run is_letter (drop (a.at + c.loop-k.k) a.s.now)) = let a = c.args in
    c.letters_ahead-ahead.ensures ∙ run_take is_letter 8 (drop (a.at + c.loop-k.k) a.s.now) in
    let a = c.args in let k = c.loop-k.k in
    let s : List ℕ = a.s.now in
    let more : 8 ≤ run is_letter (drop (a.at + k) s) = omega (arith, eight) in
    let on : a.at + k + 8 ≡ a.at + (k + 8) = omega arith in
    let rest : drop 8 (drop (a.at + k) s) ≡ drop (a.at + (k + 8)) s = drop-drop 8 (a.at + k) s ∙ ap (λ (j : ℕ). drop j s) on in
    (omega arith, omega (arith, run_drop is_letter 8 (drop (a.at + k) s) more, ap (run is_letter) rest, c.loop-k.invariant.1))

pub returns : goal.returns
returns c =
    let a = c.args in omega (arith, run_take is_letter a.n (drop a.at a.s.now))
