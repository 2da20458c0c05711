-- `flags::few_bytes` meets its contract. The loop's invariant: the bytes from the k-th on, behind those in x, spell the whole number.
use Prim.Native.Nat.{◌+◌, ◌-◌, ◌<◌}
use Rattle.flags.proofs.FlagLaws.{byte_next, bytes_fit, bytes-grow, no_byte}
use lib.Dec.{lit<}
use lib.ListN.{drop, get_or, length-drop, take}
use lib.Seq.{length-take-le}
use native.Mathlib.Omega.{arith}
use mathlib.Core.Path.{◌∙◌, ◌≡◌, refl, sym}
use Rattle.flags.proofs.few_bytes.Goals as goal

pub loop-b-init : goal.loop-b-init
loop-b-init c = (lit< tt, refl)

pub overflow_mul-x : goal.overflow_mul-x
overflow_mul-x c =
    let l = c.loop-b in
    let long = length-take-le (c.args.at + c.args.n - c.args.at) (drop c.args.at c.args.s.now) (omega (arith, length-drop c.args.at c.args.s.now, c.requires.0)) in
    omega (arith, bytes-grow l.b-index l.x 0 l.invariant.0 (lit< tt), bytes_fit (l.b-index + 1) (omega (arith, long, c.loop-b-test.true, c.requires.1)))

pub overflow_add-x : goal.overflow_add-x
overflow_add-x c =
    let l = c.loop-b in
    let part = take (c.args.at + c.args.n - c.args.at) (drop c.args.at c.args.s.now) in
    let long = length-take-le (c.args.at + c.args.n - c.args.at) (drop c.args.at c.args.s.now) (omega (arith, length-drop c.args.at c.args.s.now, c.requires.0)) in
    let byte : get_or part l.b-index 0 < 256 = omega arith in
    omega (arith, bytes-grow l.b-index l.x (get_or part l.b-index 0) l.invariant.0 byte, bytes_fit (l.b-index + 1) (omega (arith, long, c.loop-b-test.true, c.requires.1)))

pub loop-b-preserved : goal.loop-b-preserved
loop-b-preserved c =
    let l = c.loop-b in
    let part = take (c.args.at + c.args.n - c.args.at) (drop c.args.at c.args.s.now) in
    (bytes-grow l.b-index l.x _ l.invariant.0 (omega arith), sym (byte_next part l.b-index l.x c.loop-b-test.true) ∙ l.invariant.1)

pub returns : goal.returns
returns c =
    let l = c.loop-b in
    let long : c.args.at + c.args.n - c.args.at ≡ c.args.n = omega arith in
    no_byte _ l.b-index l.x c.loop-b-test.false ∙ l.invariant.1 ∙ rw long
