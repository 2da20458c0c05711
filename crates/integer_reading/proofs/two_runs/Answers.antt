-- `integer_reading::two_runs` meets its contract: the digits at the front, and the eight behind them.
use Prim.Native.Nat.{◌+◌, ℕ}
use native.Mathlib.Omega.{arith}
use mathlib.Core.List.{List}
use mathlib.Core.Path.{refl}
use Rattle.integer_reading.proofs.Digits.{figures-lt, figures-read, figures-then, power_le}
use Rattle.integer_reading.proofs.Runs.{passes-front, passes-part}
use Rattle.integer_reading.specs.Figures.{FiguresAt}
use Rattle.eights.proofs.Fronts.{are-bytes}
use Rattle.table.specs.All.{AreBytes}
use borrow.Author.Rules.{rules}
use Rattle.integer_reading.proofs.two_runs.Goals as goal

pub overflow_mul-result : goal.overflow_mul-result
overflow_mul-result c =
    let bytes : AreBytes c.args.s.now = are-bytes c.args.s.now (λ i. omega (arith, c.shared_slice_known-1.given i)) in
    let s : List ℕ = c.args.s.now in
    let high : FiguresAt s c.args.at c.args.m c.decimal_of-high.result = (let h = c.requires in
    let some = passes-front c.args.m h.1 (omega arith) in
    figures-read bytes (omega (arith, h.1.inside)) h.2 (omega (arith, h.0)) some c.few_figures.ensures c.decimal_of-high.ensures) in
    record { fits = omega (arith, figures-lt high, power_le c.args.m 7 (omega arith)) }

pub overflow_add-result : goal.overflow_add-result
overflow_add-result c =
    let bytes : AreBytes c.args.s.now = are-bytes c.args.s.now (λ i. omega (arith, c.shared_slice_known-1.given i)) in
    let s : List ℕ = c.args.s.now in
    let high : FiguresAt s c.args.at c.args.m c.decimal_of-high.result = (let h = c.requires in
    let some = passes-front c.args.m h.1 (omega arith) in
    figures-read bytes (omega (arith, h.1.inside)) h.2 (omega (arith, h.0)) some c.few_figures.ensures c.decimal_of-high.ensures) in
    let low : FiguresAt s (c.args.at + c.args.m) 8 c.decimal_of-low.result = (let d = c.requires.1 in
    let eight = passes-part c.args.m 8 d (omega arith) in
    figures-read bytes (omega (arith, d.inside)) c.eight_bytes.ensures (omega arith) eight c.leading_figures.ensures c.decimal_of-low.ensures) in
    record { fits = omega (arith, figures-lt high, power_le c.args.m 7 (omega arith), figures-lt low) }

pub returns : goal.returns
returns c =
    let bytes : AreBytes c.args.s.now = are-bytes c.args.s.now (λ i. omega (arith, c.shared_slice_known-1.given i)) in
    let s : List ℕ = c.args.s.now in
    let high : FiguresAt s c.args.at c.args.m c.decimal_of-high.result = (let h = c.requires in
    let some = passes-front c.args.m h.1 (omega arith) in
    figures-read bytes (omega (arith, h.1.inside)) h.2 (omega (arith, h.0)) some c.few_figures.ensures c.decimal_of-high.ensures) in
    let low : FiguresAt s (c.args.at + c.args.m) 8 c.decimal_of-low.result = (let d = c.requires.1 in
    let eight = passes-part c.args.m 8 d (omega arith) in
    figures-read bytes (omega (arith, d.inside)) c.eight_bytes.ensures (omega arith) eight c.leading_figures.ensures c.decimal_of-low.ensures) in
    figures-then high low refl refl refl

pub overflow_add-at : goal.overflow_add-at
overflow_add-at c = search rules

pub eight_bytes-requires : goal.eight_bytes-requires
eight_bytes-requires c = search rules
