-- `integer_reading::long_run` meets its contract: behind sixteen digits at most three, so three runs; or none is taken.
use Prim.Native.Nat.{◌+◌, ◌≤◌, ℕ}
use native.Mathlib.Omega.{arith}
use mathlib.Core.List.{List}
use mathlib.Core.Path.{◌≡◌, refl, subst}
use Rattle.integer_reading.proofs.Digits.{figures-lt, figures-none, figures-read, figures-then, power_le}
use Rattle.integer_reading.proofs.Runs.{passes-ahead, passes-front, passes-part, passes_then}
use Rattle.integer_reading.specs.Figures.{FiguresAt, is_digit}
use Rattle.integer_reading.specs.Runs.{Passes}
use Rattle.eights.proofs.Fronts.{are-bytes}
use Rattle.table.specs.All.{AreBytes}
use Rattle.integer_reading.proofs.long_run.Goals as goal

pub returns-then-m-gt3 : goal.returns-then-m-gt3
returns-then-m-gt3 c = (figures-none (omega arith), omega arith)

pub two_runs-high-requires : goal.two_runs-high-requires
two_runs-high-requires c =
    let s : List ℕ = c.args.s.now in
    let bytes : AreBytes s = are-bytes s (λ i. omega (arith, c.shared_slice_known-1.given i)) in
    let found : Passes is_digit s (c.args.at + 16) c.first_of-m.result × (c.first_of-m.result ≤ 8) =
    passes-ahead s (c.args.at + 16) bytes (omega arith) c.eight_bytes.ensures c.no_digits.ensures c.first_of-m.ensures in
    let all : Passes is_digit s c.args.at (16 + c.first_of-m.result) = passes_then c.requires.1 found.0 refl refl in
    (omega arith, passes-front (c.first_of-m.result + 8) all (omega arith), c.requires.2)

pub overflow_mul-result : goal.overflow_mul-result
overflow_mul-result c =
    let m : ℕ = c.first_of-m.result in
    record { fits = omega (arith, figures-lt c.two_runs-high.ensures, power_le (m + 8) 11 (omega arith)) }

pub overflow_add-result : goal.overflow_add-result
overflow_add-result c =
    let s : List ℕ = c.args.s.now in
    let bytes : AreBytes s = are-bytes s (λ i. omega (arith, c.shared_slice_known-1.given i)) in
    let found : Passes is_digit s (c.args.at + 16) c.first_of-m.result × (c.first_of-m.result ≤ 8) =
    passes-ahead s (c.args.at + 16) bytes (omega arith) c.eight_bytes.ensures c.no_digits.ensures c.first_of-m.ensures in
    let all : Passes is_digit s c.args.at (16 + c.first_of-m.result) = passes_then c.requires.1 found.0 refl refl in
    let m : ℕ = c.first_of-m.result in
    let low : FiguresAt s (c.args.at + m + 8) 8 c.decimal_of-low.result = (let here : c.args.at + (m + 8) ≡ c.args.at + m + 8 = omega arith in
    figures-read bytes (omega arith) c.eight_bytes-2.ensures (omega arith)
    (subst (λ (k : ℕ). Passes is_digit s k 8) here (passes-part (m + 8) 8 all (omega arith))) c.leading_figures.ensures c.decimal_of-low.ensures) in
    record { fits = omega (arith, figures-lt c.two_runs-high.ensures, power_le (m + 8) 11 (omega arith), figures-lt low) }

pub returns : goal.returns
returns c =
    let s : List ℕ = c.args.s.now in
    let bytes : AreBytes s = are-bytes s (λ i. omega (arith, c.shared_slice_known-1.given i)) in
    let found : Passes is_digit s (c.args.at + 16) c.first_of-m.result × (c.first_of-m.result ≤ 8) =
    passes-ahead s (c.args.at + 16) bytes (omega arith) c.eight_bytes.ensures c.no_digits.ensures c.first_of-m.ensures in
    let all : Passes is_digit s c.args.at (16 + c.first_of-m.result) = passes_then c.requires.1 found.0 refl refl in
    let m : ℕ = c.first_of-m.result in
    let low : FiguresAt s (c.args.at + m + 8) 8 c.decimal_of-low.result = (let here : c.args.at + (m + 8) ≡ c.args.at + m + 8 = omega arith in
    figures-read bytes (omega arith) c.eight_bytes-2.ensures (omega arith)
    (subst (λ (k : ℕ). Passes is_digit s k 8) here (passes-part (m + 8) 8 all (omega arith))) c.leading_figures.ensures c.decimal_of-low.ensures) in
    (figures-then c.two_runs-high.ensures low (omega arith) (omega arith) refl, omega arith)
