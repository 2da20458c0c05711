-- `integer_reading::more_digits` meets its contract: behind eight digits fewer than eight make two runs, and more a long one.
use Prim.Native.Nat.{◌+◌, ◌≤◌, ℕ}
use native.Mathlib.Omega.{arith}
use mathlib.Core.List.{List}
use mathlib.Core.Path.{◌≡◌, refl, sym}
use Rattle.integer_reading.proofs.Runs.{passes-ahead, passes_then}
use Rattle.integer_reading.specs.Figures.{is_digit}
use Rattle.integer_reading.specs.Runs.{Passes}
use Rattle.eights.proofs.Fronts.{are-bytes}
use Rattle.table.specs.All.{AreBytes}
use Rattle.integer_reading.proofs.more_digits.Goals as goal

pub two_runs-requires : goal.two_runs-requires
two_runs-requires c =
    let s : List ℕ = c.args.s.now in
    let bytes : AreBytes s = are-bytes s (λ i. omega (arith, c.shared_slice_known-1.given i)) in
    let found : Passes is_digit s (c.args.at + 8) c.first_of-m.result × (c.first_of-m.result ≤ 8) =
    passes-ahead s (c.args.at + 8) bytes (omega arith) c.eight_bytes.ensures c.no_digits.ensures c.first_of-m.ensures in
    let all : (n : ℕ) → 8 + c.first_of-m.result ≡ n → Passes is_digit s c.args.at n = λ n e. passes_then c.requires.1 found.0 refl (sym e) in
    (omega arith, all (c.first_of-m.result + 8) (omega arith), c.requires.2)

pub returns-then-m-lt8 : goal.returns-then-m-lt8
returns-then-m-lt8 c = (c.two_runs.ensures, omega arith)

pub long_run-requires : goal.long_run-requires
long_run-requires c =
    let s : List ℕ = c.args.s.now in
    let bytes : AreBytes s = are-bytes s (λ i. omega (arith, c.shared_slice_known-1.given i)) in
    let found : Passes is_digit s (c.args.at + 8) c.first_of-m.result × (c.first_of-m.result ≤ 8) =
    passes-ahead s (c.args.at + 8) bytes (omega arith) c.eight_bytes.ensures c.no_digits.ensures c.first_of-m.ensures in
    let all : (n : ℕ) → 8 + c.first_of-m.result ≡ n → Passes is_digit s c.args.at n = λ n e. passes_then c.requires.1 found.0 refl (sym e) in
    (omega arith, all 16 (omega (arith, found.1)), c.requires.2)
