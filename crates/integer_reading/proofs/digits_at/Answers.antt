-- `integer_reading::digits_at` meets its contract: fewer than eight digits are read at once, more in parts.
use Prim.Native.Nat.{◌≤◌, ℕ}
use native.Mathlib.Omega.{arith}
use mathlib.Core.List.{List}
use mathlib.Core.Path.{◌≡◌, subst}
use Rattle.integer_reading.proofs.Digits.{figures-read}
use Rattle.integer_reading.proofs.Runs.{passes-ahead}
use Rattle.integer_reading.specs.Figures.{is_digit}
use Rattle.integer_reading.specs.Runs.{Passes}
use Rattle.eights.proofs.Fronts.{are-bytes}
use Rattle.table.specs.All.{AreBytes}
use Rattle.integer_reading.proofs.digits_at.Goals as goal

pub returns-then-count-lt8 : goal.returns-then-count-lt8
returns-then-count-lt8 c =
    let s : List ℕ = c.args.s.now in
    let bytes : AreBytes s = are-bytes s (λ i. omega (arith, c.shared_slice_known-1.given i)) in
    let found : Passes is_digit s c.args.at c.first_of-count.result × (c.first_of-count.result ≤ 8) =
    passes-ahead s c.args.at bytes (omega arith) c.eight_bytes-x.ensures c.no_digits.ensures c.first_of-count.ensures in
    (figures-read bytes (omega arith) c.eight_bytes-x.ensures found.1 found.0 c.few_figures.ensures c.decimal_of.ensures, omega arith)

pub more_digits-requires : goal.more_digits-requires
more_digits-requires c =
    let s : List ℕ = c.args.s.now in
    let bytes : AreBytes s = are-bytes s (λ i. omega (arith, c.shared_slice_known-1.given i)) in
    let found : Passes is_digit s c.args.at c.first_of-count.result × (c.first_of-count.result ≤ 8) =
    passes-ahead s c.args.at bytes (omega arith) c.eight_bytes-x.ensures c.no_digits.ensures c.first_of-count.ensures in
    let n : c.first_of-count.result ≡ 8 = omega (arith, found.1) in
    (omega arith, subst (Passes is_digit s c.args.at) n found.0, c.eight_bytes-x.ensures)
