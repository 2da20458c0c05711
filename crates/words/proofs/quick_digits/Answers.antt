-- `words::quick_digits` meets its contract. The run behind and the run still to come are the whole run; the number is that of the digits behind.
use Prim.Native.Nat.{◌+◌, ◌-◌, ◌<◌, suc, ℕ}
use mathlib.Core.Bool.{true}
use mathlib.Core.Path.{◌∙◌, ◌≡◌, ap, refl, sym}
use native.Mathlib.Omega.{arith}
use lib.ListN.{drop, get_or, length}
use Rattle.words.specs.Clauses.{leading_digits}
use Rattle.number.specs.Number.{numeral}
use Rattle.table.specs.Bytes.{between}
use Rattle.table.proofs.Laws.{between_is}
use Rattle.words.proofs.QuickLaws.{leading_end, leading-go, leading-out, leading-stop, leading-zero, number_lt, number_more}
use Rattle.words.proofs.WordLaws.{lt-or}
use Rattle.number.proofs.Laws.{digit-yes}
use Rattle.words.proofs.quick_digits.Goals as goal

pub loop-next-init : goal.loop-next-init
unfolding numeral
loop-next-init c =
    let a = c.args in
    let none : a.at - a.at ≡ 0 = omega arith in
    let all : a.at + 18 - a.at ≡ 18 = omega arith in
    (rw all refl, rw none refl)

pub returns-then-not-is_ascii_digit : goal.returns-then-not-is_ascii_digit
unfolding between
returns-then-not-is_ascii_digit c =
    let l = c.loop-next in
    let a = c.args in
    leading_end a.s.now a.at l.next l.number (omega arith) l.invariant.1 l.invariant.0
    (leading-stop a.s.now l.next (a.at + 18 - l.next) (omega arith) (sym c.is_ascii_digit.ensures.value ∙ c.if-not-is_ascii_digit.true))

pub overflow_mul-number : goal.overflow_mul-number
overflow_mul-number c =
    let l = c.loop-next in
    omega (arith, number_lt c.args.s.now c.args.at l.next l.number (omega arith) l.invariant.1 (omega (arith, c.min-end.ensures)))

pub overflow_add-number : goal.overflow_add-number
overflow_add-number c =
    let l = c.loop-next in
    omega (arith, number_lt c.args.s.now c.args.at l.next l.number (omega arith) l.invariant.1 (omega (arith, c.min-end.ensures)))

pub loop-next-preserved : goal.loop-next-preserved
unfolding between
loop-next-preserved c =
    let l = c.loop-next in
    let a = c.args in
    let b = get_or a.s.now l.next 0 in
    let inside : l.next < length a.s.now = omega (arith, c.min-end.ensures) in
    let is : between 48 57 b ≡ true = sym c.is_ascii_digit.ensures.value ∙ c.if-not-is_ascii_digit.false in
    let bounds = between_is 48 57 b is in
    let first : a.at + 18 - l.next ≡ suc (a.at + 18 - (l.next + 1)) = omega (arith, c.min-end.ensures) in
    let rest : leading_digits (a.at + 18 - l.next) (drop l.next a.s.now) ≡ suc (leading_digits (a.at + 18 - (l.next + 1)) (drop (l.next + 1) a.s.now)) =
    ap (λ (n : ℕ). leading_digits n (drop l.next a.s.now)) first ∙ leading-go a.s.now l.next (a.at + 18 - (l.next + 1)) inside is in (
      omega (arith, l.invariant.0),
      number_more a.s.now a.at l.next l.number (omega arith) l.invariant.1 inside (b - 48) (digit-yes b bounds.0 bounds.1),
    )

pub returns : goal.returns
returns c =
    let l = c.loop-next in
    let a = c.args in
    let end : l.next ≡ c.min-end.result = omega arith in
    let zero_left : (n : ℕ) → n ≡ 0 → leading_digits n (drop l.next a.s.now) ≡ 0 = λ n e. ap (λ (k : ℕ). leading_digits k (drop l.next a.s.now)) e ∙ leading-zero a.s.now l.next in
    rw (← end)
    (leading_end a.s.now a.at l.next l.number (omega arith) l.invariant.1 l.invariant.0
    (lt-or l.next (a.at + 18) (λ b. leading-out a.s.now l.next (a.at + 18 - l.next) (omega (arith, c.min-end.ensures))) (λ b. zero_left (a.at + 18 - l.next) (omega arith))))
