-- `base64_coding::decoding::next_four` meets its contract: what the characters read so far are, and what the rest is.
use mathlib.Core.Path.{◌∙◌, ap, refl, subst, sym}
use borrow.Author.Rules.{rules}
use borrow.Author.Tests.{ne_eqb}
use Rattle.base64_rules.specs.Base64.{fours, is_pad}
use Rattle.base64_coding.specs.Clauses.{FourIs, bytes_as}
use Rattle.base64_coding.proofs.Fours.{at-end, at_byte, four-inside, four-none, four-one, four-short, four-three, four-two, no-one, no-three, no-two, run-four, run-start, run-three, run-two}
use Rattle.base64_coding.proofs.High.{four_low}
use Rattle.base64_coding.proofs.decoding.next_four.Goals as goal

pub returns-in_default : goal.returns-in_default
returns-in_default c = four-none _ _ _ c.requires.0 (at-end _ _ _ c.next_byte.ensures c.in_default.is)

pub next_byte-requires-2 : goal.next_byte-requires-2
next_byte-requires-2 c = (run-start _ _ _ _ _ c.next_byte.ensures c.in-Some.is).within

pub returns-in_err-b : goal.returns-in_err-b
unfolding fours
returns-in_err-b c =
    subst (FourIs _ _) (sym c.from_residual.ensures) (four-short _ _ _ _ (run-start _ _ _ _ _ c.next_byte.ensures c.in-Some.is) (at-end _ _ _ c.next_byte-2.ensures c.in_err-b.was) refl)

pub next_byte-requires-3 : goal.next_byte-requires-3
next_byte-requires-3 c = (run-two c.next_byte.ensures c.in-Some.is c.next_byte-2.ensures c.in_ok-b.was).within

pub returns-in_err-c : goal.returns-in_err-c
unfolding fours
returns-in_err-c c =
    subst (FourIs _ _) (sym c.from_residual-in_err-c.ensures)
    (four-short _ _ _ _ (run-two c.next_byte.ensures c.in-Some.is c.next_byte-2.ensures c.in_ok-b.was) (at-end _ _ _ c.next_byte-3.ensures c.in_err-c.was) refl)

pub next_byte-requires-4 : goal.next_byte-requires-4
next_byte-requires-4 c = (run-three c.next_byte.ensures c.in-Some.is c.next_byte-2.ensures c.in_ok-b.was c.next_byte-3.ensures c.in_ok-c.was).within

pub returns-in_err-d : goal.returns-in_err-d
unfolding fours
returns-in_err-d c =
    let three = run-three c.next_byte.ensures c.in-Some.is c.next_byte-2.ensures c.in_ok-b.was c.next_byte-3.ensures c.in_ok-c.was in
    subst (FourIs _ _) (sym c.from_residual-in_err-d.ensures) (four-short _ _ _ _ three (at-end _ _ _ c.next_byte-4.ensures c.in_err-d.was) refl)

pub three_bytes-requires : goal.three_bytes-requires
three_bytes-requires c =
    let all4 = run-four c.next_byte.ensures c.in-Some.is c.next_byte-2.ensures c.in_ok-b.was c.next_byte-3.ensures c.in_ok-c.was c.next_byte-4.ensures c.in_ok-d.was in
    four_low _ _ _ _ _ _ _ c.requires.1 all4

pub returns-in_err-bytes : goal.returns-in_err-bytes
unfolding is_pad
returns-in_err-bytes c =
    let all4 = run-four c.next_byte.ensures c.in-Some.is c.next_byte-2.ensures c.in_ok-b.was c.next_byte-3.ensures c.in_ok-c.was c.next_byte-4.ensures c.in_ok-d.was in
    subst (FourIs _ _) (sym c.from_residual-in_err-bytes.ensures)
    (no-three _ _ _ _ _ _ _ all4 (ne_eqb _ _ c.if-d-ne61.true) (sym (ap bytes_as c.in_err-bytes.was) ∙ c.three_bytes.ensures))

pub returns-then-d-ne61 : goal.returns-then-d-ne61
unfolding is_pad
returns-then-d-ne61 c =
    let all4 = run-four c.next_byte.ensures c.in-Some.is c.next_byte-2.ensures c.in_ok-b.was c.next_byte-3.ensures c.in_ok-c.was c.next_byte-4.ensures c.in_ok-d.was in
    four-three _ _ _ _ _ _ _ all4 _ (ne_eqb _ _ c.if-d-ne61.true) (search rules) (sym (ap bytes_as c.in_ok-bytes.was) ∙ c.three_bytes.ensures)

pub next_byte-requires-5 : goal.next_byte-requires-5
next_byte-requires-5 c =
    let all4 = run-four c.next_byte.ensures c.in-Some.is c.next_byte-2.ensures c.in_ok-b.was c.next_byte-3.ensures c.in_ok-c.was c.next_byte-4.ensures c.in_ok-d.was in
    all4.within

pub returns-in_default-next_byte : goal.returns-in_default-next_byte
returns-in_default-next_byte c =
    let all4 = run-four c.next_byte.ensures c.in-Some.is c.next_byte-2.ensures c.in_ok-b.was c.next_byte-3.ensures c.in_ok-c.was c.next_byte-4.ensures c.in_ok-d.was in
    four-inside _ _ _ _ _ _ _ all4 _ _ c.if-d-ne61.false (at_byte _ _ _ _ _ c.next_byte-5.ensures c.in_default-next_byte.is)

pub two_bytes-requires : goal.two_bytes-requires
two_bytes-requires c =
    let all4 = run-four c.next_byte.ensures c.in-Some.is c.next_byte-2.ensures c.in_ok-b.was c.next_byte-3.ensures c.in_ok-c.was c.next_byte-4.ensures c.in_ok-d.was in
    let l = four_low _ _ _ _ _ _ _ c.requires.1 all4 in (l.0, l.1, l.2)

pub returns-in_err-x : goal.returns-in_err-x
unfolding is_pad
returns-in_err-x c =
    let all4 = run-four c.next_byte.ensures c.in-Some.is c.next_byte-2.ensures c.in_ok-b.was c.next_byte-3.ensures c.in_ok-c.was c.next_byte-4.ensures c.in_ok-d.was in
    subst (FourIs _ _) (sym c.from_residual-in_err-x.ensures)
    (no-two _ _ _ _ _ _ _ all4 c.if-d-ne61.false (at-end _ _ _ c.next_byte-5.ensures c.in-None.is) (ne_eqb _ _ c.if-c-ne61.true) (sym (ap bytes_as c.in_err-x.was) ∙ c.two_bytes.ensures))

pub returns-then-c-ne61 : goal.returns-then-c-ne61
unfolding is_pad
returns-then-c-ne61 c =
    let all4 = run-four c.next_byte.ensures c.in-Some.is c.next_byte-2.ensures c.in_ok-b.was c.next_byte-3.ensures c.in_ok-c.was c.next_byte-4.ensures c.in_ok-d.was in
    four-two _ _ _ _ _ _ _ all4 c.if-d-ne61.false (at-end _ _ _ c.next_byte-5.ensures c.in-None.is) _ (ne_eqb _ _ c.if-c-ne61.true) (search rules)
    (sym (ap bytes_as c.in_ok-x.was) ∙ c.two_bytes.ensures)

pub one_byte-requires : goal.one_byte-requires
one_byte-requires c =
    let all4 = run-four c.next_byte.ensures c.in-Some.is c.next_byte-2.ensures c.in_ok-b.was c.next_byte-3.ensures c.in_ok-c.was c.next_byte-4.ensures c.in_ok-d.was in
    let l = four_low _ _ _ _ _ _ _ c.requires.1 all4 in (l.0, l.1)

pub returns-in_err-x-2 : goal.returns-in_err-x-2
returns-in_err-x-2 c =
    let all4 = run-four c.next_byte.ensures c.in-Some.is c.next_byte-2.ensures c.in_ok-b.was c.next_byte-3.ensures c.in_ok-c.was c.next_byte-4.ensures c.in_ok-d.was in
    subst (FourIs _ _) (sym c.from_residual-in_err-x-2.ensures)
    (no-one _ _ _ _ _ _ _ all4 c.if-d-ne61.false (at-end _ _ _ c.next_byte-5.ensures c.in-None.is) c.if-c-ne61.false (sym (ap bytes_as c.in_err-x-2.was) ∙ c.one_byte.ensures))

pub returns : goal.returns
returns c =
    let all4 = run-four c.next_byte.ensures c.in-Some.is c.next_byte-2.ensures c.in_ok-b.was c.next_byte-3.ensures c.in_ok-c.was c.next_byte-4.ensures c.in_ok-d.was in
    four-one _ _ _ _ _ _ _ all4 c.if-d-ne61.false (at-end _ _ _ c.next_byte-5.ensures c.in-None.is) _ c.if-c-ne61.false (search rules)
    (sym (ap bytes_as c.in_ok-x-2.was) ∙ c.one_byte.ensures)
