-- `base64_coding::decode_into` meets its contract: the first pass says how the call ends, and the second writes the bytes.
use mathlib.Core.Path.{◌∙◌, ap, refl, sym}
use Rattle.table.specs.Outcome.{most_input}
use Rattle.base64_rules.proofs.Laws.{decode-refused-6}
use Rattle.std.specs.Prelude.{Err}
use Rattle.std.proofs.lemmas.Result.{err_from_is_err_and}
use Rattle.base64_coding.specs.Clauses.{answer_as}
use Rattle.table.specs.Clauses.{size_as}
use Rattle.base64_coding.proofs.Calls.{decode-bad, decode-long, decode-made, fits, made-refusal}
use Rattle.base64_coding.proofs.decode_into.Goals as goal

pub returns-then-input-gt-MOST_INPUT : goal.returns-then-input-gt-MOST_INPUT
unfolding most_input
returns-then-input-gt-MOST_INPUT c =
    let whole = made-refusal _ 6 _ _ (decode-refused-6 _ _ c.if-input-gt-MOST_INPUT.true) refl in
    record { answer = whole.0; buffer = whole.1 }

-- the number of the refusal is the one that the first pass found
pub returns-in_err-n : goal.returns-in_err-n
unfolding most_input
returns-in_err-n c =
    let e = err_from_is_err_and _ c.from_residual.ensures.1 in
    let found = sym (ap size_as c.in_err-n.was) ∙ c.decoded_size.ensures in
    let whole = made-refusal _ _ _ _ (decode-bad _ _ c.if-input-gt-MOST_INPUT.false _ found) (ap answer_as (e.1 ∙ ap Err e.2)) in
    record { answer = whole.0; buffer = whole.1 }

pub returns-then-out-n : goal.returns-then-out-n
unfolding most_input
returns-then-out-n c =
    let found = sym (ap size_as c.in_ok-n.was) ∙ c.decoded_size.ensures in
    let whole = made-refusal _ 17 _ _ (decode-long _ _ c.if-input-gt-MOST_INPUT.false _ found c.if-out-n.true) refl in
    record { answer = whole.0; buffer = whole.1 }

pub write_bytes-requires : goal.write_bytes-requires
write_bytes-requires c = fits _ _ _ (sym (ap size_as c.in_ok-n.was) ∙ c.decoded_size.ensures) c.if-out-n.false

pub returns : goal.returns
unfolding most_input
returns c =
    let found = sym (ap size_as c.in_ok-n.was) ∙ c.decoded_size.ensures in
    let whole = decode-made _ _ c.if-input-gt-MOST_INPUT.false _ _ _ found c.if-out-n.false refl c.write_bytes.ensures in
    record { answer = whole.0; buffer = whole.1 }
