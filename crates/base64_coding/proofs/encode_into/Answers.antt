-- `base64_coding::encode_into` meets its contract: how many letters there will be is known before they are written.
use Rattle.table.specs.Outcome.{most_input}
use mathlib.Core.Path.{refl}
use Rattle.base64_rules.proofs.Laws.{encode-refused-6, length-encode}
use Rattle.base64_coding.proofs.Calls.{encode-long, encode-made, made-refusal}
use native.Mathlib.Omega.{arith}
use Rattle.base64_coding.proofs.encode_into.Goals as goal

pub returns-then-input-gt-MOST_INPUT : goal.returns-then-input-gt-MOST_INPUT
unfolding most_input
returns-then-input-gt-MOST_INPUT c =
    let whole = made-refusal _ 6 _ _ (encode-refused-6 _ _ c.if-input-gt-MOST_INPUT.true) refl in
    record { answer = whole.0; buffer = whole.1 }

pub returns-then-out-n : goal.returns-then-out-n
unfolding most_input
returns-then-out-n c =
    let whole = made-refusal _ 17 _ _ (encode-long _ _ c.if-input-gt-MOST_INPUT.false c.if-out-n.true) refl in
    record { answer = whole.0; buffer = whole.1 }

pub write_letters-requires : goal.write_letters-requires
write_letters-requires c = let l = length-encode c.args.input.now in omega arith

pub returns : goal.returns
unfolding most_input
returns c =
    let whole = encode-made _ _ c.if-input-gt-MOST_INPUT.false _ _ c.if-out-n.false refl c.write_letters.ensures in
    record { answer = whole.0; buffer = whole.1 }
