-- `base64_coding::decoding::write_fours` meets its contract. The invariant: the bytes of the fours of letters up to the place that was reached
-- are stored; that there is room for those of the next four follows from all that the text gives.
use Prim.Native.Nat.{◌+◌, ◌≤◌}
use mathlib.Core.Path.{◌∙◌, ◌≡◌, ap, refl}
use native.Mathlib.Omega.{arith}
use lib.ListN.{length}
use lib.Seq.{sets}
use Rattle.base64_coding.specs.Clauses.{four_number, number_bytes, values_at}
use Rattle.base64_coding.proofs.Plain.{FourLetters, bounded, by_number, stored-all, stored_more, stored-none}
use Rattle.base64_coding.proofs.Turns.{stored-room}
use Rattle.base64_coding.proofs.decoding.write_fours.Goals as goal

pub loop-i-init : goal.loop-i-init
loop-i-init c = (c.requires.0, refl, stored-none _ _ _ _ c.requires.0)

pub four_values-requires : goal.four_values-requires
four_values-requires c = (omega arith, c.requires.1)

pub four_number-number-requires : goal.four_number-number-requires
four_number-number-requires c = bounded _ _ _ c.four_values.ensures

pub returns-then-number : goal.returns-then-number
returns-then-number c = let t = c.loop-i.invariant.2 in record { place = t.letters; buffer = stored-all _ _ _ _ _ _ _ t }

pub put3-requires : goal.put3-requires
put3-requires c =
    let number : c.four_number-number.result ≡ four_number (values_at c.args.s.now c.loop-i.i) = c.four_number-number.ensures ∙ ap four_number c.four_values.ensures in
    let four : FourLetters c.args.s.now c.loop-i.i = by_number _ _ _ number (omega arith) in
    let room : c.loop-i.o + 3 ≤ length c.args.out.now = stored-room _ _ _ _ _ _ (length c.args.out.now) _ c.loop-i.invariant.2 c.requires.2 (omega arith) four in
    let same = c.loop-i.invariant.1 in omega arith

pub overflow_add-o : goal.overflow_add-o
overflow_add-o c =
    let number : c.four_number-number.result ≡ four_number (values_at c.args.s.now c.loop-i.i) = c.four_number-number.ensures ∙ ap four_number c.four_values.ensures in
    let four : FourLetters c.args.s.now c.loop-i.i = by_number _ _ _ number (omega arith) in
    let room : c.loop-i.o + 3 ≤ length c.args.out.now = stored-room _ _ _ _ _ _ (length c.args.out.now) _ c.loop-i.invariant.2 c.requires.2 (omega arith) four in
    omega arith

pub loop-i-preserved : goal.loop-i-preserved
loop-i-preserved c =
    let number : c.four_number-number.result ≡ four_number (values_at c.args.s.now c.loop-i.i) = c.four_number-number.ensures ∙ ap four_number c.four_values.ensures in
    let four : FourLetters c.args.s.now c.loop-i.i = by_number _ _ _ number (omega arith) in
    let stored = c.put3.ensures ∙ ap (sets c.loop-i.out c.loop-i.o) (c.number_bytes.ensures ∙ ap number_bytes number) in (
      omega arith,
      c.put3.auto.out ∙ c.loop-i.invariant.1,
      stored_more _ _ _ _ _ _ _ _ _ c.loop-i.invariant.2 (omega arith) four refl stored,
    )

pub returns : goal.returns
returns c = let t = c.loop-i.invariant.2 in record { place = t.letters; buffer = stored-all _ _ _ _ _ _ _ t }
