-- `base64_coding::decoding::write_bytes` meets its contract. The invariant: what is left of the text, stored from n on, makes the whole.
use mathlib.Core.Path.{◌∙◌, refl, subst, sym}
use native.Mathlib.Omega.{arith}
use borrow.Author.Rules.{rules}
use Rattle.base64_coding.specs.Clauses.{FitsAt}
use Rattle.base64_coding.proofs.Turns.{buffer-end, fits-still, fits_low, gave, gave_fits, more, unfit, written}
use Rattle.base64_coding.proofs.decoding.write_bytes.Goals as goal

pub loop-i-init : goal.loop-i-init
loop-i-init c = record { low = fits_low _ _ _ c.requires; same = refl; within = omega arith; fits = c.requires; whole = refl }

pub write_fours-i-requires : goal.write_fours-i-requires
write_fours-i-requires c = (
  c.skip_white-from.ensures.high,
  c.loop-i.invariant.low,
  subst (FitsAt c.loop-i.n _) (sym c.loop-i.invariant.same) (fits-still c.loop-i.invariant c.skip_white-from.ensures),
)

pub overflow_add-n : goal.overflow_add-n
overflow_add-n c =
    let w = written c.loop-i.invariant c.skip_white-from.ensures c.write_fours-i.ensures.place c.write_fours-i.auto.out c.write_fours-i.ensures.buffer in
    let room = w.room in omega arith

pub returns-in_default : goal.returns-in_default
returns-in_default c =
    let w = written c.loop-i.invariant c.skip_white-from.ensures c.write_fours-i.ensures.place c.write_fours-i.auto.out c.write_fours-i.ensures.buffer in
    absurd (unfit _ _ _ _ _ c.next_four.ensures c.in_default.is w.fits)

pub put_bytes-n-requires : goal.put_bytes-n-requires
put_bytes-n-requires c =
    let w = written c.loop-i.invariant c.skip_white-from.ensures c.write_fours-i.ensures.place c.write_fours-i.auto.out c.write_fours-i.ensures.buffer in
    let g = gave _ _ _ c.in-Some.four c.next_four.ensures c.in-Some.is (search rules) in
    let room = (gave_fits g _ _ w.fits).0 in let same = w.same in let long = g.long in omega arith

pub returns-then-four-lt3 : goal.returns-then-four-lt3
returns-then-four-lt3 c =
    let w = written c.loop-i.invariant c.skip_white-from.ensures c.write_fours-i.ensures.place c.write_fours-i.auto.out c.write_fours-i.ensures.buffer in
    let g = gave _ _ _ c.in-Some.four c.next_four.ensures c.in-Some.is (search rules) in
    let m = more g w.same w.fits w.whole c.put_bytes-n.ensures in
    sym (buffer-end _ _ _ (g.last c.if-four-lt3.true)) ∙ m.whole-is

pub loop-i-preserved-else-four-lt3 : goal.loop-i-preserved-else-four-lt3
loop-i-preserved-else-four-lt3 c =
    let w = written c.loop-i.invariant c.skip_white-from.ensures c.write_fours-i.ensures.place c.write_fours-i.auto.out c.write_fours-i.ensures.buffer in
    let g = gave _ _ _ c.in-Some.four c.next_four.ensures c.in-Some.is (search rules) in
    let m = more g w.same w.fits w.whole c.put_bytes-n.ensures in
    record { low = c.loop-i.invariant.low; same = m.same; within = g.within; fits = m.fits; whole = m.whole-is }

pub loop-i-preserved : goal.loop-i-preserved
loop-i-preserved c =
    let w = written c.loop-i.invariant c.skip_white-from.ensures c.write_fours-i.ensures.place c.write_fours-i.auto.out c.write_fours-i.ensures.buffer in
    record { low = c.loop-i.invariant.low; same = w.same; within = w.within; fits = w.fits; whole = w.whole }
