-- `content_reading::letter_at` meets its contract: four bytes are those of a reference, or the character is another function's.
use native.Mathlib.Omega.{arith}
use mathlib.Core.Path.{refl}
use Rattle.content_reading.proofs.Chars.{amp-letter, gt-letter, lt-letter}
use Rattle.eights.proofs.Fronts.{are-bytes}
use Rattle.table.specs.All.{AreBytes}
use Rattle.tabledata.specs.TableData.{is_text}
use Rattle.table.specs.Bytes.{between}
use Rattle.content_reading.proofs.letter_at.Goals as goal

pub returns-then-x-eq644641851 : goal.returns-then-x-eq644641851
unfolding is_text between
returns-then-x-eq644641851 c =
    let bytes : AreBytes c.args.s.now = are-bytes c.args.s.now (λ i. omega (arith, c.shared_slice_known-1.given i)) in
    (lt-letter _ _ _ bytes (omega arith) c.four_bytes-x.ensures (omega arith), refl, omega arith)

pub returns-then-x-eq644314171 : goal.returns-then-x-eq644314171
unfolding is_text between
returns-then-x-eq644314171 c =
    let bytes : AreBytes c.args.s.now = are-bytes c.args.s.now (λ i. omega (arith, c.shared_slice_known-1.given i)) in
    (gt-letter _ _ _ bytes (omega arith) c.four_bytes-x.ensures (omega arith), refl, omega arith)

pub returns : goal.returns
unfolding is_text between
returns c =
    let bytes : AreBytes c.args.s.now = are-bytes c.args.s.now (λ i. omega (arith, c.shared_slice_known-1.given i)) in
    (amp-letter _ _ _ bytes (omega arith) c.four_bytes-x.ensures c.if-x-ne643919216.false (omega arith) c.if-s-at-ne59.false, refl, omega arith)
