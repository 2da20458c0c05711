-- comparing::compare_rows: what differs is counted, then what is left of each input passed over; each way out is one law of Calls.
use mathlib.Core.Path.{◌∙◌, ◌≡◌, ap, sym}
use lib.ListN.{length}
use Rattle.compare.specs.Compare.{Compared, filled, rows_shown}
use Rattle.comparing.proofs.Calls.{both-shown, counts-are, first-refused, refused_as, second-refused, walk-read, walk_refused}
use Rattle.rows.specs.Sequence.{in_order}
use Rattle.rows.specs.Stream.{passed, read}
use Rattle.table.specs.ColumnList.{listed}
use Rattle.table.specs.Outcome.{answer_of}
use Rattle.table.specs.Result.{good}
use borrow.Author.Rules.{rules}
use Rattle.comparing.proofs.compare_rows.Goals as goal

pub returns-then-p-ne0 : goal.returns-then-p-ne0
returns-then-p-ne0 c =
    let first_walk : c.pass_rows-p.result ≡ answer_of (passed 0 (read c.args.from (listed c.args.cols) c.args.first.now)) =
    c.pass_rows-p.ensures.value ∙ ap answer_of (sym c.count_differing-s.ensures.counts.first-passed.ahead) in
    let p = c.pass_rows-p in
    let refusal = first-refused (listed c.args.cols) c.args.from c.args.first.now c.args.kind c.args.second.now c.args.places.now p.result
    (walk_refused c.args.from (listed c.args.cols) c.args.first.now p.result first_walk c.if-p-ne0.true) in
    record {
      value = c.refuse.ensures ∙ refused_as 0 p.result ∙ sym (ap (λ (x : Compared). x.answer) refusal);
      places_after = sym (ap (λ (x : Compared). x.buffer) refusal);
    }

pub returns-then-q-ne0 : goal.returns-then-q-ne0
returns-then-q-ne0 c =
    let first_walk : c.pass_rows-p.result ≡ answer_of (passed 0 (read c.args.from (listed c.args.cols) c.args.first.now)) =
    c.pass_rows-p.ensures.value ∙ ap answer_of (sym c.count_differing-s.ensures.counts.first-passed.ahead) in
    let second_walk : c.pass_rows-q.result ≡ answer_of (passed 0 (read c.args.kind (listed c.args.cols) c.args.second.now)) =
    c.pass_rows-q.ensures.value ∙ ap answer_of (sym c.count_differing-s.ensures.counts.second-passed.ahead) in
    let first_read : c.pass_rows-p.result.number ≡ 0 → (rows_shown 0 (read c.args.from (listed c.args.cols) c.args.first.now) ≡ good
    (in_order (read c.args.from (listed c.args.cols) c.args.first.now)))
    × (c.pass_rows-p.result.rows ≡ length (in_order (read c.args.from (listed c.args.cols) c.args.first.now))) =
    λ h. walk-read c.args.from (listed c.args.cols) c.args.first.now c.pass_rows-p.result first_walk h in
    let q = c.pass_rows-q in
    let refusal = second-refused (listed c.args.cols) c.args.from c.args.first.now c.args.kind c.args.second.now c.args.places.now
    (first_read c.if-p-ne0.false).0 q.result
    (walk_refused c.args.kind (listed c.args.cols) c.args.second.now q.result second_walk c.if-q-ne0.true) in
    record {
      value = c.refuse-then-q-ne0.ensures ∙ refused_as 1 q.result ∙ sym (ap (λ (x : Compared). x.answer) refusal);
      places_after = sym (ap (λ (x : Compared). x.buffer) refusal);
    }

pub fill-requires : goal.fill-requires
fill-requires c =
    (c.requires.0, c.requires.1, c.count_differing-s.ensures.counts.within, search rules, search rules)

pub returns : goal.returns
returns c =
    let first_walk : c.pass_rows-p.result ≡ answer_of (passed 0 (read c.args.from (listed c.args.cols) c.args.first.now)) =
    c.pass_rows-p.ensures.value ∙ ap answer_of (sym c.count_differing-s.ensures.counts.first-passed.ahead) in
    let second_walk : c.pass_rows-q.result ≡ answer_of (passed 0 (read c.args.kind (listed c.args.cols) c.args.second.now)) =
    c.pass_rows-q.ensures.value ∙ ap answer_of (sym c.count_differing-s.ensures.counts.second-passed.ahead) in
    let first_read : c.pass_rows-p.result.number ≡ 0 → (rows_shown 0 (read c.args.from (listed c.args.cols) c.args.first.now) ≡ good
    (in_order (read c.args.from (listed c.args.cols) c.args.first.now)))
    × (c.pass_rows-p.result.rows ≡ length (in_order (read c.args.from (listed c.args.cols) c.args.first.now))) =
    λ h. walk-read c.args.from (listed c.args.cols) c.args.first.now c.pass_rows-p.result first_walk h in
    let f = c.fill in
    let p = c.pass_rows-p in
    let q = c.pass_rows-q in
    let counted = c.count_differing-s.ensures.counts in
    let one = first_read c.if-p-ne0.false in
    let two = walk-read c.args.kind (listed c.args.cols) c.args.second.now q.result second_walk c.if-q-ne0.false in
    let shown = both-shown (listed c.args.cols) c.args.from c.args.first.now c.args.kind c.args.second.now c.args.places.now one.0 two.0 in
    record {
      value = counts-are _ p.result.rows q.result.rows _ _ _ (length c.args.places.now) _ _ _ counted.counts one.1 two.1
          c.beyond-more.ensures c.beyond-fewer.ensures (c.filled-noted.ensures ∙ ap (filled _) c.places-1.given)
          ∙ sym (ap (λ (x : Compared). x.answer) shown);
      places_after = f.ensures counted ∙ sym (ap (λ (x : Compared). x.buffer) shown);
    }
