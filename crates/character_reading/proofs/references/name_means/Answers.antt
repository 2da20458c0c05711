-- `character_reading::references::name_means` meets its contract: the names are tried in the definition's order.
use mathlib.Core.Bool.{false}
use mathlib.Core.Path.{◌∙◌, ◌≡◌, sym}
use Rattle.table.specs.Bytes.{bytes, same}
use Rattle.tabledata.specs.TableData.{named, names}
use Rattle.character_reading.proofs.references.name_means.Goals as goal

pub returns-then-same_bytes : goal.returns-then-same_bytes
unfolding named names
returns-then-same_bytes c = rw (sym c.same_bytes.ensures ∙ c.if-same_bytes.true)

pub returns-then-same_bytes-2 : goal.returns-then-same_bytes-2
unfolding named names
returns-then-same_bytes-2 c =
    let not-amp : same (bytes "amp") c.args.name.now ≡ false = sym c.same_bytes.ensures ∙ c.if-same_bytes.false in
    rw (not-amp, sym c.same_bytes-2.ensures ∙ c.if-same_bytes-2.true)

pub returns-then-same_bytes-3 : goal.returns-then-same_bytes-3
unfolding named names
returns-then-same_bytes-3 c =
    let not-amp : same (bytes "amp") c.args.name.now ≡ false = sym c.same_bytes.ensures ∙ c.if-same_bytes.false in
    let not-lt : same (bytes "lt") c.args.name.now ≡ false = sym c.same_bytes-2.ensures ∙ c.if-same_bytes-2.false in
    rw (not-amp, not-lt, sym c.same_bytes-3.ensures ∙ c.if-same_bytes-3.true)

pub returns-then-same_bytes-4 : goal.returns-then-same_bytes-4
unfolding named names
returns-then-same_bytes-4 c =
    let not-amp : same (bytes "amp") c.args.name.now ≡ false = sym c.same_bytes.ensures ∙ c.if-same_bytes.false in
    let not-lt : same (bytes "lt") c.args.name.now ≡ false = sym c.same_bytes-2.ensures ∙ c.if-same_bytes-2.false in
    let not-gt : same (bytes "gt") c.args.name.now ≡ false = sym c.same_bytes-3.ensures ∙ c.if-same_bytes-3.false in
    rw (not-amp, not-lt, not-gt, sym c.same_bytes-4.ensures ∙ c.if-same_bytes-4.true)

pub returns-then-same_bytes-5 : goal.returns-then-same_bytes-5
unfolding named names
returns-then-same_bytes-5 c =
    let not-amp : same (bytes "amp") c.args.name.now ≡ false = sym c.same_bytes.ensures ∙ c.if-same_bytes.false in
    let not-lt : same (bytes "lt") c.args.name.now ≡ false = sym c.same_bytes-2.ensures ∙ c.if-same_bytes-2.false in
    let not-gt : same (bytes "gt") c.args.name.now ≡ false = sym c.same_bytes-3.ensures ∙ c.if-same_bytes-3.false in
    let not-quot : same (bytes "quot") c.args.name.now ≡ false = sym c.same_bytes-4.ensures ∙ c.if-same_bytes-4.false in
    rw (not-amp, not-lt, not-gt, not-quot, sym c.same_bytes-5.ensures ∙ c.if-same_bytes-5.true)

pub returns : goal.returns
unfolding named names
returns c =
    let not-amp : same (bytes "amp") c.args.name.now ≡ false = sym c.same_bytes.ensures ∙ c.if-same_bytes.false in
    let not-lt : same (bytes "lt") c.args.name.now ≡ false = sym c.same_bytes-2.ensures ∙ c.if-same_bytes-2.false in
    let not-gt : same (bytes "gt") c.args.name.now ≡ false = sym c.same_bytes-3.ensures ∙ c.if-same_bytes-3.false in
    let not-quot : same (bytes "quot") c.args.name.now ≡ false = sym c.same_bytes-4.ensures ∙ c.if-same_bytes-4.false in
    rw (not-amp, not-lt, not-gt, not-quot, sym c.same_bytes-5.ensures ∙ c.if-same_bytes-5.false)
