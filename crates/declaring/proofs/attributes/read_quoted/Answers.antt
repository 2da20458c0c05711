-- declaring::attributes::read_quoted: a value in its quotes: the span of its bytes ends at the quote, or there is none.
use Rattle.declaring.proofs.spans.Scan.{quoted-less, quoted-none, quoted-open, quoted-yes}
use mathlib.Core.Path.{◌∙◌, sym}
use Rattle.declaring.proofs.attributes.read_quoted.Goals.{else-end-s-via-then-end-s+else-s-end, else-end-s-via-else-end-s}
use Rattle.declaring.proofs.attributes.read_quoted.Goals as goal

pub returns-then-not-is_quote : goal.returns-then-not-is_quote
returns-then-not-is_quote c = quoted-none _ _ c.requires (sym c.is_quote.ensures ∙ c.if-not-is_quote.true)

pub returns-then-s-end : goal.returns-then-s-end
returns-then-s-end c =
    quoted-yes _ _ c.requires (sym c.is_quote.ensures ∙ c.if-not-is_quote.false) _ c.span_end-end.ensures c.if-end-s.true c.if-s-end.true

pub returns : goal.returns
returns c =
    let quote = sym c.is_quote.ensures ∙ c.if-not-is_quote.false in
    elim c.else-end-s.branch [
      | else-end-s-via-then-end-s+else-s-end w ↦
          quoted-less c.args.s.now c.args.from c.requires quote c.span_end-end.result c.span_end-end.ensures w.if-end-s.true w.if-s-end.false
      | else-end-s-via-else-end-s w ↦ quoted-open _ _ c.requires quote _ c.span_end-end.ensures w.if-end-s.false
    ]
