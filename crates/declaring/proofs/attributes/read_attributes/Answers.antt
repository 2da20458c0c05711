-- declaring::attributes::read_attributes: the attributes of a tag: what is noted so far, and what is gathered from here on, is the whole.
use Prim.Native.Nat.{◌≤◌}
use Rattle.declaring.proofs.attributes.Tallies.{attribute-at, attribute-broken, comes-nameless, comes-not, comes-yes, going-broken, going_more, going_start, going-stop, tally-in}
use Rattle.declaring.specs.Readers.{AttributesIs}
use Rattle.fields.specs.Fields.{attribute_comes}
use borrow.Author.Rules.{rules}
use lib.ListN.{drop}
use mathlib.Core.Bool.{false}
use mathlib.Core.Logic.{⊎_elim}
use mathlib.Core.Path.{◌≡◌, subst, sym}
use native.Mathlib.Omega.{arith}
use Rattle.declaring.proofs.attributes.read_attributes.Goals as goal

pub loop-at-init : goal.loop-at-init
loop-at-init c = (search rules, search rules, record { datatype-in = tt; arraysize-in = tt; null-in = tt }, going_start _ _ c.requires)

pub returns-then-name-at : goal.returns-then-name-at
returns-then-name-at c =
    let i = c.loop-at.invariant in
    let white = c.skip_white-name.ensures in let bytes_of = c.span_end-name_end.ensures in
    let none : attribute_comes (drop c.loop-at.at c.args.s.now) ≡ false =
    ⊎_elim (comes-not _ _ _ _ white bytes_of) (λ p. comes-nameless _ _ _ _ white bytes_of p.0 p.1) c.then-name-at.either in
    record { rest = going-stop _ _ _ _ i.1 i.3 none; places = (i.0, i.1, i.2) }

pub returns-in_err-value : goal.returns-in_err-value
returns-in_err-value c =
    let i = c.loop-at.invariant in
    let white = c.skip_white-name.ensures in let bytes_of = c.span_end-name_end.ensures in
    let comes = comes-yes _ _ _ _ white bytes_of c.if-name-at.false c.if-name_end-name.false in
    let named = attribute-broken _ _ _ _ white bytes_of c.if-name_end-name.false c.in_err-value.ensures in
    subst (AttributesIs _ _) (sym c.from_residual.ensures) (record { rest = going-broken _ _ _ _ i.1 i.3 comes named; places = tt })

pub loop-at-preserved : goal.loop-at-preserved
loop-at-preserved c =
    let i = c.loop-at.invariant in
    let white = c.skip_white-name.ensures in let bytes_of = c.span_end-name_end.ensures in
    let q = c.in_ok-value.ensures in
    let comes = comes-yes _ _ _ _ white bytes_of c.if-name-at.false c.if-name_end-name.false in
    let far : c.loop-at.at ≤ c.in_ok-value.value.end = omega (arith, q.places, bytes_of.onward, white.low) in
    let named = attribute-at _ _ _ _ white bytes_of c.if-name_end-name.false _ q in (
      omega (arith, i.0, far),
      omega (arith, q.places.2),
      rw c.with_attribute-tally.ensures (tally-in _ _ _ _ (q.places.1, omega (arith, q.places.2)) i.2),
      rw c.with_attribute-tally.ensures (going_more _ _ _ _ i.1 _ _ i.3 comes named far),
    )
