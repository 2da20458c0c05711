-- `binary::read_counted` meets its contract: each branch is a step of the definition. Under a flag nothing but the place is known.
use Rattle.binary_reading.proofs.Cells.{counted-bad, counted-flagged, counted-null, counted-short, counted-shown, part-is, part_length}
use Rattle.table.proofs.Failures.{handed-on}
use Rattle.table.specs.Clauses.{Reads}
use mathlib.Core.Path.{◌∙◌, refl, subst, sym}
use native.Mathlib.Omega.{arith}
use Rattle.binary_reading.proofs.read_counted.Goals as goal

pub returns-then-s-at : goal.returns-then-s-at
returns-then-s-at c =
    let a = c.args in
    record {
      found = counted-short a.column a.flagged a.n a.at c.content_bytes-size.result a.s.now c.content_bytes-size.ensures.0 c.if-s-at.true;
      within = tt;
      long = refl;
    }

pub returns-then-flagged : goal.returns-then-flagged
returns-then-flagged c =
    let a = c.args in
    record {
      found = counted-flagged a.column a.flagged a.n a.at c.content_bytes-size.result a.s.now c.content_bytes-size.ensures.0
          c.if-s-at.false c.if-flagged.true;
      within = (omega arith, omega (arith, c.if-s-at.false), tt);
      long = refl;
    }

pub read_content-requires : goal.read_content-requires
read_content-requires c =
    let a = c.args in
    let z = c.content_bytes-size in (
      part_length a.s.now a.at z.result c.if-s-at.false ∙ z.ensures.0,
      c.requires.1,
      c.requires.2,
    )

pub is_null-requires : goal.is_null-requires
is_null-requires c = omega (arith, c.in_ok-m.ensures.within, c.in_ok-m.ensures.long, c.requires)

pub returns-in_err-m : goal.returns-in_err-m
returns-in_err-m c =
    let a = c.args in
    let z = c.content_bytes-size in
    let e = c.in_err-m.ensures in
    let s = a.s.now in
    subst (Reads _ _ _ _ _) (sym (handed-on c.from_residual.ensures.1)) (record {
      found = counted-bad a.column a.flagged a.n a.at z.result s z.ensures.0 c.if-s-at.false c.if-flagged.false _ (part-is s a.at z.result) _ e.found;
      within = tt;
      long = e.long;
    })

pub returns-then-is_null : goal.returns-then-is_null
returns-then-is_null c =
    let a = c.args in
    let z = c.content_bytes-size in
    let e = c.in_ok-m.ensures in
    let s = a.s.now in
    record {
      found = counted-null a.column a.flagged a.n a.at z.result s z.ensures.0 c.if-s-at.false c.if-flagged.false _ (part-is s a.at z.result) _ e.found
          (sym c.is_null.ensures ∙ c.if-is_null.true);
      within = (omega arith, omega (arith, c.if-s-at.false, c.requires), tt);
      long = e.long;
    }

pub returns-else-is_null : goal.returns-else-is_null
returns-else-is_null c =
    let a = c.args in
    let z = c.content_bytes-size in
    let e = c.in_ok-m.ensures in
    let s = a.s.now in
    record {
      found = counted-shown a.column a.flagged a.n a.at z.result s z.ensures.0 c.if-s-at.false c.if-flagged.false _ (part-is s a.at z.result) _ e.found
          (sym c.is_null.ensures ∙ c.if-is_null.false);
      within = (omega arith, omega (arith, c.if-s-at.false, c.requires), omega (arith, e.within, e.long, c.requires));
      long = e.long;
    }
