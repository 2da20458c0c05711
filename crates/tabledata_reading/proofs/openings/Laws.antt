-- How a cell begins, for the functions of `openings`: the definition read tag by tag, and at once where the tag is bare.
use Prim.Native.Nat.{ℕ}
use native.Mathlib.Omega.{arith}
use mathlib.Core.List.{List, ◌++◌}
use mathlib.Core.Path.{◌∙◌, ◌≡◌, ap, refl}
use lib.ListN.{drop}
use Rattle.table.specs.Bytes.{after, bytes, ends, is_white, skip_white}
use Rattle.tabledata.specs.TableData.{cell_text, characters, open-TD, plain}
use Rattle.tabledata_reading.specs.Openings.{OpeningIs}
use Rattle.tabledata_reading.specs.declared.openings.Opening.TheVariants.{Content, Empty}
use Rattle.text.proofs.Scan.{after_is}
use Rattle.text.specs.Clauses.{TagIs}
use Rattle.std.specs.Prelude.{None, Some}

-- ---- how a cell begins

pub cell-no-tag : {s : List ℕ} {place : ℕ} → TagIs (λ n. ends n (bytes "<TD") (drop place s)) s place None → OpeningIs s place None
unfolding cell_text open-TD ends
cell-no-tag t = record { found = rw (t.found 10); within = tt }

module _ {s : List ℕ} {place i : ℕ} (t : TagIs (λ n. ends n (bytes "<TD") (drop place s)) s place (Some i)) where
  pub cell-empty : {next : ℕ} → TagIs (λ n. ends n (bytes "/>") (drop i s)) s i (Some next) → OpeningIs s place (Some (Empty next))
  unfolding cell_text open-TD ends
  cell-empty u = record { found = rw (t.found 10, u.found 10); within = (omega (arith, t.within.0, u.within.0), u.within.1) }

  module _ (u : TagIs (λ n. ends n (bytes "/>") (drop i s)) s i None) where
    pub cell-content : {from : ℕ} → TagIs (λ n. ends n (bytes ">") (drop i s)) s i (Some from) → OpeningIs s place (Some (Content from))
    unfolding cell_text open-TD ends
    cell-content v = record { found = rw (t.found 10, u.found 10, v.found 10); within = (omega (arith, t.within.0, v.within.0), v.within.1) }

    pub cell-no-end : TagIs (λ n. ends n (bytes ">") (drop i s)) s i None → OpeningIs s place None
    unfolding cell_text open-TD ends
    cell-no-end v = record { found = rw (t.found 10, u.found 10, v.found 10); within = tt }

-- ---- the quick way: the tag is bare

bare-start : (r : List ℕ) → cell_text (bytes "<TD>" ++ r) ≡ characters plain r
unfolding cell_text after ends skip_white is_white open-TD
bare-start r = refl

pub quick-start : {s : List ℕ} {i next : ℕ} → TagIs (λ n. after n (bytes "<TD>") (drop i s)) s i (Some next) → OpeningIs s i (Some (Content next))
quick-start {s} {i} {next} t = record {
  found = ap cell_text (after_is 10 (bytes "<TD>") (drop i s) (drop next s) (t.found 10)) ∙ bare-start (drop next s);
  within = t.within;
}
