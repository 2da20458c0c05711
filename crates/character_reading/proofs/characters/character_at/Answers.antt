-- `character_reading::characters::character_at` meets its contract: the byte at the place decides, and where it is one of markup's, the source.
use native.Mathlib.Omega.{arith}
use Rattle.character_reading.proofs.characters.Laws.{item_from, itself, plain_end, text-end, text-reference, text-return, text-tag}
use Rattle.character_reading.proofs.characters.character_at.Goals as goal
use Rattle.character_reading.proofs.characters.character_at.Goals.{in_default-via-in-Markup+in_default-1, in_default-via-in-Plain-1}

pub returns-in-Markup : goal.returns-in-Markup
returns-in-Markup c = rw c.in-Markup.is (record { found = text-end _ _ c.if-s-at.true; within = tt })

pub returns-in-Plain : goal.returns-in-Plain
returns-in-Plain c = rw c.in-Plain.is (plain_end c.args.s.now c.args.at c.requires c.if-s-at.true)

pub returns-in-Markup-eq60 : goal.returns-in-Markup-eq60
returns-in-Markup-eq60 c =
    rw c.in-Markup-eq60.is-0
    (item_from _ (omega arith) (text-tag c.args.s.now c.args.at (omega arith) c.in-Markup-eq60.is-1) c.end_tag.ensures)

pub returns-in-Markup-eq38 : goal.returns-in-Markup-eq38
returns-in-Markup-eq38 c =
    rw c.in-Markup-eq38.is-0
    (item_from _ (omega arith) (text-reference c.args.s.now c.args.at (omega arith) (λ e. omega (arith, e, c.in-Markup-eq38.is-1)) c.in-Markup-eq38.is-1) c.refer.ensures)

pub returns-in-Markup-eq13 : goal.returns-in-Markup-eq13
returns-in-Markup-eq13 c =
    rw c.in-Markup-eq13.is-0
    (item_from _ (omega arith) (text-return c.args.s.now c.args.at (omega arith) c.in-Markup-eq13.is-1) c.line_end.ensures)

pub returns-in_default : goal.returns-in_default
returns-in_default c =
    let a = c.args in
    record {
      found =
          itself a.s.now a.at a.source (omega arith) (λ m. elim c.in_default-1.branch [
            | in_default-via-in-Markup+in_default-1 v ↦ (λ e. grind (arith, e), λ e. grind (arith, e), λ e. grind (arith, e))
            | in_default-via-in-Plain-1 v ↦ absurd (grind (arith, m))
          ]);
      within = (omega arith, omega arith);
    }
