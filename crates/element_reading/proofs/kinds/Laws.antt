-- A plain part read from its first byte on is its own characters: what was taken from it is what is made of them.
use Prim.Native.Nat.{ℕ}
use mathlib.Core.List.{List, []}
use mathlib.Core.Path.{◌∙◌, ◌≡◌, ap, refl, sym}
use lib.IntN.{ℤ}
use Rattle.tabledata.specs.TableData.{text_elements}
use Rattle.element_reading.specs.Elements.{CountsElements, TakesElements, elements_from, onward}
use Rattle.character_reading.specs.declared.characters.Source.TheVariants.{Plain}
use Rattle.element_reading.specs.declared.elements.Held.{Held}
use Rattle.std.specs.Prelude.{Err, Ok, Result as Outcome}
use Rattle.table.specs.declared.Reason.{Reason}
use Rattle.table.specs.Result.{Result, ◌>>=◌, bad, good}
use Rattle.table.specs.Shape.{Shape}

abbrev whole : Result ℕ (List ℤ) → Result ℕ (List ℤ × List ℕ)
whole r = r >>= λ es. good (es, [])

part-is : (k : Shape) (part : List ℕ) → elements_from Plain k part ≡ whole (text_elements k part)
unfolding elements_from onward
part-is k part = refl

-- without what follows
abbrev firsts : Result ℕ (List ℤ × List ℕ) → Result ℕ (List ℤ)
firsts (good p) = good p.0
firsts (bad n) = bad n

firsts-whole : (r : Result ℕ (List ℤ)) → r ≡ firsts (whole r)
firsts-whole (good es) = refl
firsts-whole (bad n) = refl

part-means : (k : Shape) (part : List ℕ) {r : Result ℕ (List ℤ × List ℕ)} → elements_from Plain k part ≡ r → text_elements k part ≡ firsts r
part-means k part e = firsts-whole (text_elements k part) ∙ ap firsts (sym (part-is k part) ∙ e)

module _ (k : Shape) {part : List ℕ} {place : ℕ} {entry exit : List ℤ} where
  pub part-counted : {held : Held} → TakesElements (elements_from Plain k part) part place entry exit (Ok held) → CountsElements (text_elements k part) entry exit (Ok held.count)
  part-counted t = record {
    found = (t.found.0, part-means k part t.found.1, t.found.2);
    long = t.long;
  }

  pub part-refused : {e : Reason} {r : Outcome ℕ Reason} → r ≡ Err e → TakesElements (elements_from Plain k part) part place entry exit (Err e)
      → CountsElements (text_elements k part) entry exit r
  part-refused q t = rw q (record { found = part-means k part t.found; long = t.long })
