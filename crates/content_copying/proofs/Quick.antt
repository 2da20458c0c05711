-- A word that reads as an integer and has no white space is that integer in a cell's text.
use Prim.Native.Nat.{◌-◌, ℕ}
use native.Mathlib.Omega.{arith}
use mathlib.Core.List.{List, [], ◌∷◌}
use mathlib.Core.Path.{◌∙◌, ◌≡◌, ap}
use lib.IntN.{ℤ}
use lib.ListN.{drop, length-drop, take}
use lib.Seq.{length-take-le}
use Rattle.integer_reading.proofs.Spelling.{Itself, every_one, spells-to}
use Rattle.moving.specs.Contents.{InText}
use Rattle.number.specs.Clauses.{is_signed, size, width_of}
use Rattle.number.specs.declared.Integer.{Integer}
use Rattle.table.proofs.Laws.{IsWord, all-weaken, no-white}
use Rattle.table.proofs.Words.{words-one}
use Rattle.table.specs.Result.{every, good, refused_as}
use Rattle.table.specs.Shape.{Whole}
use Rattle.tabledata.specs.TableData.{fault_number, integer_word, text_elements}
use Rattle.words.specs.Clauses.{IsPlain, QuickAt}

-- the word that the quick way read
module _ {k : Integer} {s : List ℕ} {at next : ℕ} {z : ℤ} (q : QuickAt k s at z next) where
  pub quick-is-word : IsWord (take (next - at) (drop at s))
  quick-is-word = (
    omega (arith, length-take-le (next - at) (drop at s) (simp length-drop (omega (arith, q.later, q.within))), q.later),
    all-weaken IsPlain _ (take (next - at) (drop at s)) (λ b h. no-white b (omega (arith, h.0))) q.plain,
  )

  pub quick-reads : integer_word (is_signed k) (size k) (take (next - at) (drop at s)) ≡ good z
  unfolding integer_word
  quick-reads = ap (refused_as fault_number) q.reads

  pub quick-in-text : InText (Whole (is_signed k) (width_of k)) s at next (z ∷ [])
  unfolding text_elements
  quick-in-text = record {
    word = take (next - at) (drop at s);
    spells =
        spells-to s at next (omega (arith, q.later)) q.within
        (all-weaken IsPlain Itself (take (next - at) (drop at s)) (λ b h. (λ e. omega (arith, h.1), λ e. omega (arith, h.0), λ e. omega (arith, h.0))) q.plain);
    elements = ap (every (integer_word (is_signed k) (size k))) (words-one (take (next - at) (drop at s)) quick-is-word) ∙ every_one _ _ z quick-reads;
  }
